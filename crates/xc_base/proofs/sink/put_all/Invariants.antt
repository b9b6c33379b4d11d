use Rattle.std.proofs.Common.{◌≡◌, ◌≤◌, ◌-◌, ◌++◌, length, take}
use Rattle.std.specs.Option.{option_map}
use Rattle.xc_base.specs.Sinks.{IsCalm}
use Rattle.xc_base.proofs.sink.put_all.Given as goal

abbrev pub invariant-loop-taken : goal.invariant-loop-taken
invariant-loop-taken g l = record {
  within : l.taken ≤ length l.bytes;
  written : (g.W.Sink.seen l.sink).bytes ≡ option_map (λ bytes. bytes ++ take l.taken l.bytes) (g.W.Sink.seen l.fn.sink).bytes;
  calm : IsCalm (g.W.Sink.seen l.fn.sink) (g.W.Sink.seen l.sink);
}

abbrev pub decreases-loop-taken : goal.decreases-loop-taken
decreases-loop-taken g l = length l.initial.bytes - l.taken

use Rattle.std.proofs.Common.{◌≡◌, ◌++◌, map, drop}
use Rattle.xc_base.specs.Lines.{texts}
use Rattle.xc_sigmap_lines.specs.MapFiles.{pair_tokens}
use Rattle.xc_sigmap_text.specs.Printing.{paired}
use Rattle.xc_sigmap_text.proofs.lines.push_pairs.Given as goal

abbrev pub invariant-loop-pair : goal.invariant-loop-pair
invariant-loop-pair l = texts l.tokens ++ pair_tokens (map (paired l.values) (drop l.pair-index l.pairs)) ≡ texts l.fn.tokens ++ pair_tokens (map (paired l.values) l.pairs)

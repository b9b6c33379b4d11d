use Rattle.std.proofs.Common.{refl, arith}
use Rattle.xc_merged.specs.Gathered.{merged_of}
use Rattle.xc_machine.proofs.Descending.{found_none, found_more, found_below}
use Rattle.xc_machine.proofs.initials.find_initials.Goals as goal

pub loop-first-init : goal.loop-first-init
loop-first-init c = record { within = omega arith; found = found_none (merged_of c.args.merged.now) (record { count = 0; states = c.new.result }) refl c.new.ensures }

pub add-requires-clause-count : goal.add-requires-clause-count
add-requires-clause-count c =
    omega (arith, found_below (merged_of c.args.merged.now) c.loop-first.first c.loop-first.found c.loop-first.invariant.found, c.block_at-block.ensures.within, c.states-states.ensures.states, c.states-states.ensures.few)

pub loop-first-preserved : goal.loop-first-preserved
loop-first-preserved c =
    record {
      within = c.block_at-block.ensures.within;
      found =
          found_more (merged_of c.args.merged.now) c.loop-first.first c.block_at-block.result c.loop-first.found c.add.new.self c.block_at-block.ensures c.loop-first.invariant.found
          c.in_ok-add.ensures.count c.in_ok-add.ensures.states;
    }

use Rattle.std.proofs.Common.{◌≡◌, drop}
use Rattle.xc_merge.specs.Finding.{pair_names}
use Rattle.xc_merge.proofs.words.look_for_pairs.Given as goal

abbrev pub invariant-loop-pair : goal.invariant-loop-pair
invariant-loop-pair l = pair_names l.viewpoint l.values (drop l.pair-index l.pairs) ≡ pair_names l.viewpoint l.values l.pairs

use Rattle.std.proofs.Common.{◌≡◌, ◌<◌, map}
use Rattle.xc_alg.specs.Bounds.{joined}
use Rattle.xc_alg.specs.Products.{product}
use Rattle.xc_base.specs.Names.{place_of}
use Rattle.xc_lattice.specs.Values.{value_of as lattice_of}
use Rattle.xc_merged.specs.Elements.{stutters_from}
use Rattle.xc_merged.proofs.stuttering.stutter_of.Given as goal

abbrev pub invariant-loop-i : goal.invariant-loop-i
invariant-loop-i g l = record {
  below : l.sum < (product (g.A.Algebra.parts l.algebra)).size;
  sum : l.sum ≡ joined (product (g.A.Algebra.parts l.algebra)) (map (place_of (lattice_of l.lattice).names) (stutters_from l.number l.lines l.i));
}

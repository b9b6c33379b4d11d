-- The lattices of files: their laws, their heights and their sizes.
use Rattle.std.proofs.Common.{◌≡◌, ℕ, zero, suc, ◌<◌, ◌≤◌, false, List, [], ◌∷◌, ◌++◌, length, map, refl, ap, arith}
use Rattle.std.specs.List.{slice_index_or}
use Rattle.xc_theory.specs.Codes.{total}
use Rattle.xc_theory.specs.Lattices.{size, IsLawful}
use Rattle.xc_theory.specs.Chains.{IsHeight}
use Rattle.xc_alg.specs.Products.{product, sizes, AreLawful}
use Rattle.xc_base.specs.Formats.{Row}
use Rattle.xc_base.specs.Names.{has_twice}
use Rattle.xc_lattice.specs.LatticeFiles.{LatticeValue, Lawful, IsVerdict}
use Rattle.xc_lattice.specs.Drafts.{IsReady}
use Rattle.xc_lattice.proofs.Drafts.{IsDraft-from_whole}
use Rattle.xc_lattice.proofs.Said.{IsReady-from_Says}
use Rattle.xc_laws.proofs.Lawful.{lawful_from_no_break}
use Rattle.xc_product.specs.Heights.{AreHeights}
use Rattle.xc_product.proofs.SomeHeights as heights
use Rattle.xc_merge.specs.Merges.{Merge, Viewpoint, nobody, parts_of, names_of_parts}
use Rattle.xc_ctl.specs.Trees.{sizes_of}

-- a lawful lattice of 2 to 64 elements, each with a name of its own
pub record IsNamed (l : LatticeValue) : Type 0 where
  pub lawful : IsLawful l.algebra
  pub named : length l.names ≡ size l.algebra
  pub different : has_twice l.names ≡ false
  pub some : 2 ≤ size l.algebra
  pub few : size l.algebra ≤ 64

abbrev pub AreNamed : List Viewpoint → Type 0
AreNamed [] = Unit {0}
AreNamed (p ∷ more) = IsNamed p.lattice × AreNamed more

pub named_more : (found : List Viewpoint) (p : Viewpoint) → AreNamed found → IsNamed p.lattice → AreNamed (found ++ p ∷ [])
named_more [] p are is = (is, tt)
named_more (q ∷ found) p are is = (are.0, named_more found p are.1 is)

pub named_at : (found : List Viewpoint) (v : ℕ) → AreNamed found → v < length found → IsNamed (slice_index_or found v nobody).lattice
named_at [] v are low = absurd (omega arith)
named_at (p ∷ found) zero are low = are.0
named_at (p ∷ found) (suc v) are low = named_at found v are.1 (omega arith)

-- the lattice of a file is one
pub file_is_named : (rows : List Row) (l : LatticeValue) → IsVerdict rows (Lawful l) → IsNamed l
file_is_named rows l is =
    let ready : IsReady l = IsReady-from_Says is.accepted.statements (IsDraft-from_whole rows is.accepted.statements is.accepted.read is.accepted.whole) l is.accepted.says in record {
      lawful = lawful_from_no_break l.algebra ready.shape ready.reflexive ready.transitive is.unbroken;
      named = ready.named;
      different = ready.different;
      some = ready.some;
      few = ready.few;
    }

-- it has a height
pub lattice_height : (l : LatticeValue) → IsNamed l → (h : ℕ) × IsHeight l.algebra.order h
lattice_height l is = heights.lattice_height l.algebra is.lawful is.some

-- the product of those of viewpoints is of lawful parts
lawful_of : (found : List Viewpoint) → AreNamed found → AreLawful (map (λ (p : Viewpoint). p.lattice.algebra) found)
lawful_of [] are = tt
lawful_of (p ∷ found) are = (are.0.lawful, are.0.some, lawful_of found are.1)

pub parts_are_lawful : (m : Merge) → AreNamed m.viewpoints → AreLawful (parts_of m)
parts_are_lawful m are = lawful_of m.viewpoints are

-- which have heights
pub some_heights : (m : Merge) → AreNamed m.viewpoints → (heights : List ℕ) × AreHeights (parts_of m) heights
some_heights m are = heights.parts_have_heights (parts_of m) (parts_are_lawful m are)

-- it has as many elements as there are rows of names
sizes_same : (found : List Viewpoint) → AreNamed found → sizes_of (map (λ (p : Viewpoint). p.lattice.names) found) ≡ sizes (map (λ (p : Viewpoint). p.lattice.algebra) found)
sizes_same [] are = refl
sizes_same (p ∷ found) are =
    let first : length p.lattice.names ≡ size p.lattice.algebra = are.0.named in
    let more = sizes_same found are.1 in
    rw (first, more) refl

pub names_as_many : (m : Merge) → AreNamed m.viewpoints → total (sizes_of (names_of_parts m)) ≡ (product (parts_of m)).size
unfolding product
names_as_many m are = ap total (sizes_same m.viewpoints are)

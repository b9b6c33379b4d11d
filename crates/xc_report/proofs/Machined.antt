-- What the merged machine of the code has, in the words of these proofs.
use Rattle.std.proofs.Common.{◌≡◌, ℕ, suc, ◌<◌, ◌≤◌, List, [], ◌∷◌, length, get_or, sym, ◌∙◌, ap, arith}
use Rattle.std.proofs.lemmas.List.{length-map}
use Rattle.xc_theory.specs.Codes.{total}
use Rattle.xc_alg.specs.Products.{product, sizes}
use Rattle.xc_merge.specs.Merges.{Merge, Viewpoint, nobody, viewpoint_at, parts_of}
use Rattle.xc_merged.specs.Tabled.{IsGood as IsFit}
use Rattle.xc_product.specs.Products.{parts_of as parts_in}
use Rattle.xc_product.specs.declared.product.Product.{Product}
use Rattle.xc_report.proofs.Lattices.{AreNamed}

-- its lattices are lawful and small, with different names
all_named : (found : List Viewpoint) → ((v : ℕ) → v < length found → IsFit (get_or found v nobody).lattice) → AreNamed found
all_named [] are = tt
all_named (p ∷ found) are =
    let here = are 0 (omega arith) in
    (record { lawful = here.lawful; named = here.named; different = here.different; some = here.some; few = here.few }, all_named found (λ v low. are (suc v) (omega arith)))

pub are_named : (m : Merge) → ((v : ℕ) → v < length m.viewpoints → IsFit (viewpoint_at m v).lattice) → AreNamed m.viewpoints
are_named m are = all_named m.viewpoints are

-- a product of its lattices has as many parts as there are viewpoints, and as many elements
pub viewpoint_count : (m : Merge) (p : Product) (n : ℕ) → parts_in p ≡ parts_of m → n ≡ length (parts_in p) → n ≡ length m.viewpoints
viewpoint_count m p n same count = count ∙ ap length same ∙ length-map m.viewpoints (λ (v : Viewpoint). v.lattice.algebra)

pub elements_few : (m : Merge) (p : Product) → parts_in p ≡ parts_of m → (product (parts_in p)).size ≤ 4096 → total (sizes (parts_of m)) ≤ 4096
unfolding product
elements_few m p same few = rw (sym same) few

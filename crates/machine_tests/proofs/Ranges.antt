-- The formulas of a text are in range for the machine whose propositions and elements they are read over.
use Rattle.std.proofs.Common.{◌≡◌, ℕ, true, List, length, ◌∙◌, ap, subst}
use Rattle.std.specs.List.{list_all}
use Rattle.xc_theory.specs.Codes.{total}
use Rattle.xc_alg.specs.Products.{product}
use Rattle.xc_ctl.specs.Tables.{is_table_in}
use Rattle.xc_ctl.specs.Trees.{sizes_of}
use Rattle.xc_ctl.specs.declared.kind.Kind.{Kind}
use Rattle.xc_merge.specs.Merges.{Merge, parts_of, names_of_parts}

-- the same numbers of elements and of propositions, by other words
pub within_machine : (m : Merge) (parts : List (List (List ℕ))) (props : List (List ℕ)) (tables : List (List Kind)) → parts ≡ names_of_parts m → props ≡ m.plan.props → total (sizes_of (names_of_parts m)) ≡ (product (parts_of m)).size
    → list_all (is_table_in (total (sizes_of parts)) (length props)) tables ≡ true → list_all (is_table_in (product (parts_of m)).size (length m.plan.props)) tables ≡ true
within_machine m parts props tables same are many h =
    subst (λ (size : ℕ). list_all (is_table_in size (length m.plan.props)) tables ≡ true) (ap (λ (ps : List (List (List ℕ))). total (sizes_of ps)) same ∙ many)
    (subst (λ (ps : List (List ℕ)). list_all (is_table_in (total (sizes_of parts)) (length ps)) tables ≡ true) are h)

-- What a look-up in a table finds, as one of some type.
use Rattle.std.proofs.Common.{◌≡◌, List, ℕ, Option, Some, None, option_map, ap, Bor, String, BTreeMap, Global, string_bytes, nat_cmp}
use Rattle.std.specs.Cmp.Lexicographic.{slice_cmp}
use Rattle.std.specs.Map.{lookup}
use Rattle.std.specs.BTreeMap.{is_at}
use Rattle.toml.specs.Data.{Data, get_member}
use Rattle.toml.specs.View.{view, table_view}
use Rattle.toml.specs.declared.value.Value.{Value}
use Rattle.toml.proofs.Views.{table_get}

-- a value that is found, and is of that type
pub read_there : {A : Type 0} (as_type : Data → Option A) (r : Option (Bor Value)) (k : List ℕ) (t : BTreeMap (String Global) Value) (v : Bor Value) (a : A)
    → option_map (λ x. x.now) r ≡ lookup (is_at (λ x. slice_cmp nat_cmp k (string_bytes x))) t.entries → r ≡ Some v → as_type (view v.now) ≡ Some a
    → option_map as_type (get_member k (table_view t)) ≡ Some (Some a)
read_there as_type r k t v a found is said =
    let seen = table_get r k t.entries found in
    rw (← rw is at seen) (ap Some said)

-- no value is found
pub read_absent : {A : Type 0} (as_type : Data → Option A) (r : Option (Bor Value)) (k : List ℕ) (t : BTreeMap (String Global) Value)
    → option_map (λ x. x.now) r ≡ lookup (is_at (λ x. slice_cmp nat_cmp k (string_bytes x))) t.entries → r ≡ None
    → option_map as_type (get_member k (table_view t)) ≡ None
read_absent as_type r k t found is =
    let seen = table_get r k t.entries found in
    rw (← rw is at seen)

-- Faultless statements, one after another, are fair.
use Rattle.std.proofs.Common.{◌≡◌, ℕ, ◌<◌, true, false, ◌&&◌, ◌||◌, not, nat_lt, nat_le, List, [], ◌∷◌, ◌++◌, length, Some, None, refl, sym, ◌∙◌, ap, subst, arith}
use Rattle.std.specs.List.{list_all, list_any}
use Rattle.std.specs.Option.{is_none, is_some}
use Rattle.std.proofs.lemmas.Bool.{and_parts, and_from, or_parts, ltb-true, not_from_false, not-true, le-leb}
use Rattle.std.proofs.lemmas.List.Elements.{filter_map-append}
use Rattle.xc_base.specs.Names.{is_among}
use Rattle.xc_base.specs.Words.{is_name}
use Rattle.xc_base.specs.Formats.{IsFaultless}
use Rattle.xc_forms.specs.Variables.{sizes_of, are_fit}
use Rattle.xc_forms.specs.VariableNames.{is_variable_name, is_value_name}
use Rattle.xc_forms.specs.VariableLines.{is_var_again, var_excess}
use Rattle.xc_forms.specs.declared.domain.Domain.{Domain}
use Rattle.xc_forms.proofs.FaultlessLines.{all_push, below_limit, same_declared, few_new, sized_new}
use Rattle.xc_forms.proofs.ByKind.{once_named}
use Rattle.xc_forms.proofs.Sizes.{fit_from_sized}
use Rattle.xc_expr.specs.Resolving.{resolved, resolved_action, sets_twice}
use Rattle.xc_expr.specs.Written.{Written, Sum, IsGuard, has_names, depth_limit}
use Rattle.xc_expr_text.specs.Writable.{has_fit_names, depth_of}
use Rattle.xc_expr_text.proofs.GuardPrints.{spelled_deep, spelled_names}
use Rattle.xc_view.specs.ViewFiles.{name_in, lattice_in, var_in, vars_of, prop_name, prop_names, command_name, command_names, is_due, is_behind_vars, is_repeated, is_unknown, line_limit, excess_of, view_format}
use Rattle.xc_view_lines.specs.ViewLines.{Statement, View, Lattice, Var, Init, Prop, Command, IsStated}
use Rattle.xc_view_lines.specs.ViewLines.IsStated.{view, lattice, var, init, prop, command}
use Rattle.xc_view.specs.Drafts.{begins, is_named, is_guard_written, is_written, is_known, IsFair}
use Rattle.xc_view.proofs.EachKind.{var_case, prop_named, command_named}

-- one statement more, and what it declares
pub vars_append : (ss ts : List Statement) → vars_of (ss ++ ts) ≡ vars_of ss ++ vars_of ts
vars_append ss ts = filter_map-append var_in ss ts

-- the beginning stays right
begins_push : (ss : List Statement) (s : Statement) → begins ss ≡ true → is_due ss s ≡ true → begins (ss ++ s ∷ []) ≡ true
begins_push [] s b h = h
begins_push (r ∷ []) s b h = and_from (is_some (name_in r)) (is_some (lattice_in s)) b h
begins_push (r ∷ t ∷ more) s b h = b

-- a stated statement has its names
named_from : {tokens : List (List ℕ)} {s : Statement} (before : List Statement) → IsStated tokens s → is_repeated before s ≡ false → is_named s ≡ true
named_from before (view name h) r = h
named_from before (lattice file h) r = h
named_from before (var d h) r =
    let parts = and_parts (is_variable_name d.name) (nat_lt 0 (length d.values) && list_all is_value_name d.values) h in
    and_from (is_variable_name d.name) (list_all is_value_name d.values) parts.0 (and_parts (nat_lt 0 (length d.values)) (list_all is_value_name d.values) parts.1).1
named_from before (init tokens guard g) r = refl
named_from before (prop name value tokens guard n v g) r = and_from (is_name name) (is_name value) n v
named_from before (command name value tokens more guard action n v g a) r =
    and_from (is_name name && is_name value) (not (sets_twice action)) (and_from (is_name name) (is_name value) n v)
    (not_from_false (sets_twice action) (or_parts (is_among (command_names before) name) (sets_twice action) r).1)

-- and is written with fit names
guard_from : (tokens : List (List ℕ)) (guard : Written) → IsGuard tokens guard → is_guard_written guard ≡ true
guard_from tokens guard g = and_from (has_fit_names guard) (nat_le (depth_of guard) depth_limit) (spelled_names Sum depth_limit tokens guard g) (le-leb (depth_of guard) depth_limit (spelled_deep Sum depth_limit tokens guard g))

written_from : {tokens : List (List ℕ)} {s : Statement} → IsStated tokens s → is_written s ≡ true
written_from (view name h) = refl
written_from (lattice file h) = refl
written_from (var domain h) = refl
written_from (init tokens guard g) = guard_from tokens guard g
written_from (prop name value tokens guard n v g) = guard_from tokens guard g
written_from (command name value tokens more guard action n v g a) = and_from (is_guard_written guard) (list_all has_names action) (guard_from tokens guard g) a.named

-- what a statement declares or names is new, and within its limit
module _ (ss : List Statement) (s : Statement) (first : is_repeated ss s ≡ false) (few : excess_of ss s ≡ None) where
  abbrev IsNew : Statement → Type 0
  IsNew t = (is_repeated ss t ≡ false) × (excess_of ss t ≡ None)

  new_var : (d : Domain) → var_in s ≡ Some d → (is_var_again (vars_of ss) d ≡ false) × (var_excess (sizes_of (vars_of ss)) (length d.values) ≡ None)
  new_var d e = var_case (λ t x. IsNew t → (is_var_again (vars_of ss) x ≡ false) × (var_excess (sizes_of (vars_of ss)) (length x.values) ≡ None)) (λ x h. h) s d e (first, few)

  few_props : (name : List ℕ) → prop_name s ≡ Some name → length (prop_names ss) < line_limit
  few_props name e = prop_named (λ t x. IsNew t → length (prop_names ss) < line_limit) (λ x value guard h. below_limit line_limit (length (prop_names ss)) _ h.1) s name e (first, few)

  few_commands : (name : List ℕ) → command_name s ≡ Some name → length (command_names ss) < line_limit
  few_commands name e = command_named (λ t x. IsNew t → length (command_names ss) < line_limit) (λ x value guard action h. below_limit line_limit (length (command_names ss)) _ h.1) s name e (first, few)

  new_command : (name : List ℕ) → command_name s ≡ Some name → is_among (command_names ss) name ≡ false
  new_command name e =
      command_named (λ t x. IsNew t → is_among (command_names ss) x ≡ false) (λ x value guard action h. (or_parts (is_among (command_names ss) x) (sets_twice action) h.0).0) s name e (first, few)

-- where no statement has a guard all names are known, whatever the variables
none_unknown : (vars : List Domain) (ss : List Statement) → list_any is_behind_vars ss ≡ false → list_all (is_known vars) ss ≡ true
none_unknown vars [] h = refl
none_unknown vars (View name ∷ ss) h = none_unknown vars ss h
none_unknown vars (Lattice file ∷ ss) h = none_unknown vars ss h
none_unknown vars (Var domain ∷ ss) h = none_unknown vars ss h
none_unknown vars (Init guard ∷ ss) h = cc
none_unknown vars (Prop name value guard ∷ ss) h = cc
none_unknown vars (Command name value guard action ∷ ss) h = cc

-- no statement with a guard stands before a variable
var_is_due : (ss : List Statement) (domain : Domain) → is_due ss (Var domain) ≡ true → list_any is_behind_vars ss ≡ false
var_is_due [] domain h = cc
var_is_due (r ∷ []) domain h = cc
var_is_due (r ∷ t ∷ more) domain h = not-true (list_any is_behind_vars (r ∷ t ∷ more)) h

-- a statement that is no variable leaves the variables as they are
same_known : (ss : List Statement) (s : Statement) → var_in s ≡ None → list_all (is_known (vars_of ss)) ss ≡ true → is_known (vars_of ss) s ≡ true → list_all (is_known (vars_of (ss ++ s ∷ []))) (ss ++ s ∷ []) ≡ true
same_known ss s e a h =
    subst (λ (vars : List Domain). list_all (is_known vars) (ss ++ s ∷ []) ≡ true) (sym (same_declared var_in ss s e)) (all_push (is_known (vars_of ss)) ss s a h)

-- names stay known to the last
known_new : (ss : List Statement) (s : Statement) → is_due ss s ≡ true → is_unknown ss s ≡ false → list_all (is_known (vars_of ss)) ss ≡ true → list_all (is_known (vars_of (ss ++ s ∷ []))) (ss ++ s ∷ []) ≡ true
known_new ss (View name) due u a = same_known ss (View name) refl a refl
known_new ss (Lattice file) due u a = same_known ss (Lattice file) refl a refl
known_new ss (Var domain) due u a =
    let all : List Domain = vars_of (ss ++ Var domain ∷ []) in
    all_push (is_known all) ss (Var domain) (none_unknown all ss (var_is_due ss domain due)) refl
known_new ss (Init guard) due u a = same_known ss (Init guard) refl a (not_from_false (is_none (resolved (vars_of ss) guard)) u)
known_new ss (Prop name value guard) due u a = same_known ss (Prop name value guard) refl a (not_from_false (is_none (resolved (vars_of ss) guard)) u)
known_new ss (Command name value guard action) due u a =
    same_known ss (Command name value guard action) refl a
    (not_from_false (is_none (resolved (vars_of ss) guard) || is_none (resolved_action (vars_of ss) action)) u)

-- a faultless statement behind fair ones
pub next_is_fair : (ss : List Statement) (tokens : List (List ℕ)) (s : Statement) → IsFair ss → IsFaultless view_format ss tokens s → IsFair (ss ++ s ∷ [])
next_is_fair ss tokens s h k =
    record {
      starts = begins_push ss s h.starts k.due.placed;
      named = all_push is_named ss s h.named (named_from ss k.due.stated k.first);
      written = all_push is_written ss s h.written (written_from k.due.stated);
      sized = sized_new var_in ss s h.sized (new_var ss s k.first k.few);
      known = known_new ss s k.due.placed k.known h.known;
      props = few_new prop_name line_limit ss s h.props (few_props ss s k.first k.few);
      commands = few_new command_name line_limit ss s h.commands (few_commands ss s k.first k.few);
      once = once_named command_name ss s h.once (new_command ss s k.first k.few);
    }

-- no statement at all
pub none_is_fair : IsFair []
none_is_fair = record { starts = refl; named = refl; written = refl; sized = record { different = refl; domains = refl; states = omega arith }; known = refl; props = omega arith; commands = omega arith; once = refl }

-- where a statement with a guard is due the variables are fit
some_vars : (ss : List Statement) (s : Statement) → is_behind_vars s ≡ true → is_due ss s ≡ true → 0 < length (vars_of ss)
some_vars [] (Init guard) b h = cc
some_vars [] (Prop name value guard) b h = cc
some_vars [] (Command name value guard action) b h = cc
some_vars (r ∷ []) (Init guard) b h = cc
some_vars (r ∷ []) (Prop name value guard) b h = cc
some_vars (r ∷ []) (Command name value guard action) b h = cc
some_vars (r ∷ t ∷ more) (Init guard) b h = ltb-true 0 (length (vars_of (r ∷ t ∷ more))) h
some_vars (r ∷ t ∷ more) (Prop name value guard) b h = ltb-true 0 (length (vars_of (r ∷ t ∷ more))) h
some_vars (r ∷ t ∷ more) (Command name value guard action) b h = ltb-true 0 (length (vars_of (r ∷ t ∷ more))) h
some_vars ss (View name) b h = cc
some_vars ss (Lattice file) b h = cc
some_vars ss (Var domain) b h = cc

-- so a guard that is due has fit variables
pub fit_late : (vars : List Domain) (ss : List Statement) (s : Statement) → vars ≡ vars_of ss → IsFair ss → is_behind_vars s ≡ true → is_due ss s ≡ true → are_fit vars ≡ true
fit_late vars ss s e h b due = ap are_fit e ∙ fit_from_sized (vars_of ss) h.sized (some_vars ss s b due)

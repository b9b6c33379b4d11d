-- What fair statements of a whole file say is sound.
use Rattle.std.proofs.Common.{◌≡◌, ℕ, ◌<◌, ◌≤◌, Bool, true, false, ◌&&◌, not, if◌then◌else◌, nat_lt, List, [], ◌∷◌, map, length, Option, Some, None, unwrap_or, refl, sym, ◌∙◌, ap, subst, arith}
use Rattle.std.specs.List.{list_all, list_any, filter_map}
use Rattle.std.specs.Option.{is_some, option_map}
use Rattle.std.proofs.lemmas.List.{length-map}
use Rattle.std.proofs.lemmas.Bool.{and_parts, and_from, not-true, not_from_false, ltb-true, le-leb}
use Rattle.xc_base.specs.Names.{has_twice}
use Rattle.xc_base.specs.Words.{is_name, is_file_word}
use Rattle.xc_base.specs.declared.fault.Part.{Part}
use Rattle.xc_base.specs.declared.fault.Part.TheVariants as parts
use Rattle.xc_forms.specs.Variables.{are_fit}
use Rattle.xc_expr.specs.Tests as tests
use Rattle.xc_expr.specs.Tests.{is_in_range}
use Rattle.xc_expr.specs.Actions.{is_action_in_range}
use Rattle.xc_expr.specs.Written.{Written, Assigned}
use Rattle.xc_forms.specs.ByKind.{first_of}
use Rattle.xc_forms.specs.VariableLines.{is_named_var}
use Rattle.xc_forms.proofs.ByKind.{all_in, first_in, first_is, first_holds, part_in}
use Rattle.xc_forms.proofs.Sizes.{fit_from_sized}
use Rattle.xc_expr.specs.Resolving.{resolved, resolved_action, sets_twice}
use Rattle.xc_forms.specs.declared.domain.Domain.{Domain}
use Rattle.xc_expr.specs.declared.assign.Assign.{Assign}
use Rattle.xc_view.specs.ViewFiles.{PropValue, CommandValue, ViewValue, name_in, lattice_in, var_in, vars_of, is_init, init_in, prop_in, command_in, prop_name, prop_names, command_name, command_names, line_limit, missing_part, test_in, assigns_in, view_of}
use Rattle.xc_view_lines.specs.ViewLines.{Statement, View, Lattice, Var, Init, Prop, Command}
use Rattle.xc_view.specs.Parts.{is_prop_in, is_command_in, is_sound}
use Rattle.xc_view.specs.Drafts.{begins, is_named, IsFair}
use Rattle.xc_view.proofs.EachKind.{name_case, lattice_case, var_case, init_case, prop_case, command_case, command_of}
use Rattle.xc_view.proofs.Gathering.{lattice_is}
use Rattle.xc_view_lines.proofs.Expressions.{guards_in_range, actions_in_range}

-- an option with a value is not empty
some_is_not : {X : Type 0} (x : X) → Some x ≡ None → ⊥
some_is_not x e = cc

-- guards and actions are in range, their names known or not
test_in_range : (vars : List Domain) (guard : Written) → are_fit vars ≡ true → is_in_range vars (test_in vars guard) ≡ true
test_in_range vars guard fit = by_test (resolved vars guard) refl
  where
    by_test : (o : Option tests.Test) → resolved vars guard ≡ o → is_in_range vars (unwrap_or o tests.False) ≡ true
    by_test None e = refl
    by_test (Some test) e = guards_in_range vars guard test fit e

-- actions likewise
assigns_in_range : (vars : List Domain) (action : List Assigned) → are_fit vars ≡ true → sets_twice action ≡ false → is_action_in_range vars (assigns_in vars action) ≡ true
assigns_in_range vars action fit once = by_action (resolved_action vars action) refl
  where
    by_action : (o : Option (List Assign)) → resolved_action vars action ≡ o → is_action_in_range vars (unwrap_or o []) ≡ true
    by_action None e = refl
    by_action (Some assigns) e = actions_in_range vars action assigns fit once e

-- the guard of the initial states is in range
init_in_range : (vars : List Domain) (ss : List Statement) → are_fit vars ≡ true → list_all is_named ss ≡ true → is_in_range vars (first_of (init_in vars) tests.False ss) ≡ true
init_in_range vars ss fit h =
    first_in (init_in vars) is_named (is_in_range vars) (init_case vars (λ s t. is_named s ≡ true → is_in_range vars t ≡ true) (λ guard n. test_in_range vars guard fit)) tests.False ss refl h

-- and so are the lines of propositions, and the commands
module _ (v : ViewValue) (fit : are_fit v.vars ≡ true) where
  props_in : (ss : List Statement) → list_all is_named ss ≡ true → list_all (is_prop_in v) (filter_map (prop_in v.vars) ss) ≡ true
  props_in =
      all_in (prop_in v.vars) is_named (is_prop_in v)
      (prop_case v.vars (λ s l. is_named s ≡ true → is_prop_in v l ≡ true) (λ name value guard n. and_from (is_name name && is_name value) (is_in_range v.vars (test_in v.vars guard)) n (test_in_range v.vars guard fit)))

  command_is : (name value : List ℕ) (guard : Written) (action : List Assigned) → is_named (Command name value guard action) ≡ true → is_command_in v (command_of v.vars name value guard action) ≡ true
  command_is name value guard action h =
      let words = and_parts (is_name name && is_name value) (not (sets_twice action)) h in
      and_from _ _ (and_from _ _ words.0 (test_in_range v.vars guard fit)) (assigns_in_range v.vars action fit (not-true (sets_twice action) words.1))

  commands_in : (ss : List Statement) → list_all is_named ss ≡ true → list_all (is_command_in v) (filter_map (command_in v.vars) ss) ≡ true
  commands_in = all_in (command_in v.vars) is_named (is_command_in v) (command_case v.vars (λ s c. is_named s ≡ true → is_command_in v c ≡ true) command_is)

-- the names of the lines of propositions, and those of the commands
prop_part : (vars : List Domain) (s : Statement) → option_map (λ (l : PropValue). l.name) (prop_in vars s) ≡ prop_name s
prop_part vars (View name) = refl
prop_part vars (Lattice file) = refl
prop_part vars (Var domain) = refl
prop_part vars (Init guard) = refl
prop_part vars (Prop name value guard) = refl
prop_part vars (Command name value guard action) = refl

command_part : (vars : List Domain) (s : Statement) → option_map (λ (c : CommandValue). c.name) (command_in vars s) ≡ command_name s
command_part vars (View name) = refl
command_part vars (Lattice file) = refl
command_part vars (Var domain) = refl
command_part vars (Init guard) = refl
command_part vars (Prop name value guard) = refl
command_part vars (Command name value guard action) = refl

commands_named : (vars : List Domain) (ss : List Statement) → map (λ (c : CommandValue). c.name) (filter_map (command_in vars) ss) ≡ command_names ss
commands_named vars = part_in (command_in vars) (λ (c : CommandValue). c.name) command_name (command_part vars)

-- and how many there are
props_counted : (vars : List Domain) (ss : List Statement) → length (filter_map (prop_in vars) ss) ≡ length (prop_names ss)
props_counted vars ss = sym (length-map (filter_map (prop_in vars) ss) (λ (l : PropValue). l.name)) ∙ ap length (part_in (prop_in vars) (λ (l : PropValue). l.name) prop_name (prop_part vars) ss)

commands_counted : (vars : List Domain) (ss : List Statement) → length (filter_map (command_in vars) ss) ≡ length (command_names ss)
commands_counted vars ss = sym (length-map (filter_map (command_in vars) ss) (λ (c : CommandValue). c.name)) ∙ ap length (commands_named vars ss)

-- the variables' names
vars_named : (ss : List Statement) → list_all is_named ss ≡ true → list_all is_named_var (vars_of ss) ≡ true
vars_named = all_in var_in is_named is_named_var (var_case (λ s d. is_named s ≡ true → is_named_var d ≡ true) (λ d n. n))

-- what whole files have
pub two_there : (ss : List Statement) → missing_part ss ≡ None → 2 ≤ length ss
two_there [] h = absurd (some_is_not parts.Head h)
two_there (s ∷ []) h = absurd (some_is_not parts.Lattice h)
two_there (s ∷ t ∷ more) h = omega arith

-- a whole file has a variable
pub var_there : (ss : List Statement) → missing_part ss ≡ None → 0 < length (vars_of ss)
var_there [] h = absurd (some_is_not parts.Head h)
var_there (s ∷ []) h = absurd (some_is_not parts.Lattice h)
var_there (s ∷ t ∷ more) h = within (nat_lt 0 (length (vars_of (s ∷ t ∷ more)))) (if not (list_any is_init (s ∷ t ∷ more)) then Some parts.Init else None) refl h
  where
    within : (b : Bool) (rest : Option Part) → nat_lt 0 (length (vars_of (s ∷ t ∷ more))) ≡ b → (if not b then Some parts.Var else rest) ≡ None → 0 < length (vars_of (s ∷ t ∷ more))
    within true rest e k = ltb-true 0 (length (vars_of (s ∷ t ∷ more))) e
    within false rest e k = absurd (some_is_not parts.Var k)

-- the first statement has a name, and the second a file word
head_named : (ss : List Statement) → 2 ≤ length ss → begins ss ≡ true → list_all is_named ss ≡ true → is_name (first_of name_in [] ss) ≡ true
head_named [] two b h = absurd (omega arith)
head_named (s ∷ []) two b h = absurd (omega arith)
head_named (s ∷ t ∷ more) two b h =
    let kind = (and_parts (is_some (name_in s)) (is_some (lattice_in t)) b).0 in
    subst (λ (x : List ℕ). is_name x ≡ true) (sym (first_is name_in [] s (t ∷ more) kind))
    (first_holds name_in is_named is_name [] (name_case (λ r x. is_named r ≡ true → is_name x ≡ true) (λ x n. n)) s kind (and_parts (is_named s) (list_all is_named (t ∷ more)) h).0)

lattice_named : (ss : List Statement) → 2 ≤ length ss → begins ss ≡ true → list_all is_named ss ≡ true → is_file_word (first_of lattice_in [] ss) ≡ true
lattice_named [] two b h = absurd (omega arith)
lattice_named (s ∷ []) two b h = absurd (omega arith)
lattice_named (s ∷ t ∷ more) two b h =
    let kinds = and_parts (is_some (name_in s)) (is_some (lattice_in t)) b in
    let rest = and_parts (is_named s) (list_all is_named (t ∷ more)) h in
    subst (λ (x : List ℕ). is_file_word x ≡ true) (sym (lattice_is s t more kinds.0 kinds.1))
    (first_holds lattice_in is_named is_file_word [] (lattice_case (λ r x. is_named r ≡ true → is_file_word x ≡ true) (λ x n. n)) t kinds.1 (and_parts (is_named t) (list_all is_named more) rest.1).0)

-- what a whole file says is sound
pub view_is_sound : (ss : List Statement) → IsFair ss → missing_part ss ≡ None → is_sound (view_of ss) ≡ true
view_is_sound ss h m =
    let vars : List Domain = vars_of ss in
    let two = two_there ss m in
    let fit = fit_from_sized vars h.sized (var_there ss m) in
    let named = and_from _ _ (head_named ss two h.starts h.named) (lattice_named ss two h.starts h.named) in
    let ranged = and_from _ _ (and_from _ _ named fit) (init_in_range vars ss fit h.named) in
    let props = and_from _ _ (and_from _ _ ranged (props_in (view_of ss) fit ss h.named)) (le-leb (length (filter_map (prop_in vars) ss)) line_limit (omega (arith, props_counted vars ss, h.props))) in
    let commands = and_from _ _ (and_from _ _ props (commands_in (view_of ss) fit ss h.named)) (le-leb (length (filter_map (command_in vars) ss)) line_limit (omega (arith, commands_counted vars ss, h.commands))) in
    and_from _ _ (and_from _ _ commands (not_from_false _ (ap has_twice (commands_named vars ss) ∙ h.once))) (vars_named ss h.named)

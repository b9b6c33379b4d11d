-- The statements of a sound view that can be written are faultless, each after those before it.
use Rattle.std.proofs.Common.{◌≡◌, ℕ, ◌+◌, ◌<◌, ◌≤◌, true, false, ◌&&◌, nat_lt, nat_le, List, [], ◌∷◌, ◌++◌, map, length, length-append, Option, Some, refl, sym, ◌∙◌, ap, append_assoc, append-nil, arith}
use Rattle.std.specs.List.{list_all, list_any, filter_map}
use Rattle.std.specs.Option.{is_none}
use Rattle.std.proofs.lemmas.Bool.{and_parts, or_from, not-true, not_from_false, leb-true, lt-ltb}
use Rattle.std.proofs.lemmas.List.Elements.{filter_map-append}
use Rattle.std.proofs.lemmas.List.Folds.{list_any-append}
use Rattle.xc_theory.specs.Codes.{total}
use Rattle.xc_base.specs.Formats.{IsFaultless}
use Rattle.xc_base.specs.Names.{is_among, has_twice}
use Rattle.xc_base.specs.Words.{is_name}
use Rattle.xc_expr.proofs.ActionSpelling.{actions_are_unique}
use Rattle.xc_expr_text.proofs.ActionsAgain.{printed_actions_are_read}
use Rattle.xc_expr_text.proofs.GuardPrints.{printed_sum}
use Rattle.xc_expr.proofs.GuardReading.{guard_unique}
use Rattle.xc_expr_text.proofs.GuardsAgain.{printed_guards_are_read}
use Rattle.xc_expr.specs.Actions.{is_action_in_range}
use Rattle.xc_expr_text.specs.Printing.{named_guard, named_action, guard_tokens}
use Rattle.xc_expr.specs.Resolving.{resolved, resolved_action, sets_twice}
use Rattle.xc_expr.specs.Tests.{Test, is_in_range}
use Rattle.xc_forms.specs.FaultlessLines.{AreFaultless}
use Rattle.xc_forms.specs.Variables.{names_of, sizes_of, is_domain, are_fit, state_limit}
use Rattle.xc_forms.specs.VariableLines.{is_named_var}
use Rattle.xc_forms.proofs.FaultlessLines.{declared_push}
use Rattle.xc_forms.proofs.Restating.{not_before, no_excess}
use Rattle.xc_forms.proofs.Restating as forms
use Rattle.xc_expr_text.specs.Writable.{has_fit_names, depth_of, is_clear, is_writable_guard, is_writable_action}
use Rattle.xc_expr.specs.Written.{Written, Assigned, IsGuard, IsAction, has_names, action_tokens, depth_limit}
use Rattle.xc_expr.specs.declared.assign.Assign.{Assign}
use Rattle.xc_forms.specs.declared.domain.Domain.{Domain}
use Rattle.xc_view.specs.Parts.{is_prop_in, is_command_in}
use Rattle.xc_view.specs.Printing.{spelling, prop_statement, command_statement}
use Rattle.xc_view.specs.ViewFiles.{PropValue, CommandValue, ViewValue, var_in, vars_of, is_due, is_behind_vars, is_init, prop_name, prop_names, command_name, command_names, line_limit, view_format}
use Rattle.xc_view_lines.specs.ViewLines.{Statement, View, Lattice, Var, Init, Prop, Command, IsStated}
use Rattle.xc_view_lines.specs.ViewLines as files
use Rattle.xc_view.specs.Writable.{is_writable_prop, is_writable_command}
use Rattle.xc_view.proofs.Fair.{vars_append}

-- the printed tokens of a guard are the guard by its names, and these stand for it
pub record IsWritten (vars : List Domain) (t : Test) : Type 0 where
  pub spelled : IsGuard (guard_tokens (named_guard vars t)) (named_guard vars t)
  pub known : resolved vars (named_guard vars t) ≡ Some t

pub guard_written : (vars : List Domain) (t : Test) → are_fit vars ≡ true → is_in_range vars t ≡ true → is_writable_guard vars t ≡ true → IsWritten vars t
guard_written vars t fit range h =
    let g : Written = named_guard vars t in
    let fits = and_parts (has_fit_names g) (nat_le (depth_of g) depth_limit) (and_parts (has_fit_names g && nat_le (depth_of g) depth_limit) (is_clear vars t) h).0 in
    let spelled : IsGuard (guard_tokens g) g = printed_sum g depth_limit fits.0 (leb-true (depth_of g) depth_limit fits.1) in
    let back = printed_guards_are_read vars t fit range h in
    record { spelled = spelled; known = ap (resolved vars) (guard_unique (guard_tokens g) g back.guard spelled back.spelled) ∙ back.known }

-- the same of an action
pub record AreWritten (vars : List Domain) (bs : List Assign) : Type 0 where
  pub spelled : IsAction (action_tokens (named_action vars bs)) (named_action vars bs)
  pub once : sets_twice (named_action vars bs) ≡ false
  pub known : resolved_action vars (named_action vars bs) ≡ Some bs

pub action_written : (vars : List Domain) (bs : List Assign) → are_fit vars ≡ true → is_action_in_range vars bs ≡ true → is_writable_action vars bs ≡ true → AreWritten vars bs
action_written vars bs fit range h =
    let action : List Assigned = named_action vars bs in
    let spelled : IsAction (action_tokens action) action = record { spelled = refl; named = (and_parts (list_all has_names action) _ h).0 } in
    let back = printed_actions_are_read vars bs fit range h in
    let same = actions_are_unique (action_tokens action) action back.action spelled back.spelled in
    record { spelled = spelled; once = ap sets_twice same ∙ back.once; known = ap (resolved_action vars) same ∙ back.known }

-- one name more
length_more : (name_in : Statement → Option (List ℕ)) (before : List Statement) (s : Statement) {name : List ℕ} → name_in s ≡ Some name → length (filter_map name_in (before ++ s ∷ [])) ≡ length (filter_map name_in before) + 1
length_more name_in before s {name} e = ap length (declared_push name_in before s (Some name) e) ∙ length-append (filter_map name_in before) (name ∷ [])

-- a known option is not empty
some_is_known : {X : Type 0} (o : Option X) (x : X) → o ≡ Some x → is_none o ≡ false
some_is_known o x e = ap is_none e

-- behind statements that a variable may follow, another may follow it
abbrev pub AreReady : List Statement → Type 0
AreReady before = (d : Domain) → is_due before (Var d) ≡ true

stay_ready : (before : List Statement) (d : Domain) → AreReady before → AreReady (before ++ Var d ∷ [])
stay_ready [] d h e = let never : false ≡ true = h d in cc
stay_ready (r ∷ []) d h e = let never : false ≡ true = h d in cc
stay_ready (r ∷ t ∷ more) d h e =
    not_from_false _ (list_any-append is_behind_vars (r ∷ t ∷ more) (Var d ∷ []) ∙ or_from (list_any is_behind_vars (r ∷ t ∷ more)) false (not-true (list_any is_behind_vars (r ∷ t ∷ more)) (h d)) refl)

pub vars_fine : (before : List Statement) (ds : List Domain) → AreReady before → list_all is_named_var ds ≡ true
    → has_twice (names_of (vars_of before ++ ds)) ≡ false → list_all is_domain ds ≡ true → total (sizes_of (vars_of before ++ ds)) ≤ state_limit → AreFaultless view_format spelling before (map Var ds)
vars_fine =
    forms.vars_fine view_format spelling var_in Var (λ d. refl) AreReady stay_ready
    (λ ss d due named new fits. record { due = record { stated = files.var d named; placed = due d }; first = new; known = refl; few = fits })

-- the statements behind those of the name and the lattice
module _ (name file : List ℕ) where
  abbrev pub headed : List Statement → List Statement
  headed ss = View name ∷ Lattice file ∷ ss

  -- a guard's statements, where these variables are declared
  module _ (vars : List Domain) (fit : are_fit vars ≡ true) (some : 0 < length vars) where
    -- what follows them is due
    late_due : (before : List Statement) → vars_of before ≡ vars → nat_lt 0 (length (vars_of before)) ≡ true
    late_due before e = ap (λ (ds : List Domain). nat_lt 0 (length ds)) e ∙ lt-ltb 0 (length vars) some

    known_in : (before : List Statement) (t : Test) → vars_of before ≡ vars → IsWritten vars t → is_none (resolved (vars_of before) (named_guard vars t)) ≡ false
    known_in before t e w = ap (λ (ds : List Domain). is_none (resolved ds (named_guard vars t))) e ∙ some_is_known (resolved vars (named_guard vars t)) t w.known

    all_known_in : (before : List Statement) (bs : List Assign) → vars_of before ≡ vars → AreWritten vars bs → is_none (resolved_action (vars_of before) (named_action vars bs)) ≡ false
    all_known_in before bs e w = ap (λ (ds : List Domain). is_none (resolved_action ds (named_action vars bs))) e ∙ some_is_known (resolved_action vars (named_action vars bs)) bs w.known

    pub init_fine : (before : List Statement) (t : Test) → vars_of before ≡ vars → list_any is_init before ≡ false → IsWritten vars t
        → IsFaultless view_format (headed before) (spelling (Init (named_guard vars t))) (Init (named_guard vars t))
    init_fine before t e new w =
        record {
          due = record { stated = files.init (guard_tokens (named_guard vars t)) (named_guard vars t) w.spelled; placed = late_due before e };
          first = new;
          known = known_in before t e w;
          few = refl;
        }

    prop_fine : (v : ViewValue) (before : List Statement) (l : PropValue) → v.vars ≡ vars → vars_of before ≡ vars → length (prop_names before) < line_limit → is_prop_in v l ≡ true → is_writable_prop vars l ≡ true
        → IsFaultless view_format (headed before) (spelling (prop_statement vars l)) (prop_statement vars l)
    prop_fine v before l same e few h k =
        let parts = and_parts (is_name l.name && is_name l.value) (is_in_range v.vars l.guard) h in
        let names = and_parts (is_name l.name) (is_name l.value) parts.0 in
        let w = guard_written vars l.guard fit (ap (λ (ds : List Domain). is_in_range ds l.guard) (sym same) ∙ parts.1) k in
        record {
          due = record { stated = files.prop l.name l.value (guard_tokens (named_guard vars l.guard)) (named_guard vars l.guard) names.0 names.1 w.spelled; placed = late_due before e };
          first = refl;
          known = known_in before l.guard e w;
          few = no_excess line_limit (length (prop_names before)) _ few;
        }

    pub props_fine : (v : ViewValue) (before : List Statement) (ls : List PropValue) → v.vars ≡ vars → vars_of before ≡ vars → length (prop_names before) + length ls ≤ line_limit → list_all (is_prop_in v) ls ≡ true → list_all (is_writable_prop vars) ls ≡ true
        → AreFaultless view_format spelling (headed before) (map (prop_statement vars) ls)
    props_fine v before [] same e few h k = tt
    props_fine v before (l ∷ ls) same e few h k =
        let fits = and_parts (is_prop_in v l) (list_all (is_prop_in v) ls) h in
        let writable = and_parts (is_writable_prop vars l) (list_all (is_writable_prop vars) ls) k in (
          prop_fine v before l same e (omega arith) fits.0 writable.0,
          props_fine v (before ++ prop_statement vars l ∷ []) ls same (vars_append before (prop_statement vars l ∷ []) ∙ append-nil (vars_of before) ∙ e)
              (omega (arith, length_more prop_name before (prop_statement vars l) refl)) fits.1 writable.1,
        )

    command_fine : (v : ViewValue) (before : List Statement) (c : CommandValue) → v.vars ≡ vars → vars_of before ≡ vars → is_among (command_names before) c.name ≡ false → length (command_names before) < line_limit
        → is_command_in v c ≡ true → is_writable_command vars c ≡ true → IsFaultless view_format (headed before) (spelling (command_statement vars c)) (command_statement vars c)
    command_fine v before c same e new few h k =
        let action = and_parts (is_name c.name && is_name c.value && is_in_range v.vars c.guard) (is_action_in_range v.vars c.action) h in
        let guard = and_parts (is_name c.name && is_name c.value) (is_in_range v.vars c.guard) action.0 in
        let names = and_parts (is_name c.name) (is_name c.value) guard.0 in
        let writable = and_parts (is_writable_guard vars c.guard) (is_writable_action vars c.action) k in
        let w = guard_written vars c.guard fit (ap (λ (ds : List Domain). is_in_range ds c.guard) (sym same) ∙ guard.1) writable.0 in
        let a = action_written vars c.action fit (ap (λ (ds : List Domain). is_action_in_range ds c.action) (sym same) ∙ action.1) writable.1 in
        record {
          due = record {
            stated =
                files.command c.name c.value (guard_tokens (named_guard vars c.guard)) (action_tokens (named_action vars c.action)) (named_guard vars c.guard) (named_action vars c.action)
                names.0 names.1 w.spelled a.spelled;
            placed = late_due before e;
          };
          first = or_from _ _ new a.once;
          known = or_from _ _ (known_in before c.guard e w) (all_known_in before c.action e a);
          few = no_excess line_limit (length (command_names before)) _ few;
        }

    pub commands_fine : (v : ViewValue) (before : List Statement) (cs : List CommandValue) → v.vars ≡ vars → vars_of before ≡ vars → has_twice (command_names before ++ map (λ (c : CommandValue). c.name) cs) ≡ false
        → length (command_names before) + length cs ≤ line_limit → list_all (is_command_in v) cs ≡ true → list_all (is_writable_command vars) cs ≡ true → AreFaultless view_format spelling (headed before) (map (command_statement vars) cs)
    commands_fine v before [] same e once few h k = tt
    commands_fine v before (c ∷ cs) same e once few h k =
        let fits = and_parts (is_command_in v c) (list_all (is_command_in v) cs) h in
        let writable = and_parts (is_writable_command vars c) (list_all (is_writable_command vars) cs) k in
        let others : List (List ℕ) = map (λ (d : CommandValue). d.name) cs in
        let together : command_names (before ++ command_statement vars c ∷ []) ++ others ≡ command_names before ++ c.name ∷ others =
        ap (λ (ns : List (List ℕ)). ns ++ others) (filter_map-append command_name before (command_statement vars c ∷ [])) ∙ append_assoc (command_names before) (c.name ∷ []) others in (
          command_fine v before c same e (not_before (command_names before) c.name others once) (omega arith) fits.0 writable.0,
          commands_fine v (before ++ command_statement vars c ∷ []) cs same (vars_append before (command_statement vars c ∷ []) ∙ append-nil (vars_of before) ∙ e)
              (ap has_twice together ∙ once) (omega (arith, length_more command_name before (command_statement vars c) refl)) fits.1 writable.1,
        )

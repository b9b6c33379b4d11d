-- What fair statements say can be written.
use Rattle.std.proofs.Common.{◌≡◌, ℕ, Bool, true, false, ◌&&◌, not, nat_le, List, [], Option, Some, None, unwrap_or, refl}
use Rattle.std.specs.List.{list_all, filter_map}
use Rattle.std.proofs.lemmas.Bool.{and_parts, and_from, not-true, leb-true}
use Rattle.xc_base.specs.Words.{is_name}
use Rattle.xc_expr_text.specs.Printing.{guard_tokens}
use Rattle.xc_expr.specs.Resolving.{resolved, resolved_action, sets_twice}
use Rattle.xc_expr.specs.Tests as tests
use Rattle.xc_expr_text.specs.Writable.{has_fit_names, depth_of, is_writable_guard, is_writable_action}
use Rattle.xc_expr.specs.Written.{Written, Assigned, has_names, action_tokens, depth_limit}
use Rattle.xc_expr.specs.declared.assign.Assign.{Assign}
use Rattle.xc_forms.specs.ByKind.{first_of}
use Rattle.xc_forms.specs.declared.domain.Domain.{Domain}
use Rattle.xc_forms.proofs.ByKind.{both_all, all_in, first_in}
use Rattle.xc_view.proofs.EachKind.{init_case, prop_case, command_case, command_of}
use Rattle.xc_expr_text.proofs.ActionsAgain.{read_actions_are_writable}
use Rattle.xc_expr_text.proofs.GuardPrints.{printed_sum}
use Rattle.xc_expr_text.proofs.GuardsAgain.{read_guards_are_writable}
use Rattle.xc_view.specs.Drafts.{is_named, is_guard_written, is_written, IsFair}
use Rattle.xc_view.specs.ViewFiles.{vars_of, init_in, prop_in, command_in, test_in, assigns_in, view_of}
use Rattle.xc_view_lines.specs.ViewLines.{Statement, Command}
use Rattle.xc_view.specs.Writable.{is_writable_prop, is_writable_command, is_writable}

module _ (vars : List Domain) where
  -- a guard and an action that are written with fit names can be written
  guard_writable : (guard : Written) → is_guard_written guard ≡ true → is_writable_guard vars (test_in vars guard) ≡ true
  guard_writable guard h = by_test (resolved vars guard) refl
    where
      by_test : (o : Option tests.Test) → resolved vars guard ≡ o → is_writable_guard vars (unwrap_or o tests.False) ≡ true
      by_test None e = refl
      by_test (Some test) e =
          let fits = and_parts (has_fit_names guard) (nat_le (depth_of guard) depth_limit) h in
          read_guards_are_writable vars (guard_tokens guard) test (record { guard = guard; spelled = printed_sum guard depth_limit fits.0 (leb-true (depth_of guard) depth_limit fits.1); known = e })

  action_writable : (action : List Assigned) → list_all has_names action ≡ true → sets_twice action ≡ false → is_writable_action vars (assigns_in vars action) ≡ true
  action_writable action h once = by_action (resolved_action vars action) refl
    where
      by_action : (o : Option (List Assign)) → resolved_action vars action ≡ o → is_writable_action vars (unwrap_or o []) ≡ true
      by_action None e = refl
      by_action (Some assigns) e = read_actions_are_writable vars (action_tokens action) assigns (record { action = action; spelled = record { spelled = refl; named = h }; once = once; known = e })

  -- so can those of the initial states, of lines and of commands
  init_writable : (ss : List Statement) → list_all is_written ss ≡ true → is_writable_guard vars (first_of (init_in vars) tests.False ss) ≡ true
  init_writable ss h = first_in (init_in vars) is_written (is_writable_guard vars) (init_case vars (λ s t. is_written s ≡ true → is_writable_guard vars t ≡ true) guard_writable) tests.False ss refl h

  props_writable : (ss : List Statement) → list_all is_written ss ≡ true → list_all (is_writable_prop vars) (filter_map (prop_in vars) ss) ≡ true
  props_writable = all_in (prop_in vars) is_written (is_writable_prop vars) (prop_case vars (λ s l. is_written s ≡ true → is_writable_prop vars l ≡ true) (λ name value guard h. guard_writable guard h))

  abbrev is_fit : Statement → Bool
  is_fit s = is_named s && is_written s

  command_writable : (name value : List ℕ) (guard : Written) (action : List Assigned) → is_fit (Command name value guard action) ≡ true → is_writable_command vars (command_of vars name value guard action) ≡ true
  command_writable name value guard action h =
      let parts = and_parts (is_named (Command name value guard action)) (is_written (Command name value guard action)) h in
      let once = and_parts (is_name name && is_name value) (not (sets_twice action)) parts.0 in
      let written = and_parts (is_guard_written guard) (list_all has_names action) parts.1 in
      and_from (is_writable_guard vars (test_in vars guard)) (is_writable_action vars (assigns_in vars action)) (guard_writable guard written.0) (action_writable action written.1 (not-true (sets_twice action) once.1))

  commands_writable : (ss : List Statement) → list_all is_named ss ≡ true → list_all is_written ss ≡ true → list_all (is_writable_command vars) (filter_map (command_in vars) ss) ≡ true
  commands_writable ss n h =
      all_in (command_in vars) is_fit (is_writable_command vars) (command_case vars (λ s c. is_fit s ≡ true → is_writable_command vars c ≡ true) command_writable) ss (both_all is_named is_written ss n h)

-- a view of fair statements can be written
pub view_is_writable : (ss : List Statement) → IsFair ss → is_writable (view_of ss) ≡ true
view_is_writable ss h =
    and_from _ _ (and_from _ _ (init_writable (vars_of ss) ss h.written) (props_writable (vars_of ss) ss h.written)) (commands_writable (vars_of ss) ss h.named h.written)

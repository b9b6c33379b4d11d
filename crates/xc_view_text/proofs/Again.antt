-- The canonical text of a view is read again as the view.
use Rattle.std.proofs.Common.{◌≡◌, ℕ, ◌<◌, ◌≤◌, Bool, true, false, ◌&&◌, ◌||◌, not, nat_le, List, [], ◌∷◌, ◌++◌, map, length, get_or, Option, Some, None, refl, sym, ◌∙◌, ap, subst, arith}
use Rattle.std.specs.List.{list_all, list_any, filter_map}
use Rattle.std.proofs.lemmas.List.Elements.{filter_map-append}
use Rattle.std.proofs.lemmas.Bool.{and_parts, not-true, leb-true, lt-ltb}
use Rattle.std.proofs.lemmas.List.{append-nil}
use Rattle.xc_theory.specs.Codes.{total}
use Rattle.xc_base.specs.Canonical.{numbered}
use Rattle.xc_base.specs.Formats.{IsAccepted}
use Rattle.xc_base.specs.Names.{has_twice}
use Rattle.xc_base.specs.Words.{is_name, is_file_word}
use Rattle.xc_expr_text.specs.Printing.{named_guard}
use Rattle.xc_expr.specs.Tests.{Test, False, is_in_range}
use Rattle.xc_forms.specs.ByKind.{first_of}
use Rattle.xc_forms.specs.FaultlessLines.{AreFaultless}
use Rattle.xc_forms.specs.VariableLines.{is_named_var}
use Rattle.xc_forms.proofs.ByKind.{both_all, none_said, all_said}
use Rattle.xc_forms.proofs.Restating.{are_statements, faultless_join}
use Rattle.xc_forms.specs.Variables.{names_of, sizes_of, is_domain, are_fit, state_limit}
use Rattle.xc_expr_text.specs.Writable.{is_writable_guard}
use Rattle.xc_forms.specs.declared.domain.Domain.{Domain}
use Rattle.xc_view.specs.Parts.{is_prop_in, is_command_in, is_sound}
use Rattle.xc_view.specs.Printing.{spelling, prop_statement, command_statement, statements_in, view_lines}
use Rattle.xc_view.specs.ViewFiles.{PropValue, CommandValue, ViewValue, name_in, lattice_in, var_in, vars_of, is_init, init_in, prop_in, command_in, prop_name, prop_names, command_name, command_names, line_limit, missing_part, view_of, view_format}
use Rattle.xc_view_lines.specs.ViewLines.{Statement, View, Lattice, Var, Init, Prop, Command}
use Rattle.xc_view_lines.specs.ViewLines as files
use Rattle.xc_view.specs.Writable.{is_writable_prop, is_writable_command, is_writable}
use Rattle.xc_view.proofs.Fair.{vars_append}
use Rattle.xc_view_text.proofs.Restating.{IsWritten, guard_written, action_written, headed, vars_fine, init_fine, props_fine, commands_fine}

-- the initial states stand behind variables
none_behind : (ds : List Domain) → list_any is_init (map Var ds) ≡ false
none_behind [] = refl
none_behind (d ∷ ds) = none_behind ds

some_init : (ds : List Domain) (s : Statement) (ss : List Statement) → is_init s ≡ true → list_any is_init (map Var ds ++ s ∷ ss) ≡ true
some_init [] s ss h = ap (λ (b : Bool). b || list_any is_init ss) h
some_init (d ∷ ds) s ss h = some_init ds s ss h

-- what lines of one kind say alone
module _ {X Y : Type 0} (in_it : Statement → Option X) (say : Y → Statement) (none : (y : Y) → in_it (say y) ≡ None) where
  nothing : (ys : List Y) → filter_map in_it (map say ys) ≡ []
  nothing ys = ap (filter_map in_it) (sym (append-nil (map say ys))) ∙ none_said in_it say none ys []

module _ (vars : List Domain) where
  declared : (ss : List Statement) → vars_of (map Var vars ++ ss) ≡ vars ++ vars_of ss
  declared ss = all_said var_in Var (λ d. true) (λ d h. refl) vars ss (all_true vars)
    where
      all_true : (ds : List Domain) → list_all (λ (d : Domain). true) ds ≡ true
      all_true [] = refl
      all_true (d ∷ ds) = all_true ds

-- the parts of what holds of a sound view
module _ (v : ViewValue) (sound : is_sound v ≡ true) (writable : is_writable v ≡ true) where
  record AreSound : Type 0 where
    name : is_name v.name ≡ true
    lattice : is_file_word v.lattice ≡ true
    fit : are_fit v.vars ≡ true
    init : is_in_range v.vars v.init ≡ true
    props : list_all (is_prop_in v) v.props ≡ true
    few_props : length v.props ≤ line_limit
    commands : list_all (is_command_in v) v.commands ≡ true
    few_commands : length v.commands ≤ line_limit
    once : has_twice (map (λ (c : CommandValue). c.name) v.commands) ≡ false
    named : list_all is_named_var v.vars ≡ true

  are_sound : AreSound
  are_sound =
      let ninth = and_parts _ (list_all is_named_var v.vars) sound in
      let eighth = and_parts _ (not (has_twice (map (λ (c : CommandValue). c.name) v.commands))) ninth.0 in
      let seventh = and_parts _ (nat_le (length v.commands) line_limit) eighth.0 in
      let sixth = and_parts _ (list_all (is_command_in v) v.commands) seventh.0 in
      let fifth = and_parts _ (nat_le (length v.props) line_limit) sixth.0 in
      let fourth = and_parts _ (list_all (is_prop_in v) v.props) fifth.0 in
      let third = and_parts _ (is_in_range v.vars v.init) fourth.0 in
      let second = and_parts _ (are_fit v.vars) third.0 in
      let first = and_parts (is_name v.name) (is_file_word v.lattice) second.0 in
      record {
        name = first.0;
        lattice = first.1;
        fit = second.1;
        init = third.1;
        props = fourth.1;
        few_props = leb-true (length v.props) line_limit fifth.1;
        commands = sixth.1;
        few_commands = leb-true (length v.commands) line_limit seventh.1;
        once = not-true _ eighth.1;
        named = ninth.1;
      }

  -- what its variables are fit by
  record AreFit : Type 0 where
    some : 0 < length v.vars
    varied : has_twice (names_of v.vars) ≡ false
    domains : list_all is_domain v.vars ≡ true
    states : total (sizes_of v.vars) ≤ state_limit

  fit_parts : AreFit
  fit_parts =
      let fourth = and_parts _ (nat_le (total (sizes_of v.vars)) state_limit) are_sound.fit in
      let third = and_parts _ (list_all is_domain v.vars) fourth.0 in
      let second = and_parts _ (not (has_twice (names_of v.vars))) third.0 in
      let first = and_parts (nat_le 1 (length v.vars)) (nat_le (length v.vars) 20) second.0 in
      record {
        some = let one = leb-true 1 (length v.vars) first.0 in omega arith;
        varied = not-true _ second.1;
        domains = third.1;
        states = leb-true (total (sizes_of v.vars)) state_limit fourth.1;
      }

  record AreWritable : Type 0 where
    init : is_writable_guard v.vars v.init ≡ true
    props : list_all (is_writable_prop v.vars) v.props ≡ true
    commands : list_all (is_writable_command v.vars) v.commands ≡ true

  are_writable : AreWritable
  are_writable =
      let second = and_parts _ (list_all (is_writable_command v.vars) v.commands) writable in
      let first = and_parts (is_writable_guard v.vars v.init) (list_all (is_writable_prop v.vars) v.props) second.0 in
      record { init = first.0; props = first.1; commands = second.1 }

  init_written : IsWritten v.vars v.init
  init_written = guard_written v.vars v.init are_sound.fit are_sound.init are_writable.init

  -- the statements of each kind, and those before it and behind the lattice's
  abbrev i : Statement
  i = Init (named_guard v.vars v.init)

  abbrev ds : List Statement
  ds = map Var v.vars

  abbrev ps : List Statement
  ps = map (prop_statement v.vars) v.props

  abbrev cs : List Statement
  cs = map (command_statement v.vars) v.commands

  abbrev b2 : List Statement
  b2 = ds ++ i ∷ []

  abbrev b3 : List Statement
  b3 = b2 ++ ps

  ds_vars : vars_of ds ≡ v.vars
  ds_vars = ap vars_of (sym (append-nil ds)) ∙ declared v.vars [] ∙ append-nil v.vars

  b2_vars : vars_of b2 ≡ v.vars
  b2_vars = vars_append ds (i ∷ []) ∙ append-nil (vars_of ds) ∙ ds_vars

  b3_vars : vars_of b3 ≡ v.vars
  b3_vars = vars_append b2 ps ∙ ap (λ (ws : List Domain). vars_of b2 ++ ws) (nothing var_in (prop_statement v.vars) (λ l. refl) v.props) ∙ append-nil (vars_of b2) ∙ b2_vars

  b2_props : prop_names b2 ≡ []
  b2_props = none_said prop_name Var (λ d. refl) v.vars (i ∷ [])

  b3_names : command_names b3 ≡ []
  b3_names = filter_map-append command_name b2 ps ∙ rw (none_said command_name Var (λ d. refl) v.vars (i ∷ []), nothing command_name (prop_statement v.vars) (λ l. refl) v.props) refl

  -- each is faultless
  k1 : AreFaultless view_format spelling (headed v.name v.lattice []) ds
  k1 = vars_fine (headed v.name v.lattice []) v.vars (λ d. refl) are_sound.named fit_parts.varied fit_parts.domains fit_parts.states

  k2 : AreFaultless view_format spelling (headed v.name v.lattice ds) (i ∷ [])
  k2 = (init_fine v.name v.lattice v.vars are_sound.fit fit_parts.some ds v.init ds_vars (none_behind v.vars) init_written, tt)

  k3 : AreFaultless view_format spelling (headed v.name v.lattice b2) ps
  k3 = props_fine v.name v.lattice v.vars are_sound.fit fit_parts.some v b2 v.props refl b2_vars (omega (arith, ap length b2_props, are_sound.few_props)) are_sound.props are_writable.props

  k4 : AreFaultless view_format spelling (headed v.name v.lattice b3) cs
  k4 =
      commands_fine v.name v.lattice v.vars are_sound.fit fit_parts.some v b3 v.commands refl b3_vars
      (ap (λ (ns : List (List ℕ)). has_twice (ns ++ map (λ (c : CommandValue). c.name) v.commands)) b3_names ∙ are_sound.once)
      (omega (arith, ap length b3_names, are_sound.few_commands)) are_sound.commands are_writable.commands

  pub all_faultless : AreFaultless view_format spelling [] (statements_in v)
  all_faultless = (
    record { due = record { stated = files.view v.name are_sound.name; placed = refl }; first = refl; known = refl; few = refl },
    (
      record { due = record { stated = files.lattice v.lattice are_sound.lattice; placed = refl }; first = refl; known = refl; few = refl },
      faultless_join view_format spelling (headed v.name v.lattice []) ds (i ∷ (ps ++ cs)) k1
          (faultless_join view_format spelling (headed v.name v.lattice ds) (i ∷ []) (ps ++ cs) k2
          (faultless_join view_format spelling (headed v.name v.lattice b2) ps cs k3 k4)),
    ),
  )

  -- the lines of propositions say what they said, and so do the commands
  abbrev is_prop_fit : PropValue → Bool
  is_prop_fit l = is_prop_in v l && is_writable_prop v.vars l

  prop_back : (l : PropValue) → is_prop_fit l ≡ true → prop_in v.vars (prop_statement v.vars l) ≡ Some l
  prop_back l h =
      let parts = and_parts (is_prop_in v l) (is_writable_prop v.vars l) h in
      let range = and_parts (is_name l.name && is_name l.value) (is_in_range v.vars l.guard) parts.0 in
      rw ((guard_written v.vars l.guard are_sound.fit range.1 parts.1).known) refl

  abbrev is_command_fit : CommandValue → Bool
  is_command_fit c = is_command_in v c && is_writable_command v.vars c

  command_back : (c : CommandValue) → is_command_fit c ≡ true → command_in v.vars (command_statement v.vars c) ≡ Some c
  command_back c h =
      let fits = and_parts (is_command_in v c) (is_writable_command v.vars c) h in
      let action = and_parts (is_name c.name && is_name c.value && is_in_range v.vars c.guard) _ fits.0 in
      let guard = and_parts (is_name c.name && is_name c.value) (is_in_range v.vars c.guard) action.0 in
      let parts = and_parts (is_writable_guard v.vars c.guard) _ fits.1 in
      rw ((guard_written v.vars c.guard are_sound.fit guard.1 parts.0).known, (action_written v.vars c.action are_sound.fit action.1 parts.1).known) refl

  abbrev late : List Statement
  late = i ∷ (ps ++ cs)

  all_vars : vars_of (statements_in v) ≡ v.vars
  all_vars =
      declared v.vars late
      ∙ ap (λ (ws : List Domain). v.vars ++ ws) (none_said var_in (prop_statement v.vars) (λ l. refl) v.props cs ∙ nothing var_in (command_statement v.vars) (λ c. refl) v.commands) ∙ append-nil v.vars

  all_init : first_of (init_in v.vars) False (statements_in v) ≡ v.init
  all_init = ap (λ (ts : List Test). get_or ts 0 False) (none_said (init_in v.vars) Var (λ d. refl) v.vars late) ∙ rw init_written.known refl

  all_props : filter_map (prop_in v.vars) (statements_in v) ≡ v.props
  all_props =
      none_said (prop_in v.vars) Var (λ d. refl) v.vars late
      ∙ all_said (prop_in v.vars) (prop_statement v.vars) is_prop_fit prop_back v.props cs (both_all (is_prop_in v) (is_writable_prop v.vars) v.props are_sound.props are_writable.props)
      ∙ ap (λ (ls : List PropValue). v.props ++ ls) (nothing (prop_in v.vars) (command_statement v.vars) (λ c. refl) v.commands) ∙ append-nil v.props

  all_commands : filter_map (command_in v.vars) (statements_in v) ≡ v.commands
  all_commands =
      none_said (command_in v.vars) Var (λ d. refl) v.vars late ∙ none_said (command_in v.vars) (prop_statement v.vars) (λ l. refl) v.props cs
      ∙ ap (filter_map (command_in v.vars)) (sym (append-nil cs))
      ∙ all_said (command_in v.vars) (command_statement v.vars) is_command_fit command_back v.commands [] (both_all (is_command_in v) (is_writable_command v.vars) v.commands are_sound.commands are_writable.commands)
      ∙ append-nil v.commands

  -- so the statements say the view
  view_says : (ss : List Statement) → first_of name_in [] ss ≡ v.name → first_of lattice_in [] ss ≡ v.lattice → vars_of ss ≡ v.vars → first_of (init_in v.vars) False ss ≡ v.init → filter_map (prop_in v.vars) ss ≡ v.props → filter_map (command_in v.vars) ss ≡ v.commands → v ≡ view_of ss
  view_says ss n f d i p c = rw (n, f, d, i, p, c) refl

  none_lacks : 0 < length (vars_of (statements_in v)) → list_any is_init (statements_in v) ≡ true → missing_part (statements_in v) ≡ None
  none_lacks d i = rw (lt-ltb 0 (length (vars_of (statements_in v))) d, i) refl

  pub reads_again : IsAccepted view_format (numbered 1 (view_lines v)) v
  reads_again =
      record {
        statements = statements_in v;
        read = are_statements view_format spelling [] (statements_in v) 1 all_faultless;
        whole = none_lacks (subst (λ (ws : List Domain). 0 < length ws) (sym all_vars) fit_parts.some) (some_init v.vars i (ps ++ cs) refl);
        says = view_says (statements_in v) refl refl all_vars all_init all_props all_commands;
      }

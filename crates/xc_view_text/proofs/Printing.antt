-- The lines of a canonical text, kind by kind.
use Rattle.std.proofs.Common.{◌≡◌, ℕ, suc, ◌+◌, ◌<◌, ◌≤◌, true, List, [], ◌∷◌, ◌++◌, map, length, get_or, drop, drop-cons, add-one, refl, sym, ◌∙◌, ap, append_assoc}
use Rattle.std.specs.List.{list_all}
use Rattle.std.proofs.lemmas.List.{drop_all}
use Rattle.std.proofs.lemmas.List.Sums.{AllPass-from_list_all}
use Rattle.std.proofs.lemmas.Bool.{and_parts, and_from}
use Rattle.xc_base.specs.Canonical.{canonical}
use Rattle.xc_expr_text.specs.Printing.{named_guard}
use Rattle.xc_expr.specs.Actions.{is_action_in_range}
use Rattle.xc_expr.specs.Tests.{Test, test_of, is_in_range}
use Rattle.xc_forms.specs.PrintedLines as forms
use Rattle.xc_forms.specs.PrintedLines.{printed}
use Rattle.xc_forms.specs.VariableLines.{var_tokens}
use Rattle.xc_forms.specs.declared.domain.Domain.{Domain}
use Rattle.xc_forms.proofs.PrintedLines.{canonical-append, written_before, vars_written}
use Rattle.xc_view.specs.ViewFiles.{ViewValue, PropValue, CommandValue}
use Rattle.xc_view_lines.specs.ViewLines.{Statement, View, Lattice, Var, Init}
use Rattle.xc_view.specs.Parts.{prop_value, command_value, is_prop_in, is_command_in, is_sound}
use Rattle.xc_view.specs.Printing.{spelling, prop_statement, command_statement, view_lines}
use Rattle.xc_view_text.specs.Spelled.{written, is_prop_printed, is_command_printed}
use Rattle.xc_view.specs.declared.lines.PropLine.{PropLine}
use Rattle.xc_view.specs.declared.lines.Command as steps

-- variables
pub vars_lines : (vars : List Domain) → printed var_tokens vars ≡ written Var vars
vars_lines vars = vars_written spelling Var vars (λ d. refl)

-- lines of propositions
pub props_from : (vars : List Domain) (lines : List PropLine) (i : ℕ) (d : PropLine) → i < length lines
    → written (prop_statement vars) (map prop_value (drop i lines)) ≡ written (prop_statement vars) (prop_value (get_or lines i d) ∷ []) ++ written (prop_statement vars) (map prop_value (drop (i + 1) lines))
unfolding forms.written
props_from vars lines i d h =
    rw (add-one, drop-cons lines i d)
    (canonical-append (spelling (prop_statement vars (prop_value (get_or lines i d))) ∷ []) (map spelling (map (prop_statement vars) (map prop_value (drop (suc i) lines)))))

pub props_end : (vars : List Domain) (lines : List PropLine) (i : ℕ) → length lines ≤ i → written (prop_statement vars) (map prop_value (drop i lines)) ≡ []
unfolding forms.written canonical
props_end vars lines i h = rw (drop_all i lines h)

pub prop_at : (vars : List Domain) (lines : List PropLine) (i : ℕ) (d : PropLine) → list_all (is_prop_printed vars) lines ≡ true → i < length lines → is_prop_printed vars (get_or lines i d) ≡ true
prop_at vars lines i d h within = AllPass-from_list_all (is_prop_printed vars) lines h i d within

-- commands
pub commands_from : (vars : List Domain) (commands : List steps.Command) (i : ℕ) (d : steps.Command) → i < length commands
    → written (command_statement vars) (map command_value (drop i commands)) ≡ written (command_statement vars) (command_value (get_or commands i d) ∷ []) ++ written (command_statement vars) (map command_value (drop (i + 1) commands))
unfolding forms.written
commands_from vars commands i d h =
    rw (add-one, drop-cons commands i d)
    (canonical-append (spelling (command_statement vars (command_value (get_or commands i d))) ∷ []) (map spelling (map (command_statement vars) (map command_value (drop (suc i) commands)))))

pub commands_end : (vars : List Domain) (commands : List steps.Command) (i : ℕ) → length commands ≤ i → written (command_statement vars) (map command_value (drop i commands)) ≡ []
unfolding forms.written canonical
commands_end vars commands i h = rw (drop_all i commands h)

pub command_at : (vars : List Domain) (commands : List steps.Command) (i : ℕ) (d : steps.Command) → list_all (is_command_printed vars) commands ≡ true → i < length commands → is_command_printed vars (get_or commands i d) ≡ true
command_at vars commands i d h within = AllPass-from_list_all (is_command_printed vars) commands h i d within

-- the items of one kind, and what stands behind them
behind : {X : Type 0} (say : X → Statement) (xs : List X) (ss : List Statement) → canonical (map spelling (map say xs ++ ss)) ≡ written say xs ++ canonical (map spelling ss)
behind say xs ss = written_before spelling say xs ss

last_kind : {X : Type 0} (say : X → Statement) (xs : List X) → canonical (map spelling (map say xs)) ≡ written say xs
unfolding forms.written
last_kind say xs = refl

-- the whole text
whole_text : (v : ViewValue) → (((((written View (v.name ∷ []) ++ written Lattice (v.lattice ∷ [])) ++ written Var v.vars) ++ written Init (named_guard v.vars v.init ∷ [])) ++ written (prop_statement v.vars) v.props) ++ written (command_statement v.vars) v.commands) ≡ canonical (view_lines v)
whole_text v =
    let props : List Statement = map (prop_statement v.vars) v.props ++ map (command_statement v.vars) v.commands in
    let init : List Statement = Init (named_guard v.vars v.init) ∷ props in
    let vars : List Statement = map Var v.vars ++ init in
    let lattice : List Statement = Lattice v.lattice ∷ vars in
    sym (behind View (v.name ∷ []) lattice
    ∙ ap (λ (t : List ℕ). written View (v.name ∷ []) ++ t) (behind Lattice (v.lattice ∷ []) vars
    ∙ ap (λ (t : List ℕ). written Lattice (v.lattice ∷ []) ++ t) (behind Var v.vars init
    ∙ ap (λ (t : List ℕ). written Var v.vars ++ t) (behind Init (named_guard v.vars v.init ∷ []) props
    ∙ ap (λ (t : List ℕ). written Init (named_guard v.vars v.init ∷ []) ++ t) (behind (prop_statement v.vars) v.props (map (command_statement v.vars) v.commands)
    ∙ ap (λ (t : List ℕ). written (prop_statement v.vars) v.props ++ t) (last_kind (command_statement v.vars) v.commands)))))
    ∙ grouped (written View (v.name ∷ [])) (written Lattice (v.lattice ∷ [])) (written Var v.vars) (written Init (named_guard v.vars v.init ∷ [])) (written (prop_statement v.vars) v.props) (written (command_statement v.vars) v.commands))
  where
    grouped : (a b c d e f : List ℕ) → a ++ (b ++ (c ++ (d ++ (e ++ f)))) ≡ ((((a ++ b) ++ c) ++ d) ++ e) ++ f
    grouped a b c d e f = sym (simp append_assoc)

-- the numbers in a view are there
record AreThere (v : ViewValue) : Type 0 where
  props : list_all (is_prop_in v) v.props ≡ true
  commands : list_all (is_command_in v) v.commands ≡ true

are_there : (v : ViewValue) → is_sound v ≡ true → AreThere v
are_there v h =
    let ninth = and_parts _ _ h in
    let eighth = and_parts _ _ ninth.0 in
    let seventh = and_parts _ _ eighth.0 in
    let sixth = and_parts _ _ seventh.0 in
    let fifth = and_parts _ _ sixth.0 in
    let fourth = and_parts _ _ fifth.0 in
    record { props = fourth.1; commands = sixth.1 }

props_there : (v : ViewValue) (lines : List PropLine) → list_all (is_prop_in v) (map prop_value lines) ≡ true → list_all (is_prop_printed v.vars) lines ≡ true
props_there v [] h = refl
props_there v (l ∷ lines) h =
    let parts = and_parts (is_prop_in v (prop_value l)) (list_all (is_prop_in v) (map prop_value lines)) h in
    and_from (is_prop_printed v.vars l) (list_all (is_prop_printed v.vars) lines) (and_parts _ _ parts.0).1 (props_there v lines parts.1)

pub props_printed : (v : ViewValue) (vars : List Domain) (lines : List PropLine) → is_sound v ≡ true → vars ≡ v.vars → map prop_value lines ≡ v.props → list_all (is_prop_printed vars) lines ≡ true
props_printed v vars lines h e f =
    ap (λ (ds : List Domain). list_all (is_prop_printed ds) lines) e ∙ props_there v lines (ap (list_all (is_prop_in v)) f ∙ (are_there v h).props)

commands_there : (v : ViewValue) (commands : List steps.Command) → list_all (is_command_in v) (map command_value commands) ≡ true → list_all (is_command_printed v.vars) commands ≡ true
commands_there v [] h = refl
commands_there v (c ∷ commands) h =
    let parts = and_parts (is_command_in v (command_value c)) (list_all (is_command_in v) (map command_value commands)) h in
    let action = and_parts _ (is_action_in_range v.vars c.action) parts.0 in
    let guard = and_parts _ (is_in_range v.vars (test_of c.guard)) action.0 in
    and_from (is_command_printed v.vars c) (list_all (is_command_printed v.vars) commands)
    (and_from (is_in_range v.vars (test_of c.guard)) (is_action_in_range v.vars c.action) guard.1 action.1) (commands_there v commands parts.1)

pub commands_printed : (v : ViewValue) (vars : List Domain) (commands : List steps.Command) → is_sound v ≡ true → vars ≡ v.vars → map command_value commands ≡ v.commands → list_all (is_command_printed vars) commands ≡ true
commands_printed v vars commands h e f =
    ap (λ (ds : List Domain). list_all (is_command_printed ds) commands) e ∙ commands_there v commands (ap (list_all (is_command_in v)) f ∙ (are_there v h).commands)

-- the texts one after another
pub whole_printed : (v : ViewValue) (name file : List ℕ) (vars : List Domain) (init : Test) (props : List PropValue) (commands : List CommandValue) (t0 t1 t2 t3 t4 t5 t6 : List ℕ)
    → name ≡ v.name → file ≡ v.lattice → vars ≡ v.vars → init ≡ v.init → props ≡ v.props → commands ≡ v.commands
    → t0 ≡ [] → t1 ≡ t0 ++ written View (name ∷ []) → t2 ≡ t1 ++ written Lattice (file ∷ []) → t3 ≡ t2 ++ written Var vars
    → t4 ≡ t3 ++ written Init (named_guard vars init ∷ []) → t5 ≡ t4 ++ written (prop_statement vars) props → t6 ≡ t5 ++ written (command_statement vars) commands
    → t6 ≡ canonical (view_lines v)
whole_printed v name file vars init props commands t0 t1 t2 t3 t4 t5 t6 n f d i p c e0 e1 e2 e3 e4 e5 e6 =
    rw (e6, e5, e4, e3, e2, e1, e0, n, f, d, i, p, c) (whole_text v)

-- No canonical line of a view that was read is longer than the line that was read.
use Rattle.std.proofs.Common.{◌≡◌, ℕ, ◌≤◌, Bool, true, false, ◌&&◌, ◌||◌, not, List, [], ◌∷◌, ◌++◌, length, map, append-nil, append_assoc, Option, Some, None, codes, refl, ap, sym, ◌∙◌, subst, arith}
use Rattle.std.specs.List.{list_all, filter_map}
use Rattle.std.specs.Option.{is_none}
use Rattle.std.proofs.lemmas.Bool.{and_parts, and_from, or_parts, not-true, le-leb, leb-true}
use Rattle.std.proofs.lemmas.List.Folds.{list_all-append, list_all-map}
use Rattle.xc_base.specs.Canonical.{spaced, is_short}
use Rattle.xc_base.specs.Formats.{Row, AreStatements, IsAccepted}
use Rattle.xc_base.specs.Formats.AreStatements.{none, next}
use Rattle.xc_base.specs.Words.{is_name}
use Rattle.xc_expr_text.specs.LineParts.{IsNoLonger}
use Rattle.xc_expr_text.specs.Printing.{named_guard, named_action, guard_tokens}
use Rattle.xc_expr.specs.Resolving.{resolved, resolved_action, sets_twice}
use Rattle.xc_expr.specs.Tests as tests
use Rattle.xc_expr.specs.Written.{Written, Assigned, IsGuard, IsAction, action_tokens}
use Rattle.xc_expr.specs.declared.assign.Assign.{Assign}
use Rattle.xc_forms.specs.ByKind.{first_of}
use Rattle.xc_forms.specs.declared.domain.Domain.{Domain}
use Rattle.xc_forms.proofs.ByKind.{all_in, first_in}
use Rattle.xc_view.proofs.EachKind.{name_case, lattice_case, var_case, init_case, prop_case, command_case}
use Rattle.xc_expr_text.proofs.ActionsAgain.{actions_keep_their_tokens}
use Rattle.xc_expr_text.proofs.GuardsAgain.{no_print_is_longer}
use Rattle.xc_view.specs.Cut.{AreCut}
use Rattle.xc_view.specs.Drafts.{is_named, is_known, IsFair}
use Rattle.xc_view.specs.Printing.{spelling, prop_statement, command_statement, statements_in, view_lines}
use Rattle.xc_view.specs.ViewFiles.{ViewValue, name_in, lattice_in, var_in, vars_of, init_in, prop_in, command_in, test_in, assigns_in, view_of, view_format}
use Rattle.xc_view_lines.specs.ViewLines.{Statement, View, Lattice, Var, Init, Prop, Command, IsStated}
use Rattle.xc_view_lines.specs.ViewLines.IsStated.{view, lattice, var, init, prop, command}
use Rattle.xc_view.proofs.Fair.{next_is_fair, none_is_fair}
use Rattle.xc_view.proofs.RowSizes.{is_row_short, cut_rows_are_short}

abbrev size : List (List ℕ) → ℕ
size ts = length (spaced ts)

-- a statement as it is printed over these variables
abbrev printed : List Domain → Statement → Statement
printed vars (View name) = View name
printed vars (Lattice file) = Lattice file
printed vars (Var domain) = Var domain
printed vars (Init guard) = Init (named_guard vars (test_in vars guard))
printed vars (Prop name value guard) = Prop name value (named_guard vars (test_in vars guard))
printed vars (Command name value guard action) = Command name value (named_guard vars (test_in vars guard)) (named_action vars (assigns_in vars action))

module _ (vars : List Domain) where
  -- a guard and an action as they are printed
  guard_shorter : (tokens : List (List ℕ)) (guard : Written) → IsGuard tokens guard → is_none (resolved vars guard) ≡ false → IsNoLonger tokens (guard_tokens (named_guard vars (test_in vars guard)))
  guard_shorter tokens guard g known = by_test (resolved vars guard) refl known
    where
      by_test : (o : Option tests.Test) → resolved vars guard ≡ o → is_none o ≡ false → IsNoLonger tokens (guard_tokens (named_guard vars (test_in vars guard)))
      by_test None e h = cc
      by_test (Some t) e h = rw e (no_print_is_longer vars tokens t (record { guard = guard; spelled = g; known = e }))

  action_same : (tokens : List (List ℕ)) (action : List Assigned) → IsAction tokens action → sets_twice action ≡ false → is_none (resolved_action vars action) ≡ false → action_tokens (named_action vars (assigns_in vars action)) ≡ tokens
  action_same tokens action a once known = by_action (resolved_action vars action) refl known
    where
      by_action : (o : Option (List Assign)) → resolved_action vars action ≡ o → is_none o ≡ false → action_tokens (named_action vars (assigns_in vars action)) ≡ tokens
      by_action None e h = cc
      by_action (Some bs) e h = rw e (actions_keep_their_tokens vars tokens bs (record { action = action; spelled = a; once = once; known = e }))

  -- behind other tokens
  at_end : (front tokens others : List (List ℕ)) → IsNoLonger tokens others → size (front ++ others) ≤ size (front ++ tokens)
  at_end front tokens others h =
      omega (arith, h.shorter front [], ap (λ (ts : List (List ℕ)). size (front ++ ts)) (append-nil others), ap (λ (ts : List (List ℕ)). size (front ++ ts)) (append-nil tokens))

  -- a statement as it is printed is no longer than its tokens
  no_longer : (tokens : List (List ℕ)) (s : Statement) → IsStated tokens s → is_named s ≡ true → is_known vars s ≡ true → size (spelling (printed vars s)) ≤ size tokens
  no_longer _ _ (view name h) n k = omega arith
  no_longer _ _ (lattice file h) n k = omega arith
  no_longer _ _ (var domain h) n k = omega arith
  no_longer _ _ (init tokens guard g) n k = at_end (codes "init" ∷ []) tokens (guard_tokens (named_guard vars (test_in vars guard))) (guard_shorter tokens guard g (not-true (is_none (resolved vars guard)) k))
  no_longer _ _ (prop name value tokens guard w v g) n k =
      at_end (codes "prop" ∷ name ∷ value ∷ codes "when" ∷ []) tokens (guard_tokens (named_guard vars (test_in vars guard))) (guard_shorter tokens guard g (not-true (is_none (resolved vars guard)) k))
  no_longer _ _ (command name value tokens more guard action w v g a) n k =
      let known = or_parts (is_none (resolved vars guard)) (is_none (resolved_action vars action)) (not-true (is_none (resolved vars guard) || is_none (resolved_action vars action)) k) in
      let once = not-true (sets_twice action) (and_parts (is_name name && is_name value) (not (sets_twice action)) n).1 in
      let front : List (List ℕ) = codes "command" ∷ name ∷ codes "with" ∷ value ∷ codes "when" ∷ [] in
      let others : List (List ℕ) = guard_tokens (named_guard vars (test_in vars guard)) in
      let same = action_same more action a once known.1 in
      omega (arith, (guard_shorter tokens guard g known.0).shorter front (codes "do" ∷ more), ap (λ (ts : List (List ℕ)). size (front ++ (others ++ codes "do" ∷ ts))) same)

  abbrev is_print_short : Statement → Bool
  is_print_short s = is_short (spelling (printed vars s))

  shorter_is_short : (ts us : List (List ℕ)) → size us ≤ size ts → is_short ts ≡ true → is_short us ≡ true
  shorter_is_short ts us h k = le-leb (size us) 4096 (omega (arith, h, leb-true (size ts) 4096 k))

  -- so are all of them where the rows are short
  all_short : (before ss : List Statement) (rows : List Row) → AreStatements view_format before rows ss → list_all is_named ss ≡ true → list_all (is_known vars) ss ≡ true → list_all is_row_short rows ≡ true → list_all is_print_short ss ≡ true
  all_short _ _ _ (none before) n k h = refl
  all_short _ _ _ (next before row rows s more f rest) n k h =
      let names = and_parts (is_named s) (list_all is_named more) n in
      let known = and_parts (is_known vars s) (list_all (is_known vars) more) k in
      let short = and_parts (is_row_short row) (list_all is_row_short rows) h in
      and_from (is_print_short s) (list_all is_print_short more)
      (shorter_is_short row.tokens (spelling (printed vars s)) (no_longer row.tokens s f.due.stated names.0 known.0) short.0)
      (all_short (before ++ s ∷ []) more rows rest names.1 known.1 short.1)

  abbrev is_line_short : Statement → Bool
  is_line_short s = is_short (spelling s)

  -- and the statements of the view that they say
  name_short : (ss : List Statement) → list_all is_print_short ss ≡ true → is_line_short (View (first_of name_in [] ss)) ≡ true
  unfolding spaced
  name_short ss h = first_in name_in is_print_short (λ x. is_line_short (View x)) (name_case (λ s x. is_print_short s ≡ true → is_line_short (View x) ≡ true) (λ x k. k)) [] ss refl h

  lattice_short : (ss : List Statement) → list_all is_print_short ss ≡ true → is_line_short (Lattice (first_of lattice_in [] ss)) ≡ true
  unfolding spaced
  lattice_short ss h = first_in lattice_in is_print_short (λ x. is_line_short (Lattice x)) (lattice_case (λ s x. is_print_short s ≡ true → is_line_short (Lattice x) ≡ true) (λ x k. k)) [] ss refl h

  init_short : (ss : List Statement) → list_all is_print_short ss ≡ true → is_line_short (Init (named_guard vars (first_of (init_in vars) tests.False ss))) ≡ true
  unfolding spaced
  init_short ss h =
      first_in (init_in vars) is_print_short (λ t. is_line_short (Init (named_guard vars t))) (init_case vars (λ s t. is_print_short s ≡ true → is_line_short (Init (named_guard vars t)) ≡ true) (λ guard k. k)) tests.False ss refl h

  -- what is said by statements of one kind
  module _ {X : Type 0} (in_it : Statement → Option X) (say : X → Statement) (each : (s : Statement) (x : X) → in_it s ≡ Some x → is_print_short s ≡ true → is_line_short (say x) ≡ true) where
    kind_short : (ss : List Statement) → list_all is_print_short ss ≡ true → list_all is_line_short (map say (filter_map in_it ss)) ≡ true
    kind_short ss h = list_all-map is_line_short say (filter_map in_it ss) ∙ all_in in_it is_print_short (λ x. is_line_short (say x)) each ss h

  vars_short : (ss : List Statement) → list_all is_print_short ss ≡ true → list_all is_line_short (map Var (vars_of ss)) ≡ true
  vars_short = kind_short var_in Var (var_case (λ s d. is_print_short s ≡ true → is_line_short (Var d) ≡ true) (λ d k. k))

  props_short : (ss : List Statement) → list_all is_print_short ss ≡ true → list_all is_line_short (map (prop_statement vars) (filter_map (prop_in vars) ss)) ≡ true
  props_short = kind_short (prop_in vars) (prop_statement vars) (prop_case vars (λ s l. is_print_short s ≡ true → is_line_short (prop_statement vars l) ≡ true) (λ name value guard k. k))

  commands_short : (ss : List Statement) → list_all is_print_short ss ≡ true → list_all is_line_short (map (command_statement vars) (filter_map (command_in vars) ss)) ≡ true
  commands_short = kind_short (command_in vars) (command_statement vars) (command_case vars (λ s c. is_print_short s ≡ true → is_line_short (command_statement vars c) ≡ true) (λ name value guard action k. k))

  join_short : (xs ys : List Statement) → list_all is_line_short xs ≡ true → list_all is_line_short ys ≡ true → list_all is_line_short (xs ++ ys) ≡ true
  join_short xs ys h k = list_all-append is_line_short xs ys ∙ and_from (list_all is_line_short xs) (list_all is_line_short ys) h k

-- faultless statements are fair
all_fair : (before ss : List Statement) (rows : List Row) → AreStatements view_format before rows ss → IsFair before → IsFair (before ++ ss)
all_fair _ _ _ (none before) h = subst IsFair (sym (append-nil before)) h
all_fair _ _ _ (next before row rows s more f rest) h =
    subst IsFair (append_assoc before (s ∷ []) more) (all_fair (before ++ s ∷ []) more rows rest (next_is_fair before row.tokens s h f))

-- the lines of the view that statements say
lines_short : (ss : List Statement) → list_all (is_print_short (vars_of ss)) ss ≡ true → list_all is_short (view_lines (view_of ss)) ≡ true
lines_short ss h =
    let vars : List Domain = vars_of ss in
    let late : List Statement = map (prop_statement vars) (filter_map (prop_in vars) ss) ++ map (command_statement vars) (filter_map (command_in vars) ss) in
    list_all-map is_short spelling (statements_in (view_of ss))
    ∙ and_from _ _ (name_short vars ss h) (and_from _ _ (lattice_short vars ss h)
    (join_short vars (map Var vars) (Init (named_guard vars (first_of (init_in vars) tests.False ss)) ∷ late) (vars_short vars ss h)
    (and_from _ _ (init_short vars ss h) (join_short vars (map (prop_statement vars) (filter_map (prop_in vars) ss)) (map (command_statement vars) (filter_map (command_in vars) ss)) (props_short vars ss h) (commands_short vars ss h)))))

-- no line of a view that was read from a text is too long
pub read_views_are_short : (text : List ℕ) (rows : List Row) (v : ViewValue) → IsAccepted view_format rows v → AreCut text rows → list_all is_short (view_lines v) ≡ true
read_views_are_short text rows v h cut =
    let fair = all_fair [] h.statements rows h.read none_is_fair in
    ap (λ (w : ViewValue). list_all is_short (view_lines w)) h.says
    ∙ lines_short h.statements (all_short (vars_of h.statements) [] h.statements rows h.read fair.named fair.known (cut_rows_are_short text rows cut))

-- The text that is printed of a guard or an action is read as it.
use Rattle.std.proofs.Common.{◌≡◌, ℕ, ◌<◌, true, List, [], ◌∷◌, ◌++◌, length, length-append, append-nil, codes, refl, sym, ◌∙◌, ap, arith}
use Rattle.std.specs.List.{list_all}
use Rattle.std.proofs.lemmas.Bool.{and_parts, and_from, lt-ltb}
use Rattle.xc_base.specs.Canonical.{spaced, canonical, numbered, are_apart, is_line}
use Rattle.xc_base.specs.Lines.{text_rows}
use Rattle.xc_base.proofs.CanonicalTexts.{canonical_is_cut}
use Rattle.xc_expr_text.proofs.ActionsAgain.{printed_actions_are_read}
use Rattle.xc_expr_text.proofs.GuardsAgain.{printed_guards_are_read}
use Rattle.xc_expr_text.proofs.LineParts.{guards_are_line_parts, actions_are_line_parts}
use Rattle.xc_expr.specs.Actions.{is_action_in_range}
use Rattle.xc_expr_text.specs.LineParts.{IsLinePart}
use Rattle.xc_expr_text.specs.PrintedTexts.{IsTextOfTest, IsTextOfAssigns}
use Rattle.xc_expr_text.specs.Printing.{named_guard, named_action, is_or, is_joined, bracketed, guard_tokens}
use Rattle.xc_expr.specs.Tests.{Test, is_in_range}
use Rattle.xc_forms.specs.Variables.{are_fit}
use Rattle.xc_expr_text.specs.Writable.{has_fit_names, is_clear, is_writable_guard, is_writable_action}
use Rattle.xc_expr.specs.Written.{Written, True, False, Equal, Unequal, Not, And, Or, has_names, action_tokens, assignment_tokens, Assigned, To, Next, Prev, Any}
use Rattle.xc_expr.specs.declared.assign.Assign.{Assign}
use Rattle.xc_forms.specs.declared.domain.Domain.{Domain}

-- tokens, one at least, that can stand in a line are one
pub part_line : (tokens : List (List ℕ)) → 0 < length tokens → IsLinePart tokens → is_line tokens ≡ true
part_line tokens some p =
    and_from _ _ (and_from _ _ (lt-ltb 0 (length tokens) some) p.are_tokens) (sym (ap are_apart (append-nil tokens)) ∙ p.apart [] refl refl)

-- a guard has a token, and so has an action
behind_some : (left : List (List ℕ)) (token : List ℕ) (right : List (List ℕ)) → 0 < length (left ++ token ∷ right)
behind_some left token right = omega (arith, length-append left (token ∷ right))

guard_some : (g : Written) → 0 < length (guard_tokens g)
guard_some True = omega arith
guard_some False = omega arith
guard_some (Equal x w) = omega arith
guard_some (Unequal x w) = omega arith
guard_some (Not g) = omega arith
guard_some (And g h) = behind_some (bracketed (is_or g) (guard_tokens g)) (codes "&") (bracketed (is_joined h) (guard_tokens h))
guard_some (Or g h) = behind_some (guard_tokens g) (codes "|") (bracketed (is_or h) (guard_tokens h))

assignment_some : (a : Assigned) → 0 < length (assignment_tokens a)
assignment_some (To x w) = omega arith
assignment_some (Next x y) = omega arith
assignment_some (Prev x y) = omega arith
assignment_some (Any x) = omega arith

action_some : (action : List Assigned) → 0 < length (action_tokens action)
action_some [] = omega arith
action_some (a ∷ []) = assignment_some a
action_some (a ∷ b ∷ more) = behind_some (assignment_tokens a) (codes ";") (action_tokens (b ∷ more))

-- a line of tokens is cut again
cut_again : (tokens : List (List ℕ)) (text : List ℕ) → is_line tokens ≡ true → text ≡ spaced tokens → text_rows (text ++ 10 ∷ []) ≡ record { number = 1; tokens = tokens } ∷ []
unfolding canonical numbered
cut_again tokens text line e = ap (λ (t : List ℕ). text_rows (t ++ 10 ∷ [])) e ∙ canonical_is_cut (tokens ∷ []) (and_from (is_line tokens) true line refl)

-- the text of a guard that can be written is read as the guard
pub guard_text : (vars : List Domain) (test : Test) (text : List ℕ) → are_fit vars ≡ true → is_in_range vars test ≡ true → text ≡ spaced (guard_tokens (named_guard vars test)) → is_writable_guard vars test ≡ true → IsTextOfTest vars test text
guard_text vars test text fit range e h =
    let g = named_guard vars test in
    let names = (and_parts (has_fit_names g) _ (and_parts _ (is_clear vars test) h).0).0 in
    record {
      tokens = guard_tokens g;
      cut = cut_again (guard_tokens g) text (part_line (guard_tokens g) (guard_some g) (guards_are_line_parts g names)) e;
      read = printed_guards_are_read vars test fit range h;
    }

-- so is that of an action
pub action_text : (vars : List Domain) (assigns : List Assign) (text : List ℕ) → are_fit vars ≡ true → is_action_in_range vars assigns ≡ true → text ≡ spaced (action_tokens (named_action vars assigns)) → is_writable_action vars assigns ≡ true → IsTextOfAssigns vars assigns text
action_text vars assigns text fit range e h =
    let action = named_action vars assigns in
    let names = (and_parts (list_all has_names action) _ h).0 in
    record {
      tokens = action_tokens action;
      cut = cut_again (action_tokens action) text (part_line (action_tokens action) (action_some action) (actions_are_line_parts action names)) e;
      read = printed_actions_are_read vars assigns fit range h;
    }

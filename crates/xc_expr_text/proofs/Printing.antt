-- The steps by which guards and actions are printed.
use Rattle.std.proofs.Common.{◌≡◌, ℕ, suc, ◌+◌, ◌<◌, ◌≤◌, Bool, true, false, List, [], ◌∷◌, ◌++◌, map, length, get_or, drop, drop-cons, add-one, append_assoc, append-nil, codes, refl, sym, ◌∙◌, ap, arith}
use Rattle.std.specs.List.{list_all}
use Rattle.std.proofs.lemmas.List.{map-append, drop_all}
use Rattle.std.proofs.lemmas.List.Sums.{AllPass-from_list_all}
use Rattle.xc_base.specs.Lines.{texts}
use Rattle.xc_base.specs.Words.{is_word}
use Rattle.xc_base.specs.declared.lines.Lexeme.{Lexeme}
use Rattle.xc_expr.specs.Actions.{is_assign_in_range}
use Rattle.xc_expr.specs.Written.{Assigned, assignment_tokens, action_tokens}
use Rattle.xc_expr_text.specs.Printing.{named_assignment, named_action, bracketed, AreMarked}
use Rattle.xc_expr_text.specs.PrintSteps.{only_if, tokens_behind}
use Rattle.xc_expr.specs.declared.assign.Assign.{Assign}
use Rattle.xc_forms.specs.declared.domain.Domain.{Domain}

-- one token more, and none
pub texts_more : (xs : List Lexeme) (x : Lexeme) → texts (xs ++ x ∷ []) ≡ texts xs ++ x.text.now ∷ []
texts_more xs x = map-append (λ (y : Lexeme). y.text.now) xs (x ∷ [])

pub none_more : (ts : List (List ℕ)) → ts ≡ ts ++ []
none_more ts = sym (append-nil ts)

-- one token more that says rightly whether it is a word
pub marked_more : (xs : List Lexeme) (x : Lexeme) → x.word ≡ is_word x.text.now → AreMarked xs → AreMarked (xs ++ x ∷ [])
unfolding AreMarked
marked_more xs x e h =
    map-append (λ (y : Lexeme). y.word) xs (x ∷ []) ∙ ap (λ (bs : List Bool). bs ++ x.word ∷ []) h ∙ ap (λ (b : Bool). map (λ (y : Lexeme). is_word y.text.now) xs ++ b ∷ []) e
    ∙ sym (map-append (λ (y : Lexeme). is_word y.text.now) xs (x ∷ []))

pub marked_none : AreMarked []
unfolding AreMarked
marked_none = refl

-- all steps of one token more
pub ruleset push_steps = (texts_more, marked_more)

-- more tokens
pub texts_both : (xs ys : List Lexeme) → texts (xs ++ ys) ≡ texts xs ++ texts ys
texts_both xs ys = map-append (λ (y : Lexeme). y.text.now) xs ys

pub marked_both : (xs ys : List Lexeme) → AreMarked xs → AreMarked ys → AreMarked (xs ++ ys)
unfolding AreMarked
marked_both xs ys h k =
    map-append (λ (y : Lexeme). y.word) xs ys ∙ ap (λ (bs : List Bool). bs ++ map (λ (y : Lexeme). y.word) ys) h ∙ ap (λ (bs : List Bool). map (λ (y : Lexeme). is_word y.text.now) xs ++ bs) k
    ∙ sym (map-append (λ (y : Lexeme). is_word y.text.now) xs ys)

-- all steps of more tokens
pub ruleset extend_steps = (texts_both, marked_both)

-- brackets
pub bracketed_is : (b : Bool) (ts : List (List ℕ)) → bracketed b ts ≡ (only_if b (codes "(") ++ ts) ++ only_if b (codes ")")
bracketed_is true ts = refl
bracketed_is false ts = sym (append-nil ts)

-- all steps of the tokens of a guard
pub ruleset guard_steps = (bracketed_is, append_assoc)

-- an assignment at a place, and those behind it
pub behind_from : (vars : List Domain) (others : List Assign) (i : ℕ) (d : Assign) → i < length others
    → tokens_behind (named_action vars (drop i others)) ≡ codes ";" ∷ assignment_tokens (named_assignment vars (get_or others i d)) ++ tokens_behind (named_action vars (drop (i + 1) others))
unfolding tokens_behind
behind_from vars others i d h = rw (add-one, drop-cons others i d)

pub behind_none : (ts : List (List ℕ)) → ts ++ tokens_behind [] ≡ ts
unfolding tokens_behind
behind_none ts = append-nil ts

pub assign_at : (vars : List Domain) (others : List Assign) (i : ℕ) (d : Assign) → list_all (is_assign_in_range vars) others ≡ true → i < length others → is_assign_in_range vars (get_or others i d) ≡ true
assign_at vars others i d h within = AllPass-from_list_all (is_assign_in_range vars) others h i d within

-- all steps of the assignments behind the first
pub ruleset action_steps = (behind_from, behind_none, assign_at, append_assoc)

-- the first assignment, and those behind it
pub first_and_behind : (a : Assigned) (more : List Assigned) → action_tokens (a ∷ more) ≡ assignment_tokens a ++ tokens_behind more
unfolding tokens_behind
first_and_behind a [] = sym (append-nil (assignment_tokens a))
first_and_behind a (b ∷ more) = ap (λ (ts : List (List ℕ)). assignment_tokens a ++ codes ";" ∷ ts) (first_and_behind b more)

-- all steps of an action
pub ruleset whole_steps = (first_and_behind, append_assoc)

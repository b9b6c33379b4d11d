-- The tokens of guards and actions can stand in lines, and those of a print are no longer than what was read.
use Rattle.std.proofs.Common.{◌≡◌, ℕ, ◌==◌, ◌&&◌, ◌||◌, not, Bool, true, false, List, [], ◌∷◌, ◌++◌, append_assoc, codes, refl, ◌∙◌, ap, subst, inl, inr, arith}
use Rattle.std.specs.List.{list_all}
use Rattle.std.proofs.lemmas.Bool.{and_parts, and_from, or_cases, or_left, or_right, not-true, ne_eqb, both_ways}
use Rattle.std.proofs.lemmas.List.Folds.{list_all-append}
use Rattle.xc_base.specs.Canonical.{is_symbol, is_token, run_together, are_apart}
use Rattle.xc_base.specs.Text.{joins, joins_next}
use Rattle.xc_base.specs.Words.{is_word_byte, is_word, is_name}
use Rattle.xc_expr_text.specs.PrintLaws.{GuardsAreLineParts, ActionsAreLineParts}
use Rattle.xc_expr_text.specs.LineParts.{IsLinePart}
use Rattle.xc_expr_text.specs.Printing.{guard_tokens}
use Rattle.xc_expr_text.specs.Writable.{depth_of}
use Rattle.xc_expr.specs.Written.{Written, Level, Sum, Product, Basic, IsSpelled, Assigned, To, Next, Prev, Any, assignment_tokens, action_tokens, has_names}
use Rattle.xc_forms.specs.VariableNames.{is_variable_name, is_value_name}
use Rattle.xc_expr.specs.Written.IsSpelled.{truth, falsity, equal, unequal, negated, enclosed, factor, and, summand, or}
use Rattle.xc_expr_text.proofs.GuardPrints.{printed_sum}

-- a word byte is no other byte, and joins nothing that begins a symbol
no_word_byte : (b n : ℕ) → is_word_byte n ≡ false → is_word_byte b ≡ true → (b == n) ≡ false
no_word_byte b n h k = ne_eqb b n (λ (e : b ≡ n). both_ways (is_word_byte n) h (subst (λ (m : ℕ). is_word_byte m ≡ true) e k))

byte_apart : (b c : ℕ) → is_word_byte b ≡ true → is_word_byte c ≡ false → joins b c ≡ false
byte_apart b c h k = rw (h, k, no_word_byte b 58 refl h, no_word_byte b 45 refl h, no_word_byte b 33 refl h) refl

symbol_first : (b : ℕ) (s : List ℕ) → is_word_byte b ≡ true → is_symbol s ≡ true → joins_next b s ≡ false
symbol_first b [] h k = refl
symbol_first b (c ∷ []) h k = byte_apart b c h (not-true (is_word_byte c) (and_parts _ _ (and_parts _ _ k).0).1)
symbol_first b (c ∷ d ∷ []) h k = byte_apart b c h (not-true (is_word_byte c) (and_parts _ _ k).1)
symbol_first b (c ∷ d ∷ e ∷ more) h k = cc

bytes_apart : (w s : List ℕ) → list_all is_word_byte w ≡ true → is_symbol s ≡ true → run_together w s ≡ false
bytes_apart [] s h k = refl
bytes_apart (b ∷ []) s h k = symbol_first b s (and_parts (is_word_byte b) true h).0 k
bytes_apart (b ∷ c ∷ more) s h k = bytes_apart (c ∷ more) s (and_parts (is_word_byte b) (list_all is_word_byte (c ∷ more)) h).1 k

-- a word can stand before each token
word_before : (w next : List ℕ) → is_word w ≡ true → is_token next ≡ true → ((is_word w && is_word next) || not (run_together w next)) ≡ true
word_before w next h k =
    elim (or_cases (is_word next) (is_symbol next) k) [
      | inl word ↦ or_left (is_word w && is_word next) (not (run_together w next)) (and_from _ _ h word)
      | inr symbol ↦ or_right (is_word w && is_word next) (not (run_together w next)) (ap not (bytes_apart w next (and_parts _ (list_all is_word_byte w) h).1 symbol))
    ]

word_apart : (w : List ℕ) (rest : List (List ℕ)) → is_word w ≡ true → list_all is_token rest ≡ true → are_apart rest ≡ true → are_apart (w ∷ rest) ≡ true
word_apart w [] h k a = refl
word_apart w (next ∷ more) h k a = and_from _ _ (word_before w next h (and_parts (is_token next) (list_all is_token more) k).0) a

-- and so can a symbol that joins nothing
sign_apart : (s : List ℕ) (rest : List (List ℕ)) → ((next : List ℕ) → run_together s next ≡ false) → are_apart rest ≡ true → are_apart (s ∷ rest) ≡ true
sign_apart s [] h a = refl
sign_apart s (next ∷ more) h a = and_from _ _ (or_right (is_word s && is_word next) (not (run_together s next)) (ap not (h next))) a

-- a word, and a symbol that joins nothing, as parts of lines
pub word_part : (w : List ℕ) → is_word w ≡ true → IsLinePart (w ∷ [])
word_part w h = record { are_tokens = and_from (is_token w) true (or_left (is_word w) (is_symbol w) h) refl; apart = λ rest k a. word_apart w rest h k a }

sign_part : (s : List ℕ) → is_symbol s ≡ true → ((next : List ℕ) → run_together s next ≡ false) → IsLinePart (s ∷ [])
sign_part s h f = record { are_tokens = and_from (is_token s) true (or_right (is_word s) (is_symbol s) h) refl; apart = λ rest k a. sign_apart s rest f a }

-- parts behind each other
pub both_parts : (left right : List (List ℕ)) → IsLinePart left → IsLinePart right → IsLinePart (left ++ right)
both_parts left right p q = record {
  are_tokens = list_all-append is_token left right ∙ and_from _ _ p.are_tokens q.are_tokens;
  apart = λ rest k a.
      ap are_apart (append_assoc left right rest)
      ∙ p.apart (right ++ rest) (list_all-append is_token right rest ∙ and_from _ _ q.are_tokens k) (q.apart rest k a);
}

-- names are words
name_word : (x : List ℕ) → is_name x ≡ true → is_word x ≡ true
name_word x h = (and_parts (is_word x) _ (and_parts _ _ h).0).0

variable_part : (x : List ℕ) → is_variable_name x ≡ true → IsLinePart (x ∷ [])
variable_part x h = word_part x (name_word x (and_parts (is_name x) _ h).0)

value_part : (w : List ℕ) → is_value_name w ≡ true → IsLinePart (w ∷ [])
value_part w h = word_part w (name_word w (and_parts (is_name w) _ h).0)

-- what a byte that joins nothing ends
ends : (b : ℕ) → ((c : ℕ) → joins b c ≡ false) → (next : List ℕ) → joins_next b next ≡ false
ends b h [] = refl
ends b h (c ∷ next) = h c

-- the symbols of guards and actions, but `!`, join nothing
equals : IsLinePart (codes "=" ∷ [])
equals = sign_part (codes "=") refl (ends 61 (λ c. refl))

differs : IsLinePart (codes "!=" ∷ [])
differs = sign_part (codes "!=") refl (ends 61 (λ c. refl))

opens : IsLinePart (codes "(" ∷ [])
opens = sign_part (codes "(") refl (ends 40 (λ c. refl))

closes : IsLinePart (codes ")" ∷ [])
closes = sign_part (codes ")") refl (ends 41 (λ c. refl))

ands : IsLinePart (codes "&" ∷ [])
ands = sign_part (codes "&") refl (ends 38 (λ c. refl))

ors : IsLinePart (codes "|" ∷ [])
ors = sign_part (codes "|") refl (ends 124 (λ c. refl))

sets : IsLinePart (codes ":=" ∷ [])
sets = sign_part (codes ":=") refl (ends 61 (λ c. refl))

mark : IsLinePart (codes ";" ∷ [])
mark = sign_part (codes ";") refl (ends 59 (λ c. refl))

-- whether tokens begin with one that `!` does not join
abbrev follows_not : List (List ℕ) → Bool
follows_not [] = false
follows_not (token ∷ more) = not (run_together (codes "!") token)

follows_more : (left right : List (List ℕ)) → follows_not left ≡ true → follows_not (left ++ right) ≡ true
follows_more [] right h = cc
follows_more (token ∷ left) right h = h

word_follows : (w : List ℕ) → is_word w ≡ true → not (run_together (codes "!") w) ≡ true
word_follows [] h = cc
word_follows (c ∷ w) h = ap not (no_word_byte c 61 refl (and_parts (is_word_byte c) (list_all is_word_byte w) (and_parts _ (list_all is_word_byte (c ∷ w)) h).1).0)

-- those of a guard do
spelled_follows : (l : Level) (d : ℕ) (tokens : List (List ℕ)) (g : Written) → IsSpelled l d tokens g → follows_not tokens ≡ true
spelled_follows _ _ _ _ (truth d) = refl
spelled_follows _ _ _ _ (falsity d) = refl
spelled_follows _ _ _ _ (equal d x w v n) = word_follows x (name_word x (and_parts (is_name x) _ v).0)
spelled_follows _ _ _ _ (unequal d x w v n) = word_follows x (name_word x (and_parts (is_name x) _ v).0)
spelled_follows _ _ _ _ (negated d tokens g s) = refl
spelled_follows _ _ _ _ (enclosed d tokens g s) = refl
spelled_follows _ _ _ _ (factor d tokens g s) = spelled_follows Basic d tokens g s
spelled_follows _ _ _ _ (and d left right g h s t) = follows_more left (codes "&" ∷ right) (spelled_follows Product d left g s)
spelled_follows _ _ _ _ (summand d tokens g s) = spelled_follows Product d tokens g s
spelled_follows _ _ _ _ (or d left right g h s t) = follows_more left (codes "|" ∷ right) (spelled_follows Sum d left g s)

-- so `!` can stand before them
not_apart : (tokens : List (List ℕ)) → follows_not tokens ≡ true → are_apart tokens ≡ true → are_apart (codes "!" ∷ tokens) ≡ true
not_apart [] h a = refl
not_apart (next ∷ more) h a = and_from _ _ (or_right (is_word (codes "!") && is_word next) (not (run_together (codes "!") next)) h) a

not_part : (tokens : List (List ℕ)) → follows_not tokens ≡ true → IsLinePart tokens → IsLinePart (codes "!" ∷ tokens)
not_part tokens h p = record {
  are_tokens = and_from (is_token (codes "!")) (list_all is_token tokens) refl p.are_tokens;
  apart = λ rest k a. not_apart (tokens ++ rest) (follows_more tokens rest h) (p.apart rest k a);
}

-- the tokens of a guard are a part of a line
pub spelled_part : (l : Level) (d : ℕ) (tokens : List (List ℕ)) (g : Written) → IsSpelled l d tokens g → IsLinePart tokens
spelled_part _ _ _ _ (truth d) = word_part (codes "true") refl
spelled_part _ _ _ _ (falsity d) = word_part (codes "false") refl
spelled_part _ _ _ _ (equal d x w v n) = both_parts (x ∷ []) (codes "=" ∷ w ∷ []) (variable_part x v) (both_parts (codes "=" ∷ []) (w ∷ []) equals (value_part w n))
spelled_part _ _ _ _ (unequal d x w v n) = both_parts (x ∷ []) (codes "!=" ∷ w ∷ []) (variable_part x v) (both_parts (codes "!=" ∷ []) (w ∷ []) differs (value_part w n))
spelled_part _ _ _ _ (negated d tokens g s) = not_part tokens (spelled_follows Basic d tokens g s) (spelled_part Basic d tokens g s)
spelled_part _ _ _ _ (enclosed d tokens g s) = both_parts (codes "(" ∷ []) (tokens ++ codes ")" ∷ []) opens (both_parts tokens (codes ")" ∷ []) (spelled_part Sum d tokens g s) closes)
spelled_part _ _ _ _ (factor d tokens g s) = spelled_part Basic d tokens g s
spelled_part _ _ _ _ (and d left right g h s t) = both_parts left (codes "&" ∷ right) (spelled_part Product d left g s) (both_parts (codes "&" ∷ []) right ands (spelled_part Basic d right h t))
spelled_part _ _ _ _ (summand d tokens g s) = spelled_part Product d tokens g s
spelled_part _ _ _ _ (or d left right g h s t) = both_parts left (codes "|" ∷ right) (spelled_part Sum d left g s) (both_parts (codes "|" ∷ []) right ors (spelled_part Product d right h t))

pub guards_are_line_parts : GuardsAreLineParts
guards_are_line_parts g h = spelled_part Sum (depth_of g) (guard_tokens g) g (printed_sum g (depth_of g) h (omega arith))

-- so are those of an action
setting_part : (x : List ℕ) (right : List (List ℕ)) → is_variable_name x ≡ true → IsLinePart right → IsLinePart (x ∷ codes ":=" ∷ right)
setting_part x right h p = both_parts (x ∷ []) (codes ":=" ∷ right) (variable_part x h) (both_parts (codes ":=" ∷ []) right sets p)

assignment_part : (a : Assigned) → has_names a ≡ true → IsLinePart (assignment_tokens a)
assignment_part (To x w) h = let names = and_parts (is_variable_name x) (is_value_name w) h in setting_part x (w ∷ []) names.0 (value_part w names.1)
assignment_part (Next x y) h =
    let names = and_parts (is_variable_name x) (is_variable_name y) h in
    setting_part x (codes "next" ∷ y ∷ []) names.0 (both_parts (codes "next" ∷ []) (y ∷ []) (word_part (codes "next") refl) (variable_part y names.1))
assignment_part (Prev x y) h =
    let names = and_parts (is_variable_name x) (is_variable_name y) h in
    setting_part x (codes "prev" ∷ y ∷ []) names.0 (both_parts (codes "prev" ∷ []) (y ∷ []) (word_part (codes "prev") refl) (variable_part y names.1))
assignment_part (Any x) h = setting_part x (codes "any" ∷ []) h (word_part (codes "any") refl)

pub actions_are_line_parts : ActionsAreLineParts
actions_are_line_parts [] h = word_part (codes "skip") refl
actions_are_line_parts (a ∷ []) h = assignment_part a (and_parts (has_names a) true h).0
actions_are_line_parts (a ∷ b ∷ more) h =
    let names = and_parts (has_names a) (list_all has_names (b ∷ more)) h in
    both_parts (assignment_tokens a) (codes ";" ∷ action_tokens (b ∷ more)) (assignment_part a names.0)
    (both_parts (codes ";" ∷ []) (action_tokens (b ∷ more)) mark (actions_are_line_parts (b ∷ more) names.1))

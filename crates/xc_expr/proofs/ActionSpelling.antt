-- Tokens are the action that is read from them, and no other.
use Rattle.std.proofs.Common.{◌≡◌, ℕ, Bool, true, false, ◌&&◌, ◌||◌, if◌then◌else◌, List, [], ◌∷◌, ◌++◌, codes, append_assoc, append-nil, Some, None, refl, sym, ◌∙◌, ap, subst}
use Rattle.std.specs.List.{list_all, list_any}
use Rattle.std.specs.Option.{option_map}
use Rattle.std.specs.Str.{bytes_eq}
use Rattle.std.proofs.lemmas.Bool.{both_ways}
use Rattle.xc_base.proofs.Naming.{same_bytes, or_false_left, or_false_right}
use Rattle.xc_expr.proofs.ActionTokens.{token_cons, mark_cons, reads_skip, reads_tokens}
use Rattle.xc_expr.proofs.Choices.{and_left, and_right, both_is, map_is, both_true, both_false}
use Rattle.xc_expr.specs.ActionReading.{is_set, assignment_in, assignments_in, is_mark, is_skip}
use Rattle.xc_expr.specs.Laws.{ActionsAreRead, ActionsAreUnique}
use Rattle.xc_expr.specs.Reading.{action_in}
use Rattle.xc_expr.specs.Resolving.{both}
use Rattle.xc_expr.specs.Written.{Assigned, To, Next, Prev, Any, assignment_tokens, action_tokens, has_names, IsAction}
use Rattle.xc_forms.specs.VariableNames.{is_variable_name, is_value_name}

-- the tokens are that assignment
pub record IsAssignment (tokens : List (List ℕ)) (a : Assigned) : Type 0 where
  pub spelled : tokens ≡ assignment_tokens a
  pub named : has_names a ≡ true

word_sound : (x sign w : List ℕ) (a : Assigned) (set any name : Bool) → is_set x sign ≡ set → bytes_eq w (codes "any") ≡ any → is_value_name w ≡ name → (if set then (if any then Some (Any x) else (if name then Some (To x w) else None)) else None) ≡ Some a → IsAssignment (x ∷ sign ∷ w ∷ []) a
word_sound x sign w a false any name s t n e = cc
word_sound x sign w a true true name s t n e =
    let same : Any x ≡ a = cc in
    let sign_is = same_bytes sign (codes ":=") (and_right (is_variable_name x) (bytes_eq sign (codes ":=")) s) in
    let word_is = same_bytes w (codes "any") t in
    subst (IsAssignment (x ∷ sign ∷ w ∷ [])) same (record { spelled = cc; named = and_left (is_variable_name x) (bytes_eq sign (codes ":=")) s })
word_sound x sign w a true false true s t n e =
    let same : To x w ≡ a = cc in
    let sign_is = same_bytes sign (codes ":=") (and_right (is_variable_name x) (bytes_eq sign (codes ":=")) s) in
    subst (IsAssignment (x ∷ sign ∷ w ∷ [])) same (record { spelled = cc; named = both_true (is_variable_name x) (is_value_name w) (and_left (is_variable_name x) (bytes_eq sign (codes ":=")) s) n })
word_sound x sign w a true false false s t n e = cc

step_sound : (x sign step y : List ℕ) (a : Assigned) (set next prev : Bool) → (is_set x sign && is_variable_name y) ≡ set → bytes_eq step (codes "next") ≡ next → bytes_eq step (codes "prev") ≡ prev → (if set then (if next then Some (Next x y) else (if prev then Some (Prev x y) else None)) else None) ≡ Some a → IsAssignment (x ∷ sign ∷ step ∷ y ∷ []) a
step_sound x sign step y a false next prev s t n e = cc
step_sound x sign step y a true true prev s t n e =
    let same : Next x y ≡ a = cc in
    let set = and_left (is_set x sign) (is_variable_name y) s in
    let sign_is = same_bytes sign (codes ":=") (and_right (is_variable_name x) (bytes_eq sign (codes ":=")) set) in
    let step_is = same_bytes step (codes "next") t in
    subst (IsAssignment (x ∷ sign ∷ step ∷ y ∷ [])) same (record { spelled = cc; named = both_true (is_variable_name x) (is_variable_name y) (and_left (is_variable_name x) (bytes_eq sign (codes ":=")) set) (and_right (is_set x sign) (is_variable_name y) s) })
step_sound x sign step y a true false true s t n e =
    let same : Prev x y ≡ a = cc in
    let set = and_left (is_set x sign) (is_variable_name y) s in
    let sign_is = same_bytes sign (codes ":=") (and_right (is_variable_name x) (bytes_eq sign (codes ":=")) set) in
    let step_is = same_bytes step (codes "prev") n in
    subst (IsAssignment (x ∷ sign ∷ step ∷ y ∷ [])) same (record { spelled = cc; named = both_true (is_variable_name x) (is_variable_name y) (and_left (is_variable_name x) (bytes_eq sign (codes ":=")) set) (and_right (is_set x sign) (is_variable_name y) s) })
step_sound x sign step y a true false false s t n e = cc

-- what is read as an assignment is spelled so
pub assignment_sound : (tokens : List (List ℕ)) (a : Assigned) → assignment_in tokens ≡ Some a → IsAssignment tokens a
unfolding assignment_in
assignment_sound [] a e = cc
assignment_sound (x ∷ []) a e = cc
assignment_sound (x ∷ sign ∷ []) a e = cc
assignment_sound (x ∷ sign ∷ w ∷ []) a e = word_sound x sign w a (is_set x sign) (bytes_eq w (codes "any")) (is_value_name w) refl refl refl e
assignment_sound (x ∷ sign ∷ step ∷ y ∷ []) a e = step_sound x sign step y a (is_set x sign && is_variable_name y) (bytes_eq step (codes "next")) (bytes_eq step (codes "prev")) refl refl refl e
assignment_sound (x ∷ sign ∷ step ∷ y ∷ other ∷ more) a e = cc

-- a text that a test refuses is not a word that it takes
differs : (p : List ℕ → Bool) (text word : List ℕ) (b : Bool) → bytes_eq text word ≡ b → p text ≡ true → p word ≡ false → b ≡ false
differs p text word true e h k = absurd (both_ways (p word) k (subst (λ (t : List ℕ). p t ≡ true) (same_bytes text word e) h))
differs p text word false e h k = refl

-- which of two is taken
first_of_two : {X : Type 0} (a b c : Bool) (p q : X) → a ≡ true → b ≡ true → (if a then (if b then Some p else (if c then Some q else None)) else None) ≡ Some p
first_of_two true true c p q h k = refl
first_of_two true false c p q h k = cc
first_of_two false b c p q h k = cc

second_of_two : {X : Type 0} (a b c : Bool) (p q : X) → a ≡ true → b ≡ false → c ≡ true → (if a then (if b then Some p else (if c then Some q else None)) else None) ≡ Some q
second_of_two true true c p q h k l = cc
second_of_two true false true p q h k l = refl
second_of_two true false false p q h k l = cc
second_of_two false b c p q h k l = cc

-- a variable behind which `:=` stands
set_here : (x : List ℕ) → is_variable_name x ≡ true → is_set x (codes ":=") ≡ true
set_here x h = both_true (is_variable_name x) (bytes_eq (codes ":=") (codes ":=")) h refl

set_from : (x y : List ℕ) → (is_variable_name x && is_variable_name y) ≡ true → (is_set x (codes ":=") && is_variable_name y) ≡ true
set_from x y h = both_true (is_set x (codes ":=")) (is_variable_name y) (set_here x (and_left (is_variable_name x) (is_variable_name y) h)) (and_right (is_variable_name x) (is_variable_name y) h)

-- what is spelled so is read as that assignment
pub assignment_complete : (a : Assigned) → has_names a ≡ true → assignment_in (assignment_tokens a) ≡ Some a
unfolding assignment_in
assignment_complete (To x w) h =
    let name = and_right (is_variable_name x) (is_value_name w) h in
    second_of_two (is_set x (codes ":=")) (bytes_eq w (codes "any")) (is_value_name w) (Any x) (To x w)
    (set_here x (and_left (is_variable_name x) (is_value_name w) h))
    (differs is_value_name w (codes "any") (bytes_eq w (codes "any")) refl name refl) name
assignment_complete (Next x y) h = first_of_two (is_set x (codes ":=") && is_variable_name y) true false (Next x y) (Prev x y) (set_from x y h) refl
assignment_complete (Prev x y) h = second_of_two (is_set x (codes ":=") && is_variable_name y) false true (Next x y) (Prev x y) (set_from x y h) refl refl
assignment_complete (Any x) h = first_of_two (is_set x (codes ":=")) true false (Any x) (To x (codes "any")) (set_here x h) refl

-- whether a `;` is among tokens
abbrev has_mark : List (List ℕ) → Bool
has_mark tokens = list_any is_mark tokens

variable_is_no_mark : (x : List ℕ) → is_variable_name x ≡ true → is_mark x ≡ false
variable_is_no_mark x h = differs is_variable_name x (codes ";") (is_mark x) refl h refl

pub no_mark_in : (a : Assigned) → has_names a ≡ true → has_mark (assignment_tokens a) ≡ false
no_mark_in (To x w) h =
    both_false (is_mark x) (is_mark w || false) (variable_is_no_mark x (and_left (is_variable_name x) (is_value_name w) h))
    (both_false (is_mark w) false (differs is_value_name w (codes ";") (is_mark w) refl (and_right (is_variable_name x) (is_value_name w) h) refl) refl)
no_mark_in (Next x y) h =
    both_false (is_mark x) (is_mark y || false) (variable_is_no_mark x (and_left (is_variable_name x) (is_variable_name y) h))
    (both_false (is_mark y) false (variable_is_no_mark y (and_right (is_variable_name x) (is_variable_name y) h)) refl)
no_mark_in (Prev x y) h =
    both_false (is_mark x) (is_mark y || false) (variable_is_no_mark x (and_left (is_variable_name x) (is_variable_name y) h))
    (both_false (is_mark y) false (variable_is_no_mark y (and_right (is_variable_name x) (is_variable_name y) h)) refl)
no_mark_in (Any x) h = both_false (is_mark x) false (variable_is_no_mark x h) refl

-- tokens without `;` are taken
taken : (begun front rest : List (List ℕ)) → has_mark front ≡ false → assignments_in begun (front ++ rest) ≡ assignments_in (begun ++ front) rest
taken begun [] rest h = rw append-nil refl
taken begun (token ∷ front) rest h =
    token_cons begun token (front ++ rest) (or_false_left (is_mark token) (has_mark front) h)
    ∙ taken (begun ++ token ∷ []) front rest (or_false_right (is_mark token) (has_mark front) h)
    ∙ ap (λ (some : List (List ℕ)). assignments_in some rest) (append_assoc begun (token ∷ []) front)

-- an action of one assignment or more
abbrev AreAssignments : List (List ℕ) → List Assigned → Type 0
AreAssignments tokens action = (a : Assigned) × (more : List Assigned) × (a ∷ more ≡ action) × IsAction tokens (a ∷ more)

one_sound : (begun : List (List ℕ)) (action : List Assigned) → option_map (λ a. a ∷ []) (assignment_in begun) ≡ Some action → AreAssignments (begun ++ []) action
one_sound begun action e =
    let found = map_is (λ a. a ∷ []) (assignment_in begun) action e in
    let is = assignment_sound begun found.0 found.1 in
    let spelled : begun ++ [] ≡ assignment_tokens found.0 = append-nil begun ∙ is.spelled in
    (found.0, [], found.2, record { spelled = spelled; named = both_true (has_names found.0) true is.named refl })

mark_sound : (begun : List (List ℕ)) (token : List ℕ) (tokens : List (List ℕ)) (action : List Assigned) → is_mark token ≡ true → both (λ a more. a ∷ more) (assignment_in begun) (assignments_in [] tokens) ≡ Some action → ((others : List Assigned) → assignments_in [] tokens ≡ Some others → AreAssignments tokens others) → AreAssignments (begun ++ token ∷ tokens) action
mark_sound begun token tokens action h e below =
    let found = both_is (λ a more. a ∷ more) (assignment_in begun) (assignments_in [] tokens) action e in
    let a = found.0 in
    let is = assignment_sound begun a found.2 in
    let others = below found.1 found.3 in
    let mark = same_bytes token (codes ";") h in
    let spelled : begun ++ token ∷ tokens ≡ assignment_tokens a ++ codes ";" ∷ action_tokens (others.0 ∷ others.1) = cc (is.spelled, others.3.spelled) in (
      a,
      others.0 ∷ others.1,
      ap (λ (rest : List Assigned). a ∷ rest) others.2 ∙ found.4,
      record { spelled = spelled; named = both_true (has_names a) (list_all has_names (others.0 ∷ others.1)) is.named others.3.named },
    )

token_sound : (begun : List (List ℕ)) (token : List ℕ) (tokens : List (List ℕ)) (action : List Assigned) (b : Bool) → is_mark token ≡ b → assignments_in begun (token ∷ tokens) ≡ Some action → ((others : List Assigned) → assignments_in [] tokens ≡ Some others → AreAssignments tokens others) → ((others : List Assigned) → assignments_in (begun ++ token ∷ []) tokens ≡ Some others → AreAssignments ((begun ++ token ∷ []) ++ tokens) others) → AreAssignments (begun ++ token ∷ tokens) action
token_sound begun token tokens action true h e below on = mark_sound begun token tokens action h (sym (mark_cons begun token tokens h) ∙ e) below
token_sound begun token tokens action false h e below on =
    subst (λ (ts : List (List ℕ)). AreAssignments ts action) (append_assoc begun (token ∷ []) tokens) (on action (sym (token_cons begun token tokens h) ∙ e))

-- what is read is spelled so
assignments_sound : (tokens begun : List (List ℕ)) (action : List Assigned) → assignments_in begun tokens ≡ Some action → AreAssignments (begun ++ tokens) action
unfolding assignments_in
assignments_sound [] begun action e = one_sound begun action e
assignments_sound (token ∷ tokens) begun action e =
    token_sound begun token tokens action (is_mark token) refl e (λ others. assignments_sound tokens [] others) (λ others. assignments_sound tokens (begun ++ token ∷ []) others)

skip_is : (tokens : List (List ℕ)) → is_skip tokens ≡ true → tokens ≡ codes "skip" ∷ []
skip_is [] e = cc
skip_is (token ∷ []) e = ap (λ (t : List ℕ). t ∷ []) (same_bytes token (codes "skip") e)
skip_is (token ∷ other ∷ more) e = cc

sound_by : (tokens : List (List ℕ)) (action : List Assigned) (b : Bool) → is_skip tokens ≡ b → action_in tokens ≡ Some action → IsAction tokens action
sound_by tokens action true h e =
    let none : [] ≡ action = cc (reads_skip tokens h) in
    subst (IsAction tokens) none (record { spelled = skip_is tokens h; named = refl })
sound_by tokens action false h e =
    let are = assignments_sound tokens [] action (sym (reads_tokens tokens h) ∙ e) in
    subst (IsAction tokens) are.2 are.3

pub action_sound : (tokens : List (List ℕ)) (action : List Assigned) → action_in tokens ≡ Some action → IsAction tokens action
action_sound tokens action e = sound_by tokens action (is_skip tokens) refl e

one_complete : (begun : List (List ℕ)) (a : Assigned) → assignment_in begun ≡ Some a → assignments_in begun [] ≡ Some (a ∷ [])
unfolding assignments_in
one_complete begun a e = rw e refl

-- what is spelled so is read
assignments_complete : (a : Assigned) (more : List Assigned) → list_all has_names (a ∷ more) ≡ true → assignments_in [] (action_tokens (a ∷ more)) ≡ Some (a ∷ more)
assignments_complete a [] h =
    let tokens = assignment_tokens a in
    let named = and_left (has_names a) true h in
    sym (ap (assignments_in []) (append-nil tokens)) ∙ taken [] tokens [] (no_mark_in a named) ∙ one_complete tokens a (assignment_complete a named)
assignments_complete a (b ∷ more) h =
    let tokens = assignment_tokens a in
    let named = and_left (has_names a) (list_all has_names (b ∷ more)) h in
    let rest = action_tokens (b ∷ more) in
    let first = assignment_complete a named in
    let others = assignments_complete b more (and_right (has_names a) (list_all has_names (b ∷ more)) h) in
    let joined : both (λ c d. c ∷ d) (assignment_in tokens) (assignments_in [] rest) ≡ Some (a ∷ b ∷ more) = rw (first, others) refl in
    taken [] tokens (codes ";" ∷ rest) (no_mark_in a named) ∙ mark_cons tokens (codes ";") rest refl ∙ joined

-- assignments are not `skip`
not_skip : (a : Assigned) (more : List Assigned) → is_skip (action_tokens (a ∷ more)) ≡ false
not_skip (To x w) [] = refl
not_skip (Next x y) [] = refl
not_skip (Prev x y) [] = refl
not_skip (Any x) [] = refl
not_skip (To x w) (b ∷ more) = refl
not_skip (Next x y) (b ∷ more) = refl
not_skip (Prev x y) (b ∷ more) = refl
not_skip (Any x) (b ∷ more) = refl

tokens_complete : (action : List Assigned) → list_all has_names action ≡ true → action_in (action_tokens action) ≡ Some action
tokens_complete [] h = reads_skip (codes "skip" ∷ []) refl
tokens_complete (a ∷ more) h = reads_tokens (action_tokens (a ∷ more)) (not_skip a more) ∙ assignments_complete a more h

pub action_complete : (tokens : List (List ℕ)) (action : List Assigned) → IsAction tokens action → action_in tokens ≡ Some action
action_complete tokens action h = ap action_in h.spelled ∙ tokens_complete action h.named

pub actions_are_read : ActionsAreRead
actions_are_read tokens action = (action_sound tokens action, action_complete tokens action)

pub actions_are_unique : ActionsAreUnique
actions_are_unique tokens action other h k = cc (action_complete tokens action h, action_complete tokens other k)

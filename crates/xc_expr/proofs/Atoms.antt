-- What is read as an atom of guards is spelled so, what is spelled so is read, and its tokens are no others.
use Rattle.std.proofs.Common.{◌≡◌, ℕ, zero, suc, ◌<◌, Bool, true, false, cond, List, [], ◌∷◌, ◌++◌, codes, Some, None, refl, subst, ap, arith}
use Rattle.std.specs.Str.{bytes_eq}
use Rattle.std.proofs.lemmas.Bool.{false≢true}
use Rattle.std.proofs.lemmas.Option.{none-some, same_Some}
use Rattle.xc_base.specs.Operators.{Front, Begins}
use Rattle.xc_base.specs.Words.{is_word}
use Rattle.xc_base.proofs.Naming.{same_bytes}
use Rattle.xc_forms.specs.VariableNames.{is_variable_name, is_value_name}
use Rattle.xc_grammar.specs.Reading.{Reads}
use Rattle.xc_expr.specs.Written.{Written, True, False, Equal, Unequal}
use Rattle.xc_expr.specs.GuardReading.{IsAtom, guards, guard_mark, comparison, literal, atom}
use Rattle.xc_expr.specs.GuardReading.IsAtom.{truth, falsity, equal, unequal}
use Rattle.xc_expr.proofs.Choices.{and_left}

-- the names of variables and values are words
pub variable_is_word : (x : List ℕ) → is_variable_name x ≡ true → is_word x ≡ true
variable_is_word x v = and_left _ _ (and_left _ _ (and_left _ _ v))

pub value_is_word : (w : List ℕ) → is_value_name w ≡ true → is_word w ≡ true
value_is_word w n = and_left _ _ (and_left _ _ (and_left _ _ n))

pub ruleset names_are_words = (variable_is_word, value_is_word)

-- tokens that begin with an atom
begins_with : (front rest tokens : List (List ℕ)) (g : Written) (f : Front Written) → tokens ≡ front ++ rest → IsAtom front g → Some (record { tree = g; rest = rest }) ≡ Some f → Begins IsAtom tokens f
begins_with front rest tokens g f cut s e = subst (λ (x : Front Written). Begins IsAtom tokens x) (same_Some _ _ e) (record { front = front; cut = cut; spelled = s })

-- a comparison, by the outcomes of its tests
comparison_by : (x sign w : List ℕ) (rest : List (List ℕ)) (f : Front Written) → is_variable_name x ≡ true
    → (named is_equal is_unequal : Bool) → is_value_name w ≡ named → bytes_eq sign (codes "=") ≡ is_equal → bytes_eq sign (codes "!=") ≡ is_unequal
    → cond named (cond is_equal (Some (record { tree = Equal x w; rest = rest })) (cond is_unequal (Some (record { tree = Unequal x w; rest = rest })) None)) None ≡ Some f
    → Begins IsAtom (x ∷ sign ∷ w ∷ rest) f
comparison_by x sign w rest f v false a b n p q e = absurd (none-some f e)
comparison_by x sign w rest f v true true b n p q e = begins_with (x ∷ codes "=" ∷ w ∷ []) rest (x ∷ sign ∷ w ∷ rest) (Equal x w) f (ap (λ (s : List ℕ). x ∷ s ∷ w ∷ rest) (same_bytes sign (codes "=") p)) (equal x w v n) e
comparison_by x sign w rest f v true false true n p q e = begins_with (x ∷ codes "!=" ∷ w ∷ []) rest (x ∷ sign ∷ w ∷ rest) (Unequal x w) f (ap (λ (s : List ℕ). x ∷ s ∷ w ∷ rest) (same_bytes sign (codes "!=") q)) (unequal x w v n) e
comparison_by x sign w rest f v true false false n p q e = absurd (none-some f e)

comparison_sound : (x : List ℕ) (tokens : List (List ℕ)) (f : Front Written) → is_variable_name x ≡ true → comparison x tokens ≡ Some f → Begins IsAtom (x ∷ tokens) f
comparison_sound x [] f v e = absurd (none-some f e)
comparison_sound x (sign ∷ []) f v e = absurd (none-some f e)
comparison_sound x (sign ∷ w ∷ rest) f v e = comparison_by x sign w rest f v (is_value_name w) (bytes_eq sign (codes "=")) (bytes_eq sign (codes "!=")) refl refl refl e

-- `true` and `false`
literal_by : (token : List ℕ) (rest : List (List ℕ)) (f : Front Written) (is_true is_false : Bool) → bytes_eq token (codes "true") ≡ is_true → bytes_eq token (codes "false") ≡ is_false
    → cond is_true (Some (record { tree = True; rest = rest })) (cond is_false (Some (record { tree = False; rest = rest })) None) ≡ Some f → Begins IsAtom (token ∷ rest) f
literal_by token rest f true b p q e = begins_with (codes "true" ∷ []) rest (token ∷ rest) True f (ap (λ (t : List ℕ). t ∷ rest) (same_bytes token (codes "true") p)) truth e
literal_by token rest f false true p q e = begins_with (codes "false" ∷ []) rest (token ∷ rest) False f (ap (λ (t : List ℕ). t ∷ rest) (same_bytes token (codes "false") q)) falsity e
literal_by token rest f false false p q e = absurd (none-some f e)

-- an atom, by whether it begins with a variable
atom_by : (token : List ℕ) (rest : List (List ℕ)) (f : Front Written) (b : Bool) → is_variable_name token ≡ b → cond b (comparison token rest) (literal token rest) ≡ Some f → Begins IsAtom (token ∷ rest) f
atom_by token rest f true v e = comparison_sound token rest f v e
atom_by token rest f false v e = literal_by token rest f (bytes_eq token (codes "true")) (bytes_eq token (codes "false")) refl refl e

atom_sound : (tokens : List (List ℕ)) (f : Front Written) → atom tokens ≡ Some f → Begins IsAtom tokens f
unfolding atom
atom_sound [] f e = absurd (none-some f e)
atom_sound (token ∷ rest) f e = atom_by token rest f (is_variable_name token) refl e

atom_complete : (tokens rest : List (List ℕ)) (g : Written) → IsAtom tokens g → atom (tokens ++ rest) ≡ Some (record { tree = g; rest = rest })
unfolding atom
atom_complete _ rest _ truth = refl
atom_complete _ rest _ falsity = refl
atom_complete _ rest _ (equal x w v n) = rw (v, n)
atom_complete _ rest _ (unequal x w v n) = rw (v, n)

-- no atom begins with `!` or `(`
no_prefix : (token : List ℕ) (rest : List (List ℕ)) → bytes_eq token (codes "!") ≡ true → atom (token ∷ rest) ≡ None
unfolding atom
no_prefix token rest h = rw (same_bytes token (codes "!") h) refl

no_bracket : (rest : List (List ℕ)) → atom (codes "(" ∷ rest) ≡ None
unfolding atom
no_bracket rest = refl

-- `&` is not `|`, and neither closes brackets
different : (n m : ℕ) → n < m → m < 2 → bytes_eq (guard_mark m) (guard_mark n) ≡ false
different zero zero h k = absurd (omega arith)
different zero (suc m) h k = refl
different (suc n) zero h k = absurd (omega arith)
different (suc n) (suc m) h k = absurd (omega arith)

closing : (n : ℕ) → n < 2 → (bytes_eq (codes ")") (guard_mark n) ≡ false) × (bytes_eq (codes "]") (guard_mark n) ≡ false) × (bytes_eq (codes "U") (guard_mark n) ≡ false)
closing zero h = (refl, refl, refl)
closing (suc n) h = (refl, refl, refl)

-- so guards are read as the general parser wants it
pub guards_read : Reads guards atom
guards_read = record {
  sound = record { begins = atom_sound };
  complete = atom_complete;
  no_prefix = no_prefix;
  no_pair = λ token rest h. absurd (false≢true h);
  no_bracket = no_bracket;
  bracket = (refl, refl);
  different = different;
  closing = closing;
  few = omega arith;
}

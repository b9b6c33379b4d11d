-- Guards as a kind of expressions, and how one with no guard in it is read from the front of tokens.
use Rattle.std.specs.Prelude.{◌≡◌, ℕ, zero, suc, true, false, if◌then◌else◌, List, [], ◌∷◌, Option, Some, None, codes}
use Rattle.std.specs.Str.{bytes_eq}
use Rattle.xc_base.specs.Operators.{Front}
use Rattle.xc_forms.specs.VariableNames.{is_variable_name, is_value_name}
use Rattle.xc_grammar.specs.Grammars.{Grammar}
use Rattle.xc_expr.specs.Written.{Written, True, False, Equal, Unequal, Not, And, Or}

-- the tokens are that guard, which has no guard in it
pub data IsAtom : List (List ℕ) → Written → Type 0 where
  truth : IsAtom (codes "true" ∷ []) True
  falsity : IsAtom (codes "false" ∷ []) False
  equal : (x w : List ℕ) → is_variable_name x ≡ true → is_value_name w ≡ true → IsAtom (x ∷ codes "=" ∷ w ∷ []) (Equal x w)
  unequal : (x w : List ℕ) → is_variable_name x ≡ true → is_value_name w ≡ true → IsAtom (x ∷ codes "!=" ∷ w ∷ []) (Unequal x w)

-- the token of each operator, and what it makes of two guards
abbrev pub guard_mark : ℕ → List ℕ
guard_mark zero = codes "&"
guard_mark (suc n) = codes "|"

abbrev pub guard_join : ℕ → Written → Written → Written
guard_join zero g h = And g h
guard_join (suc n) g h = Or g h

-- `!` before a guard, and `&` and `|` between guards, of which `&` binds more; no pairs, and nothing that groups to the right
abbrev pub guards : Grammar Written
guards = record {
  IsAtom = IsAtom;
  is_prefix = λ token. bytes_eq token (codes "!");
  apply = λ token g. Not g;
  is_pair = λ token. false;
  pair = λ token g h. g;
  count = 2;
  mark = guard_mark;
  join = guard_join;
  arrow = false;
}

-- a variable with what is asked of it, by the tokens behind its name
abbrev pub comparison : List ℕ → List (List ℕ) → Option (Front Written)
comparison x [] = None
comparison x (sign ∷ []) = None
comparison x (sign ∷ w ∷ rest) =
    if is_value_name w then
    (if bytes_eq sign (codes "=") then Some (record { tree = Equal x w; rest = rest }) else
    if bytes_eq sign (codes "!=") then Some (record { tree = Unequal x w; rest = rest }) else None)
    else None

-- `true` or `false`
abbrev pub literal : List ℕ → List (List ℕ) → Option (Front Written)
literal token rest =
    if bytes_eq token (codes "true") then Some (record { tree = True; rest = rest }) else
    if bytes_eq token (codes "false") then Some (record { tree = False; rest = rest }) else None

-- a guard with no guard in it
unfoldable pub atom : List (List ℕ) → Option (Front Written)
atom [] = None
atom (token ∷ rest) = if is_variable_name token then comparison token rest else literal token rest

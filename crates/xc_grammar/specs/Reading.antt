-- How a tree is read from the front of tokens: functions that decide what the relation of its spelling says.
use Rattle.std.specs.Prelude.{◌≡◌, ◌<◌, ◌≤◌, ℕ, zero, suc, true, false, if◌then◌else◌, List, [], ◌∷◌, ◌++◌, Option, Some, None, option_map, option_and_then, codes}
use Rattle.std.specs.Str.{bytes_eq}
use Rattle.xc_base.specs.Operators.{Front, behind, chained, whole, IsSound}
use Rattle.xc_grammar.specs.Grammars.{Grammar, top}
use Rattle.xc_grammar.specs.Righted.{righted}

-- with `)` behind it, which is taken off
abbrev pub closed : {T : Type 0} → Option (Front T) → Option (Front T)
closed front = option_and_then (λ f. option_map (λ more. record { tree = f.tree; rest = more }) (behind (codes ")") f.rest)) front

-- the first of two that is there
abbrev pub or_else : {X : Type 0} → Option X → Option X → Option X
or_else None other = other
or_else (Some x) other = Some x

-- with a prefix before it
abbrev pub applied : {T : Type 0} → Grammar T → List ℕ → Option (Front T) → Option (Front T)
applied g token front = option_map (λ f. record { tree = g.apply token f.tree; rest = f.rest }) front

-- what is read between operators of which so many bind at least as much
unfoldable pub level_by : {T : Type 0} → Grammar T → ℕ → (List (List ℕ) → Option (Front T)) → List (List ℕ) → Option (Front T)
level_by g zero inner tokens = inner tokens
level_by g (suc n) inner tokens = chained (g.mark n) (g.join n) (level_by g n inner) tokens

-- the same with the operator that groups to the right
unfoldable pub whole_by : {T : Type 0} → Grammar T → (List (List ℕ) → Option (Front T)) → List (List ℕ) → Option (Front T)
whole_by g inner tokens = if g.arrow then righted (g.mark g.count) (g.join g.count) (level_by g g.count inner) tokens else level_by g g.count inner tokens

-- with a first tree and `U` before it and `]` behind it, which is taken off
abbrev pub pair_closed : {T : Type 0} → Grammar T → List ℕ → T → Option (Front T) → Option (Front T)
pair_closed g token a front = option_and_then (λ f. option_map (λ more. record { tree = g.pair token a f.tree; rest = more }) (behind (codes "]") f.rest)) front

-- what comes of a first tree, and of the tokens behind `U` where it follows
abbrev pub pair_second : {T : Type 0} → Grammar T → List ℕ → (List (List ℕ) → Option (Front T)) → Front T → Option (Front T)
pair_second g token all f = option_and_then (λ more. pair_closed g token f.tree (all more)) (behind (codes "U") f.rest)

-- two trees with `[` before them, `U` between them and `]` behind them
unfoldable pub pair_of : {T : Type 0} → Grammar T → List ℕ → (List (List ℕ) → Option (Front T)) → List (List ℕ) → Option (Front T)
pair_of g token all tokens = option_and_then (λ more. option_and_then (pair_second g token all) (all more)) (behind (codes "[") tokens)

-- what comes of a token before two trees, or of `(`, and of the tokens behind it
abbrev pub in_brackets : {T : Type 0} → Grammar T → List ℕ → (List (List ℕ) → Option (Front T)) → List (List ℕ) → Option (Front T)
in_brackets g token all rest =
    if g.is_pair token then pair_of g token all rest else
    if bytes_eq token (codes "(") then closed (all rest) else None

-- what comes of a prefix, or of a token before brackets, and of the tokens behind it
abbrev pub under : {T : Type 0} → Grammar T → (List (List ℕ) → Option (Front T)) → List ℕ → List (List ℕ) → Option (Front T)
under g inner token rest = if g.is_prefix token then applied g token (inner rest) else in_brackets g token (whole_by g inner) rest

-- the same of the first token and those behind it
abbrev pub nested_by : {T : Type 0} → Grammar T → (List (List ℕ) → Option (Front T)) → List (List ℕ) → Option (Front T)
nested_by g inner [] = None
nested_by g inner (token ∷ rest) = under g inner token rest

module _ {T : Type 0} (g : Grammar T) (atom : List (List ℕ) → Option (Front T)) where
  -- a tree with no operator outside of brackets, with at most so many prefixes and brackets around each other
  unfoldable pub basic : ℕ → List (List ℕ) → Option (Front T)
  basic zero tokens = atom tokens
  basic (suc d) tokens = or_else (atom tokens) (nested_by g (basic d) tokens)

  -- the part of it that has prefixes or brackets
  unfoldable pub nested : ℕ → List (List ℕ) → Option (Front T)
  nested zero tokens = None
  nested (suc d) tokens = nested_by g (basic d) tokens

  -- the same between operators
  unfoldable pub level : ℕ → ℕ → List (List ℕ) → Option (Front T)
  level n d tokens = level_by g n (basic d) tokens

  unfoldable pub whole_at : ℕ → List (List ℕ) → Option (Front T)
  whole_at d tokens = whole_by g (basic d) tokens

  -- the tree that all the tokens are
  unfoldable pub tree_in : ℕ → List (List ℕ) → Option T
  tree_in d tokens = whole (whole_at d tokens)

-- what a reader of atoms and the tokens of a grammar have to be
pub record Reads {T : Type 0} (g : Grammar T) (atom : List (List ℕ) → Option (Front T)) : Type 0 where
  pub sound : IsSound g.IsAtom atom
  pub complete : (tokens rest : List (List ℕ)) (t : T) → g.IsAtom tokens t → atom (tokens ++ rest) ≡ Some (record { tree = t; rest = rest })
  pub no_prefix : (token : List ℕ) (rest : List (List ℕ)) → g.is_prefix token ≡ true → atom (token ∷ rest) ≡ None
  pub no_pair : (token : List ℕ) (rest : List (List ℕ)) → g.is_pair token ≡ true → (g.is_prefix token ≡ false) × (atom (token ∷ rest) ≡ None)
  pub no_bracket : (rest : List (List ℕ)) → atom (codes "(" ∷ rest) ≡ None
  pub bracket : (g.is_prefix (codes "(") ≡ false) × (g.is_pair (codes "(") ≡ false)
  pub different : (n m : ℕ) → n < m → m < top g → bytes_eq (g.mark m) (g.mark n) ≡ false
  pub closing : (n : ℕ) → n < top g → (bytes_eq (codes ")") (g.mark n) ≡ false) × (bytes_eq (codes "]") (g.mark n) ≡ false) × (bytes_eq (codes "U") (g.mark n) ≡ false)
  pub few : g.count ≤ 11

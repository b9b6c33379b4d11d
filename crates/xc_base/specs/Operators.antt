-- Trees with an operator between their parts, grouped to the left, as they are read from the front of tokens.
use Rattle.std.specs.Prelude.{◌≡◌, ◌≤◌, ℕ, zero, suc, if◌then◌else◌, List, [], ◌∷◌, ◌++◌, length, Option, Some, None, option_and_then}
use Rattle.std.specs.Str.{bytes_eq}

-- a tree that stands in front of tokens, and the tokens behind it
pub record Front (T : Type 0) : Type 0 where
  pub tree : T
  pub rest : List (List ℕ)

-- what stands behind a token, where the tokens begin with it
abbrev pub behind : List ℕ → List (List ℕ) → Option (List (List ℕ))
behind mark [] = None
behind mark (token ∷ tokens) = if bytes_eq token mark then Some tokens else None

-- the tree, where no token is left behind it
abbrev pub alone : {T : Type 0} → T → List (List ℕ) → Option T
alone tree [] = Some tree
alone tree (token ∷ tokens) = None

abbrev pub whole : {T : Type 0} → Option (Front T) → Option T
whole front = option_and_then (λ f. alone f.tree f.rest) front

module _ {T : Type 0} (mark : List ℕ) (join : T → T → T) (part : List (List ℕ) → Option (Front T)) where
  -- the end of a chain where no operator follows, and else what comes of the next part
  abbrev pub chain_step : (T → List (List ℕ) → Option (Front T)) → T → List (List ℕ) → Option (List (List ℕ)) → Option (Front T)
  chain_step go left tokens None = Some (record { tree = left; rest = tokens })
  chain_step go left tokens (Some more) = option_and_then (λ f. go (join left f.tree) f.rest) (part more)

  -- what comes of a tree and the tokens behind it: an operator and a part again and again, at most so many
  unfoldable pub chain_up_to : ℕ → T → List (List ℕ) → Option (Front T)
  chain_up_to zero left tokens = Some (record { tree = left; rest = tokens })
  chain_up_to (suc n) left tokens = chain_step (chain_up_to n) left tokens (behind mark tokens)

  -- the same with no bound: there are no more operators than tokens
  unfoldable pub chain : T → List (List ℕ) → Option (Front T)
  chain left tokens = chain_up_to (length tokens) left tokens

  -- a part, and operators and parts behind it
  unfoldable pub chained : List (List ℕ) → Option (Front T)
  chained tokens = option_and_then (λ f. chain f.tree f.rest) (part tokens)

-- what a reader of parts leaves is no longer than what it was given
pub record Shortens {T : Type 0} (part : List (List ℕ) → Option (Front T)) : Type 0 where
  pub shorter : (tokens : List (List ℕ)) (f : Front T) → part tokens ≡ Some f → length f.rest ≤ length tokens

-- the tokens begin with some that are spelled as the tree, and the rest stands behind those
pub record Begins {T : Type 0} (Spelled : List (List ℕ) → T → Type 0) (tokens : List (List ℕ)) (f : Front T) : Type 0 where
  pub front : List (List ℕ)
  pub cut : tokens ≡ front ++ f.rest
  pub spelled : Spelled front f.tree

-- what a reader gives is spelled so
pub record IsSound {T : Type 0} (Spelled : List (List ℕ) → T → Type 0) (reader : List (List ℕ) → Option (Front T)) : Type 0 where
  pub begins : (tokens : List (List ℕ)) (f : Front T) → reader tokens ≡ Some f → Begins Spelled tokens f

-- Tokens as parts of lines of canonical texts.
use Rattle.std.specs.Prelude.{◌≡◌, ◌≤◌, ℕ, true, List, ◌++◌, length}
use Rattle.std.specs.List.{list_all}
use Rattle.xc_base.specs.Canonical.{spaced, is_token, are_apart}

-- tokens that can stand in a line, before whatever can
pub record IsLinePart (tokens : List (List ℕ)) : Type 0 where
  pub are_tokens : list_all is_token tokens ≡ true
  pub apart : (rest : List (List ℕ)) → list_all is_token rest ≡ true → are_apart rest ≡ true → are_apart (tokens ++ rest) ≡ true

-- a line gets no longer where the other tokens stand in it in place of these
pub record IsNoLonger (tokens others : List (List ℕ)) : Type 0 where
  pub shorter : (front rest : List (List ℕ)) → length (spaced (front ++ (others ++ rest))) ≤ length (spaced (front ++ (tokens ++ rest)))

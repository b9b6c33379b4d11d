-- The steps by which tokens are written out.
-- Words for the steps of the code: public clauses do not rest on them.
use Rattle.std.specs.Prelude.{ℕ, ◌+◌, ◌&&◌, if◌then◌else◌, List, [], ◌∷◌}
use Rattle.xc_base.specs.Names.{name_at}
use Rattle.xc_base.specs.Words.{is_word}

-- the blank behind the token at a place
unfoldable pub gap_after : List (List ℕ) → ℕ → List ℕ
gap_after tokens place = if is_word (name_at tokens place) && is_word (name_at tokens (place + 1)) then 32 ∷ [] else []

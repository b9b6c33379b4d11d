-- Canonical texts: what is printed for lines that are given as lists of tokens.
use Rattle.std.specs.Prelude.{ℕ, ◌+◌, Bool, true, false, ◌&&◌, ◌||◌, ◌==◌, not, nat_lt, nat_le, if◌then◌else◌, List, [], ◌∷◌, ◌++◌, length}
use Rattle.std.specs.List.{list_all}
use Rattle.xc_base.specs.Words.{is_within, is_word_byte, is_word}
use Rattle.xc_base.specs.Text.{joins, joins_next}
use Rattle.xc_base.specs.Formats.{Row}

-- tokens side by side, where a blank parts each word from a word behind it
unfoldable pub spaced : List (List ℕ) → List ℕ
spaced [] = []
spaced (token ∷ []) = token
spaced (token ∷ next ∷ more) = token ++ (if is_word token && is_word next then 32 ∷ [] else []) ++ spaced (next ∷ more)

-- the texts of these lines one after another, each ended by a line feed
unfoldable pub canonical : List (List (List ℕ)) → List ℕ
canonical [] = []
canonical (tokens ∷ lines) = spaced tokens ++ 10 ∷ canonical lines

-- rows of these tokens, the first with that number
unfoldable pub numbered : ℕ → List (List (List ℕ)) → List Row
numbered number [] = []
numbered number (tokens ∷ lines) = record { number = number; tokens = tokens } ∷ numbered (number + 1) lines

-- `:=`, `->` or `!=`, or a printed character by itself that is neither of a word nor `#`
abbrev pub is_symbol : List ℕ → Bool
is_symbol [] = false
is_symbol (b ∷ []) = is_within 33 126 b && not (is_word_byte b) && not (b == 35)
is_symbol (b ∷ c ∷ []) = joins b c && not (is_word_byte b)
is_symbol (b ∷ c ∷ d ∷ more) = false

-- a word or a symbol
abbrev pub is_token : List ℕ → Bool
is_token text = is_word text || is_symbol text

-- whether the last byte of a token and the first of the next would belong to one token
abbrev pub run_together : List ℕ → List ℕ → Bool
run_together [] next = false
run_together (b ∷ []) next = joins_next b next
run_together (b ∷ c ∷ more) next = run_together (c ∷ more) next

-- each two tokens that follow each other are parted by a blank, or would not run together
abbrev pub are_apart : List (List ℕ) → Bool
are_apart [] = true
are_apart (token ∷ []) = true
are_apart (token ∷ next ∷ more) = ((is_word token && is_word next) || not (run_together token next)) && are_apart (next ∷ more)

-- tokens, one at least, that a line can have
abbrev pub is_line : List (List ℕ) → Bool
is_line tokens = nat_lt 0 (length tokens) && list_all is_token tokens && are_apart tokens

-- a line of at most 4,096 bytes
abbrev pub is_short : List (List ℕ) → Bool
is_short tokens = nat_le (length (spaced tokens)) 4096

-- A text is cut into lines, and a line into tokens: words and symbols.
use Rattle.std.specs.Prelude.{◌≡◌, ℕ, ◌+◌, Bool, true, false, ◌&&◌, ◌||◌, ◌==◌, if◌then◌else◌, nat_lt, nat_le, not, List, [], ◌∷◌, length, Option, Some, None}
use Rattle.std.specs.List.{list_all, list_any, slice_range}
use Rattle.xc_base.specs.Words.{is_within, is_word_byte}
use Rattle.xc_base.specs.declared.fault.TextFault.{TextFault}
use Rattle.xc_base.specs.declared.fault.TextFault.TheVariants.{LongFile, BadByte, LongLine, Memory}
use Rattle.xc_base.specs.declared.lines.Token.{Token}
use Rattle.xc_base.specs.declared.lines.Line.{Line}

-- the lines of a text: what stands before each byte 10, and what stands after the last one, where that is anything
abbrev pub onto_first : ℕ → List (List ℕ) → List (List ℕ)
onto_first b [] = (b ∷ []) ∷ []
onto_first b (line ∷ lines) = (b ∷ line) ∷ lines

unfoldable pub lines_of : List ℕ → List (List ℕ)
lines_of [] = []
lines_of (b ∷ bytes) = if b == 10 then [] ∷ lines_of bytes else onto_first b (lines_of bytes)

-- tab, carriage return and space
abbrev pub is_blank : ℕ → Bool
is_blank b = b == 9 || b == 13 || b == 32

-- Whether a byte and the one behind it belong to one token: both are word bytes, or they are `:=`, `->` or `!=`.
abbrev pub joins : ℕ → ℕ → Bool
joins b c = (is_word_byte b && is_word_byte c) || (b == 58 && c == 61) || (b == 45 && c == 62) || (b == 33 && c == 61)

abbrev pub joins_next : ℕ → List ℕ → Bool
joins_next b [] = false
joins_next b (c ∷ bytes) = joins b c

-- the byte b at a place, with the tokens behind it: it begins the first of them, or is a token by itself
abbrev pub with_byte : ℕ → ℕ → Bool → List Token → List Token
with_byte place b false tokens = record { start = place; end = place + 1; word = is_word_byte b } ∷ tokens
with_byte place b true (t ∷ tokens) = record t { start = place } ∷ tokens
with_byte place b true [] = []

-- the tokens of a line whose first byte stands at a place: blanks part them, and from the first `#` on there are none
unfoldable pub tokens_from : ℕ → List ℕ → List Token
tokens_from place [] = []
tokens_from place (b ∷ bytes) =
    if b == 35 then [] else
    if is_blank b then tokens_from (place + 1) bytes else
    with_byte place b (joins_next b bytes) (tokens_from (place + 1) bytes)

abbrev pub with_line : ℕ → List Token → List Line → List Line
with_line number [] rows = rows
with_line number (t ∷ tokens) rows = record { number = number; tokens = t ∷ tokens } ∷ rows

-- the lines that have a token, with their numbers: of these lines the first has that number and begins at that place
unfoldable pub rows_from : ℕ → ℕ → List (List ℕ) → List Line
rows_from number place [] = []
rows_from number place (line ∷ lines) = with_line number (tokens_from place line) (rows_from (number + 1) (place + length line + 1) lines)

abbrev pub rows_of : List ℕ → List Line
rows_of bytes = rows_from 1 0 (lines_of bytes)

-- tab, line feed, carriage return, and space to `~`
abbrev pub is_allowed : ℕ → Bool
is_allowed b = b == 9 || b == 10 || b == 13 || is_within 32 126 b

-- the fault of the first line that has one, the lines being numbered on; a byte goes before the length
unfoldable pub first_fault_from : ℕ → List (List ℕ) → Option TextFault
first_fault_from number [] = None
first_fault_from number (line ∷ lines) =
    if list_any (λ b. not (is_allowed b)) line then Some (BadByte number) else
    if nat_lt 4096 (length line) then Some (LongLine number) else
    first_fault_from (number + 1) lines

-- the fault of a text that may have so many bytes
abbrev pub text_fault : ℕ → List ℕ → Option TextFault
text_fault limit bytes = if nat_lt limit (length bytes) then Some LongFile else first_fault_from 1 (lines_of bytes)

-- the bytes of a token of a text
abbrev pub token_text : List ℕ → Token → List ℕ
token_text source t = slice_range source t.start t.end

-- whether a token is a part of a text of that length
abbrev pub is_part : ℕ → Token → Bool
is_part size t = nat_lt t.start t.end && nat_le t.end size

-- whether each token of these lines is a part of a text of that length
abbrev pub are_within : ℕ → List Line → Bool
are_within size rows = list_all (λ line. list_all (is_part size) line.tokens) rows

-- whether a fault of that kind is the text's, where memory is there
abbrev pub IsTextFault : ℕ → List ℕ → TextFault → Type 0
IsTextFault limit bytes Memory = Unit {0}
IsTextFault limit bytes fault = text_fault limit bytes ≡ Some fault

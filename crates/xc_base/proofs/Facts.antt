-- Cutting, names, shelves and sinks at small cases whose values are known from outside.
use Rattle.std.proofs.Common.{◌≡◌, ◌<◌, ℕ, true, false, List, [], ◌∷◌, ◌++◌, map, replicate, Some, None, Ok, Err, codes, get_or, length, ap, refl, arith}
use Rattle.xc_base.specs.declared.fault.TextFault.TheVariants.{LongFile, BadByte, LongLine}
use Rattle.xc_base.specs.declared.shelf.File.{File}
use Rattle.xc_base.specs.declared.shelf.LoadFault.TheVariants as loads
use Rattle.xc_base.specs.declared.sink.SinkFault.TheVariants as sinks
use Rattle.xc_base.specs.Text.{lines_of, tokens_from, rows_from, rows_of, first_fault_from, text_fault, IsTextFault}
use Rattle.xc_base.specs.Formats.{Row}
use Rattle.xc_base.specs.Lines.{text_rows}
use Rattle.xc_base.specs.Words.{is_word, is_name, is_file_word}
use Rattle.xc_base.specs.Names.{is_among, has_twice, name_at, place_of, are_same}
use Rattle.xc_base.specs.Canonical.{spaced}
use Rattle.xc_base.specs.Fronts.{IsFront}
use Rattle.xc_base.specs.Shelves.{held, has_risen, failed_after, fails_at, raised, IsLoaded, IsAbsentIfSteady}
use Rattle.xc_base.specs.Sinks.{IsCalm, written_after, AddsWhole, AddsPart, AppendsFront, after_put, empty_sink}

-- the texts of the tokens of a text's rows
abbrev cut : List ℕ → List (List (List ℕ))
cut bytes = map (λ (row : Row). row.tokens) (text_rows bytes)

-- `:=`, `->` and `!=` are one token each, and are taken before shorter ones
pub symbols : (cut (codes "x:=y") ≡ (codes "x" ∷ codes ":=" ∷ codes "y" ∷ []) ∷ [])
    × (cut (codes "a->b") ≡ (codes "a" ∷ codes "->" ∷ codes "b" ∷ []) ∷ [])
    × (cut (codes "x!=1") ≡ (codes "x" ∷ codes "!=" ∷ codes "1" ∷ []) ∷ [])
    × (cut (codes ":==") ≡ (codes ":=" ∷ codes "=" ∷ []) ∷ [])
    × (cut (codes "- >!") ≡ (codes "-" ∷ codes ">" ∷ codes "!" ∷ []) ∷ [])
unfolding lines_of tokens_from rows_from
symbols = (refl, refl, refl, refl, refl)

-- a word is a longest run of word bytes, and any other visible byte is a token of its own
pub runs : (cut (codes "a_1./b (c)") ≡ (codes "a_1./b" ∷ codes "(" ∷ codes "c" ∷ codes ")" ∷ []) ∷ []) × (cut (codes "!!x") ≡ (codes "!" ∷ codes "!" ∷ codes "x" ∷ []) ∷ [])
unfolding lines_of tokens_from rows_from
runs = (refl, refl)

-- a comment goes from the first `#` to the end of its line; a line with no token is no row
pub comments : (text_rows (codes "a#b" ++ 10 ∷ codes "# c" ++ 10 ∷ 10 ∷ codes "d") ≡ record { number = 1; tokens = codes "a" ∷ [] } ∷ record { number = 4; tokens = codes "d" ∷ [] } ∷ [])
unfolding lines_of tokens_from rows_from
comments = refl

-- lines that end in CR LF read alike, and tabs are blanks
pub line_ends : (cut (97 ∷ 13 ∷ 10 ∷ 9 ∷ 98 ∷ 13 ∷ 10 ∷ []) ≡ (codes "a" ∷ []) ∷ (codes "b" ∷ []) ∷ [])
unfolding lines_of tokens_from rows_from
line_ends = refl

-- the part behind the last line feed is a line only where it is not empty
pub last_lines : (lines_of (97 ∷ 10 ∷ 98 ∷ []) ≡ (97 ∷ []) ∷ (98 ∷ []) ∷ []) × (lines_of (97 ∷ 10 ∷ []) ≡ (97 ∷ []) ∷ []) × (lines_of (10 ∷ []) ≡ [] ∷ []) × (lines_of [] ≡ [])
unfolding lines_of
last_lines = (refl, refl, refl, refl)

-- where the tokens stand, and which are words
pub places : rows_of (codes "x := y") ≡ record { number = 1; tokens = record { start = 0; end = 1; word = true } ∷ record { start = 2; end = 4; word = false } ∷ record { start = 5; end = 6; word = true } ∷ [] } ∷ []
unfolding lines_of tokens_from rows_from
places = refl

-- a text of as many bytes as it may have, and of one more
pub limits : (text_fault 3 (codes "abc") ≡ None) × (text_fault 2 (codes "abc") ≡ Some LongFile)
unfolding lines_of first_fault_from
limits = (refl, refl)

-- tab, LF, CR, space and `~` are allowed; 127, 128, 0 and 11 are not
pub bytes : (text_fault 9 (9 ∷ 10 ∷ 13 ∷ 32 ∷ 126 ∷ []) ≡ None)
    × (map (λ b. text_fault 9 (97 ∷ 10 ∷ b ∷ [])) (127 ∷ 128 ∷ 0 ∷ 11 ∷ []) ≡ Some (BadByte 2) ∷ Some (BadByte 2) ∷ Some (BadByte 2) ∷ Some (BadByte 2) ∷ [])
unfolding lines_of first_fault_from
bytes = (refl, refl)

-- a line of 4,096 bytes and one of 4,097; the byte goes before the length, the first line before both
pub long_lines : (first_fault_from 1 (replicate 4096 97 ∷ []) ≡ None) × (first_fault_from 1 (replicate 4097 97 ∷ []) ≡ Some (LongLine 1))
    × (first_fault_from 1 ((0 ∷ replicate 4096 97) ∷ []) ≡ Some (BadByte 1)) × (first_fault_from 1 (replicate 4097 97 ∷ (0 ∷ []) ∷ []) ≡ Some (LongLine 1))
unfolding first_fault_from
long_lines = (refl, refl, refl, refl)

-- a text over the limit is not looked at: its bad byte is no fault of it
pub not_looked_at : IsTextFault 1 (0 ∷ 0 ∷ []) (BadByte 1) → ⊥
unfolding lines_of first_fault_from
not_looked_at h = cc

-- names of 32 and 33 bytes, words that are no names, and file words of 255 and 256 bytes
pub names : (is_name (codes "abcdefghijklmnopqrstuvwxyz_01234") ≡ true) × (is_name (codes "abcdefghijklmnopqrstuvwxyz_012345") ≡ false)
    × (is_name (codes "a.b") ≡ false) × (is_name (codes "a/b") ≡ false) × (is_name (codes "a-b") ≡ false) × (is_name [] ≡ false) × (is_name (codes "0") ≡ true)
    × (is_word (codes "a.b/c") ≡ true) × (is_word (codes "a b") ≡ false)
    × (is_file_word (replicate 255 97) ≡ true) × (is_file_word (replicate 256 97) ≡ false)
names = (refl, refl, refl, refl, refl, refl, refl, refl, refl, refl, refl)

-- names among names
pub among : (has_twice (codes "a" ∷ codes "b" ∷ codes "a" ∷ []) ≡ true) × (has_twice (codes "a" ∷ codes "ab" ∷ []) ≡ false)
    × (is_among (codes "a" ∷ codes "b" ∷ []) (codes "b") ≡ true) × (is_among (codes "ab" ∷ []) (codes "a") ≡ false)
    × (place_of (codes "a" ∷ codes "b" ∷ codes "b" ∷ []) (codes "b") ≡ 1) × (place_of (codes "a" ∷ []) (codes "b") ≡ 1)
    × (name_at (codes "a" ∷ codes "b" ∷ []) 1 ≡ codes "b")
    × (are_same (codes "a" ∷ codes "b" ∷ []) (codes "b" ∷ codes "a" ∷ []) ≡ false) × (are_same (codes "a" ∷ []) (codes "a" ∷ []) ≡ true)
among = (refl, refl, refl, refl, refl, refl, refl, refl, refl)

-- one blank between two words, and no other
pub canonical : spaced (codes "var" ∷ codes "x" ∷ codes ":=" ∷ codes "y" ∷ []) ≡ codes "var x:=y"
unfolding spaced
canonical = refl

-- the first file of a name counts
abbrev files : List File
files = record { name = codes "a"; bytes = codes "new" } ∷ record { name = codes "a"; bytes = codes "old" } ∷ []

pub loads_of_files : (held files (codes "a") ≡ Some (codes "new")) × (held files (codes "b") ≡ None)
loads_of_files = (refl, refl)

-- a load with the limit 1 gives two bytes, with which it is known that there are more; one byte would be wrong
pub loaded : IsLoaded (Some (record { files = files; failed = []; steady = true })) (codes "a") 1 (codes "ne")
loaded = refl

pub not_loaded : IsLoaded (Some (record { files = files; failed = []; steady = true })) (codes "a") 1 (codes "n") → ⊥
not_loaded h = cc

-- a steady shelf does not fail at a file that it holds
pub not_absent : IsAbsentIfSteady (Some (record { files = files; failed = []; steady = true })) (codes "a") → ⊥
not_absent h = let wrong = h refl in cc

-- the second load is to fail, and one of a name that is not held
pub failing : (fails_at (record { files = files; failing = 2 ∷ []; failed = []; calls = 1 }) (codes "a") ≡ true)
    × (fails_at (record { files = files; failing = 2 ∷ []; failed = []; calls = 0 }) (codes "a") ≡ false)
    × (fails_at (record { files = files; failing = []; failed = []; calls = 0 }) (codes "b") ≡ true)
failing = (refl, refl, refl)

-- failed names are kept, the oldest first; a want of memory is none
pub failed : (failed_after {X = ℕ} (codes "a" ∷ []) (codes "b") (Err loads.Failed) ≡ codes "a" ∷ codes "b" ∷ []) × (failed_after {X = ℕ} [] (codes "b") (Err loads.Memory) ≡ [])
failed = (refl, refl)

-- a count rises, or stands at the last value of a u64
pub counts : (has_risen 3 4 ≡ true) × (has_risen 3 3 ≡ false) × (has_risen 18446744073709551615 18446744073709551615 ≡ true) × (raised 0 ≡ 1)
counts = (refl, refl, refl, refl)

-- a put adds what was taken, and nothing where it fails
pub written : (written_after (Some (codes "a")) (codes "bc") (Ok 1) ≡ Some (codes "ab")) × (written_after (Some (codes "a")) (codes "bc") (Err sinks.Failed) ≡ Some (codes "a"))
    × ((after_put (empty_sink 2) (codes "bc") (Err sinks.Failed)).faults ≡ 1) × ((after_put (empty_sink 2) (codes "bc") (Err sinks.Memory)).faults ≡ 0)
written = (refl, refl, refl, refl)

-- `xa` is `x` and a front of `ab`, the whole is no part, and `b` is no front
pub front : AddsPart (codes "ab") (Some (codes "x")) (Some (codes "xa"))
front = (record { keeps = omega arith; front = refl }, omega arith)

pub whole_is_no_part : AddsPart (codes "ab") (Some (codes "x")) (Some (codes "xab")) → ⊥
whole_is_no_part h = let wrong : 3 < 3 = h.1 in omega (arith, wrong)

pub no_front : IsFront (codes "ab") [] (codes "b") → ⊥
no_front h = let wrong : 98 ≡ 97 = ap (λ (bytes : List ℕ). get_or bytes 0 0) h.front in omega (arith, wrong)

pub whole : AddsWhole (codes "ab") (Some (codes "x")) (Some (codes "xab"))
whole = refl

-- where a writer's bytes are known: all of `ab` or none of it was appended, but not `ab` twice
pub appended : AppendsFront (codes "ab") (Some (codes "x")) (Some (codes "xab")) × AppendsFront (codes "ab") (Some (codes "x")) (Some (codes "x"))
appended = (record { keeps = omega arith; front = refl }, record { keeps = omega arith; front = refl })

pub not_appended_twice : AppendsFront (codes "ab") (Some []) (Some (codes "abab")) → ⊥
not_appended_twice h = let wrong : 4 ≡ 2 = ap (λ (bytes : List ℕ). length bytes) h.front in omega (arith, wrong)

-- a fault that was counted is not calm
pub not_calm : IsCalm (record { bytes = None; faults = 0; wants = 0 }) (record { bytes = None; faults = 1; wants = 0 }) → ⊥
not_calm h = let wrong : 1 ≡ 0 = h.faults in omega (arith, wrong)

-- Which bytes make words, and which words are names.
use Rattle.std.specs.Prelude.{ℕ, Bool, ◌&&◌, ◌||◌, not, ◌==◌, nat_le, List, length}
use Rattle.std.specs.List.{list_all, list_any}

-- whether b is from low to high
abbrev pub is_within : ℕ → ℕ → ℕ → Bool
is_within low high b = nat_le low b && nat_le b high

-- a digit, a capital or small letter, `_`, `.` or `/`
abbrev pub is_word_byte : ℕ → Bool
is_word_byte b = is_within 48 57 b || is_within 65 90 b || is_within 97 122 b || b == 95 || b == 46 || b == 47

-- one word byte or more
abbrev pub is_word : List ℕ → Bool
is_word text = not (length text == 0) && list_all is_word_byte text

-- `.` or `/`, which a word may have and a name may not
abbrev pub is_path_byte : ℕ → Bool
is_path_byte b = b == 46 || b == 47

-- a word of at most 32 bytes with neither `.` nor `/`
abbrev pub is_name : List ℕ → Bool
is_name text = is_word text && nat_le (length text) 32 && not (list_any is_path_byte text)

-- a word of at most 255 bytes
abbrev pub is_file_word : List ℕ → Bool
is_file_word text = is_word text && nat_le (length text) 255

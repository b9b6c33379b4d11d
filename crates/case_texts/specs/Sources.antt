-- Where the text of a file comes from.
use Rattle.std.specs.Prelude.{ℕ, List, [], ◌∷◌, Option, Some, None, if◌then◌else◌, string_bytes, bytes_eq}
use Rattle.case_texts.specs.declared.case.NamedText.{NamedText}

-- the bytes of the first text of that name
abbrev pub text_called : List ℕ → List NamedText → Option (List ℕ)
text_called name [] = None
text_called name (text ∷ texts) = if bytes_eq (string_bytes text.name) name then Some text.bytes.items else text_called name texts

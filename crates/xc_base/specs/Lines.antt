-- The rows of a text, as the readers of statements see them.
use Rattle.std.specs.Prelude.{ℕ, Bool, List, [], map}
use Rattle.std.specs.List.{slice_index_or}
use Rattle.xc_base.specs.Formats.{Row}
use Rattle.xc_base.specs.Text.{rows_of, token_text}
use Rattle.xc_base.specs.declared.lines.Lexeme.{Lexeme}
use Rattle.xc_base.specs.declared.lines.Line.{Line}
use Rattle.xc_base.specs.declared.lines.Lines.{Lines}
use Rattle.xc_base.specs.declared.lines.Token.{Token}

-- the texts of lexemes
abbrev pub texts : List Lexeme → List (List ℕ)
texts lexemes = map (λ (x : Lexeme). x.text.now) lexemes

-- a line of a text as a row
abbrev pub row_of : List ℕ → Line → Row
row_of source line = record { number = line.number; tokens = map (token_text source) line.tokens }

-- the rows of a text that is cut
abbrev pub rows_in : Lines → List Row
rows_in lines = map (row_of lines.source.now) lines.rows

-- the rows of a text
abbrev pub text_rows : List ℕ → List Row
text_rows bytes = map (row_of bytes) (rows_of bytes)

-- the row at a place
abbrev pub row_at : List Row → ℕ → Row
row_at rows place = slice_index_or rows place (record { number = 0; tokens = [] })

-- which tokens of the row at a place are words
abbrev pub words_at : Lines → ℕ → List Bool
words_at lines place = map (λ (t : Token). t.word) (slice_index_or lines.rows place (record { number = 0; tokens = [] })).tokens

-- The rows of a cut text, as its readers see them.
use Rattle.std.proofs.Common.{◌≡◌, ℕ, ◌+◌, ◌<◌, ◌≤◌, List, ◌∷◌, ◌++◌, [], length, take, drop, map, get_or, ap, sym, ◌∙◌}
use Rattle.std.proofs.lemmas.List.{take_all, take-append-drop, drop_more, get_or-map, get_or_read}
use Rattle.xc_base.specs.Text.{token_text}
use Rattle.xc_base.specs.Formats.{Row}
use Rattle.xc_base.specs.Lines.{row_of, row_at}
use Rattle.xc_base.specs.declared.lines.Token.{Token}
use Rattle.xc_base.specs.declared.lines.Line.{Line}

-- the texts of all tokens of the line at a place
pub texts_at : (source : List ℕ) (rows : List Line) (i n : ℕ) (line : Line) (tokens : List Token) → i < length rows → line ≡ get_or rows i line → tokens ≡ line.tokens → length tokens ≤ n → map (token_text source) (take n tokens) ≡ (row_at (map (row_of source) rows) i).tokens
texts_at source rows i n line tokens within read same all =
    ap (map (token_text source)) (take_all n tokens all ∙ same)
    ∙ (ap (λ (l : Line). map (token_text source) l.tokens) (get_or_read rows i line within read line)
    ∙ ap (λ r. r.tokens) (sym (get_or-map (row_of source) rows i line _ within)))

-- which of them are words
pub words_of : (rows : List Line) (i n : ℕ) (line : Line) (tokens : List Token) → i < length rows → line ≡ get_or rows i line → tokens ≡ line.tokens → length tokens ≤ n → map (λ (t : Token). t.word) (take n tokens) ≡ map (λ (t : Token). t.word) (get_or rows i (record { number = 0; tokens = [] })).tokens
words_of rows i n line tokens within read same all =
    ap (map (λ (t : Token). t.word)) (take_all n tokens all ∙ same)
    ∙ ap (λ (l : Line). map (λ (t : Token). t.word) l.tokens) (get_or_read rows i line within read _)

-- the first of the rows from a place on
pub row_first : (rows : List Row) (i : ℕ) → i < length rows → drop i rows ≡ row_at rows i ∷ drop (i + 1) rows
row_first rows i within = drop_more rows i _ within

-- the rows before a place, the one there, and those behind
pub rows_split : (rows : List Row) (i : ℕ) → i < length rows → rows ≡ take i rows ++ row_at rows i ∷ drop (i + 1) rows
rows_split rows i within =
    sym (take-append-drop i rows) ∙ ap (λ more. take i rows ++ more) (row_first rows i within)

pub ruleset row_steps = (texts_at, words_of, row_first)

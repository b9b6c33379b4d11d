-- Tokens and their texts.
use Rattle.std.proofs.Common.{◌≡◌, ℕ, List, take, codes, sym}
use Rattle.std.specs.List.{position}
use Rattle.std.specs.Str.{bytes_eq}
use Rattle.std.proofs.lemmas.List.{length-map, take-map}
use Rattle.xc_base.specs.declared.lines.Lexeme.{Lexeme}
use Rattle.xc_base.specs.Lines.{texts}
use Rattle.xc_forms.proofs.Tokens.{position_or_len-map}

-- the first `do` among tokens
pub do_in_texts : (tokens : List Lexeme) → position (bytes_eq (codes "do")) (texts tokens) ≡ position (λ x. bytes_eq (codes "do") x.text.now) tokens
do_in_texts tokens = rw (position_or_len-map (bytes_eq (codes "do")) (λ (x : Lexeme). x.text.now) tokens, length-map)

-- the texts in front of a place, and those from a place on
pub front_texts : (tokens : List Lexeme) (place : ℕ) → texts (take place tokens) ≡ take place (texts tokens)
front_texts tokens place = sym (take-map (λ (x : Lexeme). x.text.now) place tokens)

-- Tokens and their texts.
use Rattle.std.proofs.Common.{◌≡◌, ℕ, ◌<◌, true, List, length, get_or, nat_lt}
use Rattle.std.specs.List.{list_all}
use Rattle.std.proofs.lemmas.List.{length-map}
use Rattle.std.proofs.lemmas.List.Sums.{AllPass-from_list_all}
use Rattle.std.proofs.lemmas.List.Folds.{list_all-map}
use Rattle.std.proofs.lemmas.Bool.{and_parts}
use Rattle.xc_base.specs.Words.{is_name, is_word}
use Rattle.xc_base.specs.declared.lines.Lexeme.{Lexeme}
use Rattle.xc_base.specs.Lines.{texts}

-- a name is a word
pub name_is_word : (text : List ℕ) → is_name text ≡ true → is_word text ≡ true
name_is_word text h = (and_parts _ _ (and_parts _ _ h).0).0

-- tokens that are all names are words
pub names_are_words : (tokens : List Lexeme) (i : ℕ) (d : Lexeme) → list_all is_name (texts tokens) ≡ true → i < length tokens → is_word (get_or tokens i d).text.now ≡ true
names_are_words tokens i d h within =
    name_is_word (get_or tokens i d).text.now (AllPass-from_list_all (λ x. is_name x.text.now) tokens (rw list_all-map at h) i d within)

-- a test of the texts of tokens, and whether there are any
pub all_texts : (tokens : List Lexeme) → list_all is_name (texts tokens) ≡ list_all (λ x. is_name x.text.now) tokens
all_texts tokens = list_all-map is_name (λ x. x.text.now) tokens

pub some_texts : (tokens : List Lexeme) → nat_lt 0 (length (texts tokens)) ≡ nat_lt 0 (length tokens)
some_texts tokens = rw length-map

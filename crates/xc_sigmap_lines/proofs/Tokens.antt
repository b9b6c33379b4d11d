-- Tokens and their texts.
use Rattle.std.proofs.Common.{◌≡◌, ℕ, ◌-◌, true, List, length, take, drop, sym, ◌∙◌, ap, arith, length-drop}
use Rattle.std.proofs.lemmas.List.{take_all, drop-map}
use Rattle.std.proofs.lemmas.Bool.{and_parts}
use Rattle.xc_base.specs.Words.{is_name, is_word}
use Rattle.xc_base.specs.declared.lines.Lexeme.{Lexeme}
use Rattle.xc_base.specs.Lines.{texts}
use Rattle.xc_forms.specs.VariableNames.{is_value_name}

-- names are words
pub name_is_word : (text : List ℕ) → is_name text ≡ true → is_word text ≡ true
name_is_word text h = (and_parts _ _ (and_parts _ _ h).0).0

-- so are those of values
pub value_is_word : (text : List ℕ) → is_value_name text ≡ true → is_word text ≡ true
value_is_word text h = name_is_word text (and_parts _ _ h).0

-- the texts from a place on
pub back_texts : (tokens : List Lexeme) (place : ℕ) → texts (take (length tokens - place) (drop place tokens)) ≡ drop place (texts tokens)
back_texts tokens place =
    ap texts (take_all (length tokens - place) (drop place tokens) (omega (arith, length-drop place tokens)))
    ∙ sym (drop-map (λ (x : Lexeme). x.text.now) place tokens)

-- Tokens and their texts, and the names of variables.
use Rattle.std.proofs.Common.{◌≡◌, ℕ, ◌+◌, Bool, cond, not, ◌||◌, List, [], ◌∷◌, map, refl, ◌-◌, ◌<◌, true, length, get_or, nat_lt, take, drop, sym, ◌∙◌, ap, arith, length-drop}
use Rattle.std.specs.List.{list_all, list_any, position, position_or_len}
use Rattle.std.specs.Str.{bytes_eq}
use Rattle.std.proofs.lemmas.List.{length-map, take_all, drop-map}
use Rattle.std.proofs.lemmas.List.Sums.{AllPass-from_list_all}
use Rattle.std.proofs.lemmas.List.Folds.{list_all-map}
use Rattle.std.proofs.lemmas.Bool.{and_parts}
use Rattle.xc_base.specs.Words.{is_name, is_word}
use Rattle.xc_base.specs.declared.lines.Lexeme.{Lexeme}
use Rattle.xc_base.specs.Lines.{texts}
use Rattle.xc_forms.specs.Variables.{names_of}
use Rattle.xc_forms.specs.VariableNames.{is_value_name}
use Rattle.xc_forms.specs.declared.domain.Domain.{Domain}

-- names are words
pub name_is_word : (text : List ℕ) → is_name text ≡ true → is_word text ≡ true
name_is_word text h = (and_parts _ _ (and_parts _ _ h).0).0

-- so are those of values
pub value_is_word : (text : List ℕ) → is_value_name text ≡ true → is_word text ≡ true
value_is_word text h = name_is_word text (and_parts _ _ h).0

-- tokens that are all names of values are words
pub values_are_words : (tokens : List Lexeme) (i : ℕ) (d : Lexeme) → list_all is_value_name (texts tokens) ≡ true → i < length tokens → is_word (get_or tokens i d).text.now ≡ true
values_are_words tokens i d h within =
    value_is_word (get_or tokens i d).text.now (AllPass-from_list_all (λ x. is_value_name x.text.now) tokens (rw list_all-map at h) i d within)

-- a test of the texts of tokens
pub all_texts : (tokens : List Lexeme) → list_all is_value_name (texts tokens) ≡ list_all (λ x. is_value_name x.text.now) tokens
all_texts tokens = list_all-map is_value_name (λ x. x.text.now) tokens

-- there are texts where there are tokens
pub some_texts : (tokens : List Lexeme) → nat_lt 0 (length (texts tokens)) ≡ nat_lt 0 (length tokens)
some_texts tokens = rw length-map

-- the texts from a place on
pub back_texts : (tokens : List Lexeme) (place : ℕ) → texts (take (length tokens - place) (drop place tokens)) ≡ drop place (texts tokens)
back_texts tokens place =
    ap texts (take_all (length tokens - place) (drop place tokens) (omega (arith, length-drop place tokens)))
    ∙ sym (drop-map (λ (x : Lexeme). x.text.now) place tokens)

-- where the first of mapped items passes
pub position_or_len-map : {X Y : Type 0} (p : Y → Bool) (f : X → Y) (xs : List X) → position_or_len p (map f xs) ≡ position_or_len (λ (x : X). p (f x)) xs
position_or_len-map p f [] = refl
position_or_len-map p f (x ∷ xs) = ap (λ (n : ℕ). cond (not (p (f x))) (1 + n) 0) (position_or_len-map p f xs)

-- the place among variables is that among their names
pub var_position : (vars : List Domain) (name : List ℕ) → position (bytes_eq name) (names_of vars) ≡ position (λ (d : Domain). bytes_eq name d.name) vars
var_position vars name = rw (position_or_len-map (bytes_eq name) (λ (d : Domain). d.name) vars, length-map)

-- a name is among those of variables where one of these has it
pub any_name : (vars : List Domain) (name : List ℕ) → list_any (bytes_eq name) (names_of vars) ≡ list_any (λ (d : Domain). bytes_eq name d.name) vars
any_name [] name = refl
any_name (d ∷ vars) name = ap (λ (b : Bool). bytes_eq name d.name || b) (any_name vars name)

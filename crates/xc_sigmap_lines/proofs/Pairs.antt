-- Pairs, as a loop over their tokens reads them.
use Rattle.std.proofs.Common.{◌≡◌, ℕ, ◌+◌, ◌-◌, ◌<◌, ◌≤◌, Bool, true, false, if◌then◌else◌, List, [], ◌∷◌, ◌++◌, length, drop, take, Option, Some, None, refl, sym, ◌∙◌, ap, append_assoc, arith, length-drop}
use Rattle.std.specs.Option.{option_map}
use Rattle.std.proofs.lemmas.List.{drop_all, drop-drop, append-nil, length-map}
use Rattle.xc_base.specs.declared.lines.Lexeme.{Lexeme}
use Rattle.xc_base.specs.Lines.{texts}
use Rattle.xc_sigmap_lines.specs.declared.statement.Pair.{Pair}
use Rattle.xc_sigmap_lines.specs.Deciding.{is_pair, first_pair, pairs_in, send_line}
use Rattle.xc_sigmap_lines.proofs.Tokens.{back_texts}

-- a first pair, and those behind it
chosen : (b : Bool) (p q : Pair) (o : Option (List Pair)) → (if b then Some p else None) ≡ Some q → (if b then option_map (λ (ps : List Pair). p ∷ ps) o else None) ≡ option_map (λ (ps : List Pair). q ∷ ps) o
chosen true p q o h = let same : p ≡ q = cc in ap (λ (r : Pair). option_map (λ (ps : List Pair). r ∷ ps) o) same
chosen false p q o h = cc

pair_step : (ts : List (List ℕ)) (q : Pair) → first_pair ts ≡ Some q → pairs_in ts ≡ option_map (λ (ps : List Pair). q ∷ ps) (pairs_in (drop 3 ts))
pair_step [] q h = cc
pair_step (value ∷ []) q h = cc
pair_step (value ∷ mark ∷ []) q h = cc
pair_step (value ∷ mark ∷ word ∷ more) q h = chosen (is_pair value mark word) (record { from = value; to = word }) q (pairs_in more) h

-- no first pair
lacked : (b : Bool) (p : Pair) (o : Option (List Pair)) → (if b then Some p else None) ≡ None → (if b then option_map (λ (ps : List Pair). p ∷ ps) o else None) ≡ None
lacked true p o h = cc
lacked false p o h = refl

pair_stop : (ts : List (List ℕ)) → 0 < length ts → first_pair ts ≡ None → pairs_in ts ≡ None
pair_stop [] w h = absurd (omega arith)
pair_stop (value ∷ []) w h = refl
pair_stop (value ∷ mark ∷ []) w h = refl
pair_stop (value ∷ mark ∷ word ∷ more) w h = lacked (is_pair value mark word) (record { from = value; to = word }) (pairs_in more) h

-- pairs in front of others
in_front : (front : List Pair) (p : Pair) (o : Option (List Pair)) → option_map (λ (more : List Pair). (front ++ p ∷ []) ++ more) o ≡ option_map (λ (more : List Pair). front ++ more) (option_map (λ (ps : List Pair). p ∷ ps) o)
in_front front p None = refl
in_front front p (Some more) = ap (λ (ps : List Pair). Some ps) (append_assoc front (p ∷ []) more)

-- the loop goes on
pub pairs_next : (tokens : List Lexeme) (place : ℕ) (front all : List Pair) (q : Pair) → all ≡ front ++ q ∷ [] → Some q ≡ first_pair (texts (take (length tokens - place) (drop place tokens)))
    → option_map (λ (more : List Pair). front ++ more) (pairs_in (drop place (texts tokens))) ≡ pairs_in (texts tokens)
    → option_map (λ (more : List Pair). all ++ more) (pairs_in (drop (place + 3) (texts tokens))) ≡ pairs_in (texts tokens)
pairs_next tokens place front all q together first h =
    let ts : List (List ℕ) = texts tokens in
    let here : first_pair (drop place ts) ≡ Some q = ap first_pair (sym (back_texts tokens place)) ∙ sym first in
    ap (λ (a : List Pair). option_map (λ (more : List Pair). a ++ more) (pairs_in (drop (place + 3) ts))) together
    ∙ in_front front q (pairs_in (drop (place + 3) ts))
    ∙ ap (λ (rest : List (List ℕ)). option_map (λ (more : List Pair). front ++ more) (option_map (λ (ps : List Pair). q ∷ ps) (pairs_in rest))) (sym (drop-drop 3 place ts))
    ∙ ap (option_map (λ (more : List Pair). front ++ more)) (sym (pair_step (drop place ts) q here))
    ∙ h

-- the loop finds tokens that are no pair
pub pairs_stop : (tokens : List Lexeme) (place : ℕ) (front : List Pair) → place < length tokens → None ≡ first_pair (texts (take (length tokens - place) (drop place tokens)))
    → option_map (λ (more : List Pair). front ++ more) (pairs_in (drop place (texts tokens))) ≡ pairs_in (texts tokens)
    → None ≡ pairs_in (texts tokens)
pairs_stop tokens place front within first h =
    let ts : List (List ℕ) = texts tokens in
    let here : first_pair (drop place ts) ≡ None = ap first_pair (sym (back_texts tokens place)) ∙ sym first in
    let many : 0 < length (drop place ts) = omega (arith, length-drop place ts, length-map tokens (λ (x : Lexeme). x.text.now)) in
    ap (option_map (λ (more : List Pair). front ++ more)) (sym (pair_stop (drop place ts) many here)) ∙ h

-- behind the last token all are read
pub pairs_end : (tokens : List Lexeme) (place : ℕ) (front : List Pair) → length tokens ≤ place
    → option_map (λ (more : List Pair). front ++ more) (pairs_in (drop place (texts tokens))) ≡ pairs_in (texts tokens)
    → Some front ≡ pairs_in (texts tokens)
pairs_end tokens place front within h =
    let ts : List (List ℕ) = texts tokens in
    let none : drop place ts ≡ [] = drop_all place ts (omega (arith, length-map tokens (λ (x : Lexeme). x.text.now))) in
    ap (λ (ps : List Pair). Some ps) (sym (append-nil front)) ∙ ap (λ (rest : List (List ℕ)). option_map (λ (more : List Pair). front ++ more) (pairs_in rest)) (sym none) ∙ h

-- fewer than three tokens send nothing
pub too_few : (tokens : List Lexeme) → length tokens < 3 → None ≡ send_line (texts tokens)
too_few [] h = refl
too_few (a ∷ []) h = refl
too_few (a ∷ b ∷ []) h = refl
too_few (a ∷ b ∷ c ∷ more) h = absurd (omega arith)

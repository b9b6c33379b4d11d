-- The steps of the parser of names.
use Rattle.std.proofs.Common.{◌≡◌, ℕ, ◌<◌, List, [], ◌∷◌, ◌++◌, length, codes, Some, None, sym, ◌∙◌, ap}
use Rattle.std.proofs.lemmas.List.{map-append}
use Rattle.xc_base.specs.Lines.{texts}
use Rattle.xc_base.specs.declared.lines.Lexeme.{Lexeme}
use Rattle.xc_base.specs.Operators.{behind, chain}
use Rattle.xc_base.proofs.Operators.{chain_ends, chain_goes, chain_fails, chained_begins, chained_fails, turn_shorter}
use Rattle.xc_formula.specs.FormulaReading.{one_name, names, joined}
use Rattle.xc_formula.proofs.NameReading.{one_shortens}

-- tokens that begin with no name
pub names_fail : (tokens : List (List ℕ)) → one_name tokens ≡ None → names tokens ≡ None
unfolding names
names_fail tokens h = chained_fails (codes ",") joined one_name tokens h

-- names begin with a name
pub names_begin : (tokens rest tree : List (List ℕ)) → one_name tokens ≡ Some (record { tree = tree; rest = rest }) → chain (codes ",") joined one_name tree rest ≡ names tokens
unfolding names
names_begin tokens rest tree h = sym (chained_begins (codes ",") joined one_name tokens (record { tree = tree; rest = rest }) h)

-- they go on with each `,`
pub names_go : (tokens more rest : List (List ℕ)) (taken : List Lexeme) (next : Lexeme) → behind (codes ",") tokens ≡ Some more → one_name more ≡ Some (record { tree = next.text.now ∷ []; rest = rest })
    → chain (codes ",") joined one_name (texts (taken ++ next ∷ [])) rest ≡ chain (codes ",") joined one_name (texts taken) tokens
names_go tokens more rest taken next p q =
    ap (λ (xs : List (List ℕ)). chain (codes ",") joined one_name xs rest) (map-append (λ (x : Lexeme). x.text.now) taken (next ∷ []))
    ∙ sym (chain_goes (codes ",") joined one_name one_shortens (texts taken) tokens more (record { tree = next.text.now ∷ []; rest = rest }) p q)

-- with no name behind `,` they are none
pub names_stop : (tokens more taken : List (List ℕ)) → behind (codes ",") tokens ≡ Some more → one_name more ≡ None → chain (codes ",") joined one_name taken tokens ≡ None
names_stop tokens more taken p q = chain_fails (codes ",") joined one_name taken tokens more p q

-- with no `,` behind them, they are all
pub names_end : (tokens taken : List (List ℕ)) → behind (codes ",") tokens ≡ None → chain (codes ",") joined one_name taken tokens ≡ Some (record { tree = taken; rest = tokens })
names_end tokens taken p = chain_ends (codes ",") joined one_name taken tokens p

-- after each turn less is left
pub names_shorter : (tokens more rest : List Lexeme) (tree : List (List ℕ)) → behind (codes ",") (texts tokens) ≡ Some (texts more) → one_name (texts more) ≡ Some (record { tree = tree; rest = texts rest }) → length rest < length tokens
names_shorter tokens more rest tree p q = turn_shorter (codes ",") one_name one_shortens tokens more rest tree p q

-- all steps of names
pub ruleset name_steps = (names_fail, names_begin, names_go, names_stop, names_end, names_shorter)

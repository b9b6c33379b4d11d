-- The steps of the parser of formulas.
use Rattle.std.proofs.Common.{◌≡◌, ℕ, zero, suc, ◌-◌, ◌<◌, List, length, codes, Option, Some, None, refl, sym, ap, arith}
use Rattle.std.proofs.lemmas.List.{length-map}
use Rattle.xc_base.specs.Lines.{texts}
use Rattle.xc_base.specs.declared.lines.Lexeme.{Lexeme}
use Rattle.xc_base.specs.Operators.{Front, behind, chain}
use Rattle.xc_base.proofs.Operators.{chain_ends, chain_goes, chain_fails, chained_begins, chained_fails, turn_shorter}
use Rattle.xc_formula.specs.Written.{Written, And, Or}
use Rattle.xc_formula.specs.FormulaReading.{atom, or_else, implying, until_closed, until, paths_in, in_brackets, under, nested_by, basic, nested, product, sum, implication}
use Rattle.xc_formula.specs.declared.prefix.Paths.{Paths}
use Rattle.xc_formula.proofs.FormulaReading.{basic_shortens, product_shortens, sum_shortens, implication_shortens}
use Rattle.xc_formula.proofs.Implications.{behind_less, implications_fail, implications_end, implications_go}

-- a basic formula is an atom, or else it begins with a prefix or brackets
pub basic_is : (d : ℕ) (tokens : List (List ℕ)) → basic d tokens ≡ or_else (atom tokens) (nested d tokens)
unfolding basic nested
basic_is zero tokens = by_atom (atom tokens)
  where
    by_atom : (o : Option (Front Written)) → o ≡ or_else o None
    by_atom None = refl
    by_atom (Some f) = refl
basic_is (suc d) tokens = refl

-- at no depth there is none
pub nested_flat : (d : ℕ) (tokens : List (List ℕ)) → d ≡ 0 → nested d tokens ≡ None
unfolding nested
nested_flat zero tokens h = refl
nested_flat (suc d) tokens h = absurd (omega arith)

-- what comes of the first token and those behind it
pub nested_deeper : (d : ℕ) (tokens : List (List ℕ)) → 0 < d → nested d tokens ≡ nested_by (basic (d - 1)) tokens
unfolding nested
nested_deeper zero tokens h = absurd (omega arith)
nested_deeper (suc d) tokens h = ap (λ (k : ℕ). nested_by (basic k) tokens) same
  where
    same : d ≡ suc d - 1
    same = omega arith

-- the steps of a formula that begins with a prefix or brackets
pub ruleset nested_steps = (nested_flat, nested_deeper)

-- what stands behind no prefix is in brackets, in which implications stand
pub under_brackets : (d : ℕ) (token : List ℕ) (rest : List (List ℕ)) → in_brackets (implication d) token rest (paths_in token) ≡ under (basic d) token rest None
unfolding implication
under_brackets d token rest = refl

-- tokens that begin with no basic formula are no product
pub product_fails : (d : ℕ) (tokens : List (List ℕ)) → basic d tokens ≡ None → product d tokens ≡ None
unfolding product
product_fails d tokens h = chained_fails (codes "&") And (basic d) tokens h

-- a product begins with a basic formula
pub product_begins : (d : ℕ) (tokens rest : List (List ℕ)) (g : Written) → basic d tokens ≡ Some (record { tree = g; rest = rest }) → chain (codes "&") And (basic d) g rest ≡ product d tokens
unfolding product
product_begins d tokens rest g h = sym (chained_begins (codes "&") And (basic d) tokens (record { tree = g; rest = rest }) h)

-- it goes on with each `&`
pub product_goes : (d : ℕ) (tokens more rest : List (List ℕ)) (g h : Written) → behind (codes "&") tokens ≡ Some more → basic d more ≡ Some (record { tree = h; rest = rest })
    → chain (codes "&") And (basic d) (And g h) rest ≡ chain (codes "&") And (basic d) g tokens
product_goes d tokens more rest g h p q = sym (chain_goes (codes "&") And (basic d) (basic_shortens d) g tokens more (record { tree = h; rest = rest }) p q)

-- with nothing behind `&` it is none
pub product_stops : (d : ℕ) (tokens more : List (List ℕ)) (g : Written) → behind (codes "&") tokens ≡ Some more → basic d more ≡ None → chain (codes "&") And (basic d) g tokens ≡ None
product_stops d tokens more g p q = chain_fails (codes "&") And (basic d) g tokens more p q

-- with no `&` behind it, it is all
pub product_ends : (d : ℕ) (tokens : List (List ℕ)) (g : Written) → behind (codes "&") tokens ≡ None → chain (codes "&") And (basic d) g tokens ≡ Some (record { tree = g; rest = tokens })
product_ends d tokens g p = chain_ends (codes "&") And (basic d) g tokens p

-- after each turn less is left
pub product_shorter : (d : ℕ) (tokens more rest : List Lexeme) (g : Written) → behind (codes "&") (texts tokens) ≡ Some (texts more) → basic d (texts more) ≡ Some (record { tree = g; rest = texts rest }) → length rest < length tokens
product_shorter d tokens more rest g p q = turn_shorter (codes "&") (basic d) (basic_shortens d) tokens more rest g p q

-- all steps of a product
pub ruleset product_steps = (product_fails, product_begins, product_goes, product_stops, product_ends, product_shorter)

-- tokens that begin with no product are no sum
pub sum_fails : (d : ℕ) (tokens : List (List ℕ)) → product d tokens ≡ None → sum d tokens ≡ None
unfolding sum product
sum_fails d tokens h = chained_fails (codes "|") Or (product d) tokens h

-- a sum begins with a product
pub sum_begins : (d : ℕ) (tokens rest : List (List ℕ)) (g : Written) → product d tokens ≡ Some (record { tree = g; rest = rest }) → chain (codes "|") Or (product d) g rest ≡ sum d tokens
unfolding sum product
sum_begins d tokens rest g h = sym (chained_begins (codes "|") Or (product d) tokens (record { tree = g; rest = rest }) h)

-- it goes on with each `|`
pub sum_goes : (d : ℕ) (tokens more rest : List (List ℕ)) (g h : Written) → behind (codes "|") tokens ≡ Some more → product d more ≡ Some (record { tree = h; rest = rest })
    → chain (codes "|") Or (product d) (Or g h) rest ≡ chain (codes "|") Or (product d) g tokens
sum_goes d tokens more rest g h p q = sym (chain_goes (codes "|") Or (product d) (product_shortens d) g tokens more (record { tree = h; rest = rest }) p q)

-- with nothing behind `|` it is none
pub sum_stops : (d : ℕ) (tokens more : List (List ℕ)) (g : Written) → behind (codes "|") tokens ≡ Some more → product d more ≡ None → chain (codes "|") Or (product d) g tokens ≡ None
sum_stops d tokens more g p q = chain_fails (codes "|") Or (product d) g tokens more p q

-- with no `|` behind it, it is all
pub sum_ends : (d : ℕ) (tokens : List (List ℕ)) (g : Written) → behind (codes "|") tokens ≡ None → chain (codes "|") Or (product d) g tokens ≡ Some (record { tree = g; rest = tokens })
sum_ends d tokens g p = chain_ends (codes "|") Or (product d) g tokens p

-- after each turn less is left
pub sum_shorter : (d : ℕ) (tokens more rest : List Lexeme) (g : Written) → behind (codes "|") (texts tokens) ≡ Some (texts more) → product d (texts more) ≡ Some (record { tree = g; rest = texts rest }) → length rest < length tokens
sum_shorter d tokens more rest g p q = turn_shorter (codes "|") (product d) (product_shortens d) tokens more rest g p q

-- all steps of a sum
pub ruleset sum_steps = (sum_fails, sum_begins, sum_goes, sum_stops, sum_ends, sum_shorter)

-- tokens that begin with no sum are no implication
pub implication_fails : (d : ℕ) (tokens : List (List ℕ)) → sum d tokens ≡ None → implication d tokens ≡ None
unfolding implication sum
implication_fails d tokens h = implications_fail (sum d) (sum_shortens d) tokens h

-- with no `->` behind it, a sum is all
pub implication_ends : (d : ℕ) (tokens rest : List (List ℕ)) (g : Written) → sum d tokens ≡ Some (record { tree = g; rest = rest }) → behind (codes "->") rest ≡ None → implication d tokens ≡ Some (record { tree = g; rest = rest })
unfolding implication sum
implication_ends d tokens rest g h k = implications_end (sum d) (sum_shortens d) tokens (record { tree = g; rest = rest }) h k

-- with `->` behind it, it stands before an implication
pub implication_goes : (d : ℕ) (tokens rest more : List (List ℕ)) (g : Written) → sum d tokens ≡ Some (record { tree = g; rest = rest }) → behind (codes "->") rest ≡ Some more → implying g (implication d more) ≡ implication d tokens
unfolding implication sum
implication_goes d tokens rest more g h k = sym (implications_go (sum d) (sum_shortens d) tokens more (record { tree = g; rest = rest }) h k)

-- what stands behind `->` is less
pub implication_shorter : (d : ℕ) (tokens rest more : List Lexeme) (g : Written) → sum d (texts tokens) ≡ Some (record { tree = g; rest = texts rest }) → behind (codes "->") (texts rest) ≡ Some (texts more) → length more < length tokens
implication_shorter d tokens rest more g p q =
    let a : length (texts more) < length (texts rest) = behind_less (codes "->") (texts rest) (texts more) q in
    let b = (sum_shortens d).shorter (texts tokens) (record { tree = g; rest = texts rest }) p in
    omega (arith, length-map tokens (λ (x : Lexeme). x.text.now), length-map more (λ (x : Lexeme). x.text.now))

-- all steps of an implication
pub ruleset implication_steps = (implication_fails, implication_ends, implication_goes, implication_shorter)

module _ (d : ℕ) (q : Paths) (tokens : List (List ℕ)) where
  -- with no `[` in front there is none
  pub until_unopened : behind (codes "[") tokens ≡ None → until q (implication d) tokens ≡ None
  unfolding until
  until_unopened h = rw h refl

  -- with no formula behind `[`
  pub until_no_first : (more : List (List ℕ)) → behind (codes "[") tokens ≡ Some more → implication d more ≡ None → until q (implication d) tokens ≡ None
  unfolding until
  until_no_first more h k = rw (h, k) refl

  -- with no `U` behind it
  pub until_unsplit : (more rest : List (List ℕ)) (f : Written) → behind (codes "[") tokens ≡ Some more → implication d more ≡ Some (record { tree = f; rest = rest }) → behind (codes "U") rest ≡ None → until q (implication d) tokens ≡ None
  unfolding until
  until_unsplit more rest f h k m = rw (h, k, m) refl

  -- with it, what stands behind it makes it whole
  pub until_goes : (more rest second : List (List ℕ)) (f : Written) → behind (codes "[") tokens ≡ Some more → implication d more ≡ Some (record { tree = f; rest = rest }) → behind (codes "U") rest ≡ Some second
      → until_closed q f (implication d second) ≡ until q (implication d) tokens
  unfolding until
  until_goes more rest second f h k m = rw (h, k, m) refl

-- what stands behind `[` is less
pub opened_shorter : (tokens more : List Lexeme) → behind (codes "[") (texts tokens) ≡ Some (texts more) → length more < length tokens
opened_shorter tokens more h =
    let a : length (texts more) < length (texts tokens) = behind_less (codes "[") (texts tokens) (texts more) h in
    omega (arith, length-map tokens (λ (x : Lexeme). x.text.now), length-map more (λ (x : Lexeme). x.text.now))

-- and what stands behind `U` still less
pub second_shorter : (d : ℕ) (tokens more rest second : List Lexeme) (f : Written) → behind (codes "[") (texts tokens) ≡ Some (texts more) → implication d (texts more) ≡ Some (record { tree = f; rest = texts rest })
    → behind (codes "U") (texts rest) ≡ Some (texts second) → length second < length tokens
second_shorter d tokens more rest second f h k m =
    let a : length (texts more) < length (texts tokens) = behind_less (codes "[") (texts tokens) (texts more) h in
    let b = (implication_shortens d).shorter (texts more) (record { tree = f; rest = texts rest }) k in
    let c : length (texts second) < length (texts rest) = behind_less (codes "U") (texts rest) (texts second) m in
    omega (arith, length-map tokens (λ (x : Lexeme). x.text.now), length-map second (λ (x : Lexeme). x.text.now))

-- all steps of two formulas in brackets
pub ruleset until_steps = (until_unopened, until_no_first, until_unsplit, until_goes, opened_shorter, second_shorter)

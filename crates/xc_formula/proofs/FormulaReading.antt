-- What is read as a formula is spelled so, and what is spelled so is read.
use Rattle.std.proofs.Common.{◌≡◌, ℕ, zero, suc, Bool, true, false, cond, List, [], ◌∷◌, ◌++◌, append_assoc, append-nil, codes, Option, Some, None, refl, sym, ◌∙◌, subst, ap}
use Rattle.std.specs.List.{list_all}
use Rattle.std.specs.Option.{option_map, option_and_then}
use Rattle.std.specs.Str.{bytes_eq}
use Rattle.std.proofs.lemmas.Option.{none-some, same_Some}
use Rattle.xc_base.specs.Operators.{Front, behind, alone, whole, chain, Shortens, Begins, IsSound}
use Rattle.xc_base.specs.Words.{is_name}
use Rattle.xc_base.proofs.Naming.{same_bytes}
use Rattle.xc_base.proofs.Operators.{behind_cut, chain_ends, chain_goes, chained_begins, sound_shortens, chained_sound}
use Rattle.xc_formula.specs.Written.{Written, True, False, Name, Braces, Prefixed, Until, And, Or, Level, Implication, Sum, Product, Basic, IsSpelled, listed, is_prop_name, prefix_word, path_word, depth_limit, IsFormula}
use Rattle.xc_formula.specs.Written.IsSpelled.{truth, falsity, name, braces, prefixed, until, enclosed, factor, and, summand, or, conclusion, implies}
use Rattle.xc_formula.specs.FormulaReading.{names, in_braces, word_formula, word_before, atom, prefix_in, paths_in, applied, closed, or_else, products, sums, implying, implications, until_closed, until_second, in_brackets, under, nested_by, basic, product, sum, implication}
use Rattle.xc_formula.specs.FormulaReading as reading
use Rattle.xc_formula.specs.Reading.{formula_in}
use Rattle.xc_formula.specs.declared.prefix.Prefix.{Prefix}
use Rattle.xc_formula.specs.declared.prefix.Prefix.TheVariants.{Negation, SomeNext, AllNext, SomeFinally, AllFinally, SomeGlobally, AllGlobally}
use Rattle.xc_formula.specs.declared.prefix.Paths.{Paths}
use Rattle.xc_formula.specs.declared.prefix.Paths.TheVariants.{SomePath, EveryPath}
use Rattle.xc_formula.specs.Laws.{FormulasAreRead, FormulasAreUnique}
use Rattle.xc_formula.proofs.NameReading.{AreListed, names_sound, names_read}
use Rattle.xc_formula.proofs.Implications.{implications_end, implications_go, implications_sound}

-- tokens that begin with some that are spelled as a tree
begins_with : (l : Level) (d : ℕ) (front rest tokens : List (List ℕ)) (g : Written) (f : Front Written) → tokens ≡ front ++ rest → IsSpelled l d front g → Some (record { tree = g; rest = rest }) ≡ Some f → Begins (IsSpelled l d) tokens f
begins_with l d front rest tokens g f cut spelled e = subst (λ (x : Front Written). Begins (IsSpelled l d) tokens x) (same_Some _ _ e) (record { front = front; cut = cut; spelled = spelled })

-- names between `{` and `}`
braces_spelled : (d : ℕ) (tokens values : List (List ℕ)) → AreListed tokens values → IsSpelled Basic d (codes "{" ∷ tokens ++ codes "}" ∷ []) (Braces values)
braces_spelled d tokens values l =
    subst (λ (ts : List (List ℕ)). IsSpelled Basic d (codes "{" ∷ ts ++ codes "}" ∷ []) (Braces values)) (sym l.spelled)
    (subst (λ (vs : List (List ℕ)). IsSpelled Basic d (codes "{" ∷ listed vs ++ codes "}" ∷ []) (Braces vs)) (sym l.some)
    (braces d l.first l.more (subst (λ (vs : List (List ℕ)). list_all is_name vs ≡ true) l.some l.named)))

-- by whether `}` follows
braces_by : (d : ℕ) (rest : List (List ℕ)) (g : Front (List (List ℕ))) (f : Front Written) → Begins AreListed rest g
    → (o : Option (List (List ℕ))) → behind (codes "}") g.rest ≡ o → option_map (λ more. record { tree = Braces g.tree; rest = more }) o ≡ Some f → Begins (IsSpelled Basic d) (codes "{" ∷ rest) f
braces_by d rest g f b None p e = absurd (none-some f e)
braces_by d rest g f b (Some more) p e =
    let inside : rest ≡ (b.front ++ codes "}" ∷ []) ++ more = b.cut ∙ ap (λ r. b.front ++ r) (behind_cut (codes "}") g.rest more p) ∙ sym (append_assoc b.front (codes "}" ∷ []) more) in
    begins_with Basic d (codes "{" ∷ b.front ++ codes "}" ∷ []) more (codes "{" ∷ rest) (Braces g.tree) f (ap (λ r. codes "{" ∷ r) inside) (braces_spelled d b.front g.tree b.spelled) e

-- by the names
braces_sound : (d : ℕ) (rest : List (List ℕ)) (f : Front Written) (o : Option (Front (List (List ℕ)))) → names rest ≡ o → in_braces o ≡ Some f → Begins (IsSpelled Basic d) (codes "{" ∷ rest) f
braces_sound d rest f None p e = absurd (none-some f e)
braces_sound d rest f (Some g) p e = braces_by d rest g f (names_sound.begins rest g p) (behind (codes "}") g.rest) refl e

-- a word, by the outcomes of its tests
word_by : (d : ℕ) (token : List ℕ) (rest : List (List ℕ)) (f : Front Written) (named is_true is_false : Bool) → is_prop_name token ≡ named → bytes_eq token (codes "true") ≡ is_true → bytes_eq token (codes "false") ≡ is_false
    → option_map (λ t. record { tree = t; rest = rest }) (cond named (Some (Name token)) (cond is_true (Some True) (cond is_false (Some False) None))) ≡ Some f → Begins (IsSpelled Basic d) (token ∷ rest) f
word_by d token rest f true b c n p q e = begins_with Basic d (token ∷ []) rest (token ∷ rest) (Name token) f refl (name d token n) e
word_by d token rest f false true c n p q e = begins_with Basic d (codes "true" ∷ []) rest (token ∷ rest) True f (ap (λ (t : List ℕ). t ∷ rest) (same_bytes token (codes "true") p)) (truth d) e
word_by d token rest f false false true n p q e = begins_with Basic d (codes "false" ∷ []) rest (token ∷ rest) False f (ap (λ (t : List ℕ). t ∷ rest) (same_bytes token (codes "false") q)) (falsity d) e
word_by d token rest f false false false n p q e = absurd (none-some f e)

-- a formula with no formula in it, by whether it begins with `{`
atom_by : (d : ℕ) (token : List ℕ) (rest : List (List ℕ)) (f : Front Written) (b : Bool) → bytes_eq token (codes "{") ≡ b → cond b (in_braces (names rest)) (word_before token rest) ≡ Some f → Begins (IsSpelled Basic d) (token ∷ rest) f
atom_by d token rest f true p e =
    subst (λ (t : List ℕ). Begins (IsSpelled Basic d) (t ∷ rest) f) (sym (same_bytes token (codes "{") p)) (braces_sound d rest f (names rest) refl e)
atom_by d token rest f false p e = word_by d token rest f (is_prop_name token) (bytes_eq token (codes "true")) (bytes_eq token (codes "false")) refl refl refl e

-- a formula with no formula in it is spelled so
atom_sound : (d : ℕ) (tokens : List (List ℕ)) (f : Front Written) → atom tokens ≡ Some f → Begins (IsSpelled Basic d) tokens f
unfolding atom
atom_sound d [] f e = absurd (none-some f e)
atom_sound d (token ∷ rest) f e = atom_by d token rest f (bytes_eq token (codes "{")) refl e

-- products of sound parts are sound
products_sound : (d : ℕ) → IsSound (IsSpelled Basic d) (basic d) → IsSound (IsSpelled Product d) (products (basic d))
products_sound d s = chained_sound (codes "&") And (basic d) (IsSpelled Basic d) (IsSpelled Product d) (and d) s (factor d)

-- so are sums
sums_sound : (d : ℕ) → IsSound (IsSpelled Basic d) (basic d) → IsSound (IsSpelled Sum d) (sums (basic d))
sums_sound d s = chained_sound (codes "|") Or (products (basic d)) (IsSpelled Product d) (IsSpelled Sum d) (or d) (products_sound d s) (summand d)

-- and implications
wholes_sound : (d : ℕ) → IsSound (IsSpelled Basic d) (basic d) → IsSound (IsSpelled Implication d) (implications (sums (basic d)))
wholes_sound d s = implications_sound (sums (basic d)) (IsSpelled Sum d) (IsSpelled Implication d) (conclusion d) (implies d) (sums_sound d s)

-- a token that is a prefix, by the outcomes of its tests
prefix_by : (token : List ℕ) (p : Prefix) (not ex ax ef af eg ag : Bool) → bytes_eq token (codes "!") ≡ not → bytes_eq token (codes "EX") ≡ ex → bytes_eq token (codes "AX") ≡ ax
    → bytes_eq token (codes "EF") ≡ ef → bytes_eq token (codes "AF") ≡ af → bytes_eq token (codes "EG") ≡ eg → bytes_eq token (codes "AG") ≡ ag
    → cond not (Some Negation) (cond ex (Some SomeNext) (cond ax (Some AllNext) (cond ef (Some SomeFinally) (cond af (Some AllFinally) (cond eg (Some SomeGlobally) (cond ag (Some AllGlobally) None)))))) ≡ Some p
    → token ≡ prefix_word p
prefix_by token p true b c d e f g h1 h2 h3 h4 h5 h6 h7 r = same_bytes token (codes "!") h1 ∙ ap prefix_word (same_Some Negation p r)
prefix_by token p false true c d e f g h1 h2 h3 h4 h5 h6 h7 r = same_bytes token (codes "EX") h2 ∙ ap prefix_word (same_Some SomeNext p r)
prefix_by token p false false true d e f g h1 h2 h3 h4 h5 h6 h7 r = same_bytes token (codes "AX") h3 ∙ ap prefix_word (same_Some AllNext p r)
prefix_by token p false false false true e f g h1 h2 h3 h4 h5 h6 h7 r = same_bytes token (codes "EF") h4 ∙ ap prefix_word (same_Some SomeFinally p r)
prefix_by token p false false false false true f g h1 h2 h3 h4 h5 h6 h7 r = same_bytes token (codes "AF") h5 ∙ ap prefix_word (same_Some AllFinally p r)
prefix_by token p false false false false false true g h1 h2 h3 h4 h5 h6 h7 r = same_bytes token (codes "EG") h6 ∙ ap prefix_word (same_Some SomeGlobally p r)
prefix_by token p false false false false false false true h1 h2 h3 h4 h5 h6 h7 r = same_bytes token (codes "AG") h7 ∙ ap prefix_word (same_Some AllGlobally p r)
prefix_by token p false false false false false false false h1 h2 h3 h4 h5 h6 h7 r = absurd (none-some p r)

-- a token that is a prefix is its word
prefix_sound : (token : List ℕ) (p : Prefix) → prefix_in token ≡ Some p → token ≡ prefix_word p
prefix_sound token p r =
    prefix_by token p (bytes_eq token (codes "!")) (bytes_eq token (codes "EX")) (bytes_eq token (codes "AX")) (bytes_eq token (codes "EF")) (bytes_eq token (codes "AF")) (bytes_eq token (codes "EG")) (bytes_eq token (codes "AG"))
    refl refl refl refl refl refl refl r

-- the same of a token before brackets
paths_by : (token : List ℕ) (q : Paths) (some every : Bool) → bytes_eq token (codes "E") ≡ some → bytes_eq token (codes "A") ≡ every → cond some (Some SomePath) (cond every (Some EveryPath) None) ≡ Some q → token ≡ path_word q
paths_by token q true b h k r = same_bytes token (codes "E") h ∙ ap path_word (same_Some SomePath q r)
paths_by token q false true h k r = same_bytes token (codes "A") k ∙ ap path_word (same_Some EveryPath q r)
paths_by token q false false h k r = absurd (none-some q r)

-- a prefix and a formula behind it
applied_sound : (d : ℕ) → IsSound (IsSpelled Basic d) (basic d) → (p : Prefix) (rest : List (List ℕ)) (f : Front Written)
    → (o : Option (Front Written)) → basic d rest ≡ o → applied p o ≡ Some f → Begins (IsSpelled Basic (suc d)) (prefix_word p ∷ rest) f
applied_sound d s p rest f None k e = absurd (none-some f e)
applied_sound d s p rest f (Some g) k e =
    let b = s.begins rest g k in
    begins_with Basic (suc d) (prefix_word p ∷ b.front) g.rest (prefix_word p ∷ rest) (Prefixed p g.tree) f (ap (λ more. prefix_word p ∷ more) b.cut) (prefixed d p b.front g.tree b.spelled) e

-- Two formulas in brackets, by what the tokens behind each part are: first by whether `]` follows.
until_by_end : (d : ℕ) (q : Paths) (more middle : List (List ℕ)) (f g h : Front Written) → Begins (IsSpelled Implication d) more f → behind (codes "U") f.rest ≡ Some middle → Begins (IsSpelled Implication d) middle g
    → (o : Option (List (List ℕ))) → behind (codes "]") g.rest ≡ o → option_map (λ rest. record { tree = Until q f.tree g.tree; rest = rest }) o ≡ Some h
    → Begins (IsSpelled Basic (suc d)) (path_word q ∷ codes "[" ∷ more) h
until_by_end d q more middle f g h a k b None p e = absurd (none-some h e)
until_by_end d q more middle f g h a k b (Some rest) p e =
    let second : middle ≡ (b.front ++ codes "]" ∷ []) ++ rest = b.cut ∙ ap (λ r. b.front ++ r) (behind_cut (codes "]") g.rest rest p) ∙ sym (append_assoc b.front (codes "]" ∷ []) rest) in
    let first : more ≡ a.front ++ codes "U" ∷ middle = a.cut ∙ ap (λ r. a.front ++ r) (behind_cut (codes "U") f.rest middle k) in
    let inside : more ≡ ((a.front ++ codes "U" ∷ b.front) ++ codes "]" ∷ []) ++ rest =
    first ∙ ap (λ (r : List (List ℕ)). a.front ++ codes "U" ∷ r) second ∙ sym (append_assoc a.front (codes "U" ∷ (b.front ++ codes "]" ∷ [])) rest) ∙ ap (λ (r : List (List ℕ)). r ++ rest) (sym (append_assoc a.front (codes "U" ∷ b.front) (codes "]" ∷ []))) in
    begins_with Basic (suc d) (path_word q ∷ codes "[" ∷ a.front ++ codes "U" ∷ b.front ++ codes "]" ∷ []) rest (path_word q ∷ codes "[" ∷ more) (Until q f.tree g.tree) h
    (ap (λ (r : List (List ℕ)). path_word q ∷ codes "[" ∷ r) inside) (until d q a.front b.front f.tree g.tree a.spelled b.spelled) e

module _ (d : ℕ) (s : IsSound (IsSpelled Basic d) (basic d)) (q : Paths) where
  -- by the second formula
  until_by_second : (more middle : List (List ℕ)) (f h : Front Written) → Begins (IsSpelled Implication d) more f → behind (codes "U") f.rest ≡ Some middle
      → (o : Option (Front Written)) → implications (sums (basic d)) middle ≡ o → until_closed q f.tree o ≡ Some h → Begins (IsSpelled Basic (suc d)) (path_word q ∷ codes "[" ∷ more) h
  until_by_second more middle f h a k None p e = absurd (none-some h e)
  until_by_second more middle f h a k (Some g) p e = until_by_end d q more middle f g h a k ((wholes_sound d s).begins middle g p) (behind (codes "]") g.rest) refl e

  -- by whether `U` follows
  until_by_split : (more : List (List ℕ)) (f h : Front Written) → Begins (IsSpelled Implication d) more f → (o : Option (List (List ℕ))) → behind (codes "U") f.rest ≡ o
      → option_and_then (λ (middle : List (List ℕ)). until_closed q f.tree (implications (sums (basic d)) middle)) o ≡ Some h → Begins (IsSpelled Basic (suc d)) (path_word q ∷ codes "[" ∷ more) h
  until_by_split more f h a None k e = absurd (none-some h e)
  until_by_split more f h a (Some middle) k e = until_by_second more middle f h a k (implications (sums (basic d)) middle) refl e

  -- by the first formula
  until_by_first : (more : List (List ℕ)) (h : Front Written) (o : Option (Front Written)) → implications (sums (basic d)) more ≡ o
      → option_and_then (until_second q (implications (sums (basic d)))) o ≡ Some h → Begins (IsSpelled Basic (suc d)) (path_word q ∷ codes "[" ∷ more) h
  until_by_first more h None p e = absurd (none-some h e)
  until_by_first more h (Some f) p e = until_by_split more f h ((wholes_sound d s).begins more f p) (behind (codes "U") f.rest) refl e

  -- by whether `[` stands in front
  until_by_open : (rest : List (List ℕ)) (h : Front Written) (o : Option (List (List ℕ))) → behind (codes "[") rest ≡ o
      → option_and_then (λ (more : List (List ℕ)). option_and_then (until_second q (implications (sums (basic d)))) (implications (sums (basic d)) more)) o ≡ Some h
      → Begins (IsSpelled Basic (suc d)) (path_word q ∷ rest) h
  until_by_open rest h None k e = absurd (none-some h e)
  until_by_open rest h (Some more) k e =
      subst (λ (r : List (List ℕ)). Begins (IsSpelled Basic (suc d)) (path_word q ∷ r) h) (sym (behind_cut (codes "[") rest more k))
      (until_by_first more h (implications (sums (basic d)) more) refl e)

  until_sound : (rest : List (List ℕ)) (h : Front Written) → reading.until q (implications (sums (basic d))) rest ≡ Some h → Begins (IsSpelled Basic (suc d)) (path_word q ∷ rest) h
  unfolding reading.until
  until_sound rest h e = until_by_open rest h (behind (codes "[") rest) refl e

-- `(` and an implication behind it, by whether `)` follows
closed_by : (d : ℕ) (rest : List (List ℕ)) (f g : Front Written) → Begins (IsSpelled Implication d) rest g
    → (o : Option (List (List ℕ))) → behind (codes ")") g.rest ≡ o → option_map (λ more. record { tree = g.tree; rest = more }) o ≡ Some f → Begins (IsSpelled Basic (suc d)) (codes "(" ∷ rest) f
closed_by d rest f g b None p e = absurd (none-some f e)
closed_by d rest f g b (Some more) p e =
    let inside : rest ≡ (b.front ++ codes ")" ∷ []) ++ more = b.cut ∙ ap (λ r. b.front ++ r) (behind_cut (codes ")") g.rest more p) ∙ sym (append_assoc b.front (codes ")" ∷ []) more) in
    begins_with Basic (suc d) (codes "(" ∷ b.front ++ codes ")" ∷ []) more (codes "(" ∷ rest) g.tree f (ap (λ r. codes "(" ∷ r) inside) (enclosed d b.front g.tree b.spelled) e

-- `(` and what stands behind it
closed_sound : (d : ℕ) → IsSound (IsSpelled Basic d) (basic d) → (rest : List (List ℕ)) (f : Front Written)
    → (o : Option (Front Written)) → implications (sums (basic d)) rest ≡ o → closed o ≡ Some f → Begins (IsSpelled Basic (suc d)) (codes "(" ∷ rest) f
closed_sound d s rest f None p e = absurd (none-some f e)
closed_sound d s rest f (Some g) p e = closed_by d rest f g ((wholes_sound d s).begins rest g p) (behind (codes ")") g.rest) refl e

-- what no prefix begins, by whether it begins with `(`
paren_by : (d : ℕ) → IsSound (IsSpelled Basic d) (basic d) → (token : List ℕ) (rest : List (List ℕ)) (f : Front Written) (paren : Bool) → bytes_eq token (codes "(") ≡ paren
    → cond paren (closed (implications (sums (basic d)) rest)) None ≡ Some f → Begins (IsSpelled Basic (suc d)) (token ∷ rest) f
paren_by d s token rest f true r e =
    subst (λ (t : List ℕ). Begins (IsSpelled Basic (suc d)) (t ∷ rest) f) (sym (same_bytes token (codes "(") r)) (closed_sound d s rest f (implications (sums (basic d)) rest) refl e)
paren_by d s token rest f false r e = absurd (none-some f e)

-- by whether it begins with a token before brackets
brackets_by : (d : ℕ) → IsSound (IsSpelled Basic d) (basic d) → (token : List ℕ) (rest : List (List ℕ)) (f : Front Written) (o : Option Paths) → paths_in token ≡ o
    → in_brackets (implications (sums (basic d))) token rest o ≡ Some f → Begins (IsSpelled Basic (suc d)) (token ∷ rest) f
brackets_by d s token rest f None p e = paren_by d s token rest f (bytes_eq token (codes "(")) refl e
brackets_by d s token rest f (Some q) p e =
    subst (λ (t : List ℕ). Begins (IsSpelled Basic (suc d)) (t ∷ rest) f) (sym (paths_by token q (bytes_eq token (codes "E")) (bytes_eq token (codes "A")) refl refl p)) (until_sound d s q rest f e)

-- by whether it begins with a prefix
under_by : (d : ℕ) → IsSound (IsSpelled Basic d) (basic d) → (token : List ℕ) (rest : List (List ℕ)) (f : Front Written) (o : Option Prefix) → prefix_in token ≡ o
    → under (basic d) token rest o ≡ Some f → Begins (IsSpelled Basic (suc d)) (token ∷ rest) f
under_by d s token rest f None p e = brackets_by d s token rest f (paths_in token) refl e
under_by d s token rest f (Some prefix) p e =
    subst (λ (t : List ℕ). Begins (IsSpelled Basic (suc d)) (t ∷ rest) f) (sym (prefix_sound token prefix p)) (applied_sound d s prefix rest f (basic d rest) refl e)

-- so is what begins with a prefix or brackets
nested_sound : (d : ℕ) → IsSound (IsSpelled Basic d) (basic d) → (tokens : List (List ℕ)) (f : Front Written) → nested_by (basic d) tokens ≡ Some f → Begins (IsSpelled Basic (suc d)) tokens f
nested_sound d s [] f e = absurd (none-some f e)
nested_sound d s (token ∷ rest) f e = under_by d s token rest f (prefix_in token) refl e

-- a basic formula, by whether it is an atom
basic_by : (d : ℕ) → IsSound (IsSpelled Basic d) (basic d) → (tokens : List (List ℕ)) (f : Front Written) (o : Option (Front Written)) → atom tokens ≡ o
    → or_else o (nested_by (basic d) tokens) ≡ Some f → Begins (IsSpelled Basic (suc d)) tokens f
basic_by d s tokens f None p e = nested_sound d s tokens f e
basic_by d s tokens f (Some g) p e = atom_sound (suc d) tokens f (p ∙ e)

-- what is read at a level is spelled so
basic_sound : (d : ℕ) → IsSound (IsSpelled Basic d) (basic d)
unfolding basic
basic_sound zero = record { begins = λ tokens f e. atom_sound zero tokens f e }
basic_sound (suc d) = record { begins = λ tokens f e. basic_by d (basic_sound d) tokens f (atom tokens) refl e }

-- the same of implications
implication_sound : (d : ℕ) → IsSound (IsSpelled Implication d) (implication d)
unfolding implication
implication_sound d = wholes_sound d (basic_sound d)

-- what is left is no longer, at each level, of which here is what it is made of
pub basic_shortens : (d : ℕ) → Shortens (basic d)
basic_shortens d = sound_shortens (IsSpelled Basic d) (basic d) (basic_sound d)

-- behind a product
pub products_shorten : (d : ℕ) → Shortens (products (basic d))
products_shorten d = sound_shortens (IsSpelled Product d) (products (basic d)) (products_sound d (basic_sound d))

-- behind a sum
pub sums_shorten : (d : ℕ) → Shortens (sums (basic d))
sums_shorten d = sound_shortens (IsSpelled Sum d) (sums (basic d)) (sums_sound d (basic_sound d))

-- and here are its names
pub product_shortens : (d : ℕ) → Shortens (product d)
unfolding product
product_shortens d = products_shorten d

-- the same of sums
pub sum_shortens : (d : ℕ) → Shortens (sum d)
unfolding sum
sum_shortens d = sums_shorten d

-- the same of implications
pub implication_shortens : (d : ℕ) → Shortens (implication d)
implication_shortens d = sound_shortens (IsSpelled Implication d) (implication d) (implication_sound d)

-- what a reading of tokens comes to that begin with some that are spelled as a tree, by level: that tree, or the loop
-- that goes on behind it
abbrev IsRead : Level → ℕ → List (List ℕ) → Written → Type 0
IsRead Basic d front g = (rest : List (List ℕ)) → basic d (front ++ rest) ≡ Some (record { tree = g; rest = rest })
IsRead Product d front g = (rest : List (List ℕ)) → products (basic d) (front ++ rest) ≡ chain (codes "&") And (basic d) g rest
IsRead Sum d front g = (rest : List (List ℕ)) → behind (codes "&") rest ≡ None → sums (basic d) (front ++ rest) ≡ chain (codes "|") Or (products (basic d)) g rest
IsRead Implication d front g = (rest : List (List ℕ)) → behind (codes "&") rest ≡ None → behind (codes "|") rest ≡ None → behind (codes "->") rest ≡ None → implications (sums (basic d)) (front ++ rest) ≡ Some (record { tree = g; rest = rest })

-- an atom is read at any depth
basic_atom : (d : ℕ) (tokens : List (List ℕ)) (f : Front Written) → atom tokens ≡ Some f → basic d tokens ≡ Some f
unfolding basic
basic_atom zero tokens f e = e
basic_atom (suc d) tokens f e = rw e

-- a word is
word_read : (d : ℕ) (token : List ℕ) (rest : List (List ℕ)) (f : Written) → bytes_eq token (codes "{") ≡ false → word_formula token ≡ Some f → basic d (token ∷ rest) ≡ Some (record { tree = f; rest = rest })
unfolding atom
word_read d token rest f v e = basic_atom d (token ∷ rest) (record { tree = f; rest = rest }) (rw v (ap (option_map (λ t. record { tree = t; rest = rest })) e))

-- a name is not `{`
not_brace : (p : List ℕ) → is_prop_name p ≡ true → (b : Bool) → bytes_eq p (codes "{") ≡ b → b ≡ false
not_brace p h true e = let same = same_bytes p (codes "{") e in let f : is_prop_name (codes "{") ≡ true = subst (λ (t : List ℕ). is_prop_name t ≡ true) same h in cc
not_brace p h false e = refl

-- so a name is read
name_read : (d : ℕ) (p : List ℕ) (rest : List (List ℕ)) → is_prop_name p ≡ true → basic d (p ∷ rest) ≡ Some (record { tree = Name p; rest = rest })
name_read d p rest h = word_read d p rest (Name p) (not_brace p h (bytes_eq p (codes "{")) refl) (rw h)

-- names in braces are
braces_read : (d : ℕ) (v : List ℕ) (more rest : List (List ℕ)) → list_all is_name (v ∷ more) ≡ true → basic d (codes "{" ∷ (listed (v ∷ more) ++ codes "}" ∷ []) ++ rest) ≡ Some (record { tree = Braces (v ∷ more); rest = rest })
unfolding atom
braces_read d v more rest h =
    basic_atom d (codes "{" ∷ (listed (v ∷ more) ++ codes "}" ∷ []) ++ rest) (record { tree = Braces (v ∷ more); rest = rest })
    (ap (λ (ts : List (List ℕ)). in_braces (names ts)) (append_assoc (listed (v ∷ more)) (codes "}" ∷ []) rest)
    ∙ ap in_braces (names_read v more (codes "}" ∷ rest) h refl))

-- a formula with a prefix before it is read where the formula is
prefixed_read : (d : ℕ) (p : Prefix) (tokens : List (List ℕ)) (f : Front Written) → basic d tokens ≡ Some f → basic (suc d) (prefix_word p ∷ tokens) ≡ Some (record { tree = Prefixed p f.tree; rest = f.rest })
unfolding basic atom
prefixed_read d Negation tokens f e = rw e
prefixed_read d SomeNext tokens f e = rw e
prefixed_read d AllNext tokens f e = rw e
prefixed_read d SomeFinally tokens f e = rw e
prefixed_read d AllFinally tokens f e = rw e
prefixed_read d SomeGlobally tokens f e = rw e
prefixed_read d AllGlobally tokens f e = rw e

-- two formulas in brackets are read where each is
until_read_by : (d : ℕ) (q : Paths) (tokens middle rest : List (List ℕ)) (f g : Written) → implications (sums (basic d)) tokens ≡ Some (record { tree = f; rest = codes "U" ∷ middle })
    → implications (sums (basic d)) middle ≡ Some (record { tree = g; rest = codes "]" ∷ rest }) → reading.until q (implications (sums (basic d))) (codes "[" ∷ tokens) ≡ Some (record { tree = Until q f g; rest = rest })
unfolding reading.until
until_read_by d q tokens middle rest f g a b = rw (a, b) refl

until_read : (d : ℕ) (q : Paths) (tokens middle rest : List (List ℕ)) (f g : Written) → implications (sums (basic d)) tokens ≡ Some (record { tree = f; rest = codes "U" ∷ middle })
    → implications (sums (basic d)) middle ≡ Some (record { tree = g; rest = codes "]" ∷ rest }) → basic (suc d) (path_word q ∷ codes "[" ∷ tokens) ≡ Some (record { tree = Until q f g; rest = rest })
unfolding basic atom
until_read d SomePath tokens middle rest f g a b = until_read_by d SomePath tokens middle rest f g a b
until_read d EveryPath tokens middle rest f g a b = until_read_by d EveryPath tokens middle rest f g a b

-- so is an implication in brackets
enclosed_read : (d : ℕ) (tokens rest : List (List ℕ)) (g : Written) → implications (sums (basic d)) tokens ≡ Some (record { tree = g; rest = codes ")" ∷ rest }) → basic (suc d) (codes "(" ∷ tokens) ≡ Some (record { tree = g; rest = rest })
unfolding basic atom
enclosed_read d tokens rest g e = rw e

-- a product is all that is read where no `&` stands behind, and a sum where no `|` does
product_ends : (d : ℕ) (tokens rest : List (List ℕ)) (g : Written) → behind (codes "&") rest ≡ None → products (basic d) tokens ≡ chain (codes "&") And (basic d) g rest → products (basic d) tokens ≡ Some (record { tree = g; rest = rest })
product_ends d tokens rest g k e = e ∙ chain_ends (codes "&") And (basic d) g rest k

-- a sum is all that is read where no `|` stands behind
sum_ends : (d : ℕ) (tokens rest : List (List ℕ)) (g : Written) → behind (codes "|") rest ≡ None → sums (basic d) tokens ≡ chain (codes "|") Or (products (basic d)) g rest → sums (basic d) tokens ≡ Some (record { tree = g; rest = rest })
sum_ends d tokens rest g k e = e ∙ chain_ends (codes "|") Or (products (basic d)) g rest k

-- what is spelled so is read so, whatever stands behind
spelled_read : (l : Level) (d : ℕ) (tokens : List (List ℕ)) (g : Written) → IsSpelled l d tokens g → IsRead l d tokens g
spelled_read _ _ _ _ (truth d) = λ rest. word_read d (codes "true") rest True refl refl
spelled_read _ _ _ _ (falsity d) = λ rest. word_read d (codes "false") rest False refl refl
spelled_read _ _ _ _ (name d p n) = λ rest. name_read d p rest n
spelled_read _ _ _ _ (braces d v more n) = λ rest. braces_read d v more rest n
spelled_read _ _ _ _ (prefixed d p tokens g s) = λ rest. prefixed_read d p (tokens ++ rest) (record { tree = g; rest = rest }) (spelled_read Basic d tokens g s rest)
spelled_read _ _ _ _ (until d q left right f g s t) = λ rest.
    ap (λ (more : List (List ℕ)). basic (suc d) (path_word q ∷ codes "[" ∷ more))
    (append_assoc (left ++ codes "U" ∷ right) (codes "]" ∷ []) rest ∙ append_assoc left (codes "U" ∷ right) (codes "]" ∷ rest))
    ∙ until_read d q (left ++ codes "U" ∷ (right ++ codes "]" ∷ rest)) (right ++ codes "]" ∷ rest) rest f g
    (spelled_read Implication d left f s (codes "U" ∷ (right ++ codes "]" ∷ rest)) refl refl refl) (spelled_read Implication d right g t (codes "]" ∷ rest) refl refl refl)
spelled_read _ _ _ _ (enclosed d tokens g s) = λ rest.
    ap (λ more. basic (suc d) (codes "(" ∷ more)) (append_assoc tokens (codes ")" ∷ []) rest)
    ∙ enclosed_read d (tokens ++ codes ")" ∷ rest) rest g (spelled_read Implication d tokens g s (codes ")" ∷ rest) refl refl refl)
spelled_read _ _ _ _ (factor d tokens g s) = λ rest. chained_begins (codes "&") And (basic d) (tokens ++ rest) (record { tree = g; rest = rest }) (spelled_read Basic d tokens g s rest)
spelled_read _ _ _ _ (and d left right g h s t) = λ rest.
    ap (products (basic d)) (append_assoc left (codes "&" ∷ right) rest)
    ∙ spelled_read Product d left g s (codes "&" ∷ right ++ rest)
    ∙ chain_goes (codes "&") And (basic d) (basic_shortens d) g (codes "&" ∷ right ++ rest) (right ++ rest) (record { tree = h; rest = rest }) refl (spelled_read Basic d right h t rest)
spelled_read _ _ _ _ (summand d tokens g s) = λ rest k.
    chained_begins (codes "|") Or (products (basic d)) (tokens ++ rest) (record { tree = g; rest = rest }) (product_ends d (tokens ++ rest) rest g k (spelled_read Product d tokens g s rest))
spelled_read _ _ _ _ (or d left right g h s t) = λ rest k.
    ap (sums (basic d)) (append_assoc left (codes "|" ∷ right) rest)
    ∙ spelled_read Sum d left g s (codes "|" ∷ right ++ rest) refl
    ∙ chain_goes (codes "|") Or (products (basic d)) (products_shorten d) g (codes "|" ∷ right ++ rest) (right ++ rest) (record { tree = h; rest = rest }) refl (product_ends d (right ++ rest) rest h k (spelled_read Product d right h t rest))
spelled_read _ _ _ _ (conclusion d tokens g s) = λ rest k l m.
    implications_end (sums (basic d)) (sums_shorten d) (tokens ++ rest) (record { tree = g; rest = rest }) (sum_ends d (tokens ++ rest) rest g l (spelled_read Sum d tokens g s rest k)) m
spelled_read _ _ _ _ (implies d left right g h s t) = λ rest k l m.
    let arrow = codes "->" ∷ right ++ rest in
    ap (implications (sums (basic d))) (append_assoc left (codes "->" ∷ right) rest)
    ∙ implications_go (sums (basic d)) (sums_shorten d) (left ++ arrow) (right ++ rest) (record { tree = g; rest = arrow }) (sum_ends d (left ++ arrow) arrow g refl (spelled_read Sum d left g s arrow refl)) refl
    ∙ ap (implying g) (spelled_read Implication d right h t rest k l m)

-- what is spelled as a formula is read as that formula
pub formula_complete : (tokens : List (List ℕ)) (g : Written) → IsFormula tokens g → formula_in tokens ≡ Some g
unfolding formula_in implication
formula_complete tokens g s =
    let all : implications (sums (basic depth_limit)) tokens ≡ Some (record { tree = g; rest = [] }) =
    ap (implications (sums (basic depth_limit))) (sym (append-nil tokens)) ∙ spelled_read Implication depth_limit tokens g s [] refl refl refl in
    ap whole all

-- tokens of which nothing is left are spelled so
whole_sound : (tokens : List (List ℕ)) (g t : Written) (rest : List (List ℕ)) → Begins (IsSpelled Implication depth_limit) tokens (record { tree = t; rest = rest }) → alone t rest ≡ Some g → IsFormula tokens g
whole_sound tokens g t [] b e =
    subst (λ (h : Written). IsFormula tokens h) (same_Some _ _ e)
    (subst (λ (all : List (List ℕ)). IsSpelled Implication depth_limit all t) (sym (append-nil b.front) ∙ sym b.cut) b.spelled)
whole_sound tokens g t (x ∷ rest) b e = absurd (none-some g e)

-- the whole of tokens, by what is read of them
formula_by : (tokens : List (List ℕ)) (g : Written) (o : Option (Front Written)) → implication depth_limit tokens ≡ o → whole o ≡ Some g → IsFormula tokens g
formula_by tokens g None p e = absurd (none-some g e)
formula_by tokens g (Some f) p e = whole_sound tokens g f.tree f.rest ((implication_sound depth_limit).begins tokens f p) e

-- what is read as a formula is spelled as that formula
pub formula_sound : (tokens : List (List ℕ)) (g : Written) → formula_in tokens ≡ Some g → IsFormula tokens g
unfolding formula_in
formula_sound tokens g e = formula_by tokens g (implication depth_limit tokens) refl e

-- tokens are the formula that is read, and no other
pub formulas_are_read : FormulasAreRead
formulas_are_read tokens g = (formula_sound tokens g, formula_complete tokens g)

-- no tokens are two formulas
pub formulas_are_unique : FormulasAreUnique
formulas_are_unique tokens g h s t = same_Some _ _ (sym (formula_complete tokens g s) ∙ formula_complete tokens h t)

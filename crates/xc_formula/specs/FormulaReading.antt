-- How a formula is read from the front of tokens: functions that decide what the relation of its spelling says.
use Rattle.std.specs.Prelude.{ℕ, zero, suc, if◌then◌else◌, List, [], ◌∷◌, ◌++◌, length, Option, Some, None, option_map, option_and_then, codes}
use Rattle.std.specs.Str.{bytes_eq}
use Rattle.xc_base.specs.Lines.{texts}
use Rattle.xc_base.specs.Operators.{Front, behind, chained}
use Rattle.xc_base.specs.Words.{is_name}
use Rattle.xc_formula.specs.Written.{Written, True, False, Name, Braces, Prefixed, Until, And, Or, Implies, is_prop_name}
use Rattle.xc_formula.specs.declared.phrase.Phrase.{Phrase}
use Rattle.xc_formula.specs.declared.phrase.Phrase.TheVariants as phrases
use Rattle.xc_formula.specs.declared.prefix.Prefix.{Prefix}
use Rattle.xc_formula.specs.declared.prefix.Prefix.TheVariants.{Negation, SomeNext, AllNext, SomeFinally, AllFinally, SomeGlobally, AllGlobally}
use Rattle.xc_formula.specs.declared.prefix.Paths.{Paths}
use Rattle.xc_formula.specs.declared.prefix.Paths.TheVariants.{SomePath, EveryPath}
use Rattle.xc_formula.specs.declared.phrase.Parsed.{Parsed}
use Rattle.xc_formula.specs.declared.atom_parser.Named.{Named}
use Rattle.xc_formula.specs.declared.atom_parser.Listed.{Listed}

-- the formula that a phrase of the code is
abbrev pub written : Phrase → Written
written phrases.True = True
written phrases.False = False
written (phrases.Name p) = Name p.now
written (phrases.Braces values) = Braces (texts values)
written (phrases.Prefixed' prefix p f) = Prefixed prefix (written f)
written (phrases.Until' paths p f q g) = Until paths (written f) (written g)
written (phrases.And' p f q g) = And (written f) (written g)
written (phrases.Or' p f q g) = Or (written f) (written g)
written (phrases.Implies' p f q g) = Implies (written f) (written g)

-- a name in front of tokens, as a list of one
unfoldable pub one_name : List (List ℕ) → Option (Front (List (List ℕ)))
one_name [] = None
one_name (token ∷ rest) = if is_name token then Some (record { tree = token ∷ []; rest = rest }) else None

-- names and names behind them
abbrev pub joined : List (List ℕ) → List (List ℕ) → List (List ℕ)
joined left right = left ++ right

-- names with `,` between them
unfoldable pub names : List (List ℕ) → Option (Front (List (List ℕ)))
names tokens = chained (codes ",") joined one_name tokens

-- names with `}` behind them, which is taken off
abbrev pub in_braces : Option (Front (List (List ℕ))) → Option (Front Written)
in_braces front = option_and_then (λ f. option_map (λ more. record { tree = Braces f.tree; rest = more }) (behind (codes "}") f.rest)) front

-- the formula that a word is
abbrev pub word_formula : List ℕ → Option Written
word_formula token =
    if is_prop_name token then Some (Name token) else
    if bytes_eq token (codes "true") then Some True else
    if bytes_eq token (codes "false") then Some False else None

-- the same with the tokens behind it
abbrev pub word_before : List ℕ → List (List ℕ) → Option (Front Written)
word_before token rest = option_map (λ f. record { tree = f; rest = rest }) (word_formula token)

-- names in braces, or a word, by the first token and those behind it
abbrev pub atom_at : List ℕ → List (List ℕ) → Option (Front Written)
atom_at token rest = if bytes_eq token (codes "{") then in_braces (names rest) else word_before token rest

-- a formula with no formula in it
unfoldable pub atom : List (List ℕ) → Option (Front Written)
atom [] = None
atom (token ∷ rest) = atom_at token rest

-- the prefix that a token is
abbrev pub prefix_in : List ℕ → Option Prefix
prefix_in token =
    if bytes_eq token (codes "!") then Some Negation else
    if bytes_eq token (codes "EX") then Some SomeNext else
    if bytes_eq token (codes "AX") then Some AllNext else
    if bytes_eq token (codes "EF") then Some SomeFinally else
    if bytes_eq token (codes "AF") then Some AllFinally else
    if bytes_eq token (codes "EG") then Some SomeGlobally else
    if bytes_eq token (codes "AG") then Some AllGlobally else None

-- what the token before `[` says
abbrev pub paths_in : List ℕ → Option Paths
paths_in token =
    if bytes_eq token (codes "E") then Some SomePath else
    if bytes_eq token (codes "A") then Some EveryPath else None

-- with the prefix before it
abbrev pub applied : Prefix → Option (Front Written) → Option (Front Written)
applied p front = option_map (λ f. record { tree = Prefixed p f.tree; rest = f.rest }) front

-- with `)` behind it, which is taken off
abbrev pub closed : Option (Front Written) → Option (Front Written)
closed front = option_and_then (λ f. option_map (λ more. record { tree = f.tree; rest = more }) (behind (codes ")") f.rest)) front

-- the first of two that is there
abbrev pub or_else : {X : Type 0} → Option X → Option X → Option X
or_else None other = other
or_else (Some x) other = Some x

-- parts with `&` between them
abbrev pub products : (List (List ℕ) → Option (Front Written)) → List (List ℕ) → Option (Front Written)
products part tokens = chained (codes "&") And part tokens

-- products with `|` between them
abbrev pub sums : (List (List ℕ) → Option (Front Written)) → List (List ℕ) → Option (Front Written)
sums part tokens = chained (codes "|") Or (products part) tokens

-- a formula before `->`, and what the formula behind it makes of it
abbrev pub implying : Written → Option (Front Written) → Option (Front Written)
implying f front = option_map (λ g. record { tree = Implies f g.tree; rest = g.rest }) front

-- what comes of a formula in front, and of the tokens behind `->` where it follows
abbrev pub implied : (List (List ℕ) → Option (Front Written)) → Front Written → Option (List (List ℕ)) → Option (Front Written)
implied go f None = Some f
implied go f (Some more) = implying f.tree (go more)

-- parts with `->` between them, grouped to the right, of which there are fewer than so many
unfoldable pub implications_up_to : (List (List ℕ) → Option (Front Written)) → ℕ → List (List ℕ) → Option (Front Written)
implications_up_to part zero tokens = None
implications_up_to part (suc n) tokens = option_and_then (λ f. implied (implications_up_to part n) f (behind (codes "->") f.rest)) (part tokens)

-- the same with no bound: there are fewer parts than tokens and one
unfoldable pub implications : (List (List ℕ) → Option (Front Written)) → List (List ℕ) → Option (Front Written)
implications part tokens = implications_up_to part (suc (length tokens)) tokens

-- with a first formula and `U` before it and `]` behind it, which is taken off
abbrev pub until_closed : Paths → Written → Option (Front Written) → Option (Front Written)
until_closed q f front = option_and_then (λ g. option_map (λ more. record { tree = Until q f g.tree; rest = more }) (behind (codes "]") g.rest)) front

-- what comes of a first formula, and of the tokens behind `U` where it follows
abbrev pub until_second : Paths → (List (List ℕ) → Option (Front Written)) → Front Written → Option (Front Written)
until_second q whole f = option_and_then (λ more. until_closed q f.tree (whole more)) (behind (codes "U") f.rest)

-- two formulas with `[` before them, `U` between them and `]` behind them
unfoldable pub until : Paths → (List (List ℕ) → Option (Front Written)) → List (List ℕ) → Option (Front Written)
until q whole tokens = option_and_then (λ more. option_and_then (until_second q whole) (whole more)) (behind (codes "[") tokens)

-- what comes of a token before brackets, or of `(`, and of the tokens behind it
abbrev pub in_brackets : (List (List ℕ) → Option (Front Written)) → List ℕ → List (List ℕ) → Option Paths → Option (Front Written)
in_brackets whole token rest (Some q) = until q whole rest
in_brackets whole token rest None = if bytes_eq token (codes "(") then closed (whole rest) else None

-- what comes of a prefix, or of a token before brackets, and of the tokens behind it
abbrev pub under : (List (List ℕ) → Option (Front Written)) → List ℕ → List (List ℕ) → Option Prefix → Option (Front Written)
under inner token rest (Some p) = applied p (inner rest)
under inner token rest None = in_brackets (implications (sums inner)) token rest (paths_in token)

-- the same of the first token and those behind it
abbrev pub nested_by : (List (List ℕ) → Option (Front Written)) → List (List ℕ) → Option (Front Written)
nested_by inner [] = None
nested_by inner (token ∷ rest) = under inner token rest (prefix_in token)

-- a formula with no operator between two outside of brackets, with at most so many prefixes and brackets around each other
unfoldable pub basic : ℕ → List (List ℕ) → Option (Front Written)
basic zero tokens = atom tokens
basic (suc d) tokens = or_else (atom tokens) (nested_by (basic d) tokens)

-- those of them that begin with a prefix or brackets
unfoldable pub nested : ℕ → List (List ℕ) → Option (Front Written)
nested zero tokens = None
nested (suc d) tokens = nested_by (basic d) tokens

-- basic formulas with `&` between them
unfoldable pub product : ℕ → List (List ℕ) → Option (Front Written)
product d tokens = products (basic d) tokens

-- products with `|` between them
unfoldable pub sum : ℕ → List (List ℕ) → Option (Front Written)
sum d tokens = sums (basic d) tokens

-- sums with `->` between them
unfoldable pub implication : ℕ → List (List ℕ) → Option (Front Written)
implication d tokens = implications (sums (basic d)) tokens

-- what the code has read, and the tokens that are left
abbrev pub front_of : Parsed → Front Written
front_of p = record { tree = written p.phrase; rest = texts p.rest.now }

-- the same of a name
abbrev pub named_front : Named → Front (List (List ℕ))
named_front n = record { tree = n.name.text.now ∷ []; rest = texts n.rest.now }

-- the same of names
abbrev pub listed_front : Listed → Front (List (List ℕ))
listed_front l = record { tree = texts l.names; rest = texts l.rest.now }

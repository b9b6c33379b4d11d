-- Formulas with propositions and elements in place of names, and without abbreviations.
use Rattle.std.specs.Prelude.{ℕ, Option, Some}
use Rattle.std.specs.List.{position}
use Rattle.std.specs.Option.{option_map}
use Rattle.std.specs.Str.{bytes_eq}
use Rattle.xc_ctl.specs.Trees.{Signature, Tree, Const, Atom, Not, And, Or, Ex, Eu, Au, Eg, both, element_named}
use Rattle.xc_formula.specs.Written.{Written, True, False, Name, Braces, Prefixed, Until, Implies}
use Rattle.xc_formula.specs.Written as written
use Rattle.xc_formula.specs.declared.prefix.Prefix.{Prefix}
use Rattle.xc_formula.specs.declared.prefix.Prefix.TheVariants.{Negation, SomeNext, AllNext, SomeFinally, AllFinally, SomeGlobally, AllGlobally}
use Rattle.xc_formula.specs.declared.prefix.Paths.{Paths}
use Rattle.xc_formula.specs.declared.prefix.Paths.TheVariants.{SomePath, EveryPath}

-- A formula behind a prefix, in terms of `!`, `EX`, `EG` and the two untils: "at all next states" and "always, on all paths" by the
-- negation of what they exclude, "some time" as an until with nothing to hold before.
abbrev pub prefixed : ℕ → Prefix → Tree → Tree
prefixed top Negation t = Not t
prefixed top SomeNext t = Ex t
prefixed top AllNext t = Not (Ex (Not t))
prefixed top SomeFinally t = Eu (Const top) t
prefixed top AllFinally t = Au (Const top) t
prefixed top SomeGlobally t = Eg t
prefixed top AllGlobally t = Not (Eu (Const top) (Not t))

-- two formulas in brackets
abbrev pub until : Paths → Tree → Tree → Tree
until SomePath s t = Eu s t
until EveryPath s t = Au s t

-- A formula written out, where its names are known. An implication is a disjunction.
abbrev pub resolved : Signature → Written → Option Tree
resolved n True = Some (Const n.top)
resolved n False = Some (Const n.bottom)
resolved n (Name p) = option_map Atom (position (bytes_eq p) n.props)
resolved n (Braces values) = option_map Const (element_named n.parts values)
resolved n (Prefixed p f) = option_map (prefixed n.top p) (resolved n f)
resolved n (Until q f g) = both (until q) (resolved n f) (resolved n g)
resolved n (written.And f g) = both And (resolved n f) (resolved n g)
resolved n (written.Or f g) = both Or (resolved n f) (resolved n g)
resolved n (Implies f g) = both (λ s t. Or (Not s) t) (resolved n f) (resolved n g)

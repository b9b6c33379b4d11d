-- What the code has read, and the tokens that are left.
use Rattle.xc_base.specs.Lines.{texts}
use Rattle.xc_base.specs.Operators.{Front}
use Rattle.xc_grammar.specs.declared.expression.Parsed.{Parsed}

abbrev pub front_of : {E T : Type 0} → (E → T) → Parsed E → Front T
front_of tree p = record { tree = tree p.tree; rest = texts p.rest.now }

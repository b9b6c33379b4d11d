-- A generated view names the lattice of its side.
use Rattle.std.proofs.Common.{◌≡◌, ℕ, true, List, [], ◌∷◌, ◌++◌, get_or, refl, ap, subst, ◌∙◌}
use Rattle.std.specs.Option.{is_some}
use Rattle.xc_forms.specs.ByKind.{first_of}
use Rattle.xc_base.specs.Formats.{Row, AreStatements}
use Rattle.xc_view_lines.specs.ViewLines as view_lines
use Rattle.xc_view.specs.ViewFiles as files
use Rattle.xc_view.specs.ViewFiles.{lattice_in, view_format}
use Rattle.xc_view_lines.specs.ViewLines.{Statement, IsStated}
use Rattle.xc_view.proofs.Gathering.{lattice_is}
use Rattle.xc_gen.specs.declared.side.Side.{Side}
use Rattle.xc_gen.specs.Generated.{lattice_of}
use Rattle.xc_gen.specs.Links.{NamesItsLattice}
use Rattle.xc_gen.proofs.FirstRows.{view_front, view_begins, split_first}

-- a lattice's statement names the file that stands in its row
named_here : {tokens : List (List ℕ)} {t : Statement} → IsStated tokens t → is_some (lattice_in t) ≡ true → first_of lattice_in [] (t ∷ []) ≡ get_or tokens 1 []
named_here (view_lines.IsStated.lattice file named) h = refl
named_here (view_lines.IsStated.view name named) h = cc
named_here (view_lines.IsStated.var domain named) h = cc
named_here (view_lines.IsStated.init tokens guard read) h = cc
named_here (view_lines.IsStated.prop name value tokens guard named valued read) h = cc
named_here (view_lines.IsStated.command name value tokens rest guard action named valued read done) h = cc

-- by the first rows the lattice is known
lattice_read : (side : Side) (back : List Row) (ss : List Statement) → AreStatements view_format [] (view_front side ++ back) ss → first_of lattice_in [] ss ≡ lattice_of side
lattice_read side back ss h =
    let p = split_first h in
    let q = split_first p.rest in
    ap (first_of lattice_in []) (p.parts ∙ ap (λ (more : List Statement). p.head ∷ more) q.parts)
    ∙ lattice_is p.head q.head q.more p.faultless.due.placed q.faultless.due.placed
    ∙ named_here q.faultless.due.stated q.faultless.due.placed

-- whatever a view is read as, it names the lattice of its side
pub names_its_lattice : (side : Side) (number size : ℕ) → NamesItsLattice side number size
names_its_lattice side number size v h =
    let begins = view_begins side number size in
    ap (λ (w : files.ViewValue). w.lattice) h.says
    ∙ lattice_read side begins.back h.statements (subst (λ (rows : List Row). AreStatements view_format [] rows h.statements) begins.parts h.read)

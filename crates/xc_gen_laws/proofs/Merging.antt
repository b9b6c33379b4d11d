-- The laws of all generated files.
use Rattle.std.proofs.Common.{◌≡◌, ℕ, true, List, [], ◌∷◌, None, codes, refl, sym, ◌∙◌, ap, subst}
use Rattle.xc_alg.specs.Products.{product}
use Rattle.xc_base.specs.Lines.{text_rows}
use Rattle.xc_base.specs.Names.{are_same}
use Rattle.xc_base.specs.Text.{text_fault, lines_of, first_fault_from}
use Rattle.xc_lattice.specs.LatticeFiles.{LatticeValue, Verdict, IsVerdict}
use Rattle.xc_lattice.specs.LatticeFiles.Verdict.{Faulty, Unlawful, Lawful}
use Rattle.xc_lattice.proofs.Verdicts.{verdicts_are_unique}
use Rattle.xc_view.specs.ViewFiles.{ViewValue}
use Rattle.xc_view.proofs.Verdicts.{views_are_unique}
use Rattle.xc_sigmap_lines.specs.MapFiles.{MapValue}
use Rattle.xc_sigmap.proofs.Verdicts.{maps_are_unique}
use Rattle.xc_merge.specs.Faults.{merge_fault}
use Rattle.xc_merge.specs.Merges.{Viewpoint}
use Rattle.xc_gen.specs.declared.side.Side.{Side}
use Rattle.xc_gen.specs.declared.side.Side.TheVariants.{Left, Right}
use Rattle.xc_gen.specs.Generated.{chain_text, diamond_text, view_text, map_text, formulas_text, is_size}
use Rattle.xc_gen_laws.specs.Readings.{file_limit, AreClean, Reading, merged}
use Rattle.xc_gen_laws.specs.Laws.{GeneratedTextsAreClean, GeneratedFilesAreAccepted, GeneratedViewpointsMerge, GeneratedFormulasAreAccepted}
use Rattle.xc_gen_laws.proofs.Checks.{chain, diamond, all_fit}
use Rattle.xc_gen_laws.proofs.Formulas.{formulas_accepted}
use Rattle.xc_gen_laws.proofs.Initials.{merges}
use Rattle.xc_gen_laws.proofs.Lattices.{chain_is_lawful, diamond_is_lawful}
use Rattle.xc_gen_laws.proofs.Readings.{ViewRead, view_is_read, MapRead, map_is_read}
use Rattle.xc_gen_laws.proofs.Sizes.{sizes_fit}

-- what the files of a size are read as
record Found (number size : ℕ) : Type 0 where
  map : MapRead size
  left : ViewRead map.plan Left (view_text Left number size)
  right : ViewRead map.plan Right (view_text Right number size)

found : (number size : ℕ) → is_size size ≡ true → Found number size
found number size h =
    let map : MapRead size = map_is_read size (sizes_fit size h) in
    record { map = map; left = view_is_read map.plan Left number size map.left; right = view_is_read map.plan Right number size map.right }

lattices_clean : (text_fault file_limit chain_text ≡ None) × (text_fault file_limit diamond_text ≡ None) × (text_fault file_limit formulas_text ≡ None)
unfolding lines_of first_fault_from chain_text diamond_text formulas_text
lattices_clean = (refl, refl, refl)

pub texts_are_clean : GeneratedTextsAreClean
texts_are_clean number size h =
    let f = found number size h in
    record { chain = lattices_clean.0; diamond = lattices_clean.1; left = f.left.clean; right = f.right.clean; sigmap = f.map.clean; formulas = lattices_clean.2 }

pub files_are_accepted : GeneratedFilesAreAccepted
files_are_accepted number size h =
    let f = found number size h in
    record {
      plan = f.map.plan;
      left = f.left.viewpoint;
      right = f.right.viewpoint;
      chain = subst (λ (l : LatticeValue). IsVerdict (text_rows chain_text) (Lawful l)) (sym f.left.lattice) chain_is_lawful;
      diamond = subst (λ (l : LatticeValue). IsVerdict (text_rows diamond_text) (Lawful l)) (sym f.right.lattice) diamond_is_lawful;
      left_view = f.left.accepted;
      right_view = f.right.accepted;
      sigmap = f.map.accepted;
    }

-- the lattice of a verdict
abbrev lattice_in : Verdict → LatticeValue
lattice_in (Lawful l) = l
lattice_in (Faulty fault) = chain
lattice_in (Unlawful law names) = chain

pub chain_is_read : (l : LatticeValue) → IsVerdict (text_rows chain_text) (Lawful l) → l ≡ chain
chain_is_read l h = ap lattice_in (verdicts_are_unique (text_rows chain_text) (Lawful l) (Lawful chain) h chain_is_lawful)

pub diamond_is_read : (l : LatticeValue) → IsVerdict (text_rows diamond_text) (Lawful l) → l ≡ diamond
diamond_is_read l h = ap lattice_in (verdicts_are_unique (text_rows diamond_text) (Lawful l) (Lawful diamond) h diamond_is_lawful)

same_viewpoint : (p q : Viewpoint) → p.view ≡ q.view → p.lattice ≡ q.lattice → p ≡ q
same_viewpoint p q e f =
    let other : Viewpoint = record { view = q.view; lattice = p.lattice } in
    let first : p ≡ other = ap (λ (v : ViewValue). let w : Viewpoint = record { view = v; lattice = p.lattice } in w) e in
    let second : other ≡ q = ap (λ (l : LatticeValue). let w : Viewpoint = record { view = q.view; lattice = l } in w) f in
    first ∙ second

pub viewpoints_merge : GeneratedViewpointsMerge
viewpoints_merge number size h r =
    let f = found number size h in
    let plan : r.plan ≡ f.map.plan = maps_are_unique (text_rows (map_text size)) r.plan f.map.plan r.sigmap f.map.accepted in
    let left : r.left ≡ f.left.viewpoint =
    same_viewpoint r.left f.left.viewpoint
    (views_are_unique (text_rows (view_text Left number size)) r.left.view f.left.viewpoint.view r.left_view f.left.accepted)
    (chain_is_read r.left.lattice r.chain ∙ sym f.left.lattice) in
    let right : r.right ≡ f.right.viewpoint =
    same_viewpoint r.right f.right.viewpoint
    (views_are_unique (text_rows (view_text Right number size)) r.right.view f.right.viewpoint.view r.right_view f.right.accepted)
    (diamond_is_read r.right.lattice r.diamond ∙ sym f.right.lattice) in
    ap (λ (p : MapValue). merge_fault (merged p r.left r.right)) plan
    ∙ ap (λ (p : Viewpoint). merge_fault (merged f.map.plan p r.right)) left
    ∙ ap (λ (p : Viewpoint). merge_fault (merged f.map.plan f.left.viewpoint p)) right
    ∙ merges f.map.plan f.left.viewpoint f.right.viewpoint f.left.fit f.right.fit f.map.twos f.left.lattice f.right.lattice

pub formulas_are_accepted : GeneratedFormulasAreAccepted
unfolding product
formulas_are_accepted number size h r =
    let f = found number size h in
    let plan : r.plan ≡ f.map.plan = maps_are_unique (text_rows (map_text size)) r.plan f.map.plan r.sigmap f.map.accepted in
    formulas_accepted r.plan.props r.left.lattice r.right.lattice (ap (λ (p : MapValue). are_same p.props (codes "last" ∷ [])) plan ∙ f.map.props) (chain_is_read r.left.lattice r.chain) (diamond_is_read r.right.lattice r.diamond)

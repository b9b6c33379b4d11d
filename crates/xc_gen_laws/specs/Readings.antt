-- What the files say that are generated for a number and a size.
use Rattle.std.specs.Prelude.{◌≡◌, ℕ, List, [], ◌∷◌, None, map}
use Rattle.xc_alg.specs.Products.{product}
use Rattle.xc_base.specs.Formats.{IsAccepted}
use Rattle.xc_base.specs.Lines.{text_rows}
use Rattle.xc_base.specs.Text.{text_fault}
use Rattle.xc_lattice.specs.LatticeFiles.{IsVerdict}
use Rattle.xc_lattice.specs.LatticeFiles.Verdict.{Lawful}
use Rattle.xc_view.specs.ViewFiles.{view_format}
use Rattle.xc_sigmap_lines.specs.MapFiles.{MapValue, map_format}
use Rattle.xc_ctl.specs.Trees.{Signature}
use Rattle.xc_merge.specs.Merges.{Merge, Viewpoint, parts_of, names_of_parts}
use Rattle.xc_gen.specs.declared.side.Side.TheVariants.{Left, Right}
use Rattle.xc_gen.specs.Generated.{chain_text, diamond_text, view_text, map_text, formulas_text}

-- how many bytes a file may have
abbrev pub file_limit : ℕ
file_limit = 1048576

-- none of the files has a fault as a text
pub record AreClean (number size : ℕ) : Type 0 where
  pub chain : text_fault file_limit chain_text ≡ None
  pub diamond : text_fault file_limit diamond_text ≡ None
  pub left : text_fault file_limit (view_text Left number size) ≡ None
  pub right : text_fault file_limit (view_text Right number size) ≡ None
  pub sigmap : text_fault file_limit (map_text size) ≡ None
  pub formulas : text_fault file_limit formulas_text ≡ None

-- a map and two viewpoints that the files are read as: each file is accepted, and the lattices are lawful
pub record Reading (number size : ℕ) : Type 0 where
  pub plan : MapValue
  pub left : Viewpoint
  pub right : Viewpoint
  pub chain : IsVerdict (text_rows chain_text) (Lawful left.lattice)
  pub diamond : IsVerdict (text_rows diamond_text) (Lawful right.lattice)
  pub left_view : IsAccepted view_format (text_rows (view_text Left number size)) left.view
  pub right_view : IsAccepted view_format (text_rows (view_text Right number size)) right.view
  pub sigmap : IsAccepted map_format (text_rows (map_text size)) plan

-- both viewpoints with the map
abbrev pub merged : MapValue → Viewpoint → Viewpoint → Merge
merged plan left right = record { plan = plan; viewpoints = left ∷ right ∷ [] }

-- what formulas over them are about
abbrev pub signature_of : Merge → Signature
signature_of m = record { props = m.plan.props; parts = names_of_parts m; bottom = (product (parts_of m)).bottom; top = (product (parts_of m)).top }

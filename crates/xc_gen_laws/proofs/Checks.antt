-- What is computed of the files of each size and each remainder of the number.
use Rattle.std.proofs.Common.{◌≡◌, ℕ, suc, ◌-◌, Bool, true, false, ◌&&◌, eqb, List, [], ◌∷◌, length, map, codes, Result, Ok, Err}
use Rattle.std.specs.List.{list_all, range_with_len}
use Rattle.std.specs.Option.{is_none}
use Rattle.std.specs.Str.{bytes_eq}
use Rattle.xc_theory.specs.Lattices.{LatticeData}
use Rattle.xc_base.specs.Deciding.{file_of}
use Rattle.xc_base.specs.Lines.{text_rows}
use Rattle.xc_base.specs.Names.{are_same}
use Rattle.xc_base.specs.Text.{text_fault}
use Rattle.xc_base.specs.declared.fault.FileFault.{FileFault}
use Rattle.xc_forms.specs.Variables.{sizes_of}
use Rattle.xc_forms.specs.declared.domain.Domain.{Domain}
use Rattle.xc_lattice.specs.LatticeFiles.{LatticeValue}
use Rattle.xc_view_lines.specs.ViewLines as statements
use Rattle.xc_view.specs.ViewFiles as views
use Rattle.xc_view.specs.Deciding as view_lines
use Rattle.xc_sigmap_lines.specs.MapFiles as maps
use Rattle.xc_sigmap_lines.specs.Deciding as map_lines
use Rattle.xc_sigmap_lines.specs.declared.statement.Statement as stated
use Rattle.xc_merge.specs.Merges.{Viewpoint}
use Rattle.xc_merge.specs.Projections.{source, carried}
use Rattle.xc_merge.specs.MergedFrames.{is_initial_for}
use Rattle.xc_merge.specs.Faults.{viewpoint_faults}
use Rattle.xc_merge.specs.declared.fault.MergeFault.{MergeFault}
use Rattle.xc_gen.specs.declared.side.Side.{Side}
use Rattle.xc_gen.specs.declared.side.Side.TheVariants.{Left, Right}
use Rattle.xc_gen.specs.Generated.{view_text, map_text}
use Rattle.xc_gen_laws.specs.Readings.{file_limit}
use Rattle.xc_gen_laws.proofs.Periods.{period}
use Rattle.xc_gen_laws.proofs.Zeros.{are_zeros}

-- the lattices that the files say
abbrev pub chain : LatticeValue
chain =
    record {
      name = codes "chain";
      names = codes "F" ∷ codes "M" ∷ codes "T" ∷ [];
      algebra = record { order = (true ∷ true ∷ true ∷ []) ∷ (false ∷ true ∷ true ∷ []) ∷ (false ∷ false ∷ true ∷ []) ∷ []; negations = 2 ∷ 1 ∷ 0 ∷ [] };
    }

abbrev pub diamond : LatticeValue
diamond =
    record {
      name = codes "diamond";
      names = codes "F" ∷ codes "N" ∷ codes "B" ∷ codes "T" ∷ [];
      algebra =
          record {
            order = (true ∷ true ∷ true ∷ true ∷ []) ∷ (false ∷ true ∷ false ∷ true ∷ []) ∷ (false ∷ false ∷ true ∷ true ∷ []) ∷ (false ∷ false ∷ false ∷ true ∷ []) ∷ [];
            negations = 3 ∷ 1 ∷ 2 ∷ 0 ∷ [];
          };
    }

abbrev pub lattice_on : Side → LatticeValue
lattice_on Left = chain
lattice_on Right = diamond

abbrev pub place : Side → ℕ
place Left = 0
place Right = 1

-- what texts are read as
abbrev pub view_read : Side → ℕ → ℕ → Result (List statements.Statement) FileFault
view_read side number size = file_of views.view_format view_lines.decide (text_rows (view_text side number size))

abbrev pub map_read : ℕ → Result (List stated.Statement) FileFault
map_read size = file_of maps.map_format map_lines.decide (text_rows (map_text size))

-- a viewpoint of these statements
abbrev pub point : Side → List statements.Statement → Viewpoint
point side ss = record { view = views.view_of ss; lattice = lattice_on side }

-- whether variables, from number j on, are seen as the map's of the same number
abbrev pub is_seen : maps.MapValue → ℕ → ℕ → Domain → Bool
is_seen plan v j d = eqb (source plan v d) j && (eqb (carried plan v d 0) 0 && eqb (carried plan v d 1) 1)

abbrev pub are_seen : maps.MapValue → ℕ → ℕ → List Domain → Bool
are_seen plan v j [] = true
are_seen plan v j (d ∷ ds) = is_seen plan v j d && are_seen plan v (suc j) ds

abbrev pub has_none : List MergeFault → Bool
has_none [] = true
has_none (fault ∷ more) = false

-- whether a viewpoint has no fault, begins at state 0, and sees the map's variables, all of which are 0 where it begins
abbrev pub fits : maps.MapValue → ℕ → Viewpoint → Bool
fits plan v p =
    has_none (viewpoint_faults plan v p) && (is_initial_for plan 0 v p
    && (bytes_eq (sizes_of p.view.vars) (sizes_of plan.vars) && (are_seen plan v 0 p.view.vars && are_zeros (length p.view.vars - 1) p.view.init)))

abbrev pub view_fits : maps.MapValue → Side → List ℕ → Result (List statements.Statement) FileFault → Bool
view_fits plan side text (Ok ss) = is_none (text_fault file_limit text) && fits plan (place side) (point side ss)
view_fits plan side text (Err fault) = false

abbrev pub views_fit : maps.MapValue → Side → ℕ → Bool
views_fit plan side size = list_all (λ number. view_fits plan side (view_text side number size) (view_read side number size)) (range_with_len 0 (period side))

-- the same of the map
abbrev pub map_fits : ℕ → Result (List stated.Statement) FileFault → Bool
map_fits size (Ok ss) =
    is_none (text_fault file_limit (map_text size)) && (are_same (maps.map_of ss).props (codes "last" ∷ [])
    && (list_all (λ z. eqb z 2) (sizes_of (maps.map_of ss).vars) && (views_fit (maps.map_of ss) Left size && views_fit (maps.map_of ss) Right size)))
map_fits size (Err fault) = false

abbrev pub all_fit : ℕ → Bool
all_fit size = map_fits size (map_read size)

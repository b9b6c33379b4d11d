-- The rows with which the generated files begin, and their statements.
use Rattle.std.proofs.Common.{◌≡◌, ℕ, zero, suc, List, [], ◌∷◌, ◌++◌, codes, refl}
use Rattle.std.specs.Fmt.{digits}
use Rattle.xc_base.specs.Formats.{Row, Format, IsFaultless, AreStatements}
use Rattle.xc_base.specs.Formats.AreStatements.{next}
use Rattle.xc_base.specs.Lines.{text_rows}
use Rattle.xc_base.specs.Text.{lines_of, tokens_from, rows_from}
use Rattle.xc_gen.specs.declared.side.Side.{Side}
use Rattle.xc_gen.specs.declared.side.Side.TheVariants.{Left, Right}
use Rattle.xc_gen.specs.Generated.{name_of, lattice_of, view_text, map_text}
use Rattle.xc_gen.specs.Links.{view_file}

-- a row of that number and these tokens
abbrev pub row : ℕ → List (List ℕ) → Row
row number tokens = record { number = number; tokens = tokens }

-- rows begin with these
pub record BeginWith (rows front : List Row) : Type 0 where
  pub back : List Row
  pub parts : rows ≡ front ++ back

-- the name of a view, then its lattice
abbrev pub view_front : Side → List Row
view_front side = row 1 (codes "view" ∷ name_of side ∷ []) ∷ row 2 (codes "lattice" ∷ lattice_of side ∷ []) ∷ []

pub view_begins : (side : Side) (number size : ℕ) → BeginWith (text_rows (view_text side number size)) (view_front side)
unfolding lines_of rows_from tokens_from view_text
view_begins Left number size = record { back = _; parts = refl }
view_begins Right number size = record { back = _; parts = refl }

-- what stands behind the uses in the map: a variable, or a proposition where there is no bit
abbrev pub behind_uses : ℕ → List (List ℕ)
behind_uses zero = codes "prop" ∷ codes "last" ∷ []
behind_uses (suc size) = codes "var" ∷ codes "b0" ∷ codes "0" ∷ codes "1" ∷ []

-- the use of a viewpoint
abbrev pub use_tokens : Side → List (List ℕ)
use_tokens side = codes "use" ∷ name_of side ∷ view_file side ∷ []

-- the map's name, the uses of both views, and one row more
abbrev pub map_front : ℕ → List Row
map_front size = row 1 (codes "map" ∷ codes "gen" ∷ []) ∷ row 2 (use_tokens Left) ∷ row 3 (use_tokens Right) ∷ row 4 (behind_uses size) ∷ []

pub map_begins : (size : ℕ) → BeginWith (text_rows (map_text size)) (map_front size)
unfolding digits lines_of rows_from tokens_from map_text
map_begins zero = record { back = _; parts = refl }
map_begins (suc size) = record { back = _; parts = refl }

-- the statement of the first row, and those of the others
pub record Split {S V : Type 0} (format : Format S V) (before : List S) (first : Row) (rows : List Row) (ss : List S) : Type 0 where
  pub head : S
  pub more : List S
  pub parts : ss ≡ head ∷ more
  pub faultless : IsFaultless format before first.tokens head
  pub rest : AreStatements format (before ++ head ∷ []) rows more

pub split_first : {S V : Type 0} {format : Format S V} {before : List S} {first : Row} {rows : List Row} {ss : List S} → AreStatements format before (first ∷ rows) ss → Split format before first rows ss
split_first (next before first rows s more faultless rest) = record { head = s; more = more; parts = refl; faultless = faultless; rest = rest }

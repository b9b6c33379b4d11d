-- What the tables of a viewpoint hold. Clauses of functions rest on `IsGood` alone among these words, what is merged keeps `AreTables`.
use Rattle.std.specs.Prelude.{◌≡◌, ◌<◌, ◌≤◌, ℕ, true, false, List, length, map, slice_index, Some}
use Rattle.std.specs.List.{slice_index_or, list_all}
use Rattle.std.specs.Option.{is_some}
use Rattle.xc_theory.specs.Lattices.{IsLawful, size, bottom}
use Rattle.xc_lattice.specs.LatticeFiles.{LatticeValue}
use Rattle.xc_alg.specs.AnyTables.{lattice_in_any}
use Rattle.xc_base.specs.Names.{is_among, has_twice}
use Rattle.xc_forms.specs.Variables.{values_at}
use Rattle.xc_forms.specs.declared.domain.Domain.{Domain}
use Rattle.xc_view.specs.ViewFiles.{PropValue}
use Rattle.xc_sigmap_lines.specs.MapFiles.{MapValue}
use Rattle.xc_merge.specs.Merges.{Viewpoint}
use Rattle.xc_merge.specs.Projections.{source, carried}
use Rattle.xc_merge.specs.MergedFrames.{stutter_words, line_of}
use Rattle.xc_merge.specs.Faults.{is_fed}
use Rattle.xc_merge.specs.Pieces.{weight, mark, counts, fixed, stutter}
use Rattle.xc_merged.specs.declared.tables.Feed.{Feed}
use Rattle.xc_merged.specs.declared.tables.Telling.{Telling}
use Rattle.xc_merged.specs.declared.tables.Tables.{Tables}

-- a lattice that is lawful, with 2 to 64 elements and a name of its own for each
pub record IsGood (l : LatticeValue) : Type 0 where
  pub lawful : IsLawful l.algebra
  pub named : length l.names ≡ size l.algebra
  pub different : has_twice l.names ≡ false
  pub some : 2 ≤ size l.algebra
  pub few : size l.algebra ≤ 64

-- where a variable of viewpoint v is read from, and where the values are carried to
pub record IsFeed (plan : MapValue) (v : ℕ) (d : Domain) (feed : Feed) : Type 0 where
  pub source_is : feed.source ≡ source plan v d
  pub source_in : source plan v d < length plan.vars
  pub places : (m : ℕ) → m < length (values_at plan.vars (source plan v d)) → slice_index feed.places m ≡ carried plan v d m
  pub places_in : (m : ℕ) → m < length (values_at plan.vars (source plan v d)) → carried plan v d m < length d.values

-- what the viewpoint tells of the map's proposition k
pub record IsTelling (plan : MapValue) (v : ℕ) (p : Viewpoint) (k : ℕ) (telling : Telling) : Type 0 where
  pub told : is_some (line_of plan v k) ≡ true
  pub fixed_is : telling.fixed ≡ fixed plan v p k
  pub counts_are : telling.counts ≡ map (λ (l : PropValue). counts plan v l k) p.view.props

-- where all variables of a list are read from
pub record AreFeeds (plan : MapValue) (v : ℕ) (vars : List Domain) (feeds : List Feed) : Type 0 where
  pub count : length feeds ≡ length vars
  pub fed : (x : ℕ) (d : Domain) (feed : Feed) → x < length vars → d ≡ slice_index_or vars x d → feed ≡ slice_index_or feeds x feed → IsFeed plan v d feed

-- each of them is fed
pub record AreFed (plan : MapValue) (v : ℕ) (vars : List Domain) : Type 0 where
  pub fed : (x : ℕ) (d : Domain) → x < length vars → d ≡ slice_index_or vars x d → is_fed plan v d ≡ true

-- what the viewpoint tells of the map's first propositions
pub record AreTellings (plan : MapValue) (v : ℕ) (p : Viewpoint) (props : ℕ) (tellings : List Telling) : Type 0 where
  pub count : length tellings ≡ props
  pub told : (k : ℕ) (telling : Telling) → k < props → telling ≡ slice_index_or tellings k telling → IsTelling plan v p k telling

-- the weights are elements
pub record AreWeights (size : ℕ) (weights : List ℕ) : Type 0 where
  pub within : (i : ℕ) → i < length weights → slice_index weights i < size

-- all tables of viewpoint v
pub record AreTables (plan : MapValue) (v : ℕ) (p : Viewpoint) (t : Tables) : Type 0 where
  pub operations : lattice_in_any t.operations ≡ p.lattice.algebra
  pub bottom_is : t.bottom ≡ bottom p.lattice.algebra
  pub feeds : AreFeeds plan v p.view.vars t.feeds
  pub weights : t.weights ≡ map (weight p) p.view.commands
  pub weights_in : AreWeights (size p.lattice.algebra) t.weights
  pub marks : t.marks ≡ map (mark p) p.view.props
  pub marks_in : AreWeights (size p.lattice.algebra) t.marks
  pub tellings : AreTellings plan v p (length plan.props) t.tellings
  pub fixed_in : (k c : ℕ) → fixed plan v p k ≡ Some c → c < size p.lattice.algebra
  pub stutter_is : t.stutter ≡ stutter plan v p
  pub stutter_known : list_all (is_among p.lattice.names) (stutter_words plan v) ≡ true

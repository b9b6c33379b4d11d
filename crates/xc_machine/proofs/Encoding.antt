-- What the tables of a viewpoint tell by places.
use Rattle.std.proofs.Common.{◌≡◌, ℕ, ◌<◌, Bool, List, length, get_or, Option, Some, None, refl, sym, ◌∙◌, ap, subst, arith}
use Rattle.std.specs.Prelude.{IfSome}
use Rattle.std.proofs.lemmas.List.{length-map, get_or-map, get_or_default, get_or_read}
use Rattle.xc_theory.specs.Lattices.{size}
use Rattle.xc_lattice.specs.Values.{value_of as lattice_of}
use Rattle.xc_lattice.specs.declared.lattice.Lattice.{Lattice}
use Rattle.xc_view.specs.ViewFiles.{PropValue}
use Rattle.xc_view.specs.declared.view.View.{View}
use Rattle.xc_sigmap.specs.Maps.{value_of as map_of}
use Rattle.xc_sigmap_lines.specs.MapFiles.{MapValue}
use Rattle.xc_sigmap.specs.declared.sigmap.SigMap.{SigMap}
use Rattle.xc_merge.specs.Merges.{Viewpoint, viewpoint_at}
use Rattle.xc_merge.specs.Merging.{viewpoint_of, merge_in}
use Rattle.xc_merge.specs.Pieces.{weight, mark, counts}
use Rattle.xc_machine.specs.Places.{variable_at, command_at, line_at}
use Rattle.xc_merged.specs.Tabled.{IsFeed, IsTelling, AreTables, IsGood}
use Rattle.xc_merged.specs.declared.tables.Feed.{Feed}
use Rattle.xc_merged.specs.declared.tables.Tables.{Tables}
use Rattle.xc_merged.specs.declared.tables.Telling.{Telling}
use Rattle.xc_merged.proofs.Merging.{viewpoint_is, viewpoint_count}
use Rattle.xc_merged.proofs.Seeing.{item}

-- the tables of a viewpoint by its place
pub tables_at : (sigmap : SigMap) (views : List (View × Lattice)) (tables : List Tables) (v : ℕ) (t : Tables)
    → ((w : ℕ) (pair : View × Lattice) (u : Tables) → w < length views → pair ≡ get_or views w pair → u ≡ get_or tables w u → AreTables (map_of sigmap) w (viewpoint_of pair) u)
    → v < length (merge_in sigmap views).viewpoints → t ≡ get_or tables v t → AreTables (map_of sigmap) v (viewpoint_at (merge_in sigmap views) v) t
tables_at sigmap views tables v t tabled low is =
    let here : v < length views = omega (arith, viewpoint_count sigmap views) in
    let pair = item views v here in
    subst (λ (p : Viewpoint). AreTables (map_of sigmap) v p t) (sym (viewpoint_is sigmap views v pair.0 here pair.1)) (tabled v pair.0 t here pair.1 is)

-- where a variable is read from
pub feed_at : (plan : MapValue) (v : ℕ) (p : Viewpoint) (t : Tables) (x : ℕ) (feed : Feed) → AreTables plan v p t → x < length p.view.vars → feed ≡ get_or t.feeds x feed → IsFeed plan v (variable_at p.view x) feed
feed_at plan v p t x feed are low is = are.feeds.fed x (variable_at p.view x) feed low (get_or_default p.view.vars x _ (variable_at p.view x) low) is

-- a weight, and a mark
pub weight_at : (plan : MapValue) (v : ℕ) (p : Viewpoint) (t : Tables) (c w : ℕ) → AreTables plan v p t → c < length p.view.commands → w ≡ get_or t.weights c w → w ≡ weight p (command_at p.view c)
weight_at plan v p t c w are low is = is ∙ ap (λ (ws : List ℕ). get_or ws c w) are.weights ∙ get_or-map (weight p) p.view.commands c _ w low

pub weight_below : (plan : MapValue) (v : ℕ) (p : Viewpoint) (t : Tables) (c w : ℕ) → AreTables plan v p t → c < length p.view.commands → w ≡ get_or t.weights c w → w < size p.lattice.algebra
weight_below plan v p t c w are low is =
    let there : c < length t.weights = omega (arith, ap length are.weights, length-map p.view.commands (weight p)) in
    rw (get_or_read t.weights c w there is 0) (are.weights_in.within c there)

pub mark_at : (plan : MapValue) (v : ℕ) (p : Viewpoint) (t : Tables) (l w : ℕ) → AreTables plan v p t → l < length p.view.props → w ≡ get_or t.marks l w → w ≡ mark p (line_at p.view l)
mark_at plan v p t l w are low is = is ∙ ap (λ (ws : List ℕ). get_or ws l w) are.marks ∙ get_or-map (mark p) p.view.props l _ w low

pub mark_below : (plan : MapValue) (v : ℕ) (p : Viewpoint) (t : Tables) (l w : ℕ) → AreTables plan v p t → l < length p.view.props → w ≡ get_or t.marks l w → w < size p.lattice.algebra
mark_below plan v p t l w are low is =
    let there : l < length t.marks = omega (arith, ap length are.marks, length-map p.view.props (mark p)) in
    rw (get_or_read t.marks l w there is 0) (are.marks_in.within l there)

-- whether a line counts
pub count_at : (plan : MapValue) (v : ℕ) (p : Viewpoint) (k l : ℕ) (telling : Telling) (b : Bool) → IsTelling plan v p k telling → l < length p.view.props → b ≡ get_or telling.counts l b → b ≡ counts plan v (line_at p.view l) k
count_at plan v p k l telling b h low is = is ∙ ap (λ (row : List Bool). get_or row l b) h.counts_are ∙ get_or-map (λ (x : PropValue). counts plan v x k) p.view.props l _ b low

pub counts-length : (plan : MapValue) (v : ℕ) (p : Viewpoint) (k : ℕ) (telling : Telling) → IsTelling plan v p k telling → length telling.counts ≡ length p.view.props
counts-length plan v p k telling h = ap length h.counts_are ∙ length-map p.view.props (λ (x : PropValue). counts plan v x k)

-- a constant is an element
some_within : (n : ℕ) (o : Option ℕ) → ((c : ℕ) → o ≡ Some c → c < n) → IfSome o (λ c. c < n)
some_within n None h = tt
some_within n (Some c) h = h c refl

pub fixed_below : (plan : MapValue) (v : ℕ) (p : Viewpoint) (t : Tables) (k : ℕ) (telling : Telling) → AreTables plan v p t → IsTelling plan v p k telling → IfSome telling.fixed (λ c. c < size p.lattice.algebra)
fixed_below plan v p t k telling are h = some_within (size p.lattice.algebra) telling.fixed (λ c e. are.fixed_in k c (sym h.fixed_is ∙ e))

-- the lattice of a viewpoint by its place
pub good_at : (sigmap : SigMap) (views : List (View × Lattice)) (v : ℕ) (pair : View × Lattice) → v < length (merge_in sigmap views).viewpoints → pair ≡ get_or views v pair → IsGood (lattice_of pair.1) → IsGood (viewpoint_at (merge_in sigmap views) v).lattice
good_at sigmap views v pair low is good =
    let here : v < length views = omega (arith, viewpoint_count sigmap views) in
    subst (λ (p : Viewpoint). IsGood p.lattice) (sym (viewpoint_is sigmap views v pair here is)) good

-- each viewpoint has tables
pub tables_count : (sigmap : SigMap) (views : List (View × Lattice)) (tables : List Tables) (v : ℕ) → length tables ≡ length views → v < length (merge_in sigmap views).viewpoints → v < length tables
tables_count sigmap views tables v e low = omega (arith, viewpoint_count sigmap views)

-- What tables see of places of the map's variables.
use Rattle.std.proofs.Common.{◌≡◌, ℕ, zero, suc, ◌+◌, ◌<◌, ◌≤◌, true, List, [], ◌∷◌, ◌++◌, length, map, get_or, slice_index, take, refl, sym, ◌∙◌, ap, subst, arith}
use Rattle.std.proofs.Math.ListN.{set}
use Rattle.std.specs.List.{list_all}
use Rattle.std.proofs.lemmas.Bool.{and_parts, leb-true}
use Rattle.std.proofs.lemmas.List.{take_more_set, map_more, take_all, length-map, get_or-map, get_or_read, ext_get_or}
use Rattle.xc_theory.specs.Codes.{AreDigits}
use Rattle.xc_forms.specs.Variables.{sizes_of, values_at, are_fit, is_domain}
use Rattle.xc_forms.specs.declared.domain.Domain.{Domain}
use Rattle.xc_moves.proofs.Moving.{digits_length, sizes_length}
use Rattle.xc_sigmap_lines.specs.MapFiles.{MapValue}
use Rattle.xc_merge.specs.Merges.{Viewpoint}
use Rattle.xc_merge.specs.Projections.{source, place_seen, row_seen}
use Rattle.xc_merged.specs.declared.tables.Feed.{Feed}
use Rattle.xc_merged.specs.declared.tables.Tables.{Tables}
use Rattle.xc_merged.specs.Seeing.{place_by, seen_by, AreReadable}
use Rattle.xc_merged.specs.Tabled.{IsFeed, AreTables}
use Rattle.xc_merged.proofs.Joining.{passes}

-- what is written so far
pub none_seen : (feeds : List Feed) (row seen : List ℕ) → take 0 seen ≡ seen_by (take 0 feeds) row
unfolding seen_by
none_seen feeds row seen = refl

pub one_seen : (feeds : List Feed) (row seen : List ℕ) (x : ℕ) (feed : Feed) → x < length feeds → x < length seen → feed ≡ get_or feeds x feed → take x seen ≡ seen_by (take x feeds) row
    → take (x + 1) (set seen x (slice_index feed.places (slice_index row feed.source))) ≡ seen_by (take (x + 1) feeds) row
unfolding seen_by
one_seen feeds row seen x feed low room is known =
    take_more_set seen x (place_by row feed) room
    ∙ ap (λ (some : List ℕ). some ++ place_by row feed ∷ []) known
    ∙ ap (λ (f : Feed). map (place_by row) (take x feeds) ++ place_by row f ∷ []) is
    ∙ sym (map_more (place_by row) feeds x feed low)

pub all_seen : (feeds : List Feed) (row seen : List ℕ) (x : ℕ) → length feeds ≤ x → take x seen ≡ seen_by (take x feeds) row → take x seen ≡ seen_by feeds row
all_seen feeds row seen x h e = e ∙ ap (λ (some : List Feed). seen_by some row) (take_all x feeds h)

-- what stands at a place of a list
pub item : {X : Type 0} (xs : List X) (i : ℕ) → i < length xs → (x : X) × (x ≡ get_or xs i x)
item [] i low = absurd (omega arith)
item (x ∷ xs) zero low = (x, refl)
item (x ∷ xs) (suc i) low = item xs i (omega arith)

-- a variable of fit variables has at most 16 values
pub values_few : (vars : List Domain) (x : ℕ) → are_fit vars ≡ true → x < length vars → length (values_at vars x) ≤ 16
values_few vars x fit low =
    let domains : list_all is_domain vars ≡ true = (and_parts _ _ (and_parts _ _ fit).0).1 in
    let d = item vars x low in
    let there : is_domain d.0 ≡ true = passes is_domain vars x d.0 domains low d.1 in
    let few : length d.0.values ≤ 16 = leb-true (length d.0.values) 16 (and_parts _ _ (and_parts _ _ there).0).1 in
    let at : d.0 ≡ get_or vars x (record { name = []; values = [] }) = get_or_read vars x d.0 low d.1 (record { name = []; values = [] }) in
    subst (λ (e : Domain). length e.values ≤ 16) at few

-- there are at most 20 of them
pub vars_few : (vars : List Domain) → are_fit vars ≡ true → length vars ≤ 20
vars_few vars fit = leb-true (length vars) 20 (and_parts _ _ (and_parts _ _ (and_parts _ _ (and_parts _ _ fit).0).0).0).1

-- a digit is below its size
pub digit_below : (sizes row : List ℕ) (x : ℕ) → AreDigits sizes row → x < length sizes → get_or row x 0 < get_or sizes x 0
digit_below [] row x h low = absurd (omega arith)
digit_below (s ∷ sizes) [] x h low = absurd h
digit_below (s ∷ sizes) (d ∷ row) zero h low = h.0
digit_below (s ∷ sizes) (d ∷ row) (suc x) h low = digit_below sizes row x h.1 (omega arith)

-- so is a place below the number of values
pub place_below : (vars : List Domain) (row : List ℕ) (x : ℕ) → AreDigits (sizes_of vars) row → x < length vars → slice_index row x < length (values_at vars x)
place_below vars row x h low =
    let below : get_or row x 0 < get_or (sizes_of vars) x 0 = digit_below (sizes_of vars) row x h (omega (arith, sizes_length vars)) in
    let size : get_or (sizes_of vars) x 0 ≡ length (values_at vars x) = get_or-map (λ (d : Domain). length d.values) vars x (record { name = []; values = [] }) 0 low in
    omega arith

-- places that a function gives each variable
pub places_are_digits : (vars : List Domain) (f : Domain → ℕ) → ((x : ℕ) (d : Domain) → x < length vars → d ≡ get_or vars x d → f d < length d.values) → AreDigits (sizes_of vars) (map f vars)
places_are_digits [] f h = tt
places_are_digits (d ∷ vars) f h = (h 0 d (omega arith) refl, places_are_digits vars f (λ x e low is. h (suc x) e (omega arith) is))

-- what the tables of a viewpoint say of places of the map's variables
module _ (plan : MapValue) (v : ℕ) (p : Viewpoint) (t : Tables) (row : List ℕ) (are : AreTables plan v p t) (places : AreDigits (sizes_of plan.vars) row) where
  feed_is : (x : ℕ) (feed : Feed) → x < length t.feeds → feed ≡ get_or t.feeds x feed → (d : Domain) × ((d ≡ get_or p.view.vars x d) × IsFeed plan v d feed)
  feed_is x feed low is =
      let here : x < length p.view.vars = omega (arith, are.feeds.count) in
      let d = item p.view.vars x here in
      (d.0, (d.1, are.feeds.fed x d.0 feed here d.1 is))

  pub readable : are_fit plan.vars ≡ true → AreReadable t.feeds row
  readable fit =
      record {
        source_in = λ x feed low is. let f = (feed_is x feed low is).1.1 in omega (arith, f.source_is, f.source_in, digits_length (sizes_of plan.vars) row places, sizes_length plan.vars);
        place_in = λ x feed low is.
            let d = (feed_is x feed low is).0 in
            let f = (feed_is x feed low is).1.1 in
            rw f.source_is (omega (arith, place_below plan.vars row (source plan v d) places f.source_in, values_few plan.vars (source plan v d) fit f.source_in));
      }

  seen_at : (x : ℕ) → x < length p.view.vars → get_or (map (place_by row) t.feeds) x 0 ≡ get_or (row_seen plan v p row) x 0
  seen_at x low =
      let there : x < length t.feeds = omega (arith, are.feeds.count) in
      let feed = item t.feeds x there in
      let d = item p.view.vars x low in
      let f = are.feeds.fed x d.0 feed.0 low d.1 feed.1 in
      get_or-map (place_by row) t.feeds x feed.0 0 there
      ∙ ap (place_by row) (sym feed.1)
      ∙ ap (λ (n : ℕ). slice_index feed.0.places (slice_index row n)) f.source_is
      ∙ f.places (slice_index row (source plan v d.0)) (place_below plan.vars row (source plan v d.0) places f.source_in)
      ∙ ap (place_seen plan v row) d.1
      ∙ sym (get_or-map (place_seen plan v row) p.view.vars x d.0 0 low)

  -- they are what the viewpoint sees
  pub seen_is : seen_by t.feeds row ≡ row_seen plan v p row
  unfolding seen_by
  seen_is =
      let same : length (map (place_by row) t.feeds) ≡ length p.view.vars = length-map t.feeds (place_by row) ∙ are.feeds.count in
      ext_get_or 0 (map (place_by row) t.feeds) (row_seen plan v p row) (same ∙ sym (length-map p.view.vars (place_seen plan v row))) (λ x low. seen_at x (omega arith))

  -- and places of its variables
  pub seen_digits : AreDigits (sizes_of p.view.vars) (row_seen plan v p row)
  seen_digits =
      places_are_digits p.view.vars (place_seen plan v row) (λ x d low is.
      let there : x < length t.feeds = omega (arith, are.feeds.count) in
      let feed = item t.feeds x there in
      let f = are.feeds.fed x d feed.0 low is feed.1 in
      f.places_in (slice_index row (source plan v d)) (place_below plan.vars row (source plan v d) places f.source_in))

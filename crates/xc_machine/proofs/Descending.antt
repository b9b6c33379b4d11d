-- The search for initial states.
use Rattle.std.proofs.Common.{◌≡◌, ℕ, zero, suc, ◌+◌, ◌-◌, ◌*◌, ◌/◌, ◌%◌, ◌<◌, ◌≤◌, ◌&&◌, Bool, true, false, cond, nat_lt, List, [], ◌∷◌, ◌++◌, length, map, get_or, slice_index, take, drop, refl, sym, ◌∙◌, ap, subst, inl, inr, arith}
use Rattle.std.proofs.Math.ListN.{set}
use Rattle.std.specs.List.{list_all, filter, range_with_len}
use Rattle.std.proofs.lemmas.Bool.{cases_lt, ltb-true, true≢false, and_left}
use Rattle.std.proofs.lemmas.List.{take_more_set, map_more, take_all, length-map, get_or-map, get_or_past, append-nil, append_assoc, length-append}
use Rattle.std.proofs.lemmas.List.FromFn.{length-range_with_len}
use Rattle.xc_theory.specs.Codes.{total, AreDigits}
use Rattle.xc_expr.specs.Tests.{holds_at}
use Rattle.xc_forms.specs.Variables.{sizes_of}
use Rattle.xc_forms.specs.declared.domain.Domain.{Domain}
use Rattle.xc_moves.proofs.Moving.{sizes_length}
use Rattle.xc_sigmap_lines.specs.MapFiles.{MapValue}
use Rattle.xc_merge.specs.Merges.{Merge, Viewpoint, viewpoint_at}
use Rattle.xc_merge.specs.Projections.{states_of, row_of, row_seen, place_seen, projection, source, carried}
use Rattle.xc_merge.specs.MergedFrames.{is_initial_for, is_merged_initial, initials_of}
use Rattle.xc_machine.specs.declared.judgement.Judgement.{Judgement}
use Rattle.xc_machine.specs.declared.judgement.Judgement.TheVariants.{Holds, Fails}
use Rattle.xc_merged.specs.declared.tables.Feed.{Feed}
use Rattle.xc_merged.specs.declared.tables.Tables.{Tables}
use Rattle.xc_machine.specs.declared.initials.Block.{Block}
use Rattle.xc_machine.specs.declared.initials.Found.{Found}
use Rattle.xc_merged.specs.Tabled.{AreTables}
use Rattle.xc_machine.specs.Judging.{is_known, judged, in_both, IsRight, Agrees}
use Rattle.xc_machine.specs.Descent.{reads_below, known_by, initial_from, initial_upto, SharesFront, IsJudgedFor, AreJudged, IsBlock, initials_below, IsFound}
use Rattle.xc_merged.proofs.Fronts.{front, same_quotient, block_fits, total_split, positive_factors}
use Rattle.xc_machine.proofs.Judging.{both_right, judged_right}
use Rattle.xc_merged.proofs.Seeing.{item}
use Rattle.xc_merged.proofs.Stepping.{row_back}

-- which variables are known so far
pub one_known : (feeds : List Feed) (known : List Bool) (depth x : ℕ) (feed : Feed) (b : Bool) → x < length feeds → x < length known → feed ≡ get_or feeds x feed → b ≡ nat_lt feed.source depth → take x known ≡ known_by (take x feeds) depth → take (x + 1) (set known x b) ≡ known_by (take (x + 1) feeds) depth
unfolding known_by
one_known feeds known depth x feed b low room is e before =
    take_more_set known x b room
    ∙ ap (λ (some : List Bool). some ++ b ∷ []) before
    ∙ ap (λ (c : Bool). map (reads_below depth) (take x feeds) ++ c ∷ []) (e ∙ ap (reads_below depth) is)
    ∙ sym (map_more (reads_below depth) feeds x feed low)

pub none_known : (feeds : List Feed) (known : List Bool) (depth : ℕ) → take 0 known ≡ known_by (take 0 feeds) depth
unfolding known_by
none_known feeds known depth = refl

pub all_known : (feeds : List Feed) (known : List Bool) (depth x : ℕ) → length feeds ≤ x → take x known ≡ known_by (take x feeds) depth → take x known ≡ known_by feeds depth
all_known feeds known depth x h e = e ∙ ap (λ (some : List Feed). known_by some depth) (take_all x feeds h)

-- the first of some numbers, and the others
range_more : (x n : ℕ) → x < n → range_with_len x (n - x) ≡ x ∷ range_with_len (x + 1) (n - (x + 1))
range_more x n h = let e : n - x ≡ suc (n - (x + 1)) = omega arith in rw e refl

-- viewpoint after viewpoint
pub initial_more : (m : Merge) (s v : ℕ) → v < length m.viewpoints → initial_from m s v ≡ (is_initial_for m.plan s v (viewpoint_at m v) && initial_from m s (v + 1))
unfolding initial_from
initial_more m s v h = ap (list_all (λ w. is_initial_for m.plan s w (viewpoint_at m w))) (range_more v (length m.viewpoints) h)

pub initial_none : (m : Merge) (s v : ℕ) → length m.viewpoints ≤ v → initial_from m s v ≡ true
unfolding initial_from
initial_none m s v h = let e : length m.viewpoints - v ≡ 0 = omega arith in rw e refl

pub initial_all : (m : Merge) (s : ℕ) → initial_from m s 0 ≡ is_merged_initial m s
unfolding initial_from
initial_all m s = let e : length m.viewpoints - 0 ≡ length m.viewpoints = omega arith in rw e refl

-- a range with one number more
range_end : (x n : ℕ) → range_with_len x (suc n) ≡ range_with_len x n ++ (x + n) ∷ []
range_end x zero = let e : x + 0 ≡ x = omega arith in rw e refl
range_end x (suc n) = let e : x + suc n ≡ x + 1 + n = omega arith in rw e (ap (λ (r : List ℕ). x ∷ r) (range_end (x + 1) n))

alone : (b : Bool) → (b && true) ≡ b
alone true = refl
alone false = refl

regrouped : (a b c : Bool) → (a && (b && c)) ≡ (a && b && c)
regrouped true b c = refl
regrouped false b c = refl

all_end : (p : ℕ → Bool) (xs : List ℕ) (x : ℕ) → list_all p (xs ++ x ∷ []) ≡ (list_all p xs && p x)
all_end p [] x = alone (p x)
all_end p (y ∷ xs) x = ap (λ (b : Bool). p y && b) (all_end p xs x) ∙ regrouped (p y) (list_all p xs) (p x)

upto_more : (m : Merge) (s v : ℕ) → initial_upto m s (v + 1) ≡ (initial_upto m s v && is_initial_for m.plan s v (viewpoint_at m v))
unfolding initial_upto
upto_more m s v =
    let e : v + 1 ≡ suc v = omega arith in
    let z : 0 + v ≡ v = omega arith in
    let p : ℕ → Bool = λ w. is_initial_for m.plan s w (viewpoint_at m w) in
    ap (λ (n : ℕ). list_all p (range_with_len 0 n)) e ∙ ap (list_all p) (range_end 0 v) ∙ all_end p (range_with_len 0 v) (0 + v) ∙ ap (λ (w : ℕ). list_all p (range_with_len 0 v) && p w) z

-- of no viewpoint nothing is said that is not right
pub none_judged : (m : Merge) (depth : ℕ) (places : List ℕ) → AreJudged m depth places 0 Holds
unfolding initial_upto
none_judged m depth places = record { right = λ s low shares. refl }

-- one viewpoint more
pub next_judged : (m : Merge) (depth : ℕ) (places : List ℕ) (v : ℕ) (before here : Judgement) → AreJudged m depth places v before → IsJudgedFor m depth places v here → AreJudged m depth places (v + 1) (in_both before here)
next_judged m depth places v before here a b =
    record { right = λ s low shares. subst (IsRight (in_both before here)) (sym (upto_more m s v)) (both_right before here (initial_upto m s v) (is_initial_for m.plan s v (viewpoint_at m v)) (a.right s low shares) (b.right s low shares)) }

-- where one said that it fails, so it does
pub still_fails : (m : Merge) (depth : ℕ) (places : List ℕ) (v : ℕ) → AreJudged m depth places v Fails → AreJudged m depth places (v + 1) Fails
still_fails m depth places v a =
    record { right = λ s low shares. upto_more m s v ∙ and_left (initial_upto m s v) (is_initial_for m.plan s v (viewpoint_at m v)) (a.right s low shares) }

-- a variable that is known is read from one of the first ones
known_reads : (feeds : List Feed) (depth x : ℕ) → is_known (known_by feeds depth) x ≡ true → (x < length feeds)
unfolding known_by
known_reads feeds depth x e =
    elim (cases_lt x (length feeds)) [
      | inl low ↦ low
      | inr past ↦ absurd (true≢false (sym e ∙ get_or_past (map (reads_below depth) feeds) x false (rw (length-map feeds (reads_below depth)) past)))
    ]

known_below : (feeds : List Feed) (depth x : ℕ) (feed : Feed) → x < length feeds → feed ≡ get_or feeds x feed → is_known (known_by feeds depth) x ≡ true → feed.source < depth
unfolding known_by
known_below feeds depth x feed low is e =
    ltb-true feed.source depth (ap (reads_below depth) is ∙ sym (get_or-map (reads_below depth) feeds x feed false low) ∙ e)

-- what a viewpoint says of places is right of all states whose first places these are
module _ (plan : MapValue) (v : ℕ) (p : Viewpoint) (t : Tables) (row : List ℕ) (depth : ℕ) (are : AreTables plan v p t) (places : AreDigits (sizes_of plan.vars) row) where
  agree_at : (other : List ℕ) → SharesFront depth other row → (x : ℕ) → is_known (known_by t.feeds depth) x ≡ true → slice_index (row_seen plan v p other) x ≡ slice_index (row_seen plan v p row) x
  agree_at other shares x e =
      let low : x < length t.feeds = known_reads t.feeds depth x e in
      let here : x < length p.view.vars = omega (arith, are.feeds.count) in
      let feed = item t.feeds x low in
      let d = item p.view.vars x here in
      let f = are.feeds.fed x d.0 feed.0 here d.1 feed.1 in
      let below : source plan v d.0 < depth = omega (arith, known_below t.feeds depth x feed.0 low feed.1 e, f.source_is) in
      get_or-map (place_seen plan v other) p.view.vars x d.0 0 here
      ∙ ap (place_seen plan v other) (sym d.1)
      ∙ ap (carried plan v d.0) (shares.same (source plan v d.0) below)
      ∙ ap (place_seen plan v row) d.1
      ∙ sym (get_or-map (place_seen plan v row) p.view.vars x d.0 0 here)

  pub judged_is : (s : ℕ) (seen : List ℕ) (known : List Bool) → SharesFront depth (row_of plan s) row → AreDigits (sizes_of p.view.vars) (row_seen plan v p (row_of plan s)) → seen ≡ row_seen plan v p row → known ≡ known_by t.feeds depth
      → IsRight (judged p.view.init seen known) (is_initial_for plan s v p)
  judged_is s seen known shares digits_ seen_is known_is =
      let agrees : Agrees (row_seen plan v p row) (known_by t.feeds depth) (row_seen plan v p (row_of plan s)) = record { same = agree_at (row_of plan s) shares } in
      let at : holds_at p.view.init (row_seen plan v p (row_of plan s)) ≡ is_initial_for plan s v p = ap (holds_at p.view.init) (sym (row_back p.view (row_seen plan v p (row_of plan s)) (projection plan v p s) digits_ refl)) in
      rw (seen_is, known_is) (subst (IsRight (judged p.view.init (row_seen plan v p row) (known_by t.feeds depth))) at (judged_right p.view.init (row_seen plan v p row) (row_seen plan v p (row_of plan s)) (known_by t.feeds depth) agrees))

-- a block whose states are all alike
pub block_is : (m : Merge) (vars : List Domain) (first w depth count : ℕ) (row : List ℕ) (j : Judgement) (b : Bool) → vars ≡ m.plan.vars → first < states_of m.plan → first % w ≡ 0 → depth < length m.plan.vars → w ≡ total (drop depth (sizes_of m.plan.vars))
    → row ≡ row_of m.plan first → AreJudged m depth row count j → count ≡ length m.viewpoints → ((c : Bool) → IsRight j c → c ≡ b) → IsBlock m first (record { size = w; initial = b })
unfolding initial_upto
block_is m vars first w depth count row j b same low aligned within size_is row_is are count_is means =
    let sizes = sizes_of m.plan.vars in
    let deep : depth ≤ length sizes = omega (arith, sizes_length m.plan.vars) in
    let split : total sizes ≡ total (take depth sizes) * w = total_split sizes depth ∙ ap (λ (n : ℕ). total (take depth sizes) * n) (sym size_is) in
    let inside : first < total (take depth sizes) * w = subst (λ (n : ℕ). first < n) split low in
    let some : 0 < w = (positive_factors (total (take depth sizes)) w (omega arith)).1 in
    let room : first + w ≤ total (take depth sizes) * w = block_fits first (total (take depth sizes)) w aligned some inside in
    let end : first + w ≤ states_of m.plan = subst (λ (n : ℕ). first + w ≤ n) (sym split) room in
    record {
      some = omega arith;
      within = end;
      same = λ s from to.
          let here : s < states_of m.plan = omega arith in
          let quotients : s / total (drop depth sizes) ≡ first / total (drop depth sizes) = subst (λ (n : ℕ). s / n ≡ first / n) size_is (same_quotient first s w aligned some from to) in
          let shares : SharesFront depth (row_of m.plan s) row = record { same = λ k below. front sizes depth k s first (omega arith) deep below quotients ∙ ap (λ (r : List ℕ). slice_index r k) (sym row_is) } in
          means (is_merged_initial m s) (subst (λ (n : ℕ). IsRight j (list_all (λ v. is_initial_for m.plan s v (viewpoint_at m v)) (range_with_len 0 n))) count_is (are.right s here shares));
    }

-- filters of ranges whose numbers are all alike
all_alike : (p : ℕ → Bool) (x n : ℕ) (b : Bool) → ((s : ℕ) → x ≤ s → s < x + n → p s ≡ b) → filter p (range_with_len x n) ≡ cond b (range_with_len x n) []
all_alike p x zero true h = refl
all_alike p x zero false h = refl
all_alike p x (suc n) true h = rw (h x (omega arith) (omega arith)) (ap (λ (r : List ℕ). x ∷ r) (all_alike p (x + 1) n true (λ s low high. h s (omega arith) (omega arith))))
all_alike p x (suc n) false h = rw (h x (omega arith) (omega arith)) (all_alike p (x + 1) n false (λ s low high. h s (omega arith) (omega arith)))

range_joined : (x n k : ℕ) → range_with_len x (n + k) ≡ range_with_len x n ++ range_with_len (x + n) k
range_joined x zero k = let z : 0 + k ≡ k = omega arith in let e : x + 0 ≡ x = omega arith in rw (z, e) refl
range_joined x (suc n) k =
    let e : suc n + k ≡ suc (n + k) = omega arith in
    let f : x + suc n ≡ x + 1 + n = omega arith in
    rw (e, f) (ap (λ (r : List ℕ). x ∷ r) (range_joined (x + 1) n k))

front_joined : (b : Bool) (x : ℕ) (all xs ys : List ℕ) → all ≡ xs ++ ys → cond b (x ∷ all) all ≡ cond b (x ∷ xs) xs ++ ys
front_joined true x all xs ys e = ap (λ (r : List ℕ). x ∷ r) e
front_joined false x all xs ys e = e

filter_joined : (p : ℕ → Bool) (xs ys : List ℕ) → filter p (xs ++ ys) ≡ filter p xs ++ filter p ys
filter_joined p [] ys = refl
filter_joined p (x ∷ xs) ys = front_joined (p x) x (filter p (xs ++ ys)) (filter p xs) (filter p ys) (filter_joined p xs ys)

below_next : (m : Merge) (first : ℕ) (block : Block) → IsBlock m first block → initials_below m (first + block.size) ≡ initials_below m first ++ cond block.initial (range_with_len first block.size) []
unfolding initials_below
below_next m first block is =
    let z : 0 + first ≡ first = omega arith in
    ap (filter (is_merged_initial m)) (range_joined 0 first block.size ∙ ap (λ (n : ℕ). range_with_len 0 first ++ range_with_len n block.size) z)
    ∙ filter_joined (is_merged_initial m) (range_with_len 0 first) (range_with_len first block.size)
    ∙ ap (λ (r : List ℕ). filter (is_merged_initial m) (range_with_len 0 first) ++ r) (all_alike (is_merged_initial m) first block.size block.initial is.same)

-- how many they are
added : (b : Bool) (xs : List ℕ) (count first size : ℕ) → count ≡ length xs → cond b (count + size) count ≡ length (xs ++ cond b (range_with_len first size) [])
added true xs count first size e = omega (arith, length-append xs (range_with_len first size), length-range_with_len first size)
added false xs count first size e = rw (append-nil xs) e

fewer : (b : Bool) (count size : ℕ) → cond b (count + size) count ≤ 4096 → count ≤ 4096
fewer true count size h = omega arith
fewer false count size h = h

-- what is found when a block is added
pub found_more : (m : Merge) (first : ℕ) (block : Block) (old new : Found) → IsBlock m first block → IsFound m first old → new.count ≡ cond block.initial (old.count + block.size) old.count
    → (new.count ≤ 4096 → new.states ≡ old.states ++ cond block.initial (range_with_len first block.size) []) → IsFound m (first + block.size) new
found_more m first block old new is before count_is listed =
    record {
      count_is = count_is ∙ added block.initial (initials_below m first) old.count first block.size before.count_is ∙ ap length (sym (below_next m first block is));
      listed = λ few.
          listed few ∙ ap (λ (xs : List ℕ). xs ++ cond block.initial (range_with_len first block.size) []) (before.listed (fewer block.initial old.count block.size (subst (λ (n : ℕ). n ≤ 4096) count_is few))) ∙ sym (below_next m first block is);
    }

-- no more states are found than were looked at
front_count : (b : Bool) (x n : ℕ) (xs : List ℕ) → length xs ≤ n → length (cond b (x ∷ xs) xs) ≤ suc n
front_count true x n xs h = omega arith
front_count false x n xs h = omega arith

filter_count : (p : ℕ → Bool) (xs : List ℕ) → length (filter p xs) ≤ length xs
filter_count p [] = omega arith
filter_count p (x ∷ xs) = front_count (p x) x (length xs) (filter p xs) (filter_count p xs)

pub found_below : (m : Merge) (upto : ℕ) (found : Found) → IsFound m upto found → found.count ≤ upto
unfolding initials_below
found_below m upto found h = omega (arith, h.count_is, filter_count (is_merged_initial m) (range_with_len 0 upto), length-range_with_len 0 upto)

pub found_none : (m : Merge) (found : Found) → found.count ≡ 0 → found.states ≡ [] → IsFound m 0 found
unfolding initials_below
found_none m found e f = record { count_is = e; listed = λ few. f }

-- as many places as variables are known or not
pub known-length : (feeds : List Feed) (depth : ℕ) (read : List Bool) (count : ℕ) → count ≡ length feeds → take (length feeds) read ≡ known_by feeds depth → length (take count read) ≡ count
unfolding known_by
known-length feeds depth read count e known = ap (λ (n : ℕ). length (take n read)) e ∙ ap length known ∙ length-map feeds (reads_below depth) ∙ sym e

-- one more state is appended
pub states_more : (old before new : List ℕ) (first state : ℕ) → first ≤ state → before ≡ old ++ range_with_len first (state - first) → new ≡ before ++ state ∷ [] → new ≡ old ++ range_with_len first (state + 1 - first)
states_more old before new first state low e f =
    let more : state + 1 - first ≡ suc (state - first) = omega arith in
    let end : first + (state - first) ≡ state = omega arith in
    f ∙ ap (λ (xs : List ℕ). xs ++ state ∷ []) e ∙ append_assoc old (range_with_len first (state - first)) (state ∷ [])
    ∙ ap (λ (xs : List ℕ). old ++ xs) (ap (λ (n : ℕ). range_with_len first (state - first) ++ n ∷ []) (sym end) ∙ sym (range_end first (state - first)) ∙ ap (range_with_len first) (sym more))

-- all states are looked at
pub initials_all : (m : Merge) → initials_below m (states_of m.plan) ≡ initials_of m
unfolding initials_below initials_of
initials_all m = refl

pub found_count : (m : Merge) (found : Found) → IsFound m (states_of m.plan) found → found.count ≡ length (initials_of m)
found_count m found h = h.count_is ∙ ap length (initials_all m)

pub found_states : (m : Merge) (found : Found) → IsFound m (states_of m.plan) found → found.count ≤ 4096 → found.states ≡ initials_of m
found_states m found h few = h.listed few ∙ initials_all m

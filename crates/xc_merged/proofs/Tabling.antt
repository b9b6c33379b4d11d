-- What is worked out of a viewpoint is what its tables are to hold.
use Rattle.std.proofs.Common.{◌≡◌, ℕ, zero, suc, ◌+◌, ◌<◌, ◌==◌, cond, Bool, true, false, List, [], ◌∷◌, ◌++◌, length, map, get_or, slice_index, take, drop, Option, Some, None, is_some, refl, sym, ◌∙◌, ap, subst, inl, inr, arith}
use Rattle.std.proofs.Math.ListN.{set}
use Rattle.std.specs.List.{list_all, filter}
use Rattle.std.proofs.lemmas.Bool.{and_parts, cases_eq, true≢false, ltb-true}
use Rattle.std.proofs.lemmas.List.{length-take-le, length_push, get_or-take, get_or_append_left, get_or_push, get_or_read, get_or-set_same, get_or-set_other, drop_more}
use Rattle.xc_theory.proofs.Ranges.{all_range_at}
use Rattle.xc_alg.specs.Operations.{Operations}
use Rattle.xc_alg.specs.Bounds.{joined, AreElements}
use Rattle.xc_base.specs.Names.{is_among, place_of}
use Rattle.xc_base.proofs.Naming.{among_in_range}
use Rattle.xc_forms.specs.Variables.{values_at}
use Rattle.xc_forms.specs.declared.domain.Domain.{Domain}
use Rattle.xc_view.specs.ViewFiles.{PropValue}
use Rattle.xc_view.specs.Parts.{prop_value, command_value}
use Rattle.xc_view.specs.declared.lines.PropLine.{PropLine}
use Rattle.xc_view.specs.declared.lines.Command.{Command}
use Rattle.xc_sigmap_lines.specs.MapFiles.{MapValue}
use Rattle.xc_sigmap.specs.Sound as maps
use Rattle.xc_sigmap_lines.specs.declared.parts.SendLine.{SendLine}
use Rattle.xc_sigmap_lines.specs.declared.parts.Stutter.{Stutter}
use Rattle.xc_sigmap_lines.specs.declared.parts.Tell.{Tell}
use Rattle.xc_merge.specs.Merges.{Viewpoint}
use Rattle.xc_merge.specs.Projections.{line_for, sends, carried_word, carried_place, source, source_in, carried, carried_in}
use Rattle.xc_merge.specs.MergedFrames.{line_of, stutter_words}
use Rattle.xc_merge.specs.Pieces.{weight, mark, counts_for, counts_by, constant_told, fixed_by}
use Rattle.xc_merge.specs.Faults.{is_fed, is_fed_by, carries_all}
use Rattle.xc_merged.specs.declared.tables.Feed.{Feed}
use Rattle.xc_merged.specs.Elements.{command_code, line_code, counts_of, stutters_from}
use Rattle.std.proofs.Math.Seq.{drop-length}
use Rattle.xc_merged.specs.Tabled.{IsFeed, AreFeeds, IsTelling, AreWeights}
use Rattle.xc_merged.proofs.Faultless.{found_passes}
use Rattle.xc_merged.proofs.Sound.{map_parts}
use Rattle.xc_merged.proofs.Stepping.{map_map, known_are}

-- the line that feeds a variable reads one of the map's
pub line_in : (m : MapValue) (v : ℕ) (name : List ℕ) (line : SendLine) → maps.is_sound m ≡ true → line_for m v name ≡ Some line → line.from < length m.vars
line_in m v name line h e =
    let there : maps.is_send_in m line ≡ true = found_passes (maps.is_send_in m) (sends v name) m.sends line (map_parts m h).sends e in
    ltb-true line.from (length m.vars) (and_parts _ _ (and_parts _ _ (and_parts _ _ there).0).0).1

-- one more place is written
pub place_written : (places : List ℕ) (f : ℕ → ℕ) (i n : ℕ) → i < length places → n ≡ f i → ((m : ℕ) → m < i → slice_index places m ≡ f m) → (m : ℕ) → m < i + 1 → slice_index (set places i n) m ≡ f m
place_written places f i n low e before m under =
    elim (cases_eq m i) [
      | inl same ↦ rw same (get_or-set_same places i n 0 low ∙ e)
      | inr apart ↦ get_or-set_other places i m n 0 apart ∙ before m (omega arith)
    ]

-- where a line feeds a variable
module _ (plan : MapValue) (v : ℕ) (d : Domain) (line : SendLine) (places : List ℕ) (found : line_for plan v d.name ≡ Some line) where
  source_line : source plan v d ≡ line.from
  source_line = ap source_in found

  carried_line : (m : ℕ) → carried plan v d m ≡ carried_place plan line d m
  carried_line m = ap (carried_in plan d m) found

  all_carried : is_fed plan v d ≡ true → carries_all plan d line ≡ true
  all_carried fed = sym (ap (is_fed_by plan d) found) ∙ fed

  pub feed_some : line.from < length plan.vars → is_fed plan v d ≡ true → ((m : ℕ) → m < length (values_at plan.vars line.from) → slice_index places m ≡ carried_place plan line d m) → IsFeed plan v d (record { source = line.from; places = places })
  feed_some low fed are =
      record {
        source_is = sym source_line;
        source_in = rw source_line low;
        places = λ m under. are m (rw source_line at under) ∙ sym (carried_line m);
        places_in = λ m under.
            rw (carried_line m)
            (among_in_range d.values (carried_word plan line m)
            (all_range_at (λ value. is_among d.values (carried_word plan line value)) 0 (length (values_at plan.vars line.from)) m (all_carried fed) (omega arith) (omega (arith, rw source_line at under))));
      }

pub feed_none : (plan : MapValue) (v : ℕ) (d : Domain) (feed : Feed) → line_for plan v d.name ≡ None → is_fed plan v d ≡ true → IsFeed plan v d feed
feed_none plan v d feed e fed = absurd (true≢false (sym fed ∙ ap (is_fed_by plan d) e))

-- one more feed
pub feeds_more : (plan : MapValue) (v : ℕ) (vars : List Domain) (feeds : List Feed) (x : ℕ) (d : Domain) (feed : Feed) → x < length vars → d ≡ get_or vars x d → AreFeeds plan v (take x vars) feeds → IsFeed plan v d feed → AreFeeds plan v (take (x + 1) vars) (feeds ++ feed ∷ [])
feeds_more plan v vars feeds x d feed low is are one =
    let before : length feeds ≡ x = are.count ∙ length-take-le x vars (omega arith) in
    let all : length (take (x + 1) vars) ≡ x + 1 = length-take-le (x + 1) vars (omega arith) in
    record {
      count = length_push feeds feed ∙ ap (λ (n : ℕ). n + 1) before ∙ sym all;
      fed = λ k e g under at there.
          let within : k < x + 1 = omega (arith, all) in
          let e_is : e ≡ get_or vars k e = at ∙ get_or-take (x + 1) vars k e within in
          elim (cases_eq k x) [
            | inl same ↦
                let e_at : e ≡ get_or vars x e = e_is ∙ ap (λ (n : ℕ). get_or vars n e) same in
                let d_same : d ≡ e = get_or_read vars x d low is e ∙ sym e_at in
                let g_same : feed ≡ g = sym (get_or_push feeds feed g x before) ∙ ap (λ (n : ℕ). get_or (feeds ++ feed ∷ []) n g) (sym same) ∙ sym there in
                subst (λ (y : Domain). IsFeed plan v y g) d_same (subst (λ (y : Feed). IsFeed plan v d y) g_same one)
            | inr apart ↦
                let under_x : k < x = omega arith in
                are.fed k e g (omega (arith, are.count, before)) (e_is ∙ sym (get_or-take x vars k e under_x)) (there ∙ get_or_append_left feeds (feed ∷ []) g k (omega arith))
          ];
    }

-- what is told by a line
pub telling_some : (plan : MapValue) (v k : ℕ) (p : Viewpoint) (lines : List PropLine) (line : Tell) (fixed : Option ℕ) (row : List Bool) → line_of plan v k ≡ Some line → map prop_value lines ≡ p.view.props → fixed ≡ constant_told p line.told → row ≡ map (counts_of line.told) lines → IsTelling plan v p k (record { fixed = fixed; counts = row })
telling_some plan v k p lines line fixed row e is f c =
    record {
      told = ap is_some e;
      fixed_is = f ∙ sym (ap (fixed_by p) e);
      counts_are =
          c ∙ sym (map_map (λ (l : PropValue). counts_for l line.told) prop_value lines) ∙ ap (map (λ (l : PropValue). counts_for l line.told)) is ∙ ap (λ (o : Option Tell). map (λ (l : PropValue). counts_by l o) p.view.props) (sym e);
    }

-- the elements of commands and lines
pub weights_are : (p : Viewpoint) (commands : List Command) (codes : List ℕ) → map command_value commands ≡ p.view.commands → codes ≡ map (command_code p.lattice.names) commands → codes ≡ map (weight p) p.view.commands
weights_are p commands codes is e = e ∙ sym (map_map (weight p) command_value commands) ∙ ap (map (weight p)) is

pub marks_are : (p : Viewpoint) (lines : List PropLine) (codes : List ℕ) → map prop_value lines ≡ p.view.props → codes ≡ map (line_code p.lattice.names) lines → codes ≡ map (mark p) p.view.props
marks_are p lines codes is e = e ∙ sym (map_map (mark p) prop_value lines) ∙ ap (map (mark p)) is

-- of words that are known
read_element : (n : ℕ) (xs : List ℕ) (i : ℕ) → AreElements n xs → i < length xs → slice_index xs i < n
read_element n [] i h low = absurd (omega arith)
read_element n (x ∷ xs) zero h low = h.0
read_element n (x ∷ xs) (suc i) h low = read_element n xs i h.1 (omega arith)

pub codes_within : (n : ℕ) (codes xs : List ℕ) → AreElements n xs → codes ≡ xs → AreWeights n codes
codes_within n codes xs h e = rw e (record { within = λ i low. read_element n xs i h low })

-- one line more of stutter values
stutter_front : (o : Operations) (place : List ℕ → ℕ) (x : Stutter) (rest : List Stutter) (v : ℕ) (b : Bool) → (x.viewpoint == v) ≡ b
    → cond b (o.join (place x.value) (joined o (map place (map (λ (l : Stutter). l.value) (filter (λ (l : Stutter). l.viewpoint == v) rest))))) (joined o (map place (map (λ (l : Stutter). l.value) (filter (λ (l : Stutter). l.viewpoint == v) rest))))
    ≡ joined o (map place (map (λ (l : Stutter). l.value) (filter (λ (l : Stutter). l.viewpoint == v) (x ∷ rest))))
stutter_front o place x rest v true e = rw e refl
stutter_front o place x rest v false e = rw e refl

pub stutter_more : (o : Operations) (place : List ℕ → ℕ) (lines : List Stutter) (v i j : ℕ) (x : Stutter) (sum new : ℕ) → i + 1 ≡ j → i < length lines → x ≡ get_or lines i x → sum ≡ joined o (map place (stutters_from v lines j))
    → new ≡ cond (x.viewpoint == v) (o.join (place x.value) sum) sum → new ≡ joined o (map place (stutters_from v lines i))
unfolding stutters_from
stutter_more o place lines v i j x sum new next low is known made =
    let at : x ∷ drop (i + 1) lines ≡ drop i lines = ap (λ (y : Stutter). y ∷ drop (i + 1) lines) is ∙ sym (drop_more lines i x low) in
    made ∙ ap (λ (n : ℕ). cond (x.viewpoint == v) (o.join (place x.value) n) n) (known ∙ ap (λ (n : ℕ). joined o (map place (stutters_from v lines n))) (sym next))
    ∙ stutter_front o place x (drop (i + 1) lines) v (x.viewpoint == v) refl
    ∙ ap (λ (ls : List Stutter). joined o (map place (map (λ (l : Stutter). l.value) (filter (λ (l : Stutter). l.viewpoint == v) ls)))) at

pub no_stutter : (o : Operations) (place : List ℕ → ℕ) (lines : List Stutter) (v i sum : ℕ) → i ≡ length lines → sum ≡ o.bottom → sum ≡ joined o (map place (stutters_from v lines i))
unfolding stutters_from
no_stutter o place lines v i sum e f = rw (e, drop-length lines) f

among_front : (names : List (List ℕ)) (x : Stutter) (kept : List Stutter) (b : Bool) → list_all (is_among names) (map (λ (l : Stutter). l.value) (cond b (x ∷ kept) kept)) ≡ true → (b ≡ true → is_among names x.value ≡ true) × (list_all (is_among names) (map (λ (l : Stutter). l.value) kept) ≡ true)
among_front names x kept true h = let two = and_parts (is_among names x.value) (list_all (is_among names) (map (λ (l : Stutter). l.value) kept)) h in ((λ e. two.0), two.1)
among_front names x kept false h = ((λ e. absurd (true≢false (sym e))), h)

among_at : (names : List (List ℕ)) (lines : List Stutter) (v i : ℕ) (x : Stutter) → list_all (is_among names) (map (λ (l : Stutter). l.value) (filter (λ (l : Stutter). l.viewpoint == v) lines)) ≡ true → i < length lines → x ≡ get_or lines i x → (x.viewpoint == v) ≡ true → is_among names x.value ≡ true
among_at names [] v i x h low is e = absurd (omega arith)
among_at names (y ∷ lines) v zero x h low is e =
    let front = among_front names y (filter (λ (l : Stutter). l.viewpoint == v) lines) (y.viewpoint == v) h in
    subst (λ (z : Stutter). is_among names z.value ≡ true) (sym is) (front.0 (ap (λ (z : Stutter). z.viewpoint == v) (sym is) ∙ e))
among_at names (y ∷ lines) v (suc i) x h low is e =
    let front = among_front names y (filter (λ (l : Stutter). l.viewpoint == v) lines) (y.viewpoint == v) h in
    among_at names lines v i x front.1 (omega arith) is e

pub stutter_among : (names : List (List ℕ)) (lines : List Stutter) (v i : ℕ) (x : Stutter) → list_all (is_among names) (stutters_from v lines 0) ≡ true → i < length lines → x ≡ get_or lines i x → (x.viewpoint == v) ≡ true → is_among names x.value ≡ true
unfolding stutters_from
stutter_among names lines v i x h low is e = among_at names lines v i x h low is e

pub stutters_all : (plan : MapValue) (v : ℕ) (lines : List Stutter) → lines ≡ plan.stutters → stutters_from v lines 0 ≡ stutter_words plan v
unfolding stutters_from
stutters_all plan v lines e = ap (λ (ls : List Stutter). map (λ (l : Stutter). l.value) (filter (λ (l : Stutter). l.viewpoint == v) ls)) e

-- of two lists that pass together the first passes, and so does the second
pub all_left : (p : List ℕ → Bool) (xs ys : List (List ℕ)) → list_all p (xs ++ ys) ≡ true → list_all p xs ≡ true
all_left p [] ys h = refl
all_left p (x ∷ xs) ys h = let two = and_parts (p x) (list_all p (xs ++ ys)) h in rw two.0 (all_left p xs ys two.1)

pub all_right : (p : List ℕ → Bool) (xs ys : List (List ℕ)) → list_all p (xs ++ ys) ≡ true → list_all p ys ≡ true
all_right p [] ys h = h
all_right p (x ∷ xs) ys h = all_right p xs ys (and_parts (p x) (list_all p (xs ++ ys)) h).1

-- the elements of words that are known
pub codes_of_words : {X : Type 0} (n : ℕ) (names : List (List ℕ)) (word : X → List ℕ) (items : List X) (codes : List ℕ) → length names ≡ n → list_all (is_among names) (map word items) ≡ true → codes ≡ map (λ x. place_of names (word x)) items → AreWeights n codes
codes_of_words n names word items codes e known is =
    codes_within n codes (map (place_of names) (map word items)) (subst (λ (m : ℕ). AreElements m (map (place_of names) (map word items))) e (known_are names (map word items) known)) (is ∙ sym (map_map (place_of names) word items))

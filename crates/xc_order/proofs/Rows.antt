-- The steps from pairs to the rows that they span.
use Rattle.std.proofs.Common.{◌≡◌, ℕ, zero, suc, ◌+◌, ◌<◌, ◌≤◌, Bool, true, false, ◌&&◌, ◌||◌, cond, List, [], ◌∷◌, ◌++◌, length, map, take, drop, set, get_or, replicate, ◌⊎◌, inl, inr, refl, sym, ap, ◌∙◌, subst, arith, length-set, get_or-set_same, get_or-set_other}
use Rattle.std.proofs.lemmas.List.{get_or-map, length-map, get_or_default, length-take-le, get_or-drop, take_more_set, map_more, drop-set-lt}
use Rattle.std.proofs.lemmas.Grind.{drop_more_same}
use Rattle.std.proofs.lemmas.List.FromFn.{map-range_with_len_more, length-map-range_with_len, get_or-map-range_with_len, fill_by_all}
use Rattle.std.proofs.lemmas.Bool.{and_parts, and_from, or_cases, or_left, or_right, cases_eq, false≢true}
use Rattle.xc_theory.specs.Orders.{is_below, Leads, Reaches, IsSquare}
use Rattle.xc_theory.proofs.Orders.{Reaches-refl, Reaches-step, Reaches-trans}
use Rattle.xc_order.specs.declared.order.Pair.{Pair}
use Rattle.xc_order.specs.Pairs.{IsListed, AreBelow}
use Rattle.xc_order.specs.Order.{IsMatrix, table_of}
use Rattle.xc_order.specs.Closure.{own_row, own_rows, HasPairs, either_row, joined_row, closed_through, Related, ClosesBelow, Spans}
use Rattle.xc_order.proofs.Tables.{is_below-table_of}

pub own_rows_more : (k : ℕ) → own_rows (k + 1) ≡ own_rows k ++ own_row k ∷ []
own_rows_more k = map-range_with_len_more own_row 0 k k (omega arith)

pub either_row_all : (row via either : List Bool) → length either ≡ 64 → ((k : ℕ) → k < 64 → get_or either k false ≡ (get_or row k false || get_or via k false)) → either ≡ either_row row via
either_row_all row via either long all = fill_by_all (λ k. get_or row k false || get_or via k false) either 64 false long all

or_false : (x : Bool) → x ≡ (x || false)
or_false true = refl
or_false false = refl

-- rows in which each element is below itself alone
get_or-falses : (n b : ℕ) → get_or (replicate n false) b false ≡ false
get_or-falses zero b = refl
get_or-falses (suc n) zero = refl
get_or-falses (suc n) (suc b) = get_or-falses n b

own_place : (n a b : ℕ) → get_or (set (replicate n false) a true) b false ≡ true → a ≡ b
own_place n a b h =
    elim (cases_eq b a) [
      | inl same ↦ sym same
      | inr apart ↦ absurd (false≢true (sym (get_or-set_other (replicate n false) a b true false apart ∙ get_or-falses n b) ∙ h))
    ]

own_entry : (n a b : ℕ) → a < n → is_below (own_rows n) a b ≡ get_or (own_row a) b false
own_entry n a b a_in = ap (λ (row : List Bool). get_or row b false) (get_or-map-range_with_len own_row 0 n a a [] a_in (omega arith))

own_rows_matrix : (n : ℕ) → IsMatrix n (own_rows n)
own_rows_matrix n = record {
  rows_are = length-map-range_with_len own_row 0 n;
  columns = λ a a_in. ap length (get_or-map-range_with_len own_row 0 n a a [] a_in (omega arith)) ∙ length-set (replicate 64 false) a true;
}

pub own_rows_start : (n : ℕ) (pairs : List Pair) → n ≤ 64 → HasPairs n pairs 0 (own_rows n)
own_rows_start n pairs limit = record {
  matrix = own_rows_matrix n;
  reflexive = λ a a_in. own_entry n a a a_in ∙ get_or-set_same (replicate 64 false) a true false (omega arith);
  listed = λ k d low high. absurd (omega arith);
  reached = λ a b a_in b_in h. subst (λ (x : ℕ). Reaches (IsListed pairs) a x) (own_place 64 a b (sym (own_entry n a b a_in) ∙ h)) (Reaches-refl (IsListed pairs) a);
}

-- one more place of one row
abbrev with_place : List (List Bool) → ℕ → ℕ → List (List Bool)
with_place rows x y = set rows x (set (get_or rows x []) y true)

place_there : (rows : List (List Bool)) (x y : ℕ) → x < length rows → y < length (get_or rows x []) → is_below (with_place rows x y) x y ≡ true
place_there rows x y x_in y_in =
    ap (λ (row : List Bool). get_or row y false) (get_or-set_same rows x (set (get_or rows x []) y true) [] x_in) ∙ get_or-set_same (get_or rows x []) y true false y_in

-- the entries at another place
place_other : (rows : List (List Bool)) (x y a b : ℕ) → x < length rows → ((x ≡ a) × (y ≡ b) → ⊥) → is_below (with_place rows x y) a b ≡ is_below rows a b
place_other rows x y a b x_in apart =
    elim (cases_eq a x) [
      | inl same ↦
          subst (λ (z : ℕ). is_below (with_place rows x y) z b ≡ is_below rows z b) (sym same)
          (ap (λ (row : List Bool). get_or row b false) (get_or-set_same rows x (set (get_or rows x []) y true) [] x_in)
          ∙ get_or-set_other (get_or rows x []) y b true false (λ e. apart (sym same, sym e)))
      | inr other ↦ ap (λ (row : List Bool). get_or row b false) (get_or-set_other rows x a (set (get_or rows x []) y true) [] other)
    ]

place_cases : (x y a b : ℕ) → ((x ≡ a) × (y ≡ b)) ⊎ ((x ≡ a) × (y ≡ b) → ⊥)
place_cases x y a b =
    elim (cases_eq x a) [
      | inl same ↦ elim (cases_eq y b) [ inl both ↦ inl (same, both) | inr other ↦ inr (λ e. other e.1) ]
      | inr other ↦ inr (λ e. other e.0)
    ]

place_kept : (rows : List (List Bool)) (x y a b : ℕ) → x < length rows → y < length (get_or rows x []) → is_below rows a b ≡ true → is_below (with_place rows x y) a b ≡ true
place_kept rows x y a b x_in y_in h =
    elim (place_cases x y a b) [
      | inl same ↦
          subst (λ (z : ℕ). is_below (with_place rows x y) z b ≡ true) same.0
          (subst (λ (z : ℕ). is_below (with_place rows x y) x z ≡ true) same.1 (place_there rows x y x_in y_in))
      | inr other ↦ place_other rows x y a b x_in other ∙ h
    ]

place_only : (rows : List (List Bool)) (x y a b : ℕ) → x < length rows → is_below (with_place rows x y) a b ≡ true → ((x ≡ a) × (y ≡ b)) ⊎ (is_below rows a b ≡ true)
place_only rows x y a b x_in h =
    elim (place_cases x y a b) [ inl same ↦ inl same | inr other ↦ inr (sym (place_other rows x y a b x_in other) ∙ h) ]

place_matrix : (n : ℕ) (rows : List (List Bool)) (x y : ℕ) → IsMatrix n rows → x < n → IsMatrix n (with_place rows x y)
place_matrix n rows x y h x_in = record {
  rows_are = length-set rows x (set (get_or rows x []) y true) ∙ h.rows_are;
  columns = λ a a_in. elim (cases_eq a x) [
    | inl same ↦
        subst (λ (z : ℕ). length (get_or (with_place rows x y) z []) ≡ 64) (sym same)
        (ap length (get_or-set_same rows x (set (get_or rows x []) y true) [] (omega (arith, h.rows_are))) ∙ length-set (get_or rows x []) y true ∙ h.columns x x_in)
    | inr other ↦ ap length (get_or-set_other rows x a (set (get_or rows x []) y true) [] other) ∙ h.columns a a_in
  ];
}

pair_is : (p : Pair) (a b : ℕ) → p.low ≡ a → p.high ≡ b → p ≡ record { low = a; high = b }
pair_is p a b low high =
    let with_low : ℕ → Pair = λ x. record { low = x; high = p.high } in
    let with_high : ℕ → Pair = λ y. record { low = a; high = y } in
    ap with_low low ∙ ap with_high high

pub pairs_more : (n : ℕ) (pairs : List Pair) (i : ℕ) (d : Pair) (rows : List (List Bool)) → n ≤ 64 → AreBelow n pairs → i < length pairs → HasPairs n pairs i rows → HasPairs n pairs (i + 1) (set rows (get_or pairs i d).low (set (get_or rows (get_or pairs i d).low []) (get_or pairs i d).high true))
pairs_more n pairs i d rows limit below within h =
    let p : Pair = get_or pairs i d in
    let low_in : p.low < n = (below i d within).0 in
    let high_in : p.high < n = (below i d within).1 in
    let x_in : p.low < length rows = omega (arith, h.matrix.rows_are) in
    let y_in : p.high < length (get_or rows p.low []) = omega (arith, h.matrix.columns p.low low_in) in
    record {
      matrix = place_matrix n rows p.low p.high h.matrix low_in;
      reflexive = λ a a_in. place_kept rows p.low p.high a a x_in y_in (h.reflexive a a_in);
      listed = λ k e low high. elim (cases_eq k i) [
        | inl same ↦
            subst (λ (q : Pair). is_below (with_place rows p.low p.high) q.low q.high ≡ true) (get_or_default pairs i d e within ∙ ap (λ (z : ℕ). get_or pairs z e) (sym same)) (place_there rows p.low p.high x_in y_in)
        | inr other ↦ place_kept rows p.low p.high (get_or pairs k e).low (get_or pairs k e).high x_in y_in (h.listed k e low (omega arith))
      ];
      reached = λ a b a_in b_in e. elim (place_only rows p.low p.high a b x_in e) [
        | inl same ↦ Reaches-step (IsListed pairs) a b (i, within, get_or_default pairs i (record { low = a; high = b }) d within ∙ pair_is p a b same.0 same.1)
        | inr old ↦ h.reached a b a_in b_in old
      ];
    }

pub closes_none : (n : ℕ) (rows : List (List Bool)) → IsMatrix n rows → ClosesBelow n 0 rows rows
closes_none n rows h = record {
  matrix = h;
  kept = λ a b e. e.2;
  reached = λ a b e. Reaches-step (Related n rows) a b e;
  through = λ m a b m_in. absurd (omega arith);
}

-- the entries of rows that are closed through k
joined_entry : (c : Bool) (via row : List Bool) (b : ℕ) → b < 64 → get_or (cond c (either_row row via) row) b false ≡ (get_or row b false || (c && get_or via b false))
joined_entry true via row b b_in = get_or-map-range_with_len (λ b. get_or row b false || get_or via b false) 0 64 b b false b_in (omega arith)
joined_entry false via row b b_in = or_false (get_or row b false)

closed_entry : (n k : ℕ) (rows : List (List Bool)) (a b : ℕ) → IsMatrix n rows → a < n → b < 64 → is_below (closed_through k rows) a b ≡ (is_below rows a b || (is_below rows a k && is_below rows k b))
closed_entry n k rows a b h a_in b_in =
    ap (λ (row : List Bool). get_or row b false) (get_or-map (joined_row k (get_or rows k [])) rows a [] [] (omega (arith, h.rows_are)))
    ∙ joined_entry (is_below rows a k) (get_or rows k []) (get_or rows a []) b b_in

closed_cases : (n k : ℕ) (rows : List (List Bool)) (a b : ℕ) → IsMatrix n rows → a < n → b < 64 → is_below (closed_through k rows) a b ≡ true → (is_below rows a b ≡ true) ⊎ ((is_below rows a k ≡ true) × (is_below rows k b ≡ true))
closed_cases n k rows a b h a_in b_in e =
    elim (or_cases (is_below rows a b) (is_below rows a k && is_below rows k b) (sym (closed_entry n k rows a b h a_in b_in) ∙ e)) [
      | inl old ↦ inl old
      | inr new ↦ inr (and_parts (is_below rows a k) (is_below rows k b) new)
    ]

closed_kept : (n k : ℕ) (rows : List (List Bool)) (a b : ℕ) → IsMatrix n rows → a < n → b < 64 → is_below rows a b ≡ true → is_below (closed_through k rows) a b ≡ true
closed_kept n k rows a b h a_in b_in e = closed_entry n k rows a b h a_in b_in ∙ or_left (is_below rows a b) (is_below rows a k && is_below rows k b) e

closed_joins : (n k : ℕ) (rows : List (List Bool)) (a b : ℕ) → IsMatrix n rows → a < n → b < 64 → is_below rows a k ≡ true → is_below rows k b ≡ true → is_below (closed_through k rows) a b ≡ true
closed_joins n k rows a b h a_in b_in e f =
    closed_entry n k rows a b h a_in b_in ∙ or_right (is_below rows a b) (is_below rows a k && is_below rows k b) (and_from (is_below rows a k) (is_below rows k b) e f)

joined_length : (c : Bool) (via row : List Bool) → length row ≡ 64 → length (cond c (either_row row via) row) ≡ 64
joined_length true via row h = length-map-range_with_len (λ b. get_or row b false || get_or via b false) 0 64
joined_length false via row h = h

closed_matrix : (n k : ℕ) (rows : List (List Bool)) → IsMatrix n rows → IsMatrix n (closed_through k rows)
closed_matrix n k rows h = record {
  rows_are = length-map rows (joined_row k (get_or rows k [])) ∙ h.rows_are;
  columns = λ a a_in.
      ap length (get_or-map (joined_row k (get_or rows k [])) rows a [] [] (omega (arith, h.rows_are)))
      ∙ joined_length (is_below rows a k) (get_or rows k []) (get_or rows a []) (h.columns a a_in);
}

pub closes_more : (n k : ℕ) (old rows : List (List Bool)) → n ≤ 64 → k < n → ClosesBelow n k old rows → ClosesBelow n (k + 1) old (closed_through k rows)
closes_more n k old rows limit k_in h = record {
  matrix = closed_matrix n k rows h.matrix;
  kept = λ a b e. closed_kept n k rows a b h.matrix e.0 (omega (arith, e.1)) (h.kept a b e);
  reached = λ a b e. elim (closed_cases n k rows a b h.matrix e.0 (omega (arith, e.1)) e.2) [
    | inl there ↦ h.reached a b (e.0, e.1, there)
    | inr two ↦ Reaches-trans (Related n old) a k b (h.reached a k (e.0, k_in, two.0)) (h.reached k b (k_in, e.1, two.1))
  ];
  through = λ m a b m_in am mb.
      let M = h.matrix in
      let a_in : a < n = am.0 in
      let m_below : m < n = am.1 in
      let b_in : b < n = mb.1 in
      let b_64 : b < 64 = omega arith in
      let joins = closed_joins n k rows a b M a_in b_64 in
      elim (closed_cases n k rows a m M a_in (omega arith) am.2) [
        | inl a_to_m ↦ elim (closed_cases n k rows m b M m_below b_64 mb.2) [
          | inl m_to_b ↦ elim (cases_eq m k) [
            | inl same ↦ joins (subst (λ (z : ℕ). is_below rows a z ≡ true) same a_to_m) (subst (λ (z : ℕ). is_below rows z b ≡ true) same m_to_b)
            | inr other ↦ closed_kept n k rows a b M a_in b_64 (h.through m a b (omega arith) (a_in, m_below, a_to_m) (m_below, b_in, m_to_b))
          ]
          | inr both ↦ elim (cases_eq m k) [
            | inl same ↦ joins (subst (λ (z : ℕ). is_below rows a z ≡ true) same a_to_m) both.1
            | inr other ↦ joins (h.through m a k (omega arith) (a_in, m_below, a_to_m) (m_below, k_in, both.0)) both.1
          ]
        ]
        | inr first ↦ elim (closed_cases n k rows m b M m_below b_64 mb.2) [
          | inl m_to_b ↦ elim (cases_eq m k) [
            | inl same ↦ joins first.0 (subst (λ (z : ℕ). is_below rows z b ≡ true) same m_to_b)
            | inr other ↦ joins first.0 (h.through m k b (omega arith) (k_in, m_below, first.1) (m_below, b_in, m_to_b))
          ]
          | inr both ↦ joins first.0 both.1
        ]
      ];
}

-- what the old rows reach, the pairs reach
leads_by_pairs : (n : ℕ) (pairs : List Pair) (old : List (List Bool)) → HasPairs n pairs (length pairs) old → (a : ℕ) (steps : List ℕ) (b : ℕ) → Leads (Related n old) a steps b → Reaches (IsListed pairs) a b
leads_by_pairs n pairs old has a [] b h = ([], h)
leads_by_pairs n pairs old has a (x ∷ steps) b h =
    Reaches-trans (IsListed pairs) a x b (has.reached a x h.0.0 h.0.1 h.0.2) (leads_by_pairs n pairs old has x steps b h.1)

-- where pairs lead, the new rows do
below_by_steps : (n : ℕ) (pairs : List Pair) (old new : List (List Bool)) → AreBelow n pairs → HasPairs n pairs (length pairs) old → ClosesBelow n n old new → (a : ℕ) (steps : List ℕ) (b : ℕ) → a < n → b < n → Leads (IsListed pairs) a steps b → is_below new a b ≡ true
below_by_steps n pairs old new below has closes a [] b a_in b_in h =
    subst (λ (z : ℕ). is_below new a z ≡ true) h (closes.kept a a (a_in, a_in, has.reflexive a a_in))
below_by_steps n pairs old new below has closes a (x ∷ steps) b a_in b_in h =
    let p : Pair = record { low = a; high = x } in
    let is : get_or pairs h.0.0 p ≡ p = h.0.2 in
    let x_in : x < n = subst (λ (q : Pair). q.high < n) is (below h.0.0 p h.0.1).1 in
    let first : is_below old a x ≡ true = subst (λ (q : Pair). is_below old q.low q.high ≡ true) is (has.listed h.0.0 p (omega arith) h.0.1) in
    closes.through x a b x_in (a_in, x_in, closes.kept a x (a_in, x_in, first))
    (x_in, b_in, below_by_steps n pairs old new below has closes x steps b x_in b_in h.1)

table_square : (n : ℕ) (rows : List (List Bool)) → n ≤ 64 → IsMatrix n rows → IsSquare n (table_of n rows)
table_square n rows limit h = record {
  rows = length-map rows (take n) ∙ h.rows_are;
  columns = λ a a_in.
      ap length (get_or-map (take n) rows a [] [] (omega (arith, h.rows_are))) ∙ length-take-le n (get_or rows a []) (omega (arith, h.columns a a_in));
}

pub spans : (n : ℕ) (pairs : List Pair) (old new : List (List Bool)) → 0 < n → n ≤ 64 → AreBelow n pairs → HasPairs n pairs (length pairs) old → ClosesBelow n n old new → Spans n pairs new
spans n pairs old new positive limit below has closes =
    let entry : (a b : ℕ) → a < n → b < n → is_below (table_of n new) a b ≡ is_below new a b = λ a b a_in b_in. is_below-table_of n new a b (omega (arith, closes.matrix.rows_are)) b_in in
    let square = table_square n new limit closes.matrix in
    record {
      holds = record {
        matrix = closes.matrix;
        order = record {
          positive = positive;
          limit = limit;
          square = square;
          reflexive = λ a a_in. entry a a a_in a_in ∙ closes.kept a a (a_in, a_in, has.reflexive a a_in);
          transitive = λ a b c a_in b_in c_in ab bc.
              entry a c a_in c_in
              ∙ closes.through b a c b_in (a_in, b_in, sym (entry a b a_in b_in) ∙ ab) (b_in, c_in, sym (entry b c b_in c_in) ∙ bc);
        };
      };
      spanned = record {
        square = square;
        reached = λ a b a_in b_in e.
            let old_steps = closes.reached a b (a_in, b_in, sym (entry a b a_in b_in) ∙ e) in
            leads_by_pairs n pairs old has a old_steps.0 b old_steps.1;
        below = λ a b a_in b_in steps.
            entry a b a_in b_in ∙ below_by_steps n pairs old new below has closes a steps.0 b a_in b_in steps.1;
      };
    }

-- rows that end alike have the same row there
same_row : (old rows : List (List Bool)) (i j : ℕ) → i + 0 ≡ j → drop i rows ≡ drop i old → get_or rows j [] ≡ get_or old j []
same_row old rows i j e rest =
    subst (λ (z : ℕ). get_or rows z [] ≡ get_or old z []) e
    (sym (get_or-drop i rows 0 []) ∙ ap (λ (xs : List (List Bool)). get_or xs 0 []) rest ∙ get_or-drop i old 0 [])

-- one more row of rows that a function is applied to in place
pub map_in_place : (f : List Bool → List Bool) (old rows : List (List Bool)) (i : ℕ) → i < length old → length rows ≡ length old → take i rows ≡ map f (take i old) → drop i rows ≡ drop i old → (take (i + 1) (set rows i (f (get_or rows i []))) ≡ map f (take (i + 1) old)) × (drop (i + 1) (set rows i (f (get_or rows i []))) ≡ drop (i + 1) old)
map_in_place f old rows i within same front rest =
    let in_rows : i < length rows = omega arith in
    let here : get_or rows i [] ≡ get_or old i [] = same_row old rows i i (omega arith) rest in
    let push : List (List Bool) → List Bool → List (List Bool) = λ xs row. xs ++ f row ∷ [] in (
      take_more_set rows i (f (get_or rows i [])) in_rows
          ∙ ap (λ (xs : List (List Bool)). push xs (get_or rows i [])) front
          ∙ ap (λ (row : List Bool). push (map f (take i old)) row) here
          ∙ sym (map_more f old i [] within),
      drop-set-lt (i + 1) rows i (f (get_or rows i [])) (omega arith) ∙ drop_more_same rows old i rest,
    )

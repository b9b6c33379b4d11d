-- What the joins of the code are in the merged machine.
use Rattle.std.proofs.Common.{◌≡◌, ℕ, suc, ◌<◌, ◌≤◌, ◌&&◌, not, ◌==◌, cond, Bool, true, false, List, [], ◌∷◌, ◌++◌, length, map, slice_index, Option, Some, None, is_some, refl, sym, ◌∙◌, ap, subst, arith}
use Rattle.std.specs.List.{list_all, filter}
use Rattle.std.specs.Str.{bytes_eq}
use Rattle.std.proofs.lemmas.Bool.{and_parts, eqb-true, eq-eqb, true≢false}
use Rattle.std.proofs.lemmas.List.{map-append, append-nil}
use Rattle.std.proofs.lemmas.Option.{none-some, same_Some}
use Rattle.xc_theory.specs.Bounds.{join_of}
use Rattle.xc_theory.specs.Codes.{digits, code_of, AreDigits}
use Rattle.xc_theory.specs.Lattices.{LatticeData, IsLawful, size, join}
use Rattle.xc_theory.proofs.Bounds.{join_of_lt}
use Rattle.xc_theory.proofs.Codes.{digits_of_codes}
use Rattle.xc_alg.specs.AnyTables.{lattice_in_any}
use Rattle.xc_alg.specs.Operations.{Operations}
use Rattle.xc_alg.specs.Products.{product}
use Rattle.xc_alg.specs.Bounds.{joined, AreElements}
use Rattle.xc_alg.proofs.Parts.{single, join_of-joined}
use Rattle.xc_alg.proofs.Tables.{product_join, product_bottom}
use Rattle.xc_base.specs.Names.{is_among, place_of}
use Rattle.xc_base.proofs.Naming.{among_in_range, same_bytes, bytes_refl}
use Rattle.xc_expr.specs.Tests.{holds_at}
use Rattle.xc_expr.specs.Actions.{allows}
use Rattle.xc_forms.specs.Variables.{sizes_of}
use Rattle.xc_view.specs.ViewFiles.{ViewValue, PropValue, CommandValue}
use Rattle.xc_view.specs.Parts.{prop_value, command_value}
use Rattle.xc_view.specs.Meaning.{row_at, leads, step_words, tells, prop_words, join_named}
use Rattle.xc_view.specs.declared.lines.PropLine.{PropLine}
use Rattle.xc_view.specs.declared.lines.Command.{Command}
use Rattle.xc_sigmap_lines.specs.MapFiles.{MapValue}
use Rattle.xc_sigmap_lines.specs.declared.parts.Tell.{Tell}
use Rattle.xc_sigmap_lines.specs.declared.parts.Told.{Told}
use Rattle.xc_sigmap_lines.specs.declared.parts.Told.TheVariants.{Named, Constant}
use Rattle.xc_lattice.specs.LatticeFiles.{LatticeValue}
use Rattle.xc_merge.specs.Merges.{Viewpoint}
use Rattle.xc_merge.specs.Projections.{row_of, row_seen, projection}
use Rattle.xc_merge.specs.MergedFrames.{is_unseen, stutter_words, join_in, step_digit, line_of, digit_told, digit_by, prop_digit}
use Rattle.xc_merge.specs.Pieces.{weight, mark, counts_for, counts_by, constant_told, fixed_by}
use Rattle.xc_merged.specs.Joins.{both, picked, joined_onto, joined_from, leads_to, holds_there}
use Rattle.xc_merged.specs.declared.tables.Tables.{Tables}
use Rattle.xc_merged.specs.declared.tables.Telling.{Telling}
use Rattle.xc_merged.specs.Tabled.{IsGood, AreTables, AreWeights, IsTelling}

-- joined one after the other in the product of one part is joined in the part
joined_alone : (l : LatticeData) (xs : List ℕ) → joined (product (l ∷ [])) xs ≡ joined (single l) xs
joined_alone l [] = product_bottom l
joined_alone l (x ∷ xs) = product_join l x (joined (product (l ∷ [])) xs) ∙ ap (λ (m : ℕ). join l x m) (joined_alone l xs)

-- and it is the least upper bound
joined_is_bound : (l : LatticeData) (xs : List ℕ) → IsLawful l → 2 ≤ size l → AreElements (size l) xs → joined (product (l ∷ [])) xs ≡ join_of l.order xs
joined_is_bound l xs lawful several are = joined_alone l xs ∙ sym (join_of-joined l lawful several xs are)

-- elements that are joined onto others
onto : (o : Operations) (base : ℕ) (xs ys : List ℕ) → base ≡ joined o ys → joined_onto o base xs ≡ joined o (xs ++ ys)
onto o base [] ys e = e
onto o base (x ∷ xs) ys e = ap (o.join x) (onto o base xs ys e)

elements_append : (n : ℕ) (xs ys : List ℕ) → AreElements n xs → AreElements n ys → AreElements n (xs ++ ys)
elements_append n [] ys h k = k
elements_append n (x ∷ xs) ys h k = (h.0, elements_append n xs ys h.1 k)

-- weights are elements, and so are those that are picked
weights_are : (n : ℕ) (ws : List ℕ) → ((i : ℕ) → i < length ws → slice_index ws i < n) → AreElements n ws
weights_are n [] h = tt
weights_are n (w ∷ ws) h = (h 0 (omega arith), weights_are n ws (λ i low. h (suc i) (omega arith)))

picked_elements : (n : ℕ) (ws : List ℕ) (ts : List Bool) → AreElements n ws → AreElements n (picked ws ts)
picked_elements n [] ts h = tt
picked_elements n (w ∷ ws) [] h = tt
picked_elements n (w ∷ ws) (true ∷ ts) h = (h.0, picked_elements n ws ts h.1)
picked_elements n (w ∷ ws) (false ∷ ts) h = picked_elements n ws ts h.1

-- names of elements are elements
pub known_are : (names words : List (List ℕ)) → list_all (is_among names) words ≡ true → AreElements (length names) (map (place_of names) words)
known_are names [] h = tt
known_are names (w ∷ words) h = let two = and_parts (is_among names w) (list_all (is_among names) words) h in (among_in_range names w two.0, known_are names words two.1)

-- what is picked of what the items are
front_filtered : {X : Type 0} (f : X → ℕ) (test : X → Bool) (x : X) (xs : List X) (b : Bool) → test x ≡ b → picked (map f xs) (map test xs) ≡ map f (filter test xs) → picked (map f (x ∷ xs)) (map test (x ∷ xs)) ≡ map f (filter test (x ∷ xs))
front_filtered f test x xs true e more = rw (e, more) refl
front_filtered f test x xs false e more = rw (e, more) refl

picked_filtered : {X : Type 0} (f : X → ℕ) (test : X → Bool) (xs : List X) → picked (map f xs) (map test xs) ≡ map f (filter test xs)
picked_filtered f test [] = refl
picked_filtered f test (x ∷ xs) = front_filtered f test x xs (test x) refl (picked_filtered f test xs)

both_map : {X : Type 0} (a b : X → Bool) (xs : List X) → both (map a xs) (map b xs) ≡ map (λ x. a x && b x) xs
both_map a b [] = refl
both_map a b (x ∷ xs) = ap (λ (more : List Bool). (a x && b x) ∷ more) (both_map a b xs)

pub map_map : {X Y Z : Type 0} (f : Y → Z) (g : X → Y) (xs : List X) → map f (map g xs) ≡ map (λ x. f (g x)) xs
map_map f g [] = refl
map_map f g (x ∷ xs) = ap (λ (more : List _). f (g x) ∷ more) (map_map f g xs)

-- a truth value by when it is true
same_truth : (a b : Bool) → (a ≡ true → b ≡ true) → (b ≡ true → a ≡ true) → a ≡ b
same_truth true b h k = sym (h refl)
same_truth false true h k = k refl
same_truth false false h k = refl

-- the places of the variables at the state of some places
pub row_back : (view : ViewValue) (row : List ℕ) (code : ℕ) → AreDigits (sizes_of view.vars) row → code ≡ code_of (sizes_of view.vars) row → row_at view code ≡ row
row_back view row code h e = ap (digits (sizes_of view.vars)) e ∙ digits_of_codes (sizes_of view.vars) row h

-- two rows are the same where their codes are
codes_same : (sizes from to : List ℕ) → AreDigits sizes from → AreDigits sizes to → bytes_eq from to ≡ (code_of sizes from == code_of sizes to)
codes_same sizes from to h k =
    same_truth (bytes_eq from to) (code_of sizes from == code_of sizes to)
    (λ e. eq-eqb (code_of sizes from) (code_of sizes to) (ap (code_of sizes) (same_bytes from to e)))
    (λ e. let same : from ≡ to = sym (digits_of_codes sizes from h) ∙ ap (digits sizes) (eqb-true (code_of sizes from) (code_of sizes to) e) ∙ digits_of_codes sizes to k in subst (λ (x : List ℕ). bytes_eq from x ≡ true) same (bytes_refl from))

-- the element of the steps that a viewpoint does not see, and the bottom, as joins of words
stutter_joined : (plan : MapValue) (v : ℕ) (p : Viewpoint) (t : Tables) → AreTables plan v p t → IsGood p.lattice → t.stutter ≡ joined (product (p.lattice.algebra ∷ [])) (map (place_of p.lattice.names) (stutter_words plan v))
stutter_joined plan v p t are good =
    are.stutter_is
    ∙ sym (joined_is_bound p.lattice.algebra (map (place_of p.lattice.names) (stutter_words plan v)) good.lawful good.some (subst (λ (n : ℕ). AreElements n (map (place_of p.lattice.names) (stutter_words plan v))) good.named (known_are p.lattice.names (stutter_words plan v) are.stutter_known)))

bottom_joined : (plan : MapValue) (v : ℕ) (p : Viewpoint) (t : Tables) → AreTables plan v p t → t.bottom ≡ joined (product (p.lattice.algebra ∷ [])) []
bottom_joined plan v p t are = are.bottom_is ∙ sym (product_bottom p.lattice.algebra)

base_is : (plan : MapValue) (v : ℕ) (p : Viewpoint) (t : Tables) (b : Bool) → AreTables plan v p t → IsGood p.lattice → cond b t.stutter t.bottom ≡ joined (product (p.lattice.algebra ∷ [])) (map (place_of p.lattice.names) (cond b (stutter_words plan v) []))
base_is plan v p t true are good = stutter_joined plan v p t are good
base_is plan v p t false are good = bottom_joined plan v p t are

extra_known : (plan : MapValue) (v : ℕ) (p : Viewpoint) (t : Tables) (b : Bool) → AreTables plan v p t → AreElements (length p.lattice.names) (map (place_of p.lattice.names) (cond b (stutter_words plan v) []))
extra_known plan v p t true are = known_are p.lattice.names (stutter_words plan v) are.stutter_known
extra_known plan v p t false are = tt

-- a command that leads, by its value, and a line that holds
abbrev between : List ℕ → List ℕ → List ℕ → CommandValue → Bool
between sizes from to c = holds_at c.guard from && allows sizes c.action from to

abbrev holding : List ℕ → PropValue → Bool
holding from l = holds_at l.guard from

tests_are : (view : ViewValue) (commands : List Command) (ps pu : ℕ) (from to : List ℕ) → map command_value commands ≡ view.commands → row_at view ps ≡ from → row_at view pu ≡ to → map (leads_to (sizes_of view.vars) from to) commands ≡ map (leads view ps pu) view.commands
tests_are view commands ps pu from to is here there =
    sym (map_map (between (sizes_of view.vars) from to) command_value commands)
    ∙ ap (map (between (sizes_of view.vars) from to)) is
    ∙ ap (λ (r : List ℕ). map (between (sizes_of view.vars) r to) view.commands) (sym here)
    ∙ ap (λ (r : List ℕ). map (between (sizes_of view.vars) (row_at view ps) r) view.commands) (sym there)

lines_are : (view : ViewValue) (lines : List PropLine) (ps : ℕ) (from : List ℕ) → map prop_value lines ≡ view.props → row_at view ps ≡ from → map (holds_there from) lines ≡ map (holding (row_at view ps)) view.props
lines_are view lines ps from is here =
    sym (map_map (holding from) prop_value lines)
    ∙ ap (map (holding from)) is
    ∙ ap (λ (r : List ℕ). map (holding r) view.props) (sym here)

module _ (plan : MapValue) (v : ℕ) (p : Viewpoint) (t : Tables) (are : AreTables plan v p t) (good : IsGood p.lattice) where
  -- weights that are picked, joined onto the element of some words
  bound_is : (ws : List ℕ) (ts : List Bool) (words more : List (List ℕ)) (base : ℕ) → AreWeights (size p.lattice.algebra) ws → picked ws ts ≡ map (place_of p.lattice.names) words
      → base ≡ joined (product (p.lattice.algebra ∷ [])) (map (place_of p.lattice.names) more) → AreElements (size p.lattice.algebra) (map (place_of p.lattice.names) more)
      → joined_from (product (lattice_in_any t.operations ∷ [])) base ws ts 0 ≡ join_in p (words ++ more)
  unfolding joined_from
  bound_is ws ts words more base in_range same base_same known =
      let n = size p.lattice.algebra in
      let xs = map (place_of p.lattice.names) words in
      let ys = map (place_of p.lattice.names) more in
      let elements : AreElements n (xs ++ ys) = elements_append n xs ys (subst (AreElements n) same (picked_elements n ws ts (weights_are n ws in_range.within))) known in
      ap (λ (l : LatticeData). joined_onto (product (l ∷ [])) base (picked ws ts)) are.operations
      ∙ ap (joined_onto (product (p.lattice.algebra ∷ [])) base) same
      ∙ onto (product (p.lattice.algebra ∷ [])) base xs ys base_same
      ∙ joined_is_bound p.lattice.algebra (xs ++ ys) good.lawful good.some elements
      ∙ ap (join_of p.lattice.algebra.order) (sym (map-append (place_of p.lattice.names) words more))

  -- the weights of the commands that lead on
  weights_picked : (commands : List Command) (ps pu : ℕ) (from to : List ℕ) → map command_value commands ≡ p.view.commands → row_at p.view ps ≡ from → row_at p.view pu ≡ to
      → picked t.weights (map (leads_to (sizes_of p.view.vars) from to) commands) ≡ map (place_of p.lattice.names) (step_words p.view ps pu)
  weights_picked commands ps pu from to is here there =
      ap (λ (ws : List ℕ). picked ws (map (leads_to (sizes_of p.view.vars) from to) commands)) are.weights
      ∙ ap (picked (map (weight p) p.view.commands)) (tests_are p.view commands ps pu from to is here there)
      ∙ picked_filtered (weight p) (leads p.view ps pu) p.view.commands
      ∙ sym (map_map (place_of p.lattice.names) (λ (c : CommandValue). c.value) (filter (leads p.view ps pu) p.view.commands))

  -- what the viewpoint gives to a step
  pub step_is : (commands : List Command) (s u : ℕ) (from to : List ℕ) (base : ℕ) (same : Bool) → map command_value commands ≡ p.view.commands
      → AreDigits (sizes_of p.view.vars) (row_seen plan v p (row_of plan s)) → AreDigits (sizes_of p.view.vars) (row_seen plan v p (row_of plan u))
      → from ≡ row_seen plan v p (row_of plan s) → to ≡ row_seen plan v p (row_of plan u) → same ≡ (s == u) → base ≡ cond (not same && bytes_eq from to) t.stutter t.bottom
      → joined_from (product (lattice_in_any t.operations ∷ [])) base t.weights (map (leads_to (sizes_of p.view.vars) from to) commands) 0 ≡ step_digit plan s u v p
  step_is commands s u from to base same is first second from_is to_is same_is base_same =
      let ps = projection plan v p s in
      let pu = projection plan v p u in
      let unseen : (not same && bytes_eq from to) ≡ is_unseen plan v p s u =
      ap (λ (b : Bool). not b && bytes_eq from to) same_is
      ∙ ap (λ (r : List ℕ). not (s == u) && bytes_eq r to) from_is
      ∙ ap (λ (r : List ℕ). not (s == u) && bytes_eq (row_seen plan v p (row_of plan s)) r) to_is
      ∙ ap (λ (b : Bool). not (s == u) && b) (codes_same (sizes_of p.view.vars) (row_seen plan v p (row_of plan s)) (row_seen plan v p (row_of plan u)) first second) in
      bound_is t.weights (map (leads_to (sizes_of p.view.vars) from to) commands) (step_words p.view ps pu) (cond (is_unseen plan v p s u) (stutter_words plan v) []) base are.weights_in
      (weights_picked commands ps pu from to is (row_back p.view (row_seen plan v p (row_of plan s)) ps first refl ∙ sym from_is) (row_back p.view (row_seen plan v p (row_of plan u)) pu second refl ∙ sym to_is))
      (base_same ∙ ap (λ (b : Bool). cond b t.stutter t.bottom) unseen ∙ base_is plan v p t (is_unseen plan v p s u) are good)
      (subst (λ (n : ℕ). AreElements n (map (place_of p.lattice.names) (cond (is_unseen plan v p s u) (stutter_words plan v) []))) good.named (extra_known plan v p t (is_unseen plan v p s u) are))

  -- the marks of the lines that count and hold
  marks_picked : (lines : List PropLine) (name : List ℕ) (s : ℕ) (from : List ℕ) (rows : List Bool) → map prop_value lines ≡ p.view.props → row_at p.view (projection plan v p s) ≡ from → rows ≡ map (λ (l : PropValue). bytes_eq name l.name) p.view.props
      → picked t.marks (both rows (map (holds_there from) lines)) ≡ map (place_of p.lattice.names) (prop_words p.view name (projection plan v p s))
  marks_picked lines name s from rows is here counted =
      let ps = projection plan v p s in
      ap (λ (ws : List ℕ). picked ws (both rows (map (holds_there from) lines))) are.marks
      ∙ ap (λ (r : List Bool). picked (map (mark p) p.view.props) (both r (map (holds_there from) lines))) counted
      ∙ ap (λ (r : List Bool). picked (map (mark p) p.view.props) (both (map (λ (l : PropValue). bytes_eq name l.name) p.view.props) r)) (lines_are p.view lines ps from is here)
      ∙ ap (picked (map (mark p) p.view.props)) (both_map (λ (l : PropValue). bytes_eq name l.name) (holding (row_at p.view ps)) p.view.props)
      ∙ picked_filtered (mark p) (tells p.view name ps) p.view.props
      ∙ sym (map_map (place_of p.lattice.names) (λ (l : PropValue). l.value) (filter (tells p.view name ps) p.view.props))

  lines_told : (lines : List PropLine) (told : Told) (s : ℕ) (from : List ℕ) (rows : List Bool) → map prop_value lines ≡ p.view.props → row_at p.view (projection plan v p s) ≡ from
      → constant_told p told ≡ None → rows ≡ map (λ (l : PropValue). counts_for l told) p.view.props
      → joined_from (product (lattice_in_any t.operations ∷ [])) t.bottom t.marks (both rows (map (holds_there from) lines)) 0 ≡ digit_told plan s v p told
  lines_told lines (Named name) s from rows is here open_ counted =
      let words = prop_words p.view name (projection plan v p s) in
      bound_is t.marks (both rows (map (holds_there from) lines)) words [] t.bottom are.marks_in (marks_picked lines name s from rows is here counted) (bottom_joined plan v p t are) tt
      ∙ ap (join_in p) (append-nil words)
  lines_told lines (Constant word) s from rows is here open_ counted = absurd (none-some (place_of p.lattice.names word) (sym open_))

  lines_by : (lines : List PropLine) (o : Option Tell) (s : ℕ) (from : List ℕ) (rows : List Bool) → map prop_value lines ≡ p.view.props → row_at p.view (projection plan v p s) ≡ from
      → is_some o ≡ true → fixed_by p o ≡ None → rows ≡ map (λ (l : PropValue). counts_by l o) p.view.props
      → joined_from (product (lattice_in_any t.operations ∷ [])) t.bottom t.marks (both rows (map (holds_there from) lines)) 0 ≡ digit_by plan s v p o
  lines_by lines None s from rows is here some open_ counted = absurd (true≢false (sym some))
  lines_by lines (Some line) s from rows is here some open_ counted = lines_told lines line.told s from rows is here open_ counted

  -- what it gives to a proposition by its lines
  pub lines_is : (lines : List PropLine) (k s : ℕ) (from : List ℕ) (telling : Telling) → map prop_value lines ≡ p.view.props
      → AreDigits (sizes_of p.view.vars) (row_seen plan v p (row_of plan s)) → from ≡ row_seen plan v p (row_of plan s) → IsTelling plan v p k telling → telling.fixed ≡ None
      → joined_from (product (lattice_in_any t.operations ∷ [])) t.bottom t.marks (both telling.counts (map (holds_there from) lines)) 0 ≡ prop_digit plan k s v p
  lines_is lines k s from telling is digits_ from_is tells_ none =
      lines_by lines (line_of plan v k) s from telling.counts is (row_back p.view (row_seen plan v p (row_of plan s)) (projection plan v p s) digits_ refl ∙ sym from_is)
      tells_.told (sym tells_.fixed_is ∙ none) tells_.counts_are

-- what it gives where it tells a constant
constant_is : (plan : MapValue) (v s : ℕ) (p : Viewpoint) (told : Told) (c : ℕ) → constant_told p told ≡ Some c → c ≡ digit_told plan s v p told
constant_is plan v s p (Named name) c e = absurd (none-some c e)
constant_is plan v s p (Constant word) c e = sym (same_Some (place_of p.lattice.names word) c e)

constant_by : (plan : MapValue) (v s : ℕ) (p : Viewpoint) (o : Option Tell) (c : ℕ) → fixed_by p o ≡ Some c → c ≡ digit_by plan s v p o
constant_by plan v s p None c e = absurd (none-some c e)
constant_by plan v s p (Some line) c e = constant_is plan v s p line.told c e

pub fixed_value : (plan : MapValue) (v k s : ℕ) (p : Viewpoint) (telling : Telling) (c : ℕ) → IsTelling plan v p k telling → telling.fixed ≡ Some c → c ≡ prop_digit plan k s v p
fixed_value plan v k s p telling c h e = constant_by plan v s p (line_of plan v k) c (sym h.fixed_is ∙ e)

-- what steps have at least is an element
pub base_within : (plan : MapValue) (v : ℕ) (p : Viewpoint) (t : Tables) (b : Bool) → AreTables plan v p t → IsGood p.lattice → cond b t.stutter t.bottom < size p.lattice.algebra
base_within plan v p t true are good = rw are.stutter_is (join_of_lt p.lattice.algebra.order (map (place_of p.lattice.names) (stutter_words plan v)) (omega (arith, good.some)))
base_within plan v p t false are good = rw are.bottom_is (join_of_lt p.lattice.algebra.order [] (omega (arith, good.some)))

pub bottom_within : (plan : MapValue) (v : ℕ) (p : Viewpoint) (t : Tables) → AreTables plan v p t → IsGood p.lattice → t.bottom < size p.lattice.algebra
bottom_within plan v p t are good = base_within plan v p t false are good

pub stutter_within : (plan : MapValue) (v : ℕ) (p : Viewpoint) (t : Tables) → AreTables plan v p t → IsGood p.lattice → t.stutter < size p.lattice.algebra
stutter_within plan v p t are good = base_within plan v p t true are good

-- the stutter value that is joined of the words of the map
pub stutter_is_joined : (l : LatticeValue) (words : List (List ℕ)) → IsGood l → list_all (is_among l.names) words ≡ true → joined (product (l.algebra ∷ [])) (map (place_of l.names) words) ≡ join_named l.algebra.order l.names words
stutter_is_joined l words good known =
    joined_is_bound l.algebra (map (place_of l.names) words) good.lawful good.some (subst (λ (n : ℕ). AreElements n (map (place_of l.names) words)) good.named (known_are l.names words known))

-- The lines of a lattice, one after another.
use Rattle.std.proofs.Common.{◌≡◌, ℕ, ◌+◌, Bool, true, false, List, [], ◌∷◌, ◌++◌, map, append_assoc, append-nil, refl, ap, sym, ◌∙◌, arith}
use Rattle.std.specs.Prelude.{filter, codes}
use Rattle.std.specs.List.{flat_map, range_with_len}
use Rattle.std.proofs.lemmas.Grind.{flat_map-append}
use Rattle.std.proofs.lemmas.List.{map-append, map-id}
use Rattle.std.proofs.lemmas.List.Elements.{filter-append}
use Rattle.std.proofs.lemmas.List.FromFn.{map-range_with_len_more}
use Rattle.xc_theory.specs.Orders.{elements}
use Rattle.xc_base.specs.Canonical.{canonical}
use Rattle.xc_base.proofs.SpacedTokens.{canonical-append, no_lines, more_lines}
use Rattle.xc_base.specs.Names.{name_at}
use Rattle.xc_lattice.specs.declared.statement.Statement.{Statement}
use Rattle.xc_lattice.specs.declared.statement.Statement.TheVariants.{Below}
use Rattle.xc_lattice.specs.LatticeFiles.{LatticeValue, spelling}
use Rattle.xc_lattice.specs.Printed.{is_strictly_below, below_statements, not_statements, lattice_lines}

-- the numbers up to one more
pub range_more : (n : ℕ) → range_with_len 0 (n + 1) ≡ range_with_len 0 n ++ n ∷ []
range_more n = sym (map-id (range_with_len 0 (n + 1))) ∙ (map-range_with_len_more (λ (k : ℕ). k) 0 n n (omega arith) ∙ ap (λ (xs : List ℕ). xs ++ n ∷ []) (map-id (range_with_len 0 n)))

-- what is said of elements behind elements
below_both : (v : LatticeValue) (a : ℕ) (xs ys : List ℕ) → map spelling (below_statements v a (xs ++ ys)) ≡ map spelling (below_statements v a xs) ++ map spelling (below_statements v a ys)
below_both v a xs ys = rw (filter-append (is_strictly_below v.algebra a) xs ys) (simp map-append)

not_both : (v : LatticeValue) (xs ys : List ℕ) → map spelling (not_statements v (xs ++ ys)) ≡ map spelling (not_statements v xs) ++ map spelling (not_statements v ys)
not_both v xs ys = simp map-append

order_both : (F : ℕ → List Statement) (xs ys : List ℕ) → map spelling (flat_map F (xs ++ ys)) ≡ map spelling (flat_map F xs) ++ map spelling (flat_map F ys)
order_both F xs ys = rw (flat_map-append F xs ys) (map-append spelling (flat_map F xs) (flat_map F ys))

order_one : (F : ℕ → List Statement) (a : ℕ) → flat_map F (a ∷ []) ≡ F a
order_one F a = append-nil (F a)

-- one element more
pub below_more : (old text next : List ℕ) (v : LatticeValue) (a b : ℕ) → text ≡ old ++ canonical (map spelling (below_statements v a (range_with_len 0 b)))
    → next ≡ text ++ canonical (map spelling (below_statements v a (b ∷ []))) → next ≡ old ++ canonical (map spelling (below_statements v a (range_with_len 0 (b + 1))))
below_more old text next v a b e f =
    more_lines old text next _ _ _ e f (ap (λ (xs : List ℕ). map spelling (below_statements v a xs)) (range_more b) ∙ below_both v a (range_with_len 0 b) (b ∷ []))

pub not_more : (old text next : List ℕ) (v : LatticeValue) (a : ℕ) → text ≡ old ++ canonical (map spelling (not_statements v (range_with_len 0 a)))
    → next ≡ text ++ canonical (map spelling (not_statements v (a ∷ []))) → next ≡ old ++ canonical (map spelling (not_statements v (range_with_len 0 (a + 1))))
not_more old text next v a e f =
    more_lines old text next _ _ _ e f (ap (λ (xs : List ℕ). map spelling (not_statements v xs)) (range_more a) ∙ not_both v (range_with_len 0 a) (a ∷ []))

pub order_more : (old text next : List ℕ) (v : LatticeValue) (a : ℕ) → text ≡ old ++ canonical (map spelling (flat_map (λ a. below_statements v a (elements v.algebra.order)) (range_with_len 0 a)))
    → next ≡ text ++ canonical (map spelling (below_statements v a (elements v.algebra.order)))
    → next ≡ old ++ canonical (map spelling (flat_map (λ a. below_statements v a (elements v.algebra.order)) (range_with_len 0 (a + 1))))
order_more old text next v a e f =
    let F : ℕ → List Statement = λ a. below_statements v a (elements v.algebra.order) in
    more_lines old text next _ _ _ e f
    (ap (λ (xs : List ℕ). map spelling (flat_map F xs)) (range_more a) ∙ (order_both F (range_with_len 0 a) (a ∷ []) ∙ ap (λ (ss : List Statement). map spelling (flat_map F (range_with_len 0 a)) ++ map spelling ss) (order_one F a)))

-- an element that is not strictly below another one, and one that is
pub pair_without : (text : List ℕ) (v : LatticeValue) (a b : ℕ) → is_strictly_below v.algebra a b ≡ false → text ≡ text ++ canonical (map spelling (below_statements v a (b ∷ [])))
pair_without text v a b h = without text (is_strictly_below v.algebra a) (λ (x : ℕ). Below (name_at v.names a) (name_at v.names x)) b h
  where
    without : (text : List ℕ) (p : ℕ → Bool) (f : ℕ → Statement) (b : ℕ) → p b ≡ false → text ≡ text ++ canonical (map spelling (map f (filter p (b ∷ []))))
    without text p f b h = rw h (no_lines text)

pub pair_with : (text next : List ℕ) (v : LatticeValue) (a b : ℕ) → is_strictly_below v.algebra a b ≡ true → next ≡ text ++ canonical ((codes "below" ∷ name_at v.names a ∷ name_at v.names b ∷ []) ∷ []) → next ≡ text ++ canonical (map spelling (below_statements v a (b ∷ [])))
pair_with text next v a b h e = e ∙ with text (is_strictly_below v.algebra a) (λ (x : ℕ). Below (name_at v.names a) (name_at v.names x)) b h
  where
    with : (text : List ℕ) (p : ℕ → Bool) (f : ℕ → Statement) (b : ℕ) → p b ≡ true → text ++ canonical (spelling (f b) ∷ []) ≡ text ++ canonical (map spelling (map f (filter p (b ∷ []))))
    with text p f b h = rw h refl

pub ruleset pair_steps = (pair_without, pair_with)

pub ruleset below_steps = (no_lines, below_more)

pub ruleset not_steps = (no_lines, not_more)

pub ruleset order_steps = (no_lines, order_more)

-- the name, the elements, the order and the negations make the whole
pub all_lines : (v : LatticeValue) → canonical (lattice_lines v) ≡ (([] ++ canonical ((codes "lattice" ∷ v.name ∷ []) ∷ [])) ++ canonical ((codes "elements" ∷ v.names) ∷ [])) ++ canonical (map spelling (flat_map (λ a. below_statements v a (elements v.algebra.order)) (elements v.algebra.order))) ++ canonical (map spelling (not_statements v (elements v.algebra.order)))
all_lines v =
    let order = flat_map (λ (a : ℕ). below_statements v a (elements v.algebra.order)) (elements v.algebra.order) in
    let nots = not_statements v (elements v.algebra.order) in
    let head : List (List (List ℕ)) = (codes "lattice" ∷ v.name ∷ []) ∷ [] in
    let names : List (List (List ℕ)) = (codes "elements" ∷ v.names) ∷ [] in
    ap (λ (more : List (List (List ℕ))). canonical (head ++ (names ++ more))) (map-append spelling order nots)
    ∙ (canonical-append head (names ++ (map spelling order ++ map spelling nots))
    ∙ (ap (λ (t : List ℕ). canonical head ++ t) (canonical-append names (map spelling order ++ map spelling nots) ∙ ap (λ (t : List ℕ). canonical names ++ t) (canonical-append (map spelling order) (map spelling nots)))
    ∙ sym (append_assoc (canonical head ++ canonical names) (canonical (map spelling order)) (canonical (map spelling nots)) ∙ append_assoc (canonical head) (canonical names) (canonical (map spelling order) ++ canonical (map spelling nots)))))

pub text_whole : (v : LatticeValue) (t0 t1 t2 t3 t4 : List ℕ) → t0 ≡ [] → t1 ≡ t0 ++ canonical ((codes "lattice" ∷ v.name ∷ []) ∷ []) → t2 ≡ t1 ++ canonical ((codes "elements" ∷ v.names) ∷ [])
    → t3 ≡ t2 ++ canonical (map spelling (flat_map (λ a. below_statements v a (elements v.algebra.order)) (elements v.algebra.order)))
    → t4 ≡ t3 ++ canonical (map spelling (not_statements v (elements v.algebra.order))) → t4 ≡ canonical (lattice_lines v)
text_whole v t0 t1 t2 t3 t4 e0 e1 e2 e3 e4 = rw (e4, e3, e2, e1, e0) (sym (all_lines v))

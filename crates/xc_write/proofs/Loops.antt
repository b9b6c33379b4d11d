-- Loops over things that each have items.
use Rattle.std.proofs.Common.{◌≡◌, ℕ, zero, suc, ◌+◌, ◌<◌, ◌≤◌, List, ◌∷◌, [], ◌++◌, length, drop, take, get_or, Ok, Err, refl, sym, ◌∙◌, ap, subst, append-nil, append_assoc, arith}
use Rattle.std.proofs.lemmas.List.{take_all}
use Rattle.std.specs.List.{flat_map}
use Rattle.xc_base.specs.Sinks.{Sunk}
use Rattle.xc_course.specs.Items.{Item}
use Rattle.xc_lines.specs.declared.halt.Halt.{Halt}
use Rattle.xc_write.specs.Writing.{WritesOn}
use Rattle.xc_write.proofs.Writing.{nothing_on, then_on, stops_on}

module _ {X : Type 0} (f : X → List Item) where
  pub none_yet : (xs : List X) (old : Sunk) → WritesOn (flat_map f (take 0 xs)) old old (Ok tt)
  none_yet xs old = nothing_on old

  items_more : (xs : List X) (i : ℕ) (x : X) → i < length xs → x ≡ get_or xs i x → flat_map f (take (i + 1) xs) ≡ flat_map f (take i xs) ++ f x
  items_more [] i x low is = absurd (omega arith)
  items_more (y ∷ xs) zero x low is = rw is (append-nil (f y))
  items_more (y ∷ xs) (suc i) x low is = let e : suc i + 1 ≡ suc (i + 1) = omega arith in rw e (ap (λ (l : List Item). f y ++ l) (items_more xs i x (omega arith) is) ∙ sym (append_assoc (f y) (flat_map f (take i xs)) (f x)))

  items_split : (xs : List X) (i : ℕ) → flat_map f (take i xs) ++ flat_map f (drop i xs) ≡ flat_map f xs
  items_split [] zero = refl
  items_split [] (suc i) = refl
  items_split (y ∷ xs) zero = refl
  items_split (y ∷ xs) (suc i) = append_assoc (f y) (flat_map f (take i xs)) (flat_map f (drop i xs)) ∙ ap (λ (l : List Item). f y ++ l) (items_split xs i)

  pub one_more : (xs : List X) (i : ℕ) (x : X) (old mid new : Sunk) (u : Unit {0}) → WritesOn (flat_map f (take i xs)) old mid (Ok tt) → WritesOn (f x) mid new (Ok u) → i < length xs → x ≡ get_or xs i x → WritesOn (flat_map f (take (i + 1) xs)) old new (Ok tt)
  one_more xs i x old mid new u so_far h low is = subst (λ (items : List Item). WritesOn items old new (Ok tt)) (sym (items_more xs i x low is)) (then_on (flat_map f (take i xs)) (f x) old mid new tt (Ok tt) so_far h)

  pub one_stops : (xs : List X) (i : ℕ) (x : X) (old mid new : Sunk) (halt : Halt) → WritesOn (flat_map f (take i xs)) old mid (Ok tt) → WritesOn (f x) mid new (Err halt) → i < length xs → x ≡ get_or xs i x → WritesOn (flat_map f xs) old new (Err halt)
  one_stops xs i x old mid new halt so_far h low is =
      subst (λ (items : List Item). WritesOn items old new (Err halt)) (items_split xs (i + 1))
      (stops_on (flat_map f (take (i + 1) xs)) (flat_map f (drop (i + 1) xs)) old new halt
      (subst (λ (items : List Item). WritesOn items old new (Err halt)) (sym (items_more xs i x low is)) (then_on (flat_map f (take i xs)) (f x) old mid new tt (Err halt) so_far h)))

  pub all_done : (xs : List X) (i : ℕ) (old new : Sunk) → length xs ≤ i → WritesOn (flat_map f (take i xs)) old new (Ok tt) → WritesOn (flat_map f xs) old new (Ok tt)
  all_done xs i old new past h = subst (λ (l : List X). WritesOn (flat_map f l) old new (Ok tt)) (take_all i xs past) h

-- What a sink gets of items: parts of their texts, and texts behind those that were added before.
use Rattle.std.proofs.Common.{◌≡◌, ℕ, zero, suc, ◌+◌, ◌-◌, ◌<◌, List, [], ◌∷◌, ◌++◌, length, take, Option, Some, None, inl, inr, refl, sym, ◌∙◌, ap, append-nil, append_assoc, arith}
use Rattle.std.proofs.Math.Seq.{take-append-add}
use Rattle.xc_base.specs.Fronts.{IsFront}
use Rattle.xc_base.specs.Sinks.{AddsWhole, AddsPart}
use Rattle.xc_course.specs.Items.{Item, IsProperPrefix, IsTextOf, IsPart, IsPartOrReply, Adds}
use Rattle.xc_course.specs.Items.IsReply.{none, more}
use Rattle.xc_course.specs.Items.IsPart.{nothing, part, whole}

-- a text that is cut where it goes on
proper_at : (n : ℕ) (text : List ℕ) → n < length text → IsProperPrefix text (take n text)
proper_at zero [] h = absurd (omega arith)
proper_at zero (x ∷ xs) h = record { next = x; rest = xs; is = refl }
proper_at (suc n) [] h = absurd (omega arith)
proper_at (suc n) (x ∷ xs) h = let r = proper_at n xs (omega arith) in record { next = r.next; rest = r.rest; is = ap (λ (l : List ℕ). x ∷ l) r.is }

-- what was added of a text that was not written whole
prefix_added : (text old new : List ℕ) → IsFront text old new → length new < length old + length text → (prefix : List ℕ) × IsProperPrefix text prefix × (new ≡ old ++ prefix)
prefix_added text old new f short =
    let n : ℕ = length new - length old in
    let e : length new ≡ length old + n = omega (arith, f.keeps) in
    (take n text, proper_at n text (omega (arith, f.keeps)), f.front ∙ ap (λ (k : ℕ). take k (old ++ text)) e ∙ take-append-add old text n)

-- a part of an item's text is a part of the items
pub part_added : (item : Item) (items : List Item) (text : List ℕ) (old new : Option (List ℕ)) → IsTextOf item text → AddsPart text old new → Adds (IsPart (item ∷ items)) old new
part_added item items text None new is h = h
part_added item items text (Some old) None is h = absurd h
part_added item items text (Some old) (Some new) is h =
    let f = prefix_added text old new h.0 h.1 in
    (f.0, part text is f.1, ap (λ (l : List ℕ). Some l) f.2)

pub adds_by : (P Q : List ℕ → Type 0) (old new : Option (List ℕ)) → ((t : List ℕ) → P t → Q t) → Adds P old new → Adds Q old new
adds_by P Q None new f h = h
adds_by P Q (Some old) new f h = (h.0, f h.0 h.1, h.2)

-- a text that was added whole, and what was added behind it
pub added_behind : (P Q : List ℕ → Type 0) (first : List ℕ) (old mid new : Option (List ℕ)) → ((t : List ℕ) → P t → Q (first ++ t)) → AddsWhole first old mid → Adds P mid new → Adds Q old new
added_behind P Q first None None new f put h = h
added_behind P Q first None (Some mid) new f put h = cc
added_behind P Q first (Some old) None new f put h = cc
added_behind P Q first (Some old) (Some mid) new f put h =
    let e : mid ≡ old ++ first = cc in
    (first ++ h.0, f h.0 h.1, h.2 ∙ ap (λ (l : List ℕ). Some l) (ap (λ (l : List ℕ). l ++ h.0) e ∙ append_assoc old first h.0))

-- where nothing was added
pub nothing_added : (P : List ℕ → Type 0) (old : Option (List ℕ)) → P [] → Adds P old old
nothing_added P None h = refl
nothing_added P (Some old) h = ([], h, ap (λ (l : List ℕ). Some l) (sym (append-nil old)))

pub nothing_of : (items : List Item) → IsPartOrReply items []
nothing_of [] = inr none
nothing_of (item ∷ items) = inl nothing

-- one item more, before what stands of the others
pub part_more : (item : Item) (items : List Item) (first rest : List ℕ) → IsTextOf item first → IsPartOrReply items rest → IsPartOrReply (item ∷ items) (first ++ rest)
part_more item items first rest is (inl h) = inl (whole first rest is h)
part_more item items first rest is (inr h) = inr (more first rest is h)

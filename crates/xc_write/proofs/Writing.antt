-- What the writing of items one after another comes to.
use Rattle.std.proofs.Common.{◌≡◌, ℕ, List, [], ◌∷◌, ◌++◌, Result, Ok, Err, inl, refl, sym, ◌∙◌, subst, append-nil, append_assoc}
use Rattle.std.specs.Result.{IsErrAnd}
use Rattle.xc_base.specs.Shelves.{HasRisen}
use Rattle.xc_base.specs.Sinks.{Sunk, AddsWhole, IsCalm}
use Rattle.xc_course.specs.Items.{Item, IsTextOf, IsReply, IsPart, IsPartOrReply}
use Rattle.xc_course.specs.Items.IsReply.{none, more}
use Rattle.xc_course.specs.Items.IsPart.{whole}
use Rattle.xc_lines.specs.declared.halt.Halt.{Halt}
use Rattle.xc_lines.specs.declared.halt.Halt.TheVariants.{Words, Refused, ReadFault, WriteFault, Memory}
use Rattle.xc_write.specs.Writing.{CameOn, Writes, WritesOn, IsPut}
use Rattle.xc_write.proofs.Parts.{part_added, adds_by, added_behind, nothing_added, nothing_of, part_more}

risen_after : (a b c : ℕ) → b ≡ a → HasRisen b c → HasRisen a c
risen_after a b c e h = subst (λ (n : ℕ). HasRisen n c) e h

-- an item that was written whole, and what became of the others
module _ (item : Item) (items : List Item) (text : List ℕ) (old mid new : Sunk) (is : IsTextOf item text) (put : AddsWhole text old.bytes mid.bytes) (calm : IsCalm old mid) where
  written_behind : (result : Result (Unit {0}) Halt) → Writes items mid new result → Writes (item ∷ items) old new result
  written_behind (Ok x) h = record {
    came = (
      added_behind (IsReply items) (IsReply (item ∷ items)) text old.bytes mid.bytes new.bytes (λ t r. more text t is r) put h.came.0,
      record { faults = h.came.1.faults ∙ calm.faults; wants = h.came.1.wants ∙ calm.wants },
    );
  }
  written_behind (Err WriteFault) h = record {
    came = (
      risen_after old.faults mid.faults new.faults calm.faults h.came.0,
      added_behind (IsPart items) (IsPart (item ∷ items)) text old.bytes mid.bytes new.bytes (λ t r. whole text t is r) put h.came.1,
    );
  }
  written_behind (Err Memory) h = record {
    came = (
      added_behind (IsPartOrReply items) (IsPartOrReply (item ∷ items)) text old.bytes mid.bytes new.bytes (λ t r. part_more item items text t is r) put h.came.0,
      h.came.1 ∙ calm.faults,
    );
  }
  written_behind (Err Words) h = absurd h.came
  written_behind (Err (Refused line)) h = absurd h.came
  written_behind (Err (ReadFault line)) h = absurd h.came

-- where memory ran out, nothing was written
unwritten : (items : List Item) (old : Sunk) → Writes items old old (Err Memory)
unwritten items old = record { came = (nothing_added (IsPartOrReply items) old.bytes (nothing_of items), refl) }

-- no item is left
all_written : (old : Sunk) → Writes [] old old (Ok tt)
all_written old = record { came = (nothing_added (IsReply []) old.bytes none, record { faults = refl; wants = refl }) }

-- the putting of an item's text is the writing of the item
item_on : (item : Item) (text : List ℕ) (old now : Sunk) (result : Result (Unit {0}) Halt) → IsTextOf item text → IsPut text old now result → CameOn (item ∷ []) old now result
item_on item text old now (Ok x) is h = λ items new result r. written_behind item items text old now new is h.0 h.1 result r
item_on item text old now (Err WriteFault) is h = λ items. record { came = (h.0, part_added item items text old.bytes now.bytes is h.1) }
item_on item text old now (Err Memory) is h = λ items. record {
  came = (adds_by (IsPart (item ∷ items)) (IsPartOrReply (item ∷ items)) old.bytes now.bytes (λ t b. inl b) (part_added item items text old.bytes now.bytes is h.0), h.1);
}
item_on item text old now (Err Words) is h = absurd h
item_on item text old now (Err (Refused line)) is h = absurd h
item_on item text old now (Err (ReadFault line)) is h = absurd h

pub put_on : (item : Item) (text : List ℕ) (old now : Sunk) (result : Result (Unit {0}) Halt) → IsPut text old now result → IsTextOf item text → WritesOn (item ∷ []) old now result
put_on item text old now result h is = record { came = item_on item text old now result is h }

-- where memory ran out before the text of an item was made
pub unmade : (first : List Item) (old : Sunk) → WritesOn first old old (Err Memory)
unmade first old = record { came = λ others. unwritten (first ++ others) old }

-- nothing was to be written
pub nothing_on : (now : Sunk) → WritesOn [] now now (Ok tt)
nothing_on now = record { came = λ others after r w. w }

-- items behind others that were written whole
pub then_on : (xs ys : List Item) (old mid new : Sunk) (x : Unit {0}) (result : Result (Unit {0}) Halt) → WritesOn xs old mid (Ok x) → WritesOn ys mid new result → WritesOn (xs ++ ys) old new result
then_on xs ys old mid new x (Ok y) h k = record { came = λ others after r w. subst (λ (items : List Item). Writes items old after r) (sym (append_assoc xs ys others)) (h.came (ys ++ others) after r (k.came others after r w)) }
then_on xs ys old mid new x (Err halt) h k = record { came = λ others. subst (λ (items : List Item). Writes items old new (Err halt)) (sym (append_assoc xs ys others)) (h.came (ys ++ others) new (Err halt) (k.came others)) }

-- items behind others that were not
pub stops_on : (xs ys : List Item) (old new : Sunk) (halt : Halt) → WritesOn xs old new (Err halt) → WritesOn (xs ++ ys) old new (Err halt)
stops_on xs ys old new halt h = record { came = λ others. subst (λ (items : List Item). Writes items old new (Err halt)) (sym (append_assoc xs ys others)) (h.came (ys ++ others)) }

-- what was written of all items, behind which there is none
pub written : (items : List Item) (old new : Sunk) (result : Result (Unit {0}) Halt) → WritesOn items old new result → Writes items old new result
written items old new (Ok x) h = subst (λ (all : List Item). Writes all old new (Ok x)) (append-nil items) (h.came [] new (Ok x) (all_written new))
written items old new (Err halt) h = subst (λ (all : List Item). Writes all old new (Err halt)) (append-nil items) (h.came [])

-- what `?` passes on
pub passed : (items : List Item) (old new : Sunk) (result : Result (Unit {0}) Halt) (halt : Halt) → IsErrAnd result (λ e. e ≡ halt) → WritesOn items old new (Err halt) → WritesOn items old new result
passed items old new (Ok x) halt is h = absurd is
passed items old new (Err e) halt is h = subst (λ (x : Halt). WritesOn items old new (Err x)) (sym is) h

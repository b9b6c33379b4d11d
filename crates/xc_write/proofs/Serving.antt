-- A request that is served by writing its items.
use Rattle.std.proofs.Common.{◌≡◌, ℕ, List, [], ◌∷◌, Result, Ok, Err, inl, inr, refl, subst}
use Rattle.xc_base.specs.Shelves.{Shelved}
use Rattle.xc_base.specs.Sinks.{Sunk}
use Rattle.xc_course.specs.Courses.{Served, IsServed}
use Rattle.xc_course.specs.Items.{Item, Fixed, IsTextOf, GetsAll, GetsPart, GetsPartOrAll}
use Rattle.xc_course.specs.Trees.{Serve, Happens}
use Rattle.xc_course.specs.Works.{EndsSo, WorksAlways}
use Rattle.xc_course.proofs.Working.{ends_always, same_told}
use Rattle.xc_lines.specs.Halts.{passed_status}
use Rattle.xc_lines.specs.declared.halt.Halt.{Halt}
use Rattle.xc_lines.specs.declared.halt.Halt.TheVariants.{Words, Refused, ReadFault, WriteFault, Memory}
use Rattle.xc_lines.specs.declared.passed.Passed.{Passed}
use Rattle.xc_lines.specs.declared.status.Status.{Status}
use Rattle.xc_write.specs.Writing.{Writes, WritesOn, IsPut}
use Rattle.xc_write.proofs.Writing.{put_on, written}

-- the course of what is served ends with it, whatever the loads find
serves : (status : Status) (items : List Item) (now : Shelved) (P : Status → List Item → Type 0) → P status items → EndsSo (Happens (Serve status items)) now (IsServed P)
serves status items now P h = record { outcome = Served status items; ends = ends_always (Happens (Serve status items)) now (Served status items) (λ m. refl); holds = h }

-- all items were written
pub served : (passed : Passed) (items : List Item) (old new : Sunk) (x : Unit {0}) → WritesOn items old new (Ok x) → WorksAlways (Serve (passed_status passed) items) old new (Ok passed)
served passed items old new x h = λ now.
    let w = written items old new (Ok x) h in
    record {
      came = (serves (passed_status passed) items now (λ status all. (status ≡ passed_status passed) × GetsAll old new all) (refl, w.came.0), w.came.1);
      kept = refl;
      files = same_told now.told;
    }

-- the writing stopped
stopped : (status : Status) (items : List Item) (old new : Sunk) (halt : Halt) → Writes items old new (Err halt) → WorksAlways (Serve status items) old new (Err halt)
stopped status items old new WriteFault w = λ now. record {
  came = (serves status items now (λ s all. GetsPart old new all) w.came.1, w.came.0);
  kept = refl;
  files = same_told now.told;
}
stopped status items old new Memory w = λ now. record {
  came = (inl refl, inr (serves status items now (λ s all. GetsPartOrAll old new all) w.came.0), w.came.1);
  kept = tt;
  files = same_told now.told;
}
stopped status items old new Words w = absurd w.came
stopped status items old new (Refused line) w = absurd w.came
stopped status items old new (ReadFault line) w = absurd w.came

pub served_not : (status : Status) (items : List Item) (old new : Sunk) (halt : Halt) → WritesOn items old new (Err halt) → WorksAlways (Serve status items) old new (Err halt)
served_not status items old new halt h = stopped status items old new halt (written items old new (Err halt) h)

-- the same of one item, whose text was put
pub item_served : (passed : Passed) (item : Item) (text : List ℕ) (old new : Sunk) (x : Unit {0}) → IsPut text old new (Ok x) → IsTextOf item text → WorksAlways (Serve (passed_status passed) (item ∷ [])) old new (Ok passed)
item_served passed item text old new x h is = served passed (item ∷ []) old new x (put_on item text old new (Ok x) h is)

pub item_stopped : (status : Status) (item : Item) (text : List ℕ) (old new : Sunk) (halt : Halt) → IsPut text old new (Err halt) → IsTextOf item text → WorksAlways (Serve status (item ∷ [])) old new (Err halt)
item_stopped status item text old new halt h is = served_not status (item ∷ []) old new halt (put_on item text old new (Err halt) h is)

-- a text by what it is
pub fixed_as : (status : Status) (text told : List ℕ) → text ≡ told → (old new : Sunk) (result : Result Passed Halt) → WorksAlways (Serve status (Fixed text ∷ [])) old new result → WorksAlways (Serve status (Fixed told ∷ [])) old new result
fixed_as status text told is old new result h = subst (λ (t : List ℕ). WorksAlways (Serve status (Fixed t ∷ [])) old new result) is h

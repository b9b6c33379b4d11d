-- What the writing of items does to a sink. No clause of `run` rests on these words.
use Rattle.std.specs.Prelude.{◌≡◌, ℕ, List, ◌++◌, Result, Ok, Err}
use Rattle.xc_base.specs.Shelves.{HasRisen}
use Rattle.xc_base.specs.Sinks.{Sunk, AddsWhole, AddsPart, IsCalm}
use Rattle.xc_course.specs.Items.{Item, IsReply, IsPart, IsPartOrReply, Adds}
use Rattle.xc_lines.specs.declared.halt.Halt.{Halt}
use Rattle.xc_lines.specs.declared.halt.Halt.TheVariants.{Words, Refused, ReadFault, WriteFault, Memory}

-- what the writing of these items came to
abbrev pub CameToItems : List Item → Sunk → Sunk → Result (Unit {0}) Halt → Type 0
CameToItems items old new (Ok x) = Adds (IsReply items) old.bytes new.bytes × IsCalm old new
CameToItems items old new (Err WriteFault) = HasRisen old.faults new.faults × Adds (IsPart items) old.bytes new.bytes
CameToItems items old new (Err Memory) = Adds (IsPartOrReply items) old.bytes new.bytes × (new.faults ≡ old.faults)
CameToItems _ _ _ _ = ⊥

-- the same as a record, whose arguments a tactic can find
pub record Writes (items : List Item) (old new : Sunk) (result : Result (Unit {0}) Halt) : Type 0 where
  pub came : CameToItems items old new result

-- What the writing of the first items came to: where they were written whole, what becomes of the others becomes of all; and else that
-- is what became of all, whatever the others are.
abbrev pub CameOn : List Item → Sunk → Sunk → Result (Unit {0}) Halt → Type 0
CameOn first old now (Ok x) = (others : List Item) (new : Sunk) (result : Result (Unit {0}) Halt) → Writes others now new result → Writes (first ++ others) old new result
CameOn first old now (Err halt) = (others : List Item) → Writes (first ++ others) old now (Err halt)

-- the same as a record
pub record WritesOn (first : List Item) (old now : Sunk) (result : Result (Unit {0}) Halt) : Type 0 where
  pub came : CameOn first old now result

-- what the putting of one text came to
abbrev pub IsPut : List ℕ → Sunk → Sunk → Result (Unit {0}) Halt → Type 0
IsPut text old new (Ok x) = AddsWhole text old.bytes new.bytes × IsCalm old new
IsPut text old new (Err WriteFault) = HasRisen old.faults new.faults × AddsPart text old.bytes new.bytes
IsPut text old new (Err Memory) = AddsPart text old.bytes new.bytes × (new.faults ≡ old.faults)
IsPut _ _ _ _ = ⊥

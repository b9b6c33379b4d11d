-- What is known of a sink of bytes, and what writing does to it.
use Rattle.std.specs.Prelude.{◌≡◌, ◌<◌, ℕ, ◌+◌, List, [], ◌++◌, take, length, Option, Some, None, option_map, Result, Ok, Err}
use Rattle.xc_base.specs.Fronts.{IsFront}
use Rattle.xc_base.specs.Shelves.{raised}
use Rattle.xc_base.specs.declared.sink.SinkFault.{SinkFault}
use Rattle.xc_base.specs.declared.sink.SinkFault.TheVariants.{Failed, Memory}

-- A sink may tell the bytes that were written or not. It counts its faults, and how often it found no memory.
pub record Sunk : Type 0 where
  pub bytes : Option (List ℕ)
  pub faults : ℕ
  pub wants : ℕ

-- neither faults nor wants of memory were counted
pub record IsCalm (old new : Sunk) : Type 0 where
  pub faults : new.faults ≡ old.faults
  pub wants : new.wants ≡ old.wants

-- what a sink tells after a put of that piece, of which it took a front or nothing
abbrev pub written_after : Option (List ℕ) → List ℕ → Result ℕ SinkFault → Option (List ℕ)
written_after None piece result = None
written_after (Some bytes) piece (Ok k) = Some (bytes ++ take k piece)
written_after (Some bytes) piece (Err e) = Some bytes

-- where bytes are told: the whole text is added; a front of it that lacks something; a front of it, maybe all; nothing
abbrev pub AddsWhole : List ℕ → Option (List ℕ) → Option (List ℕ) → Type 0
AddsWhole text old new = new ≡ option_map (λ bytes. bytes ++ text) old

abbrev pub AddsPart : List ℕ → Option (List ℕ) → Option (List ℕ) → Type 0
AddsPart text None new = new ≡ None
AddsPart text (Some old) None = ⊥
AddsPart text (Some old) (Some new) = IsFront text old new × (length new < length old + length text)

abbrev pub AddsFront : List ℕ → Option (List ℕ) → Option (List ℕ) → Type 0
AddsFront text None new = new ≡ None
AddsFront text (Some old) None = ⊥
AddsFront text (Some old) (Some new) = IsFront text old new

abbrev pub AddsNothing : Option (List ℕ) → Option (List ℕ) → Type 0
AddsNothing old new = new ≡ old

-- where a writer's bytes are known: a front of the piece was appended, maybe all of it and maybe nothing
abbrev pub AppendsFront : List ℕ → Option (List ℕ) → Option (List ℕ) → Type 0
AppendsFront piece None new = Unit {0}
AppendsFront piece (Some old) None = ⊥
AppendsFront piece (Some old) (Some new) = IsFront piece old new

-- what a sink in memory holds: the bytes written; how many it takes at a time; the numbers of the calls that are to
-- fail; the number of the last call; and its two counts
pub record Held : Type 0 where
  pub bytes : List ℕ
  pub most : ℕ
  pub failing : List ℕ
  pub calls : ℕ
  pub faults : ℕ
  pub wants : ℕ

abbrev pub sunk : Held → Sunk
sunk held = record { bytes = Some held.bytes; faults = held.faults; wants = held.wants }

abbrev pub empty_sink : ℕ → Held
empty_sink most = record { bytes = []; most = most; failing = []; calls = 0; faults = 0; wants = 0 }

-- a sink in memory after a put of that piece
abbrev pub after_put : Held → List ℕ → Result ℕ SinkFault → Held
after_put held piece (Ok k) = record held { bytes = held.bytes ++ take k piece; calls = raised held.calls }
after_put held piece (Err Failed) = record held { faults = raised held.faults; calls = raised held.calls }
after_put held piece (Err Memory) = record held { wants = raised held.wants; calls = raised held.calls }

-- a sink that tells no bytes and never wanted memory
abbrev pub unseen : ℕ → Sunk
unseen faults = record { bytes = None; faults = faults; wants = 0 }

-- How what the work came to is carried on: to another course, to an earlier shelf, and past what stops it.
use Rattle.std.proofs.Common.{◌≡◌, refl, ℕ, ◌≤◌, Bool, ◌||◌, List, [], ◌∷◌, ◌++◌, Option, Some, None, Result, Ok, Err, IfSome, IfErr, true, sym, ◌∙◌, ap, subst, arith, inl, inr, ◌⊎◌, eqb, ltb}
use Rattle.std.specs.Result.{IsErrAnd}
use Rattle.std.specs.String.{string_bytes}
use Rattle.std.specs.declared.alloc.Global.{Global}
use Rattle.std.specs.declared.string.String.{String}
use Rattle.xc_base.specs.Shelves.{Told, Shelved, HasRisen, IsAbsentIfSteady}
use Rattle.xc_base.specs.Sinks.{Sunk, AddsNothing}
use Rattle.xc_base.specs.declared.shelf.File.{File}
use Rattle.xc_lines.specs.Halts.{passed_status}
use Rattle.xc_lines.specs.Texts.{read_line}
use Rattle.xc_lines.specs.declared.halt.Halt.{Halt}
use Rattle.xc_lines.specs.declared.halt.Halt.TheVariants.{Words, Refused, ReadFault, WriteFault, Memory}
use Rattle.xc_lines.specs.declared.passed.Passed.{Passed}
use Rattle.xc_course.specs.Courses.{Course, Event, Ends, Loading, Outcome, Refusal, always, IsServed}
use Rattle.xc_course.specs.Loads.{FailedOnce, KeepsOrFails, TellsSame}
use Rattle.xc_course.specs.Trees.{Tree, Refuse, Happens, Unless}
use Rattle.xc_course.specs.Works.{CameTo, EndsSo, EndsWith, LeavesOn, LeavesTold, Works}
use Rattle.xc_course.specs.Items.{GetsAll, GetsPart, GetsPartOrAll}

-- where each load finds nothing
abbrev pub some_moments : ℕ → List File
some_moments k = []

-- what holds for a shelf that tells its files
told_map : {P Q : Told → Type 0} (told : Option Told) → ((t : Told) → P t → Q t) → IfSome told P → IfSome told Q
told_map None f h = tt
told_map (Some t) f h = f t h

told_all : {P : Told → Type 0} (told : Option Told) → ((t : Told) → P t) → IfSome told P
told_all None f = tt
told_all (Some t) f = f t

-- an end whatever the loads find
pub ends_always : (P : Course) (shelf : Shelved) (o : Outcome) → ((m : ℕ → List File) → P m (Ends o)) → EndsWith P shelf o
ends_always P shelf o comes = (record { moments = some_moments; ended = comes some_moments }, told_all shelf.told (λ t. comes (always t.files)))

-- Where the ends of a course over a shelf are those of another over an earlier one, and so are its failed loads, what the one came to
-- the other came to.
module _
    (P Q : Course) (before shelf shelf_after : Shelved)
    (ends : (o : Outcome) → EndsWith P shelf o → EndsWith Q before o)
    (fails : (S : List ℕ → Type 0) → FailedOnce P shelf shelf_after S → FailedOnce Q before shelf_after S)
    (same : shelf_after.told ≡ shelf.told → shelf_after.told ≡ before.told)
    (risen : HasRisen shelf.faults shelf_after.faults → HasRisen before.faults shelf_after.faults)
  where
    ends_so : (S : Outcome → Type 0) → EndsSo P shelf S → EndsSo Q before S
    ends_so S h = record { outcome = h.outcome; ends = ends h.outcome h.ends; holds = h.holds }

    keeps : KeepsOrFails P shelf shelf_after → KeepsOrFails Q before shelf_after
    keeps (inl stays) = inl (same stays)
    keeps (inr h) = inr (fails (λ name. Unit {0}) h)

    wrote : (out out_after : Sunk) → (AddsNothing out.bytes out_after.bytes ⊎ EndsSo P shelf (IsServed (λ status items. GetsPartOrAll out out_after items)))
        → AddsNothing out.bytes out_after.bytes ⊎ EndsSo Q before (IsServed (λ status items. GetsPartOrAll out out_after items))
    wrote out out_after (inl none) = inl none
    wrote out out_after (inr h) = inr (ends_so (IsServed (λ status items. GetsPartOrAll out out_after items)) h)

    pub came_as : (out out_after : Sunk) (result : Result Passed Halt) → CameTo P shelf shelf_after out out_after result → CameTo Q before shelf_after out out_after result
    came_as out out_after (Ok passed) h = (ends_so (IsServed (λ status items. (status ≡ passed_status passed) × GetsAll out out_after items)) h.0, h.1)
    came_as out out_after (Err (Refused line)) h = (ends (Refusal (string_bytes line)) h.0, h.1)
    came_as out out_after (Err (ReadFault line)) h = (fails (λ name. string_bytes line ≡ read_line name) h.0, risen h.1, h.2)
    came_as out out_after (Err WriteFault) h = (ends_so (IsServed (λ status items. GetsPart out out_after items)) h.0, h.1)
    came_as out out_after (Err Memory) h = (keeps h.0, wrote out out_after h.1, h.2)
    came_as out out_after (Err Words) h = h

-- where one course is another
module _ (P Q : Course) (f : (m : ℕ → List File) (e : Event) → P m e → Q m e) (shelf shelf_after : Shelved) where
  ends_by : (o : Outcome) → EndsWith P shelf o → EndsWith Q shelf o
  ends_by o h = (record { moments = h.0.moments; ended = f h.0.moments (Ends o) h.0.ended }, told_map shelf.told (λ t. f (always t.files) (Ends o)) h.1)

  fails_by : (S : List ℕ → Type 0) → FailedOnce P shelf shelf_after S → FailedOnce Q shelf shelf_after S
  fails_by S h = record {
    name = h.name;
    moments = h.moments;
    reached = f h.moments (Loading h.name) h.reached;
    told = h.told;
    absent = h.absent;
    failed = told_map shelf.told (λ t both. (f (always t.files) (Loading h.name) both.0, both.1)) h.failed;
  }

  pub came_by : (out out_after : Sunk) (result : Result Passed Halt) → CameTo P shelf shelf_after out out_after result → CameTo Q shelf shelf_after out out_after result
  came_by out out_after result h = came_as P Q shelf shelf shelf_after ends_by fails_by (λ e. e) (λ r. r) out out_after result h

risen_on : (a b c : ℕ) → a ≤ b → HasRisen b c → HasRisen a c
risen_on a b c h r = risen_by (ltb b c) (eqb c 18446744073709551615) refl refl r where
  risen_by : (p q : Bool) → ltb b c ≡ p → eqb c 18446744073709551615 ≡ q → (p || q) ≡ true → HasRisen a c
  risen_by p q e f g = grind (arith)

-- over an earlier shelf that tells the same
module _ (P : Course) (before shelf shelf_after : Shelved) (same : shelf.told ≡ before.told) (counts : before.faults ≤ shelf.faults) where
  ends_before : (o : Outcome) → EndsWith P shelf o → EndsWith P before o
  ends_before o h = (h.0, subst (λ (told : Option Told). IfSome told (λ t. P (always t.files) (Ends o))) same h.1)

  fails_before : (S : List ℕ → Type 0) → FailedOnce P shelf shelf_after S → FailedOnce P before shelf_after S
  fails_before S h = record {
    name = h.name;
    moments = h.moments;
    reached = h.reached;
    told = h.told;
    absent = subst (λ (told : Option Told). IsAbsentIfSteady told h.name) same h.absent;
    failed = subst (λ (told : Option Told). IfSome told (λ t. P (always t.files) (Loading h.name) × (shelf_after.told ≡ Some (record t { failed = t.failed ++ h.name ∷ [] })))) same h.failed;
  }

  pub came_before : (out out_after : Sunk) (result : Result Passed Halt) → CameTo P shelf shelf_after out out_after result → CameTo P before shelf_after out out_after result
  came_before out out_after result h =
      came_as P P before shelf shelf_after ends_before fails_before (λ stays. stays ∙ same) (risen_on before.faults shelf.faults shelf_after.faults counts) out out_after result h

-- a shelf that tells what it told before
pub same_told : (told : Option Told) → TellsSame told told
same_told None = refl
same_told (Some told) = (refl, refl)

pub told_on : (old mid new : Option Told) → mid ≡ old → TellsSame mid new → TellsSame old new
told_on old mid new same h = subst (λ (told : Option Told). TellsSame told new) same h

pub kept_on : (old mid new : Option Told) (result : Result Passed Halt) → mid ≡ old → LeavesTold mid new result → LeavesTold old new result
kept_on old mid new result same h = subst (λ (told : Option Told). LeavesTold told new result) same h

-- a halt where what is told stays
pub halt_kept : (told : Option Told) (halt : Halt) → LeavesOn told told halt
halt_kept told Words = refl
halt_kept told (Refused line) = refl
halt_kept told WriteFault = refl
halt_kept told (ReadFault line) = tt
halt_kept told Memory = tt

-- a halt that `?` passes on
pub works_passed : (tree : Tree) (shelf shelf_after : Shelved) (out out_after : Sunk) (result : Result Passed Halt) (halt : Halt) → IsErrAnd result (λ e. e ≡ halt) → Works tree shelf shelf_after out out_after (Err halt) → Works tree shelf shelf_after out out_after result
works_passed tree shelf shelf_after out out_after (Ok passed) halt is h = absurd is
works_passed tree shelf shelf_after out out_after (Err e) halt is h = subst (λ (x : Halt). Works tree shelf shelf_after out out_after (Err x)) (sym is) h

-- the same of what is said of a halt
pub passed_on : {X : Type 0} (P : Halt → Type 0) (result : Result X Halt) (halt : Halt) → IsErrAnd result (λ e. e ≡ halt) → P halt → IfErr result P
passed_on P (Ok x) halt is h = tt
passed_on P (Err e) halt is h = subst P (sym is) h

-- memory runs out, wherever that is, before anything is written
pub wants : (tree : Tree) (now : Shelved) (out : Sunk) → Works tree now now out out (Err Memory)
wants tree now out = record { came = (inl refl, inl refl, refl); kept = tt; files = same_told now.told }

-- a refusal, whatever the loads find
pub refused_always : (tree : Tree) (now : Shelved) (out : Sunk) (line : String Global) → ((m : ℕ → List File) → Happens tree m (Ends (Refusal (string_bytes line)))) → Works tree now now out out (Err (Refused line))
refused_always tree now out line comes = record { came = (ends_always (Happens tree) now (Refusal (string_bytes line)) comes, refl); kept = refl; files = same_told now.told }

pub refuses : (told : List ℕ) (now : Shelved) (out : Sunk) (line : String Global) → string_bytes line ≡ told → Works (Refuse told) now now out out (Err (Refused line))
refuses told now out line is = refused_always (Refuse told) now out line (λ m. ap (λ l. Ends (Refusal l)) is)

-- where there is no line for a refusal the work goes on, and else the request is refused
pub goes_unless : (refusal : Option (List ℕ)) (next : Tree) (shelf shelf_after : Shelved) (out out_after : Sunk) (result : Result Passed Halt) → refusal ≡ None → Works next shelf shelf_after out out_after result → Works (Unless refusal next) shelf shelf_after out out_after result
goes_unless refusal next shelf shelf_after out out_after result none h = subst (λ (r : Option (List ℕ)). Works (Unless r next) shelf shelf_after out out_after result) (sym none) h

pub stops_unless : (refusal : Option (List ℕ)) (next : Tree) (told : List ℕ) (now : Shelved) (out : Sunk) (line : String Global) → refusal ≡ Some told → string_bytes line ≡ told → Works (Unless refusal next) now now out out (Err (Refused line))
stops_unless refusal next told now out line some is = subst (λ (r : Option (List ℕ)). Works (Unless r next) now now out out (Err (Refused line))) (sym some) (refuses told now out line is)

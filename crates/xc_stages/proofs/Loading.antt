-- What a load and a cut come to, and what comes behind them.
use Rattle.std.proofs.Common.{◌≡◌, refl, ℕ, zero, suc, ◌+◌, ◌<◌, ◌≤◌, List, [], ◌∷◌, ◌++◌, Option, Some, None, Result, Err, MatchOption, IfSome, cond, length, take, sym, ap, subst, arith, inl, inr, ◌⊎◌}
use Rattle.std.specs.Option.{option_map}
use Rattle.std.specs.String.{string_bytes}
use Rattle.std.proofs.lemmas.Bool.{lt-ltb}
use Rattle.std.proofs.lemmas.Bool.Decides.{leb_tells}
use Rattle.std.proofs.lemmas.List.{length-take, take_all}
use Rattle.xc_base.proofs.Naming.{bytes_refl}
use Rattle.xc_base.specs.Formats.{Row}
use Rattle.xc_base.specs.Lines.{text_rows}
use Rattle.xc_base.specs.Text.{text_fault, first_fault_from, lines_of}
use Rattle.xc_base.specs.declared.fault.TextFault.{TextFault}
use Rattle.xc_base.specs.declared.fault.TextFault.TheVariants.{LongFile}
use Rattle.xc_base.specs.Shelves.{Told, Shelved, IsLoaded, IsAbsentIfSteady, held}
use Rattle.xc_base.specs.Sinks.{Sunk}
use Rattle.xc_base.specs.declared.shelf.File.{File}
use Rattle.xc_lines.specs.Texts.{text_line}
use Rattle.xc_lines.specs.declared.halt.Halt.{Halt}
use Rattle.xc_lines.specs.declared.halt.Halt.TheVariants.{Words, Refused, ReadFault, WriteFault, Memory}
use Rattle.xc_lines.specs.declared.passed.Passed.{Passed}
use Rattle.xc_course.specs.Courses.{Course, Event, Ends, Loading, Outcome, Absent, Refusal, always, Cuts, Opens}
use Rattle.xc_course.specs.Loads.{FailedOnce, KeepsOrFails}
use Rattle.xc_course.specs.Works.{CameTo, EndsWith}
use Rattle.xc_course.proofs.Working.{some_moments, ends_always, came_as, came_by, came_before}
use Rattle.xc_stages.specs.Loaded.{AddsFailed, CountsOn, IsLoadHalt, IsUnread}

module _ (limit : ℕ) (name : List ℕ) (next : List Row → Course) where
  -- a cut of a text without a fault
  cut_by : (bytes : List ℕ) → text_fault limit bytes ≡ None → (m : ℕ → List File) (e : Event) → next (text_rows bytes) m e → Cuts limit name next bytes m e
  cut_by bytes sound m e h = subst (λ (fault : Option TextFault). MatchOption fault (next (text_rows bytes) m e) (λ f. e ≡ Ends (Refusal (text_line name f)))) (sym sound) h

  pub cut_goes_on : (bytes : List ℕ) (shelf shelf_after : Shelved) (out out_after : Sunk) (result : Result Passed Halt) → text_fault limit bytes ≡ None → CameTo (next (text_rows bytes)) shelf shelf_after out out_after result → CameTo (Cuts limit name next bytes) shelf shelf_after out out_after result
  cut_goes_on bytes shelf shelf_after out out_after result sound h = came_by (next (text_rows bytes)) (Cuts limit name next bytes) (cut_by bytes sound) shelf shelf_after out out_after result h

  -- nothing is found in a text
  unread_by : (P : List Row → List ℕ → Type 0) (bytes : List ℕ) (line : List ℕ) → ((m : ℕ → List File) → P (text_rows bytes) line → next (text_rows bytes) m (Ends (Refusal line))) → (fault : Option TextFault) → MatchOption fault (P (text_rows bytes) line) (λ f. line ≡ text_line name f)
      → (m : ℕ → List File) → MatchOption fault (next (text_rows bytes) m (Ends (Refusal line))) (λ f. Ends (Refusal line) ≡ Ends (Refusal (text_line name f)))
  unread_by P bytes line f None h m = f m h
  unread_by P bytes line f (Some fault) h m = ap (λ l. Ends (Refusal l)) h

  pub unread_came : (P : List Row → List ℕ → Type 0) (bytes : List ℕ) (now : Shelved) (out : Sunk) (halt : Halt) → ((line : List ℕ) (m : ℕ → List File) → P (text_rows bytes) line → next (text_rows bytes) m (Ends (Refusal line))) → IsUnread P limit name bytes halt → CameTo (Cuts limit name next bytes) now now out out (Err halt)
  unread_came P bytes now out (Refused line) f h = (ends_always (Cuts limit name next bytes) now (Refusal (string_bytes line)) (unread_by P bytes (string_bytes line) (f (string_bytes line)) (text_fault limit bytes) h), refl)
  unread_came P bytes now out Memory f h = (inl refl, inl refl, refl)
  unread_came P bytes now out Words f h = h
  unread_came P bytes now out (ReadFault line) f h = absurd h
  unread_came P bytes now out WriteFault f h = absurd h

-- a text that is too long
too_long : (limit : ℕ) (bytes : List ℕ) → limit < length bytes → text_fault limit bytes ≡ Some LongFile
too_long limit bytes h = ap (λ b. cond b (Some LongFile) (first_fault_from 1 (lines_of bytes))) (lt-ltb limit (length bytes) h)

order_of : (a b : ℕ) → (a < b) ⊎ (b ≤ a)
order_of a b = elim (leb_tells b a) [ inl h ↦ inr h.1 | inr h ↦ inl h.1 ]

-- a load
module _ (limit : ℕ) (name : List ℕ) (next : List Row → Course) where
  -- what comes of the first bytes of a file, one past the limit, comes of the file
  by_length : (file : List ℕ) (m : ℕ → List File) (e : Event) → ((limit < length file) ⊎ (length file ≤ limit)) → Cuts limit name next (take (limit + 1) file) m e → Cuts limit name next file m e
  by_length file m e (inl long) h =
      let prefix : limit < length (take (limit + 1) file) = rw length-take (omega arith) in
      let is : e ≡ Ends (Refusal (text_line name LongFile)) =
      subst (λ (f : Option TextFault). MatchOption f (next (text_rows (take (limit + 1) file)) m e) (λ t. e ≡ Ends (Refusal (text_line name t)))) (too_long limit (take (limit + 1) file) prefix) h in
      subst (λ (f : Option TextFault). MatchOption f (next (text_rows file) m e) (λ t. e ≡ Ends (Refusal (text_line name t)))) (sym (too_long limit file long)) is
  by_length file m e (inr short) h = subst (λ (bytes : List ℕ). Cuts limit name next bytes m e) (take_all (limit + 1) file (omega arith)) h

  prefix_on : (bytes : List ℕ) (found : Option (List ℕ)) (m : ℕ → List File) (e : Event) → option_map (take (limit + 1)) found ≡ Some bytes → Cuts limit name next bytes m e → MatchOption found (e ≡ Ends (Absent name)) (λ file. Cuts limit name next file m e)
  prefix_on bytes None m e is h = cc
  prefix_on bytes (Some file) m e is h =
      let prefix : bytes ≡ take (limit + 1) file = cc in
      by_length file m e (order_of limit (length file)) (subst (λ (b : List ℕ). Cuts limit name next b m e) prefix h)

  -- over the files that a shelf tells
  over_told : (told : Told) (bytes : List ℕ) (e : Event) → IsLoaded (Some told) name limit bytes → Cuts limit name next bytes (always told.files) e → Opens limit name next (always told.files) e
  over_told told bytes e loaded h = inr (prefix_on bytes (held told.files name) (always told.files) e loaded h)

  -- what the first load finds, and then what the others find
  abbrev pub onto : List File → (ℕ → List File) → ℕ → List File
  onto files m zero = files
  onto files m (suc k) = m k

  abbrev pub one_file : List ℕ → List File
  one_file bytes = record { name = name; bytes = bytes } ∷ []

  -- the bytes themselves may be what the load finds
  found_on : (bytes : List ℕ) (m : ℕ → List File) (e : Event) → Cuts limit name next bytes m e → Opens limit name next (onto (one_file bytes) m) e
  found_on bytes m e h =
      inr (subst (λ b. MatchOption (option_map (λ (f : File). f.bytes) (cond b (Some (record { name = name; bytes = bytes })) None)) (e ≡ Ends (Absent name)) (λ file. Cuts limit name next file m e)) (sym (bytes_refl name)) h)

  told_step : {P Q : Told → Type 0} (told : Option Told) (bytes : List ℕ) → IsLoaded told name limit bytes → ((t : Told) → IsLoaded (Some t) name limit bytes → P t → Q t) → IfSome told P → IfSome told Q
  told_step None bytes loaded f h = tt
  told_step (Some t) bytes loaded f h = f t loaded h

  -- what came of the bytes comes of the load
  module _ (bytes : List ℕ) (shelf shelf_after : Shelved) (loaded : IsLoaded shelf.told name limit bytes) where
    ends_on : (o : Outcome) → EndsWith (Cuts limit name next bytes) shelf o → EndsWith (Opens limit name next) shelf o
    ends_on o h = (
      record { moments = onto (one_file bytes) h.0.moments; ended = found_on bytes h.0.moments (Ends o) h.0.ended },
      told_step shelf.told bytes loaded (λ t l p. over_told t bytes (Ends o) l p) h.1,
    )

    fails_on : (S : List ℕ → Type 0) → FailedOnce (Cuts limit name next bytes) shelf shelf_after S → FailedOnce (Opens limit name next) shelf shelf_after S
    fails_on S h = record {
      name = h.name;
      moments = onto (one_file bytes) h.moments;
      reached = found_on bytes h.moments (Loading h.name) h.reached;
      told = h.told;
      absent = h.absent;
      failed = told_step shelf.told bytes loaded (λ t l both. (over_told t bytes (Loading h.name) l both.0, both.1)) h.failed;
    }

    on_shelf : (out out_after : Sunk) (result : Result Passed Halt) → CameTo (Cuts limit name next bytes) shelf shelf_after out out_after result → CameTo (Opens limit name next) shelf shelf_after out out_after result
    on_shelf out out_after result h = came_as (Cuts limit name next bytes) (Opens limit name next) shelf shelf shelf_after ends_on fails_on (λ e. e) (λ r. r) out out_after result h

  -- a load that gave bytes, and work that goes on with the shelf
  pub load_goes_on : (bytes : List ℕ) (before shelf shelf_after : Shelved) (out out_after : Sunk) (result : Result Passed Halt) → IsLoaded before.told name limit bytes → shelf.told ≡ before.told → CountsOn before shelf → CameTo (Cuts limit name next bytes) shelf shelf_after out out_after result → CameTo (Opens limit name next) before shelf_after out out_after result
  load_goes_on bytes before shelf shelf_after out out_after result loaded same counts h =
      on_shelf bytes before shelf_after loaded out out_after result (came_before (Cuts limit name next bytes) before shelf shelf_after same counts out out_after result h)

  one_more : (told told_after : Option Told) → told_after ≡ option_map (λ (t : Told). record t { failed = t.failed ++ name ∷ [] }) told
      → IfSome told (λ t. Opens limit name next (always t.files) (Loading name) × (told_after ≡ Some (record t { failed = t.failed ++ name ∷ [] })))
  one_more None told_after e = tt
  one_more (Some told) told_after e = (inl refl, e)

  failed_first : {S : List ℕ → Type 0} (shelf shelf_after : Shelved) → S name → AddsFailed name shelf shelf_after → IsAbsentIfSteady shelf.told name → FailedOnce (Opens limit name next) shelf shelf_after S
  failed_first shelf shelf_after holds told absent = record { name = name; moments = some_moments; reached = inl refl; told = holds; absent = absent; failed = one_more shelf.told shelf_after.told told }

  memory_first : (shelf shelf_after : Shelved) → (shelf_after.told ≡ shelf.told) ⊎ (AddsFailed name shelf shelf_after × IsAbsentIfSteady shelf.told name) → KeepsOrFails (Opens limit name next) shelf shelf_after
  memory_first shelf shelf_after (inl same) = inl same
  memory_first shelf shelf_after (inr told) = inr (failed_first shelf shelf_after tt told.0 told.1)

  -- a load that gave none
  pub load_halted : (shelf shelf_after : Shelved) (out : Sunk) (halt : Halt) → IsLoadHalt name shelf shelf_after halt → CameTo (Opens limit name next) shelf shelf_after out out (Err halt)
  load_halted shelf shelf_after out (ReadFault line) failed = (failed_first shelf shelf_after failed.named failed.told failed.absent, failed.counted, refl)
  load_halted shelf shelf_after out Memory failed = (memory_first shelf shelf_after failed, inl refl, refl)
  load_halted shelf shelf_after out Words failed = failed
  load_halted shelf shelf_after out (Refused line) failed = absurd failed
  load_halted shelf shelf_after out WriteFault failed = absurd failed

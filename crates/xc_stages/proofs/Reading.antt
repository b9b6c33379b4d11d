-- What is found in a text that is cut and read, and why nothing is.
use Rattle.std.proofs.Common.{◌≡◌, ℕ, List, Option, Some, None, Result, Ok, Err, IfOk, IfErr, MatchOption, sym, subst}
use Rattle.std.specs.Result.{IsErrAnd}
use Rattle.std.specs.String.{string_bytes}
use Rattle.xc_base.specs.Formats.{Row}
use Rattle.xc_base.specs.Lines.{text_rows}
use Rattle.xc_base.specs.Text.{text_fault}
use Rattle.xc_base.specs.declared.fault.TextFault.{TextFault}
use Rattle.xc_lines.specs.Texts.{text_line}
use Rattle.xc_lines.specs.declared.halt.Halt.{Halt}
use Rattle.xc_lines.specs.declared.halt.Halt.TheVariants.{Words, Refused, ReadFault, WriteFault, Memory}
use Rattle.xc_course.proofs.Working.{passed_on}
use Rattle.xc_stages.specs.Loaded.{IsCut, IsCutHalt, IsRead, IsRefusalHalt, IsUnread}

-- what is read of the rows of a text that is cut is read of the text
pub read_found : {T X : Type 0} (P : List Row → X → Type 0) (f : T → X) (limit : ℕ) (bytes : List ℕ) (rows : List Row) (result : Result T Halt) → IsCut limit bytes rows → IfOk result (λ t. P rows (f t)) → IfOk result (λ t. IsRead P limit bytes (f t))
read_found P f limit bytes rows (Ok t) cut h = record { sound = cut.sound; read = subst (λ (rs : List Row). P rs (f t)) cut.same h }
read_found P f limit bytes rows (Err halt) cut h = tt

-- rows of which nothing is read
unread_rows : (P : List Row → List ℕ → Type 0) (limit : ℕ) (name bytes : List ℕ) (rows : List Row) (halt : Halt) → IsCut limit bytes rows → IsRefusalHalt (P rows) halt → IsUnread P limit name bytes halt
unread_rows P limit name bytes rows (Refused line) cut h =
    subst (λ (fault : Option TextFault). MatchOption fault (P (text_rows bytes) (string_bytes line)) (λ f. string_bytes line ≡ text_line name f)) (sym cut.sound)
    (subst (λ (rs : List Row). P rs (string_bytes line)) cut.same h)
unread_rows P limit name bytes rows Memory cut h = tt
unread_rows P limit name bytes rows Words cut h = h
unread_rows P limit name bytes rows (ReadFault line) cut h = h
unread_rows P limit name bytes rows WriteFault cut h = h

pub not_found : {T : Type 0} (P : List Row → List ℕ → Type 0) (limit : ℕ) (name bytes : List ℕ) (rows : List Row) (result : Result T Halt) → IsCut limit bytes rows → IfErr result (IsRefusalHalt (P rows)) → IfErr result (IsUnread P limit name bytes)
not_found P limit name bytes rows (Ok t) cut h = tt
not_found P limit name bytes rows (Err halt) cut h = unread_rows P limit name bytes rows halt cut h

-- a text that is not cut
unread_text : (P : List Row → List ℕ → Type 0) (name bytes line : List ℕ) (fault : Option TextFault) → MatchOption fault ⊥ (λ f. line ≡ text_line name f) → MatchOption fault (P (text_rows bytes) line) (λ f. line ≡ text_line name f)
unread_text P name bytes line None h = absurd h
unread_text P name bytes line (Some fault) h = h

uncut : (P : List Row → List ℕ → Type 0) (limit : ℕ) (name bytes : List ℕ) (halt : Halt) → IsCutHalt limit name bytes halt → IsUnread P limit name bytes halt
uncut P limit name bytes (Refused line) h = unread_text P name bytes (string_bytes line) (text_fault limit bytes) h
uncut P limit name bytes Memory h = tt
uncut P limit name bytes Words h = h
uncut P limit name bytes (ReadFault line) h = h
uncut P limit name bytes WriteFault h = h

pub not_cut : {T : Type 0} (P : List Row → List ℕ → Type 0) (limit : ℕ) (name bytes : List ℕ) (result : Result T Halt) (halt : Halt) → IsErrAnd result (λ e. e ≡ halt) → IsCutHalt limit name bytes halt → IfErr result (IsUnread P limit name bytes)
not_cut P limit name bytes result halt is h = passed_on (IsUnread P limit name bytes) result halt is (uncut P limit name bytes halt h)

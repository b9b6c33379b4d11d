-- What serving words comes to, from what the mode that they ask for came to.
use Rattle.std.proofs.Common.{◌≡◌, ℕ, List, [], ◌∷◌, Option, Some, None, Result, Ok, Err, MatchOption, IsSome, IfSome, append-nil, ◌⊎◌, inl, inr, refl, sym, ap, subst}
use Rattle.std.specs.Result.{IsErrAnd}
use Rattle.std.specs.String.{string_bytes}
use Rattle.xc_base.specs.Shelves.{Told, Shelved}
use Rattle.xc_base.specs.Sinks.{Sunk, AddsNothing}
use Rattle.xc_base.specs.declared.shelf.File.{File}
use Rattle.xc_words.specs.Requests.{request_of, Answers}
use Rattle.xc_words.specs.declared.asked.Request.{Request}
use Rattle.xc_words.specs.declared.asked.Request.TheVariants.{Gen}
use Rattle.xc_words.specs.declared.fault.WordsFault.{WordsFault}
use Rattle.xc_words.specs.declared.fault.WordsFault.TheVariants as faults
use Rattle.xc_lines.specs.Halts.{words_halt, passed_status}
use Rattle.xc_lines.specs.Texts.{read_line}
use Rattle.xc_lines.specs.declared.halt.Halt.{Halt}
use Rattle.xc_lines.specs.declared.halt.Halt.TheVariants.{Words, Refused, ReadFault, WriteFault, Memory}
use Rattle.xc_lines.specs.declared.passed.Passed.{Passed}
use Rattle.xc_course.specs.Courses.{Outcome, Absent, Refusal, Served, Ends, Loading, always, IsRefusal, IsServed}
use Rattle.xc_course.specs.Items.{Item, IsPartOrReply, Adds, GetsAll, GetsPart, GetsPartOrAll}
use Rattle.xc_course.specs.Items.IsPart.{nothing}
use Rattle.xc_course.specs.Items.IsReply.{none as reply_none}
use Rattle.xc_course.specs.Loads.{FailedOnce, KeepsOrFails, TellsSame}
use Rattle.xc_course.specs.Trees.{Happens}
use Rattle.xc_course.specs.Works.{CameTo, EndsSo, EndsWith, Works, WorksAlways}
use Rattle.xc_course.proofs.Once.{tree_once}
use Rattle.xc_eval.specs.Checking.{GenTree}
use Rattle.xc_top.specs.Calls.{Comes, GetsAtMost}
use Rattle.xc_top.specs.Requests.{IsOutcome, course_of}
use Rattle.xc_top.specs.Serving.{IsWorked, Serves}

some_request : (found : Option Request) (request : Request) → Some request ≡ found → IsSome found
some_request None request e = cc
some_request (Some r) request e = refl

no_request : {P : Type 0} (found : Option Request) (request : Request) → Some request ≡ found → found ≡ None → P
no_request None request e n = cc
no_request (Some r) request e n = cc

-- nothing is a part of all items, or a text of none
none_of : (items : List Item) → IsPartOrReply items []
none_of [] = inr reply_none
none_of (item ∷ items) = inl nothing

adds_none : (items : List Item) (bytes : Option (List ℕ)) → Adds (IsPartOrReply items) bytes bytes
adds_none items None = refl
adds_none items (Some bytes) = ([], none_of items, ap Some (sym (append-nil bytes)))

at_most_none : (out out_after : Sunk) → AddsNothing out.bytes out_after.bytes → (outcome : Outcome) → GetsAtMost out out_after outcome
at_most_none out out_after e (Served status items) = subst (λ (bytes : Option (List ℕ)). Adds (IsPartOrReply items) out.bytes bytes) (sym e) (adds_none items out.bytes)
at_most_none out out_after e (Absent name) = e
at_most_none out out_after e (Refusal line) = e

at_most_part : (out out_after : Sunk) (outcome : Outcome) → IsServed (λ status items. GetsPartOrAll out out_after items) outcome → GetsAtMost out out_after outcome
at_most_part out out_after (Served status items) h = h
at_most_part out out_after (Absent name) h = absurd h
at_most_part out out_after (Refusal line) h = absurd h

for_all : (words : List (List ℕ)) (told : Option Told) (P : Outcome → Type 0) → ((o : Outcome) → P o) → IfSome told (λ t. (o : Outcome) → IsOutcome words t.files o → P o)
for_all words None P all = tt
for_all words (Some told) P all = λ o is. all o

same_told : (told : Option Told) → TellsSame told told
same_told None = refl
same_told (Some told) = (refl, refl)

-- where the words were not read, nothing was done
keeps_unasked : (shelf : Shelved) (found : Option Request) → MatchOption found (shelf.told ≡ shelf.told) (λ q. KeepsOrFails (Happens (course_of q)) shelf shelf)
keeps_unasked shelf None = refl
keeps_unasked shelf (Some request) = inl refl

not_asked : (words : List (List ℕ)) (shelf : Shelved) (out : Sunk) (fault : WordsFault) → Answers (request_of words) (Err fault) → Serves words shelf shelf out out (Err (words_halt fault))
not_asked words shelf out faults.Words none = record { worked = (none, refl); kept = refl; files = same_told shelf.told }
not_asked words shelf out faults.Memory none = record {
  worked = (for_all words shelf.told (GetsAtMost out out) (at_most_none out out refl), λ n. refl, keeps_unasked shelf (request_of words), inl refl, refl);
  kept = tt;
  files = same_told shelf.told;
}

-- what a request came to is what the words came to
module _ (words : List (List ℕ)) (request : Request) (e : Some request ≡ request_of words) where
  of_words : (P : Option Request → Type 0) → P (Some request) → P (request_of words)
  of_words P h = subst P e h

  -- what holds of the one outcome holds of the outcome
  settled : (told : Option Told) (outcome : Outcome) (P : Outcome → Type 0) → IfSome told (λ t. Happens (course_of request) (always t.files) (Ends outcome)) → P outcome → IfSome told (λ t. (o : Outcome) → IsOutcome words t.files o → P o)
  settled None outcome P happens holds = tt
  settled (Some told) outcome P happens holds =
      λ o is. subst P (tree_once (course_of request) (always told.files) outcome o happens (subst (λ (r : Option Request). MatchOption r ⊥ (λ q. Happens (course_of q) (always told.files) (Ends o))) (sym e) is)) holds

  comes : (shelf : Shelved) (outcome : Outcome) (P : Outcome → Type 0) → EndsWith (Happens (course_of request)) shelf outcome → P outcome → Comes words shelf P
  comes shelf outcome P ends holds = record {
    told = settled shelf.told outcome P ends.1 holds;
    may = record { moments = ends.0.moments; outcome = outcome; comes = of_words (λ r. MatchOption r ⊥ (λ q. Happens (course_of q) ends.0.moments (Ends outcome))) ends.0.ended; holds = holds };
  }

module _ (words : List (List ℕ)) (request : Request) (shelf shelf_after : Shelved) (out out_after : Sunk) (e : Some request ≡ request_of words) where
  comes_so : (P : Outcome → Type 0) → EndsSo (Happens (course_of request)) shelf P → Comes words shelf P
  comes_so P h = comes words request e shelf h.outcome P h.ends h.holds

  keeps_asked : KeepsOrFails (Happens (course_of request)) shelf shelf_after → MatchOption (request_of words) (shelf_after.told ≡ shelf.told) (λ q. KeepsOrFails (Happens (course_of q)) shelf shelf_after)
  keeps_asked h = of_words words request e (λ r. MatchOption r (shelf_after.told ≡ shelf.told) (λ q. KeepsOrFails (Happens (course_of q)) shelf shelf_after)) h

  came_asked : (result : Result Passed Halt) → CameTo (Happens (course_of request)) shelf shelf_after out out_after result → IsWorked words shelf shelf_after out out_after result
  came_asked (Ok passed) h = (some_request (request_of words) request e, comes_so (IsServed (λ status items. (status ≡ passed_status passed) × GetsAll out out_after items)) h.0, h.1)
  came_asked (Err Words) h = absurd h
  came_asked (Err (Refused line)) h = (some_request (request_of words) request e, comes words request e shelf (Refusal (string_bytes line)) (IsRefusal (λ l. string_bytes line ≡ l)) h.0 refl, h.1)
  came_asked (Err (ReadFault line)) h = (
    some_request (request_of words) request e,
    of_words words request e (λ r. MatchOption r ⊥ (λ q. FailedOnce (Happens (course_of q)) shelf shelf_after (λ name. string_bytes line ≡ read_line name))) h.0,
    h.1,
    h.2,
  )
  came_asked (Err WriteFault) h = (some_request (request_of words) request e, h.1, comes_so (IsServed (λ status items. GetsPart out out_after items)) h.0)
  came_asked (Err Memory) h = ran_out h.1 where
    ran_out : AddsNothing out.bytes out_after.bytes ⊎ EndsSo (Happens (course_of request)) shelf (IsServed (λ status items. GetsPartOrAll out out_after items)) → IsWorked words shelf shelf_after out out_after (Err Memory)
    ran_out (inl none) = (for_all words shelf.told (GetsAtMost out out_after) (at_most_none out out_after none), no_request (request_of words) request e, keeps_asked h.0, inl none, h.2)
    ran_out (inr some) = (settled words request e shelf.told some.outcome (GetsAtMost out out_after) some.ends.1 (at_most_part out out_after some.outcome some.holds), no_request (request_of words) request e, keeps_asked h.0, inr (comes_so (IsServed (λ status items. GetsPartOrAll out out_after items)) some).may, h.2)

pub asked : (words : List (List ℕ)) (request : Request) (shelf shelf_after : Shelved) (out out_after : Sunk) (result : Result Passed Halt) → request_of words ≡ Some request
    → Works (course_of request) shelf shelf_after out out_after result → Serves words shelf shelf_after out out_after result
asked words request shelf shelf_after out out_after result e h = record { worked = came_asked words request shelf shelf_after out out_after (sym e) result h.came; kept = h.kept; files = h.files }

-- a fault of the words, as `?` hands it on
pub unasked : (words : List (List ℕ)) (shelf : Shelved) (out : Sunk) (fault : WordsFault) (result : Result Passed Halt) → Answers (request_of words) (Err fault) → IsErrAnd result (λ e. e ≡ words_halt fault) → Serves words shelf shelf out out result
unasked words shelf out fault (Ok x) none is = absurd is
unasked words shelf out fault (Err other) none is = subst (λ (e : Halt). Serves words shelf shelf out out (Err e)) (sym is) (not_asked words shelf out fault none)

-- generated files, which no shelf is asked for
pub generated : (request : Request) (number size : ℕ) (now : Shelved) (out out_after : Sunk) (result : Result Passed Halt) → request ≡ Gen number size → WorksAlways (GenTree number size) out out_after result → Works (course_of request) now now out out_after result
generated request number size now out out_after result is works = subst (λ (r : Request). Works (course_of r) now now out out_after result) (sym is) (works now)

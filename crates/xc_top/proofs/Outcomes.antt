-- A request has one outcome over given files, and what is written of it one text.
use Rattle.std.proofs.Common.{◌≡◌, ◌∙◌, List, Option, Some, None, MatchOption, sym, subst}
use Rattle.xc_base.specs.declared.shelf.File.{File}
use Rattle.xc_words.specs.Requests.{request_of}
use Rattle.xc_words.specs.declared.asked.Request.{Request}
use Rattle.xc_course.specs.Courses.{Outcome, Served, Ends, always}
use Rattle.xc_course.specs.Trees.{Happens}
use Rattle.xc_course.proofs.Existence.{some_end}
use Rattle.xc_course.proofs.Once.{tree_once}
use Rattle.xc_top.specs.Laws.{RequestsHaveOutcomes, OutcomesAreUnique, OutcomesHaveTexts, TextsAreUnique}
use Rattle.xc_top.specs.Requests.{course_of}
use Rattle.xc_top.proofs.Texts.{one_reply}
use Rattle.xc_top.proofs.Worded.{IsWorded, course_worded}

pub requests_have_outcomes : RequestsHaveOutcomes
requests_have_outcomes words request files e =
    let end = some_end (course_of request) (always files) in
    (end.0, subst (λ (r : Option Request). MatchOption r ⊥ (λ q. Happens (course_of q) (always files) (Ends end.0))) (sym e) end.1)

outcome_once : (asked : Option Request) (files : List File) (o p : Outcome) → MatchOption asked ⊥ (λ q. Happens (course_of q) (always files) (Ends o)) → MatchOption asked ⊥ (λ q. Happens (course_of q) (always files) (Ends p)) → o ≡ p
outcome_once None files o p a b = absurd a
outcome_once (Some request) files o p a b = tree_once (course_of request) (always files) o p a b

pub outcomes_are_unique : OutcomesAreUnique
outcomes_are_unique words files o p a b = outcome_once (request_of words) files o p a b

outcome_worded : (asked : Option Request) (files : List File) (o : Outcome) → MatchOption asked ⊥ (λ q. Happens (course_of q) (always files) (Ends o)) → IsWorded o
outcome_worded None files o h = absurd h
outcome_worded (Some request) files o h = course_worded request (always files) o h

pub outcomes_have_texts : OutcomesHaveTexts
outcomes_have_texts words files status items h =
    let one = one_reply items (outcome_worded (request_of words) files (Served status items) h) in
    (one.text, one.holds)

pub texts_are_unique : TextsAreUnique
texts_are_unique words files status items text other h a b =
    let one = one_reply items (outcome_worded (request_of words) files (Served status items) h) in
    one.only text a ∙ sym (one.only other b)

-- That a request has one outcome over given files, and what is written of it one text, as statements that a public function carries.
use Rattle.std.specs.Prelude.{◌≡◌, ℕ, List, Some}
use Rattle.xc_base.specs.declared.shelf.File.{File}
use Rattle.xc_words.specs.Requests.{request_of}
use Rattle.xc_words.specs.declared.asked.Request.{Request}
use Rattle.xc_course.specs.Courses.{Outcome, Served}
use Rattle.xc_course.specs.Items.{Item, IsReply}
use Rattle.xc_lines.specs.declared.status.Status.{Status}
use Rattle.xc_top.specs.Requests.{IsOutcome}

-- words that are a request have an outcome over all files
abbrev pub RequestsHaveOutcomes : Type 0
RequestsHaveOutcomes = (words : List (List ℕ)) (request : Request) (files : List File) → request_of words ≡ Some request → (outcome : Outcome) × IsOutcome words files outcome

-- words have no two
abbrev pub OutcomesAreUnique : Type 0
OutcomesAreUnique = (words : List (List ℕ)) (files : List File) (outcome other : Outcome) → IsOutcome words files outcome → IsOutcome words files other → outcome ≡ other

-- the items of a served outcome have a text
abbrev pub OutcomesHaveTexts : Type 0
OutcomesHaveTexts = (words : List (List ℕ)) (files : List File) (status : Status) (items : List Item) → IsOutcome words files (Served status items) → (text : List ℕ) × IsReply items text

-- and no two
abbrev pub TextsAreUnique : Type 0
TextsAreUnique = (words : List (List ℕ)) (files : List File) (status : Status) (items : List Item) (text other : List ℕ) → IsOutcome words files (Served status items) → IsReply items text → IsReply items other → text ≡ other

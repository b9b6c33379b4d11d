-- What came of a case, and how the program ends.
use Rattle.std.specs.Prelude.{Bool, true, false, ⊤}
use Rattle.case_texts.specs.declared.case.Ending.{Ending}
use Rattle.case_texts.specs.declared.case.Ending.TheVariants as endings
use Rattle.xc_lines.specs.declared.status.Status.{Status}
use Rattle.xc_lines.specs.declared.status.Status.TheVariants.{Done, No, Words, Refused, ReadFault, WriteFault, Memory}
use Rattle.case_texts.specs.Expectations.{IsAsExpected}
use Rattle.case_texts.specs.declared.case.Expected.{Expected}
use Rattle.cases.specs.declared.judging.Verdict.{Verdict}
use Rattle.cases.specs.declared.judging.Verdict.TheVariants.{Passed, Differs}

-- where a case passed, its first run is as expected
abbrev pub IsJust : Expected → Verdict → Type 0
IsJust expected (Passed ran) = IsAsExpected expected ran
IsJust expected (Differs told) = ⊤

-- whether a case passed
abbrev pub has_passed : Verdict → Bool
has_passed (Passed ran) = true
has_passed (Differs told) = false

-- how a run with that status ends
abbrev pub ending_of : Status → Ending
ending_of Done = endings.Done
ending_of No = endings.No
ending_of Words = endings.Words
ending_of Refused = endings.Refused
ending_of ReadFault = endings.ReadFault
ending_of WriteFault = endings.WriteFault
ending_of Memory = endings.Memory

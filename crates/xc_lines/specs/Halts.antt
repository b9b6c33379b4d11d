-- The code's endings, as what they stand for.
use Rattle.std.specs.Prelude.{ℕ, List}
use Rattle.std.specs.String.{string_bytes}
use Rattle.xc_words.specs.declared.fault.WordsFault.{WordsFault}
use Rattle.xc_words.specs.declared.fault.WordsFault.TheVariants as words
use Rattle.xc_lines.specs.Texts.{words_line, write_line, memory_line}
use Rattle.xc_lines.specs.declared.halt.Halt.{Halt}
use Rattle.xc_lines.specs.declared.halt.Halt.TheVariants as halts
use Rattle.xc_lines.specs.declared.status.Status.{Status}
use Rattle.xc_lines.specs.declared.passed.Passed.{Passed}
use Rattle.xc_lines.specs.declared.passed.Passed.TheVariants as passed
use Rattle.xc_lines.specs.declared.status.Status.TheVariants.{Done, No, Words, Refused, ReadFault, WriteFault, Memory}

-- the status of a halt, and its line for err
abbrev pub halt_status : Halt → Status
halt_status halts.Words = Words
halt_status (halts.Refused line) = Refused
halt_status (halts.ReadFault line) = ReadFault
halt_status halts.WriteFault = WriteFault
halt_status halts.Memory = Memory

abbrev pub halt_line : Halt → List ℕ
halt_line halts.Words = words_line
halt_line (halts.Refused line) = string_bytes line
halt_line (halts.ReadFault line) = string_bytes line
halt_line halts.WriteFault = write_line
halt_line halts.Memory = memory_line

-- the halt at words that are not read
abbrev pub words_halt : WordsFault → Halt
words_halt words.Words = halts.Words
words_halt words.Memory = halts.Memory

-- the status of a request that is served
abbrev pub passed_status : Passed → Status
passed_status passed.Done = Done
passed_status passed.No = No

-- Requests, numbers and words that ask for nothing, at small cases whose answers are known from outside: a wrong definition does not check here.
use Rattle.std.proofs.Common.{◌≡◌, [], ◌∷◌, Some, None, Ok, Err, true, false, codes, refl}
use Rattle.clap.proofs.OnLiterals.{clap_on_literals}
use Rattle.clap.specs.Words.{all_of, matches_of}
use Rattle.xc_words.specs.CommandLine.{command, command_line, has_flag, is_taken}
use Rattle.xc_words.specs.Numbers.{number_of}
use Rattle.xc_words.specs.Requests.{request_of, Answers}
use Rattle.xc_words.specs.declared.asked.Request.TheVariants.{Lattice, Check, Show, Gen}
use Rattle.xc_words.specs.declared.fault.WordsFault.TheVariants.{Words}
use Rattle.xc_words.specs.declared.asked.ShowKind.TheVariants as kinds

-- decimal digits, without sign or leading zero, up to the largest that 32 bits hold
pub numbers : (number_of (codes "0") ≡ Some 0) × (number_of (codes "7") ≡ Some 7) × (number_of (codes "4294967295") ≡ Some 4294967295)
    × (number_of (codes "4294967296") ≡ None) × (number_of (codes "07") ≡ None) × (number_of (codes "00") ≡ None) × (number_of (codes "+7") ≡ None) × (number_of (codes "-7") ≡ None) × (number_of (codes "7a") ≡ None) × (number_of [] ≡ None)
numbers = (refl, refl, refl, refl, refl, refl, refl, refl, refl, refl)

-- each case once
pub requests : (request_of (codes "lattice" ∷ codes "a" ∷ []) ≡ Some (Lattice (codes "a")))
    × (request_of (codes "check" ∷ codes "a" ∷ codes "b" ∷ []) ≡ Some (Check (codes "a") (codes "b") false false false))
    × (request_of (codes "show" ∷ codes "lattice" ∷ codes "a" ∷ []) ≡ Some (Show kinds.Lattice (codes "a")))
    × (request_of (codes "show" ∷ codes "view" ∷ codes "a" ∷ []) ≡ Some (Show kinds.View (codes "a")))
    × (request_of (codes "show" ∷ codes "map" ∷ codes "a" ∷ []) ≡ Some (Show kinds.Map (codes "a")))
    × (request_of (codes "gen" ∷ codes "7" ∷ codes "4" ∷ []) ≡ Some (Gen 7 4))
    × (request_of (codes "gen" ∷ codes "0" ∷ codes "4294967295" ∷ []) ≡ Some (Gen 0 4294967295))
unfolding clap_on_literals
requests = (refl, refl, refl, refl, refl, refl, refl)

-- words that fit no case, or are too few or too many
pub no_requests : (request_of [] ≡ None)
    × (request_of (codes "lattice" ∷ []) ≡ None)
    × (request_of (codes "lattice" ∷ codes "a" ∷ codes "b" ∷ []) ≡ None)
    × (request_of (codes "check" ∷ []) ≡ None)
    × (request_of (codes "check" ∷ codes "a" ∷ []) ≡ None)
    × (request_of (codes "check" ∷ codes "a" ∷ codes "b" ∷ codes "c" ∷ []) ≡ None)
    × (request_of (codes "show" ∷ codes "a" ∷ []) ≡ None)
    × (request_of (codes "show" ∷ codes "guard" ∷ codes "a" ∷ []) ≡ None)
    × (request_of (codes "show" ∷ codes "View" ∷ codes "a" ∷ []) ≡ None)
    × (request_of (codes "show" ∷ codes "view" ∷ codes "a" ∷ codes "b" ∷ []) ≡ None)
    × (request_of (codes "gen" ∷ codes "7" ∷ []) ≡ None)
    × (request_of (codes "gen" ∷ codes "07" ∷ codes "4" ∷ []) ≡ None)
    × (request_of (codes "gen" ∷ codes "7" ∷ codes "04" ∷ []) ≡ None)
    × (request_of (codes "gen" ∷ codes "7" ∷ codes "4294967296" ∷ []) ≡ None)
    × (request_of (codes "gen" ∷ codes "x" ∷ codes "4" ∷ []) ≡ None)
    × (request_of (codes "gen" ∷ codes "7" ∷ [] ∷ []) ≡ None)
    × (request_of (codes "verify" ∷ codes "a" ∷ codes "b" ∷ codes "c" ∷ []) ≡ None)
    × (request_of (codes "Lattice" ∷ codes "a" ∷ []) ≡ None)
    × (request_of (codes "a" ∷ codes "lattice" ∷ []) ≡ None)
unfolding clap_on_literals
no_requests = (refl, refl, refl, refl, refl, refl, refl, refl, refl, refl, refl, refl, refl, refl, refl, refl, refl, refl, refl)

-- a flag is taken before, between and after the other words, and asks for nothing yet
pub flagged : (request_of (codes "check" ∷ codes "a" ∷ codes "b" ∷ codes "--witness" ∷ []) ≡ None)
    × (request_of (codes "check" ∷ codes "a" ∷ codes "b" ∷ codes "--plain" ∷ []) ≡ None)
    × (request_of (codes "check" ∷ codes "a" ∷ codes "b" ∷ codes "--size" ∷ []) ≡ None)
    × (request_of (codes "check" ∷ codes "--plain" ∷ codes "--size" ∷ codes "a" ∷ codes "b" ∷ []) ≡ None)
    × (request_of (codes "check" ∷ codes "a" ∷ codes "--witness" ∷ codes "b" ∷ []) ≡ None)
    × (request_of (codes "--plain" ∷ codes "check" ∷ codes "a" ∷ codes "b" ∷ []) ≡ None)
    × (request_of (codes "lattice" ∷ codes "--size" ∷ codes "a" ∷ []) ≡ None)
    × (request_of (codes "show" ∷ codes "view" ∷ codes "a" ∷ codes "--plain" ∷ []) ≡ None)
    × (request_of (codes "gen" ∷ codes "7" ∷ codes "4" ∷ codes "--witness" ∷ []) ≡ None)
unfolding clap_on_literals
flagged = (refl, refl, refl, refl, refl, refl, refl, refl, refl)

-- flags that the command does not have, that have a value, or that are given twice
pub refused : (request_of (codes "--help" ∷ []) ≡ None)
    × (request_of (codes "-h" ∷ []) ≡ None)
    × (request_of (codes "--version" ∷ []) ≡ None)
    × (request_of (codes "lattice" ∷ codes "a" ∷ codes "--other" ∷ []) ≡ None)
    × (request_of (codes "lattice" ∷ codes "a" ∷ codes "-x" ∷ []) ≡ None)
    × (request_of (codes "lattice" ∷ codes "-7" ∷ []) ≡ None)
    × (request_of (codes "gen" ∷ codes "-7" ∷ codes "4" ∷ []) ≡ None)
    × (request_of (codes "check" ∷ codes "a" ∷ codes "b" ∷ codes "--plain=true" ∷ []) ≡ None)
    × (request_of (codes "check" ∷ codes "a" ∷ codes "b" ∷ codes "--plain" ∷ codes "--plain" ∷ []) ≡ None)
    × (request_of (codes "check" ∷ codes "a" ∷ codes "b" ∷ codes "--plai" ∷ []) ≡ None)
unfolding clap_on_literals
refused = (refl, refl, refl, refl, refl, refl, refl, refl, refl, refl)

-- `--` is passed over once, and what follows it is no flag; a hyphen alone is a word as others
pub hyphens : (request_of (codes "--" ∷ []) ≡ None)
    × (request_of (codes "--" ∷ codes "--" ∷ []) ≡ None)
    × (request_of (codes "--" ∷ codes "lattice" ∷ codes "a" ∷ []) ≡ Some (Lattice (codes "a")))
    × (request_of (codes "lattice" ∷ codes "--" ∷ codes "a" ∷ []) ≡ Some (Lattice (codes "a")))
    × (request_of (codes "lattice" ∷ codes "a" ∷ codes "--" ∷ []) ≡ Some (Lattice (codes "a")))
    × (request_of (codes "lattice" ∷ codes "--" ∷ codes "--size" ∷ []) ≡ Some (Lattice (codes "--size")))
    × (request_of (codes "lattice" ∷ codes "--" ∷ codes "--" ∷ []) ≡ Some (Lattice (codes "--")))
    × (request_of (codes "lattice" ∷ codes "--" ∷ codes "-x" ∷ []) ≡ Some (Lattice (codes "-x")))
    × (request_of (codes "lattice" ∷ codes "-" ∷ []) ≡ Some (Lattice (codes "-")))
    × (request_of (codes "check" ∷ codes "a" ∷ codes "--" ∷ codes "b" ∷ []) ≡ Some (Check (codes "a") (codes "b") false false false))
    × (request_of (codes "check" ∷ codes "--" ∷ codes "a" ∷ codes "--plain" ∷ []) ≡ Some (Check (codes "a") (codes "--plain") false false false))
    × (request_of (codes "check" ∷ codes "--plain" ∷ codes "--" ∷ codes "a" ∷ codes "b" ∷ []) ≡ None)
    × (request_of (codes "lattice" ∷ [] ∷ []) ≡ Some (Lattice []))
    × (request_of (codes "--" ∷ codes "gen" ∷ codes "7" ∷ codes "4" ∷ []) ≡ Some (Gen 7 4))
    × (request_of (codes "gen" ∷ codes "--" ∷ codes "-7" ∷ codes "4" ∷ []) ≡ None)
unfolding clap_on_literals
hyphens = (refl, refl, refl, refl, refl, refl, refl, refl, refl, refl, refl, refl, refl, refl, refl)

-- what the command finds, and takes, where flags are given: each of the three is one of its own
pub flags : (has_flag (codes "witness") (matches_of command (command_line (codes "check" ∷ codes "a" ∷ codes "--witness" ∷ codes "b" ∷ []))) ≡ true)
    × (has_flag (codes "plain") (matches_of command (command_line (codes "check" ∷ codes "--plain" ∷ codes "--size" ∷ codes "a" ∷ codes "b" ∷ []))) ≡ true)
    × (has_flag (codes "size") (matches_of command (command_line (codes "check" ∷ codes "--plain" ∷ codes "--size" ∷ codes "a" ∷ codes "b" ∷ []))) ≡ true)
    × (has_flag (codes "witness") (matches_of command (command_line (codes "check" ∷ codes "--plain" ∷ codes "--size" ∷ codes "a" ∷ codes "b" ∷ []))) ≡ false)
    × (all_of (codes "files") (matches_of command (command_line (codes "check" ∷ codes "a" ∷ codes "--witness" ∷ codes "b" ∷ []))) ≡ Some (codes "a" ∷ codes "b" ∷ []))
unfolding clap_on_literals
flags = (refl, refl, refl, refl, refl)

pub taken : (is_taken (command_line []) ≡ true) × (is_taken (command_line (codes "check" ∷ codes "--plain" ∷ codes "--size" ∷ codes "a" ∷ codes "b" ∷ [])) ≡ true) × (is_taken (command_line (codes "any" ∷ codes "--witness" ∷ codes "--" ∷ codes "--witness" ∷ [])) ≡ true)
    × (is_taken (command_line (codes "--help" ∷ [])) ≡ false) × (is_taken (command_line (codes "-h" ∷ [])) ≡ false) × (is_taken (command_line (codes "check" ∷ codes "--plain" ∷ codes "--plain" ∷ [])) ≡ false) × (is_taken (command_line (codes "--size=1" ∷ [])) ≡ false)
unfolding clap_on_literals
taken = (refl, refl, refl, refl, refl, refl, refl)

-- an answer is the request that the words are and no other, and `Words` where they are none
pub answers : Answers (Some (Lattice (codes "a"))) (Ok (Lattice (codes "a"))) × ¬ Answers (Some (Lattice (codes "a"))) (Ok (Lattice []))
    × ¬ Answers (Some (Lattice (codes "a"))) (Ok (Show kinds.Lattice (codes "a"))) × ¬ Answers (Some (Gen 7 4)) (Ok (Gen 4 7)) × ¬ Answers (Some (Lattice (codes "a"))) (Err Words)
    × ¬ Answers None (Ok (Lattice (codes "a"))) × Answers None (Err Words)
answers = (refl, (λ h. cc), (λ h. cc), (λ h. cc), (λ h. cc), (λ h. cc), refl)

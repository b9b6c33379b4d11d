-- What a parse by the command says of the list that it reads.
use Rattle.std.proofs.Common.{◌≡◌, Bool, true, false, ◌||◌, List, [], ◌∷◌, codes, Option, Some, None, Ok, Err, refl, ap, subst, rules, arith, inl, inr, ◌∙◌}
use Rattle.std.specs.Prelude.{IsSomeAnd}
use Rattle.clap.specs.Lexer.{usize_max}
use Rattle.clap.specs.Walk.{is_empty}
use Rattle.clap.specs.Words.{App, HasKind, HasMatchesOf, Kinds, Rule, Text, app_of, fault_of, is_simple, is_simple_and_free, kind_of, new_app, new_rule, rule_of, takes}
use Rattle.clap.specs.Simple.{app_of_fields, on_top}
use Rattle.clap.specs.declared.builder.arg.Arg.{Arg}
use Rattle.clap.specs.declared.builder.command.Command.{Command}
use Rattle.clap.specs.declared.builder.command.Command.TheViews.{out-Command as fields_of}
use Rattle.clap.specs.declared.builder.range.ValueRange.{ValueRange}
use Rattle.clap.specs.declared.error.Error.{Error}
use Rattle.clap.specs.declared.error.kind.ErrorKind.TheVariants.{OutOfMemory}
use Rattle.clap.specs.declared.parser.matches.ArgMatches.{ArgMatches}
use Rattle.clap.proofs.OnLiterals.{clap_on_literals}
use Rattle.xc_words.specs.CommandLine as spec
use Rattle.xc_words.specs.CommandLine.{IsMatched, command, files_rule}
use Rattle.xc_words.specs.declared.fault.WordsFault.{WordsFault}
use Rattle.xc_words.specs.declared.fault.WordsFault.TheVariants.{Words, Memory}

some_is : {X : Type 0} (o : Option X) (x : X) → IsSomeAnd o (λ y. y ≡ x) → o ≡ Some x
some_is None x h = absurd h
some_is (Some y) x e = ap Some e

pub any_number : (a b : Arg) → rule_of a ≡ new_rule (codes "files") → (b ≡ record a { num_vals = b.num_vals }) × IsSomeAnd b.num_vals (λ r. r ≡ record { start_inclusive = 0; end_inclusive = usize_max }) → rule_of b ≡ files_rule
any_number a b same h = ap rule_of h.0 ∙ ap (λ (r : Rule). record r { range = b.num_vals }) same ∙ ap (λ (o : Option ValueRange). record (new_rule (codes "files")) { range = o }) (some_is b.num_vals _ h.1)

abbrev without_help : App → App
without_help = on_top (λ s. record s { disable_help_flag = true })

abbrev without_version : App → App
without_version = on_top (λ s. record s { disable_version_flag = true })

pub bare : (a b c : Command) → app_of a ≡ new_app (codes "chichek") → fields_of b ≡ record (fields_of a) { disable_help_flag = true } → fields_of c ≡ record (fields_of b) { disable_version_flag = true } → app_of c ≡ spec.bare
bare a b c start help version = ap app_of_fields version ∙ ap without_version (ap app_of_fields help ∙ ap without_help start)

simple : is_simple command ≡ true
unfolding clap_on_literals
simple = refl

simple_and_free : is_simple_and_free command ≡ true
unfolding clap_on_literals
simple_and_free = refl

either : (b : Bool) (kinds : Kinds) → kinds ≡ [] → (b || is_empty kinds) ≡ true
either true kinds e = refl
either false kinds e = ap is_empty e

neither : (b : Bool) (kinds : Kinds) → (b ≡ true → ⊥) → (kinds ≡ [] → ⊥) → (b || is_empty kinds) ≡ false
neither true kinds untrue some = absurd (untrue refl)
neither false [] untrue some = absurd (some refl)
neither false (k ∷ ks) untrue some = search (rules, arith)

has_some : (kinds : Kinds) (e : Error) → HasKind kinds e → (kind_of e ≡ OutOfMemory → ⊥) → kinds ≡ [] → ⊥
has_some [] e (inl memory) other same = other memory
has_some [] e (inr among) other same = among
has_some (k ∷ ks) e h other same = search (rules, same)

pub taken : (a : App) (line : List Text) (m : ArgMatches) → a ≡ command → HasMatchesOf a line m → (is_simple_and_free a ≡ true → fault_of a line ≡ []) → IsMatched line (Ok m)
taken a line m same matches faults =
    let held : HasMatchesOf command line m = subst (λ (x : App). HasMatchesOf x line m) same matches in
    let none : is_simple_and_free command ≡ true → fault_of command line ≡ [] = subst (λ (x : App). is_simple_and_free x ≡ true → fault_of x line ≡ []) same faults in
    (either (takes command line) (fault_of command line) (none simple_and_free), (held simple).0)

pub not_taken : (a : App) (line : List Text) (e : Error) (fault : WordsFault) → a ≡ command → (takes a line ≡ true → kind_of e ≡ OutOfMemory)
    → (is_simple_and_free a ≡ true → HasKind (fault_of a line) e) → (fault ≡ Words → kind_of e ≡ OutOfMemory → ⊥) → IsMatched line (Err fault)
not_taken a line e Memory same passes faults other = tt
not_taken a line e Words same passes faults other =
    let some : is_simple_and_free command ≡ true → HasKind (fault_of command line) e = subst (λ (x : App). is_simple_and_free x ≡ true → HasKind (fault_of x line) e) same faults in
    let passed : takes command line ≡ true → kind_of e ≡ OutOfMemory = subst (λ (x : App). takes x line ≡ true → kind_of e ≡ OutOfMemory) same passes in
    neither (takes command line) (fault_of command line) (λ t. other refl (passed t)) (has_some (fault_of command line) e (some simple_and_free) (other refl))

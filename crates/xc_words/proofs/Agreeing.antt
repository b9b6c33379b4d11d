-- The two definitions of when a parse is refused agree: one says whether each step passes, the other lists the kinds of the first that fails.
use Rattle.std.proofs.Common.{◌≡◌, ◌∙◌, ◌&&◌, ◌||◌, ◌+◌, ℕ, zero, suc, Bool, true, false, not, List, [], ◌∷◌, Option, Some, None, refl, ap, sym, rules, arith, nat_le, nat_lt, ◌==◌, if◌then◌else◌, length, is_some, min, drop, slice_get, codes}
use Rattle.std.specs.List.{list_all}
use Rattle.std.specs.Option.{option_map_or}
use Rattle.std.specs.Char.{encode_utf8}
use Rattle.std.specs.Str.{bytes_eq, chars}
use Rattle.clap.specs.Lexer.{long_of, short_of}
use Rattle.clap.specs.Faults.{action_fault, built_fault, bundle_step_fault, check_fault, default_fault, defaults_fault, entered_fault, flag_word_fault, flags_fault, level_fault, long_fault, option_fault, other_fault, positional_fault, react_fault, settle_fault, short_fault, step_fault, stray_fault, turn_fault, use_fault, values_fault, walk_fault}
use Rattle.clap.specs.Takes.{action_passes, built_takes, bundle_step_passes, default_passes, entered_passes, flag_word_passes, flags_pass, is_valid, level_passes, long_passes, option_passes, other_passes, positional_passes, react_passes, settle_passes, short_passes, step_passes, turn_passes, use_passes, values_pass, walk_passes}
use Rattle.clap.specs.Kinds.{Kinds, or_else, range_kinds, request_kinds, value_kinds, values_kinds}
use Rattle.clap.specs.Facts.{parser_of_value, unwrap_or_range}
use Rattle.clap.specs.Matches.{count_text}
use Rattle.clap.specs.Values.{is_request, refused_kind}
use Rattle.clap.specs.ValueTests.{accepts}
use Rattle.clap.specs.Simple.{Shape, argument_words, built, entered}
use Rattle.clap.specs.Walk.{action_of, arg_by_id, arg_by_index, arg_by_long, arg_by_short, attached_value, count_of, has_row, is_pending, most_values, reacted, settled, subcommand_met, takes_several, takes_values, values_or_missing, word_met, Held, Names, Row, Rule, Step, Text, Walk, next, trailing, subcommand, value, is_empty, walk, walk_from, walked, nothing_held, finished, with_default}
use Rattle.clap.specs.Words.{App, fault_of, is_simple, takes}
use Rattle.clap.specs.declared.error.kind.ErrorKind.{ErrorKind}
use Rattle.clap.specs.declared.error.kind.ErrorKind.TheVariants as kind
use Rattle.clap.specs.declared.builder.action.ArgAction.{ArgAction}
use Rattle.clap.specs.declared.builder.action.ArgAction.TheVariants.{Set, Append, SetTrue, SetFalse, Count, Help, HelpShort, HelpLong, Version}
use Rattle.clap.specs.declared.builder.value_parser.ValueParser.{ValueParser}
use Rattle.clap.proofs.OnLiterals.{clap_on_literals}
use Rattle.clap.proofs.WalkLemmas.{both}
use Rattle.xc_words.specs.CommandLine.{command}
use Rattle.xc_words.specs.Laws.{TakesWithoutFault}

abbrev none : Kinds → Bool
none [] = true
none (k ∷ ks) = false

is_none : (kinds : Kinds) → none kinds ≡ is_empty kinds
is_none [] = refl
is_none (k ∷ ks) = search (rules, arith)

-- the kinds are none just where the test passes
record Agree (kinds : Kinds) (passes : Bool) : Type 0 where
  same : none kinds ≡ passes

nothing : Agree [] true
nothing = record { same = refl }

a_fault : {k : ErrorKind} {ks : Kinds} → Agree (k ∷ ks) false
a_fault = record { same = refl }

in_turn : {a b : Kinds} {p q : Bool} → Agree a p → Agree b q → Agree (or_else a b) (p && q)
in_turn {a} {b} {p} {q} e f = record { same = joined a e.same }
  where
    joined : (x : Kinds) → none x ≡ p → none (or_else x b) ≡ (p && q)
    joined [] h = rw (← h) f.same
    joined (k ∷ ks) h = rw (← h) refl

chosen : (b : Bool) {x y : Kinds} {p q : Bool} → Agree x p → Agree y q → Agree (if b then x else y) (if b then p else q)
chosen true e f = e
chosen false e f = f

skipped : (b : Bool) {x : Kinds} {p : Bool} → Agree x p → Agree (if b then [] else x) (b || p)
skipped true e = nothing
skipped false e = e

blocked : (b again : Bool) (k : ErrorKind) (ks : Kinds) → Agree (if b && not again then k ∷ ks else []) (not b || again)
blocked true true k ks = nothing
blocked true false k ks = a_fault
blocked false again k ks = nothing

optional : {X : Type 0} (o : Option X) {f : X → Kinds} {p : X → Bool} {k : Kinds} {b : Bool} → ((x : X) → Agree (f x) (p x)) → Agree k b → Agree (option_map_or f o k) (option_map_or p o b)
optional None each e = e
optional (Some x) each e = each x

-- ---- one use of an argument

picked : (b : Bool) (k : ErrorKind) → Agree (if b then [] else k ∷ []) b
picked true k = nothing
picked false k = a_fault

one_value : (ignore_case : Bool) (p : ValueParser) (t : Text) → Agree (value_kinds ignore_case p t) (accepts ignore_case p t)
one_value ignore_case p t = picked (accepts ignore_case p t) (refused_kind p)

all_values : (ignore_case : Bool) (p : ValueParser) (vs : List Text) → Agree (values_kinds ignore_case p vs) (list_all (accepts ignore_case p) vs)
all_values ignore_case p [] = nothing
all_values ignore_case p (v ∷ vs) = in_turn (one_value ignore_case p v) (all_values ignore_case p vs)

own_values : (a : Rule) (vs : List Text) → Agree (values_fault a vs) (values_pass a vs)
own_values a vs = all_values a.ignore_case (parser_of_value a.parser) vs

by_tests : (p e f a b : Bool) → (p ≡ true → a ≡ false) → (e ≡ true → f ≡ (a && b))
    → Agree (if p then kind.InvalidValue ∷ [] else (if e then (if f then [] else kind.WrongNumberOfValues ∷ []) else (if not a then kind.TooFewValues ∷ [] else (if not b then kind.TooManyValues ∷ [] else [])))) (a && b)
by_tests true e f a b short same = rw (short refl) a_fault
by_tests false true f a b short same = rw (same refl) (picked (a && b) kind.WrongNumberOfValues)
by_tests false false f false b short same = a_fault
by_tests false false f true false short same = a_fault
by_tests false false f true true short same = nothing

below : (a b : ℕ) → nat_lt a b ≡ not (nat_le b a)
below a b = grind arith

too_few : (least n : ℕ) → (nat_lt 0 least && n == 0) ≡ true → nat_le least n ≡ false
too_few least n e = grind arith

just_one : (least most n : ℕ) → (least == most) ≡ true → (least == n) ≡ (nat_le least n && nat_le n most)
just_one least most n e = grind arith

in_range : (least most n : ℕ) → Agree (range_kinds least most n) (nat_le least n && nat_le n most)
in_range least most n = rw (below n least, below most n) (by_tests _ (least == most) (least == n) (nat_le least n) (nat_le n most) (too_few least n) (just_one least most n))

acted : (x : ArgAction) (again : Bool) (a : Rule) (vs : List Text) (rows : List Row) → Agree (action_fault x again a vs rows) (action_passes x again a vs rows)
acted Set again a vs rows = in_turn (blocked (has_row a.id rows) again kind.ArgumentConflict []) (own_values a vs)
acted SetTrue again a vs rows = in_turn (blocked (has_row a.id rows) again kind.ArgumentConflict []) (own_values a vs)
acted SetFalse again a vs rows = in_turn (blocked (has_row a.id rows) again kind.ArgumentConflict []) (own_values a vs)
acted Append again a vs rows = own_values a vs
acted Count again a [] rows = one_value a.ignore_case (parser_of_value a.parser) (count_text (min (count_of a.id rows + 1) 255))
acted Count again a (v ∷ vs) rows = own_values a (v ∷ vs)
acted Help again a vs rows = a_fault
acted HelpShort again a vs rows = a_fault
acted HelpLong again a vs rows = a_fault
acted Version again a vs rows = a_fault

grouped : (a b c : Bool) {kinds : Kinds} → Agree kinds ((a && b) && c) → Agree kinds (a && (b && c))
grouped true b c e = e
grouped false b c e = e

used_once : (again : Bool) (a : Rule) (vs : List Text) (rows : List Row) → Agree (use_fault again a vs rows) (use_passes again a vs rows)
used_once again a vs rows =
    let least = (unwrap_or_range a.range).start_inclusive in
    let values = values_or_missing a vs in
    grouped (nat_le least (length vs)) (nat_le (length vs) (most_values a)) (action_passes (action_of a) again a values rows)
    (in_turn (in_range least (most_values a) (length vs)) (acted (action_of a) again a values rows))

-- ---- the walk

module _ (c : List Rule) (again : Bool) where
  settles : (h : Held) → Agree (settle_fault c again h) (settle_passes c again h)
  settles h = optional h.pending (λ p. optional (arg_by_id c p.0) (λ a. used_once again a p.1 h.rows) nothing) nothing

  reacts : (a : Rule) (vs : List Text) (h : Held) → Agree (react_fault c again a vs h) (react_passes c again a vs h)
  reacts a vs h = in_turn (settles h) (used_once again a vs (settled c h).rows)

  options : (a : Rule) (v : Option Text) (h : Held) → Agree (option_fault c again a v h) (option_passes c again a v h)
  options a None h = settles h
  options a (Some v) h = reacts a (v ∷ []) h

  flag_value : (a : Rule) (v : Option Text) (h : Held) → Agree (if is_some v then kind.TooManyValues ∷ [] else react_fault c again a [] h) (not (is_some v) && react_passes c again a [] h)
  flag_value a None h = reacts a [] h
  flag_value a (Some v) h = a_fault

  longs : (o : Option Rule) (v : Option Text) (h : Held) → Agree (long_fault c again o v h) (long_passes c again o v h)
  longs None v h = a_fault
  longs (Some a) v h = chosen (takes_values a) (options a v h) (flag_value a v h)

  shorts : (o : Option Rule) (rest : Text) (h : Held) (f : Held → Kinds) (p : Held → Bool) → ((x : Held) → Agree (f x) (p x)) → Agree (short_fault c again o rest h f) (short_passes c again o rest h p)
  shorts None rest h f p each = a_fault
  shorts (Some a) rest h f p each = chosen (takes_values a) (options a (attached_value rest) h) (in_turn (reacts a [] h) (each (reacted c a [] h)))

  steps : (o : Option ℕ) (flags : Text) (skip : ℕ) (h : Held) (f : Text → ℕ → Held → Kinds) (p : Text → ℕ → Held → Bool) → ((t : Text) (k : ℕ) (x : Held) → Agree (f t k x) (p t k x))
      → Agree (bundle_step_fault c again o flags skip h f) (bundle_step_passes c again o flags skip h p)
  steps None flags skip h f p each = nothing
  steps (Some x) flags zero h f p each =
      let rest = drop (length (encode_utf8 x)) flags in
      shorts (arg_by_short c x) rest h (f rest 0) (p rest 0) (each rest 0)
  steps (Some x) flags (suc skip) h f p each = each (drop (length (encode_utf8 x)) flags) skip h

  bundles : (k : ℕ) (flags : Text) (skip : ℕ) (h : Held) → Agree (flags_fault c again k flags skip h) (flags_pass c again k flags skip h)
  unfolding flags_fault flags_pass
  bundles zero flags skip h = nothing
  bundles (suc k) flags skip h = steps (slice_get (chars flags) 0) flags skip h (flags_fault c again k) (flags_pass c again k) (bundles k)

  flag_words : (o : Option (Text × Option Text)) (word : Text) (h : Held) → Agree (flag_word_fault c again o word h) (flag_word_passes c again o word h)
  flag_words (Some p) word h = longs (arg_by_long c p.0) p.1 h
  flag_words None word h = optional (short_of word) (λ flags. bundles (length flags) flags h.skip (record h { skip = 0 })) nothing

  places : (a : Rule) (h : Held) → Agree (positional_fault c again a h) (positional_passes c again a h)
  places a h = skipped (is_pending a h.pending && takes_several a) (settles h)

others : (s : Shape) (name : Option Text) (word : Text) (h : Held) → Agree (other_fault s name word h) (other_passes s name word h)
others s (Some name) word h = blocked (bytes_eq name (codes "help")) s.disable_help_subcommand kind.DisplayHelp (kind.InvalidSubcommand ∷ [])
others s None word h = skipped (bytes_eq word (45 ∷ 45 ∷ [])) (flag_words s.rules s.args_override_self (long_of word) word h)

strays : (s : Shape) → Agree (stray_fault s) false
strays s = sorted s.is_leaf
  where
    sorted : (b : Bool) → Agree (if b then kind.UnknownArgument ∷ [] else kind.UnknownArgument ∷ kind.InvalidSubcommand ∷ []) false
    sorted true = a_fault
    sorted false = a_fault

placed : (s : Shape) (position : ℕ) (h : Held) (step : Step) → Agree (step_fault s position h step) (step_passes s position h step)
placed s position h value = optional (arg_by_index s.rules position) (λ a. places s.rules s.args_override_self a h) (strays s)
placed s position h (next waiting) = nothing
placed s position h (trailing p) = nothing
placed s position h (subcommand name) = nothing

turns : (s : Shape) (names : Names) (w : Walk) (word : Text) → Agree (turn_fault s names w word) (turn_passes s names w word)
turns s names w word =
    let met = word_met s.rules names w.is_trailing w.waiting w.position word w.held in
    skipped (is_some w.stopped) (in_turn (skipped w.is_trailing (others s (subcommand_met names w.waiting word) word w.held)) (placed s w.position met.0 met.1))

walks : (s : Shape) (names : Names) (w : Walk) (words : List Text) → Agree (walk_fault s names w words) (walk_passes s names w words)
unfolding walk_fault walk_passes
walks s names w [] = nothing
walks s names w (word ∷ rest) = in_turn (turns s names w word) (walks s names (walked s.rules names w word) rest)

-- ---- after the walk

requests : (x : ArgAction) → Agree (request_kinds x) (not (is_request x))
requests Set = nothing
requests SetTrue = nothing
requests SetFalse = nothing
requests Append = nothing
requests Count = nothing
requests Help = a_fault
requests HelpShort = a_fault
requests HelpLong = a_fault
requests Version = a_fault

spared : (given lacks passes : Bool) {kinds : Kinds} → Agree kinds passes → (lacks || passes) ≡ true → Agree (if given || lacks then [] else kinds) true
spared true lacks passes h e = nothing
spared false true passes h e = nothing
spared false false passes h e = record { same = h.same ∙ e }

one_default : (rows : List Row) (a : Rule) → default_passes a ≡ true → Agree (default_fault rows a) true
one_default rows a e = spared (has_row a.id rows) (is_empty a.defaults) (not (is_request (action_of a)) && values_pass a a.defaults) (in_turn (requests (action_of a)) (own_values a a.defaults)) e

all_defaults : (rules : List Rule) (rows : List Row) → list_all default_passes rules ≡ true → Agree (defaults_fault rows rules) true
unfolding defaults_fault
all_defaults [] rows e = nothing
all_defaults (a ∷ rest) rows e =
    let each = both (default_passes a) (list_all default_passes rest) e in
    in_turn (one_default rows a each.0) (all_defaults rest (with_default rows a) each.1)

-- no argument is checked once the words are read
abbrev Unchecked : Shape → Type 0
Unchecked s = (rows : List Row) → Agree (check_fault s rows false) (is_valid s rows false)

levels : (s : Shape) (h : Held) (words : List Text) → list_all default_passes s.rules ≡ true → Unchecked s → Agree (level_fault s [] h words false []) (level_passes s [] h words false)
levels s h words defaults checks =
    let end = (walk s.rules [] h words).held in
    let no_default : Agree (defaults_fault (settled s.rules end).rows s.rules) (list_all default_passes s.rules) = record { same = (all_defaults s.rules (settled s.rules end).rows defaults).same ∙ sym defaults } in
    in_turn (walks s [] (walk_from h) words) (in_turn (settles s.rules s.args_override_self end) (in_turn no_default (checks (finished s.rules end))))

-- a command without subcommands
abbrev alone : Shape → App
alone s = record { top = s; subs = [] }

at_stop : (s : Shape) (h : Held) (words : List Text) (stop : Option (Text × List Text)) → list_all default_passes s.rules ≡ true → Unchecked s
    → Agree (level_fault s [] h words (is_some (entered (alone s) stop)) (entered_fault (alone s) stop)) (entered_passes (alone s) stop && level_passes s [] h words (is_some (entered (alone s) stop)))
at_stop s h words None defaults checks = levels s h words defaults checks
at_stop s h words (Some p) defaults checks = levels s h words defaults checks

leaves : (s : Shape) (h : Held) (words : List Text) → list_all default_passes s.rules ≡ true → Unchecked s → Agree (built_fault (alone s) h words) (built_takes (alone s) h words)
leaves s h words = at_stop s h words (walk s.rules [] h words).stopped

-- ---- the command

simple : is_simple command ≡ true
unfolding clap_on_literals
simple = refl

defaults_pass : list_all default_passes (built command).top.rules ≡ true
unfolding clap_on_literals
defaults_pass = refl

unchecked : Unchecked (built command).top
unchecked rows = nothing

pub taken_without_fault : TakesWithoutFault
taken_without_fault line =
    let passes = built_takes (built command) nothing_held (argument_words command line) in
    let met : Agree (fault_of command line) passes = leaves (built command).top nothing_held (argument_words command line) defaults_pass unchecked in
    let taken : takes command line ≡ passes = ap (λ (b : Bool). b && passes) simple in
    taken ∙ sym met.same ∙ is_none (fault_of command line)

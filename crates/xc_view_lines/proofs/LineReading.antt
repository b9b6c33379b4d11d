-- A line is read as the statement that its tokens are.
use Rattle.std.proofs.Common.{◌≡◌, ℕ, ◌+◌, ◌<◌, Bool, true, false, ◌&&◌, cond, if◌then◌else◌, List, [], ◌∷◌, ◌++◌, Option, Some, None, length, take, drop, get_or, nat_lt, codes, refl, sym, ◌∙◌, subst, ap, arith, length-append}
use Rattle.std.specs.List.{position, position_or_len}
use Rattle.std.specs.Option.{option_map}
use Rattle.std.specs.Str.{bytes_eq}
use Rattle.std.proofs.lemmas.Bool.{and_parts, or_parts, lt-ltb, ltb-true}
use Rattle.std.proofs.lemmas.List.Sums.{split_at_first, passes_at_first}
use Rattle.std.proofs.lemmas.List.{take_all, take-append-le}
use Rattle.std.proofs.Math.Seq.{drop-append-add}
use Rattle.xc_base.proofs.Naming.{same_bytes}
use Rattle.xc_base.specs.Names.{is_among}
use Rattle.xc_base.specs.Words.{is_name, is_file_word}
use Rattle.xc_expr.specs.Written.{Written, Assigned, IsGuard, IsAction}
use Rattle.xc_forms.specs.VariableLines.{var_tokens}
use Rattle.xc_forms.specs.VariableReading as forms
use Rattle.xc_forms.proofs.VariableReading as declared
use Rattle.xc_expr.specs.Resolving.{both}
use Rattle.xc_expr.specs.Reading.{guard_in, action_in}
use Rattle.xc_view_lines.specs.ViewLines.{Statement, View, Lattice, Var, Init, Prop, Command, IsStated}
use Rattle.xc_view_lines.specs.ViewLines as files
use Rattle.xc_view_lines.specs.LineReading.{given, view_line, lattice_line, var_line, init_line, prop_line, command_at, command_parts, are_command_words, command_line, word_line, line}
use Rattle.xc_view_lines.proofs.Expressions.{guards_read, actions_read, no_do}

-- an empty option has no value
pub none_is_not : {X : Type 0} (x : X) → None ≡ Some x → ⊥
none_is_not x e = cc

-- equal options have equal values
some_same : {X : Type 0} {x y : X} → Some x ≡ Some y → x ≡ y
some_same e = cc

-- what is given passed the test
pub given_some : (b : Bool) (s t : Statement) → given b s ≡ Some t → (b ≡ true) × (s ≡ t)
given_some true s t h = (refl, some_same h)
given_some false s t h = absurd (none_is_not t h)

-- what a chosen option comes from
chosen_some : {X : Type 0} (b : Bool) (o : Option X) (x : X) → (if b then o else None) ≡ Some x → (b ≡ true) × (o ≡ Some x)
chosen_some true o x h = (refl, h)
chosen_some false o x h = absurd (none_is_not x h)

-- what a mapped option comes from
mapped_some : {X Y : Type 0} (f : X → Y) (o : Option X) (y : Y) → option_map f o ≡ Some y → (x : X) × ((o ≡ Some x) × (f x ≡ y))
mapped_some f None y h = absurd (none_is_not y h)
mapped_some f (Some x) y h = (x, (refl, some_same h))

-- what an option of two comes from
both_some : {X Y Z : Type 0} (f : X → Y → Z) (o : Option X) (p : Option Y) (z : Z) → both f o p ≡ Some z → (x : X) × ((y : Y) × ((o ≡ Some x) × (p ≡ Some y) × (f x y ≡ z)))
both_some f None p z h = absurd (none_is_not z h)
both_some f (Some x) None z h = absurd (none_is_not z h)
both_some f (Some x) (Some y) z h = (x, (y, (refl, refl, some_same h)))

-- each kind of line is what it says
view_sound : (tokens : List (List ℕ)) (s : Statement) → view_line tokens ≡ Some s → IsStated (codes "view" ∷ tokens) s
view_sound [] s h = absurd (none_is_not s h)
view_sound (name ∷ []) s h =
    let parts = given_some (is_name name) (View name) s h in
    subst (IsStated (codes "view" ∷ name ∷ [])) parts.1 (files.view name parts.0)
view_sound (name ∷ other ∷ more) s h = absurd (none_is_not s h)

-- the lattice's line
lattice_sound : (tokens : List (List ℕ)) (s : Statement) → lattice_line tokens ≡ Some s → IsStated (codes "lattice" ∷ tokens) s
lattice_sound [] s h = absurd (none_is_not s h)
lattice_sound (file ∷ []) s h =
    let parts = given_some (is_file_word file) (Lattice file) s h in
    subst (IsStated (codes "lattice" ∷ file ∷ [])) parts.1 (files.lattice file parts.0)
lattice_sound (file ∷ other ∷ more) s h = absurd (none_is_not s h)

-- a variable's line
var_sound : (tokens : List (List ℕ)) (s : Statement) → var_line tokens ≡ Some s → IsStated (codes "var" ∷ tokens) s
var_sound tokens s h =
    let found = mapped_some Var (forms.var_line tokens) s h in
    let parts = declared.var_sound tokens found.0 found.1.0 in
    subst (λ (ts : List (List ℕ)). IsStated ts s) (sym parts.0) (subst (IsStated (var_tokens found.0)) found.1.1 (files.var found.0 parts.1))

-- the line of the initial states
init_sound : (tokens : List (List ℕ)) (s : Statement) → init_line tokens ≡ Some s → IsStated (codes "init" ∷ tokens) s
init_sound tokens s h =
    let found = mapped_some Init (guard_in tokens) s h in
    subst (IsStated (codes "init" ∷ tokens)) found.1.1 (files.init tokens found.0 ((guards_read tokens found.0).0 found.1.0))

-- a proposition's line
prop_sound : (tokens : List (List ℕ)) (s : Statement) → prop_line tokens ≡ Some s → IsStated (codes "prop" ∷ tokens) s
prop_sound [] s h = absurd (none_is_not s h)
prop_sound (name ∷ []) s h = absurd (none_is_not s h)
prop_sound (name ∷ value ∷ []) s h = absurd (none_is_not s h)
prop_sound (name ∷ value ∷ when ∷ tokens) s h =
    let parts = chosen_some (bytes_eq when (codes "when") && is_name name && is_name value) (option_map (Prop name value) (guard_in tokens)) s h in
    let words = and_parts (bytes_eq when (codes "when") && is_name name) (is_name value) parts.0 in
    let first = and_parts (bytes_eq when (codes "when")) (is_name name) words.0 in
    let found = mapped_some (Prop name value) (guard_in tokens) s parts.1 in
    subst (λ (w : List ℕ). IsStated (codes "prop" ∷ name ∷ value ∷ w ∷ tokens) s) (sym (same_bytes when (codes "when") first.0))
    (subst (IsStated (codes "prop" ∷ name ∷ value ∷ codes "when" ∷ tokens)) found.1.1
    (files.prop name value tokens found.0 first.1 words.1 ((guards_read tokens found.0).0 found.1.0)))

-- a command, split at the place of its first `do`
found_at : (m n place : ℕ) (b : Bool) → nat_lt m n ≡ b → cond b (Some m) None ≡ Some place → (m ≡ place) × (m < n)
found_at m n place true e h = (some_same h, ltb-true m n e)
found_at m n place false e h = absurd (none_is_not place h)

-- the tokens are those before the place, a `do`, and those behind
split_at : (tokens : List (List ℕ)) (place : ℕ) → position (bytes_eq (codes "do")) tokens ≡ Some place → tokens ≡ take place tokens ++ codes "do" ∷ drop (place + 1) tokens
split_at tokens place h =
    let p : List ℕ → Bool = bytes_eq (codes "do") in
    let found = found_at (position_or_len p tokens) (length tokens) place (nat_lt (position_or_len p tokens) (length tokens)) refl h in
    let here = same_bytes (codes "do") (get_or tokens (position_or_len p tokens) []) (passes_at_first p tokens [] found.1) in
    split_at_first p tokens [] found.1
    ∙ ap (λ (x : List ℕ). take (position_or_len p tokens) tokens ++ x ∷ drop (position_or_len p tokens + 1) tokens) (sym here)
    ∙ ap (λ (n : ℕ). take n tokens ++ codes "do" ∷ drop (n + 1) tokens) found.0

-- what is read of the parts is stated
parts_sound : (name value : List ℕ) (tokens : List (List ℕ)) (o : Option ℕ) (s : Statement) → is_name name ≡ true → is_name value ≡ true → position (bytes_eq (codes "do")) tokens ≡ o → command_at name value tokens o ≡ Some s → IsStated (codes "command" ∷ name ∷ codes "with" ∷ value ∷ codes "when" ∷ tokens) s
parts_sound name value tokens None s n v e h = absurd (none_is_not s h)
parts_sound name value tokens (Some place) s n v e h =
    let found = both_some (Command name value) (guard_in (take place tokens)) (action_in (drop (place + 1) tokens)) s h in
    let guard = found.0 in
    let action = found.1.0 in
    let facts = found.1.1 in
    subst (λ (ts : List (List ℕ)). IsStated (codes "command" ∷ name ∷ codes "with" ∷ value ∷ codes "when" ∷ ts) s) (sym (split_at tokens place e))
    (subst (IsStated (codes "command" ∷ name ∷ codes "with" ∷ value ∷ codes "when" ∷ take place tokens ++ codes "do" ∷ drop (place + 1) tokens)) facts.2
    (files.command name value (take place tokens) (drop (place + 1) tokens) guard action n v
    ((guards_read (take place tokens) guard).0 facts.0) ((actions_read (drop (place + 1) tokens) action).0 facts.1)))

-- a command's line
command_sound : (tokens : List (List ℕ)) (s : Statement) → command_line tokens ≡ Some s → IsStated (codes "command" ∷ tokens) s
unfolding command_parts
command_sound [] s h = absurd (none_is_not s h)
command_sound (name ∷ []) s h = absurd (none_is_not s h)
command_sound (name ∷ with ∷ []) s h = absurd (none_is_not s h)
command_sound (name ∷ with ∷ value ∷ []) s h = absurd (none_is_not s h)
command_sound (name ∷ with ∷ value ∷ when ∷ tokens) s h =
    let parts = chosen_some (are_command_words name with value when) (command_parts name value tokens) s h in
    let third = and_parts (bytes_eq with (codes "with") && bytes_eq when (codes "when") && is_name name) (is_name value) parts.0 in
    let second = and_parts (bytes_eq with (codes "with") && bytes_eq when (codes "when")) (is_name name) third.0 in
    let first = and_parts (bytes_eq with (codes "with")) (bytes_eq when (codes "when")) second.0 in
    subst (λ (w : List ℕ). IsStated (codes "command" ∷ name ∷ w ∷ value ∷ when ∷ tokens) s) (sym (same_bytes with (codes "with") first.0))
    (subst (λ (w : List ℕ). IsStated (codes "command" ∷ name ∷ codes "with" ∷ value ∷ w ∷ tokens) s) (sym (same_bytes when (codes "when") first.1))
    (parts_sound name value tokens (position (bytes_eq (codes "do")) tokens) s second.1 third.1 refl parts.1))

-- a row by its first word
module _ (word : List ℕ) (tokens : List (List ℕ)) (s : Statement) where
  by_word : (other : List ℕ) → (b : Bool) → bytes_eq word other ≡ b → (own rest : Option Statement)
      → (own ≡ Some s → IsStated (other ∷ tokens) s) → (rest ≡ Some s → IsStated (word ∷ tokens) s)
      → (if b then own else rest) ≡ Some s → IsStated (word ∷ tokens) s
  by_word other true e own rest here there h = subst (λ (w : List ℕ). IsStated (w ∷ tokens) s) (sym (same_bytes word other e)) (here h)
  by_word other false e own rest here there h = there h

  word_sound : word_line word tokens ≡ Some s → IsStated (word ∷ tokens) s
  unfolding word_line
  word_sound h =
      by_word (codes "view") (bytes_eq word (codes "view")) refl (view_line tokens) _ (view_sound tokens s)
      (by_word (codes "lattice") (bytes_eq word (codes "lattice")) refl (lattice_line tokens) _ (lattice_sound tokens s)
      (by_word (codes "var") (bytes_eq word (codes "var")) refl (var_line tokens) _ (var_sound tokens s)
      (by_word (codes "init") (bytes_eq word (codes "init")) refl (init_line tokens) _ (init_sound tokens s)
      (by_word (codes "prop") (bytes_eq word (codes "prop")) refl (prop_line tokens) _ (prop_sound tokens s)
      (by_word (codes "command") (bytes_eq word (codes "command")) refl (command_line tokens) None (command_sound tokens s)
      (λ e. absurd (none_is_not s e))))))) h

-- a row that is read is stated
pub line_sound : (tokens : List (List ℕ)) (s : Statement) → line tokens ≡ Some s → IsStated tokens s
unfolding line
line_sound [] s h = absurd (none_is_not s h)
line_sound (word ∷ tokens) s h = word_sound word tokens s h

-- a stated row is read
do_length : (front more : List (List ℕ)) → is_among front (codes "do") ≡ false → position_or_len (bytes_eq (codes "do")) (front ++ codes "do" ∷ more) ≡ length front
do_length [] more h = refl
do_length (x ∷ front) more h =
    let parts = or_parts (bytes_eq (codes "do") x) (is_among front (codes "do")) h in
    rw (parts.0, do_length front more parts.1) (omega arith)

-- the first `do` stands behind a front without one
do_place : (front more : List (List ℕ)) → is_among front (codes "do") ≡ false → position (bytes_eq (codes "do")) (front ++ codes "do" ∷ more) ≡ Some (length front)
do_place front more h =
    rw (do_length front more h, length-append front (codes "do" ∷ more), lt-ltb (length front) (length front + length (codes "do" ∷ more)) (omega arith))

-- the tokens before it
front_of : (front more : List (List ℕ)) → take (length front) (front ++ more) ≡ front
front_of front more = take-append-le (length front) front more (omega arith) ∙ take_all (length front) front (omega arith)

-- and those behind
back_of : (front : List (List ℕ)) (x : List ℕ) (more : List (List ℕ)) → drop (length front + 1) (front ++ x ∷ more) ≡ more
back_of front x more = drop-append-add front (x ∷ more) 1

-- a command's parts are read
command_given : (name value : List ℕ) (tokens more : List (List ℕ)) (guard : Written) (action : List Assigned) → IsGuard tokens guard → IsAction more action → command_parts name value (tokens ++ codes "do" ∷ more) ≡ Some (Command name value guard action)
unfolding command_parts
command_given name value tokens more guard action g a =
    ap (command_at name value (tokens ++ codes "do" ∷ more)) (do_place tokens more (no_do tokens guard g))
    ∙ rw (front_of tokens (codes "do" ∷ more), back_of tokens (codes "do") more, (guards_read tokens guard).1 g, (actions_read more action).1 a)

-- each stated row is read
pub line_complete : {tokens : List (List ℕ)} {s : Statement} → IsStated tokens s → line tokens ≡ Some s
unfolding line word_line
line_complete (files.view name h) = rw h
line_complete (files.lattice file h) = rw h
line_complete (files.var domain h) = ap (option_map Var) (declared.var_complete domain h)
line_complete (files.init tokens guard g) = rw ((guards_read tokens guard).1 g)
line_complete (files.prop name value tokens guard n v g) = rw (n, v, (guards_read tokens guard).1 g)
line_complete (files.command name value tokens more guard action n v g a) = rw (n, v, command_given name value tokens more guard action g a)

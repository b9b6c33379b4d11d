-- The deciding function gives the statement that is due, where one is.
use Rattle.std.proofs.Common.{◌≡◌, ℕ, Bool, true, false, ◌&&◌, if◌then◌else◌, List, [], ◌∷◌, Option, Some, None, codes, refl, sym, ◌∙◌, subst, ap}
use Rattle.std.specs.List.{list_all}
use Rattle.std.specs.Option.{option_map}
use Rattle.std.specs.Str.{bytes_eq}
use Rattle.std.proofs.lemmas.Bool.{and_parts, and_from}
use Rattle.xc_base.proofs.Naming.{same_bytes}
use Rattle.xc_base.specs.Words.{is_name, is_file_word}
use Rattle.xc_base.specs.Deciding.{Decides}
use Rattle.xc_forms.specs.declared.domain.Domain.{Domain}
use Rattle.xc_forms.specs.VariableReading as forms
use Rattle.xc_forms.proofs.VariableReading as declared
use Rattle.xc_sigmap_lines.specs.declared.parts.Told.{Told}
use Rattle.xc_sigmap_lines.specs.declared.parts.Told.TheVariants.{Named, Constant}
use Rattle.xc_sigmap_lines.specs.declared.statement.Pair.{Pair}
use Rattle.xc_sigmap_lines.specs.declared.statement.Statement.{Statement}
use Rattle.xc_sigmap_lines.specs.declared.statement.Statement.TheVariants.{Map, Use, Var, Prop, Send, Tell, Stutter}
use Rattle.xc_sigmap_lines.specs.MapFiles.{IsDue, is_due, spelling, has_names, is_prop_name, is_named_pair, pair_tokens, told_tokens, told_word, map_format}
use Rattle.xc_sigmap_lines.specs.Deciding.{given, map_line, use_line, var_line, prop_line, is_pair, pairs_in, send_line, told_in, tell_line, stutter_line, word_line, line, placed, decide}

-- the tokens are the statement's, and it has its names
record IsStated (tokens : List (List ℕ)) (s : Statement) : Type 0 where
  pub spelled : tokens ≡ spelling s
  pub named : has_names s ≡ true

-- an empty option has no value
none_is_not : {X : Type 0} (x : X) → None ≡ Some x → ⊥
none_is_not x e = cc

-- equal options have equal values
some_same : {X : Type 0} {x y : X} → Some x ≡ Some y → x ≡ y
some_same e = cc

-- what is given passed the test
given_some : (b : Bool) (s t : Statement) → given b s ≡ Some t → (b ≡ true) × (s ≡ t)
given_some true s t h = (refl, some_same h)
given_some false s t h = absurd (none_is_not t h)

-- what a chosen option comes from
chosen_some : {X : Type 0} (b : Bool) (o : Option X) (x : X) → (if b then o else None) ≡ Some x → (b ≡ true) × (o ≡ Some x)
chosen_some true o x h = (refl, h)
chosen_some false o x h = absurd (none_is_not x h)

-- what a mapped option comes from
mapped_some : {X Y : Type 0} (f : X → Y) (o : Option X) (y : Y) → option_map f o ≡ Some y → (x : X) × ((o ≡ Some x) × (f x ≡ y))
mapped_some f None y h = absurd (none_is_not y h)
mapped_some f (Some x) y h = (x, (refl, some_same h))

-- each kind of line is what it says
map_sound : (tokens : List (List ℕ)) (s : Statement) → map_line tokens ≡ Some s → IsStated (codes "map" ∷ tokens) s
map_sound [] s h = absurd (none_is_not s h)
map_sound (name ∷ []) s h =
    let parts = given_some (is_name name) (Map name) s h in
    subst (IsStated (codes "map" ∷ name ∷ [])) parts.1 (record { spelled = refl; named = parts.0 })
map_sound (name ∷ other ∷ more) s h = absurd (none_is_not s h)

-- a viewpoint's line
use_sound : (tokens : List (List ℕ)) (s : Statement) → use_line tokens ≡ Some s → IsStated (codes "use" ∷ tokens) s
use_sound [] s h = absurd (none_is_not s h)
use_sound (name ∷ []) s h = absurd (none_is_not s h)
use_sound (name ∷ file ∷ []) s h =
    let parts = given_some (is_name name && is_file_word file) (Use (record { name = name; file = file })) s h in
    subst (IsStated (codes "use" ∷ name ∷ file ∷ [])) parts.1 (record { spelled = refl; named = parts.0 })
use_sound (name ∷ file ∷ other ∷ more) s h = absurd (none_is_not s h)

-- a variable's line
var_sound : (tokens : List (List ℕ)) (s : Statement) → var_line tokens ≡ Some s → IsStated (codes "var" ∷ tokens) s
var_sound tokens s h = by_var (forms.var_line tokens) refl h
  where
    by_var : (o : Option Domain) → forms.var_line tokens ≡ o → option_map Var o ≡ Some s → IsStated (codes "var" ∷ tokens) s
    by_var None e k = absurd (none_is_not s k)
    by_var (Some d) e k = let parts = declared.var_sound tokens d e in let same : Var d ≡ s = cc in subst (IsStated (codes "var" ∷ tokens)) same (record { spelled = parts.0; named = parts.1 })

-- a proposition's line
prop_sound : (tokens : List (List ℕ)) (s : Statement) → prop_line tokens ≡ Some s → IsStated (codes "prop" ∷ tokens) s
prop_sound [] s h = absurd (none_is_not s h)
prop_sound (name ∷ []) s h =
    let parts = given_some (is_prop_name name) (Prop name) s h in
    subst (IsStated (codes "prop" ∷ name ∷ [])) parts.1 (record { spelled = refl; named = parts.0 })
prop_sound (name ∷ other ∷ more) s h = absurd (none_is_not s h)

-- pairs
pairs_sound : (tokens : List (List ℕ)) (pairs : List Pair) → pairs_in tokens ≡ Some pairs → (tokens ≡ pair_tokens pairs) × (list_all is_named_pair pairs ≡ true)
pairs_sound [] pairs h = subst (λ (ps : List Pair). ([] ≡ pair_tokens ps) × (list_all is_named_pair ps ≡ true)) (some_same h) (refl, refl)
pairs_sound (value ∷ []) pairs h = absurd (none_is_not pairs h)
pairs_sound (value ∷ mark ∷ []) pairs h = absurd (none_is_not pairs h)
pairs_sound (value ∷ mark ∷ word ∷ more) pairs h =
    let p : Pair = record { from = value; to = word } in
    let parts = chosen_some (is_pair value mark word) (option_map (λ (ps : List Pair). p ∷ ps) (pairs_in more)) pairs h in
    let rest = mapped_some (λ (ps : List Pair). p ∷ ps) (pairs_in more) pairs parts.1 in
    let behind = pairs_sound more rest.0 rest.1.0 in
    let third = and_parts (bytes_eq mark (codes "=") && is_name value) (is_name word) parts.0 in
    let second = and_parts (bytes_eq mark (codes "=")) (is_name value) third.0 in
    subst (λ (ps : List Pair). (value ∷ mark ∷ word ∷ more ≡ pair_tokens ps) × (list_all is_named_pair ps ≡ true)) rest.1.1 (
      ap (λ (m : List ℕ). value ∷ m ∷ word ∷ more) (same_bytes mark (codes "=") second.0) ∙ ap (λ (ts : List (List ℕ)). value ∷ codes "=" ∷ word ∷ ts) behind.0,
      and_from (is_named_pair p) (list_all is_named_pair rest.0) (and_from (is_name value) (is_name word) second.1 third.1) behind.1,
    )

-- what a viewpoint sends
send_sound : (tokens : List (List ℕ)) (s : Statement) → send_line tokens ≡ Some s → IsStated (codes "send" ∷ tokens) s
send_sound [] s h = absurd (none_is_not s h)
send_sound (viewpoint ∷ []) s h = absurd (none_is_not s h)
send_sound (viewpoint ∷ variable ∷ []) s h = absurd (none_is_not s h)
send_sound (viewpoint ∷ variable ∷ source ∷ tokens) s h =
    let words : Bool = is_name viewpoint && is_name variable && is_name source in
    let parts = chosen_some words (option_map (Send viewpoint variable source) (pairs_in tokens)) s h in
    let rest = mapped_some (Send viewpoint variable source) (pairs_in tokens) s parts.1 in
    let behind = pairs_sound tokens rest.0 rest.1.0 in
    subst (IsStated (codes "send" ∷ viewpoint ∷ variable ∷ source ∷ tokens)) rest.1.1
    (record { spelled = ap (λ (ts : List (List ℕ)). codes "send" ∷ viewpoint ∷ variable ∷ source ∷ ts) behind.0; named = and_from words (list_all is_named_pair rest.0) parts.0 behind.1 })

-- what it tells
told_sound : (tokens : List (List ℕ)) (t : Told) → told_in tokens ≡ Some t → (tokens ≡ told_tokens t) × (is_name (told_word t) ≡ true)
told_sound [] t h = absurd (none_is_not t h)
told_sound (name ∷ []) t h =
    let parts = chosen_some (is_name name) (Some (Named name)) t h in
    subst (λ (u : Told). (name ∷ [] ≡ told_tokens u) × (is_name (told_word u) ≡ true)) (some_same parts.1) (refl, parts.0)
told_sound (mark ∷ value ∷ []) t h =
    let parts = chosen_some (bytes_eq mark (codes "as") && is_name value) (Some (Constant value)) t h in
    let words = and_parts (bytes_eq mark (codes "as")) (is_name value) parts.0 in
    subst (λ (u : Told). (mark ∷ value ∷ [] ≡ told_tokens u) × (is_name (told_word u) ≡ true)) (some_same parts.1)
    (ap (λ (m : List ℕ). m ∷ value ∷ []) (same_bytes mark (codes "as") words.0), words.1)
told_sound (mark ∷ value ∷ other ∷ more) t h = absurd (none_is_not t h)

-- the line of what it tells
tell_sound : (tokens : List (List ℕ)) (s : Statement) → tell_line tokens ≡ Some s → IsStated (codes "tell" ∷ tokens) s
tell_sound [] s h = absurd (none_is_not s h)
tell_sound (viewpoint ∷ []) s h = absurd (none_is_not s h)
tell_sound (viewpoint ∷ prop ∷ tokens) s h =
    let words : Bool = is_name viewpoint && is_name prop in
    let parts = chosen_some words (option_map (Tell viewpoint prop) (told_in tokens)) s h in
    let rest = mapped_some (Tell viewpoint prop) (told_in tokens) s parts.1 in
    let behind = told_sound tokens rest.0 rest.1.0 in
    subst (IsStated (codes "tell" ∷ viewpoint ∷ prop ∷ tokens)) rest.1.1
    (record { spelled = ap (λ (ts : List (List ℕ)). codes "tell" ∷ viewpoint ∷ prop ∷ ts) behind.0; named = and_from words (is_name (told_word rest.0)) parts.0 behind.1 })

-- a stutter value's line
stutter_sound : (tokens : List (List ℕ)) (s : Statement) → stutter_line tokens ≡ Some s → IsStated (codes "stutter" ∷ tokens) s
stutter_sound [] s h = absurd (none_is_not s h)
stutter_sound (viewpoint ∷ []) s h = absurd (none_is_not s h)
stutter_sound (viewpoint ∷ value ∷ []) s h =
    let parts = given_some (is_name viewpoint && is_name value) (Stutter viewpoint value) s h in
    subst (IsStated (codes "stutter" ∷ viewpoint ∷ value ∷ [])) parts.1 (record { spelled = refl; named = parts.0 })
stutter_sound (viewpoint ∷ value ∷ other ∷ more) s h = absurd (none_is_not s h)

-- a row by its first word
module _ (word : List ℕ) (tokens : List (List ℕ)) (s : Statement) where
  by_word : (other : List ℕ) → (b : Bool) → bytes_eq word other ≡ b → (own rest : Option Statement)
      → (own ≡ Some s → IsStated (other ∷ tokens) s) → (rest ≡ Some s → IsStated (word ∷ tokens) s)
      → (if b then own else rest) ≡ Some s → IsStated (word ∷ tokens) s
  by_word other true e own rest here there h = subst (λ (w : List ℕ). IsStated (w ∷ tokens) s) (sym (same_bytes word other e)) (here h)
  by_word other false e own rest here there h = there h

  word_sound : word_line word tokens ≡ Some s → IsStated (word ∷ tokens) s
  unfolding word_line
  word_sound h =
      by_word (codes "map") (bytes_eq word (codes "map")) refl (map_line tokens) _ (map_sound tokens s)
      (by_word (codes "use") (bytes_eq word (codes "use")) refl (use_line tokens) _ (use_sound tokens s)
      (by_word (codes "var") (bytes_eq word (codes "var")) refl (var_line tokens) _ (var_sound tokens s)
      (by_word (codes "prop") (bytes_eq word (codes "prop")) refl (prop_line tokens) _ (prop_sound tokens s)
      (by_word (codes "send") (bytes_eq word (codes "send")) refl (send_line tokens) _ (send_sound tokens s)
      (by_word (codes "tell") (bytes_eq word (codes "tell")) refl (tell_line tokens) _ (tell_sound tokens s)
      (by_word (codes "stutter") (bytes_eq word (codes "stutter")) refl (stutter_line tokens) None (stutter_sound tokens s)
      (λ e. absurd (none_is_not s e)))))))) h

-- a row that is read is stated
line_sound : (tokens : List (List ℕ)) (s : Statement) → line tokens ≡ Some s → IsStated tokens s
unfolding line
line_sound [] s h = absurd (none_is_not s h)
line_sound (word ∷ tokens) s h = word_sound word tokens s h

-- where it is due
placed_sound : (before : List Statement) (tokens : List (List ℕ)) (o : Option Statement) (s : Statement) → line tokens ≡ o → placed before o ≡ Some s → IsDue before tokens s
placed_sound before tokens None s e h = absurd (none_is_not s h)
placed_sound before tokens (Some r) s e h =
    let parts = given_some (is_due before r) r s h in
    let own = line_sound tokens r e in
    subst (IsDue before tokens) parts.1 (record { spelled = own.spelled; named = own.named; placed = parts.0 })

-- what is decided is due
decide_sound : (before : List Statement) (tokens : List (List ℕ)) (s : Statement) → decide before tokens ≡ Some s → IsDue before tokens s
unfolding decide
decide_sound before tokens s h = placed_sound before tokens (line tokens) s refl h

-- named pairs are read
pairs_complete : (pairs : List Pair) → list_all is_named_pair pairs ≡ true → pairs_in (pair_tokens pairs) ≡ Some pairs
pairs_complete [] h = refl
pairs_complete (p ∷ more) h =
    let parts = and_parts (is_named_pair p) (list_all is_named_pair more) h in
    let words = and_parts (is_name p.from) (is_name p.to) parts.0 in
    rw (words.0, words.1, pairs_complete more parts.1)

-- what is told is read
told_complete : (t : Told) → is_name (told_word t) ≡ true → told_in (told_tokens t) ≡ Some t
told_complete (Named name) h = rw h
told_complete (Constant value) h = rw h

-- each statement with its names is read from its tokens
spelled_complete : (s : Statement) → has_names s ≡ true → line (spelling s) ≡ Some s
unfolding line word_line
spelled_complete (Map name) h = rw h
spelled_complete (Use u) h = rw h
spelled_complete (Var d) h = rw h
spelled_complete (Prop name) h = rw h
spelled_complete (Send viewpoint variable source pairs) h =
    let parts = and_parts (is_name viewpoint && is_name variable && is_name source) (list_all is_named_pair pairs) h in
    rw (parts.0, pairs_complete pairs parts.1)
spelled_complete (Tell viewpoint prop told) h =
    let parts = and_parts (is_name viewpoint && is_name prop) (is_name (told_word told)) h in
    rw (parts.0, told_complete told parts.1)
spelled_complete (Stutter viewpoint value) h = rw h

-- what is due is decided
decide_complete : (before : List Statement) (tokens : List (List ℕ)) (s : Statement) → IsDue before tokens s → decide before tokens ≡ Some s
unfolding decide
decide_complete before tokens s h = rw (h.spelled, spelled_complete s h.named, h.placed)

-- the function decides the format
pub decides : Decides map_format decide
decides = record { sound = decide_sound; complete = decide_complete }

-- The generated map uses both views.
use Rattle.std.proofs.Common.{◌≡◌, ℕ, zero, suc, Bool, true, false, not, ◌||◌, List, [], ◌∷◌, ◌++◌, get_or, codes, refl, sym, ap, subst, ◌∙◌}
use Rattle.std.specs.Str.{bytes_eq}
use Rattle.std.proofs.lemmas.Bool.{false≢true, or_parts, not-true}
use Rattle.xc_base.specs.Formats.{Row, AreStatements}
use Rattle.xc_base.specs.Formats.AreStatements.{none, next}
use Rattle.xc_sigmap_lines.specs.declared.parts.Use as viewpoints
use Rattle.xc_sigmap_lines.specs.declared.statement.Statement.{Statement}
use Rattle.xc_sigmap_lines.specs.declared.statement.Statement.TheVariants.{Map, Use, Var, Prop, Send, Tell, Stutter}
use Rattle.xc_sigmap_lines.specs.MapFiles.{MapValue, spelling, is_map, is_use, is_due, may_follow, last_of, uses_of, map_format}
use Rattle.xc_sigmap.proofs.Fair.{last_push}
use Rattle.xc_gen.specs.declared.side.Side.TheVariants.{Left, Right}
use Rattle.xc_gen.specs.Links.{use_of, UsesBothViews}
use Rattle.xc_gen.proofs.FirstRows.{behind_uses, map_front, map_begins, Split, split_first}

-- whether a statement is of those that stand behind all uses
abbrev is_behind : Statement → Bool
is_behind s = not (is_map s || is_use s)

-- whether the first token is that word, and whether it is that of a statement behind all uses
abbrev begins_with : List ℕ → List (List ℕ) → Bool
begins_with word tokens = bytes_eq (get_or tokens 0 []) word

abbrev begins_behind : List (List ℕ) → Bool
begins_behind tokens = not (begins_with (codes "map") tokens || begins_with (codes "use") tokens)

-- what a statement is, its first token tells
use_spelled : (s : Statement) → is_use s ≡ begins_with (codes "use") (spelling s)
use_spelled (Map name) = refl
use_spelled (Use u) = refl
use_spelled (Var d) = refl
use_spelled (Prop name) = refl
use_spelled (Send viewpoint variable source pairs) = refl
use_spelled (Tell viewpoint prop told) = refl
use_spelled (Stutter viewpoint value) = refl

behind_spelled : (s : Statement) → is_behind s ≡ begins_behind (spelling s)
behind_spelled (Map name) = refl
behind_spelled (Use u) = refl
behind_spelled (Var d) = refl
behind_spelled (Prop name) = refl
behind_spelled (Send viewpoint variable source pairs) = refl
behind_spelled (Tell viewpoint prop told) = refl
behind_spelled (Stutter viewpoint value) = refl

-- the uses of a statement and of those behind it
use_skipped : (s : Statement) (more : List Statement) → is_use s ≡ false → uses_of (s ∷ more) ≡ uses_of more
use_skipped (Map name) more h = refl
use_skipped (Use u) more h = cc
use_skipped (Var d) more h = refl
use_skipped (Prop name) more h = refl
use_skipped (Send viewpoint variable source pairs) more h = refl
use_skipped (Tell viewpoint prop told) more h = refl
use_skipped (Stutter viewpoint value) more h = refl

-- the use that tokens spell
abbrev use_in : List (List ℕ) → viewpoints.Use
use_in tokens = record { name = get_or tokens 1 []; file = get_or tokens 2 [] }

use_counted : (s : Statement) (more : List Statement) → is_use s ≡ true → uses_of (s ∷ more) ≡ use_in (spelling s) ∷ uses_of more
use_counted (Use u) more h = refl
use_counted (Map name) more h = cc
use_counted (Var d) more h = cc
use_counted (Prop name) more h = cc
use_counted (Send viewpoint variable source pairs) more h = cc
use_counted (Tell viewpoint prop told) more h = cc
use_counted (Stutter viewpoint value) more h = cc

-- the name may stand behind nothing, and a use behind the name and uses alone
name_first : (t : Statement) (name : List ℕ) → may_follow t (Map name) ≡ false
name_first (Map other) name = refl
name_first (Use u) name = refl
name_first (Var d) name = refl
name_first (Prop other) name = refl
name_first (Send viewpoint variable source pairs) name = refl
name_first (Tell viewpoint prop told) name = refl
name_first (Stutter viewpoint value) name = refl

use_early : (t : Statement) (u : viewpoints.Use) → is_behind t ≡ true → may_follow t (Use u) ≡ false
use_early (Map name) u h = cc
use_early (Use v) u h = cc
use_early (Var d) u h = refl
use_early (Prop name) u h = refl
use_early (Send viewpoint variable source pairs) u h = refl
use_early (Tell viewpoint prop told) u h = refl
use_early (Stutter viewpoint value) u h = refl

-- behind what stands behind all uses, neither the name nor a use may stand
follows : (t s : Statement) → is_behind t ≡ true → may_follow t s ≡ true → is_behind s ≡ true
follows t (Map name) h f = absurd (false≢true (sym (name_first t name) ∙ f))
follows t (Use u) h f = absurd (false≢true (sym (use_early t u h) ∙ f))
follows t (Var d) h f = refl
follows t (Prop name) h f = refl
follows t (Send viewpoint variable source pairs) h f = refl
follows t (Tell viewpoint prop told) h f = refl
follows t (Stutter viewpoint value) h f = refl

-- whether the last of statements stands behind all uses
abbrev ends_behind : List Statement → Bool
ends_behind [] = false
ends_behind (t ∷ more) = is_behind (last_of t more)

ends_push : (before : List Statement) (s : Statement) → ends_behind (before ++ s ∷ []) ≡ is_behind s
ends_push [] s = refl
ends_push (t ∷ more) s = ap is_behind (last_push t more s)

-- what is due behind such a statement is one too, and no use
due_behind : (before : List Statement) (s : Statement) → ends_behind before ≡ true → is_due before s ≡ true → is_behind s ≡ true
due_behind [] s h d = cc
due_behind (t ∷ more) s h d = follows (last_of t more) s h d

no_use : (s : Statement) → is_behind s ≡ true → is_use s ≡ false
no_use s h = (or_parts (is_map s) (is_use s) (not-true _ h)).1

-- behind that no viewpoint is used
none_used : {before : List Statement} {rows : List Row} {ss : List Statement} → AreStatements map_format before rows ss → ends_behind before ≡ true → uses_of ss ≡ []
none_used (none before) h = refl
none_used (next before row rows s more first rest) h =
    let p = due_behind before s h first.due.placed in
    use_skipped s more (no_use s p) ∙ none_used rest (ends_push before s ∙ p)

-- the uses by the tokens of the first row: a use, or none
use_taken : {before : List Statement} {first : Row} {rows : List Row} {ss : List Statement} (p : Split map_format before first rows ss) → begins_with (codes "use") first.tokens ≡ true → uses_of ss ≡ use_in first.tokens ∷ uses_of p.more
use_taken p h =
    let spelled = sym p.faultless.due.spelled in
    ap uses_of p.parts
    ∙ use_counted p.head p.more (use_spelled p.head ∙ ap (begins_with (codes "use")) spelled ∙ h)
    ∙ ap (λ (tokens : List (List ℕ)). use_in tokens ∷ uses_of p.more) spelled

use_passed : {before : List Statement} {first : Row} {rows : List Row} {ss : List Statement} (p : Split map_format before first rows ss) → begins_with (codes "use") first.tokens ≡ false → uses_of ss ≡ uses_of p.more
use_passed p h =
    ap uses_of p.parts ∙ use_skipped p.head p.more (use_spelled p.head ∙ ap (begins_with (codes "use")) (sym p.faultless.due.spelled) ∙ h)

-- the row behind the two uses is none
behind_begins : (size : ℕ) → begins_behind (behind_uses size) ≡ true
behind_begins zero = refl
behind_begins (suc size) = refl

no_use_begins : (size : ℕ) → begins_with (codes "use") (behind_uses size) ≡ false
no_use_begins zero = refl
no_use_begins (suc size) = refl

-- by the first rows the uses are known
uses_read : (size : ℕ) (back : List Row) (ss : List Statement) → AreStatements map_format [] (map_front size ++ back) ss → uses_of ss ≡ use_of Left ∷ use_of Right ∷ []
uses_read size back ss h =
    let name = split_first h in
    let left = split_first name.rest in
    let right = split_first left.rest in
    let last = split_first right.rest in
    let behind : is_behind last.head ≡ true = behind_spelled last.head ∙ ap begins_behind (sym last.faultless.due.spelled) ∙ behind_begins size in
    use_passed name refl ∙ use_taken left refl
    ∙ ap (λ (us : List viewpoints.Use). use_of Left ∷ us)
    (use_taken right refl ∙ ap (λ (us : List viewpoints.Use). use_of Right ∷ us) (use_passed last (no_use_begins size) ∙ none_used last.rest behind))

-- whatever the map is read as, it uses both views
pub uses_both_views : (size : ℕ) → UsesBothViews size
uses_both_views size plan h =
    let begins = map_begins size in
    ap (λ (m : MapValue). m.uses) h.says
    ∙ uses_read size begins.back h.statements (subst (λ (rows : List Row). AreStatements map_format [] rows h.statements) begins.parts h.read)

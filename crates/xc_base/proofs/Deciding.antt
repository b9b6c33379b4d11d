-- What the deciding function gives is what the relations on files say.
use Rattle.std.proofs.Common.{◌≡◌, ℕ, Bool, true, false, cond, List, [], ◌∷◌, ◌++◌, Option, Some, None, Result, Ok, Err, refl, sym, ◌∙◌, ap, subst, append_assoc, ◌⊎◌, inl, inr}
use Rattle.xc_base.specs.declared.fault.Part.{Part}
use Rattle.xc_base.specs.declared.fault.FileFault.{FileFault}
use Rattle.xc_base.specs.declared.fault.FileFault.TheVariants.{NoStatement, Repeated, Unknown, Count, Missing}
use Rattle.xc_base.specs.Formats.{Format, Row, Excess, IsFaultless, HasFault, AreStatements, IsFirstFault}
use Rattle.xc_base.specs.Formats.HasFault.{no_statement, repeated, unknown, count}
use Rattle.xc_base.specs.Formats.AreStatements.{none, next}
use Rattle.xc_base.specs.Formats.IsFirstFault.{in_row, lacking}
use Rattle.xc_base.specs.Judging.{AreWhole, GivesStatements, GivesFaults, StatementsAreUnique, FirstFaultsAreUnique, AcceptedHasNoFault, EachIsJudged}
use Rattle.xc_base.specs.Deciding.{Decides, excess_fault, statement_fault, unless, judged, line_of, on_ok, statements_of, whole, file_of}

-- what is no option's value and what is one differ
none_is_not : {X : Type 0} (x : X) → None ≡ Some x → ⊥
none_is_not x e = cc

-- one row
module _ {S V : Type 0} (format : Format S V) (decide : List S → List (List ℕ) → Option S) where
  -- the fault of a due statement, by what is asked of it in turn
  fault_is_none : (before : List S) (number : ℕ) (s : S) → format.repeated before s ≡ false → format.unknown before s ≡ false → format.count before s ≡ None → statement_fault format before number s ≡ None
  unfolding statement_fault
  fault_is_none before number s r u c = rw (r, u, c)

  fault_is_repeated : (before : List S) (number : ℕ) (s : S) → format.repeated before s ≡ true → statement_fault format before number s ≡ Some (Repeated number)
  unfolding statement_fault
  fault_is_repeated before number s r = rw r

  fault_is_unknown : (before : List S) (number : ℕ) (s : S) → format.repeated before s ≡ false → format.unknown before s ≡ true → statement_fault format before number s ≡ Some (Unknown number)
  unfolding statement_fault
  fault_is_unknown before number s r u = rw (r, u)

  fault_is_count : (before : List S) (number : ℕ) (s : S) (e : Excess) → format.repeated before s ≡ false → format.unknown before s ≡ false → format.count before s ≡ Some e → statement_fault format before number s ≡ Some (Count number e.what e.found)
  unfolding statement_fault
  fault_is_count before number s e r u c = rw (r, u, c)

  line_of-none : (before : List S) (row : Row) → decide before row.tokens ≡ None → line_of format decide before row ≡ Err (NoStatement row.number)
  unfolding line_of
  line_of-none before row h = rw h

  line_of-ok : (before : List S) (row : Row) (s : S) → decide before row.tokens ≡ Some s → statement_fault format before row.number s ≡ None → line_of format decide before row ≡ Ok s
  unfolding line_of
  line_of-ok before row s h k = rw (h, k)

  line_of-err : (before : List S) (row : Row) (s : S) (f : FileFault) → decide before row.tokens ≡ Some s → statement_fault format before row.number s ≡ Some f → line_of format decide before row ≡ Err f
  unfolding line_of
  line_of-err before row s f h k = rw (h, k)

-- a statement without a fault passes each test
fault_none : (r u : Bool) (c : Option Excess) (n : ℕ) → cond r (Some (Repeated n)) (cond u (Some (Unknown n)) (excess_fault n c)) ≡ None → (r ≡ false) × (u ≡ false) × (c ≡ None)
fault_none true u c n e = absurd (none_is_not (Repeated n) (sym e))
fault_none false true c n e = absurd (none_is_not (Unknown n) (sym e))
fault_none false false (Some x) n e = absurd (none_is_not (Count n x.what x.found) (sym e))
fault_none false false None n e = (refl, refl, refl)

some_same : {X : Type 0} {x y : X} → Some x ≡ Some y → x ≡ y
some_same e = cc

module _ {S V : Type 0} (format : Format S V) (decide : List S → List (List ℕ) → Option S) where
  -- the fault that a due statement has, by the outcomes of the tests
  fault_some :
      (before : List S) (row : Row) (s : S) → format.Due before row.tokens s
      → (r u : Bool) (c : Option Excess) → format.repeated before s ≡ r → format.unknown before s ≡ u → format.count before s ≡ c
      → (f : FileFault) → cond r (Some (Repeated row.number)) (cond u (Some (Unknown row.number)) (excess_fault row.number c)) ≡ Some f
      → HasFault format before row f
  fault_some before row s due true u c er eu ec f e = subst (HasFault format before row) (some_same e) (repeated s due er)
  fault_some before row s due false true c er eu ec f e = subst (HasFault format before row) (some_same e) (unknown s due er eu)
  fault_some before row s due false false (Some x) er eu ec f e = subst (HasFault format before row) (some_same e) (count s x due er eu ec)
  fault_some before row s due false false None er eu ec f e = absurd (none_is_not f e)

  due_is_faultless : (before : List S) (row : Row) (s : S) → format.Due before row.tokens s → statement_fault format before row.number s ≡ None → IsFaultless format before row.tokens s
  unfolding statement_fault
  due_is_faultless before row s due e =
      let parts = fault_none (format.repeated before s) (format.unknown before s) (format.count before s) row.number e in
      record { due = due; first = parts.0; known = parts.1; few = parts.2 }

  due_has_fault : (before : List S) (row : Row) (s : S) (f : FileFault) → format.Due before row.tokens s → statement_fault format before row.number s ≡ Some f → HasFault format before row f
  unfolding statement_fault
  due_has_fault before row s f due e =
      fault_some before row s due (format.repeated before s) (format.unknown before s) (format.count before s) refl refl refl f e

ok_same : {X Y : Type 0} {x y : X} → ◌≡◌ {A = Result X Y} (Ok x) (Ok y) → x ≡ y
ok_same e = cc

err_same : {X Y : Type 0} {x y : Y} → ◌≡◌ {A = Result X Y} (Err x) (Err y) → x ≡ y
err_same e = cc

ok_is_not : {X Y : Type 0} (x : X) (y : Y) → Ok x ≡ Err y → ⊥
ok_is_not x y e = cc

-- rows judged by a function that decides
module _ {S V : Type 0} (format : Format S V) (decide : List S → List (List ℕ) → Option S) (decides : Decides format decide) where
  unless_ok : (before : List S) (row : Row) (s t : S) (o : Option FileFault) → format.Due before row.tokens s → statement_fault format before row.number s ≡ o → unless o s ≡ Ok t → IsFaultless format before row.tokens t
  unless_ok before row s t None due e h = subst (IsFaultless format before row.tokens) (ok_same h) (due_is_faultless format decide before row s due e)
  unless_ok before row s t (Some f) due e h = absurd (ok_is_not t f (sym h))

  unless_err : (before : List S) (row : Row) (s : S) (f : FileFault) (o : Option FileFault) → format.Due before row.tokens s → statement_fault format before row.number s ≡ o → unless o s ≡ Err f → HasFault format before row f
  unless_err before row s f None due e h = absurd (ok_is_not s f h)
  unless_err before row s f (Some g) due e h = subst (HasFault format before row) (err_same h) (due_has_fault format decide before row s g due e)

  judged_ok : (before : List S) (row : Row) (t : S) (o : Option S) → decide before row.tokens ≡ o → judged format before row.number o ≡ Ok t → IsFaultless format before row.tokens t
  judged_ok before row t None e h = absurd (ok_is_not t (NoStatement row.number) (sym h))
  judged_ok before row t (Some s) e h = unless_ok before row s t (statement_fault format before row.number s) (decides.sound before row.tokens s e) refl h

  judged_err : (before : List S) (row : Row) (f : FileFault) (o : Option S) → decide before row.tokens ≡ o → judged format before row.number o ≡ Err f → HasFault format before row f
  judged_err before row f None e h =
      subst (HasFault format before row) (err_same h)
      (no_statement (λ s due. none_is_not s (sym e ∙ decides.complete before row.tokens s due)))
  judged_err before row f (Some s) e h = unless_err before row s f (statement_fault format before row.number s) (decides.sound before row.tokens s e) refl h

  pub line_sound : (before : List S) (row : Row) (s : S) → line_of format decide before row ≡ Ok s → IsFaultless format before row.tokens s
  unfolding line_of
  line_sound before row s h = judged_ok before row s (decide before row.tokens) refl h

  line_fault_sound : (before : List S) (row : Row) (f : FileFault) → line_of format decide before row ≡ Err f → HasFault format before row f
  unfolding line_of
  line_fault_sound before row f h = judged_err before row f (decide before row.tokens) refl h

  line_complete : (before : List S) (row : Row) (s : S) → IsFaultless format before row.tokens s → line_of format decide before row ≡ Ok s
  line_complete before row s h =
      line_of-ok format decide before row s (decides.complete before row.tokens s h.due)
      (fault_is_none format decide before row.number s h.first h.known h.few)

  none_decided : (before : List S) (tokens : List (List ℕ)) (o : Option S) → decide before tokens ≡ o → ((s : S) → format.Due before tokens s → ⊥) → decide before tokens ≡ None
  none_decided before tokens None e not_due = e
  none_decided before tokens (Some s) e not_due = absurd (not_due s (decides.sound before tokens s e))

  line_fault_complete : {f : FileFault} (before : List S) (row : Row) → HasFault format before row f → line_of format decide before row ≡ Err f
  line_fault_complete before row (no_statement not_due) =
      line_of-none format decide before row (none_decided before row.tokens (decide before row.tokens) refl not_due)
  line_fault_complete before row (repeated s due r) =
      line_of-err format decide before row s (Repeated row.number) (decides.complete before row.tokens s due)
      (fault_is_repeated format decide before row.number s r)
  line_fault_complete before row (unknown s due r u) =
      line_of-err format decide before row s (Unknown row.number) (decides.complete before row.tokens s due)
      (fault_is_unknown format decide before row.number s r u)
  line_fault_complete before row (count s e due r u c) =
      line_of-err format decide before row s (Count row.number e.what e.found) (decides.complete before row.tokens s due)
      (fault_is_count format decide before row.number s e r u c)

-- What a list of rows is after the statements before it: the statements of all rows, and what they are a front of.
pub record Read {S V : Type 0} (format : Format S V) (before : List S) (rows : List Row) (all : List S) : Type 0 where
  pub more : List S
  pub together : all ≡ before ++ more
  pub statements : AreStatements format before rows more

-- the rows before the first row with a fault, with the statements of these
pub record Stopped {S V : Type 0} (format : Format S V) (before : List S) (rows : List Row) (fault : FileFault) : Type 0 where
  pub front : List Row
  pub row : Row
  pub back : List Row
  pub more : List S
  pub parts : rows ≡ front ++ row ∷ back
  pub statements : AreStatements format before front more
  pub stops : HasFault format (before ++ more) row fault

append_nil_sym : {X : Type 0} (xs : List X) → xs ≡ xs ++ []
append_nil_sym [] = refl
append_nil_sym (x ∷ xs) = ap (λ ys. x ∷ ys) (append_nil_sym xs)

module _ {S V : Type 0} (format : Format S V) (decide : List S → List (List ℕ) → Option S) where
  -- the steps of a reader
  pub statements_of-end : (before : List S) → statements_of format decide before [] ≡ Ok before
  unfolding statements_of
  statements_of-end before = refl

  pub statements_of-next : (before : List S) (row : Row) (rows : List Row) (s : S) → line_of format decide before row ≡ Ok s → statements_of format decide before (row ∷ rows) ≡ statements_of format decide (before ++ s ∷ []) rows
  unfolding statements_of
  statements_of-next before row rows s h = rw h

  pub statements_of-stops : (before : List S) (row : Row) (rows : List Row) (f : FileFault) → line_of format decide before row ≡ Err f → statements_of format decide before (row ∷ rows) ≡ Err f
  unfolding statements_of
  statements_of-stops before row rows f h = rw h

module _ {S V : Type 0} (format : Format S V) (decide : List S → List (List ℕ) → Option S) (decides : Decides format decide) where
  on_read : (before : List S) (row : Row) (rows : List Row) (s : S) (all : List S) → IsFaultless format before row.tokens s → Read format (before ++ s ∷ []) rows all → Read format before (row ∷ rows) all
  on_read before row rows s all first rest =
      record { more = s ∷ rest.more; together = rest.together ∙ append_assoc before (s ∷ []) rest.more; statements = next before row rows s rest.more first rest.statements }

  on_stopped : (before : List S) (row : Row) (rows : List Row) (s : S) (f : FileFault) → IsFaultless format before row.tokens s → Stopped format (before ++ s ∷ []) rows f → Stopped format before (row ∷ rows) f
  on_stopped before row rows s f first rest =
      record {
        front = row ∷ rest.front;
        row = rest.row;
        back = rest.back;
        more = s ∷ rest.more;
        parts = ap (λ rs. row ∷ rs) rest.parts;
        statements = next before row rest.front s rest.more first rest.statements;
        stops = subst (λ b. HasFault format b rest.row f) (append_assoc before (s ∷ []) rest.more) rest.stops;
      }

  stops_here : (before : List S) (row : Row) (rows : List Row) (f : FileFault) → HasFault format before row f → Stopped format before (row ∷ rows) f
  stops_here before row rows f h =
      record { front = []; row = row; back = rows; more = []; parts = refl; statements = none before; stops = subst (λ b. HasFault format b row f) (append_nil_sym before) h }

  -- what the function gives is read
  read_after : (before : List S) (row : Row) (rows : List Row) (all : List S) (o : Result S FileFault)
      → ((s : S) → statements_of format decide (before ++ s ∷ []) rows ≡ Ok all → Read format (before ++ s ∷ []) rows all)
      → line_of format decide before row ≡ o → on_ok o (λ s. statements_of format decide (before ++ s ∷ []) rows) ≡ Ok all → Read format before (row ∷ rows) all
  read_after before row rows all (Ok s) ih e h = on_read before row rows s all (line_sound format decide decides before row s e) (ih s h)
  read_after before row rows all (Err f) ih e h = absurd (ok_is_not all f (sym h))

  pub statements_sound : (before : List S) (rows : List Row) (all : List S) → statements_of format decide before rows ≡ Ok all → Read format before rows all
  unfolding statements_of
  statements_sound before [] all h = record { more = []; together = sym (ok_same h) ∙ append_nil_sym before; statements = none before }
  statements_sound before (row ∷ rows) all h =
      read_after before row rows all (line_of format decide before row) (λ s. statements_sound (before ++ s ∷ []) rows all) refl h

  stopped_after : (before : List S) (row : Row) (rows : List Row) (f : FileFault) (o : Result S FileFault)
      → ((s : S) → statements_of format decide (before ++ s ∷ []) rows ≡ Err f → Stopped format (before ++ s ∷ []) rows f)
      → line_of format decide before row ≡ o → on_ok o (λ s. statements_of format decide (before ++ s ∷ []) rows) ≡ Err f → Stopped format before (row ∷ rows) f
  stopped_after before row rows f (Ok s) ih e h = on_stopped before row rows s f (line_sound format decide decides before row s e) (ih s h)
  stopped_after before row rows f (Err g) ih e h =
      stops_here before row rows f (line_fault_sound format decide decides before row f (e ∙ ap Err (err_same h)))

  pub statements_fault_sound : (before : List S) (rows : List Row) (f : FileFault) → statements_of format decide before rows ≡ Err f → Stopped format before rows f
  unfolding statements_of
  statements_fault_sound before [] f h = absurd (ok_is_not before f h)
  statements_fault_sound before (row ∷ rows) f h =
      stopped_after before row rows f (line_of format decide before row) (λ s. statements_fault_sound (before ++ s ∷ []) rows f) refl h

  -- and what is read, the function gives
  pub statements_complete : {before : List S} {front : List Row} {more : List S} (back : List Row) → AreStatements format before front more → statements_of format decide before (front ++ back) ≡ statements_of format decide (before ++ more) back
  statements_complete back (none before) = ap (λ b. statements_of format decide b back) (append_nil_sym before)
  statements_complete back (next before row rows s more first rest) =
      statements_of-next format decide before row (rows ++ back) s (line_complete format decide decides before row s first)
      ∙ statements_complete back rest
      ∙ ap (λ b. statements_of format decide b back) (append_assoc before (s ∷ []) more)

  pub file_of-ok : (rows : List Row) (statements : List S) → AreStatements format [] rows statements → format.missing statements ≡ None → file_of format decide rows ≡ Ok statements
  unfolding file_of
  file_of-ok rows statements h m =
      let all : statements_of format decide [] rows ≡ Ok statements =
      ap (statements_of format decide []) (append_nil_sym rows) ∙ statements_complete [] h ∙ statements_of-end format decide statements in
      rw (all, m)

  pub file_of-lacking : (rows : List Row) (statements : List S) (part : Part) → AreStatements format [] rows statements → format.missing statements ≡ Some part → file_of format decide rows ≡ Err (Missing part)
  unfolding file_of
  file_of-lacking rows statements part h m =
      let all : statements_of format decide [] rows ≡ Ok statements =
      ap (statements_of format decide []) (append_nil_sym rows) ∙ statements_complete [] h ∙ statements_of-end format decide statements in
      rw (all, m)

  pub file_of-in_row : (rows front : List Row) (row : Row) (back : List Row) (before : List S) (f : FileFault) → rows ≡ front ++ row ∷ back → AreStatements format [] front before → HasFault format before row f → file_of format decide rows ≡ Err f
  unfolding file_of
  file_of-in_row rows front row back before f e h k =
      let all : statements_of format decide [] rows ≡ Err f =
      ap (statements_of format decide []) e ∙ statements_complete (row ∷ back) h
      ∙ statements_of-stops format decide before row back f (line_fault_complete format decide decides before row k) in
      rw all

  -- the first fault is the function's
  pub first_fault_given : {f : FileFault} (rows : List Row) → IsFirstFault format rows f → file_of format decide rows ≡ Err f
  first_fault_given rows (in_row front row back before fault e h k) = file_of-in_row rows front row back before fault e h k
  first_fault_given rows (lacking statements part h m) = file_of-lacking rows statements part h m

  first_fault_of_stopped : (rows : List Row) (f : FileFault) → Stopped format [] rows f → IsFirstFault format rows f
  first_fault_of_stopped rows f h = in_row h.front h.row h.back h.more f h.parts h.statements h.stops

  statements_of_read : (rows : List Row) (all : List S) → Read format [] rows all → AreStatements format [] rows all
  statements_of_read rows all h = subst (AreStatements format [] rows) (sym h.together) h.statements

  -- the function's answer on a whole file
  whole_ok : (all ss : List S) (o : Option Part) → whole o all ≡ Ok ss → (all ≡ ss) × (o ≡ None)
  whole_ok all ss None h = (ok_same h, refl)
  whole_ok all ss (Some part) h = absurd (ok_is_not ss (Missing part) (sym h))

  whole_err : (all : List S) (f : FileFault) (o : Option Part) → whole o all ≡ Err f → (part : Part) × (o ≡ Some part) × (Missing part ≡ f)
  whole_err all f None h = absurd (ok_is_not all f h)
  whole_err all f (Some part) h = (part, refl, err_same h)

  sound_after : (rows : List Row) (ss : List S) (o : Result (List S) FileFault) → statements_of format decide [] rows ≡ o → on_ok o (λ all. whole (format.missing all) all) ≡ Ok ss → AreWhole format rows ss
  sound_after rows ss (Err f) e h = absurd (ok_is_not ss f (sym h))
  sound_after rows ss (Ok all) e h =
      let parts = whole_ok all ss (format.missing all) h in
      record {
        read = subst (AreStatements format [] rows) parts.0 (statements_of_read rows all (statements_sound [] rows all e));
        whole = subst (λ (xs : List S). format.missing xs ≡ None) parts.0 parts.1;
      }

  lacking_of : (rows : List Row) (all : List S) (f : FileFault) → AreStatements format [] rows all → (part : Part) × (format.missing all ≡ Some part) × (Missing part ≡ f) → IsFirstFault format rows f
  lacking_of rows all f h p = subst (IsFirstFault format rows) p.2 (lacking all p.0 h p.1)

  fault_after : (rows : List Row) (f : FileFault) (o : Result (List S) FileFault) → statements_of format decide [] rows ≡ o → on_ok o (λ all. whole (format.missing all) all) ≡ Err f → IsFirstFault format rows f
  fault_after rows f (Err g) e h = first_fault_of_stopped rows f (statements_fault_sound [] rows f (e ∙ ap Err (err_same h)))
  fault_after rows f (Ok all) e h =
      lacking_of rows all f (statements_of_read rows all (statements_sound [] rows all e)) (whole_err all f (format.missing all) h)

  file_sound : (rows : List Row) (ss : List S) → file_of format decide rows ≡ Ok ss → AreWhole format rows ss
  unfolding file_of
  file_sound rows ss h = sound_after rows ss (statements_of format decide [] rows) refl h

  file_fault_sound : (rows : List Row) (f : FileFault) → file_of format decide rows ≡ Err f → IsFirstFault format rows f
  unfolding file_of
  file_fault_sound rows f h = fault_after rows f (statements_of format decide [] rows) refl h

  pub gives_statements : GivesStatements format decide
  gives_statements rows ss = (file_sound rows ss, λ h. file_of-ok rows ss h.read h.whole)

  pub gives_faults : GivesFaults format decide
  gives_faults rows f = (file_fault_sound rows f, first_fault_given rows)

  all_of : (rows : List Row) (ss : List S) → AreStatements format [] rows ss → statements_of format decide [] rows ≡ Ok ss
  all_of rows ss h = ap (statements_of format decide []) (append_nil_sym rows) ∙ statements_complete [] h ∙ statements_of-end format decide ss

  pub statements_are_unique : StatementsAreUnique format
  statements_are_unique rows ss ts hs ht = ok_same (sym (all_of rows ss hs) ∙ all_of rows ts ht)

  pub first_faults_are_unique : FirstFaultsAreUnique format
  first_faults_are_unique rows f g hf hg = err_same (sym (first_fault_given rows hf) ∙ first_fault_given rows hg)

  pub accepted_has_no_fault : AcceptedHasNoFault format
  accepted_has_no_fault rows v f h k =
      ok_is_not h.statements f (sym (file_of-ok rows h.statements h.read h.whole) ∙ first_fault_given rows k)

  judged_by : (rows : List Row) (o : Result (List S) FileFault) → file_of format decide rows ≡ o → ((ss : List S) × AreWhole format rows ss) ⊎ ((f : FileFault) × IsFirstFault format rows f)
  judged_by rows (Ok ss) e = inl (ss, file_sound rows ss e)
  judged_by rows (Err f) e = inr (f, file_fault_sound rows f e)

  pub each_is_judged : EachIsJudged format
  each_is_judged rows = judged_by rows (file_of format decide rows) refl

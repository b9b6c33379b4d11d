-- What a line carries, value after value, and which propositions a viewpoint tells, one after another.
use Rattle.std.proofs.Common.{◌≡◌, ℕ, suc, ◌+◌, ◌-◌, ◌<◌, ◌≤◌, Bool, true, false, cond, ◌&&◌, List, [], ◌∷◌, ◌++◌, length, Option, Some, refl, sym, ◌∙◌, ap, subst, arith}
use Rattle.std.proofs.lemmas.Bool.{and_parts, ltb-true}
use Rattle.std.specs.List.{list_all, find, flat_map, range_with_len}
use Rattle.xc_base.specs.Names.{is_among}
use Rattle.xc_forms.specs.Variables.{values_at}
use Rattle.xc_forms.specs.declared.domain.Domain.{Domain}
use Rattle.xc_sigmap_lines.specs.MapFiles.{MapValue}
use Rattle.xc_sigmap.specs.Sound.{is_sound, is_send_in}
use Rattle.xc_sigmap_lines.specs.declared.parts.SendLine.{SendLine}
use Rattle.xc_merge.specs.Projections.{sends, line_for, carried_word}
use Rattle.xc_merge.specs.Faults.{carries_all, IsFirstOf}
use Rattle.xc_merge.specs.Finding.{carries_from, untold_by, untold}
use Rattle.xc_merge.specs.declared.fault.MergeFault.{MergeFault}
use Rattle.xc_merge.proofs.Steps.{first_in_front}

-- the first of some numbers, and the others
pub range_more : (k n : ℕ) → k < n → range_with_len k (n - k) ≡ k ∷ range_with_len (k + 1) (n - (k + 1))
range_more k n h = let e : n - k ≡ suc (n - (k + 1)) = omega arith in rw e refl

pub carries_more : (plan : MapValue) (d : Domain) (line : SendLine) (k : ℕ) → k < length (values_at plan.vars line.from) → carries_from plan d line k ≡ (is_among d.values (carried_word plan line k) && carries_from plan d line (k + 1))
unfolding carries_from
carries_more plan d line k h = ap (list_all (λ i. is_among d.values (carried_word plan line i))) (range_more k (length (values_at plan.vars line.from)) h)

pub carries_none : (plan : MapValue) (d : Domain) (line : SendLine) (k : ℕ) → length (values_at plan.vars line.from) ≤ k → carries_from plan d line k ≡ true
unfolding carries_from
carries_none plan d line k h = let e : length (values_at plan.vars line.from) - k ≡ 0 = omega arith in rw e refl

pub carries_every : (plan : MapValue) (d : Domain) (line : SendLine) → carries_from plan d line 0 ≡ carries_all plan d line
unfolding carries_from
carries_every plan d line = let e : length (values_at plan.vars line.from) - 0 ≡ length (values_at plan.vars line.from) = omega arith in rw e refl

pub ruleset carries_steps = (carries_more, carries_none, carries_every)

-- what is found among items that pass passes
first_passes : {X : Type 0} (p : X → Bool) (b : Bool) (x a : X) (rest : Option X) → p x ≡ true → cond b (Some x) rest ≡ Some a → (rest ≡ Some a → p a ≡ true) → p a ≡ true
first_passes p true x a rest h e k = let same : x ≡ a = cc in rw (sym same) h
first_passes p false x a rest h e k = k e

pub found_passes : {X : Type 0} (p q : X → Bool) (xs : List X) (a : X) → list_all p xs ≡ true → find q xs ≡ Some a → p a ≡ true
found_passes p q [] a h e = cc
found_passes p q (x ∷ xs) a h e = first_passes p (q x) x a (find q xs) ((and_parts (p x) (list_all p xs) h).0) e (found_passes p q xs a ((and_parts (p x) (list_all p xs) h).1))

-- a line of a sound map reads a variable that is there
sound_sends : (plan : MapValue) → is_sound plan ≡ true → list_all (is_send_in plan) plan.sends ≡ true
sound_sends plan h =
    let told = (and_parts _ _ h).1 in
    let five = (and_parts _ _ told).0 in
    let four = (and_parts _ _ five).0 in
    let three = (and_parts _ _ four).0 in
    let two = (and_parts _ _ three).0 in
    (and_parts _ _ two).0

pub line_in_range : (plan : MapValue) (v : ℕ) (name : List ℕ) (line : SendLine) → is_sound plan ≡ true → line_for plan v name ≡ Some line → line.from < length plan.vars
line_in_range plan v name line h e =
    let passed = found_passes (is_send_in plan) (sends v name) plan.sends line (sound_sends plan h) e in
    let four = (and_parts _ _ passed).0 in
    let three = (and_parts _ _ four).0 in
    ltb-true line.from (length plan.vars) (and_parts _ _ three).1

-- the propositions that a viewpoint does not tell, from one on
pub untold_more : (viewpoint : List ℕ) (plan : MapValue) (v k n : ℕ) → k < n → untold_by viewpoint plan v k ≡ [] → untold viewpoint plan v (k + 1) (n - (k + 1)) ≡ untold viewpoint plan v k (n - k)
unfolding untold
untold_more viewpoint plan v k n h e = sym (ap (flat_map (untold_by viewpoint plan v)) (range_more k n h) ∙ ap (λ (front : List MergeFault). front ++ flat_map (untold_by viewpoint plan v) (range_with_len (k + 1) (n - (k + 1)))) e)

pub untold_stop : (viewpoint : List ℕ) (plan : MapValue) (v k n : ℕ) (fault : MergeFault) (all : List MergeFault) → k < n → untold viewpoint plan v k (n - k) ≡ all → IsFirstOf (untold_by viewpoint plan v k) fault → IsFirstOf all fault
unfolding untold
untold_stop viewpoint plan v k n fault all h same first =
    let P : List MergeFault → Type 0 = λ faults. IsFirstOf faults fault in
    subst P (sym (ap (flat_map (untold_by viewpoint plan v)) (range_more k n h)) ∙ same) (first_in_front (untold_by viewpoint plan v k) (flat_map (untold_by viewpoint plan v) (range_with_len (k + 1) (n - (k + 1)))) fault first)

pub untold_none : (viewpoint : List ℕ) (plan : MapValue) (v k n : ℕ) → n ≤ k → untold viewpoint plan v k (n - k) ≡ []
unfolding untold
untold_none viewpoint plan v k n h = let e : n - k ≡ 0 = omega arith in rw e refl

pub untold_start : (viewpoint : List ℕ) (plan : MapValue) (v n : ℕ) → untold viewpoint plan v 0 (n - 0) ≡ untold viewpoint plan v 0 n
untold_start viewpoint plan v n = let e : n - 0 ≡ n = omega arith in rw e refl

pub ruleset untold_steps = (untold_more, untold_stop, untold_none, untold_start)

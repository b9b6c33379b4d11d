-- No line of a map's canonical text is too long.
use Rattle.std.proofs.Common.{◌≡◌, ℕ, zero, suc, ◌*◌, ◌<◌, ◌≤◌, ◌==◌, Bool, true, false, ◌&&◌, ◌||◌, nat_lt, nat_le, List, [], ◌∷◌, ◌++◌, map, length, None, refl, sym, ◌∙◌, ap, subst, arith}
use Rattle.std.specs.List.{list_any, list_all, IsDistinct, AllByRecursion}
use Rattle.std.proofs.lemmas.Bool.{and_parts, and_from, or_parts, le-leb, leb-true, ltb-true, not-true, ne_eqb, eq-eqb, eqb-true}
use Rattle.std.proofs.lemmas.List.{length-map}
use Rattle.std.proofs.lemmas.List.Folds.{list_all-append}
use Rattle.std.proofs.lemmas.Map.Steps.{length-le_from_distinct_below}
use Rattle.std.proofs.Math.Dec.{eqb}
use Rattle.xc_base.specs.Words.{is_word, is_name, is_file_word}
use Rattle.xc_base.specs.Canonical.{canonical, is_short}
use Rattle.xc_base.specs.Text.{text_fault}
use Rattle.xc_base.proofs.CanonicalTexts.{canonical_is_sound}
use Rattle.xc_forms.specs.Variables.{values_at, is_domain}
use Rattle.xc_forms.specs.VariableNames.{is_variable_name, is_value_name}
use Rattle.xc_forms.specs.declared.domain.Domain.{Domain}
use Rattle.xc_forms.proofs.Short.{size, name_size, values_size, short_by}
use Rattle.xc_sigmap_lines.specs.declared.parts.Carry.{Carry}
use Rattle.xc_sigmap_lines.specs.declared.parts.SendLine.{SendLine}
use Rattle.xc_sigmap_lines.specs.declared.parts.Told.TheVariants.{Named, Constant}
use Rattle.xc_sigmap_lines.specs.declared.statement.Pair.{Pair}
use Rattle.xc_sigmap_lines.specs.declared.statement.Statement.{Statement}
use Rattle.xc_sigmap_lines.specs.declared.statement.Statement.TheVariants.{Map, Use, Var, Prop, Send, Tell, Stutter}
use Rattle.xc_sigmap_lines.specs.MapFiles.{MapValue, spelling, has_names, is_named_pair, pair_tokens}
use Rattle.xc_sigmap.specs.Sound.{has_two, is_carry_in, is_send_in, same_value, is_sound}
use Rattle.xc_sigmap_text.specs.Printing.{paired, sending, telling, stuttering, statements_in, map_lines}
use Rattle.xc_sigmap_text.proofs.Restating.{AreFaultless}
use Rattle.xc_sigmap_text.proofs.Again.{all_faultless, are_sound, told}
use Rattle.xc_sigmap_text.proofs.Rereading.{map_is_lines}

pairs_size : (ps : List Pair) → list_all is_named_pair ps ≡ true → size (pair_tokens ps) ≤ 68 * length ps
unfolding size
pairs_size [] h = omega arith
pairs_size (p ∷ ps) h =
    let parts = and_parts (is_named_pair p) (list_all is_named_pair ps) h in
    let words = and_parts (is_name p.from) (is_name p.to) parts.0 in
    let first = name_size p.from words.0 in
    let second = name_size p.to words.1 in
    let rest = pairs_size ps parts.1 in
    omega arith

-- a statement with few values and few pairs
is_small : Statement → Bool
is_small (Map name) = true
is_small (Use u) = true
is_small (Var d) = nat_le (length d.values) 16
is_small (Prop name) = true
is_small (Send viewpoint variable source pairs) = nat_le (length pairs) 16
is_small (Tell viewpoint prop what) = true
is_small (Stutter viewpoint value) = true

small_is_short : (s : Statement) → has_names s ≡ true → is_small s ≡ true → is_short (spelling s) ≡ true
unfolding size is_small
small_is_short (Map name) h k = let a = name_size name h in short_by (spelling (Map name)) (omega arith)
small_is_short (Use u) h k =
    let parts = and_parts (is_name u.name) (is_file_word u.file) h in
    let a = name_size u.name parts.0 in
    let b = leb-true (length u.file) 255 (and_parts (is_word u.file) (nat_le (length u.file) 255) parts.1).1 in
    short_by (spelling (Use u)) (omega arith)
small_is_short (Var d) h k =
    let parts = and_parts (is_variable_name d.name) (nat_lt 0 (length d.values) && list_all is_value_name d.values) h in
    let a = name_size d.name (and_parts (is_name d.name) _ parts.0).0 in
    let b = values_size d.values (and_parts _ _ parts.1).1 in
    let c = leb-true (length d.values) 16 k in
    short_by (spelling (Var d)) (omega arith)
small_is_short (Prop name) h k = let a = name_size name (and_parts (is_name name) _ h).0 in short_by (spelling (Prop name)) (omega arith)
small_is_short (Send viewpoint variable source pairs) h k =
    let parts = and_parts (is_name viewpoint && is_name variable && is_name source) (list_all is_named_pair pairs) h in
    let third = and_parts (is_name viewpoint && is_name variable) (is_name source) parts.0 in
    let second = and_parts (is_name viewpoint) (is_name variable) third.0 in
    let a = name_size viewpoint second.0 in
    let b = name_size variable second.1 in
    let c = name_size source third.1 in
    let d = pairs_size pairs parts.1 in
    let e = leb-true (length pairs) 16 k in
    short_by (spelling (Send viewpoint variable source pairs)) (omega arith)
small_is_short (Tell viewpoint prop (Named name)) h k =
    let parts = and_parts (is_name viewpoint && is_name prop) (is_name name) h in
    let first = and_parts (is_name viewpoint) (is_name prop) parts.0 in
    let a = name_size viewpoint first.0 in
    let b = name_size prop first.1 in
    let c = name_size name parts.1 in
    short_by (spelling (Tell viewpoint prop (Named name))) (omega arith)
small_is_short (Tell viewpoint prop (Constant value)) h k =
    let parts = and_parts (is_name viewpoint && is_name prop) (is_name value) h in
    let first = and_parts (is_name viewpoint) (is_name prop) parts.0 in
    let a = name_size viewpoint first.0 in
    let b = name_size prop first.1 in
    let c = name_size value parts.1 in
    short_by (spelling (Tell viewpoint prop (Constant value))) (omega arith)
small_is_short (Stutter viewpoint value) h k =
    let parts = and_parts (is_name viewpoint) (is_name value) h in
    let a = name_size viewpoint parts.0 in
    let b = name_size value parts.1 in
    short_by (spelling (Stutter viewpoint value)) (omega arith)

-- pairs of different values are at most as many as the values
pairs_differ : (c : Carry) (cs : List Carry) → list_any (λ (d : Carry). same_value d c) cs ≡ false → AllByRecursion (λ y. eqb c.value y ≡ false) (map (λ (d : Carry). d.value) cs)
pairs_differ c [] h = tt
pairs_differ c (d ∷ cs) h =
    let parts = or_parts (same_value d c) (list_any (λ (d : Carry). same_value d c) cs) h in (
      ne_eqb c.value d.value (λ (same : c.value ≡ d.value). let equal : (d.value == c.value) ≡ true = eq-eqb d.value c.value (sym same) in let never : false ≡ true = sym parts.0 ∙ equal in cc),
      pairs_differ c cs parts.1,
    )

pairs_distinct : (cs : List Carry) → has_two same_value cs ≡ false → IsDistinct eqb (map (λ (d : Carry). d.value) cs)
unfolding IsDistinct
pairs_distinct [] h = tt
pairs_distinct (c ∷ cs) h =
    let parts = or_parts (list_any (λ (d : Carry). same_value d c) cs) (has_two same_value cs) h in
    (pairs_differ c cs parts.0, pairs_distinct cs parts.1)

values_below : (values : List (List ℕ)) (cs : List Carry) (q : ℕ) → list_all (is_carry_in values) cs ≡ true → list_any (eqb q) (map (λ (d : Carry). d.value) cs) ≡ true → q < length values
values_below values [] q h k = cc
values_below values (c ∷ cs) q h k =
    let parts = and_parts (is_carry_in values c) (list_all (is_carry_in values) cs) h in
    let here = ltb-true c.value (length values) (and_parts (nat_lt c.value (length values)) (is_name c.word) parts.0).0 in
    by_value (eqb q c.value) refl k here (values_below values cs q parts.1)
  where
    by_value : (b : Bool) → eqb q c.value ≡ b → (b || list_any (eqb q) (map (λ (d : Carry). d.value) cs)) ≡ true → c.value < length values → (list_any (eqb q) (map (λ (d : Carry). d.value) cs) ≡ true → q < length values) → q < length values
    by_value true e m n f = let same : q ≡ c.value = eqb-true q c.value e in omega arith
    by_value false e m n f = f m

few_pairs : (values : List (List ℕ)) (cs : List Carry) → list_all (is_carry_in values) cs ≡ true → has_two same_value cs ≡ false → length cs ≤ length values
few_pairs values cs h k =
    let most = length-le_from_distinct_below (map (λ (d : Carry). d.value) cs) (length values) (pairs_distinct cs k) (λ q. values_below values cs q h) in
    omega (arith, length-map cs (λ (d : Carry). d.value))

few_values : (vs : List Domain) (i : ℕ) → list_all is_domain vs ≡ true → i < length vs → length (values_at vs i) ≤ 16
few_values [] i h within = absurd (omega arith)
few_values (d ∷ vs) zero h within = leb-true (length d.values) 16 (and_parts _ _ (and_parts _ _ (and_parts _ _ h).0).0).1
few_values (d ∷ vs) (suc i) h within = few_values vs i (and_parts _ _ h).1 (omega arith)

-- all statements of a map are small
all_kind : {X : Type 0} (say : X → Statement) (fit : X → Bool) (xs : List X) → ((x : X) → fit x ≡ true → is_small (say x) ≡ true) → list_all fit xs ≡ true → list_all is_small (map say xs) ≡ true
all_kind say fit [] f h = refl
all_kind say fit (x ∷ xs) f h =
    let parts = and_parts (fit x) (list_all fit xs) h in
    and_from (is_small (say x)) (list_all is_small (map say xs)) (f x parts.0) (all_kind say fit xs f parts.1)

any_kind : {X : Type 0} (say : X → Statement) (xs : List X) → ((x : X) → is_small (say x) ≡ true) → list_all is_small (map say xs) ≡ true
any_kind say [] f = refl
any_kind say (x ∷ xs) f = and_from (is_small (say x)) (list_all is_small (map say xs)) (f x) (any_kind say xs f)

joined : (xs ys : List Statement) → list_all is_small xs ≡ true → list_all is_small ys ≡ true → list_all is_small (xs ++ ys) ≡ true
joined xs ys h k = list_all-append is_small xs ys ∙ and_from _ _ h k

module _ (v : MapValue) (sound : is_sound v ≡ true) where
  small_send : (l : SendLine) → is_send_in v l ≡ true → is_small (sending v l) ≡ true
  unfolding is_small
  small_send l fit =
      let fourth = and_parts _ _ fit in
      let third = and_parts _ _ fourth.0 in
      let within = ltb-true l.from (length v.vars) (and_parts _ _ third.0).1 in
      let most = few_pairs (values_at v.vars l.from) l.pairs third.1 (not-true _ fourth.1) in
      let few = few_values v.vars l.from (are_sound v sound).domains within in
      le-leb (length (map (paired (values_at v.vars l.from)) l.pairs)) 16 (omega (arith, length-map l.pairs (paired (values_at v.vars l.from))))

  small_var : (d : Domain) → is_domain d ≡ true → is_small (Var d) ≡ true
  unfolding is_small
  small_var d h = (and_parts _ _ (and_parts _ _ h).0).1

  all_small : list_all is_small (statements_in v) ≡ true
  unfolding is_small
  all_small =
      and_from (is_small (Map v.name)) (list_all is_small (map Use v.uses ++ _)) refl
      (joined (map Use v.uses) _ (any_kind Use v.uses (λ u. refl))
      (joined (map Var v.vars) _ (all_kind Var is_domain v.vars small_var (are_sound v sound).domains)
      (joined (map Prop v.props) _ (any_kind Prop v.props (λ p. refl))
      (joined (map (sending v) v.sends) _ (all_kind (sending v) (is_send_in v) v.sends small_send (told v sound).0)
      (joined (map (telling v) v.tells) _ (any_kind (telling v) v.tells (λ l. refl))
      (any_kind (stuttering v) v.stutters (λ l. refl)))))))

  short_lines : (before ss : List Statement) → AreFaultless before ss → list_all is_small ss ≡ true → list_all is_short (map spelling ss) ≡ true
  short_lines before [] h k = refl
  short_lines before (s ∷ more) h k =
      let parts = and_parts (is_small s) (list_all is_small more) k in
      and_from (is_short (spelling s)) (list_all is_short (map spelling more)) (small_is_short s h.0.due.named parts.0) (short_lines (before ++ s ∷ []) more h.1 parts.1)

  pub text_is_sound : (text : List ℕ) → text ≡ canonical (map_lines v) → (limit : ℕ) → length text ≤ limit → text_fault limit text ≡ None
  text_is_sound text e limit small =
      ap (text_fault limit) e
      ∙ canonical_is_sound (map_lines v) limit (map_is_lines v sound) (short_lines [] (statements_in v) (all_faultless v sound) all_small) (subst (λ (t : List ℕ). length t ≤ limit) e small)

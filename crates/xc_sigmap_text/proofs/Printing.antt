-- The lines of a canonical text, kind by kind.
use Rattle.std.proofs.Common.{◌≡◌, ℕ, zero, suc, ◌+◌, ◌<◌, ◌≤◌, true, List, [], ◌∷◌, ◌++◌, map, length, get_or, drop, drop-cons, add-one, codes, refl, sym, ◌∙◌, ap, append_assoc, arith}
use Rattle.std.specs.List.{list_all}
use Rattle.std.proofs.lemmas.List.{drop_all, get_or_default}
use Rattle.std.proofs.lemmas.List.Sums.{AllPass-from_list_all}
use Rattle.std.proofs.lemmas.Bool.{and_parts, ltb-true}
use Rattle.xc_base.specs.Canonical.{canonical}
use Rattle.xc_base.specs.Names.{name_at}
use Rattle.xc_forms.specs.Variables.{names_of, values_at}
use Rattle.xc_forms.specs.declared.domain.Domain.{Domain}
use Rattle.xc_forms.specs.VariableLines.{var_tokens}
use Rattle.xc_forms.specs.PrintedLines.{printed}
use Rattle.xc_forms.specs.PrintedLines as forms
use Rattle.xc_forms.proofs.PrintedLines.{written_from, written_end, written_before, vars_written}
use Rattle.xc_sigmap_lines.specs.declared.parts.Use as viewpoints
use Rattle.xc_sigmap_lines.specs.declared.parts.Carry.{Carry}
use Rattle.xc_sigmap_lines.specs.declared.parts.SendLine.{SendLine}
use Rattle.xc_sigmap_lines.specs.declared.parts.Tell as tellings
use Rattle.xc_sigmap_lines.specs.declared.parts.Stutter as gaps
use Rattle.xc_sigmap_lines.specs.declared.statement.Statement.{Statement}
use Rattle.xc_sigmap_lines.specs.declared.statement.Statement.TheVariants.{Map, Use, Var, Prop}
use Rattle.xc_sigmap_lines.specs.MapFiles.{MapValue, spelling, pair_tokens, use_names}
use Rattle.xc_sigmap.specs.Sound.{is_carry_in, is_send_in, is_tell_in, is_stutter_in, are_declared, are_told, is_sound}
use Rattle.xc_sigmap_text.specs.Printing.{use_at, paired, sending, telling, stuttering, map_lines}
use Rattle.xc_sigmap_text.specs.Written.{written}

-- the same of each kind
pub uses_from : (uses : List viewpoints.Use) (i : ℕ) (d : viewpoints.Use) → i < length uses → written Use (drop i uses) ≡ written Use (get_or uses i d ∷ []) ++ written Use (drop (i + 1) uses)
uses_from uses i d h = written_from spelling Use uses i d h

pub uses_end : (uses : List viewpoints.Use) (i : ℕ) → length uses ≤ i → written Use (drop i uses) ≡ []
uses_end uses i h = written_end spelling Use uses i h

pub vars_lines : (vars : List Domain) → printed var_tokens vars ≡ written Var vars
vars_lines vars = vars_written spelling Var vars (λ d. refl)

pub props_from : (props : List (List ℕ)) (i : ℕ) (d : List ℕ) → i < length props → written Prop (drop i props) ≡ written Prop (get_or props i d ∷ []) ++ written Prop (drop (i + 1) props)
props_from props i d h = written_from spelling Prop props i d h

pub props_end : (props : List (List ℕ)) (i : ℕ) → length props ≤ i → written Prop (drop i props) ≡ []
props_end props i h = written_end spelling Prop props i h

-- pairs from a place on
pub pairs_from : (values : List (List ℕ)) (pairs : List Carry) (i : ℕ) (d : Carry) → i < length pairs → pair_tokens (map (paired values) (drop i pairs)) ≡ pair_tokens (paired values (get_or pairs i d) ∷ []) ++ pair_tokens (map (paired values) (drop (i + 1) pairs))
pairs_from values pairs i d h = rw (add-one, drop-cons pairs i d)

pub pairs_end : (values : List (List ℕ)) (pairs : List Carry) (i : ℕ) → length pairs ≤ i → pair_tokens (map (paired values) (drop i pairs)) ≡ []
pairs_end values pairs i h = rw (drop_all i pairs h)

pub carry_at : (values : List (List ℕ)) (pairs : List Carry) (i : ℕ) (d : Carry) → list_all (is_carry_in values) pairs ≡ true → i < length pairs → is_carry_in values (get_or pairs i d) ≡ true
carry_at values pairs i d h within = AllPass-from_list_all (is_carry_in values) pairs h i d within

-- a viewpoint's name
pub use_name : (uses : List viewpoints.Use) (i : ℕ) (d : viewpoints.Use) → i < length uses → name_at (use_names uses) i ≡ (get_or uses i d).name
use_name [] i d h = absurd (omega arith)
use_name (u ∷ uses) zero d h = refl
use_name (u ∷ uses) (suc i) d h = use_name uses i d (omega arith)

-- a variable's name
var_name : (vars : List Domain) (i : ℕ) (d : Domain) → i < length vars → name_at (names_of vars) i ≡ (get_or vars i d).name
var_name [] i d h = absurd (omega arith)
var_name (x ∷ vars) zero d h = refl
var_name (x ∷ vars) (suc i) d h = var_name vars i d (omega arith)

-- a pair's value
pub pair_here : (values : List (List ℕ)) (i : ℕ) (d : List ℕ) → i < length values → name_at values i ≡ get_or values i d
pair_here values i d h = get_or_default values i [] d h

-- the lines of a late kind
pub sends_from : (v : MapValue) (lines : List SendLine) (i : ℕ) (d : SendLine) → i < length lines → written (sending v) (drop i lines) ≡ written (sending v) (get_or lines i d ∷ []) ++ written (sending v) (drop (i + 1) lines)
sends_from v lines i d h = written_from spelling (sending v) lines i d h

pub sends_end : (v : MapValue) (lines : List SendLine) (i : ℕ) → length lines ≤ i → written (sending v) (drop i lines) ≡ []
sends_end v lines i h = written_end spelling (sending v) lines i h

pub sends_at : (v : MapValue) (lines : List SendLine) (i : ℕ) (d : SendLine) → lines ≡ v.sends → list_all (is_send_in v) v.sends ≡ true → i < length lines → is_send_in v (get_or lines i d) ≡ true
sends_at v lines i d e h within = AllPass-from_list_all (is_send_in v) lines (ap (list_all (is_send_in v)) e ∙ h) i d within

-- the lines of a late kind
pub tells_from : (v : MapValue) (lines : List tellings.Tell) (i : ℕ) (d : tellings.Tell) → i < length lines → written (telling v) (drop i lines) ≡ written (telling v) (get_or lines i d ∷ []) ++ written (telling v) (drop (i + 1) lines)
tells_from v lines i d h = written_from spelling (telling v) lines i d h

pub tells_end : (v : MapValue) (lines : List tellings.Tell) (i : ℕ) → length lines ≤ i → written (telling v) (drop i lines) ≡ []
tells_end v lines i h = written_end spelling (telling v) lines i h

pub tells_at : (v : MapValue) (lines : List tellings.Tell) (i : ℕ) (d : tellings.Tell) → lines ≡ v.tells → list_all (is_tell_in v) v.tells ≡ true → i < length lines → is_tell_in v (get_or lines i d) ≡ true
tells_at v lines i d e h within = AllPass-from_list_all (is_tell_in v) lines (ap (list_all (is_tell_in v)) e ∙ h) i d within

-- the lines of a late kind
pub stutters_from : (v : MapValue) (lines : List gaps.Stutter) (i : ℕ) (d : gaps.Stutter) → i < length lines → written (stuttering v) (drop i lines) ≡ written (stuttering v) (get_or lines i d ∷ []) ++ written (stuttering v) (drop (i + 1) lines)
stutters_from v lines i d h = written_from spelling (stuttering v) lines i d h

pub stutters_end : (v : MapValue) (lines : List gaps.Stutter) (i : ℕ) → length lines ≤ i → written (stuttering v) (drop i lines) ≡ []
stutters_end v lines i h = written_end spelling (stuttering v) lines i h

pub stutters_at : (v : MapValue) (lines : List gaps.Stutter) (i : ℕ) (d : gaps.Stutter) → lines ≡ v.stutters → list_all (is_stutter_in v) v.stutters ≡ true → i < length lines → is_stutter_in v (get_or lines i d) ≡ true
stutters_at v lines i d e h within = AllPass-from_list_all (is_stutter_in v) lines (ap (list_all (is_stutter_in v)) e ∙ h) i d within

-- the items of one kind, and what stands behind them
behind : {X : Type 0} (say : X → Statement) (xs : List X) (ss : List Statement) → canonical (map spelling (map say xs ++ ss)) ≡ written say xs ++ canonical (map spelling ss)
behind say xs ss = written_before spelling say xs ss

last_kind : {X : Type 0} (say : X → Statement) (xs : List X) → canonical (map spelling (map say xs)) ≡ written say xs
unfolding forms.written
last_kind say xs = refl

-- the whole text
pub whole_text : (v : MapValue) → ((((((written Map (v.name ∷ []) ++ written Use v.uses) ++ written Var v.vars) ++ written Prop v.props) ++ written (sending v) v.sends) ++ written (telling v) v.tells) ++ written (stuttering v) v.stutters) ≡ canonical (map_lines v)
whole_text v =
    let tells : List Statement = map (telling v) v.tells ++ map (stuttering v) v.stutters in
    let sends : List Statement = map (sending v) v.sends ++ tells in
    let props : List Statement = map Prop v.props ++ sends in
    let vars : List Statement = map Var v.vars ++ props in
    let uses : List Statement = map Use v.uses ++ vars in
    sym (behind Map (v.name ∷ []) uses
    ∙ ap (λ (t : List ℕ). written Map (v.name ∷ []) ++ t) (behind Use v.uses vars
    ∙ ap (λ (t : List ℕ). written Use v.uses ++ t) (behind Var v.vars props
    ∙ ap (λ (t : List ℕ). written Var v.vars ++ t) (behind Prop v.props sends
    ∙ ap (λ (t : List ℕ). written Prop v.props ++ t) (behind (sending v) v.sends tells
    ∙ ap (λ (t : List ℕ). written (sending v) v.sends ++ t) (behind (telling v) v.tells (map (stuttering v) v.stutters)
    ∙ ap (λ (t : List ℕ). written (telling v) v.tells ++ t) (last_kind (stuttering v) v.stutters))))))
    ∙ grouped (written Map (v.name ∷ [])) (written Use v.uses) (written Var v.vars) (written Prop v.props) (written (sending v) v.sends) (written (telling v) v.tells) (written (stuttering v) v.stutters))
  where
    grouped : (a b c d e f g : List ℕ) → a ++ (b ++ (c ++ (d ++ (e ++ (f ++ g))))) ≡ (((((a ++ b) ++ c) ++ d) ++ e) ++ f) ++ g
    grouped a b c d e f g = sym (simp append_assoc)

-- what a map's lines are fit for
told_parts : (v : MapValue) → is_sound v ≡ true
    → (list_all (is_send_in v) v.sends ≡ true) × (list_all (is_tell_in v) v.tells ≡ true) × (list_all (is_stutter_in v) v.stutters ≡ true)
told_parts v h =
    let told = (and_parts (are_declared v) (are_told v) h).1 in
    let sixth = and_parts _ _ told in
    let fifth = and_parts _ _ sixth.0 in
    let fourth = and_parts _ _ fifth.0 in
    let third = and_parts _ _ fourth.0 in
    let second = and_parts _ _ third.0 in
    (second.0, third.1, fifth.1)

pub send_here : (v : MapValue) (lines : List SendLine) (i : ℕ) (l : SendLine) → is_sound v ≡ true → lines ≡ v.sends → i < length lines → l ≡ get_or lines i l → is_send_in v l ≡ true
send_here v lines i l h e within at = ap (is_send_in v) at ∙ sends_at v lines i l e (told_parts v h).0 within

pub tell_here : (v : MapValue) (lines : List tellings.Tell) (i : ℕ) (l : tellings.Tell) → is_sound v ≡ true → lines ≡ v.tells → i < length lines → l ≡ get_or lines i l → is_tell_in v l ≡ true
tell_here v lines i l h e within at = ap (is_tell_in v) at ∙ tells_at v lines i l e (told_parts v h).1 within

pub stutter_here : (v : MapValue) (lines : List gaps.Stutter) (i : ℕ) (l : gaps.Stutter) → is_sound v ≡ true → lines ≡ v.stutters → i < length lines → l ≡ get_or lines i l → is_stutter_in v l ≡ true
stutter_here v lines i l h e within at = ap (is_stutter_in v) at ∙ stutters_at v lines i l e (told_parts v h).2 within

-- the variable that a line reads from
module _ (v : MapValue) (l : SendLine) (source : Domain) (fit : is_send_in v l ≡ true) (at : source ≡ get_or v.vars l.from source) where
  from_within : l.from < length v.vars
  from_within = ltb-true l.from (length v.vars) (and_parts _ _ (and_parts _ _ (and_parts _ _ fit).0).0).1

  own : source ≡ get_or v.vars l.from (record { name = []; values = [] })
  own = at ∙ get_or_default v.vars l.from source (record { name = []; values = [] }) from_within

  pub source_pairs : (values : List (List ℕ)) (pairs : List Carry) → values ≡ source.values → pairs ≡ l.pairs → list_all (is_carry_in values) pairs ≡ true
  source_pairs values pairs e f =
      rw (e, f, own) ((and_parts _ _ (and_parts _ _ fit).0).1)

  pub send_is : (front tokens : List (List ℕ)) (viewpoint : List ℕ) → front ≡ codes "send" ∷ viewpoint ∷ l.variable ∷ [] → viewpoint ≡ use_at v l.viewpoint
      → tokens ≡ front ++ source.name ∷ pair_tokens (map (paired source.values) l.pairs) → tokens ≡ spelling (sending v l)
  send_is front tokens viewpoint f w t =
      t ∙ ap (λ (ts : List (List ℕ)). ts ++ source.name ∷ pair_tokens (map (paired source.values) l.pairs)) (f ∙ ap (λ (x : List ℕ). codes "send" ∷ x ∷ l.variable ∷ []) w)
      ∙ ap (λ (d : Domain). codes "send" ∷ use_at v l.viewpoint ∷ l.variable ∷ d.name ∷ pair_tokens (map (paired d.values) l.pairs)) own
      ∙ ap (λ (x : List ℕ). codes "send" ∷ use_at v l.viewpoint ∷ l.variable ∷ x ∷ pair_tokens (map (paired (values_at v.vars l.from)) l.pairs)) (sym (var_name v.vars l.from (record { name = []; values = [] }) from_within))

-- the texts one after another
pub whole_printed : (v : MapValue) (name : List ℕ) (uses : List viewpoints.Use) (vars : List Domain) (props : List (List ℕ)) (t0 t1 t2 t3 t4 t5 t6 t7 : List ℕ)
    → name ≡ v.name → uses ≡ v.uses → vars ≡ v.vars → props ≡ v.props
    → t0 ≡ [] → t1 ≡ t0 ++ written Map (name ∷ []) → t2 ≡ t1 ++ written Use uses → t3 ≡ t2 ++ written Var vars → t4 ≡ t3 ++ written Prop props
    → t5 ≡ t4 ++ written (sending v) v.sends → t6 ≡ t5 ++ written (telling v) v.tells → t7 ≡ t6 ++ written (stuttering v) v.stutters
    → t7 ≡ canonical (map_lines v)
whole_printed v name uses vars props t0 t1 t2 t3 t4 t5 t6 t7 n u d p e0 e1 e2 e3 e4 e5 e6 e7 =
    rw (e7, e6, e5, e4, e3, e2, e1, e0, n, u, d, p) (whole_text v)

-- what a lookup in a lent list gives is there in the map's
pub source_at : (vars lent : List Domain) (i j : ℕ) (source : Domain) → source ≡ get_or lent j source → lent ≡ vars → j ≡ i → source ≡ get_or vars i source
source_at vars lent i j source at same place = at ∙ ap (λ (ds : List Domain). get_or ds j source) same ∙ ap (λ (k : ℕ). get_or vars k source) place

pub use_from : (v : MapValue) (lent : List viewpoints.Use) (place : ℕ) (name : List ℕ) → name ≡ name_at (use_names lent) place → lent ≡ v.uses → name ≡ use_at v place
use_from v lent place name at same = at ∙ ap (λ (us : List viewpoints.Use). name_at (use_names us) place) same

pub send_tail : (lent pairs : List Carry) (front tokens : List (List ℕ)) (source : Domain) → tokens ≡ front ++ source.name ∷ pair_tokens (map (paired source.values) lent) → lent ≡ pairs
    → tokens ≡ front ++ source.name ∷ pair_tokens (map (paired source.values) pairs)
send_tail lent pairs front tokens source t same = t ∙ ap (λ (ps : List Carry). front ++ source.name ∷ pair_tokens (map (paired source.values) ps)) same

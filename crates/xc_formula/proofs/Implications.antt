-- How parts with `->` between them are read: they are grouped to the right.
use Rattle.std.proofs.Common.{◌≡◌, ℕ, zero, suc, ◌<◌, List, ◌∷◌, ◌++◌, length, append_assoc, codes, Option, Some, None, refl, sym, ◌∙◌, subst, ap, arith}
use Rattle.std.specs.Option.{option_and_then}
use Rattle.std.proofs.lemmas.Option.{none-some, same_Some}
use Rattle.xc_base.specs.Operators.{Front, behind, Shortens, Begins, IsSound}
use Rattle.xc_base.proofs.Operators.{behind_cut}
use Rattle.xc_formula.specs.Written.{Written, Implies}
use Rattle.xc_formula.specs.FormulaReading.{implied, implying, implications_up_to, implications}

-- what stands behind a token is shorter
pub behind_less : (mark : List ℕ) (tokens more : List (List ℕ)) → behind mark tokens ≡ Some more → length more < length tokens
behind_less mark tokens more h = let e = ap length (behind_cut mark tokens more h) in omega arith

-- readers that agree on what stands behind `->` give the same
same_step : (go other : List (List ℕ) → Option (Front Written)) (o : Option (Front Written))
    → ((f : Front Written) (more : List (List ℕ)) → o ≡ Some f → behind (codes "->") f.rest ≡ Some more → go more ≡ other more)
    → option_and_then (λ (f : Front Written). implied go f (behind (codes "->") f.rest)) o ≡ option_and_then (λ (f : Front Written). implied other f (behind (codes "->") f.rest)) o
same_step go other None same = refl
same_step go other (Some f) same = by_rest (behind (codes "->") f.rest) refl
  where
    by_rest : (r : Option (List (List ℕ))) → behind (codes "->") f.rest ≡ r → implied go f r ≡ implied other f r
    by_rest None e = refl
    by_rest (Some more) e = ap (implying f.tree) (same f more refl e)

module _ (part : List (List ℕ) → Option (Front Written)) (s : Shortens part) where
  -- two bounds that are both large enough give the same
  same_bound : (n m : ℕ) (tokens : List (List ℕ)) → length tokens < n → length tokens < m → implications_up_to part n tokens ≡ implications_up_to part m tokens
  unfolding implications_up_to
  same_bound zero m tokens h k = absurd (omega arith)
  same_bound (suc n) zero tokens h k = absurd (omega arith)
  same_bound (suc n) (suc m) tokens h k =
      same_step (implications_up_to part n) (implications_up_to part m) (part tokens)
      (λ f more e p.
      let a = behind_less (codes "->") f.rest more p in
      let b = s.shorter tokens f e in
      same_bound n m more (omega arith) (omega arith))

  -- a part, and what stands behind `->` where that follows
  pub implications_step : (tokens : List (List ℕ)) → implications part tokens ≡ option_and_then (λ (f : Front Written). implied (implications part) f (behind (codes "->") f.rest)) (part tokens)
  unfolding implications implications_up_to
  implications_step tokens =
      same_step (implications_up_to part (length tokens)) (implications part) (part tokens)
      (λ f more e p.
      let a = behind_less (codes "->") f.rest more p in
      let b = s.shorter tokens f e in
      same_bound (length tokens) (suc (length more)) more (omega arith) (omega arith))

  -- no part stands in front
  pub implications_fail : (tokens : List (List ℕ)) → part tokens ≡ None → implications part tokens ≡ None
  implications_fail tokens h = implications_step tokens ∙ ap (option_and_then (λ (f : Front Written). implied (implications part) f (behind (codes "->") f.rest))) h

  -- no `->` follows
  pub implications_end : (tokens : List (List ℕ)) (f : Front Written) → part tokens ≡ Some f → behind (codes "->") f.rest ≡ None → implications part tokens ≡ Some f
  implications_end tokens f h k =
      implications_step tokens ∙ ap (option_and_then (λ (g : Front Written). implied (implications part) g (behind (codes "->") g.rest))) h ∙ ap (implied (implications part) f) k

  -- it follows
  pub implications_go : (tokens more : List (List ℕ)) (f : Front Written) → part tokens ≡ Some f → behind (codes "->") f.rest ≡ Some more → implications part tokens ≡ implying f.tree (implications part more)
  implications_go tokens more f h k =
      implications_step tokens ∙ ap (option_and_then (λ (g : Front Written). implied (implications part) g (behind (codes "->") g.rest))) h ∙ ap (implied (implications part) f) k

-- Where parts are spelled as they are read, so are implications, if a part, `->` and an implication are spelled as one.
module _ (part : List (List ℕ) → Option (Front Written)) (Part Chain : List (List ℕ) → Written → Type 0)
    (one : (tokens : List (List ℕ)) (f : Written) → Part tokens f → Chain tokens f)
    (more_parts : (left right : List (List ℕ)) (f g : Written) → Part left f → Chain right g → Chain (left ++ codes "->" ∷ right) (Implies f g))
    (sound : IsSound Part part) where
  -- by what is read behind `->`
  sound_by_more : (tokens more : List (List ℕ)) (f h : Front Written) → Begins Part tokens f → behind (codes "->") f.rest ≡ Some more
      → (o : Option (Front Written)) → ((g : Front Written) → o ≡ Some g → Begins Chain more g) → implying f.tree o ≡ Some h → Begins Chain tokens h
  sound_by_more tokens more f h b k None go e = absurd (none-some h e)
  sound_by_more tokens more f h b k (Some g) go e =
      let c = go g refl in
      let cut : tokens ≡ (b.front ++ codes "->" ∷ c.front) ++ g.rest =
      b.cut ∙ ap (λ r. b.front ++ r) (behind_cut (codes "->") f.rest more k) ∙ ap (λ r. b.front ++ codes "->" ∷ r) c.cut ∙ sym (append_assoc b.front (codes "->" ∷ c.front) g.rest) in
      subst (λ (x : Front Written). Begins Chain tokens x) (same_Some _ _ e)
      (record { front = b.front ++ codes "->" ∷ c.front; cut = cut; spelled = more_parts b.front c.front f.tree g.tree b.spelled c.spelled })

  -- by what stands behind a part
  sound_by_rest : (go : List (List ℕ) → Option (Front Written)) → ((more : List (List ℕ)) (g : Front Written) → go more ≡ Some g → Begins Chain more g)
      → (tokens : List (List ℕ)) (f h : Front Written) → Begins Part tokens f → (r : Option (List (List ℕ))) → behind (codes "->") f.rest ≡ r → implied go f r ≡ Some h → Begins Chain tokens h
  sound_by_rest go next tokens f h b None k e =
      subst (λ (x : Front Written). Begins Chain tokens x) (same_Some _ _ e) (record { front = b.front; cut = b.cut; spelled = one b.front f.tree b.spelled })
  sound_by_rest go next tokens f h b (Some more) k e = sound_by_more tokens more f h b k (go more) (next more) e

  -- by the part in front
  sound_by_part : (go : List (List ℕ) → Option (Front Written)) → ((more : List (List ℕ)) (g : Front Written) → go more ≡ Some g → Begins Chain more g)
      → (tokens : List (List ℕ)) (h : Front Written) (o : Option (Front Written)) → part tokens ≡ o → option_and_then (λ (f : Front Written). implied go f (behind (codes "->") f.rest)) o ≡ Some h → Begins Chain tokens h
  sound_by_part go next tokens h None p e = absurd (none-some h e)
  sound_by_part go next tokens h (Some f) p e = sound_by_rest go next tokens f h (sound.begins tokens f p) (behind (codes "->") f.rest) refl e

  -- with a bound
  bounded_sound : (n : ℕ) (tokens : List (List ℕ)) (h : Front Written) → implications_up_to part n tokens ≡ Some h → Begins Chain tokens h
  unfolding implications_up_to
  bounded_sound zero tokens h e = absurd (none-some h e)
  bounded_sound (suc n) tokens h e = sound_by_part (implications_up_to part n) (bounded_sound n) tokens h (part tokens) refl e

  -- and with none
  pub implications_sound : IsSound Chain (implications part)
  unfolding implications
  implications_sound = record { begins = λ tokens h e. bounded_sound (suc (length tokens)) tokens h e }

-- How parts with an operator between them are read that groups to the right.
use Rattle.std.proofs.Common.{◌≡◌, ℕ, zero, suc, ◌<◌, List, ◌∷◌, ◌++◌, length, append_assoc, Option, Some, None, refl, sym, ◌∙◌, subst, ap, arith}
use Rattle.std.specs.Option.{option_and_then}
use Rattle.std.proofs.lemmas.Option.{none-some, same_Some}
use Rattle.xc_base.specs.Operators.{Front, behind, Shortens, Begins, IsSound}
use Rattle.xc_base.proofs.Operators.{behind_cut}
use Rattle.xc_grammar.specs.Righted.{implied, implying, righted_up_to, righted}

-- what stands behind a token is shorter
pub behind_less : (mark : List ℕ) (tokens more : List (List ℕ)) → behind mark tokens ≡ Some more → length more < length tokens
behind_less mark tokens more h = let e = ap length (behind_cut mark tokens more h) in omega arith

module _ {T : Type 0} (mark : List ℕ) (join : T → T → T) where
  -- readers that agree on what stands behind the operator give the same
  same_step : (go other : List (List ℕ) → Option (Front T)) (o : Option (Front T))
      → ((f : Front T) (more : List (List ℕ)) → o ≡ Some f → behind (mark) f.rest ≡ Some more → go more ≡ other more)
      → option_and_then (λ (f : Front T). implied mark join go f (behind (mark) f.rest)) o ≡ option_and_then (λ (f : Front T). implied mark join other f (behind (mark) f.rest)) o
  same_step go other None same = refl
  same_step go other (Some f) same = by_rest (behind (mark) f.rest) refl
    where
      by_rest : (r : Option (List (List ℕ))) → behind (mark) f.rest ≡ r → implied mark join go f r ≡ implied mark join other f r
      by_rest None e = refl
      by_rest (Some more) e = ap (implying mark join f.tree) (same f more refl e)

  module _ (part : List (List ℕ) → Option (Front T)) (s : Shortens part) where
    -- two bounds that are both large enough give the same
    same_bound : (n m : ℕ) (tokens : List (List ℕ)) → length tokens < n → length tokens < m → righted_up_to mark join part n tokens ≡ righted_up_to mark join part m tokens
    unfolding righted_up_to
    same_bound zero m tokens h k = absurd (omega arith)
    same_bound (suc n) zero tokens h k = absurd (omega arith)
    same_bound (suc n) (suc m) tokens h k =
        same_step (righted_up_to mark join part n) (righted_up_to mark join part m) (part tokens)
        (λ f more e p.
        let a = behind_less (mark) f.rest more p in
        let b = s.shorter tokens f e in
        same_bound n m more (omega arith) (omega arith))

    -- a part, and what stands behind the operator where that follows
    pub righted_step : (tokens : List (List ℕ)) → righted mark join part tokens ≡ option_and_then (λ (f : Front T). implied mark join (righted mark join part) f (behind (mark) f.rest)) (part tokens)
    unfolding righted righted_up_to
    righted_step tokens =
        same_step (righted_up_to mark join part (length tokens)) (righted mark join part) (part tokens)
        (λ f more e p.
        let a = behind_less (mark) f.rest more p in
        let b = s.shorter tokens f e in
        same_bound (length tokens) (suc (length more)) more (omega arith) (omega arith))

    -- no part stands in front
    pub righted_fail : (tokens : List (List ℕ)) → part tokens ≡ None → righted mark join part tokens ≡ None
    righted_fail tokens h = righted_step tokens ∙ ap (option_and_then (λ (f : Front T). implied mark join (righted mark join part) f (behind (mark) f.rest))) h

    -- no the operator follows
    pub righted_end : (tokens : List (List ℕ)) (f : Front T) → part tokens ≡ Some f → behind (mark) f.rest ≡ None → righted mark join part tokens ≡ Some f
    righted_end tokens f h k =
        righted_step tokens ∙ ap (option_and_then (λ (g : Front T). implied mark join (righted mark join part) g (behind (mark) g.rest))) h ∙ ap (implied mark join (righted mark join part) f) k

    -- it follows
    pub righted_go : (tokens more : List (List ℕ)) (f : Front T) → part tokens ≡ Some f → behind (mark) f.rest ≡ Some more → righted mark join part tokens ≡ implying mark join f.tree (righted mark join part more)
    righted_go tokens more f h k =
        righted_step tokens ∙ ap (option_and_then (λ (g : Front T). implied mark join (righted mark join part) g (behind (mark) g.rest))) h ∙ ap (implied mark join (righted mark join part) f) k

  -- Where parts are spelled as they are read, so are righted mark join, if a part, the operator and an implication are spelled as one.
  module _ (part : List (List ℕ) → Option (Front T)) (Part Chain : List (List ℕ) → T → Type 0)
      (one : (tokens : List (List ℕ)) (f : T) → Part tokens f → Chain tokens f)
      (more_parts : (left right : List (List ℕ)) (f g : T) → Part left f → Chain right g → Chain (left ++ mark ∷ right) (join f g))
      (sound : IsSound Part part) where
    -- by what is read behind the operator
    sound_by_more : (tokens more : List (List ℕ)) (f h : Front T) → Begins Part tokens f → behind (mark) f.rest ≡ Some more
        → (o : Option (Front T)) → ((g : Front T) → o ≡ Some g → Begins Chain more g) → implying mark join f.tree o ≡ Some h → Begins Chain tokens h
    sound_by_more tokens more f h b k None go e = absurd (none-some h e)
    sound_by_more tokens more f h b k (Some g) go e =
        let c = go g refl in
        let cut : tokens ≡ (b.front ++ mark ∷ c.front) ++ g.rest =
        b.cut ∙ ap (λ r. b.front ++ r) (behind_cut (mark) f.rest more k) ∙ ap (λ r. b.front ++ mark ∷ r) c.cut ∙ sym (append_assoc b.front (mark ∷ c.front) g.rest) in
        subst (λ (x : Front T). Begins Chain tokens x) (same_Some _ _ e)
        (record { front = b.front ++ mark ∷ c.front; cut = cut; spelled = more_parts b.front c.front f.tree g.tree b.spelled c.spelled })

    -- by what stands behind a part
    sound_by_rest : (go : List (List ℕ) → Option (Front T)) → ((more : List (List ℕ)) (g : Front T) → go more ≡ Some g → Begins Chain more g)
        → (tokens : List (List ℕ)) (f h : Front T) → Begins Part tokens f → (r : Option (List (List ℕ))) → behind (mark) f.rest ≡ r → implied mark join go f r ≡ Some h → Begins Chain tokens h
    sound_by_rest go next tokens f h b None k e =
        subst (λ (x : Front T). Begins Chain tokens x) (same_Some _ _ e) (record { front = b.front; cut = b.cut; spelled = one b.front f.tree b.spelled })
    sound_by_rest go next tokens f h b (Some more) k e = sound_by_more tokens more f h b k (go more) (next more) e

    -- by the part in front
    sound_by_part : (go : List (List ℕ) → Option (Front T)) → ((more : List (List ℕ)) (g : Front T) → go more ≡ Some g → Begins Chain more g)
        → (tokens : List (List ℕ)) (h : Front T) (o : Option (Front T)) → part tokens ≡ o → option_and_then (λ (f : Front T). implied mark join go f (behind (mark) f.rest)) o ≡ Some h → Begins Chain tokens h
    sound_by_part go next tokens h None p e = absurd (none-some h e)
    sound_by_part go next tokens h (Some f) p e = sound_by_rest go next tokens f h (sound.begins tokens f p) (behind (mark) f.rest) refl e

    -- with a bound
    bounded_sound : (n : ℕ) (tokens : List (List ℕ)) (h : Front T) → righted_up_to mark join part n tokens ≡ Some h → Begins Chain tokens h
    unfolding righted_up_to
    bounded_sound zero tokens h e = absurd (none-some h e)
    bounded_sound (suc n) tokens h e = sound_by_part (righted_up_to mark join part n) (bounded_sound n) tokens h (part tokens) refl e

    -- and with none
    pub righted_sound : IsSound Chain (righted mark join part)
    unfolding righted
    righted_sound = record { begins = λ tokens h e. bounded_sound (suc (length tokens)) tokens h e }

-- How trees with an operator between their parts are read: as long as an operator stands behind what is read, it goes on.
use Rattle.std.proofs.Common.{◌≡◌, ℕ, zero, suc, ◌<◌, ◌≤◌, List, [], ◌∷◌, ◌++◌, length, length-append, append_assoc, Option, Some, None, refl, sym, ◌∙◌, subst, ap, arith}
use Rattle.std.specs.Option.{option_and_then}
use Rattle.std.specs.Str.{bytes_eq}
use Rattle.std.proofs.lemmas.Option.{none-some, same_Some, cond_some}
use Rattle.std.proofs.lemmas.List.{length-map}
use Rattle.xc_base.specs.Lines.{texts}
use Rattle.xc_base.specs.declared.lines.Lexeme.{Lexeme}
use Rattle.xc_base.specs.Operators.{Front, behind, chain_step, chain_up_to, chain, chained, Shortens, Begins, IsSound}
use Rattle.xc_base.proofs.Naming.{same_bytes}

-- the tokens are the token and what stands behind it
pub behind_cut : (mark : List ℕ) (tokens more : List (List ℕ)) → behind mark tokens ≡ Some more → tokens ≡ mark ∷ more
behind_cut mark [] more h = cc
behind_cut mark (token ∷ tokens) more h =
    let p = cond_some (bytes_eq token mark) tokens more h in
    let e = same_bytes token mark p.0 in
    let f = p.1 in
    cc

-- what stands behind is shorter
behind_shorter : (mark : List ℕ) (tokens more : List (List ℕ)) → behind mark tokens ≡ Some more → length more < length tokens
behind_shorter mark tokens more h = let e = ap length (behind_cut mark tokens more h) in omega arith

-- how a chain is read on
module _ {T : Type 0} (mark : List ℕ) (join : T → T → T) (part : List (List ℕ) → Option (Front T)) where
  -- two bounds on the steps that are both large enough give the same, by what stands behind and what the part is
  same_step : (go other : T → List (List ℕ) → Option (Front T)) (left : T) (tokens : List (List ℕ)) (more : Option (List (List ℕ)))
      → ((rest : List (List ℕ)) (f : Front T) → more ≡ Some rest → part rest ≡ Some f → go (join left f.tree) f.rest ≡ other (join left f.tree) f.rest)
      → chain_step mark join part go left tokens more ≡ chain_step mark join part other left tokens more
  same_step go other left tokens None same = refl
  same_step go other left tokens (Some rest) same = by_part (part rest) refl
    where
      by_part : (o : Option (Front T)) → part rest ≡ o → option_and_then (λ (f : Front T). go (join left f.tree) f.rest) o ≡ option_and_then (λ (f : Front T). other (join left f.tree) f.rest) o
      by_part None e = refl
      by_part (Some f) e = same rest f refl e

  -- more turns than tokens change nothing
  same_chain : Shortens part → (n m : ℕ) (left : T) (tokens : List (List ℕ)) → length tokens ≤ n → length tokens ≤ m → chain_up_to mark join part n left tokens ≡ chain_up_to mark join part m left tokens
  unfolding chain_up_to
  same_chain s zero zero left tokens h k = refl
  same_chain s zero (suc m) left [] h k = refl
  same_chain s zero (suc m) left (t ∷ tokens) h k = absurd (omega arith)
  same_chain s (suc n) zero left [] h k = refl
  same_chain s (suc n) zero left (t ∷ tokens) h k = absurd (omega arith)
  same_chain s (suc n) (suc m) left tokens h k =
      same_step (chain_up_to mark join part n) (chain_up_to mark join part m) left tokens (behind mark tokens)
      (λ rest f e g.
      let a = behind_shorter mark tokens rest e in
      let b = s.shorter rest f g in
      same_chain s n m (join left f.tree) f.rest (omega arith) (omega arith))

  -- with no operator behind it the tree is all
  pub chain_ends : (left : T) (tokens : List (List ℕ)) → behind mark tokens ≡ None → chain mark join part left tokens ≡ Some (record { tree = left; rest = tokens })
  unfolding chain chain_up_to
  chain_ends left [] h = refl
  chain_ends left (t ∷ tokens) h = rw h

  -- an operator with no part behind it is an error
  pub chain_fails : (left : T) (tokens more : List (List ℕ)) → behind mark tokens ≡ Some more → part more ≡ None → chain mark join part left tokens ≡ None
  unfolding chain chain_up_to
  chain_fails left [] more h k = cc
  chain_fails left (t ∷ tokens) more h k = rw (h, k)

  -- operator and part are taken into the tree
  pub chain_goes : Shortens part → (left : T) (tokens more : List (List ℕ)) (f : Front T) → behind mark tokens ≡ Some more → part more ≡ Some f → chain mark join part left tokens ≡ chain mark join part (join left f.tree) f.rest
  unfolding chain chain_up_to
  chain_goes s left [] more f h k = absurd (none-some more h)
  chain_goes s left (t ∷ tokens) more f h k =
      let a = behind_shorter mark (t ∷ tokens) more h in
      let b = s.shorter more f k in
      rw (h, k) (same_chain s (length tokens) (length f.rest) (join left f.tree) f.rest (omega arith) (omega arith))

  -- a chain begins with a part
  pub chained_begins : (tokens : List (List ℕ)) (f : Front T) → part tokens ≡ Some f → chained mark join part tokens ≡ chain mark join part f.tree f.rest
  unfolding chained
  chained_begins tokens f h = rw h

  -- tokens that begin with no part are no chain
  pub chained_fails : (tokens : List (List ℕ)) → part tokens ≡ None → chained mark join part tokens ≡ None
  unfolding chained
  chained_fails tokens h = rw h

-- a reader that is sound leaves no more than it was given
pub sound_shortens : {T : Type 0} (Spelled : List (List ℕ) → T → Type 0) (reader : List (List ℕ) → Option (Front T)) → IsSound Spelled reader → Shortens reader
sound_shortens Spelled reader s = record {
  shorter = λ tokens f h.
      let b = s.begins tokens f h in
      let e = ap length b.cut in
      omega (arith, length-append b.front f.rest);
}

-- Where parts are spelled as they are read, chains are, if a chain, an operator and a part are spelled as a chain.
module _ {T : Type 0} (mark : List ℕ) (join : T → T → T) (part : List (List ℕ) → Option (Front T)) (Part Chain : List (List ℕ) → T → Type 0)
    (more_parts : (left right : List (List ℕ)) (a b : T) → Chain left a → Part right b → Chain (left ++ mark ∷ right) (join a b))
    (sound : IsSound Part part) where
  -- no operator stands behind
  sound_end : (front : List (List ℕ)) (left : T) (tokens : List (List ℕ)) (f : Front T) → Chain front left → Some (record { tree = left; rest = tokens }) ≡ Some f → Begins Chain (front ++ tokens) f
  sound_end front left tokens f c h = subst (λ (g : Front T). Begins Chain (front ++ tokens) g) (same_Some _ _ h) (record { front = front; cut = refl; spelled = c })

  -- an operator stands behind, by what the part is
  sound_by_part : (go : T → List (List ℕ) → Option (Front T))
      → ((front : List (List ℕ)) (left : T) (tokens : List (List ℕ)) (f : Front T) → Chain front left → go left tokens ≡ Some f → Begins Chain (front ++ tokens) f)
      → (front : List (List ℕ)) (left : T) (tokens rest : List (List ℕ)) (f : Front T) → Chain front left → tokens ≡ mark ∷ rest
      → (o : Option (Front T)) → part rest ≡ o → option_and_then (λ (g : Front T). go (join left g.tree) g.rest) o ≡ Some f → Begins Chain (front ++ tokens) f
  sound_by_part go next front left tokens rest f c cut None e h = absurd (none-some f h)
  sound_by_part go next front left tokens rest f c cut (Some g) e h =
      let b = sound.begins rest g e in
      let after = next (front ++ mark ∷ b.front) (join left g.tree) g.rest f (more_parts front b.front left g.tree c b.spelled) h in
      let same : (front ++ mark ∷ b.front) ++ g.rest ≡ front ++ tokens = append_assoc front (mark ∷ b.front) g.rest ∙ ap (λ more. front ++ mark ∷ more) (sym b.cut) ∙ ap (λ more. front ++ more) (sym cut) in
      subst (λ (all : List (List ℕ)). Begins Chain all f) same after

  -- one turn, by what stands behind
  sound_step : (go : T → List (List ℕ) → Option (Front T))
      → ((front : List (List ℕ)) (left : T) (tokens : List (List ℕ)) (f : Front T) → Chain front left → go left tokens ≡ Some f → Begins Chain (front ++ tokens) f)
      → (front : List (List ℕ)) (left : T) (tokens : List (List ℕ)) (f : Front T) → Chain front left
      → (o : Option (List (List ℕ))) → behind mark tokens ≡ o → chain_step mark join part go left tokens o ≡ Some f → Begins Chain (front ++ tokens) f
  sound_step go next front left tokens f c None e h = sound_end front left tokens f c h
  sound_step go next front left tokens f c (Some rest) e h = sound_by_part go next front left tokens rest f c (behind_cut mark tokens rest e) (part rest) refl h

  -- what a chain reads behind tokens that are spelled as a chain
  chain_sound : (n : ℕ) (front : List (List ℕ)) (left : T) (tokens : List (List ℕ)) (f : Front T) → Chain front left → chain_up_to mark join part n left tokens ≡ Some f → Begins Chain (front ++ tokens) f
  unfolding chain_up_to
  chain_sound zero front left tokens f c h = sound_end front left tokens f c h
  chain_sound (suc n) front left tokens f c h = sound_step (chain_up_to mark join part n) (chain_sound n) front left tokens f c (behind mark tokens) refl h

  -- what is read as a chain is spelled as one
  pub chained_sound : ((tokens : List (List ℕ)) (a : T) → Part tokens a → Chain tokens a) → IsSound Chain (chained mark join part)
  unfolding chained chain
  chained_sound one = record { begins = λ tokens f h. by_part tokens f (part tokens) refl h }
    where
      by_part : (tokens : List (List ℕ)) (f : Front T) (o : Option (Front T)) → part tokens ≡ o → option_and_then (λ (g : Front T). chain mark join part g.tree g.rest) o ≡ Some f → Begins Chain tokens f
      by_part tokens f None e h = absurd (none-some f h)
      by_part tokens f (Some g) e h =
          let b = sound.begins tokens g e in
          subst (λ (all : List (List ℕ)). Begins Chain all f) (sym b.cut) (chain_sound (length g.rest) b.front g.tree g.rest f (one b.front g.tree b.spelled) h)

-- After each turn of a loop over lexemes, one operator and one part, less is left.
pub turn_shorter : {T : Type 0} (mark : List ℕ) (part : List (List ℕ) → Option (Front T)) → Shortens part → (tokens more rest : List Lexeme) (tree : T)
    → behind mark (texts tokens) ≡ Some (texts more) → part (texts more) ≡ Some (record { tree = tree; rest = texts rest }) → length rest < length tokens
turn_shorter mark part s tokens more rest tree h k =
    let a : length (texts more) < length (texts tokens) = behind_shorter mark (texts tokens) (texts more) h in
    let b : length (texts rest) ≤ length (texts more) = s.shorter (texts more) (record { tree = tree; rest = texts rest }) k in
    omega (arith, length-map tokens (λ (x : Lexeme). x.text.now), length-map rest (λ (x : Lexeme). x.text.now))

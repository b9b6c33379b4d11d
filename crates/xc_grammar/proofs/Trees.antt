-- What is read as a tree is spelled so, and what is spelled so is read.
use Rattle.std.proofs.Common.{◌≡◌, ℕ, zero, suc, ◌<◌, ◌≤◌, Bool, true, false, cond, List, [], ◌∷◌, ◌++◌, append_assoc, append-nil, codes, Option, Some, None, refl, sym, ◌∙◌, subst, ap, arith}
use Rattle.std.specs.Option.{option_map, option_and_then}
use Rattle.std.specs.Str.{bytes_eq}
use Rattle.std.proofs.lemmas.Option.{none-some, same_Some}
use Rattle.xc_base.specs.Operators.{Front, behind, alone, whole, chain, Shortens, Begins, IsSound}
use Rattle.xc_base.proofs.Naming.{same_bytes, bytes_refl}
use Rattle.xc_base.proofs.Operators.{behind_cut, chain_ends, chain_goes, chained_begins, sound_shortens, chained_sound}
use Rattle.xc_grammar.specs.Grammars.{Grammar, IsSpelled, top}
use Rattle.xc_grammar.specs.Grammars.IsSpelled.{atom as leaf, prefixed, paired, enclosed, part, joined, implied}
use Rattle.xc_grammar.specs.Reading.{closed, or_else, applied, level_by, whole_by, pair_closed, pair_second, pair_of, nested_by, basic, level, whole_at, tree_in, Reads}
use Rattle.xc_grammar.specs.Righted.{righted, implying}
use Rattle.xc_grammar.proofs.Righted.{righted_end, righted_go, righted_sound}

-- a token stands in front of what is behind it
behind_own : (mark : List ℕ) (rest : List (List ℕ)) → behind mark (mark ∷ rest) ≡ Some rest
behind_own mark rest = rw (bytes_refl mark)

behind_other : (token mark : List ℕ) (rest : List (List ℕ)) → bytes_eq token mark ≡ false → behind mark (token ∷ rest) ≡ None
behind_other token mark rest h = rw h

module _ {T : Type 0} (g : Grammar T) (atom : List (List ℕ) → Option (Front T)) (r : Reads g atom) where
  -- tokens that begin with some that are spelled as a tree
  begins_with : (n d : ℕ) (front rest tokens : List (List ℕ)) (t : T) (f : Front T) → tokens ≡ front ++ rest → IsSpelled g n d front t → Some (record { tree = t; rest = rest }) ≡ Some f → Begins (IsSpelled g n d) tokens f
  begins_with n d front rest tokens t f cut s e = subst (λ (x : Front T). Begins (IsSpelled g n d) tokens x) (same_Some _ _ e) (record { front = front; cut = cut; spelled = s })

  -- an atom is spelled so, at any depth
  atom_sound : (d : ℕ) (tokens : List (List ℕ)) (f : Front T) → atom tokens ≡ Some f → Begins (IsSpelled g zero d) tokens f
  atom_sound d tokens f e = let b = r.sound.begins tokens f e in record { front = b.front; cut = b.cut; spelled = leaf d b.front f.tree b.spelled }

  -- what is read between operators is spelled so, where what stands between them is
  levels_sound : (n d : ℕ) → n ≤ g.count → IsSound (IsSpelled g zero d) (basic g atom d) → IsSound (IsSpelled g n d) (level_by g n (basic g atom d))
  unfolding level_by
  levels_sound zero d low s = record { begins = λ tokens f e. s.begins tokens f e }
  levels_sound (suc n) d low s =
      let c = chained_sound (g.mark n) (g.join n) (level_by g n (basic g atom d)) (IsSpelled g n d) (IsSpelled g (suc n) d) (λ left right a b. joined n d left right a b (omega arith)) (levels_sound n d (omega arith) s) (part n d) in
      record { begins = λ tokens f e. c.begins tokens f e }

  whole_by_sound : (d : ℕ) → IsSound (IsSpelled g zero d) (basic g atom d) → IsSound (IsSpelled g (top g) d) (whole_by g (basic g atom d))
  unfolding whole_by
  whole_by_sound d s = by_arrow g.arrow refl
    where
      by_arrow : (b : Bool) → g.arrow ≡ b
          → IsSound (IsSpelled g (cond b (suc g.count) g.count) d) (λ tokens. cond b (righted (g.mark g.count) (g.join g.count) (level_by g g.count (basic g atom d)) tokens) (level_by g g.count (basic g atom d) tokens))
      by_arrow true e =
          let c = righted_sound (g.mark g.count) (g.join g.count) (level_by g g.count (basic g atom d)) (IsSpelled g g.count d) (IsSpelled g (suc g.count) d) (part g.count d)
          (λ left right a b. implied d left right a b e) (levels_sound g.count d (omega arith) s) in
          record { begins = λ tokens f h. c.begins tokens f h }
      by_arrow false e = let c = levels_sound g.count d (omega arith) s in record { begins = λ tokens f h. c.begins tokens f h }

  -- a prefix and a tree behind it
  applied_sound : (d : ℕ) → IsSound (IsSpelled g zero d) (basic g atom d) → (token : List ℕ) (rest : List (List ℕ)) (f : Front T) → g.is_prefix token ≡ true
      → (o : Option (Front T)) → basic g atom d rest ≡ o → applied g token o ≡ Some f → Begins (IsSpelled g zero (suc d)) (token ∷ rest) f
  applied_sound d s token rest f h None p e = absurd (none-some f e)
  applied_sound d s token rest f h (Some i) p e =
      let b = s.begins rest i p in
      begins_with zero (suc d) (token ∷ b.front) i.rest (token ∷ rest) (g.apply token i.tree) f (ap (λ more. token ∷ more) b.cut) (prefixed d token b.front i.tree h b.spelled) e

  -- `(` and a tree behind it, by whether `)` follows
  closed_by : (d : ℕ) (tokens rest : List (List ℕ)) (f i : Front T) → tokens ≡ codes "(" ∷ rest → Begins (IsSpelled g (top g) d) rest i
      → (o : Option (List (List ℕ))) → behind (codes ")") i.rest ≡ o → option_map (λ more. record { tree = i.tree; rest = more }) o ≡ Some f → Begins (IsSpelled g zero (suc d)) tokens f
  closed_by d tokens rest f i cut b None p e = absurd (none-some f e)
  closed_by d tokens rest f i cut b (Some more) p e =
      let inside : rest ≡ (b.front ++ codes ")" ∷ []) ++ more = b.cut ∙ ap (λ r. b.front ++ r) (behind_cut (codes ")") i.rest more p) ∙ sym (append_assoc b.front (codes ")" ∷ []) more) in
      begins_with zero (suc d) (codes "(" ∷ b.front ++ codes ")" ∷ []) more tokens i.tree f (cut ∙ ap (λ r. codes "(" ∷ r) inside) (enclosed d b.front i.tree b.spelled) e

  closed_sound : (d : ℕ) → IsSound (IsSpelled g zero d) (basic g atom d) → (tokens rest : List (List ℕ)) (f : Front T) → tokens ≡ codes "(" ∷ rest
      → (o : Option (Front T)) → whole_by g (basic g atom d) rest ≡ o → closed o ≡ Some f → Begins (IsSpelled g zero (suc d)) tokens f
  closed_sound d s tokens rest f cut None p e = absurd (none-some f e)
  closed_sound d s tokens rest f cut (Some i) p e = closed_by d tokens rest f i cut ((whole_by_sound d s).begins rest i p) (behind (codes ")") i.rest) refl e

  -- two trees in brackets, by what stands behind each
  pair_by_end : (d : ℕ) (token : List ℕ) (more middle : List (List ℕ)) (f i h : Front T) → g.is_pair token ≡ true → Begins (IsSpelled g (top g) d) more f → behind (codes "U") f.rest ≡ Some middle → Begins (IsSpelled g (top g) d) middle i
      → (o : Option (List (List ℕ))) → behind (codes "]") i.rest ≡ o → option_map (λ rest. record { tree = g.pair token f.tree i.tree; rest = rest }) o ≡ Some h
      → Begins (IsSpelled g zero (suc d)) (token ∷ codes "[" ∷ more) h
  pair_by_end d token more middle f i h is a k b None p e = absurd (none-some h e)
  pair_by_end d token more middle f i h is a k b (Some rest) p e =
      let second : middle ≡ (b.front ++ codes "]" ∷ []) ++ rest = b.cut ∙ ap (λ r. b.front ++ r) (behind_cut (codes "]") i.rest rest p) ∙ sym (append_assoc b.front (codes "]" ∷ []) rest) in
      let first : more ≡ a.front ++ codes "U" ∷ middle = a.cut ∙ ap (λ r. a.front ++ r) (behind_cut (codes "U") f.rest middle k) in
      let inside : more ≡ ((a.front ++ codes "U" ∷ b.front) ++ codes "]" ∷ []) ++ rest =
      first ∙ ap (λ (r : List (List ℕ)). a.front ++ codes "U" ∷ r) second ∙ sym (append_assoc a.front (codes "U" ∷ (b.front ++ codes "]" ∷ [])) rest) ∙ ap (λ (r : List (List ℕ)). r ++ rest) (sym (append_assoc a.front (codes "U" ∷ b.front) (codes "]" ∷ []))) in
      begins_with zero (suc d) (token ∷ codes "[" ∷ a.front ++ codes "U" ∷ b.front ++ codes "]" ∷ []) rest (token ∷ codes "[" ∷ more) (g.pair token f.tree i.tree) h
      (ap (λ (r : List (List ℕ)). token ∷ codes "[" ∷ r) inside) (paired d token a.front b.front f.tree i.tree is a.spelled b.spelled) e

  module _ (d : ℕ) (s : IsSound (IsSpelled g zero d) (basic g atom d)) (token : List ℕ) (is : g.is_pair token ≡ true) where
    pair_by_second : (more middle : List (List ℕ)) (f h : Front T) → Begins (IsSpelled g (top g) d) more f → behind (codes "U") f.rest ≡ Some middle
        → (o : Option (Front T)) → whole_by g (basic g atom d) middle ≡ o → pair_closed g token f.tree o ≡ Some h → Begins (IsSpelled g zero (suc d)) (token ∷ codes "[" ∷ more) h
    pair_by_second more middle f h a k None p e = absurd (none-some h e)
    pair_by_second more middle f h a k (Some i) p e = pair_by_end d token more middle f i h is a k ((whole_by_sound d s).begins middle i p) (behind (codes "]") i.rest) refl e

    pair_by_split : (more : List (List ℕ)) (f h : Front T) → Begins (IsSpelled g (top g) d) more f → (o : Option (List (List ℕ))) → behind (codes "U") f.rest ≡ o
        → option_and_then (λ (middle : List (List ℕ)). pair_closed g token f.tree (whole_by g (basic g atom d) middle)) o ≡ Some h → Begins (IsSpelled g zero (suc d)) (token ∷ codes "[" ∷ more) h
    pair_by_split more f h a None k e = absurd (none-some h e)
    pair_by_split more f h a (Some middle) k e = pair_by_second more middle f h a k (whole_by g (basic g atom d) middle) refl e

    pair_by_first : (more : List (List ℕ)) (h : Front T) (o : Option (Front T)) → whole_by g (basic g atom d) more ≡ o
        → option_and_then (pair_second g token (whole_by g (basic g atom d))) o ≡ Some h → Begins (IsSpelled g zero (suc d)) (token ∷ codes "[" ∷ more) h
    pair_by_first more h None p e = absurd (none-some h e)
    pair_by_first more h (Some f) p e = pair_by_split more f h ((whole_by_sound d s).begins more f p) (behind (codes "U") f.rest) refl e

    pair_by_open : (rest : List (List ℕ)) (h : Front T) (o : Option (List (List ℕ))) → behind (codes "[") rest ≡ o
        → option_and_then (λ (more : List (List ℕ)). option_and_then (pair_second g token (whole_by g (basic g atom d))) (whole_by g (basic g atom d) more)) o ≡ Some h
        → Begins (IsSpelled g zero (suc d)) (token ∷ rest) h
    pair_by_open rest h None k e = absurd (none-some h e)
    pair_by_open rest h (Some more) k e =
        subst (λ (r : List (List ℕ)). Begins (IsSpelled g zero (suc d)) (token ∷ r) h) (sym (behind_cut (codes "[") rest more k))
        (pair_by_first more h (whole_by g (basic g atom d) more) refl e)

    pair_sound : (rest : List (List ℕ)) (h : Front T) → pair_of g token (whole_by g (basic g atom d)) rest ≡ Some h → Begins (IsSpelled g zero (suc d)) (token ∷ rest) h
    unfolding pair_of
    pair_sound rest h e = pair_by_open rest h (behind (codes "[") rest) refl e

  -- each of them, by the first token
  nested_sound : (d : ℕ) → IsSound (IsSpelled g zero d) (basic g atom d) → (tokens : List (List ℕ)) (f : Front T) → nested_by g (basic g atom d) tokens ≡ Some f → Begins (IsSpelled g zero (suc d)) tokens f
  nested_sound d s [] f e = absurd (none-some f e)
  nested_sound d s (token ∷ rest) f e = by_token (g.is_prefix token) (g.is_pair token) (bytes_eq token (codes "(")) refl refl refl e
    where
      by_token : (a p b : Bool) → g.is_prefix token ≡ a → g.is_pair token ≡ p → bytes_eq token (codes "(") ≡ b
          → cond a (applied g token (basic g atom d rest)) (cond p (pair_of g token (whole_by g (basic g atom d)) rest) (cond b (closed (whole_by g (basic g atom d) rest)) None)) ≡ Some f → Begins (IsSpelled g zero (suc d)) (token ∷ rest) f
      by_token true p b h k q e = applied_sound d s token rest f h (basic g atom d rest) refl e
      by_token false true b h k q e = pair_sound d s token k rest f e
      by_token false false true h k q e = closed_sound d s (token ∷ rest) rest f (ap (λ (t : List ℕ). t ∷ rest) (same_bytes token (codes "(") q)) (whole_by g (basic g atom d) rest) refl e
      by_token false false false h k q e = absurd (none-some f e)

  basic_by : (d : ℕ) → IsSound (IsSpelled g zero d) (basic g atom d) → (tokens : List (List ℕ)) (f : Front T) (o : Option (Front T)) → atom tokens ≡ o
      → or_else o (nested_by g (basic g atom d) tokens) ≡ Some f → Begins (IsSpelled g zero (suc d)) tokens f
  basic_by d s tokens f None p e = nested_sound d s tokens f e
  basic_by d s tokens f (Some i) p e = atom_sound (suc d) tokens f (p ∙ e)

  -- what is read is spelled so
  pub basic_sound : (d : ℕ) → IsSound (IsSpelled g zero d) (basic g atom d)
  unfolding basic
  basic_sound zero = record { begins = λ tokens f e. atom_sound zero tokens f e }
  basic_sound (suc d) = record { begins = λ tokens f e. basic_by d (basic_sound d) tokens f (atom tokens) refl e }

  pub level_sound : (n d : ℕ) → n ≤ g.count → IsSound (IsSpelled g n d) (level g atom n d)
  unfolding level
  level_sound n d low = levels_sound n d low (basic_sound d)

  pub whole_at_sound : (d : ℕ) → IsSound (IsSpelled g (top g) d) (whole_at g atom d)
  unfolding whole_at
  whole_at_sound d = whole_by_sound d (basic_sound d)

  -- and what is left is no longer
  levels_shorten : (n d : ℕ) → n ≤ g.count → Shortens (level_by g n (basic g atom d))
  levels_shorten n d low = sound_shortens (IsSpelled g n d) (level_by g n (basic g atom d)) (levels_sound n d low (basic_sound d))

  pub level_shortens : (n d : ℕ) → n ≤ g.count → Shortens (level g atom n d)
  level_shortens n d low = sound_shortens (IsSpelled g n d) (level g atom n d) (level_sound n d low)

  pub whole_shortens : (d : ℕ) → Shortens (whole_at g atom d)
  whole_shortens d = sound_shortens (IsSpelled g (top g) d) (whole_at g atom d) (whole_at_sound d)

  -- none of the first operators, so many, stands in front
  abbrev IsClear : ℕ → List (List ℕ) → Type 0
  IsClear n rest = (m : ℕ) → m < n → behind (g.mark m) rest ≡ None

  -- what a reading of tokens comes to that begin with some that are spelled as a tree: that tree, or the loop that goes on behind it
  abbrev IsRead : ℕ → ℕ → List (List ℕ) → T → Type 0
  IsRead zero d front t = (rest : List (List ℕ)) → basic g atom d (front ++ rest) ≡ Some (record { tree = t; rest = rest })
  IsRead (suc n) d front t = (rest : List (List ℕ)) → IsClear n rest → level_by g (suc n) (basic g atom d) (front ++ rest) ≡ chain (g.mark n) (g.join n) (level_by g n (basic g atom d)) t rest

  -- where no operator stands behind, it is all that is read
  all_read : (n d : ℕ) (front rest : List (List ℕ)) (t : T) → IsRead n d front t → IsClear n rest → level_by g n (basic g atom d) (front ++ rest) ≡ Some (record { tree = t; rest = rest })
  unfolding level_by
  all_read zero d front rest t h clear = h rest
  all_read (suc n) d front rest t h clear =
      h rest (λ m below. clear m (omega arith)) ∙ chain_ends (g.mark n) (g.join n) (level_by g n (basic g atom d)) t rest (clear n (omega arith))

  basic_atom : (d : ℕ) (tokens : List (List ℕ)) (f : Front T) → atom tokens ≡ Some f → basic g atom d tokens ≡ Some f
  unfolding basic
  basic_atom zero tokens f e = e
  basic_atom (suc d) tokens f e = rw e

  prefixed_read : (d : ℕ) (token : List ℕ) (tokens : List (List ℕ)) (f : Front T) → g.is_prefix token ≡ true → basic g atom d tokens ≡ Some f → basic g atom (suc d) (token ∷ tokens) ≡ Some (record { tree = g.apply token f.tree; rest = f.rest })
  unfolding basic
  prefixed_read d token tokens f h e = rw (r.no_prefix token tokens h, h, e)

  enclosed_read : (d : ℕ) (tokens rest : List (List ℕ)) (t : T) → whole_by g (basic g atom d) tokens ≡ Some (record { tree = t; rest = codes ")" ∷ rest }) → basic g atom (suc d) (codes "(" ∷ tokens) ≡ Some (record { tree = t; rest = rest })
  unfolding basic
  enclosed_read d tokens rest t e = rw (r.no_bracket tokens, r.bracket.0, r.bracket.1, e)

  pair_read_by : (d : ℕ) (token : List ℕ) (tokens middle rest : List (List ℕ)) (a b : T) → whole_by g (basic g atom d) tokens ≡ Some (record { tree = a; rest = codes "U" ∷ middle })
      → whole_by g (basic g atom d) middle ≡ Some (record { tree = b; rest = codes "]" ∷ rest }) → pair_of g token (whole_by g (basic g atom d)) (codes "[" ∷ tokens) ≡ Some (record { tree = g.pair token a b; rest = rest })
  unfolding pair_of
  pair_read_by d token tokens middle rest a b h k = rw (h, k) refl

  pair_read : (d : ℕ) (token : List ℕ) (tokens middle rest : List (List ℕ)) (a b : T) → g.is_pair token ≡ true → whole_by g (basic g atom d) tokens ≡ Some (record { tree = a; rest = codes "U" ∷ middle })
      → whole_by g (basic g atom d) middle ≡ Some (record { tree = b; rest = codes "]" ∷ rest }) → basic g atom (suc d) (token ∷ codes "[" ∷ tokens) ≡ Some (record { tree = g.pair token a b; rest = rest })
  unfolding basic
  pair_read d token tokens middle rest a b is h k = let no = r.no_pair token (codes "[" ∷ tokens) is in rw (no.1, no.0, is) (pair_read_by d token tokens middle rest a b h k)

  -- what is spelled so is read so, whatever stands behind: between operators that group to the left, and as a whole
  pub record AreRead (n d : ℕ) (front : List (List ℕ)) (t : T) : Type 0 where
    pub left : n ≤ g.count → IsRead n d front t
    pub right : n ≡ suc g.count → g.arrow ≡ true → (rest : List (List ℕ)) → IsClear (suc g.count) rest → righted (g.mark g.count) (g.join g.count) (level_by g g.count (basic g atom d)) (front ++ rest) ≡ Some (record { tree = t; rest = rest })

  all_whole : (d : ℕ) (front rest : List (List ℕ)) (t : T) → AreRead (top g) d front t → IsClear (top g) rest → whole_by g (basic g atom d) (front ++ rest) ≡ Some (record { tree = t; rest = rest })
  unfolding whole_by
  all_whole d front rest t h clear = by_arrow g.arrow refl h clear
    where
      by_arrow : (b : Bool) → g.arrow ≡ b → AreRead (cond b (suc g.count) g.count) d front t → IsClear (cond b (suc g.count) g.count) rest
          → cond b (righted (g.mark g.count) (g.join g.count) (level_by g g.count (basic g atom d)) (front ++ rest)) (level_by g g.count (basic g atom d) (front ++ rest)) ≡ Some (record { tree = t; rest = rest })
      by_arrow true e h clear = h.right refl e rest clear
      by_arrow false e h clear = all_read g.count d front rest t (h.left (omega arith)) clear

  arrow_top : g.arrow ≡ true → top g ≡ suc g.count
  arrow_top e = rw e

  count_below : (b : Bool) → g.count ≤ cond b (suc g.count) g.count
  count_below true = omega arith
  count_below false = omega arith

  below_top : (n : ℕ) → n < g.count → n < top g
  below_top n h = let k = count_below g.arrow in omega (arith, h, k)

  arrow_below : g.arrow ≡ true → g.count < top g
  arrow_below e = let k = arrow_top e in omega (arith, k)

  basic_read : (d : ℕ) (tokens : List (List ℕ)) (t : T) → IsRead zero d tokens t → AreRead zero d tokens t
  basic_read d tokens t h = record { left = λ low. h; right = λ n e. absurd (omega (arith, n)) }

  pub spelled_read : (n d : ℕ) (tokens : List (List ℕ)) (t : T) → IsSpelled g n d tokens t → AreRead n d tokens t
  unfolding level_by
  spelled_read _ _ _ _ (leaf d tokens t a) = basic_read d tokens t (λ rest. basic_atom d (tokens ++ rest) (record { tree = t; rest = rest }) (r.complete tokens rest t a))
  spelled_read _ _ _ _ (prefixed d token tokens t h s) = basic_read (suc d) (token ∷ tokens) (g.apply token t) (λ rest. prefixed_read d token (tokens ++ rest) (record { tree = t; rest = rest }) h ((spelled_read zero d tokens t s).left (omega arith) rest))
  spelled_read _ _ _ _ (paired d token left right a b is s t) = basic_read (suc d) (token ∷ codes "[" ∷ left ++ codes "U" ∷ right ++ codes "]" ∷ []) (g.pair token a b) (λ rest.
      ap (λ (more : List (List ℕ)). basic g atom (suc d) (token ∷ codes "[" ∷ more))
      (append_assoc (left ++ codes "U" ∷ right) (codes "]" ∷ []) rest ∙ append_assoc left (codes "U" ∷ right) (codes "]" ∷ rest))
      ∙ pair_read d token (left ++ codes "U" ∷ (right ++ codes "]" ∷ rest)) (right ++ codes "]" ∷ rest) rest a b is
      (all_whole d left (codes "U" ∷ (right ++ codes "]" ∷ rest)) a (spelled_read (top g) d left a s) (λ m below. behind_other (codes "U") (g.mark m) (right ++ codes "]" ∷ rest) (r.closing m below).2))
      (all_whole d right (codes "]" ∷ rest) b (spelled_read (top g) d right b t) (λ m below. behind_other (codes "]") (g.mark m) rest (r.closing m below).1)))
  spelled_read _ _ _ _ (enclosed d tokens t s) = basic_read (suc d) (codes "(" ∷ tokens ++ codes ")" ∷ []) t (λ rest.
      ap (λ more. basic g atom (suc d) (codes "(" ∷ more)) (append_assoc tokens (codes ")" ∷ []) rest)
      ∙ enclosed_read d (tokens ++ codes ")" ∷ rest) rest t
      (all_whole d tokens (codes ")" ∷ rest) t (spelled_read (top g) d tokens t s) (λ m below. behind_other (codes ")") (g.mark m) rest (r.closing m below).0)))
  spelled_read _ _ _ _ (part n d tokens t s) =
      record {
        left = λ low rest clear. chained_begins (g.mark n) (g.join n) (level_by g n (basic g atom d)) (tokens ++ rest) (record { tree = t; rest = rest }) (all_read n d tokens rest t ((spelled_read n d tokens t s).left (omega arith)) clear);
        right = λ e arrow rest clear. conclusion n d tokens t (spelled_read n d tokens t s) e rest clear;
      }
    where
      conclusion : (n d : ℕ) (tokens : List (List ℕ)) (t : T) → AreRead n d tokens t → suc n ≡ suc g.count → (rest : List (List ℕ)) → IsClear (suc g.count) rest
          → righted (g.mark g.count) (g.join g.count) (level_by g g.count (basic g atom d)) (tokens ++ rest) ≡ Some (record { tree = t; rest = rest })
      conclusion n d tokens t h e rest clear =
          let same : n ≡ g.count = omega (arith, e) in
          let all : level_by g g.count (basic g atom d) (tokens ++ rest) ≡ Some (record { tree = t; rest = rest }) =
          all_read g.count d tokens rest t ((subst (λ (m : ℕ). AreRead m d tokens t) same h).left (omega arith)) (λ m below. clear m (omega arith)) in
          righted_end (g.mark g.count) (g.join g.count) (level_by g g.count (basic g atom d)) (levels_shorten g.count d (omega arith)) (tokens ++ rest) (record { tree = t; rest = rest }) all (clear g.count (omega arith))
  spelled_read _ _ _ _ (joined n d left right a b within s t) =
      record {
        left = λ low rest clear.
            ap (level_by g (suc n) (basic g atom d)) (append_assoc left (g.mark n ∷ right) rest)
            ∙ (spelled_read (suc n) d left a s).left low (g.mark n ∷ right ++ rest) (λ m below. behind_other (g.mark n) (g.mark m) (right ++ rest) (r.different m n below (below_top n within)))
            ∙ chain_goes (g.mark n) (g.join n) (level_by g n (basic g atom d)) (levels_shorten n d (omega arith)) a (g.mark n ∷ right ++ rest) (right ++ rest) (record { tree = b; rest = rest }) (behind_own (g.mark n) (right ++ rest))
            (all_read n d right rest b ((spelled_read n d right b t).left (omega arith)) clear);
        right = λ e. absurd (omega (arith, e, within));
      }
  spelled_read _ _ _ _ (implied d left right a b arrow s t) =
      record {
        left = λ low. absurd (omega (arith, low));
        right = λ e same rest clear.
            let back : List (List ℕ) = g.mark g.count ∷ right ++ rest in
            let first : level_by g g.count (basic g atom d) (left ++ back) ≡ Some (record { tree = a; rest = back }) =
            all_read g.count d left back a ((spelled_read g.count d left a s).left (omega arith)) (λ m below. behind_other (g.mark g.count) (g.mark m) (right ++ rest) (r.different m g.count below (arrow_below arrow))) in
            ap (righted (g.mark g.count) (g.join g.count) (level_by g g.count (basic g atom d))) (append_assoc left (g.mark g.count ∷ right) rest)
            ∙ righted_go (g.mark g.count) (g.join g.count) (level_by g g.count (basic g atom d)) (levels_shorten g.count d (omega arith)) (left ++ back) (right ++ rest) (record { tree = a; rest = back }) first (behind_own (g.mark g.count) (right ++ rest))
            ∙ ap (implying (g.mark g.count) (g.join g.count) a) ((spelled_read (suc g.count) d right b t).right refl arrow rest clear);
      }

  -- what is spelled as a tree is read as that tree
  pub tree_complete : (d : ℕ) (tokens : List (List ℕ)) (t : T) → IsSpelled g (top g) d tokens t → tree_in g atom d tokens ≡ Some t
  unfolding tree_in whole_at
  tree_complete d tokens t s =
      let read : whole_by g (basic g atom d) (tokens ++ []) ≡ Some (record { tree = t; rest = [] }) = all_whole d tokens [] t (spelled_read (top g) d tokens t s) (λ m below. refl) in
      ap whole (ap (whole_by g (basic g atom d)) (sym (append-nil tokens)) ∙ read)

  -- tokens of which nothing is left are spelled so
  whole_sound : (d : ℕ) (tokens : List (List ℕ)) (t u : T) (rest : List (List ℕ)) → Begins (IsSpelled g (top g) d) tokens (record { tree = u; rest = rest }) → alone u rest ≡ Some t → IsSpelled g (top g) d tokens t
  whole_sound d tokens t u [] b e =
      subst (λ (h : T). IsSpelled g (top g) d tokens h) (same_Some _ _ e)
      (subst (λ (all : List (List ℕ)). IsSpelled g (top g) d all u) (sym (append-nil b.front) ∙ sym b.cut) b.spelled)
  whole_sound d tokens t u (x ∷ rest) b e = absurd (none-some t e)

  tree_by : (d : ℕ) (tokens : List (List ℕ)) (t : T) (o : Option (Front T)) → whole_at g atom d tokens ≡ o → whole o ≡ Some t → IsSpelled g (top g) d tokens t
  tree_by d tokens t None p e = absurd (none-some t e)
  tree_by d tokens t (Some f) p e = whole_sound d tokens t f.tree f.rest ((whole_at_sound d).begins tokens f p) e

  -- what is read as a tree is spelled as that tree
  pub tree_sound : (d : ℕ) (tokens : List (List ℕ)) (t : T) → tree_in g atom d tokens ≡ Some t → IsSpelled g (top g) d tokens t
  unfolding tree_in
  tree_sound d tokens t e = tree_by d tokens t (whole_at g atom d tokens) refl e

  -- no tokens are two trees
  pub tree_unique : (d : ℕ) (tokens : List (List ℕ)) (t u : T) → IsSpelled g (top g) d tokens t → IsSpelled g (top g) d tokens u → t ≡ u
  tree_unique d tokens t u a b = same_Some _ _ (sym (tree_complete d tokens t a) ∙ tree_complete d tokens u b)

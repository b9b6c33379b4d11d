-- The steps of the parser.
use Rattle.std.proofs.Common.{◌≡◌, ℕ, zero, suc, ◌-◌, ◌<◌, ◌≤◌, Bool, true, false, cond, List, length, codes, Option, Some, None, refl, sym, ◌∙◌, ap, subst, arith}
use Rattle.std.proofs.lemmas.List.{length-map}
use Rattle.xc_base.specs.Lines.{texts}
use Rattle.xc_base.specs.declared.lines.Lexeme.{Lexeme}
use Rattle.xc_base.specs.Operators.{Front, behind, chain, chained, Shortens}
use Rattle.xc_base.proofs.Operators.{chain_ends, chain_goes, chain_fails, chained_begins, chained_fails, turn_shorter}
use Rattle.xc_grammar.specs.Grammars.{Grammar}
use Rattle.xc_grammar.specs.Reading.{or_else, level_by, whole_by, pair_closed, pair_of, in_brackets, under, nested_by, basic, nested, level, whole_at, Reads}
use Rattle.xc_grammar.specs.Righted.{righted, implying}
use Rattle.xc_grammar.proofs.Righted.{behind_less, righted_fail, righted_end, righted_go}
use Rattle.xc_grammar.proofs.Trees.{level_shortens, whole_shortens}

module _ {T : Type 0} (g : Grammar T) (atom : List (List ℕ) → Option (Front T)) where
  -- a basic tree is an atom, or else it has a prefix or brackets
  pub basic_is : (d : ℕ) (tokens : List (List ℕ)) → basic g atom d tokens ≡ or_else (atom tokens) (nested g atom d tokens)
  unfolding basic nested
  basic_is zero tokens = by_atom (atom tokens)
    where
      by_atom : (o : Option (Front T)) → o ≡ or_else o None
      by_atom None = refl
      by_atom (Some f) = refl
  basic_is (suc d) tokens = refl

  -- at no depth there is none
  pub nested_ends : (d : ℕ) (tokens : List (List ℕ)) → d ≡ 0 → nested g atom d tokens ≡ None
  unfolding nested
  nested_ends zero tokens h = refl
  nested_ends (suc d) tokens h = absurd (omega arith)

  -- and else what comes of the first token
  pub nested_deeper : (d : ℕ) (tokens : List (List ℕ)) → 0 < d → nested g atom d tokens ≡ nested_by g (basic g atom (d - 1)) tokens
  unfolding nested
  nested_deeper zero tokens h = absurd (omega arith)
  nested_deeper (suc d) tokens h = ap (λ (k : ℕ). nested_by g (basic g atom k) tokens) same
    where
      same : d ≡ suc d - 1
      same = omega arith

  -- with no prefix in front
  pub under_brackets : (d : ℕ) (token : List ℕ) (rest : List (List ℕ)) → g.is_prefix token ≡ false → in_brackets g token (whole_at g atom d) rest ≡ under g (basic g atom d) token rest
  unfolding whole_at
  under_brackets d token rest h = rw h refl

  -- with no operators it is basic
  pub level_basic : (n d : ℕ) (tokens : List (List ℕ)) → n ≡ 0 → level g atom n d tokens ≡ basic g atom d tokens
  unfolding level level_by
  level_basic zero d tokens h = refl
  level_basic (suc n) d tokens h = absurd (omega arith)

  -- one operator more: it fails where no part is, begins with a part, goes on with each operator, and ends
  pub level_fails : (n d : ℕ) (tokens : List (List ℕ)) → 0 < n → level g atom (n - 1) d tokens ≡ None → level g atom n d tokens ≡ None
  unfolding level level_by
  level_fails zero d tokens h k = absurd (omega arith)
  level_fails (suc n) d tokens h k =
      let same : suc n - 1 ≡ n = omega arith in
      chained_fails (g.mark n) (g.join n) (level_by g n (basic g atom d)) tokens (subst (λ (m : ℕ). level_by g m (basic g atom d) tokens ≡ None) same k)

  pub level_begins : (n d : ℕ) (tokens rest : List (List ℕ)) (t : T) → 0 < n → level g atom (n - 1) d tokens ≡ Some (record { tree = t; rest = rest })
      → chain (g.mark (n - 1)) (g.join (n - 1)) (level g atom (n - 1) d) t rest ≡ level g atom n d tokens
  unfolding level level_by
  level_begins zero d tokens rest t h k = absurd (omega arith)
  level_begins (suc n) d tokens rest t h k =
      let same : suc n - 1 ≡ n = omega arith in
      subst (λ (m : ℕ). chain (g.mark m) (g.join m) (level_by g m (basic g atom d)) t rest ≡ chained (g.mark n) (g.join n) (level_by g n (basic g atom d)) tokens) (sym same)
      (sym (chained_begins (g.mark n) (g.join n) (level_by g n (basic g atom d)) tokens (record { tree = t; rest = rest })
      (subst (λ (m : ℕ). level_by g m (basic g atom d) tokens ≡ Some (record { tree = t; rest = rest })) same k)))

  pub level_stops : (n d : ℕ) (tokens more : List (List ℕ)) (t : T) → behind (g.mark n) tokens ≡ Some more → level g atom n d more ≡ None → chain (g.mark n) (g.join n) (level g atom n d) t tokens ≡ None
  level_stops n d tokens more t p q = chain_fails (g.mark n) (g.join n) (level g atom n d) t tokens more p q

  pub level_ends : (n d : ℕ) (tokens : List (List ℕ)) (t : T) → behind (g.mark n) tokens ≡ None → chain (g.mark n) (g.join n) (level g atom n d) t tokens ≡ Some (record { tree = t; rest = tokens })
  level_ends n d tokens t p = chain_ends (g.mark n) (g.join n) (level g atom n d) t tokens p

  module _ (r : Reads g atom) where
    pub level_goes : (n d : ℕ) (tokens more rest : List (List ℕ)) (t u : T) → n ≤ g.count → behind (g.mark n) tokens ≡ Some more → level g atom n d more ≡ Some (record { tree = u; rest = rest })
        → chain (g.mark n) (g.join n) (level g atom n d) (g.join n t u) rest ≡ chain (g.mark n) (g.join n) (level g atom n d) t tokens
    level_goes n d tokens more rest t u low p q = sym (chain_goes (g.mark n) (g.join n) (level g atom n d) (level_shortens g atom r n d low) t tokens more (record { tree = u; rest = rest }) p q)

    pub level_shorter : (n d : ℕ) (tokens more rest : List Lexeme) (t : T) → n ≤ g.count → behind (g.mark n) (texts tokens) ≡ Some (texts more) → level g atom n d (texts more) ≡ Some (record { tree = t; rest = texts rest }) → length rest < length tokens
    level_shorter n d tokens more rest t low p q = turn_shorter (g.mark n) (level g atom n d) (level_shortens g atom r n d low) tokens more rest t p q

    parts_shorten : (d : ℕ) → Shortens (level g atom g.count d)
    parts_shorten d = level_shortens g atom r g.count d (omega arith)

    -- the operator that groups to the right: no part stands in front, there is none, it does not follow, it follows
    pub whole_fails : (d : ℕ) (tokens : List (List ℕ)) → level g atom g.count d tokens ≡ None → whole_at g atom d tokens ≡ None
    unfolding whole_at whole_by level
    whole_fails d tokens h = by_arrow g.arrow
      where
        by_arrow : (b : Bool) → cond b (righted (g.mark g.count) (g.join g.count) (level_by g g.count (basic g atom d)) tokens) (level_by g g.count (basic g atom d) tokens) ≡ None
        by_arrow true = righted_fail (g.mark g.count) (g.join g.count) (level_by g g.count (basic g atom d)) (parts_shorten d) tokens h
        by_arrow false = h

    pub whole_plain : (d : ℕ) (tokens rest : List (List ℕ)) (t : T) → level g atom g.count d tokens ≡ Some (record { tree = t; rest = rest }) → g.arrow ≡ false → whole_at g atom d tokens ≡ Some (record { tree = t; rest = rest })
    unfolding whole_at whole_by level
    whole_plain d tokens rest t h k = ap (λ (b : Bool). cond b (righted (g.mark g.count) (g.join g.count) (level_by g g.count (basic g atom d)) tokens) (level_by g g.count (basic g atom d) tokens)) k ∙ h

    pub whole_ends : (d : ℕ) (tokens rest : List (List ℕ)) (t : T) → level g atom g.count d tokens ≡ Some (record { tree = t; rest = rest }) → g.arrow ≡ true → behind (g.mark g.count) rest ≡ None → whole_at g atom d tokens ≡ Some (record { tree = t; rest = rest })
    unfolding whole_at whole_by level
    whole_ends d tokens rest t h k e = ap (λ (b : Bool). cond b (righted (g.mark g.count) (g.join g.count) (level_by g g.count (basic g atom d)) tokens) (level_by g g.count (basic g atom d) tokens)) k ∙ (righted_end (g.mark g.count) (g.join g.count) (level_by g g.count (basic g atom d)) (parts_shorten d) tokens (record { tree = t; rest = rest }) h e)

    pub whole_goes : (d : ℕ) (tokens rest more : List (List ℕ)) (t : T) → level g atom g.count d tokens ≡ Some (record { tree = t; rest = rest }) → g.arrow ≡ true → behind (g.mark g.count) rest ≡ Some more
        → implying (g.mark g.count) (g.join g.count) t (whole_at g atom d more) ≡ whole_at g atom d tokens
    unfolding whole_at whole_by level
    whole_goes d tokens rest more t h k e =
        ap (λ (b : Bool). implying (g.mark g.count) (g.join g.count) t (cond b (righted (g.mark g.count) (g.join g.count) (level_by g g.count (basic g atom d)) more) (level_by g g.count (basic g atom d) more))) k
        ∙ sym (ap (λ (b : Bool). cond b (righted (g.mark g.count) (g.join g.count) (level_by g g.count (basic g atom d)) tokens) (level_by g g.count (basic g atom d) tokens)) k ∙ righted_go (g.mark g.count) (g.join g.count) (level_by g g.count (basic g atom d)) (parts_shorten d) tokens more (record { tree = t; rest = rest }) h e)

    pub whole_shorter : (d : ℕ) (tokens rest more : List Lexeme) (t : T) → level g atom g.count d (texts tokens) ≡ Some (record { tree = t; rest = texts rest }) → behind (g.mark g.count) (texts rest) ≡ Some (texts more) → length more < length tokens
    whole_shorter d tokens rest more t p q =
        let a : length (texts more) < length (texts rest) = behind_less (g.mark g.count) (texts rest) (texts more) q in
        let b = (parts_shorten d).shorter (texts tokens) (record { tree = t; rest = texts rest }) p in
        omega (arith, length-map tokens (λ (x : Lexeme). x.text.now), length-map more (λ (x : Lexeme). x.text.now))

    module _ (d : ℕ) (token : List ℕ) (tokens : List (List ℕ)) where
      pub pair_unopened : behind (codes "[") tokens ≡ None → pair_of g token (whole_at g atom d) tokens ≡ None
      unfolding pair_of
      pair_unopened h = rw h refl

      pub pair_no_first : (more : List (List ℕ)) → behind (codes "[") tokens ≡ Some more → whole_at g atom d more ≡ None → pair_of g token (whole_at g atom d) tokens ≡ None
      unfolding pair_of
      pair_no_first more h k = rw (h, k) refl

      pub pair_unsplit : (more rest : List (List ℕ)) (t : T) → behind (codes "[") tokens ≡ Some more → whole_at g atom d more ≡ Some (record { tree = t; rest = rest }) → behind (codes "U") rest ≡ None → pair_of g token (whole_at g atom d) tokens ≡ None
      unfolding pair_of
      pair_unsplit more rest t h k m = rw (h, k, m) refl

      pub pair_goes : (more rest second : List (List ℕ)) (t : T) → behind (codes "[") tokens ≡ Some more → whole_at g atom d more ≡ Some (record { tree = t; rest = rest }) → behind (codes "U") rest ≡ Some second
          → pair_closed g token t (whole_at g atom d second) ≡ pair_of g token (whole_at g atom d) tokens
      unfolding pair_of
      pair_goes more rest second t h k m = rw (h, k, m) refl

    pub second_shorter : (d : ℕ) (tokens more rest second : List Lexeme) (t : T) → behind (codes "[") (texts tokens) ≡ Some (texts more) → whole_at g atom d (texts more) ≡ Some (record { tree = t; rest = texts rest })
        → behind (codes "U") (texts rest) ≡ Some (texts second) → length second < length tokens
    second_shorter d tokens more rest second t h k m =
        let a : length (texts more) < length (texts tokens) = behind_less (codes "[") (texts tokens) (texts more) h in
        let b = (whole_shortens g atom r d).shorter (texts more) (record { tree = t; rest = texts rest }) k in
        let c : length (texts second) < length (texts rest) = behind_less (codes "U") (texts rest) (texts second) m in
        omega (arith, length-map tokens (λ (x : Lexeme). x.text.now), length-map second (λ (x : Lexeme). x.text.now))

pub opened_shorter : (tokens more : List Lexeme) → behind (codes "[") (texts tokens) ≡ Some (texts more) → length more < length tokens
opened_shorter tokens more h =
    let a : length (texts more) < length (texts tokens) = behind_less (codes "[") (texts tokens) (texts more) h in
    omega (arith, length-map tokens (λ (x : Lexeme). x.text.now), length-map more (λ (x : Lexeme). x.text.now))

pub ruleset whole_steps = (whole_fails, whole_plain, whole_ends, whole_goes, whole_shorter)

pub ruleset pair_steps = (pair_unopened, pair_no_first, pair_unsplit, pair_goes, opened_shorter, second_shorter)

pub ruleset nested_steps = (nested_ends, nested_deeper)

pub ruleset level_steps = (level_basic, level_fails, level_begins, level_goes, level_stops, level_ends, level_shorter)

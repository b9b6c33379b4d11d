-- How names with `,` between them are read.
use Rattle.std.proofs.Common.{◌≡◌, Bool, true, false, cond, ℕ, List, [], ◌∷◌, ◌++◌, append_assoc, codes, Some, None, refl, sym, ◌∙◌, subst, ap}
use Rattle.std.specs.List.{list_all}
use Rattle.std.proofs.lemmas.Bool.{and_parts, and_from}
use Rattle.std.proofs.lemmas.Option.{none-some, same_Some}
use Rattle.xc_base.specs.Words.{is_name}
use Rattle.xc_base.specs.Operators.{Front, behind, chain, Shortens, Begins, IsSound}
use Rattle.xc_base.proofs.Operators.{chain_goes, chain_ends, chained_begins, chained_sound, sound_shortens}
use Rattle.xc_formula.specs.Written.{listed}
use Rattle.xc_formula.specs.FormulaReading.{one_name, names, joined}

-- a name alone
pub record IsOneName (tokens names : List (List ℕ)) : Type 0 where
  pub name : List ℕ
  pub spelled : tokens ≡ name ∷ []
  pub is : names ≡ name ∷ []
  pub named : is_name name ≡ true

-- one name or more, with `,` between them
pub record AreListed (tokens names : List (List ℕ)) : Type 0 where
  pub first : List ℕ
  pub more : List (List ℕ)
  pub some : names ≡ first ∷ more
  pub spelled : tokens ≡ listed names
  pub named : list_all is_name names ≡ true

-- the name in front, by whether it is one
one_by : (token : List ℕ) (rest : List (List ℕ)) (f : Front (List (List ℕ))) (b : Bool) → is_name token ≡ b → cond b (Some (record { tree = token ∷ []; rest = rest })) None ≡ Some f → Begins IsOneName (token ∷ rest) f
one_by token rest f false p e = absurd (none-some f e)
one_by token rest f true p e =
    subst (λ (x : Front (List (List ℕ))). Begins IsOneName (token ∷ rest) x) (same_Some _ _ e)
    (record { front = token ∷ []; cut = refl; spelled = record { name = token; spelled = refl; is = refl; named = p } })

-- a name that is read is one
one_sound : IsSound IsOneName one_name
unfolding one_name
one_sound = record { begins = by_tokens }
  where
    by_tokens : (tokens : List (List ℕ)) (f : Front (List (List ℕ))) → one_name tokens ≡ Some f → Begins IsOneName tokens f
    by_tokens [] f e = absurd (none-some f e)
    by_tokens (token ∷ rest) f e = one_by token rest f (is_name token) refl e

-- what is left is no longer
pub one_shortens : Shortens one_name
one_shortens = sound_shortens IsOneName one_name one_sound

-- a list with one name more
listed_more : (first : List ℕ) (more : List (List ℕ)) (name : List ℕ) → listed ((first ∷ more) ++ name ∷ []) ≡ listed (first ∷ more) ++ codes "," ∷ name ∷ []
listed_more first [] name = refl
listed_more first (next ∷ more) name = ap (λ (ts : List (List ℕ)). first ∷ codes "," ∷ ts) (listed_more next more name)

-- names and a name are names
named_more : (more : List (List ℕ)) (name : List ℕ) → list_all is_name more ≡ true → is_name name ≡ true → list_all is_name (more ++ name ∷ []) ≡ true
named_more [] name h k = and_from _ _ k refl
named_more (first ∷ more) name h k = let p = and_parts _ _ h in and_from _ _ p.0 (named_more more name p.1 k)

-- listed names, a `,` and a name are listed names
more_names : (left right a b : List (List ℕ)) → AreListed left a → IsOneName right b → AreListed (left ++ codes "," ∷ right) (joined a b)
more_names left right a b l o =
    let all : joined a b ≡ (l.first ∷ l.more) ++ o.name ∷ [] = ap (λ (xs : List (List ℕ)). xs ++ b) l.some ∙ ap (λ (ys : List (List ℕ)). (l.first ∷ l.more) ++ ys) o.is in
    record {
      first = l.first;
      more = l.more ++ o.name ∷ [];
      some = all;
      spelled =
          ap (λ (ts : List (List ℕ)). ts ++ codes "," ∷ right) (l.spelled ∙ ap listed l.some)
          ∙ ap (λ (ts : List (List ℕ)). listed (l.first ∷ l.more) ++ codes "," ∷ ts) o.spelled
          ∙ sym (listed_more l.first l.more o.name) ∙ ap listed (sym all);
      named = subst (λ (xs : List (List ℕ)). list_all is_name xs ≡ true) (sym all) (named_more (l.first ∷ l.more) o.name (subst (λ (xs : List (List ℕ)). list_all is_name xs ≡ true) l.some l.named) o.named);
    }

-- so is a name alone
one_listed : (tokens names : List (List ℕ)) → IsOneName tokens names → AreListed tokens names
one_listed tokens names o = record {
  first = o.name;
  more = [];
  some = o.is;
  spelled = o.spelled ∙ ap listed (sym o.is);
  named = subst (λ (xs : List (List ℕ)). list_all is_name xs ≡ true) (sym o.is) (and_from _ _ o.named refl);
}

-- what is read is spelled so
pub names_sound : IsSound AreListed names
unfolding names
names_sound = chained_sound (codes ",") joined one_name IsOneName AreListed more_names one_sound one_listed

-- a name is read
one_read : (name : List ℕ) (rest : List (List ℕ)) → is_name name ≡ true → one_name (name ∷ rest) ≡ Some (record { tree = name ∷ []; rest = rest })
unfolding one_name
one_read name rest h = rw h

-- names behind `,` are read on
listed_read : (left : List (List ℕ)) (first : List ℕ) (more rest : List (List ℕ)) → list_all is_name (first ∷ more) ≡ true
    → chain (codes ",") joined one_name left (codes "," ∷ listed (first ∷ more) ++ rest) ≡ chain (codes ",") joined one_name (left ++ first ∷ more) rest
listed_read left first [] rest h =
    chain_goes (codes ",") joined one_name one_shortens left (codes "," ∷ first ∷ rest) (first ∷ rest) (record { tree = first ∷ []; rest = rest }) refl (one_read first rest (and_parts _ _ h).0)
listed_read left first (next ∷ more) rest h =
    let p = and_parts _ _ h in
    let behind_first = codes "," ∷ listed (next ∷ more) ++ rest in
    chain_goes (codes ",") joined one_name one_shortens left (codes "," ∷ first ∷ behind_first) (first ∷ behind_first) (record { tree = first ∷ []; rest = behind_first }) refl (one_read first behind_first p.0)
    ∙ listed_read (left ++ first ∷ []) next more rest p.1
    ∙ ap (λ (xs : List (List ℕ)). chain (codes ",") joined one_name xs rest) (append_assoc left (first ∷ []) (next ∷ more))

-- what is spelled so is read
pub names_read : (first : List ℕ) (more rest : List (List ℕ)) → list_all is_name (first ∷ more) ≡ true → behind (codes ",") rest ≡ None → names (listed (first ∷ more) ++ rest) ≡ Some (record { tree = first ∷ more; rest = rest })
unfolding names
names_read first [] rest h k =
    chained_begins (codes ",") joined one_name (first ∷ rest) (record { tree = first ∷ []; rest = rest }) (one_read first rest (and_parts _ _ h).0)
    ∙ chain_ends (codes ",") joined one_name (first ∷ []) rest k
names_read first (next ∷ more) rest h k =
    let p = and_parts _ _ h in
    let behind_first = codes "," ∷ listed (next ∷ more) ++ rest in
    chained_begins (codes ",") joined one_name (first ∷ behind_first) (record { tree = first ∷ []; rest = behind_first }) (one_read first behind_first p.0)
    ∙ listed_read (first ∷ []) next more rest p.1
    ∙ chain_ends (codes ",") joined one_name (first ∷ next ∷ more) rest k

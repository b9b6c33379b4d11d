-- What the statements from a place on say, as loops go over them.
use Rattle.std.proofs.Common.{◌≡◌, ℕ, suc, ◌+◌, ◌<◌, ◌≤◌, true, List, [], ◌∷◌, ◌++◌, length, get_or, drop, drop-cons, add-one, refl, arith}
use Rattle.std.specs.List.{list_all}
use Rattle.std.proofs.lemmas.List.Sums.{AllPass-from_list_all}
use Rattle.xc_forms.specs.declared.domain.Domain.{Domain}
use Rattle.xc_sigmap.specs.declared.names.Names.{Names}
use Rattle.xc_sigmap_lines.specs.declared.parts.Use as viewpoints
use Rattle.xc_sigmap_lines.specs.declared.statement.Statement.{Statement}
use Rattle.xc_sigmap_lines.specs.declared.statement.Statement.TheVariants.{Map, Use, Var, Prop, Send, Tell, Stutter}
use Rattle.xc_sigmap_lines.specs.MapFiles.{is_map, first_name, sends_of, tells_of, stutters_of}
use Rattle.xc_sigmap.specs.Drafts.{begins}
use Rattle.xc_sigmap.specs.Drafted.{is_known}

-- each of the statements names what is known
pub known_at : (names : Names) (ss : List Statement) (i : ℕ) (d : Statement) → list_all (is_known names) ss ≡ true → i < length ss → is_known names (get_or ss i d) ≡ true
known_at names ss i d h within = AllPass-from_list_all (is_known names) ss h i d within

-- what the first statement says, and what the others do
pub sends_cons : (uses : List viewpoints.Use) (vars : List Domain) (s : Statement) (more : List Statement) → sends_of uses vars (s ∷ more) ≡ sends_of uses vars (s ∷ []) ++ sends_of uses vars more
sends_cons uses vars (Map name) more = refl
sends_cons uses vars (Use u) more = refl
sends_cons uses vars (Var d) more = refl
sends_cons uses vars (Prop name) more = refl
sends_cons uses vars (Send viewpoint variable source pairs) more = refl
sends_cons uses vars (Tell viewpoint prop told) more = refl
sends_cons uses vars (Stutter viewpoint value) more = refl

pub sends_from : (uses : List viewpoints.Use) (vars : List Domain) (ss : List Statement) (i : ℕ) (d : Statement) → i < length ss → sends_of uses vars (drop i ss) ≡ sends_of uses vars (get_or ss i d ∷ []) ++ sends_of uses vars (drop (i + 1) ss)
sends_from uses vars ss i d h = rw (add-one, drop-cons ss i d) (sends_cons uses vars (get_or ss i d) (drop (suc i) ss))

-- what the first statement says, and what the others do
pub tells_cons : (uses : List viewpoints.Use) (props : List (List ℕ)) (s : Statement) (more : List Statement) → tells_of uses props (s ∷ more) ≡ tells_of uses props (s ∷ []) ++ tells_of uses props more
tells_cons uses props (Map name) more = refl
tells_cons uses props (Use u) more = refl
tells_cons uses props (Var d) more = refl
tells_cons uses props (Prop name) more = refl
tells_cons uses props (Send viewpoint variable source pairs) more = refl
tells_cons uses props (Tell viewpoint prop told) more = refl
tells_cons uses props (Stutter viewpoint value) more = refl

pub tells_from : (uses : List viewpoints.Use) (props : List (List ℕ)) (ss : List Statement) (i : ℕ) (d : Statement) → i < length ss → tells_of uses props (drop i ss) ≡ tells_of uses props (get_or ss i d ∷ []) ++ tells_of uses props (drop (i + 1) ss)
tells_from uses props ss i d h = rw (add-one, drop-cons ss i d) (tells_cons uses props (get_or ss i d) (drop (suc i) ss))

-- what the first statement says, and what the others do
pub stutters_cons : (uses : List viewpoints.Use) (s : Statement) (more : List Statement) → stutters_of uses (s ∷ more) ≡ stutters_of uses (s ∷ []) ++ stutters_of uses more
stutters_cons uses (Map name) more = refl
stutters_cons uses (Use u) more = refl
stutters_cons uses (Var d) more = refl
stutters_cons uses (Prop name) more = refl
stutters_cons uses (Send viewpoint variable source pairs) more = refl
stutters_cons uses (Tell viewpoint prop told) more = refl
stutters_cons uses (Stutter viewpoint value) more = refl

pub stutters_from : (uses : List viewpoints.Use) (ss : List Statement) (i : ℕ) (d : Statement) → i < length ss → stutters_of uses (drop i ss) ≡ stutters_of uses (get_or ss i d ∷ []) ++ stutters_of uses (drop (i + 1) ss)
stutters_from uses ss i d h = rw (add-one, drop-cons ss i d) (stutters_cons uses (get_or ss i d) (drop (suc i) ss))

-- the name stands in the first statement
name_is : (s : Statement) (more : List Statement) → is_map s ≡ true → first_name (s ∷ more) ≡ first_name (s ∷ [])
name_is (Map name) more h = refl
name_is (Use u) more h = cc
name_is (Var d) more h = cc
name_is (Prop name) more h = cc
name_is (Send viewpoint variable source pairs) more h = cc
name_is (Tell viewpoint prop told) more h = cc
name_is (Stutter viewpoint value) more h = cc

pub first_is_map : (ss : List Statement) (s : Statement) → 1 ≤ length ss → begins ss ≡ true → s ≡ get_or ss 0 s → is_map s ≡ true
first_is_map [] s some b e = absurd (omega arith)
first_is_map (r ∷ more) s some b e = rw e b

pub first_says : (ss : List Statement) (s : Statement) → 1 ≤ length ss → begins ss ≡ true → s ≡ get_or ss 0 s → first_name ss ≡ first_name (s ∷ [])
first_says [] s some b e = absurd (omega arith)
first_says (r ∷ more) s some b e = rw e (name_is r more b)

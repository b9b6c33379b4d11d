-- What the statements from a place on say, as loops go over them.
use Rattle.std.proofs.Common.{◌≡◌, ℕ, ◌+◌, ◌<◌, ◌≤◌, true, List, [], ◌∷◌, ◌++◌, length, get_or, drop, drop-cons, add-one, None, refl, sym, ◌∙◌, subst, arith}
use Rattle.std.specs.List.{list_all, filter_map}
use Rattle.std.specs.Option.{is_some}
use Rattle.std.proofs.lemmas.List.Sums.{AllPass-from_list_all}
use Rattle.std.proofs.lemmas.List.Folds.{list_all-map}
use Rattle.std.proofs.lemmas.Bool.{and_parts}
use Rattle.xc_expr.specs.Tests.{Test, False}
use Rattle.xc_forms.specs.ByKind.{first_of}
use Rattle.xc_forms.specs.declared.domain.Domain.{Domain}
use Rattle.xc_forms.proofs.ByKind.{kind_from, first_is}
use Rattle.xc_view.specs.ViewFiles.{PropValue, CommandValue, ViewValue, name_in, lattice_in, vars_of, init_in, prop_in, command_in, view_of}
use Rattle.xc_view_lines.specs.ViewLines.{Statement, View, Lattice, Var, Init, Prop, Command}
use Rattle.xc_view_lines.specs.Statements.{stated}
use Rattle.xc_view.specs.Drafts.{all_stated, begins, is_known}
use Rattle.xc_view_lines.specs.declared.statement.Statement as code

-- each of the statements has known names
pub known_at : (vars : List Domain) (ss : List code.Statement) (i : ℕ) (d : code.Statement) → list_all (is_known vars) (all_stated ss) ≡ true → i < length ss → is_known vars (stated (get_or ss i d)) ≡ true
known_at vars ss i d h within = AllPass-from_list_all (λ (s : code.Statement). is_known vars (stated s)) ss (sym (list_all-map (is_known vars) stated ss) ∙ h) i d within

-- what comes from a place on is the statement there and those behind
pub init_from : (vars : List Domain) (ss : List code.Statement) (i : ℕ) (d : code.Statement) → i < length ss → first_of (init_in vars) False (all_stated (drop i ss)) ≡ first_of (init_in vars) False (stated (get_or ss i d) ∷ all_stated (drop (i + 1) ss))
init_from vars ss i d h = rw (add-one, drop-cons ss i d)

-- propositions' lines, and commands, from a place on
pub props_from : (vars : List Domain) (ss : List code.Statement) (i : ℕ) (d : code.Statement) → i < length ss
    → filter_map (prop_in vars) (all_stated (drop i ss)) ≡ filter_map (prop_in vars) (stated (get_or ss i d) ∷ []) ++ filter_map (prop_in vars) (all_stated (drop (i + 1) ss))
props_from vars ss i d h = kind_from (prop_in vars) stated ss i d h

pub commands_from : (vars : List Domain) (ss : List code.Statement) (i : ℕ) (d : code.Statement) → i < length ss
    → filter_map (command_in vars) (all_stated (drop i ss)) ≡ filter_map (command_in vars) (stated (get_or ss i d) ∷ []) ++ filter_map (command_in vars) (all_stated (drop (i + 1) ss))
commands_from vars ss i d h = kind_from (command_in vars) stated ss i d h

-- the first statement is the name, and the second the lattice
module _ (s t : code.Statement) (more : List code.Statement) (b : begins (all_stated (s ∷ t ∷ more)) ≡ true) where
  name_here : is_some (name_in (stated s)) ≡ true
  name_here = (and_parts (is_some (name_in (stated s))) (is_some (lattice_in (stated t))) b).0

  lattice_here : is_some (lattice_in (stated t)) ≡ true
  lattice_here = (and_parts (is_some (name_in (stated s))) (is_some (lattice_in (stated t))) b).1

-- a name is no lattice
no_lattice : (s : Statement) → is_some (name_in s) ≡ true → lattice_in s ≡ None
no_lattice (View name) h = refl
no_lattice (Lattice file) h = cc
no_lattice (Var domain) h = cc
no_lattice (Init guard) h = cc
no_lattice (Prop name value guard) h = cc
no_lattice (Command name value guard action) h = cc

pub lattice_is : (s t : Statement) (more : List Statement) → is_some (name_in s) ≡ true → is_some (lattice_in t) ≡ true → first_of lattice_in [] (s ∷ t ∷ more) ≡ first_of lattice_in [] (t ∷ [])
lattice_is s t more h k = rw (no_lattice s h) (first_is lattice_in [] t more k)

-- the same, of what stands at the first two places
pub first_is_view : (ss : List code.Statement) (s : code.Statement) → 2 ≤ length ss → begins (all_stated ss) ≡ true → s ≡ get_or ss 0 s → (is_some (name_in (stated s)) ≡ true) × (first_of name_in [] (all_stated ss) ≡ first_of name_in [] (stated s ∷ []))
first_is_view [] s two b e = absurd (omega arith)
first_is_view (r ∷ []) s two b e = absurd (omega arith)
first_is_view (r ∷ t ∷ more) s two b e =
    let kind = name_here r t more b in
    subst (λ (x : code.Statement). (is_some (name_in (stated x)) ≡ true) × (first_of name_in [] (all_stated (r ∷ t ∷ more)) ≡ first_of name_in [] (stated x ∷ []))) (sym e)
    (kind, first_is name_in [] (stated r) (all_stated (t ∷ more)) kind)

-- likewise at the second place
pub second_is_lattice : (ss : List code.Statement) (s : code.Statement) → 2 ≤ length ss → begins (all_stated ss) ≡ true → s ≡ get_or ss 1 s → (is_some (lattice_in (stated s)) ≡ true) × (first_of lattice_in [] (all_stated ss) ≡ first_of lattice_in [] (stated s ∷ []))
second_is_lattice [] s two b e = absurd (omega arith)
second_is_lattice (r ∷ []) s two b e = absurd (omega arith)
second_is_lattice (r ∷ t ∷ more) s two b e =
    let kind = lattice_here r t more b in
    subst (λ (x : code.Statement). (is_some (lattice_in (stated x)) ≡ true) × (first_of lattice_in [] (all_stated (r ∷ t ∷ more)) ≡ first_of lattice_in [] (stated x ∷ []))) (sym e)
    (kind, lattice_is (stated r) (stated t) (all_stated more) (name_here r t more b) kind)

-- a view is that of statements
abbrev pub ViewOf : List Statement → ViewValue → Type 0
ViewOf ss v = v ≡ view_of ss

-- parts that are those of the statements are their view
pub view_is : (ss : List Statement) (name lattice : List ℕ) (vars : List Domain) (init : Test) (props : List PropValue) (commands : List CommandValue)
    → name ≡ first_of name_in [] ss → lattice ≡ first_of lattice_in [] ss → vars ≡ vars_of ss → init ≡ first_of (init_in vars) False ss → props ≡ filter_map (prop_in vars) ss → commands ≡ filter_map (command_in vars) ss
    → ViewOf ss (record { name = name; lattice = lattice; vars = vars; init = init; props = props; commands = commands })
view_is ss name lattice vars init props commands n l v i p c = rw (n, l, i, p, c, v)

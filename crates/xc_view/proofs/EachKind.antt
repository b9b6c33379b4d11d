-- What a statement is that says something of a kind.
use Rattle.std.proofs.Common.{◌≡◌, ℕ, List, Some, subst}
use Rattle.std.proofs.lemmas.Option.{same_Some}
use Rattle.xc_expr.specs.Tests.{Test}
use Rattle.xc_expr.specs.Written.{Written, Assigned}
use Rattle.xc_forms.specs.declared.domain.Domain.{Domain}
use Rattle.xc_view.specs.ViewFiles.{PropValue, CommandValue, name_in, lattice_in, var_in, init_in, prop_in, command_in, prop_name, command_name, test_in, assigns_in}
use Rattle.xc_view_lines.specs.ViewLines.{Statement, View, Lattice, Var, Init, Prop, Command}

module _ (P : Statement → List ℕ → Type 0) where
  pub name_case : ((name : List ℕ) → P (View name) name) → (s : Statement) (x : List ℕ) → name_in s ≡ Some x → P s x
  name_case h (View name) x e = subst (P (View name)) (same_Some name x e) (h name)
  name_case h (Lattice file) x e = cc
  name_case h (Var domain) x e = cc
  name_case h (Init guard) x e = cc
  name_case h (Prop name value guard) x e = cc
  name_case h (Command name value guard action) x e = cc

  pub lattice_case : ((file : List ℕ) → P (Lattice file) file) → (s : Statement) (x : List ℕ) → lattice_in s ≡ Some x → P s x
  lattice_case h (View name) x e = cc
  lattice_case h (Lattice file) x e = subst (P (Lattice file)) (same_Some file x e) (h file)
  lattice_case h (Var domain) x e = cc
  lattice_case h (Init guard) x e = cc
  lattice_case h (Prop name value guard) x e = cc
  lattice_case h (Command name value guard action) x e = cc

  pub prop_named : ((name value : List ℕ) (guard : Written) → P (Prop name value guard) name) → (s : Statement) (x : List ℕ) → prop_name s ≡ Some x → P s x
  prop_named h (View name) x e = cc
  prop_named h (Lattice file) x e = cc
  prop_named h (Var domain) x e = cc
  prop_named h (Init guard) x e = cc
  prop_named h (Prop name value guard) x e = subst (P (Prop name value guard)) (same_Some name x e) (h name value guard)
  prop_named h (Command name value guard action) x e = cc

  pub command_named : ((name value : List ℕ) (guard : Written) (action : List Assigned) → P (Command name value guard action) name) → (s : Statement) (x : List ℕ) → command_name s ≡ Some x → P s x
  command_named h (View name) x e = cc
  command_named h (Lattice file) x e = cc
  command_named h (Var domain) x e = cc
  command_named h (Init guard) x e = cc
  command_named h (Prop name value guard) x e = cc
  command_named h (Command name value guard action) x e = subst (P (Command name value guard action)) (same_Some name x e) (h name value guard action)

pub var_case : (P : Statement → Domain → Type 0) → ((domain : Domain) → P (Var domain) domain) → (s : Statement) (x : Domain) → var_in s ≡ Some x → P s x
var_case P h (View name) x e = cc
var_case P h (Lattice file) x e = cc
var_case P h (Var domain) x e = subst (P (Var domain)) (same_Some domain x e) (h domain)
var_case P h (Init guard) x e = cc
var_case P h (Prop name value guard) x e = cc
var_case P h (Command name value guard action) x e = cc

-- over variables
module _ (vars : List Domain) where
  pub init_case : (P : Statement → Test → Type 0) → ((guard : Written) → P (Init guard) (test_in vars guard)) → (s : Statement) (x : Test) → init_in vars s ≡ Some x → P s x
  init_case P h (View name) x e = cc
  init_case P h (Lattice file) x e = cc
  init_case P h (Var domain) x e = cc
  init_case P h (Init guard) x e = subst (P (Init guard)) (same_Some (test_in vars guard) x e) (h guard)
  init_case P h (Prop name value guard) x e = cc
  init_case P h (Command name value guard action) x e = cc

  abbrev pub prop_of : List ℕ → List ℕ → Written → PropValue
  prop_of name value guard = record { name = name; value = value; guard = test_in vars guard }

  pub prop_case : (P : Statement → PropValue → Type 0) → ((name value : List ℕ) (guard : Written) → P (Prop name value guard) (prop_of name value guard)) → (s : Statement) (x : PropValue) → prop_in vars s ≡ Some x → P s x
  prop_case P h (View name) x e = cc
  prop_case P h (Lattice file) x e = cc
  prop_case P h (Var domain) x e = cc
  prop_case P h (Init guard) x e = cc
  prop_case P h (Prop name value guard) x e = subst (P (Prop name value guard)) (same_Some (prop_of name value guard) x e) (h name value guard)
  prop_case P h (Command name value guard action) x e = cc

  abbrev pub command_of : List ℕ → List ℕ → Written → List Assigned → CommandValue
  command_of name value guard action = record { name = name; value = value; guard = test_in vars guard; action = assigns_in vars action }

  pub command_case : (P : Statement → CommandValue → Type 0) → ((name value : List ℕ) (guard : Written) (action : List Assigned) → P (Command name value guard action) (command_of name value guard action))
      → (s : Statement) (x : CommandValue) → command_in vars s ≡ Some x → P s x
  command_case P h (View name) x e = cc
  command_case P h (Lattice file) x e = cc
  command_case P h (Var domain) x e = cc
  command_case P h (Init guard) x e = cc
  command_case P h (Prop name value guard) x e = cc
  command_case P h (Command name value guard action) x e = subst (P (Command name value guard action)) (same_Some (command_of name value guard action) x e) (h name value guard action)

-- The parts that are gathered from a draft are those of its view.
use Rattle.std.proofs.Common.{◌≡◌, ℕ, ◌≤◌, true, List, [], ◌∷◌, length, get_or, None, sym, ◌∙◌, ap, subst, arith}
use Rattle.std.specs.List.{list_all, filter_map}
use Rattle.std.specs.Option.{is_some}
use Rattle.std.proofs.lemmas.List.{length-map}
use Rattle.xc_forms.specs.Variables.{are_fit}
use Rattle.xc_expr.specs.Tests.{Test, False}
use Rattle.xc_forms.specs.ByKind.{first_of}
use Rattle.xc_forms.proofs.Sizes.{fit_from_sized}
use Rattle.xc_forms.specs.declared.domain.Domain.{Domain}
use Rattle.xc_view.specs.ViewFiles.{PropValue, CommandValue, ViewValue, name_in, lattice_in, vars_of, init_in, prop_in, command_in, missing_part}
use Rattle.xc_view.specs.Parts.{is_sound}
use Rattle.xc_view.specs.Writable.{is_writable}
use Rattle.xc_view_lines.specs.Statements.{stated}
use Rattle.xc_view.specs.Drafts.{all_stated, begins, is_known}
use Rattle.xc_view.specs.declared.draft.Draft.{Draft}
use Rattle.xc_view_lines.specs.declared.statement.Statement as code
use Rattle.xc_view.proofs.Sound.{two_there, var_there, view_is_sound}
use Rattle.xc_view.proofs.Writing.{view_is_writable}
use Rattle.xc_view.proofs.Gathering.{ViewOf, view_is, first_is_view, second_is_lattice}

-- a draft of a whole file, and the slice of its statements
module _ (d : Draft) (slice : List code.Statement) (whole : missing_part (all_stated d.statements) ≡ None) (same : slice ≡ d.statements) where
  two : 2 ≤ length slice
  two =
      let many : 2 ≤ length (all_stated d.statements) = two_there (all_stated d.statements) whole in
      let own : length (all_stated d.statements) ≡ length d.statements = length-map d.statements stated in
      omega (arith, ap length same)

  pub vars_are_fit : are_fit d.vars ≡ true
  vars_are_fit = ap are_fit d.same ∙ fit_from_sized (vars_of (all_stated d.statements)) d.fair.sized (var_there (all_stated d.statements) whole)

  pub names_are_known : list_all (is_known d.vars) (all_stated slice) ≡ true
  names_are_known =
      ap (λ (ss : List code.Statement). list_all (is_known d.vars) (all_stated ss)) same
      ∙ ap (λ (vars : List Domain). list_all (is_known vars) (all_stated d.statements)) d.same
      ∙ d.fair.known

  starts : begins (all_stated slice) ≡ true
  starts = ap (λ (ss : List code.Statement). begins (all_stated ss)) same ∙ d.fair.starts

  pub second_is : (s : code.Statement) → s ≡ get_or slice 1 s → is_some (lattice_in (stated s)) ≡ true
  second_is s e = (second_is_lattice slice s two starts e).0

  -- the parts
  module _ (first second : code.Statement) (first_at : first ≡ get_or slice 0 first) (second_at : second ≡ get_or slice 1 second)
      (name lattice : List ℕ) (init : Test) (props : List PropValue) (commands : List CommandValue)
      (name_is : name ≡ first_of name_in [] (stated first ∷ [])) (lattice_is : lattice ≡ first_of lattice_in [] (stated second ∷ []))
      (init_is : init ≡ first_of (init_in d.vars) False (all_stated slice)) (props_are : props ≡ filter_map (prop_in d.vars) (all_stated slice)) (commands_are : commands ≡ filter_map (command_in d.vars) (all_stated slice))
    where
      pub gathered : ViewOf (all_stated d.statements) (record { name = name; lattice = lattice; vars = d.vars; init = init; props = props; commands = commands })
      gathered =
          let own = subst (λ (ss : List code.Statement). d.vars ≡ vars_of (all_stated ss)) (sym same) d.same in
          subst (λ (ss : List code.Statement). ViewOf (all_stated ss) (record { name = name; lattice = lattice; vars = d.vars; init = init; props = props; commands = commands })) same
          (view_is (all_stated slice) name lattice d.vars init props commands
          (name_is ∙ sym (first_is_view slice first two starts first_at).1)
          (lattice_is ∙ sym (second_is_lattice slice second two starts second_at).1)
          own init_is props_are commands_are)

      pub gathered_sound : is_sound (record { name = name; lattice = lattice; vars = d.vars; init = init; props = props; commands = commands }) ≡ true
      gathered_sound =
          subst (λ (v : ViewValue). is_sound v ≡ true) (sym gathered) (view_is_sound (all_stated d.statements) d.fair whole)

      pub gathered_writable : is_writable (record { name = name; lattice = lattice; vars = d.vars; init = init; props = props; commands = commands }) ≡ true
      gathered_writable = subst (λ (v : ViewValue). is_writable v ≡ true) (sym gathered) (view_is_writable (all_stated d.statements) d.fair)

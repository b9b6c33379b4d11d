use Rattle.std.proofs.Common.{ℕ, ◌<◌, ◌≤◌, List, [], ◌∷◌, length, map, ap, sym, subst, ◌∙◌, arith}
use Rattle.std.specs.List.{list_all}
use Rattle.xc_theory.specs.Lattices.{LatticeData, size, bottom}
use Rattle.xc_theory.proofs.Bounds.{join_of_lt}
use Rattle.xc_alg.specs.Bounds.{joined}
use Rattle.xc_alg.specs.Products.{product}
use Rattle.xc_alg.proofs.Tables.{product_size, product_bottom}
use Rattle.xc_base.specs.Names.{is_among, place_of}
use Rattle.xc_forms.specs.Variables.{values_at}
use Rattle.xc_forms.specs.declared.domain.Domain.{Domain}
use Rattle.xc_lattice.specs.Values.{value_of as lattice_of}
use Rattle.xc_sigmap.specs.Maps.{value_of as map_of}
use Rattle.xc_view.specs.Parts.{prop_value, command_value}
use Rattle.xc_view.specs.ViewFiles.{PropValue, CommandValue}
use Rattle.xc_view.specs.Views.{value_of as view_of}
use Rattle.xc_merge.specs.Faults.{is_fed}
use Rattle.xc_merge.specs.MergedFrames.{stutter_words}
use Rattle.xc_merged.specs.Elements.{stutters_from}
use Rattle.xc_merged.specs.Tabled.{AreFed}
use Rattle.xc_merged.proofs.Faultless.{faultless, fixed_within}
use Rattle.xc_merged.proofs.Joining.{passes}
use Rattle.xc_merged.proofs.Seeing.{values_few}
use Rattle.xc_merged.proofs.Sound.{sound_parts}
use Rattle.xc_merged.proofs.Stepping.{stutter_is_joined}
use Rattle.xc_merged.proofs.Tabling.{weights_are, marks_are, codes_of_words, all_left, all_right, stutters_all}
use Rattle.xc_merged.proofs.tabulate.tabulate.Goals as goal

pub feeds_of-requires-clause-fed : goal.feeds_of-requires-clause-fed
feeds_of-requires-clause-fed c =
    subst (λ (vars : List Domain). AreFed (map_of c.args.sigmap.now) c.args.number vars) (sym c.vars-vars.ensures)
    (record { fed = λ x d low is. passes (is_fed (map_of c.args.sigmap.now) c.args.number) (view_of c.args.view.now).vars x d (faultless (map_of c.args.sigmap.now) c.args.number (record { view = view_of c.args.view.now; lattice = lattice_of c.args.lattice.now }) c.requires).vars low is })

pub feeds_of-requires-clause-few : goal.feeds_of-requires-clause-few
feeds_of-requires-clause-few c =
    subst (λ (vars : List Domain). (x : ℕ) → x < length vars → length (values_at vars x) ≤ 16) (sym c.vars-vars.ensures)
    (λ x low. values_few (view_of c.args.view.now).vars x (sound_parts (view_of c.args.view.now) c.is_sound.ensures).fit low)

pub tellings_of-requires : goal.tellings_of-requires
tellings_of-requires c = (faultless (map_of c.args.sigmap.now) c.args.number (record { view = view_of c.args.view.now; lattice = lattice_of c.args.lattice.now }) c.requires).props

pub stutter_of-stutter-requires-clause-size : goal.stutter_of-stutter-requires-clause-size
stutter_of-stutter-requires-clause-size c = (ap (λ (l : LatticeData). (product (l ∷ [])).size) c.in_ok-operations.ensures.same ∙ product_size (lattice_of c.args.lattice.now).algebra ∙ sym c.is_good.ensures.named)

pub stutter_of-stutter-requires-clause-small : goal.stutter_of-stutter-requires-clause-small
stutter_of-stutter-requires-clause-small c = omega (arith, (ap (λ (l : LatticeData). (product (l ∷ [])).size) c.in_ok-operations.ensures.same ∙ product_size (lattice_of c.args.lattice.now).algebra ∙ sym c.is_good.ensures.named), c.is_good.ensures.named, c.is_good.ensures.few)

pub stutter_of-stutter-requires-clause-known : goal.stutter_of-stutter-requires-clause-known
stutter_of-stutter-requires-clause-known c =
    ap (list_all (is_among (lattice_of c.args.lattice.now).names)) (stutters_all (map_of c.args.sigmap.now) c.args.number c.as_slice-stutters.result.now (c.as_slice-stutters.ensures ∙ c.stutters.ensures)) ∙ (faultless (map_of c.args.sigmap.now) c.args.number (record { view = view_of c.args.view.now; lattice = lattice_of c.args.lattice.now }) c.requires).stutters

pub stutter_of-stutter-requires-clause-bottom : goal.stutter_of-stutter-requires-clause-bottom
stutter_of-stutter-requires-clause-bottom c =
    c.bottom-bottom.ensures.bottom ∙ sym (product_bottom (lattice_of c.args.lattice.now).algebra) ∙ ap (λ (l : LatticeData). (product (l ∷ [])).bottom) (sym c.in_ok-operations.ensures.same)

pub stutter_of-stutter-requires-clause-below : goal.stutter_of-stutter-requires-clause-below
stutter_of-stutter-requires-clause-below c =
    let low : bottom (lattice_of c.args.lattice.now).algebra < size (lattice_of c.args.lattice.now).algebra = join_of_lt (lattice_of c.args.lattice.now).algebra.order [] (omega (arith, c.is_good.ensures.some)) in
    omega (arith, (ap (λ (l : LatticeData). (product (l ∷ [])).size) c.in_ok-operations.ensures.same ∙ product_size (lattice_of c.args.lattice.now).algebra ∙ sym c.is_good.ensures.named), c.is_good.ensures.named, c.bottom-bottom.ensures.bottom)

pub returns : goal.returns
returns c =
    let h = (faultless (map_of c.args.sigmap.now) c.args.number (record { view = view_of c.args.view.now; lattice = lattice_of c.args.lattice.now }) c.requires) in
    let n = size (lattice_of c.args.lattice.now).algebra in
    record {
      operations = c.in_ok-operations.ensures.same;
      bottom_is = c.bottom-bottom.ensures.bottom;
      feeds = rw (sym c.vars-vars.ensures) c.in_ok-feeds.ensures;
      weights = weights_are (record { view = view_of c.args.view.now; lattice = lattice_of c.args.lattice.now }) c.as_slice-commands.result.now c.in_ok-weights.weights (ap (map command_value) c.as_slice-commands.ensures ∙ c.commands.ensures) c.in_ok-weights.ensures;
      weights_in =
          codes_of_words n (lattice_of c.args.lattice.now).names (λ (x : CommandValue). x.value) (view_of c.args.view.now).commands c.in_ok-weights.weights c.is_good.ensures.named
          (all_right (is_among (lattice_of c.args.lattice.now).names) (map (λ (x : PropValue). x.value) (view_of c.args.view.now).props) (map (λ (x : CommandValue). x.value) (view_of c.args.view.now).commands) h.values)
          (weights_are (record { view = view_of c.args.view.now; lattice = lattice_of c.args.lattice.now }) c.as_slice-commands.result.now c.in_ok-weights.weights (ap (map command_value) c.as_slice-commands.ensures ∙ c.commands.ensures) c.in_ok-weights.ensures);
      marks = marks_are (record { view = view_of c.args.view.now; lattice = lattice_of c.args.lattice.now }) c.as_slice-lines.result.now c.in_ok-marks.marks (ap (map prop_value) c.as_slice-lines.ensures ∙ c.props.ensures) c.in_ok-marks.ensures;
      marks_in =
          codes_of_words n (lattice_of c.args.lattice.now).names (λ (x : PropValue). x.value) (view_of c.args.view.now).props c.in_ok-marks.marks c.is_good.ensures.named
          (all_left (is_among (lattice_of c.args.lattice.now).names) (map (λ (x : PropValue). x.value) (view_of c.args.view.now).props) (map (λ (x : CommandValue). x.value) (view_of c.args.view.now).commands) h.values)
          (marks_are (record { view = view_of c.args.view.now; lattice = lattice_of c.args.lattice.now }) c.as_slice-lines.result.now c.in_ok-marks.marks (ap (map prop_value) c.as_slice-lines.ensures ∙ c.props.ensures) c.in_ok-marks.ensures);
      tellings = c.in_ok-tellings.ensures;
      fixed_in = λ k e told. omega (arith, c.is_good.ensures.named, fixed_within (map_of c.args.sigmap.now) c.args.number k (record { view = view_of c.args.view.now; lattice = lattice_of c.args.lattice.now }) e h told);
      stutter_is =
          c.stutter_of-stutter.ensures
          ∙ ap (λ (l : LatticeData). joined (product (l ∷ [])) (map (place_of (lattice_of c.args.lattice.now).names) (stutters_from c.args.number c.as_slice-stutters.result.now 0))) c.in_ok-operations.ensures.same
          ∙ ap (λ (words : List (List ℕ)). joined (product ((lattice_of c.args.lattice.now).algebra ∷ [])) (map (place_of (lattice_of c.args.lattice.now).names) words)) (stutters_all (map_of c.args.sigmap.now) c.args.number c.as_slice-stutters.result.now (c.as_slice-stutters.ensures ∙ c.stutters.ensures))
          ∙ stutter_is_joined (lattice_of c.args.lattice.now) (stutter_words (map_of c.args.sigmap.now) c.args.number) c.is_good.ensures h.stutters;
      stutter_known = h.stutters;
    }

-- What the files of a size are read as.
use Rattle.std.proofs.Common.{◌≡◌, ℕ, ◌+◌, ◌%◌, ◌<◌, ◌≤◌, Bool, true, false, ◌&&◌, eqb, List, [], ◌∷◌, codes, Option, Some, None, Result, Ok, Err, refl, sym, ◌∙◌, ap, subst, arith}
use Rattle.std.specs.List.{list_all, range_with_len}
use Rattle.std.specs.Option.{is_none}
use Rattle.std.proofs.lemmas.Bool.{and_parts, false≢true, leb-true}
use Rattle.xc_theory.proofs.Ranges.{all_range_at}
use Rattle.xc_base.specs.Formats.{IsAccepted}
use Rattle.xc_base.specs.Lines.{text_rows}
use Rattle.xc_base.specs.Names.{are_same}
use Rattle.xc_base.specs.Text.{text_fault}
use Rattle.xc_base.specs.declared.fault.TextFault.{TextFault}
use Rattle.xc_base.specs.declared.fault.FileFault.{FileFault}
use Rattle.xc_forms.specs.Variables.{sizes_of}
use Rattle.xc_view_lines.specs.ViewLines as statements
use Rattle.xc_view.specs.ViewFiles as views
use Rattle.xc_view.proofs.Verdicts.{view_accepted}
use Rattle.xc_sigmap_lines.specs.MapFiles as maps
use Rattle.xc_sigmap_lines.specs.declared.statement.Statement as stated
use Rattle.xc_sigmap.proofs.Verdicts.{map_accepted}
use Rattle.xc_merge.specs.Merges.{Viewpoint}
use Rattle.xc_gen.specs.declared.side.Side.{Side}
use Rattle.xc_gen.specs.declared.side.Side.TheVariants.{Left, Right}
use Rattle.xc_gen.specs.Generated.{view_text, map_text, is_size}
use Rattle.xc_gen_laws.specs.Readings.{file_limit}
use Rattle.xc_gen_laws.proofs.Checks.{place, lattice_on, view_read, map_read, point, fits, view_fits, views_fit, map_fits, all_fit}
use Rattle.xc_gen_laws.proofs.Periods.{period, view_same}
use Rattle.xc_gen_laws.proofs.Initials.{Fits, fits_so}

-- a view that is read, and fits the map
pub record ViewRead (plan : maps.MapValue) (side : Side) (text : List ℕ) : Type 0 where
  pub viewpoint : Viewpoint
  pub lattice : viewpoint.lattice ≡ lattice_on side
  pub clean : text_fault file_limit text ≡ None
  pub accepted : IsAccepted views.view_format (text_rows text) viewpoint.view
  pub fit : Fits plan (place side) viewpoint

no_fault : (o : Option TextFault) → is_none o ≡ true → o ≡ None
no_fault None h = refl
no_fault (Some x) h = absurd (false≢true h)

view_of : (plan : maps.MapValue) (side : Side) (number size : ℕ) (o : Result (List statements.Statement) FileFault) → view_read side number size ≡ o → view_fits plan side (view_text side number size) o ≡ true → ViewRead plan side (view_text side number size)
view_of plan side number size (Ok ss) e h =
    let parts = and_parts (is_none (text_fault file_limit (view_text side number size))) (fits plan (place side) (point side ss)) h in
    record {
      viewpoint = point side ss;
      lattice = refl;
      clean = no_fault (text_fault file_limit (view_text side number size)) parts.0;
      accepted = view_accepted (text_rows (view_text side number size)) ss (views.view_of ss) e refl;
      fit = fits_so plan (place side) (point side ss) parts.1;
    }
view_of plan side number size (Err fault) e h = absurd (false≢true h)

remainder_below : (side : Side) (number : ℕ) → number % period side < 0 + period side
remainder_below Left number = omega arith
remainder_below Right number = omega arith

-- for any number
pub view_is_read : (plan : maps.MapValue) (side : Side) (number size : ℕ) → views_fit plan side size ≡ true → ViewRead plan side (view_text side number size)
view_is_read plan side number size h =
    let rest : ℕ = number % period side in
    subst (ViewRead plan side) (sym (view_same side number size))
    (view_of plan side rest size (view_read side rest size) refl
    (all_range_at (λ n. view_fits plan side (view_text side n size) (view_read side n size)) 0 (period side) rest h (omega arith) (remainder_below side number)))

-- the map that is read, and both views fit it
pub record MapRead (size : ℕ) : Type 0 where
  pub plan : maps.MapValue
  pub clean : text_fault file_limit (map_text size) ≡ None
  pub accepted : IsAccepted maps.map_format (text_rows (map_text size)) plan
  pub props : are_same plan.props (codes "last" ∷ []) ≡ true
  pub twos : list_all (λ z. eqb z 2) (sizes_of plan.vars) ≡ true
  pub left : views_fit plan Left size ≡ true
  pub right : views_fit plan Right size ≡ true

map_of : (size : ℕ) (o : Result (List stated.Statement) FileFault) → map_read size ≡ o → map_fits size o ≡ true → MapRead size
map_of size (Ok ss) e h =
    let plan : maps.MapValue = maps.map_of ss in
    let first = and_parts (is_none (text_fault file_limit (map_text size))) _ h in
    let second = and_parts (are_same plan.props (codes "last" ∷ [])) _ first.1 in
    let third = and_parts (list_all (λ z. eqb z 2) (sizes_of plan.vars)) _ second.1 in
    let fourth = and_parts (views_fit plan Left size) (views_fit plan Right size) third.1 in
    record {
      plan = maps.map_of ss;
      clean = no_fault (text_fault file_limit (map_text size)) first.0;
      accepted = map_accepted (text_rows (map_text size)) ss (maps.map_of ss) e refl;
      props = second.0;
      twos = third.0;
      left = fourth.0;
      right = fourth.1;
    }
map_of size (Err fault) e h = absurd (false≢true h)

pub map_is_read : (size : ℕ) → all_fit size ≡ true → MapRead size
map_is_read size h = map_of size (map_read size) refl h

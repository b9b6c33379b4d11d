-- The parts that are gathered from a draft are those of its map.
use Rattle.std.proofs.Common.{◌≡◌, ℕ, ◌≤◌, true, List, [], ◌∷◌, length, get_or, None, sym, ◌∙◌, ap, subst, arith}
use Rattle.xc_sigmap.specs.declared.draft.Draft.{Draft}
use Rattle.xc_sigmap.specs.declared.names.Names.{Names}
use Rattle.xc_sigmap_lines.specs.declared.parts.SendLine.{SendLine}
use Rattle.xc_sigmap_lines.specs.declared.parts.Tell.{Tell}
use Rattle.xc_sigmap_lines.specs.declared.parts.Stutter.{Stutter}
use Rattle.xc_sigmap_lines.specs.declared.statement.Statement.{Statement}
use Rattle.xc_sigmap_lines.specs.MapFiles.{MapValue, vars_of, first_name, sends_of, tells_of, stutters_of, missing_part, map_of}
use Rattle.xc_sigmap.specs.Sound.{is_sound}
use Rattle.xc_sigmap.specs.Drafts.{begins}
use Rattle.xc_sigmap.specs.Drafted.{named_in, AreFew}
use Rattle.xc_forms.proofs.Sizes.{fit_from_sized}
use Rattle.xc_sigmap.proofs.Sound.{one_there, var_there, map_is_sound}
use Rattle.xc_sigmap.proofs.Gathering.{first_says}

abbrev pub map_parts : Names → List ℕ → List SendLine → List Tell → List Stutter → MapValue
map_parts names name sends tells stutters = record { name = name; uses = names.uses; vars = names.vars; props = names.props; sends = sends; tells = tells; stutters = stutters }

-- parts that are those of the statements are their map
map_is : (ss : List Statement) (names : Names) (name : List ℕ) (sends : List SendLine) (tells : List Tell) (stutters : List Stutter)
    → names ≡ named_in ss → name ≡ first_name ss → sends ≡ sends_of names.uses names.vars ss → tells ≡ tells_of names.uses names.props ss → stutters ≡ stutters_of names.uses ss
    → map_parts names name sends tells stutters ≡ map_of ss
map_is ss names name sends tells stutters e n s t u = rw (n, s, t, u, e)

-- a draft of a whole file, and the slice of its statements
module _ (d : Draft) (slice : List Statement) (whole : missing_part d.statements ≡ None) (same : slice ≡ d.statements) where
  some : 1 ≤ length slice
  some = let many : 1 ≤ length d.statements = one_there d.statements whole in omega (arith, ap length same)

  few_of : (names : Names) → names ≡ named_in d.statements → AreFew names
  few_of names e =
      subst AreFew (sym e)
      (record { uses = d.fair.few_uses; fit = fit_from_sized (vars_of d.statements) d.fair.sized (var_there d.statements whole); props = d.fair.few_props })

  pub names_are_few : AreFew d.names
  names_are_few = few_of d.names d.same

  starts : begins slice ≡ true
  starts = ap begins same ∙ d.fair.starts

  -- the parts
  module _ (first : Statement) (first_at : first ≡ get_or slice 0 first)
      (name : List ℕ) (sends : List SendLine) (tells : List Tell) (stutters : List Stutter)
      (name_is : name ≡ first_name (first ∷ []))
      (sends_are : sends ≡ sends_of d.names.uses d.names.vars slice) (tells_are : tells ≡ tells_of d.names.uses d.names.props slice) (stutters_are : stutters ≡ stutters_of d.names.uses slice)
    where
      pub gathered : map_parts d.names name sends tells stutters ≡ map_of d.statements
      gathered =
          subst (λ (ss : List Statement). map_parts d.names name sends tells stutters ≡ map_of ss) same
          (map_is slice d.names name sends tells stutters (d.same ∙ ap named_in (sym same))
          (name_is ∙ sym (first_says slice first some starts first_at)) sends_are tells_are stutters_are)

      pub gathered_sound : is_sound (map_parts d.names name sends tells stutters) ≡ true
      gathered_sound = subst (λ (v : MapValue). is_sound v ≡ true) (sym gathered) (map_is_sound d.statements d.fair whole)

-- Statements of the code, and what is asked of the statements that they are.
use Rattle.std.proofs.Common.{◌≡◌, ℕ, ◌<◌, ◌≤◌, Bool, true, false, ◌||◌, not, Some, None, if◌then◌else◌, List, [], ◌∷◌, ◌++◌, length, refl, ap, subst, sym, ◌∙◌, arith}
use Rattle.std.specs.List.{list_any, filter}
use Rattle.std.specs.Option.{is_some}
use Rattle.std.proofs.lemmas.List.{map-append}
use Rattle.std.proofs.lemmas.Bool.{lt-ltb}
use Rattle.std.specs.Str.{bytes_eq}
use Rattle.xc_base.specs.Names.{is_among}
use Rattle.xc_forms.proofs.ByKind.{counted}
use Rattle.xc_forms.specs.declared.domain.Domain.{Domain}
use Rattle.xc_view.specs.ViewFiles.{vars_of, is_init, prop_name, prop_names, command_name, command_names, missing_part}
use Rattle.xc_view_lines.specs.ViewLines.{Statement}
use Rattle.xc_base.specs.declared.fault.Part.TheVariants as parts
use Rattle.xc_view_lines.specs.Statements.{stated}
use Rattle.xc_view.specs.Drafts.{all_stated, is_command_of, IsFair}
use Rattle.xc_view.proofs.Fair.{vars_append}
use Rattle.xc_view_lines.specs.declared.statement.Statement as code
use Rattle.xc_view_lines.specs.declared.statement.Statement.TheVariants as variants

-- whether one of them passes a test
pub any_stated : (p : Statement → Bool) (ss : List code.Statement) → list_any p (all_stated ss) ≡ list_any (λ (s : code.Statement). p (stated s)) ss
any_stated p [] = refl
any_stated p (s ∷ ss) = ap (λ b. p (stated s) || b) (any_stated p ss)

-- one statement more
pub stated_with : (ss all : List code.Statement) (s : code.Statement) → all ≡ ss ++ s ∷ [] → all_stated all ≡ all_stated ss ++ stated s ∷ []
stated_with ss all s together = ap all_stated together ∙ map-append stated ss (s ∷ [])

-- behind the first two statements
pub var_lacks : (ss : List code.Statement) → 2 ≤ length ss → length (vars_of (all_stated ss)) ≡ 0 → missing_part (all_stated ss) ≡ Some parts.Var
var_lacks [] h e = absurd (omega arith)
var_lacks (r ∷ []) h e = absurd (omega arith)
var_lacks (r ∷ t ∷ more) h e = rw e

module _ (ss : List code.Statement) (two : 2 ≤ length ss) (some : 0 < length (vars_of (all_stated ss))) where
  late : missing_part (all_stated ss) ≡ (if not (list_any (λ (s : code.Statement). is_init (stated s)) ss) then Some parts.Init else None)
  late = late_of ss two some
    where
      late_of : (ts : List code.Statement) → 2 ≤ length ts → 0 < length (vars_of (all_stated ts)) → missing_part (all_stated ts) ≡ (if not (list_any (λ (s : code.Statement). is_init (stated s)) ts) then Some parts.Init else None)
      late_of [] h k = absurd (omega arith)
      late_of (r ∷ []) h k = absurd (omega arith)
      late_of (r ∷ t ∷ more) h k = rw (lt-ltb 0 (length (vars_of (all_stated (r ∷ t ∷ more)))) k, any_stated is_init (r ∷ t ∷ more))

  pub init_lacks : list_any (λ (s : code.Statement). is_init (stated s)) ss ≡ false → missing_part (all_stated ss) ≡ Some parts.Init
  init_lacks h = rw (late, h)

  pub none_lacks : list_any (λ (s : code.Statement). is_init (stated s)) ss ≡ true → missing_part (all_stated ss) ≡ None
  none_lacks h = rw (late, h)

-- whether a command has a name
pub command_named : (name : List ℕ) (ss : List code.Statement) → is_among (command_names (all_stated ss)) name ≡ list_any (λ (s : code.Statement). is_command_of name (stated s)) ss
command_named name [] = refl
command_named name (variants.View other ∷ ss) = command_named name ss
command_named name (variants.Lattice file ∷ ss) = command_named name ss
command_named name (variants.Var domain ∷ ss) = command_named name ss
command_named name (variants.Init guard ∷ ss) = command_named name ss
command_named name (variants.Prop other value guard ∷ ss) = command_named name ss
command_named name (variants.Command other value guard action ∷ ss) = ap (λ b. bytes_eq name other || b) (command_named name ss)

-- how many lines of propositions there are, and how many commands
pub props_counted : (ss : List code.Statement) → length (prop_names (all_stated ss)) ≡ length (filter (λ (s : code.Statement). is_some (prop_name (stated s))) ss)
props_counted ss = counted prop_name stated ss

pub commands_counted : (ss : List code.Statement) → length (command_names (all_stated ss)) ≡ length (filter (λ (s : code.Statement). is_some (command_name (stated s))) ss)
commands_counted ss = counted command_name stated ss

-- one statement more, and what it has of variables
pub vars_with : (ss all : List code.Statement) (s : code.Statement) (vars more : List Domain) → all ≡ ss ++ s ∷ [] → vars ≡ vars_of (all_stated ss) → more ≡ vars ++ vars_of (stated s ∷ []) → more ≡ vars_of (all_stated all)
vars_with ss all s vars more together same new =
    new ∙ ap (λ (v : List Domain). v ++ vars_of (stated s ∷ [])) same ∙ sym (vars_append (all_stated ss) (stated s ∷ []))
    ∙ sym (ap vars_of (stated_with ss all s together))

-- fair statements, and one more
pub fair_with : (ss all : List code.Statement) (s : code.Statement) → all ≡ ss ++ s ∷ [] → IsFair (all_stated ss ++ stated s ∷ []) → IsFair (all_stated all)
fair_with ss all s together h = subst IsFair (sym (stated_with ss all s together)) h

-- The statements of a map, kind by kind.
use Rattle.std.proofs.Common.{◌≡◌, ℕ, ◌<◌, Bool, true, false, List, [], ◌∷◌, ◌++◌, map, length, refl, sym, ◌∙◌, ap, append_assoc, arith}
use Rattle.std.specs.List.{list_any}
use Rattle.std.proofs.lemmas.List.{append-nil}
use Rattle.xc_forms.specs.declared.domain.Domain.{Domain}
use Rattle.xc_sigmap_lines.specs.declared.parts.Use as viewpoints
use Rattle.xc_sigmap_lines.specs.declared.parts.SendLine.{SendLine}
use Rattle.xc_sigmap_lines.specs.declared.parts.Tell as tellings
use Rattle.xc_sigmap_lines.specs.declared.parts.Stutter as gaps
use Rattle.xc_sigmap_lines.specs.declared.statement.Statement.{Statement}
use Rattle.xc_sigmap_lines.specs.declared.statement.Statement.TheVariants.{Map, Use, Var, Prop}
use Rattle.xc_sigmap_lines.specs.MapFiles.{MapValue, may_follow, is_due, uses_of, vars_of, props_of, sends_of, tells_of, stutters_of}
use Rattle.xc_sigmap_text.specs.Printing.{sending, telling, stuttering, statements_in}
use Rattle.xc_sigmap.proofs.Gathering.{sends_cons, tells_cons, stutters_cons}
use Rattle.xc_sigmap.proofs.Fair.{uses_append, vars_append, props_append}
use Rattle.xc_sigmap_text.proofs.Restating.{due_after}

-- what is due behind the statements of one kind
pub due_kind : {X : Type 0} (before : List Statement) (say : X → Statement) (xs : List X) (t : Statement) → ((x : X) → may_follow (say x) t ≡ true) → 0 < length xs → is_due (before ++ map say xs) t ≡ true
due_kind before say [] t f some = absurd (omega arith)
due_kind before say (x ∷ []) t f some = due_after before (say x) t ∙ f x
due_kind before say (x ∷ y ∷ more) t f some =
    ap (λ (ss : List Statement). is_due ss t) (sym (append_assoc before (say x ∷ []) (map say (y ∷ more)))) ∙ due_kind (before ++ say x ∷ []) say (y ∷ more) t f (omega arith)

pub due_maybe : {X : Type 0} (before : List Statement) (say : X → Statement) (xs : List X) (t : Statement) → ((x : X) → may_follow (say x) t ≡ true) → is_due before t ≡ true → is_due (before ++ map say xs) t ≡ true
due_maybe before say [] t f h = ap (λ (ss : List Statement). is_due ss t) (append-nil before) ∙ h
due_maybe before say (x ∷ more) t f h = due_kind before say (x ∷ more) t f (omega arith)

-- none of one kind passes a test
pub none_passes : {X : Type 0} (p : Statement → Bool) (say : X → Statement) (xs : List X) → ((x : X) → p (say x) ≡ false) → list_any p (map say xs) ≡ false
none_passes p say [] f = refl
none_passes p say (x ∷ xs) f = rw (f x, none_passes p say xs f)

sends_append : (uses : List viewpoints.Use) (vars : List Domain) (xs ys : List Statement) → sends_of uses vars (xs ++ ys) ≡ sends_of uses vars xs ++ sends_of uses vars ys
sends_append uses vars [] ys = refl
sends_append uses vars (x ∷ xs) ys =
    sends_cons uses vars x (xs ++ ys) ∙ ap (λ (ls : List SendLine). sends_of uses vars (x ∷ []) ++ ls) (sends_append uses vars xs ys)
    ∙ sym (append_assoc (sends_of uses vars (x ∷ [])) (sends_of uses vars xs) (sends_of uses vars ys)) ∙ ap (λ (ls : List SendLine). ls ++ sends_of uses vars ys) (sym (sends_cons uses vars x xs))

tells_append : (uses : List viewpoints.Use) (props : List (List ℕ)) (xs ys : List Statement) → tells_of uses props (xs ++ ys) ≡ tells_of uses props xs ++ tells_of uses props ys
tells_append uses props [] ys = refl
tells_append uses props (x ∷ xs) ys =
    tells_cons uses props x (xs ++ ys) ∙ ap (λ (ls : List tellings.Tell). tells_of uses props (x ∷ []) ++ ls) (tells_append uses props xs ys)
    ∙ sym (append_assoc (tells_of uses props (x ∷ [])) (tells_of uses props xs) (tells_of uses props ys)) ∙ ap (λ (ls : List tellings.Tell). ls ++ tells_of uses props ys) (sym (tells_cons uses props x xs))

stutters_append : (uses : List viewpoints.Use) (xs ys : List Statement) → stutters_of uses (xs ++ ys) ≡ stutters_of uses xs ++ stutters_of uses ys
stutters_append uses [] ys = refl
stutters_append uses (x ∷ xs) ys =
    stutters_cons uses x (xs ++ ys) ∙ ap (λ (ls : List gaps.Stutter). stutters_of uses (x ∷ []) ++ ls) (stutters_append uses xs ys)
    ∙ sym (append_assoc (stutters_of uses (x ∷ [])) (stutters_of uses xs) (stutters_of uses ys)) ∙ ap (λ (ls : List gaps.Stutter). ls ++ stutters_of uses ys) (sym (stutters_cons uses x xs))

-- what the statements of one kind declare
pub uses_use : (xs : List (viewpoints.Use)) → uses_of (map Use xs) ≡ xs
uses_use [] = refl
uses_use (x ∷ xs) = ap (λ (ys : List (viewpoints.Use)). x ∷ ys) (uses_use xs)

pub uses_var : (xs : List (Domain)) → uses_of (map Var xs) ≡ []
uses_var [] = refl
uses_var (x ∷ xs) = uses_var xs

pub uses_prop : (xs : List (List ℕ)) → uses_of (map Prop xs) ≡ []
uses_prop [] = refl
uses_prop (x ∷ xs) = uses_prop xs

pub uses_sending : (v : MapValue) (xs : List SendLine) → uses_of (map (sending v) xs) ≡ []
uses_sending v [] = refl
uses_sending v (x ∷ xs) = uses_sending v xs

pub uses_telling : (v : MapValue) (xs : List tellings.Tell) → uses_of (map (telling v) xs) ≡ []
uses_telling v [] = refl
uses_telling v (x ∷ xs) = uses_telling v xs

pub uses_stuttering : (v : MapValue) (xs : List gaps.Stutter) → uses_of (map (stuttering v) xs) ≡ []
uses_stuttering v [] = refl
uses_stuttering v (x ∷ xs) = uses_stuttering v xs

pub vars_use : (xs : List (viewpoints.Use)) → vars_of (map Use xs) ≡ []
vars_use [] = refl
vars_use (x ∷ xs) = vars_use xs

pub vars_var : (xs : List (Domain)) → vars_of (map Var xs) ≡ xs
vars_var [] = refl
vars_var (x ∷ xs) = ap (λ (ys : List (Domain)). x ∷ ys) (vars_var xs)

pub vars_prop : (xs : List (List ℕ)) → vars_of (map Prop xs) ≡ []
vars_prop [] = refl
vars_prop (x ∷ xs) = vars_prop xs

pub vars_sending : (v : MapValue) (xs : List SendLine) → vars_of (map (sending v) xs) ≡ []
vars_sending v [] = refl
vars_sending v (x ∷ xs) = vars_sending v xs

pub vars_telling : (v : MapValue) (xs : List tellings.Tell) → vars_of (map (telling v) xs) ≡ []
vars_telling v [] = refl
vars_telling v (x ∷ xs) = vars_telling v xs

pub vars_stuttering : (v : MapValue) (xs : List gaps.Stutter) → vars_of (map (stuttering v) xs) ≡ []
vars_stuttering v [] = refl
vars_stuttering v (x ∷ xs) = vars_stuttering v xs

pub props_use : (xs : List (viewpoints.Use)) → props_of (map Use xs) ≡ []
props_use [] = refl
props_use (x ∷ xs) = props_use xs

pub props_var : (xs : List (Domain)) → props_of (map Var xs) ≡ []
props_var [] = refl
props_var (x ∷ xs) = props_var xs

pub props_prop : (xs : List (List ℕ)) → props_of (map Prop xs) ≡ xs
props_prop [] = refl
props_prop (x ∷ xs) = ap (λ (ys : List (List ℕ)). x ∷ ys) (props_prop xs)

pub props_sending : (v : MapValue) (xs : List SendLine) → props_of (map (sending v) xs) ≡ []
props_sending v [] = refl
props_sending v (x ∷ xs) = props_sending v xs

pub props_telling : (v : MapValue) (xs : List tellings.Tell) → props_of (map (telling v) xs) ≡ []
props_telling v [] = refl
props_telling v (x ∷ xs) = props_telling v xs

pub props_stuttering : (v : MapValue) (xs : List gaps.Stutter) → props_of (map (stuttering v) xs) ≡ []
props_stuttering v [] = refl
props_stuttering v (x ∷ xs) = props_stuttering v xs

-- and what they send and tell
sends_use : (uses : List viewpoints.Use) (vars : List Domain) (xs : List (viewpoints.Use)) → sends_of uses vars (map Use xs) ≡ []
sends_use uses vars [] = refl
sends_use uses vars (x ∷ xs) = sends_use uses vars xs

sends_var : (uses : List viewpoints.Use) (vars : List Domain) (xs : List (Domain)) → sends_of uses vars (map Var xs) ≡ []
sends_var uses vars [] = refl
sends_var uses vars (x ∷ xs) = sends_var uses vars xs

sends_prop : (uses : List viewpoints.Use) (vars : List Domain) (xs : List (List ℕ)) → sends_of uses vars (map Prop xs) ≡ []
sends_prop uses vars [] = refl
sends_prop uses vars (x ∷ xs) = sends_prop uses vars xs

sends_telling : (uses : List viewpoints.Use) (vars : List Domain) (v : MapValue) (xs : List tellings.Tell) → sends_of uses vars (map (telling v) xs) ≡ []
sends_telling uses vars v [] = refl
sends_telling uses vars v (x ∷ xs) = sends_telling uses vars v xs

sends_stuttering : (uses : List viewpoints.Use) (vars : List Domain) (v : MapValue) (xs : List gaps.Stutter) → sends_of uses vars (map (stuttering v) xs) ≡ []
sends_stuttering uses vars v [] = refl
sends_stuttering uses vars v (x ∷ xs) = sends_stuttering uses vars v xs

tells_use : (uses : List viewpoints.Use) (props : List (List ℕ)) (xs : List (viewpoints.Use)) → tells_of uses props (map Use xs) ≡ []
tells_use uses props [] = refl
tells_use uses props (x ∷ xs) = tells_use uses props xs

tells_var : (uses : List viewpoints.Use) (props : List (List ℕ)) (xs : List (Domain)) → tells_of uses props (map Var xs) ≡ []
tells_var uses props [] = refl
tells_var uses props (x ∷ xs) = tells_var uses props xs

tells_prop : (uses : List viewpoints.Use) (props : List (List ℕ)) (xs : List (List ℕ)) → tells_of uses props (map Prop xs) ≡ []
tells_prop uses props [] = refl
tells_prop uses props (x ∷ xs) = tells_prop uses props xs

tells_sending : (uses : List viewpoints.Use) (props : List (List ℕ)) (v : MapValue) (xs : List SendLine) → tells_of uses props (map (sending v) xs) ≡ []
tells_sending uses props v [] = refl
tells_sending uses props v (x ∷ xs) = tells_sending uses props v xs

tells_stuttering : (uses : List viewpoints.Use) (props : List (List ℕ)) (v : MapValue) (xs : List gaps.Stutter) → tells_of uses props (map (stuttering v) xs) ≡ []
tells_stuttering uses props v [] = refl
tells_stuttering uses props v (x ∷ xs) = tells_stuttering uses props v xs

stutters_use : (uses : List viewpoints.Use) (xs : List (viewpoints.Use)) → stutters_of uses (map Use xs) ≡ []
stutters_use uses [] = refl
stutters_use uses (x ∷ xs) = stutters_use uses xs

stutters_var : (uses : List viewpoints.Use) (xs : List (Domain)) → stutters_of uses (map Var xs) ≡ []
stutters_var uses [] = refl
stutters_var uses (x ∷ xs) = stutters_var uses xs

stutters_prop : (uses : List viewpoints.Use) (xs : List (List ℕ)) → stutters_of uses (map Prop xs) ≡ []
stutters_prop uses [] = refl
stutters_prop uses (x ∷ xs) = stutters_prop uses xs

stutters_sending : (uses : List viewpoints.Use) (v : MapValue) (xs : List SendLine) → stutters_of uses (map (sending v) xs) ≡ []
stutters_sending uses v [] = refl
stutters_sending uses v (x ∷ xs) = stutters_sending uses v xs

stutters_telling : (uses : List viewpoints.Use) (v : MapValue) (xs : List tellings.Tell) → stutters_of uses (map (telling v) xs) ≡ []
stutters_telling uses v [] = refl
stutters_telling uses v (x ∷ xs) = stutters_telling uses v xs

-- what comes of all kinds
module _ {X : Type 0} (of : List Statement → List X) (joins : (xs ys : List Statement) → of (xs ++ ys) ≡ of xs ++ of ys) where
  by_kinds : (s : Statement) (a b c d e g : List Statement) → of (s ∷ (a ++ (b ++ (c ++ (d ++ (e ++ g)))))) ≡ of (s ∷ []) ++ (of a ++ (of b ++ (of c ++ (of d ++ (of e ++ of g)))))
  by_kinds s a b c d e g =
      joins (s ∷ []) (a ++ (b ++ (c ++ (d ++ (e ++ g)))))
      ∙ ap (λ (xs : List X). of (s ∷ []) ++ xs) (joins a (b ++ (c ++ (d ++ (e ++ g))))
      ∙ ap (λ (xs : List X). of a ++ xs) (joins b (c ++ (d ++ (e ++ g)))
      ∙ ap (λ (xs : List X). of b ++ xs) (joins c (d ++ (e ++ g))
      ∙ ap (λ (xs : List X). of c ++ xs) (joins d (e ++ g)
      ∙ ap (λ (xs : List X). of d ++ xs) (joins e g)))))

module _ (v : MapValue) where
  kinds_of : {X : Type 0} (of : List Statement → List X) (joins : (xs ys : List Statement) → of (xs ++ ys) ≡ of xs ++ of ys)
      → of (statements_in v) ≡ of (Map v.name ∷ []) ++ (of (map Use v.uses) ++ (of (map Var v.vars) ++ (of (map Prop v.props) ++ (of (map (sending v) v.sends) ++ (of (map (telling v) v.tells) ++ of (map (stuttering v) v.stutters))))))
  kinds_of of joins = by_kinds of joins (Map v.name) (map Use v.uses) (map Var v.vars) (map Prop v.props) (map (sending v) v.sends) (map (telling v) v.tells) (map (stuttering v) v.stutters)

  pub all_uses : uses_of (statements_in v) ≡ v.uses
  all_uses = kinds_of uses_of uses_append ∙ rw (uses_use v.uses, uses_var v.vars, uses_prop v.props, uses_sending v v.sends, uses_telling v v.tells, uses_stuttering v v.stutters, append-nil)

  pub all_vars : vars_of (statements_in v) ≡ v.vars
  all_vars = kinds_of vars_of vars_append ∙ rw (vars_use v.uses, vars_var v.vars, vars_prop v.props, vars_sending v v.sends, vars_telling v v.tells, vars_stuttering v v.stutters, append-nil)

  pub all_props : props_of (statements_in v) ≡ v.props
  all_props = kinds_of props_of props_append ∙ rw (props_use v.uses, props_var v.vars, props_prop v.props, props_sending v v.sends, props_telling v v.tells, props_stuttering v v.stutters, append-nil)

  pub all_sends : sends_of v.uses v.vars (map (sending v) v.sends) ≡ v.sends → sends_of v.uses v.vars (statements_in v) ≡ v.sends
  all_sends back = kinds_of (sends_of v.uses v.vars) (sends_append v.uses v.vars) ∙ rw (sends_use v.uses v.vars v.uses, sends_var v.uses v.vars v.vars, sends_prop v.uses v.vars v.props, back, sends_telling v.uses v.vars v v.tells, sends_stuttering v.uses v.vars v v.stutters, append-nil)

  pub all_tells : tells_of v.uses v.props (map (telling v) v.tells) ≡ v.tells → tells_of v.uses v.props (statements_in v) ≡ v.tells
  all_tells back = kinds_of (tells_of v.uses v.props) (tells_append v.uses v.props) ∙ rw (tells_use v.uses v.props v.uses, tells_var v.uses v.props v.vars, tells_prop v.uses v.props v.props, tells_sending v.uses v.props v v.sends, back, tells_stuttering v.uses v.props v v.stutters, append-nil)

  pub all_stutters : stutters_of v.uses (map (stuttering v) v.stutters) ≡ v.stutters → stutters_of v.uses (statements_in v) ≡ v.stutters
  all_stutters back = kinds_of (stutters_of v.uses) (stutters_append v.uses) ∙ rw (stutters_use v.uses v.uses, stutters_var v.uses v.vars, stutters_prop v.uses v.props, stutters_sending v.uses v v.sends, stutters_telling v.uses v v.tells, back)

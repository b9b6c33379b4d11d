-- A lattice file has one verdict.
use Rattle.std.proofs.Common.{◌≡◌, ℕ, List, Some, None, map, sym, ◌∙◌, subst, ap}
use Rattle.xc_base.specs.Formats.{Row, IsAccepted}
use Rattle.xc_base.proofs.Deciding.{statements_are_unique, first_faults_are_unique, accepted_has_no_fault}
use Rattle.xc_laws.specs.declared.law.Law.{Law}
use Rattle.xc_lattice.specs.declared.statement.Statement.{Statement}
use Rattle.xc_laws.specs.Breaks.{first_break}
use Rattle.xc_laws.specs.declared.breaks.Break.{Break}
use Rattle.xc_lattice.specs.LatticeFiles.{LatticeValue, Says, lattice_format, IsBrokenBy, IsLattice}
use Rattle.xc_base.specs.Names.{name_at}
use Rattle.xc_lattice.specs.LatticeFiles.Verdict.{Faulty, Unlawful, Lawful}
use Rattle.xc_lattice.specs.Laws.{VerdictsAreUnique}
use Rattle.xc_lattice.specs.Deciding.{decide}
use Rattle.xc_lattice.proofs.Deciding.{decides}
use Rattle.xc_lattice.proofs.Drafts.{IsDraft-from_whole}
use Rattle.xc_lattice.proofs.Values.{says_once}

-- accepted rows say one value
pub accepted_once : (rows : List Row) (v w : LatticeValue) → IsAccepted lattice_format rows v → IsAccepted lattice_format rows w → v ≡ w
accepted_once rows v w hv hw =
    says_once hv.statements (IsDraft-from_whole rows hv.statements hv.read hv.whole) v w hv.says
    (subst (λ (ss : List Statement). Says ss w) (sym (statements_are_unique lattice_format decide decides rows hv.statements hw.statements hv.read hw.read)) hw.says)

some_is_not : {X : Type 0} (x : X) → Some x ≡ None → ⊥
some_is_not x e = cc

-- a break is its law and its elements
same_break : (a b : Break) → Some a ≡ Some b → (a.law ≡ b.law) × (a.elements ≡ b.elements)
same_break a b e = let same : a ≡ b = cc in (ap (λ (x : Break). x.law) same, ap (λ (x : Break). x.elements) same)

same_unlawful : (l m : Law) (ns ms : List (List ℕ)) → l ≡ m → ns ≡ ms → Unlawful l ns ≡ Unlawful m ms
same_unlawful l m ns ms e f = cc

same_names : (v w : LatticeValue) (xs ys : List ℕ) → v ≡ w → xs ≡ ys → map (name_at v.names) xs ≡ map (name_at w.names) ys
same_names v w xs ys e f = ap (λ (x : LatticeValue). map (name_at x.names) xs) e ∙ ap (map (name_at w.names)) f

broken_once : (rows : List Row) (l m : Law) (ns ms : List (List ℕ)) → IsBrokenBy rows l ns → IsBrokenBy rows m ms → Unlawful l ns ≡ Unlawful m ms
broken_once rows l m ns ms h k =
    let value = accepted_once rows h.value k.value h.accepted k.accepted in
    let same =
    same_break (record { law = l; elements = h.elements }) (record { law = m; elements = k.elements })
    (sym h.broken ∙ ap (λ (w : LatticeValue). first_break w.algebra) value ∙ k.broken) in
    same_unlawful l m ns ms same.0 (h.named ∙ same_names h.value k.value h.elements k.elements value same.1 ∙ sym k.named)

unbroken_is_not_broken : (rows : List Row) (l : Law) (ns : List (List ℕ)) (v : LatticeValue) → IsBrokenBy rows l ns → IsLattice rows v → ⊥
unbroken_is_not_broken rows l ns v h k =
    some_is_not (record { law = l; elements = h.elements })
    (sym h.broken ∙ ap (λ (w : LatticeValue). first_break w.algebra) (accepted_once rows h.value v h.accepted k.accepted) ∙ k.unbroken)

pub verdicts_are_unique : VerdictsAreUnique
verdicts_are_unique rows (Faulty f) (Faulty g) h k = ap Faulty (first_faults_are_unique lattice_format decide decides rows f g h k)
verdicts_are_unique rows (Faulty f) (Unlawful m ms) h k = absurd (accepted_has_no_fault lattice_format decide decides rows k.value f k.accepted h)
verdicts_are_unique rows (Faulty f) (Lawful w) h k = absurd (accepted_has_no_fault lattice_format decide decides rows w f k.accepted h)
verdicts_are_unique rows (Unlawful l ns) (Faulty g) h k = absurd (accepted_has_no_fault lattice_format decide decides rows h.value g h.accepted k)
verdicts_are_unique rows (Unlawful l ns) (Unlawful m ms) h k = broken_once rows l m ns ms h k
verdicts_are_unique rows (Unlawful l ns) (Lawful w) h k = absurd (unbroken_is_not_broken rows l ns w h k)
verdicts_are_unique rows (Lawful v) (Faulty g) h k = absurd (accepted_has_no_fault lattice_format decide decides rows v g h.accepted k)
verdicts_are_unique rows (Lawful v) (Unlawful m ms) h k = absurd (unbroken_is_not_broken rows m ms v k h)
verdicts_are_unique rows (Lawful v) (Lawful w) h k = ap Lawful (accepted_once rows v w h.accepted k.accepted)

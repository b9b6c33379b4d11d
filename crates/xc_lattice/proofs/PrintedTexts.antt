-- A lattice's canonical file is read again as the lattice.
use Rattle.std.proofs.Common.{◌≡◌, ℕ, ◌≤◌, List, length, None, sym, ◌∙◌, ap, subst}
use Rattle.xc_base.specs.Canonical.{canonical, numbered}
use Rattle.xc_base.specs.Formats.{Row, IsAccepted}
use Rattle.xc_base.specs.Lines.{text_rows}
use Rattle.xc_base.specs.Text.{text_fault}
use Rattle.xc_base.proofs.CanonicalTexts.{canonical_is_cut, canonical_is_sound}
use Rattle.xc_laws.specs.Breaks.{first_break}
use Rattle.xc_lattice.specs.Drafts.{IsReady}
use Rattle.xc_lattice.specs.LatticeFiles.{LatticeValue, lattice_format, IsLattice}
use Rattle.xc_lattice.specs.Printed.{lattice_lines}
use Rattle.xc_lattice.proofs.PrintedAgain.{lines_accepted}
use Rattle.xc_lattice.proofs.PrintedShort.{lattice_lines_are, lattice_lines_are_short}

pub text_says : (v : LatticeValue) (text : List ℕ) → IsReady v → first_break v.algebra ≡ None → text ≡ canonical (lattice_lines v) → IsLattice (text_rows text) v
text_says v text r unbroken e =
    let rows : text_rows text ≡ numbered 1 (lattice_lines v) = ap text_rows e ∙ canonical_is_cut (lattice_lines v) (lattice_lines_are v r) in
    record { accepted = subst (λ (rows : List Row). IsAccepted lattice_format rows v) (sym rows) (lines_accepted v r); unbroken = unbroken }

pub text_sound : (v : LatticeValue) (text : List ℕ) (limit : ℕ) → IsReady v → text ≡ canonical (lattice_lines v) → length text ≤ limit → text_fault limit text ≡ None
text_sound v text limit r e small =
    ap (text_fault limit) e ∙ canonical_is_sound (lattice_lines v) limit (lattice_lines_are v r) (lattice_lines_are_short v r) (subst (λ (t : List ℕ). length t ≤ limit) e small)

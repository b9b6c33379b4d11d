use Rattle.std.proofs.Common.{◌≡◌, ℕ, ◌≤◌, List, length, None}
use Rattle.std.specs.Prelude.{Result, Ok, Err, IfOk}
use Rattle.xc_base.specs.Canonical.{canonical}
use Rattle.xc_base.specs.Lines.{text_rows}
use Rattle.xc_base.specs.Text.{text_fault}
use Rattle.xc_lattice.specs.LatticeFiles.{IsLattice}
use Rattle.xc_lattice.specs.Printed.{lattice_lines}
use Rattle.xc_lattice.specs.Values.{value_of}
use Rattle.xc_lattice.specs.declared.lattice.Lattice.{Lattice}
use Rattle.xc_lattice.proofs.PrintedTexts.{text_says, text_sound}
use Rattle.xc_lattice.proofs.PrintedReady.{ready, unbroken}
use Rattle.xc_lattice.proofs.lattice.Lattice.print.Goals as goal

-- what follows from what holds of a text
if_ok : {E : Type 0} (r : Result (List ℕ) E) (P Q : List ℕ → Type 0) → ((text : List ℕ) → P text → Q text) → IfOk r P → IfOk r Q
if_ok (Ok text) P Q f h = f text h
if_ok (Err e) P Q f h = tt

pub returns-clause-again : goal.returns-clause-again
returns-clause-again c =
    let l : Lattice = c.args.self.now in
    if_ok c.text.result (λ text. text ≡ canonical (lattice_lines (value_of l))) (λ text. IsLattice (text_rows text) (value_of l)) (λ text e. text_says (value_of l) text (ready l) (unbroken l) e) c.text.ensures

pub returns-clause-sound : goal.returns-clause-sound
returns-clause-sound c =
    let l : Lattice = c.args.self.now in
    if_ok c.text.result (λ text. text ≡ canonical (lattice_lines (value_of l))) (λ text. (limit : ℕ) → length text ≤ limit → text_fault limit text ≡ None) (λ text e limit small. text_sound (value_of l) text limit (ready l) e small) c.text.ensures

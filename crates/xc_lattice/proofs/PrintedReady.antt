-- What a lattice keeps makes it fit to be printed.
use Rattle.std.proofs.Common.{◌≡◌, None}
use Rattle.xc_laws.specs.Breaks.{first_break}
use Rattle.xc_lattice.specs.Drafts.{IsReady}
use Rattle.xc_lattice.specs.Values.{value_of}
use Rattle.xc_lattice.specs.declared.lattice.Lattice.{Lattice}
use Rattle.xc_laws.proofs.Unbroken.{lawful_is_unbroken}

pub ready : (l : Lattice) → IsReady (value_of l)
ready l =
    record {
      shape = l.lawful.shape;
      reflexive = l.lawful.reflexive;
      transitive = l.lawful.transitive;
      titled = l.titled;
      named = l.named;
      names_are = l.names_are;
      different = l.different;
      some = l.some;
      few = l.few;
    }

pub unbroken : (l : Lattice) → first_break (value_of l).algebra ≡ None
unbroken l = lawful_is_unbroken (value_of l).algebra l.lawful

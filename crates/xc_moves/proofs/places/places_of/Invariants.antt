-- The rest and the places that are written come to the digits of the state.
use Rattle.std.proofs.Common.{◌≡◌, ◌<◌, length, take}
use Rattle.xc_theory.specs.Codes.{total, digits}
use Rattle.xc_forms.specs.Variables.{sizes_of}
use Rattle.xc_moves.proofs.Placing.{comes_to}
use Rattle.xc_moves.proofs.places.places_of.Given as goal

abbrev pub invariant-loop-place : goal.invariant-loop-place
invariant-loop-place l = record {
  room : length l.row ≡ 20;
  below : l.rest < total (take l.place (sizes_of l.vars));
  known : comes_to (sizes_of l.vars) l.place l.rest l.row ≡ digits (sizes_of l.vars) l.fn.state;
}

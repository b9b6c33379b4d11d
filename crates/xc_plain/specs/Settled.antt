-- Rows of the iterates of a fixpoint. No public clause rests on these words.
use Rattle.std.specs.Prelude.{◌<◌, ◌-◌, ℕ, Bool, List, [], length}
use Rattle.std.specs.List.{slice_index_or}
use Rattle.xc_alg.specs.Operations.{Operations}
use Rattle.xc_alg.specs.Tables.{entry}
use Rattle.xc_fixpoint.specs.Functions.{Agree}
use Rattle.xc_fixpoint.specs.Steps.{Step}
use Rattle.xc_fixpoint.specs.Iterates.{iterate, Settles}
use Rattle.xc_plain.specs.Successors.{IsRow}

-- each row has a code below a size for each of n states
pub record AreRowsOver (size n : ℕ) (rows : List (List ℕ)) : Type 0 where
  pub each : (k : ℕ) → k < length rows → IsRow size n (slice_index_or rows k [])

-- the rows are the first iterates
pub record AreIterates (o : Operations) (up : Bool) (n : ℕ) (step : Step) (rows : List (List ℕ)) : Type 0 where
  pub shape : AreRowsOver o.size n rows
  pub same : (k : ℕ) → k < length rows → Agree n (entry rows k) (iterate o up step k)

-- and they end with the first that agrees with the next one
pub record AreRounds (o : Operations) (up : Bool) (n : ℕ) (step : Step) (rows : List (List ℕ)) : Type 0 where
  pub some : 0 < length rows
  pub iterates : AreIterates o up n step rows
  pub settles : Settles o up n step (length rows - 1)

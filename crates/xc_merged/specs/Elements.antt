-- The elements of commands and lines of the code. No public clause rests on these words.
use Rattle.std.specs.Prelude.{ℕ, Bool, ◌==◌, List, map, filter, drop}
use Rattle.xc_base.specs.Names.{place_of}
use Rattle.xc_sigmap_lines.specs.declared.parts.Stutter.{Stutter}
use Rattle.xc_sigmap_lines.specs.declared.parts.Told.{Told}
use Rattle.xc_view.specs.Parts.{prop_value}
use Rattle.xc_view.specs.declared.lines.PropLine.{PropLine}
use Rattle.xc_view.specs.declared.lines.Command.{Command}
use Rattle.xc_merge.specs.Pieces.{counts_for}

abbrev pub command_code : List (List ℕ) → Command → ℕ
command_code names c = place_of names c.value

abbrev pub line_code : List (List ℕ) → PropLine → ℕ
line_code names l = place_of names l.value

-- whether a line counts for what is told
abbrev pub counts_of : Told → PropLine → Bool
counts_of told l = counts_for (prop_value l) told

-- the stutter values of a viewpoint in the lines from a place on
unfoldable pub stutters_from : ℕ → List Stutter → ℕ → List (List ℕ)
stutters_from v lines i = map (λ (l : Stutter). l.value) (filter (λ (l : Stutter). l.viewpoint == v) (drop i lines))

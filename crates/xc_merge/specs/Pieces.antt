-- What an encoder reads of a merge, viewpoint by viewpoint.
use Rattle.std.specs.Prelude.{ℕ, Bool, false, Option, Some, None}
use Rattle.std.specs.Str.{bytes_eq}
use Rattle.xc_base.specs.Names.{place_of}
use Rattle.xc_view.specs.ViewFiles.{PropValue, CommandValue}
use Rattle.xc_sigmap_lines.specs.MapFiles.{MapValue}
use Rattle.xc_sigmap_lines.specs.declared.parts.Tell.{Tell}
use Rattle.xc_sigmap_lines.specs.declared.parts.Told.{Told}
use Rattle.xc_sigmap_lines.specs.declared.parts.Told.TheVariants.{Named, Constant}
use Rattle.xc_merge.specs.Merges.{Viewpoint}
use Rattle.xc_merge.specs.MergedFrames.{join_in, stutter_words, line_of}

-- the element of a command's value, and that of the value of a proposition's line
abbrev pub weight : Viewpoint → CommandValue → ℕ
weight p c = place_of p.lattice.names c.value

abbrev pub mark : Viewpoint → PropValue → ℕ
mark p l = place_of p.lattice.names l.value

-- whether a line of the view counts for what the viewpoint tells
abbrev pub counts_for : PropValue → Told → Bool
counts_for l (Named name) = bytes_eq name l.name
counts_for l (Constant word) = false

abbrev pub counts_by : PropValue → Option Tell → Bool
counts_by l None = false
counts_by l (Some line) = counts_for l line.told

abbrev pub counts : MapValue → ℕ → PropValue → ℕ → Bool
counts plan v l prop = counts_by l (line_of plan v prop)

-- the element that a viewpoint tells of a proposition everywhere, where it tells a constant
abbrev pub constant_told : Viewpoint → Told → Option ℕ
constant_told p (Named name) = None
constant_told p (Constant word) = Some (place_of p.lattice.names word)

abbrev pub fixed_by : Viewpoint → Option Tell → Option ℕ
fixed_by p None = None
fixed_by p (Some line) = constant_told p line.told

abbrev pub fixed : MapValue → ℕ → Viewpoint → ℕ → Option ℕ
fixed plan v p prop = fixed_by p (line_of plan v prop)

-- the element that a viewpoint gives to steps that it does not see, and its bottom where the map names none
abbrev pub stutter : MapValue → ℕ → Viewpoint → ℕ
stutter plan v p = join_in p (stutter_words plan v)

-- What maps of the code are, and why there is none.
use Rattle.std.specs.Prelude.{List}
use Rattle.xc_base.specs.Formats.{Row, IsFirstFault}
use Rattle.xc_base.specs.declared.fault.Stop.{Stop}
use Rattle.xc_base.specs.declared.fault.Stop.TheVariants.{File, Memory}
use Rattle.xc_sigmap_lines.specs.MapFiles.{MapValue, map_format}
use Rattle.xc_sigmap.specs.declared.sigmap.SigMap.{SigMap}

-- what a map is
abbrev pub value_of : SigMap → MapValue
value_of m = record { name = m.name; uses = m.uses; vars = m.vars; props = m.props; sends = m.sends; tells = m.tells; stutters = m.stutters }

-- why the reader of a file with these rows stops
abbrev pub IsStop : List Row → Stop → Type 0
IsStop rows (File fault) = IsFirstFault map_format rows fault
IsStop rows Memory = Unit {0}

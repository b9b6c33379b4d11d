-- The canonical text of a map.
use Rattle.std.specs.Prelude.{ℕ, List, ◌∷◌, ◌++◌, map}
use Rattle.xc_base.specs.Names.{name_at}
use Rattle.xc_forms.specs.Variables.{names_of, values_at}
use Rattle.xc_sigmap_lines.specs.declared.parts.Carry.{Carry}
use Rattle.xc_sigmap_lines.specs.declared.parts.SendLine.{SendLine}
use Rattle.xc_sigmap_lines.specs.declared.parts.Tell as tellings
use Rattle.xc_sigmap_lines.specs.declared.parts.Stutter as gaps
use Rattle.xc_sigmap_lines.specs.declared.statement.Pair.{Pair}
use Rattle.xc_sigmap_lines.specs.declared.statement.Statement.{Statement}
use Rattle.xc_sigmap_lines.specs.declared.statement.Statement.TheVariants.{Map, Use, Var, Prop, Send, Tell, Stutter}
use Rattle.xc_sigmap_lines.specs.MapFiles.{MapValue, spelling, use_names}

-- a viewpoint's name
abbrev pub use_at : MapValue → ℕ → List ℕ
use_at v place = name_at (use_names v.uses) place

-- the statement of each line of a map, with names in place of numbers
abbrev pub paired : List (List ℕ) → Carry → Pair
paired values c = record { from = name_at values c.value; to = c.word }

abbrev pub sending : MapValue → SendLine → Statement
sending v l = Send (use_at v l.viewpoint) l.variable (name_at (names_of v.vars) l.from) (map (paired (values_at v.vars l.from)) l.pairs)

abbrev pub telling : MapValue → tellings.Tell → Statement
telling v l = Tell (use_at v l.viewpoint) (name_at v.props l.prop) l.told

abbrev pub stuttering : MapValue → gaps.Stutter → Statement
stuttering v l = Stutter (use_at v l.viewpoint) l.value

-- the statements of a map: each kind in its order
abbrev pub statements_in : MapValue → List Statement
statements_in v =
    Map v.name ∷ (map Use v.uses ++ (map Var v.vars ++ (map Prop v.props ++ (map (sending v) v.sends ++ (map (telling v) v.tells ++ map (stuttering v) v.stutters)))))

-- the tokens of the lines of its canonical text
abbrev pub map_lines : MapValue → List (List (List ℕ))
map_lines v = map spelling (statements_in v)

-- What holds of each map.
use Rattle.std.specs.Prelude.{ℕ, Bool, false, ◌&&◌, ◌||◌, ◌==◌, not, nat_lt, nat_le, List, [], ◌∷◌, length}
use Rattle.std.specs.List.{list_any, list_all}
use Rattle.std.specs.Str.{bytes_eq}
use Rattle.xc_base.specs.Names.{has_twice}
use Rattle.xc_base.specs.Words.{is_name, is_file_word}
use Rattle.xc_forms.specs.Variables.{values_at, are_fit}
use Rattle.xc_forms.specs.VariableLines.{is_named_var}
use Rattle.xc_sigmap_lines.specs.declared.parts.Use.{Use}
use Rattle.xc_sigmap_lines.specs.declared.parts.Carry.{Carry}
use Rattle.xc_sigmap_lines.specs.declared.parts.SendLine.{SendLine}
use Rattle.xc_sigmap_lines.specs.declared.parts.Tell.{Tell}
use Rattle.xc_sigmap_lines.specs.declared.parts.Stutter.{Stutter}
use Rattle.xc_sigmap_lines.specs.MapFiles.{MapValue, is_prop_name, told_word, use_names, use_limit, prop_limit}

-- whether one of the items says again what an earlier one said
abbrev pub has_two : {X : Type 0} → (X → X → Bool) → List X → Bool
has_two again [] = false
has_two again (x ∷ more) = list_any (λ y. again y x) more || has_two again more

-- a viewpoint has words of their kinds
abbrev pub is_named_use : Use → Bool
is_named_use u = is_name u.name && is_file_word u.file

-- two pairs of the same value, two lines for a viewpoint's variable, two for what a viewpoint tells of a proposition, two stutter
-- values of a viewpoint
abbrev pub same_value : Carry → Carry → Bool
same_value c d = c.value == d.value

abbrev pub same_send : SendLine → SendLine → Bool
same_send s t = s.viewpoint == t.viewpoint && bytes_eq s.variable t.variable

abbrev pub same_tell : Tell → Tell → Bool
same_tell s t = s.viewpoint == t.viewpoint && s.prop == t.prop

abbrev pub same_stutter : Stutter → Stutter → Bool
same_stutter s t = s.viewpoint == t.viewpoint

-- what is named by number is there, no pair's value stands twice, and words are names
abbrev pub is_carry_in : List (List ℕ) → Carry → Bool
is_carry_in values c = nat_lt c.value (length values) && is_name c.word

abbrev pub is_send_in : MapValue → SendLine → Bool
is_send_in v s =
    nat_lt s.viewpoint (length v.uses) && is_name s.variable && nat_lt s.from (length v.vars)
    && list_all (is_carry_in (values_at v.vars s.from)) s.pairs && not (has_two same_value s.pairs)

abbrev pub is_tell_in : MapValue → Tell → Bool
is_tell_in v t = nat_lt t.viewpoint (length v.uses) && nat_lt t.prop (length v.props) && is_name (told_word t.told)

abbrev pub is_stutter_in : MapValue → Stutter → Bool
is_stutter_in v s = nat_lt s.viewpoint (length v.uses) && is_name s.value

-- 1 to 8 viewpoints of different names, fit variables, at most 256 propositions of different names
abbrev pub are_declared : MapValue → Bool
are_declared v =
    is_name v.name
    && nat_le 1 (length v.uses) && nat_le (length v.uses) use_limit && not (has_twice (use_names v.uses)) && list_all is_named_use v.uses
    && are_fit v.vars && list_all is_named_var v.vars
    && nat_le (length v.props) prop_limit && not (has_twice v.props) && list_all is_prop_name v.props

-- each line is in range, and nothing is sent, told or given for stutter twice
abbrev pub are_told : MapValue → Bool
are_told v =
    list_all (is_send_in v) v.sends && not (has_two same_send v.sends)
    && list_all (is_tell_in v) v.tells && not (has_two same_tell v.tells)
    && list_all (is_stutter_in v) v.stutters && not (has_two same_stutter v.stutters)

-- what holds of each map
abbrev pub is_sound : MapValue → Bool
is_sound v = are_declared v && are_told v

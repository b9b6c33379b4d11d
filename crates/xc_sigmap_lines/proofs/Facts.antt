-- Map files at small cases whose values are known from outside: a wrong definition does not check here.
use Rattle.std.proofs.Common.{◌≡◌, ℕ, true, false, List, [], ◌∷◌, replicate, Some, None, codes, refl}
use Rattle.xc_base.specs.declared.fault.Part.TheVariants as parts
use Rattle.xc_base.specs.declared.fault.Counted.TheVariants as counted
use Rattle.xc_forms.specs.VariableLines.{var_excess}
use Rattle.xc_sigmap_lines.specs.declared.parts.Told.TheVariants.{Named, Constant}
use Rattle.xc_sigmap_lines.specs.declared.statement.Statement.{Statement}
use Rattle.xc_sigmap_lines.specs.declared.statement.Statement.TheVariants.{Map, Use, Var, Prop, Send, Tell, Stutter}
use Rattle.xc_sigmap_lines.specs.MapFiles.{is_prop_name, spelling, has_names, is_due, is_repeated, is_unknown, excess_of, missing_part, map_of}

abbrev ben : List ℕ
ben = codes "ben"

abbrev cat : List ℕ
cat = codes "cat"

abbrev door : List ℕ
door = codes "door"

abbrev gate : List ℕ
gate = codes "gate"

abbrev safe : List ℕ
safe = codes "safe"

abbrev shut : List ℕ
shut = codes "shut"

abbrev open_ : List ℕ
open_ = codes "open"

-- a door that is shut or open, two viewpoints and one proposition; ben's gate is closed where the door is shut
abbrev pub house : List Statement
house =
    Map (codes "house") ∷ Use (record { name = ben; file = codes "ben.view" }) ∷ Use (record { name = cat; file = codes "cat.view" }) ∷ Var (record { name = door; values = shut ∷ open_ ∷ [] }) ∷ Prop safe
    ∷ Send ben gate door (record { from = shut; to = codes "closed" } ∷ []) ∷ Tell cat safe (Constant (codes "T")) ∷ Stutter cat (codes "T") ∷ []

-- how lines are spelled
pub spelled : (spelling (Send ben gate door (record { from = shut; to = codes "closed" } ∷ [])) ≡ codes "send" ∷ ben ∷ gate ∷ door ∷ shut ∷ codes "=" ∷ codes "closed" ∷ [])
    × (spelling (Tell cat safe (Constant (codes "T"))) ≡ codes "tell" ∷ cat ∷ safe ∷ codes "as" ∷ codes "T" ∷ []) × (spelling (Tell cat safe (Named (codes "as"))) ≡ codes "tell" ∷ cat ∷ safe ∷ codes "as" ∷ [])
spelled = (refl, refl, refl)

-- no proposition is called as a word of formulas
pub named : (is_prop_name (codes "EX") ≡ false) × (is_prop_name (codes "U") ≡ false) × (is_prop_name (codes "any") ≡ true) × (has_names (Var (record { name = codes "any"; values = shut ∷ [] })) ≡ false)
named = (refl, refl, refl, refl)

-- the kinds in their order: no viewpoint behind a variable, no variable before a viewpoint, no proposition behind a `send` line
pub due : (is_due [] (Map ben) ≡ true) × (is_due [] (Prop safe) ≡ false) × (is_due (Map ben ∷ []) (Var (record { name = door; values = [] })) ≡ false) × (is_due house (Prop door) ≡ false) × (is_due house (Tell ben safe (Named safe)) ≡ true)
    × (is_due (Map ben ∷ Use (record { name = ben; file = ben }) ∷ Var (record { name = door; values = [] }) ∷ []) (Use (record { name = cat; file = cat })) ≡ false)
due = (refl, refl, refl, refl, refl, refl)

-- what is said again: a viewpoint's variable, what it tells of a proposition in either form, its stutter value, and a value in two pairs
pub repeated : (is_repeated house (Send ben gate door []) ≡ true) × (is_repeated house (Send cat gate door []) ≡ false) × (is_repeated house (Tell cat safe (Named safe)) ≡ true) × (is_repeated house (Stutter cat shut) ≡ true) × (is_repeated house (Stutter ben shut) ≡ false)
    × (is_repeated house (Send cat door door (record { from = shut; to = shut } ∷ record { from = shut; to = open_ } ∷ [])) ≡ true) × (is_repeated house (Use (record { name = ben; file = cat })) ≡ true) × (is_repeated house (Prop safe) ≡ true)
repeated = (refl, refl, refl, refl, refl, refl, refl, refl)

-- what is not declared: a viewpoint, a variable, a value of it, a proposition
pub unknown : (is_unknown house (Send (codes "dan") gate door []) ≡ true) × (is_unknown house (Send cat door gate []) ≡ true) × (is_unknown house (Send cat door door (record { from = gate; to = shut } ∷ [])) ≡ true) × (is_unknown house (Send cat door door (record { from = open_; to = gate } ∷ [])) ≡ false)
    × (is_unknown house (Tell cat door (Named safe)) ≡ true) × (is_unknown house (Stutter (codes "dan") shut) ≡ true)
unknown = (refl, refl, refl, refl, refl, refl)

-- the ninth viewpoint, values from 2 to 16, and 20 variables of two values but not 21
pub limits : (excess_of (replicate 8 (Use (record { name = ben; file = ben }))) (Use (record { name = cat; file = cat })) ≡ Some (record { what = counted.Uses; found = 9 })) × (excess_of (replicate 7 (Use (record { name = ben; file = ben }))) (Use (record { name = cat; file = cat })) ≡ None)
    × (var_excess [] 17 ≡ Some (record { what = counted.Values; found = 17 })) × (var_excess (replicate 19 2) 2 ≡ None) × (var_excess (replicate 20 2) 2 ≡ Some (record { what = counted.States; found = 2097152 }))
limits = (refl, refl, refl, refl, refl)

-- what a file lacks, in its order
pub lacking : (missing_part [] ≡ Some parts.Head) × (missing_part (Map ben ∷ []) ≡ Some parts.Uses) × (missing_part (Map ben ∷ Use (record { name = ben; file = ben }) ∷ []) ≡ Some parts.Var) × (missing_part house ≡ None)
lacking = (refl, refl, refl, refl)

-- what the house says, by places
pub said : ((map_of house).sends ≡ record { viewpoint = 0; variable = gate; from = 0; pairs = record { value = 0; word = codes "closed" } ∷ [] } ∷ []) × ((map_of house).tells ≡ record { viewpoint = 1; prop = 0; told = Constant (codes "T") } ∷ [])
    × ((map_of house).stutters ≡ record { viewpoint = 1; value = codes "T" } ∷ [])
said = (refl, refl, refl)

-- The checks of a size from those of its map and of each view.
use Rattle.std.proofs.Common.{◌≡◌, ℕ, Bool, true, false, ◌&&◌, eqb, List, [], ◌∷◌, codes, Result, Ok, Err, refl}
use Rattle.std.specs.List.{list_all}
use Rattle.std.specs.Option.{is_none}
use Rattle.std.proofs.lemmas.Bool.{and_parts}
use Rattle.xc_base.specs.Names.{are_same}
use Rattle.xc_base.specs.Text.{text_fault}
use Rattle.xc_base.specs.declared.fault.FileFault.{FileFault}
use Rattle.xc_forms.specs.Variables.{sizes_of}
use Rattle.xc_sigmap_lines.specs.MapFiles as maps
use Rattle.xc_sigmap_lines.specs.declared.statement.Statement as stated
use Rattle.xc_gen.specs.declared.side.Side.TheVariants.{Left, Right}
use Rattle.xc_gen.specs.Generated.{map_text}
use Rattle.xc_gen_laws.specs.Readings.{file_limit}
use Rattle.xc_gen_laws.proofs.Checks.{all_fit, map_fits, map_read, views_fit}

-- the map that its text is read as
abbrev pub plan_in : Result (List stated.Statement) FileFault → maps.MapValue
plan_in (Ok ss) = maps.map_of ss
plan_in (Err fault) = maps.map_of []

abbrev pub plan_of : ℕ → maps.MapValue
plan_of size = plan_in (map_read size)

-- what is checked of the map alone
abbrev pub head_fits_in : ℕ → Result (List stated.Statement) FileFault → Bool
head_fits_in size (Ok ss) = is_none (text_fault file_limit (map_text size)) && (are_same (maps.map_of ss).props (codes "last" ∷ []) && list_all (λ z. eqb z 2) (sizes_of (maps.map_of ss).vars))
head_fits_in size (Err fault) = false

abbrev pub head_fits : ℕ → Bool
head_fits size = head_fits_in size (map_read size)

and_from : (a b : Bool) → a ≡ true → b ≡ true → (a && b) ≡ true
and_from true true x y = refl
and_from true false x y = cc
and_from false b x y = cc

from_parts : (size : ℕ) (read : Result (List stated.Statement) FileFault) → head_fits_in size read ≡ true → views_fit (plan_in read) Left size ≡ true → views_fit (plan_in read) Right size ≡ true → map_fits size read ≡ true
from_parts size (Err fault) h l r = cc
from_parts size (Ok ss) h l r =
    let outer = and_parts (is_none (text_fault file_limit (map_text size))) (are_same (maps.map_of ss).props (codes "last" ∷ []) && list_all (λ z. eqb z 2) (sizes_of (maps.map_of ss).vars)) h in
    let inner = and_parts (are_same (maps.map_of ss).props (codes "last" ∷ [])) (list_all (λ z. eqb z 2) (sizes_of (maps.map_of ss).vars)) outer.1 in
    and_from (is_none (text_fault file_limit (map_text size))) _ outer.0
    (and_from (are_same (maps.map_of ss).props (codes "last" ∷ [])) _ inner.0
    (and_from (list_all (λ z. eqb z 2) (sizes_of (maps.map_of ss).vars)) _ inner.1
    (and_from (views_fit (maps.map_of ss) Left size) (views_fit (maps.map_of ss) Right size) l r)))

pub all_from_parts : (size : ℕ) → head_fits size ≡ true → views_fit (plan_of size) Left size ≡ true → views_fit (plan_of size) Right size ≡ true → all_fit size ≡ true
all_from_parts size h l r = from_parts size (map_read size) h l r

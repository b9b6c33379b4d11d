-- What a load by name finds among the files that are generated.
use Rattle.std.specs.Prelude.{◌≡◌, ℕ, true, false, List, [], ◌∷◌, Some, None, codes}
use Rattle.xc_base.specs.Names.{is_among}
use Rattle.xc_base.specs.Shelves.{held, shelved}
use Rattle.xc_gen.specs.declared.side.Side.TheVariants.{Left, Right}
use Rattle.xc_gen.specs.Generated.{chain_text, diamond_text, view_text, map_text, formulas_text, files_of, generated}

-- the names of the files
abbrev pub file_names : List (List ℕ)
file_names = codes "chain.lat" ∷ codes "diamond.lat" ∷ codes "left.view" ∷ codes "right.view" ∷ codes "gen.map" ∷ codes "gen.ctl" ∷ []

-- the file of each of these names, and none of another name
pub record AreNamed (number size : ℕ) : Type 0 where
  pub chain : held (files_of number size) (codes "chain.lat") ≡ Some chain_text
  pub diamond : held (files_of number size) (codes "diamond.lat") ≡ Some diamond_text
  pub left : held (files_of number size) (codes "left.view") ≡ Some (view_text Left number size)
  pub right : held (files_of number size) (codes "right.view") ≡ Some (view_text Right number size)
  pub sigmap : held (files_of number size) (codes "gen.map") ≡ Some (map_text size)
  pub formulas : held (files_of number size) (codes "gen.ctl") ≡ Some formulas_text
  pub others : (name : List ℕ) → is_among file_names name ≡ false → held (files_of number size) name ≡ None

-- what the shelf tells: these files, that no load failed, and that none fails but for names that are not held
abbrev pub IsSteady : ℕ → ℕ → Type 0
IsSteady number size = shelved (generated number size) ≡ record { told = Some (record { files = files_of number size; failed = []; steady = true }); faults = 0 }

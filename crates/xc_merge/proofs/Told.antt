-- Whether a line of a view is of a proposition.
use Rattle.std.proofs.Common.{◌≡◌, ℕ, Bool, true, false, List, [], ◌∷◌, map, refl, sym, ◌∙◌, ap, ◌||◌}
use Rattle.std.specs.List.{list_any}
use Rattle.std.specs.Str.{bytes_eq}
use Rattle.xc_base.specs.Names.{is_among}
use Rattle.xc_view.specs.ViewFiles.{PropValue}
use Rattle.xc_view.specs.Parts.{prop_value}
use Rattle.xc_view.specs.declared.lines.PropLine.{PropLine}
use Rattle.xc_merge.specs.Finding.{name_fault}
use Rattle.xc_merge.specs.declared.fault.MergeFault.TheVariants.{UnknownName}

any_named : (name : List ℕ) (lines : List PropLine) → list_any (λ (l : PropLine). bytes_eq name l.name) lines ≡ is_among (map (λ (l : PropValue). l.name) (map prop_value lines)) name
any_named name [] = refl
any_named name (l ∷ lines) = ap (λ (b : Bool). bytes_eq name l.name || b) (any_named name lines)

-- a proposition is found where a line has its name, and missed where none has
pub prop_there : (viewpoint name : List ℕ) (lines : List PropLine) → list_any (λ (l : PropLine). bytes_eq name l.name) lines ≡ true → name_fault viewpoint (map (λ (l : PropValue). l.name) (map prop_value lines)) name ≡ []
prop_there viewpoint name lines h = rw (sym (any_named name lines) ∙ h) refl

pub prop_absent : (viewpoint name : List ℕ) (lines : List PropLine) → list_any (λ (l : PropLine). bytes_eq name l.name) lines ≡ false → name_fault viewpoint (map (λ (l : PropValue). l.name) (map prop_value lines)) name ≡ UnknownName viewpoint name ∷ []
prop_absent viewpoint name lines h = rw (sym (any_named name lines) ∙ h) refl

pub ruleset prop_steps = (prop_there, prop_absent)

-- What a load by name finds.
use Rattle.std.proofs.Common.{◌≡◌, ℕ, Bool, true, false, cond, List, [], ◌∷◌, map, Option, Some, None, refl, sym, ap, subst, ◌∙◌}
use Rattle.std.specs.List.{find}
use Rattle.std.specs.Option.{option_map}
use Rattle.std.specs.Str.{bytes_eq}
use Rattle.std.proofs.lemmas.Bool.{false≢true}
use Rattle.xc_base.specs.declared.shelf.File.{File}
use Rattle.xc_base.specs.Names.{is_among}
use Rattle.xc_base.proofs.Naming.{same_bytes, bytes_refl, or_false_left, or_false_right}
use Rattle.xc_gen.specs.Generated.{files_of}
use Rattle.xc_gen.specs.Naming.{AreNamed}

-- two names that are not the same are not so either way round
other_way : (a b : List ℕ) (t : Bool) → bytes_eq b a ≡ t → bytes_eq a b ≡ false → t ≡ false
other_way a b true e h = sym (subst (λ (x : List ℕ). bytes_eq a x ≡ true) (sym (same_bytes b a e)) (bytes_refl a)) ∙ h
other_way a b false e h = refl

passed_over : (t : Bool) (file : File) (found : Option File) → t ≡ false → cond t (Some file) found ≡ found
passed_over true file found e = absurd (false≢true (sym e))
passed_over false file found e = refl

-- no file of a name that is not among those of the files
pub none_of_another : (files : List File) (name : List ℕ) → is_among (map (λ (file : File). file.name) files) name ≡ false → find (λ (file : File). bytes_eq file.name name) files ≡ None
none_of_another [] name h = refl
none_of_another (file ∷ files) name h =
    passed_over (bytes_eq file.name name) file (find (λ (f : File). bytes_eq f.name name) files) (other_way name file.name (bytes_eq file.name name) refl (or_false_left (bytes_eq name file.name) (is_among (map (λ (f : File). f.name) files) name) h))
    ∙ none_of_another files name (or_false_right (bytes_eq name file.name) (is_among (map (λ (f : File). f.name) files) name) h)

pub are_named : (number size : ℕ) → AreNamed number size
are_named number size =
    record {
      chain = refl;
      diamond = refl;
      left = refl;
      right = refl;
      sigmap = refl;
      formulas = refl;
      others = λ name h. ap (option_map (λ (file : File). file.bytes)) (none_of_another (files_of number size) name h);
    }

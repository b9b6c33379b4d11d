-- The lines of a view's canonical text are cut again, and are read as the view.
use Rattle.std.proofs.Common.{◌≡◌, ℕ, ◌≤◌, true, ◌&&◌, nat_lt, nat_le, List, [], ◌∷◌, ◌++◌, map, length, None, codes, refl, sym, ◌∙◌, ap, subst, arith}
use Rattle.std.specs.List.{list_all}
use Rattle.std.proofs.lemmas.Bool.{and_parts, and_from}
use Rattle.xc_base.specs.Canonical.{canonical, is_line, is_short}
use Rattle.xc_base.specs.Formats.{Row, IsAccepted}
use Rattle.xc_base.specs.Lines.{text_rows}
use Rattle.xc_base.specs.Text.{text_fault}
use Rattle.xc_base.specs.Words.{is_word, is_name}
use Rattle.xc_base.proofs.CanonicalTexts.{canonical_is_cut, canonical_is_sound}
use Rattle.xc_expr_text.specs.LineParts.{IsLinePart}
use Rattle.xc_expr.specs.Written.{Sum, depth_limit}
use Rattle.xc_forms.specs.FaultlessLines.{AreFaultless}
use Rattle.xc_forms.specs.VariableLines.{var_tokens}
use Rattle.xc_forms.specs.VariableNames.{is_variable_name, is_value_name}
use Rattle.xc_expr_text.proofs.LineParts.{word_part, both_parts, spelled_part, actions_are_line_parts}
use Rattle.xc_expr_text.proofs.PrintedTexts.{part_line}
use Rattle.xc_view.specs.Parts.{is_sound}
use Rattle.xc_view.specs.Printing.{spelling, statements_in, view_lines}
use Rattle.xc_view.specs.ViewFiles.{ViewValue, view_format}
use Rattle.xc_view_lines.specs.ViewLines.{Statement, IsStated}
use Rattle.xc_view_lines.specs.ViewLines.IsStated.{view, lattice, var, init, prop, command}
use Rattle.xc_view.specs.Writable.{is_writable}
use Rattle.xc_view_text.proofs.Again.{all_faultless, reads_again}

-- words as a part of a line
words_part : (ws : List (List ℕ)) → list_all is_word ws ≡ true → IsLinePart ws
words_part [] h = record { are_tokens = refl; apart = λ rest k a. a }
words_part (w ∷ ws) h =
    let parts = and_parts (is_word w) (list_all is_word ws) h in
    both_parts (w ∷ []) ws (word_part w parts.0) (words_part ws parts.1)

name_word : (x : List ℕ) → is_name x ≡ true → is_word x ≡ true
name_word x h = (and_parts (is_word x) _ (and_parts _ _ h).0).0

values_words : (ws : List (List ℕ)) → list_all is_value_name ws ≡ true → list_all is_word ws ≡ true
values_words [] h = refl
values_words (w ∷ ws) h =
    let parts = and_parts (is_value_name w) (list_all is_value_name ws) h in
    and_from (is_word w) (list_all is_word ws) (name_word w (and_parts (is_name w) _ parts.0).0) (values_words ws parts.1)

-- the tokens of a statement are a line
stated_line : (tokens : List (List ℕ)) (s : Statement) → IsStated tokens s → is_line tokens ≡ true
stated_line _ _ (view name h) = part_line (codes "view" ∷ name ∷ []) (omega arith) (words_part (codes "view" ∷ name ∷ []) (rw (name_word name h) refl))
stated_line _ _ (lattice file h) = part_line (codes "lattice" ∷ file ∷ []) (omega arith) (words_part (codes "lattice" ∷ file ∷ []) (rw ((and_parts (is_word file) (nat_le (length file) 255) h).0) refl))
stated_line _ _ (var d h) =
    let parts = and_parts (is_variable_name d.name) (nat_lt 0 (length d.values) && list_all is_value_name d.values) h in
    let values = and_parts (nat_lt 0 (length d.values)) (list_all is_value_name d.values) parts.1 in
    let words = and_from (is_word d.name) (list_all is_word d.values) (name_word d.name (and_parts (is_name d.name) _ parts.0).0) (values_words d.values values.1) in
    part_line (var_tokens d) (omega arith) (words_part (var_tokens d) words)
stated_line _ _ (init tokens guard g) =
    part_line (codes "init" ∷ tokens) (omega arith) (both_parts (codes "init" ∷ []) tokens (word_part (codes "init") refl) (spelled_part Sum depth_limit tokens guard g))
stated_line _ _ (prop name value tokens guard n v g) =
    let front : List (List ℕ) = codes "prop" ∷ name ∷ value ∷ codes "when" ∷ [] in
    part_line (codes "prop" ∷ name ∷ value ∷ codes "when" ∷ tokens) (omega arith)
    (both_parts front tokens (words_part front (rw (name_word name n, name_word value v) refl)) (spelled_part Sum depth_limit tokens guard g))
stated_line _ _ (command name value tokens more guard action n v g a) =
    let front : List (List ℕ) = codes "command" ∷ name ∷ codes "with" ∷ value ∷ codes "when" ∷ [] in
    let back = subst IsLinePart (sym a.spelled) (actions_are_line_parts action a.named) in
    part_line (codes "command" ∷ name ∷ codes "with" ∷ value ∷ codes "when" ∷ tokens ++ codes "do" ∷ more) (omega arith)
    (both_parts front (tokens ++ codes "do" ∷ more) (words_part front (rw (name_word name n, name_word value v) refl))
    (both_parts tokens (codes "do" ∷ more) (spelled_part Sum depth_limit tokens guard g) (both_parts (codes "do" ∷ []) more (word_part (codes "do") refl) back)))

-- so are those of faultless statements
faultless_lines : (before ss : List Statement) → AreFaultless view_format spelling before ss → list_all is_line (map spelling ss) ≡ true
faultless_lines before [] h = refl
faultless_lines before (s ∷ more) h = and_from (is_line (spelling s)) (list_all is_line (map spelling more)) (stated_line (spelling s) s h.0.due.stated) (faultless_lines (before ++ s ∷ []) more h.1)

module _ (v : ViewValue) (sound : is_sound v ≡ true) (writable : is_writable v ≡ true) (text : List ℕ) (e : text ≡ canonical (view_lines v)) where
  all_lines : list_all is_line (view_lines v) ≡ true
  all_lines = faultless_lines [] (statements_in v) (all_faultless v sound writable)

  -- the text is read again as the view
  pub text_reads_again : IsAccepted view_format (text_rows text) v
  text_reads_again = subst (λ (rows : List Row). IsAccepted view_format rows v) (sym (ap text_rows e ∙ canonical_is_cut (view_lines v) all_lines)) (reads_again v sound writable)

  -- and it has no fault, where no line is too long
  pub text_is_sound : list_all is_short (view_lines v) ≡ true → (limit : ℕ) → length text ≤ limit → text_fault limit text ≡ None
  text_is_sound short limit small = ap (text_fault limit) e ∙ canonical_is_sound (view_lines v) limit all_lines short (subst (λ (t : List ℕ). length t ≤ limit) e small)

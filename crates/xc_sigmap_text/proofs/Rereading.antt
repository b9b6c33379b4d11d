-- The lines of a canonical text can be cut again, and none is too long.
use Rattle.std.proofs.Common.{◌≡◌, ℕ, ◌==◌, true, false, ◌&&◌, ◌||◌, not, nat_lt, nat_le, List, [], ◌∷◌, ◌++◌, map, length, codes, refl, sym, ◌∙◌, ap, subst, arith}
use Rattle.std.specs.List.{list_all}
use Rattle.std.proofs.lemmas.Bool.{and_parts, and_from, lt-ltb, ne_eqb, both_ways}
use Rattle.xc_base.specs.Words.{is_word_byte, is_word, is_name, is_file_word}
use Rattle.xc_base.specs.Canonical.{canonical, is_token, run_together, are_apart, is_line}
use Rattle.xc_base.specs.Formats.{Row, IsAccepted}
use Rattle.xc_base.specs.Lines.{text_rows}
use Rattle.xc_base.specs.Text.{joins}
use Rattle.xc_base.proofs.CanonicalTexts.{canonical_is_cut}
use Rattle.xc_forms.specs.VariableNames.{is_variable_name, is_value_name}
use Rattle.xc_sigmap_lines.specs.declared.parts.Told.TheVariants.{Named, Constant}
use Rattle.xc_sigmap_lines.specs.declared.statement.Pair.{Pair}
use Rattle.xc_sigmap_lines.specs.declared.statement.Statement.{Statement}
use Rattle.xc_sigmap_lines.specs.declared.statement.Statement.TheVariants.{Map, Use, Var, Prop, Send, Tell, Stutter}
use Rattle.xc_sigmap_lines.specs.MapFiles.{MapValue, spelling, has_names, is_named_pair, pair_tokens, map_format}
use Rattle.xc_sigmap.specs.Sound.{is_sound}
use Rattle.xc_sigmap_text.specs.Printing.{statements_in, map_lines}
use Rattle.xc_sigmap_text.proofs.Restating.{AreFaultless}
use Rattle.xc_sigmap_text.proofs.Again.{all_faultless, reads_again}
use Rattle.xc_sigmap_lines.proofs.Tokens.{name_is_word, value_is_word}

-- a word byte is no other byte
no_word_byte : (b n : ℕ) → is_word_byte n ≡ false → is_word_byte b ≡ true → (b == n) ≡ false
no_word_byte b n h k = ne_eqb b n (λ (e : b ≡ n). both_ways (is_word_byte n) h (subst (λ (m : ℕ). is_word_byte m ≡ true) e k))

-- a word does not run together with `=`, nor `=` with what is behind it
byte_apart : (b : ℕ) → is_word_byte b ≡ true → joins b 61 ≡ false
byte_apart b h = rw (h, no_word_byte b 58 refl h, no_word_byte b 45 refl h, no_word_byte b 33 refl h)

bytes_apart : (w : List ℕ) → list_all is_word_byte w ≡ true → run_together w (codes "=") ≡ false
bytes_apart [] h = refl
bytes_apart (b ∷ []) h = byte_apart b (and_parts (is_word_byte b) true h).0
bytes_apart (b ∷ c ∷ more) h = bytes_apart (c ∷ more) (and_parts (is_word_byte b) (list_all is_word_byte (c ∷ more)) h).1

word_apart : (w : List ℕ) → is_word w ≡ true → run_together w (codes "=") ≡ false
word_apart w h = bytes_apart w (and_parts _ (list_all is_word_byte w) h).1

mark_apart : (w : List ℕ) → run_together (codes "=") w ≡ false
mark_apart [] = refl
mark_apart (c ∷ w) = refl

-- words are a line
words_tokens : (ts : List (List ℕ)) → list_all is_word ts ≡ true → list_all is_token ts ≡ true
words_tokens [] h = refl
words_tokens (t ∷ ts) h =
    let parts = and_parts (is_word t) (list_all is_word ts) h in
    and_from (is_token t) (list_all is_token ts) (rw parts.0) (words_tokens ts parts.1)

words_apart : (ts : List (List ℕ)) → list_all is_word ts ≡ true → are_apart ts ≡ true
words_apart [] h = refl
words_apart (t ∷ []) h = refl
words_apart (t ∷ u ∷ ts) h =
    let parts = and_parts (is_word t) (list_all is_word (u ∷ ts)) h in
    let rest = and_parts (is_word u) (list_all is_word ts) parts.1 in
    rw (parts.0, rest.0, words_apart (u ∷ ts) parts.1)

words_line : (t : List ℕ) (ts : List (List ℕ)) → list_all is_word (t ∷ ts) ≡ true → is_line (t ∷ ts) ≡ true
words_line t ts h =
    and_from _ _ (and_from _ _ (lt-ltb 0 (length (t ∷ ts)) (omega arith)) (words_tokens (t ∷ ts) h)) (words_apart (t ∷ ts) h)

-- pairs behind a word
pairs_tokens : (ps : List Pair) → list_all is_named_pair ps ≡ true → list_all is_token (pair_tokens ps) ≡ true
pairs_tokens [] h = refl
pairs_tokens (p ∷ ps) h =
    let parts = and_parts (is_named_pair p) (list_all is_named_pair ps) h in
    let words = and_parts (is_name p.from) (is_name p.to) parts.0 in
    rw (name_is_word p.from words.0, name_is_word p.to words.1, pairs_tokens ps parts.1)

pairs_apart : (w : List ℕ) (ps : List Pair) → is_word w ≡ true → list_all is_named_pair ps ≡ true → are_apart (w ∷ pair_tokens ps) ≡ true
pairs_apart w [] h k = refl
pairs_apart w (p ∷ ps) h k =
    let parts = and_parts (is_named_pair p) (list_all is_named_pair ps) k in
    let words = and_parts (is_name p.from) (is_name p.to) parts.0 in
    let from_word = name_is_word p.from words.0 in
    let to_word = name_is_word p.to words.1 in
    let first : ((is_word w && is_word p.from) || not (run_together w p.from)) ≡ true = rw (h, from_word) in
    let second : ((is_word p.from && is_word (codes "=")) || not (run_together p.from (codes "="))) ≡ true = rw (from_word, word_apart p.from from_word) in
    let third : ((is_word (codes "=") && is_word p.to) || not (run_together (codes "=") p.to)) ≡ true = ap not (mark_apart p.to) in
    and_from _ _ first (and_from _ _ second (and_from _ _ third (pairs_apart p.to ps to_word parts.1)))

-- values are words
values_words : (ws : List (List ℕ)) → list_all is_value_name ws ≡ true → list_all is_word ws ≡ true
values_words [] h = refl
values_words (w ∷ ws) h =
    let parts = and_parts (is_value_name w) (list_all is_value_name ws) h in
    and_from (is_word w) (list_all is_word ws) (value_is_word w parts.0) (values_words ws parts.1)

-- each statement with its names is a line
spelled_line : (s : Statement) → has_names s ≡ true → is_line (spelling s) ≡ true
spelled_line (Map name) h = words_line (codes "map") (name ∷ []) (rw (name_is_word name h))
spelled_line (Use u) h =
    let parts = and_parts (is_name u.name) (is_file_word u.file) h in
    words_line (codes "use") (u.name ∷ u.file ∷ []) (rw (name_is_word u.name parts.0, (and_parts (is_word u.file) (nat_le (length u.file) 255) parts.1).0))
spelled_line (Var d) h =
    let parts = and_parts (is_variable_name d.name) (nat_lt 0 (length d.values) && list_all is_value_name d.values) h in
    words_line (codes "var") (d.name ∷ d.values)
    (and_from (is_word d.name) (list_all is_word d.values) (name_is_word d.name (and_parts (is_name d.name) _ parts.0).0) (values_words d.values (and_parts _ _ parts.1).1))
spelled_line (Prop name) h = words_line (codes "prop") (name ∷ []) (rw (name_is_word name (and_parts (is_name name) _ h).0))
spelled_line (Send viewpoint variable source pairs) h =
    let parts = and_parts (is_name viewpoint && is_name variable && is_name source) (list_all is_named_pair pairs) h in
    let third = and_parts (is_name viewpoint && is_name variable) (is_name source) parts.0 in
    let second = and_parts (is_name viewpoint) (is_name variable) third.0 in
    let first_word = name_is_word viewpoint second.0 in
    let second_word = name_is_word variable second.1 in
    let third_word = name_is_word source third.1 in
    let tokens : list_all is_token (spelling (Send viewpoint variable source pairs)) ≡ true = rw (first_word, second_word, third_word, pairs_tokens pairs parts.1) in
    let apart : are_apart (spelling (Send viewpoint variable source pairs)) ≡ true = rw (first_word, second_word, third_word, pairs_apart source pairs third_word parts.1) in
    and_from _ _ (and_from _ _ (lt-ltb 0 (length (spelling (Send viewpoint variable source pairs))) (omega arith)) tokens) apart
spelled_line (Tell viewpoint prop (Named name)) h =
    let parts = and_parts (is_name viewpoint && is_name prop) (is_name name) h in
    let first = and_parts (is_name viewpoint) (is_name prop) parts.0 in
    words_line (codes "tell") (viewpoint ∷ prop ∷ name ∷ []) (rw (name_is_word viewpoint first.0, name_is_word prop first.1, name_is_word name parts.1))
spelled_line (Tell viewpoint prop (Constant value)) h =
    let parts = and_parts (is_name viewpoint && is_name prop) (is_name value) h in
    let first = and_parts (is_name viewpoint) (is_name prop) parts.0 in
    words_line (codes "tell") (viewpoint ∷ prop ∷ codes "as" ∷ value ∷ []) (rw (name_is_word viewpoint first.0, name_is_word prop first.1, name_is_word value parts.1))
spelled_line (Stutter viewpoint value) h =
    let parts = and_parts (is_name viewpoint) (is_name value) h in
    words_line (codes "stutter") (viewpoint ∷ value ∷ []) (rw (name_is_word viewpoint parts.0, name_is_word value parts.1))

-- so are all lines of a map
faultless_lines : (before ss : List Statement) → AreFaultless before ss → list_all is_line (map spelling ss) ≡ true
faultless_lines before [] h = refl
faultless_lines before (s ∷ more) h = and_from (is_line (spelling s)) (list_all is_line (map spelling more)) (spelled_line s h.0.due.named) (faultless_lines (before ++ s ∷ []) more h.1)

pub map_is_lines : (v : MapValue) → is_sound v ≡ true → list_all is_line (map_lines v) ≡ true
map_is_lines v h = faultless_lines [] (statements_in v) (all_faultless v h)

-- the text is read again as the map
pub text_reads_again : (v : MapValue) (text : List ℕ) → is_sound v ≡ true → text ≡ canonical (map_lines v) → IsAccepted map_format (text_rows text) v
text_reads_again v text h e =
    subst (λ (rows : List Row). IsAccepted map_format rows v)
    (sym (ap text_rows e ∙ canonical_is_cut (map_lines v) (map_is_lines v h))) (reads_again v h)

-- The lines of a canonical text, kind by kind.
use Rattle.std.proofs.Common.{◌≡◌, ℕ, suc, ◌+◌, ◌<◌, ◌≤◌, List, [], ◌∷◌, ◌++◌, map, length, get_or, drop, drop-cons, add-one, refl, ◌∙◌, ap, append_assoc}
use Rattle.std.proofs.lemmas.List.{drop_all, map-append}
use Rattle.xc_base.specs.Canonical.{canonical}
use Rattle.xc_forms.specs.declared.domain.Domain.{Domain}
use Rattle.xc_forms.specs.VariableLines.{var_tokens}
use Rattle.xc_forms.specs.PrintedLines.{printed, written}

-- the text of lines, and of others behind them
pub canonical-append : (xs ys : List (List (List ℕ))) → canonical (xs ++ ys) ≡ canonical xs ++ canonical ys
unfolding canonical
canonical-append [] ys = refl
canonical-append (x ∷ xs) ys = rw (canonical-append xs ys, append_assoc)

-- what the items from a place on are as text
pub printed_from : {X : Type 0} (tokens : X → List (List ℕ)) (xs : List X) (i : ℕ) (d : X) → i < length xs → printed tokens (drop i xs) ≡ printed tokens (get_or xs i d ∷ []) ++ printed tokens (drop (i + 1) xs)
unfolding printed
printed_from tokens xs i d h = rw (add-one, drop-cons xs i d) (canonical-append (tokens (get_or xs i d) ∷ []) (map tokens (drop (suc i) xs)))

pub printed_end : {X : Type 0} (tokens : X → List (List ℕ)) (xs : List X) (i : ℕ) → length xs ≤ i → printed tokens (drop i xs) ≡ []
unfolding printed canonical
printed_end tokens xs i h = rw (drop_all i xs h)

pub vars_from : (vars : List Domain) (i : ℕ) (d : Domain) → i < length vars → printed var_tokens (drop i vars) ≡ printed var_tokens (get_or vars i d ∷ []) ++ printed var_tokens (drop (i + 1) vars)
vars_from vars i d h = printed_from var_tokens vars i d h

pub vars_end : (vars : List Domain) (i : ℕ) → length vars ≤ i → printed var_tokens (drop i vars) ≡ []
vars_end vars i h = printed_end var_tokens vars i h

-- words from a place on
pub words_from : (words : List (List ℕ)) (i : ℕ) (d : List ℕ) → i < length words → drop i words ≡ get_or words i d ∷ drop (i + 1) words
words_from words i d h = rw add-one (drop-cons words i d h)

pub words_end : (words : List (List ℕ)) (i : ℕ) → length words ≤ i → drop i words ≡ []
words_end words i h = drop_all i words h

-- items that are said by statements, from a place on
pub written_from : {S X : Type 0} (spelling : S → List (List ℕ)) (say : X → S) (xs : List X) (i : ℕ) (d : X) → i < length xs → written spelling say (drop i xs) ≡ written spelling say (get_or xs i d ∷ []) ++ written spelling say (drop (i + 1) xs)
unfolding written
written_from spelling say xs i d h = rw (add-one, drop-cons xs i d) (canonical-append (spelling (say (get_or xs i d)) ∷ []) (map spelling (map say (drop (suc i) xs))))

pub written_end : {S X : Type 0} (spelling : S → List (List ℕ)) (say : X → S) (xs : List X) (i : ℕ) → length xs ≤ i → written spelling say (drop i xs) ≡ []
unfolding written canonical
written_end spelling say xs i h = rw (drop_all i xs h)

-- the items of one kind, and what stands behind them
pub written_before : {S X : Type 0} (spelling : S → List (List ℕ)) (say : X → S) (xs : List X) (ss : List S) → canonical (map spelling (map say xs ++ ss)) ≡ written spelling say xs ++ canonical (map spelling ss)
unfolding written
written_before spelling say xs ss = ap canonical (map-append spelling (map say xs) ss) ∙ canonical-append (map spelling (map say xs)) (map spelling ss)

-- variables are printed as the statements that say them
same_lines : {S : Type 0} (spelling : S → List (List ℕ)) (say : Domain → S) (vars : List Domain) → ((d : Domain) → spelling (say d) ≡ var_tokens d) → map var_tokens vars ≡ map spelling (map say vars)
same_lines spelling say [] same = refl
same_lines spelling say (d ∷ vars) same = rw (same d) (ap (λ (more : List (List (List ℕ))). var_tokens d ∷ more) (same_lines spelling say vars same))

pub vars_written : {S : Type 0} (spelling : S → List (List ℕ)) (say : Domain → S) (vars : List Domain) → ((d : Domain) → spelling (say d) ≡ var_tokens d) → printed var_tokens vars ≡ written spelling say vars
unfolding printed written
vars_written spelling say vars same = ap canonical (same_lines spelling say vars same)

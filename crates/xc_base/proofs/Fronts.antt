-- What was appended when writing stops.
use Rattle.std.proofs.Common.{◌≡◌, ◌<◌, ◌≤◌, ◌+◌, ℕ, List, [], ◌∷◌, ◌++◌, length, take, drop, Option, Some, None, Result, Ok, Err, OnErr, append_assoc, refl, sym, ◌∙◌, ap, arith}
use Rattle.std.proofs.lemmas.List.{take_at, take-append-le, take-append-drop, length-append, length-take}
use Rattle.std.specs.Io.KnownBytes.{Appends, Keeps}
use Rattle.xc_base.specs.Canonical.{spaced, canonical}
use Rattle.xc_base.specs.Fronts.{IsFront}
use Rattle.xc_base.specs.Names.{name_at}
use Rattle.xc_base.specs.Sinks.{AppendsFront}
use Rattle.xc_base.specs.Spacing.{gap_after}
use Rattle.xc_base.proofs.SpacedTokens.{spaced_next}

-- what holds the old text, and is the whole with some rest behind it
pub front_before : (old text new rest : List ℕ) → length old ≤ length new → new ++ rest ≡ old ++ text → IsFront text old new
front_before old text new rest keeps e = record {
  keeps = keeps;
  front = sym (ap (take (length new)) (sym e) ∙ take_at new rest (length new) refl);
}

-- a front of a text is one of a longer text
front_of_longer : (old text more new : List ℕ) → IsFront text old new → IsFront (text ++ more) old new
front_of_longer old text more new h = record {
  keeps = h.keeps;
  front =
      h.front
      ∙ sym (ap (take (length new)) (sym (append_assoc old text more))
      ∙ take-append-le (length new) (old ++ text) more (omega (arith, ap length h.front, length-take (length new) (old ++ text))));
}

-- a line of which a front of the tokens was written, and one that lacks its line feed
pub line_stops : (old new : List ℕ) (tokens : List (List ℕ)) → IsFront (spaced tokens) old new → IsFront (canonical (tokens ∷ [])) old new
unfolding canonical
line_stops old new tokens h = front_of_longer old (spaced tokens) (10 ∷ []) new h

pub line_lacks_its_end : {A E : Type 0} (r : Result A E) (old text new : List ℕ) (tokens : List (List ℕ)) → text ≡ old ++ spaced tokens → OnErr r (new ≡ text) → OnErr r (IsFront (canonical (tokens ∷ [])) old new)
unfolding canonical
line_lacks_its_end (Ok x) old text new tokens e f = tt
line_lacks_its_end (Err x) old text new tokens e f =
    front_before old (spaced tokens ++ 10 ∷ []) new (10 ∷ [])
    (omega (arith, ap length (f ∙ e), length-append old (spaced tokens)))
    (ap (λ (t : List ℕ). t ++ 10 ∷ []) (f ∙ e) ∙ append_assoc old (spaced tokens) (10 ∷ []))

pub token_lacks_its_blank : {A E : Type 0} (r : Result A E) (old text more new token : List ℕ) (ts : List (List ℕ)) (place : ℕ) → place < length ts → length old ≤ length text → text ++ spaced (drop place ts) ≡ old ++ spaced ts → token ≡ name_at ts place → more ≡ text ++ token → new ≡ more → OnErr r (IsFront (spaced ts) old new)
token_lacks_its_blank (Ok x) old text more new token ts place h keeps e is f g = tt
token_lacks_its_blank (Err x) old text more new token ts place h keeps e is f g =
    let gap : List ℕ = gap_after ts place in
    let rest : List ℕ = spaced (drop (place + 1) ts) in
    front_before old (spaced ts) new (gap ++ rest)
    (omega (arith, ap length (g ∙ f), length-append text token))
    (ap (λ (t : List ℕ). t ++ (gap ++ rest)) (g ∙ f)
    ∙ (append_assoc text token (gap ++ rest)
    ∙ (ap (λ (t : List ℕ). text ++ t) (ap (λ (u : List ℕ). u ++ (gap ++ rest)) is ∙ (sym (append_assoc (name_at ts place) gap rest) ∙ sym (spaced_next ts place h))) ∙ e)))

-- a write, and a flush behind it
pub wrote_front : (piece : List ℕ) (k : ℕ) (old mid new : Option (List ℕ)) → Appends old mid (take k piece) → Keeps mid new → AppendsFront piece old new
wrote_front piece k None mid new e f = tt
wrote_front piece k (Some old) None new e f = absurd e
wrote_front piece k (Some old) (Some mid) None e f = absurd f
wrote_front piece k (Some old) (Some mid) (Some new) e f =
    front_before old piece new (drop k piece)
    (omega (arith, ap length (f ∙ e), length-append old (take k piece)))
    (ap (λ (t : List ℕ). t ++ drop k piece) (f ∙ e)
    ∙ (append_assoc old (take k piece) (drop k piece) ∙ ap (λ (t : List ℕ). old ++ t) (take-append-drop k piece)))

-- nothing was written
pub kept_front : (piece : List ℕ) (old new : Option (List ℕ)) → Keeps old new → AppendsFront piece old new
kept_front piece None new e = tt
kept_front piece (Some old) None e = absurd e
kept_front piece (Some old) (Some new) e = record { keeps = omega (arith, ap length e); front = sym (take_at new piece (length new) refl) ∙ ap (λ (t : List ℕ). take (length new) (t ++ piece)) e }

-- One item more of a list that is searched for faults.
use Rattle.std.proofs.Common.{◌≡◌, ℕ, ◌+◌, ◌<◌, List, [], ◌∷◌, ◌++◌, length, get_or, drop, drop-cons, add-one, refl, sym, ◌∙◌, ap, subst, Some, None, Result, Ok, Err}
use Rattle.std.specs.List.{flat_map}
use Rattle.std.specs.Result.{IsErrAnd}
use Rattle.xc_forms.specs.declared.domain.Domain.{Domain}
use Rattle.xc_view.specs.ViewFiles.{ViewValue}
use Rattle.xc_view.specs.declared.lines.PropLine.{PropLine}
use Rattle.xc_view.specs.declared.lines.Command.{Command}
use Rattle.xc_sigmap_lines.specs.MapFiles.{MapValue}
use Rattle.xc_sigmap_lines.specs.declared.parts.Carry.{Carry}
use Rattle.xc_sigmap_lines.specs.declared.parts.SendLine.{SendLine}
use Rattle.xc_sigmap_lines.specs.declared.parts.Stutter.{Stutter}
use Rattle.xc_sigmap_lines.specs.declared.parts.Tell.{Tell}
use Rattle.xc_merge.specs.Merges.{Viewpoint}
use Rattle.xc_merge.specs.Faults.{first_of, IsFirstOf}
use Rattle.xc_merge.specs.Finding.{Finds, value_fault, name_fault, prop_values, command_values, pair_names, sent_by, sent, told_by, told, stuttered_by, stuttered, unfed_by, unfed}
use Rattle.xc_merge.specs.declared.fault.MergeFault.{MergeFault}
use Rattle.xc_merge.specs.declared.fault.MergeFault.TheVariants.{UnknownValue, UnknownName, NotTotal, Elements, NoInitial, Initial, Memory}

front : (xs ys : List MergeFault) (fault : MergeFault) → first_of xs None ≡ Some fault → first_of (xs ++ ys) None ≡ Some fault
front [] ys fault e = cc
front (x ∷ xs) ys fault e = e

-- the first of some faults is the first of them and those behind them
pub first_in_front : (xs ys : List MergeFault) (fault : MergeFault) → IsFirstOf xs fault → IsFirstOf (xs ++ ys) fault
first_in_front xs ys (UnknownValue viewpoint value) h = front xs ys (UnknownValue viewpoint value) h
first_in_front xs ys (UnknownName viewpoint name) h = front xs ys (UnknownName viewpoint name) h
first_in_front xs ys (NotTotal viewpoint name) h = front xs ys (NotTotal viewpoint name) h
first_in_front xs ys (Elements count) h = h
first_in_front xs ys NoInitial h = h
first_in_front xs ys (Initial count) h = h
first_in_front xs ys Memory h = h

-- an error that is passed on is the first of the faults where it was that
pub err_is : {X : Type 0} (faults : List MergeFault) (fault : MergeFault) → IsFirstOf faults fault → (result : Result X MergeFault) → IsErrAnd result (λ other. other ≡ fault) → Finds faults result
err_is faults fault h (Ok x) e = absurd e
err_is faults fault h (Err other) e = let P : MergeFault → Type 0 = λ f. IsFirstOf faults f in subst P (sym e) h

-- the faults of the items from a place on: those of that item, and those of the items behind it
items_from : {X : Type 0} (f : X → List MergeFault) (xs : List X) (i : ℕ) (d : X) → i < length xs → flat_map f (drop i xs) ≡ f (get_or xs i d) ++ flat_map f (drop (i + 1) xs)
items_from f xs i d h = rw (add-one, drop-cons xs i d) refl

items_more : {X : Type 0} (f : X → List MergeFault) (xs : List X) (i : ℕ) (d : X) → i < length xs → f (get_or xs i d) ≡ [] → flat_map f (drop (i + 1) xs) ≡ flat_map f (drop i xs)
items_more f xs i d h e = sym (items_from f xs i d h ∙ ap (λ (front : List MergeFault). front ++ flat_map f (drop (i + 1) xs)) e)

items_stop : {X : Type 0} (f : X → List MergeFault) (xs : List X) (i : ℕ) (d : X) (fault : MergeFault) → i < length xs → IsFirstOf (f (get_or xs i d)) fault → IsFirstOf (flat_map f (drop i xs)) fault
items_stop f xs i d fault h first =
    let P : List MergeFault → Type 0 = λ faults. IsFirstOf faults fault in
    subst P (sym (items_from f xs i d h)) (first_in_front (f (get_or xs i d)) (flat_map f (drop (i + 1) xs)) fault first)

pub prop_values_more : (viewpoint : List ℕ) (names : List (List ℕ)) (items : List PropLine) (i : ℕ) (d : PropLine) → i < length items → value_fault viewpoint names (get_or items i d).value ≡ [] → prop_values viewpoint names (drop (i + 1) items) ≡ prop_values viewpoint names (drop i items)
unfolding prop_values
prop_values_more viewpoint names items i d h e = items_more (λ (x : PropLine). value_fault viewpoint names x.value) items i d h e

pub prop_values_stop : (viewpoint : List ℕ) (names : List (List ℕ)) (items : List PropLine) (i : ℕ) (d : PropLine) (fault : MergeFault) (all : List MergeFault) → i < length items → prop_values viewpoint names (drop i items) ≡ all → IsFirstOf (value_fault viewpoint names (get_or items i d).value) fault → IsFirstOf all fault
unfolding prop_values
prop_values_stop viewpoint names items i d fault all h same first =
    let P : List MergeFault → Type 0 = λ faults. IsFirstOf faults fault in
    subst P same (items_stop (λ (x : PropLine). value_fault viewpoint names x.value) items i d fault h first)

pub prop_values_none : (viewpoint : List ℕ) (names : List (List ℕ)) → prop_values viewpoint names [] ≡ []
unfolding prop_values
prop_values_none viewpoint names = refl

pub ruleset prop_values_steps = (prop_values_more, prop_values_stop, prop_values_none)

pub command_values_more : (viewpoint : List ℕ) (names : List (List ℕ)) (items : List Command) (i : ℕ) (d : Command) → i < length items → value_fault viewpoint names (get_or items i d).value ≡ [] → command_values viewpoint names (drop (i + 1) items) ≡ command_values viewpoint names (drop i items)
unfolding command_values
command_values_more viewpoint names items i d h e = items_more (λ (x : Command). value_fault viewpoint names x.value) items i d h e

pub command_values_stop : (viewpoint : List ℕ) (names : List (List ℕ)) (items : List Command) (i : ℕ) (d : Command) (fault : MergeFault) (all : List MergeFault) → i < length items → command_values viewpoint names (drop i items) ≡ all → IsFirstOf (value_fault viewpoint names (get_or items i d).value) fault → IsFirstOf all fault
unfolding command_values
command_values_stop viewpoint names items i d fault all h same first =
    let P : List MergeFault → Type 0 = λ faults. IsFirstOf faults fault in
    subst P same (items_stop (λ (x : Command). value_fault viewpoint names x.value) items i d fault h first)

pub command_values_none : (viewpoint : List ℕ) (names : List (List ℕ)) → command_values viewpoint names [] ≡ []
unfolding command_values
command_values_none viewpoint names = refl

pub ruleset command_values_steps = (command_values_more, command_values_stop, command_values_none)

pub pair_names_more : (viewpoint : List ℕ) (names : List (List ℕ)) (items : List Carry) (i : ℕ) (d : Carry) → i < length items → name_fault viewpoint names (get_or items i d).word ≡ [] → pair_names viewpoint names (drop (i + 1) items) ≡ pair_names viewpoint names (drop i items)
unfolding pair_names
pair_names_more viewpoint names items i d h e = items_more (λ (x : Carry). name_fault viewpoint names x.word) items i d h e

pub pair_names_stop : (viewpoint : List ℕ) (names : List (List ℕ)) (items : List Carry) (i : ℕ) (d : Carry) (fault : MergeFault) (all : List MergeFault) → i < length items → pair_names viewpoint names (drop i items) ≡ all → IsFirstOf (name_fault viewpoint names (get_or items i d).word) fault → IsFirstOf all fault
unfolding pair_names
pair_names_stop viewpoint names items i d fault all h same first =
    let P : List MergeFault → Type 0 = λ faults. IsFirstOf faults fault in
    subst P same (items_stop (λ (x : Carry). name_fault viewpoint names x.word) items i d fault h first)

pub pair_names_none : (viewpoint : List ℕ) (names : List (List ℕ)) → pair_names viewpoint names [] ≡ []
unfolding pair_names
pair_names_none viewpoint names = refl

pub ruleset pair_names_steps = (pair_names_more, pair_names_stop, pair_names_none)

pub sent_more : (viewpoint : List ℕ) (v : ℕ) (view : ViewValue) (items : List SendLine) (i : ℕ) (d : SendLine) → i < length items → sent_by viewpoint v view (get_or items i d) ≡ [] → sent viewpoint v view (drop (i + 1) items) ≡ sent viewpoint v view (drop i items)
unfolding sent
sent_more viewpoint v view items i d h e = items_more (λ (x : SendLine). sent_by viewpoint v view x) items i d h e

pub sent_stop : (viewpoint : List ℕ) (v : ℕ) (view : ViewValue) (items : List SendLine) (i : ℕ) (d : SendLine) (fault : MergeFault) (all : List MergeFault) → i < length items → sent viewpoint v view (drop i items) ≡ all → IsFirstOf (sent_by viewpoint v view (get_or items i d)) fault → IsFirstOf all fault
unfolding sent
sent_stop viewpoint v view items i d fault all h same first =
    let P : List MergeFault → Type 0 = λ faults. IsFirstOf faults fault in
    subst P same (items_stop (λ (x : SendLine). sent_by viewpoint v view x) items i d fault h first)

pub sent_none : (viewpoint : List ℕ) (v : ℕ) (view : ViewValue) → sent viewpoint v view [] ≡ []
unfolding sent
sent_none viewpoint v view = refl

pub ruleset sent_steps = (sent_more, sent_stop, sent_none)

pub told_more : (viewpoint : List ℕ) (v : ℕ) (p : Viewpoint) (items : List Tell) (i : ℕ) (d : Tell) → i < length items → told_by viewpoint v p (get_or items i d) ≡ [] → told viewpoint v p (drop (i + 1) items) ≡ told viewpoint v p (drop i items)
unfolding told
told_more viewpoint v p items i d h e = items_more (λ (x : Tell). told_by viewpoint v p x) items i d h e

pub told_stop : (viewpoint : List ℕ) (v : ℕ) (p : Viewpoint) (items : List Tell) (i : ℕ) (d : Tell) (fault : MergeFault) (all : List MergeFault) → i < length items → told viewpoint v p (drop i items) ≡ all → IsFirstOf (told_by viewpoint v p (get_or items i d)) fault → IsFirstOf all fault
unfolding told
told_stop viewpoint v p items i d fault all h same first =
    let P : List MergeFault → Type 0 = λ faults. IsFirstOf faults fault in
    subst P same (items_stop (λ (x : Tell). told_by viewpoint v p x) items i d fault h first)

pub told_none : (viewpoint : List ℕ) (v : ℕ) (p : Viewpoint) → told viewpoint v p [] ≡ []
unfolding told
told_none viewpoint v p = refl

pub ruleset told_steps = (told_more, told_stop, told_none)

pub stuttered_more : (viewpoint : List ℕ) (v : ℕ) (names : List (List ℕ)) (items : List Stutter) (i : ℕ) (d : Stutter) → i < length items → stuttered_by viewpoint v names (get_or items i d) ≡ [] → stuttered viewpoint v names (drop (i + 1) items) ≡ stuttered viewpoint v names (drop i items)
unfolding stuttered
stuttered_more viewpoint v names items i d h e = items_more (λ (x : Stutter). stuttered_by viewpoint v names x) items i d h e

pub stuttered_stop : (viewpoint : List ℕ) (v : ℕ) (names : List (List ℕ)) (items : List Stutter) (i : ℕ) (d : Stutter) (fault : MergeFault) (all : List MergeFault) → i < length items → stuttered viewpoint v names (drop i items) ≡ all → IsFirstOf (stuttered_by viewpoint v names (get_or items i d)) fault → IsFirstOf all fault
unfolding stuttered
stuttered_stop viewpoint v names items i d fault all h same first =
    let P : List MergeFault → Type 0 = λ faults. IsFirstOf faults fault in
    subst P same (items_stop (λ (x : Stutter). stuttered_by viewpoint v names x) items i d fault h first)

pub stuttered_none : (viewpoint : List ℕ) (v : ℕ) (names : List (List ℕ)) → stuttered viewpoint v names [] ≡ []
unfolding stuttered
stuttered_none viewpoint v names = refl

pub ruleset stuttered_steps = (stuttered_more, stuttered_stop, stuttered_none)

pub unfed_more : (viewpoint : List ℕ) (plan : MapValue) (v : ℕ) (items : List Domain) (i : ℕ) (d : Domain) → i < length items → unfed_by viewpoint plan v (get_or items i d) ≡ [] → unfed viewpoint plan v (drop (i + 1) items) ≡ unfed viewpoint plan v (drop i items)
unfolding unfed
unfed_more viewpoint plan v items i d h e = items_more (λ (x : Domain). unfed_by viewpoint plan v x) items i d h e

pub unfed_stop : (viewpoint : List ℕ) (plan : MapValue) (v : ℕ) (items : List Domain) (i : ℕ) (d : Domain) (fault : MergeFault) (all : List MergeFault) → i < length items → unfed viewpoint plan v (drop i items) ≡ all → IsFirstOf (unfed_by viewpoint plan v (get_or items i d)) fault → IsFirstOf all fault
unfolding unfed
unfed_stop viewpoint plan v items i d fault all h same first =
    let P : List MergeFault → Type 0 = λ faults. IsFirstOf faults fault in
    subst P same (items_stop (λ (x : Domain). unfed_by viewpoint plan v x) items i d fault h first)

pub unfed_none : (viewpoint : List ℕ) (plan : MapValue) (v : ℕ) → unfed viewpoint plan v [] ≡ []
unfolding unfed
unfed_none viewpoint plan v = refl

pub ruleset unfed_steps = (unfed_more, unfed_stop, unfed_none)

-- The faults of a viewpoint, part after part.
use Rattle.std.proofs.Common.{◌≡◌, ℕ, zero, suc, ◌+◌, ◌-◌, ◌<◌, ◌≤◌, ◌==◌, List, [], ◌∷◌, ◌++◌, map, length, get_or, Option, Some, None, Result, Ok, Err, IfErr, refl, sym, ◌∙◌, ap, subst, arith, append_assoc}
use Rattle.std.specs.List.{filter, find, flat_map, range_with_len}
use Rattle.std.specs.Option.{is_none}
use Rattle.std.specs.Result.{IsErrAnd}
use Rattle.xc_base.specs.Names.{name_at}
use Rattle.xc_forms.specs.declared.domain.Domain.{Domain}
use Rattle.xc_expr.specs.Called.{is_called}
use Rattle.xc_view.specs.ViewFiles.{PropValue, CommandValue, ViewValue}
use Rattle.xc_view.specs.Parts.{prop_value, command_value}
use Rattle.xc_view.specs.declared.lines.PropLine.{PropLine}
use Rattle.xc_view.specs.declared.lines.Command.{Command}
use Rattle.xc_sigmap_lines.specs.MapFiles.{MapValue, use_names}
use Rattle.xc_sigmap_lines.specs.declared.parts.Use.{Use}
use Rattle.xc_sigmap_lines.specs.declared.parts.Carry.{Carry}
use Rattle.xc_sigmap_lines.specs.declared.parts.SendLine.{SendLine}
use Rattle.xc_sigmap_lines.specs.declared.parts.Stutter.{Stutter}
use Rattle.xc_sigmap_lines.specs.declared.parts.Tell.{Tell}
use Rattle.xc_lattice.specs.declared.lattice.Lattice.{Lattice}
use Rattle.xc_view.specs.declared.view.View.{View}
use Rattle.xc_sigmap.specs.declared.sigmap.SigMap.{SigMap}
use Rattle.xc_merge.specs.Merges.{Merge, Viewpoint, viewpoint_at, name_of}
use Rattle.xc_merge.specs.Merging.{viewpoint_of, merge_in}
use Rattle.xc_merge.specs.MergedFrames.{line_of}
use Rattle.xc_merge.specs.Faults.{IsFirstOf, missing, told_faults, unknown_in_line, is_fed, value_faults, send_faults, tell_faults, stutter_faults, variable_faults, prop_faults, viewpoint_faults, all_faults}
use Rattle.xc_merge.specs.Finding.{Finds, value_fault, name_fault, prop_values, command_values, pair_names, sent, told, stuttered, unfed, untold, faults_from, named_faults, told_or_stuttered_faults, total_faults}
use Rattle.xc_merge.specs.declared.fault.MergeFault.{MergeFault}
use Rattle.xc_merge.specs.declared.fault.MergeFault.TheVariants.{UnknownValue, UnknownName, NotTotal}
use Rattle.xc_merge.proofs.Steps.{first_in_front, err_is}
use Rattle.xc_merge.proofs.Searching.{found_among, lacking_among, named_values, missing_items, picked_items, mapped_items, refused_items, flat_mapped, missing_both}
use Rattle.xc_merge.proofs.Carrying.{range_more}

-- the name of a viewpoint
pub name_is : (plan : MapValue) (v : ℕ) (d : Use) → v < length plan.uses → (get_or plan.uses v d).name ≡ name_of plan v
name_is plan v d h = named plan.uses v d h
  where
    named : (uses : List Use) (v : ℕ) (d : Use) → v < length uses → (get_or uses v d).name ≡ name_at (use_names uses) v
    named [] v d h = absurd (omega arith)
    named (u ∷ uses) zero d h = refl
    named (u ∷ uses) (suc v) d h = named uses v d (omega arith)

line_values : (lines : List PropLine) → map (λ (l : PropValue). l.value) (map prop_value lines) ≡ map (λ (l : PropLine). l.value) lines
line_values [] = refl
line_values (l ∷ lines) = ap (λ (words : List (List ℕ)). l.value ∷ words) (line_values lines)

commanded_values : (commands : List Command) → map (λ (c : CommandValue). c.value) (map command_value commands) ≡ map (λ (c : Command). c.value) commands
commanded_values [] = refl
commanded_values (c ∷ commands) = ap (λ (words : List (List ℕ)). c.value ∷ words) (commanded_values commands)

-- the faults of values: those of the lines, and then those of the commands
pub values_are : (plan : MapValue) (v : ℕ) (p : Viewpoint) (lines : List PropLine) (commands : List Command) → map prop_value lines ≡ p.view.props → map command_value commands ≡ p.view.commands
    → prop_values (name_of plan v) p.lattice.names lines ++ command_values (name_of plan v) p.lattice.names commands ≡ value_faults plan v p
unfolding prop_values command_values
values_are plan v p lines commands same_lines same_commands =
    let words : List (List ℕ) = map (λ (l : PropLine). l.value) lines in
    let more : List (List ℕ) = map (λ (c : Command). c.value) commands in
    let f : List ℕ → MergeFault = UnknownValue (name_of plan v) in
    let first : map (λ (l : PropValue). l.value) p.view.props ≡ words = ap (map (λ (l : PropValue). l.value)) (sym same_lines) ∙ line_values lines in
    let second : map (λ (c : CommandValue). c.value) p.view.commands ≡ more = ap (map (λ (c : CommandValue). c.value)) (sym same_commands) ∙ commanded_values commands in
    sym (rw (first, second) (missing_both f p.lattice.names words more
    ∙ ap (λ (faults : List MergeFault). faults ++ map f (missing p.lattice.names more)) (missing_items f p.lattice.names (λ (l : PropLine). l.value) lines)
    ∙ ap (λ (faults : List MergeFault). flat_map (λ (l : PropLine). value_fault (name_of plan v) p.lattice.names l.value) lines ++ faults) (missing_items f p.lattice.names (λ (c : Command). c.value) commands)))

pub sent_are : (plan : MapValue) (v : ℕ) (p : Viewpoint) → sent (name_of plan v) v p.view plan.sends ≡ send_faults plan v p
unfolding sent
sent_are plan v p =
    sym (flat_mapped (UnknownName (name_of plan v)) (unknown_in_line p.view) (filter (λ (l : SendLine). l.viewpoint == v) plan.sends)
    ∙ picked_items (λ (l : SendLine). map (UnknownName (name_of plan v)) (unknown_in_line p.view l)) (λ (l : SendLine). l.viewpoint == v) plan.sends)

pub told_are : (plan : MapValue) (v : ℕ) (p : Viewpoint) → told (name_of plan v) v p plan.tells ≡ tell_faults plan v p
unfolding told
told_are plan v p = sym (picked_items (λ (l : Tell). told_faults (name_of plan v) p l.told) (λ (l : Tell). l.viewpoint == v) plan.tells)

pub stuttered_are : (plan : MapValue) (v : ℕ) (p : Viewpoint) → stuttered (name_of plan v) v p.lattice.names plan.stutters ≡ stutter_faults plan v p
unfolding stuttered
stuttered_are plan v p =
    sym (missing_items (UnknownValue (name_of plan v)) p.lattice.names (λ (l : Stutter). l.value) (filter (λ (l : Stutter). l.viewpoint == v) plan.stutters)
    ∙ picked_items (λ (l : Stutter). value_fault (name_of plan v) p.lattice.names l.value) (λ (l : Stutter). l.viewpoint == v) plan.stutters)

pub unfed_are : (plan : MapValue) (v : ℕ) (p : Viewpoint) → unfed (name_of plan v) plan v p.view.vars ≡ variable_faults plan v p
unfolding unfed
unfed_are plan v p = sym (refused_items (λ (d : Domain). NotTotal (name_of plan v) d.name) (is_fed plan v) p.view.vars)

pub untold_are : (plan : MapValue) (v : ℕ) → untold (name_of plan v) plan v 0 (length plan.props) ≡ prop_faults plan v
unfolding untold
untold_are plan v = sym (mapped_items (λ k. NotTotal (name_of plan v) (name_at plan.props k)) (λ k. is_none (line_of plan v k)) (range_with_len 0 (length plan.props)))

-- what a line names, where its variable is found and where it is not
module _ (viewpoint : List ℕ) (view : ViewValue) (line : SendLine) (vars : List Domain) (same : vars ≡ view.vars) where
  found_in : (o : Option Domain) → o ≡ find (is_called line.variable) vars → find (is_called line.variable) view.vars ≡ o
  found_in o e = ap (find (is_called line.variable)) (sym same) ∙ sym e

  pub line_known : {X : Type 0} (pairs : List Carry) (d : Domain) (result : Result X MergeFault) → pairs ≡ line.pairs → Some d ≡ find (is_called line.variable) vars → Finds (pair_names viewpoint d.values pairs) result
      → Finds (map (UnknownName viewpoint) (unknown_in_line view line)) result
  unfolding pair_names
  line_known pairs d result all e h =
      let P : List MergeFault → Type 0 = λ faults. Finds faults result in
      let found : find (is_called line.variable) view.vars ≡ Some d = found_in (Some d) e in
      subst P (ap (flat_map (λ (c : Carry). name_fault viewpoint d.values c.word)) all
      ∙ sym (rw (found_among view.vars line.variable d found, named_values view.vars line.variable d found) (missing_items (UnknownName viewpoint) d.values (λ (c : Carry). c.word) line.pairs))) h

  pub line_unknown : None ≡ find (is_called line.variable) vars → map (UnknownName viewpoint) (unknown_in_line view line) ≡ UnknownName viewpoint line.variable ∷ []
  line_unknown e = rw (lacking_among view.vars line.variable (found_in None e)) refl

-- of two parts: the first has a fault, or the second where the first has none
pub in_front : (front back all : List MergeFault) (fault : MergeFault) → front ++ back ≡ all → IsFirstOf front fault → IsFirstOf all fault
in_front front back all fault same h =
    let P : List MergeFault → Type 0 = λ faults. IsFirstOf faults fault in
    subst P same (first_in_front front back fault h)

pub behind : (front back all : List MergeFault) (fault : MergeFault) → front ++ back ≡ all → front ≡ [] → IsFirstOf back fault → IsFirstOf all fault
behind front back all fault same e h =
    let P : List MergeFault → Type 0 = λ faults. IsFirstOf faults fault in
    subst P (sym (ap (λ (faults : List MergeFault). faults ++ back) e) ∙ same) h

-- what comes of the second of two parts, where the first has no fault
pub rest_of : {X : Type 0} (front back all : List MergeFault) (result : Result X MergeFault) → front ++ back ≡ all → front ≡ [] → Finds back result → Finds all result
rest_of front back all result same e h =
    let P : List MergeFault → Type 0 = λ faults. Finds faults result in
    subst P (sym (ap (λ (faults : List MergeFault). faults ++ back) e) ∙ same) h

-- the faults of a viewpoint in their three parts
three_parts : (plan : MapValue) (v : ℕ) (p : Viewpoint) → named_faults plan v p ++ (told_or_stuttered_faults plan v p ++ total_faults plan v p) ≡ viewpoint_faults plan v p
three_parts plan v p =
    let named : List MergeFault = named_faults plan v p in
    sym (append_assoc named (told_or_stuttered_faults plan v p) (total_faults plan v p))
    ∙ ap (λ (faults : List MergeFault). faults ++ total_faults plan v p) (sym (append_assoc named (tell_faults plan v p) (stutter_faults plan v p)))
    ∙ sym (append_assoc (named ++ tell_faults plan v p ++ stutter_faults plan v p) (variable_faults plan v p) (prop_faults plan v))

-- the faults of a viewpoint whose line in the map is u
module _ (plan : MapValue) (v : ℕ) (p : Viewpoint) (uses : List Use) (u : Use) (there : v < length plan.uses) (same : uses ≡ plan.uses) (is : u ≡ get_or uses v u) where
  called : u.name ≡ name_of plan v
  called = ap (λ (x : Use). x.name) (is ∙ ap (λ (list : List Use). get_or list v u) same) ∙ name_is plan v u there

  module _ (tells : List Tell) (same_tells : tells ≡ plan.tells) where
    told_is : told u.name v p tells ≡ tell_faults plan v p
    told_is = ap (told u.name v p) same_tells ∙ rw called (told_are plan v p)

    pub told_stop : {X : Type 0} (fault : MergeFault) → IsFirstOf (told u.name v p tells) fault → (result : Result X MergeFault) → IsErrAnd result (λ other. other ≡ fault) → Finds (told_or_stuttered_faults plan v p) result
    told_stop fault h = err_is (told_or_stuttered_faults plan v p) fault
        (in_front (told u.name v p tells) (stutter_faults plan v p) (told_or_stuttered_faults plan v p) fault (ap (λ (faults : List MergeFault). faults ++ stutter_faults plan v p) told_is) h)

    pub told_rest : {X : Type 0} (names : List (List ℕ)) (stutters : List Stutter) (result : Result X MergeFault) → names ≡ p.lattice.names → stutters ≡ plan.stutters → told u.name v p tells ≡ []
        → Finds (stuttered u.name v names stutters) result → Finds (told_or_stuttered_faults plan v p) result
    told_rest names stutters result same_names same_stutters e h =
        rest_of (tell_faults plan v p) (stuttered u.name v names stutters) (told_or_stuttered_faults plan v p) result
        (ap (λ (faults : List MergeFault). tell_faults plan v p ++ faults) (rw (same_names, same_stutters, called) (stuttered_are plan v p)))
        (sym told_is ∙ e) h

  module _ (vars : List Domain) (same_vars : vars ≡ p.view.vars) where
    unfed_is : unfed u.name plan v vars ≡ variable_faults plan v p
    unfed_is = ap (unfed u.name plan v) same_vars ∙ rw called (unfed_are plan v p)

    pub total_stop : {X : Type 0} (fault : MergeFault) → IsFirstOf (unfed u.name plan v vars) fault → (result : Result X MergeFault) → IsErrAnd result (λ other. other ≡ fault) → Finds (total_faults plan v p) result
    total_stop fault h = err_is (total_faults plan v p) fault
        (in_front (unfed u.name plan v vars) (prop_faults plan v) (total_faults plan v p) fault (ap (λ (faults : List MergeFault). faults ++ prop_faults plan v) unfed_is) h)

    pub total_rest : {X : Type 0} (result : Result X MergeFault) → unfed u.name plan v vars ≡ [] → Finds (untold u.name plan v 0 (length plan.props)) result → Finds (total_faults plan v p) result
    total_rest result e h =
        rest_of (variable_faults plan v p) (untold u.name plan v 0 (length plan.props)) (total_faults plan v p) result
        (ap (λ (faults : List MergeFault). variable_faults plan v p ++ faults) (rw called (untold_are plan v)))
        (sym unfed_is ∙ e) h

  module _ (names : List (List ℕ)) (lines : List PropLine) (commands : List Command) (same_names : names ≡ p.lattice.names) (same_lines : map prop_value lines ≡ p.view.props) (same_commands : map command_value commands ≡ p.view.commands) where
    values_both : prop_values u.name names lines ++ command_values u.name names commands ≡ value_faults plan v p
    values_both = rw (same_names, called) (values_are plan v p lines commands same_lines same_commands)

    named_first : prop_values u.name names lines ++ (command_values u.name names commands ++ send_faults plan v p) ≡ named_faults plan v p
    named_first = sym (append_assoc (prop_values u.name names lines) (command_values u.name names commands) (send_faults plan v p)) ∙ ap (λ (faults : List MergeFault). faults ++ send_faults plan v p) values_both

    pub named_by_lines : {X : Type 0} (fault : MergeFault) → IsFirstOf (prop_values u.name names lines) fault → (result : Result X MergeFault) → IsErrAnd result (λ other. other ≡ fault) → Finds (named_faults plan v p) result
    named_by_lines fault h = err_is (named_faults plan v p) fault
        (in_front (prop_values u.name names lines) (command_values u.name names commands ++ send_faults plan v p) (named_faults plan v p) fault named_first h)

    pub named_by_commands : {X : Type 0} (fault : MergeFault) → prop_values u.name names lines ≡ [] → IsFirstOf (command_values u.name names commands) fault → (result : Result X MergeFault) → IsErrAnd result (λ other. other ≡ fault) → Finds (named_faults plan v p) result
    named_by_commands fault e h = err_is (named_faults plan v p) fault
        (behind (prop_values u.name names lines) (command_values u.name names commands ++ send_faults plan v p) (named_faults plan v p) fault named_first e
        (first_in_front (command_values u.name names commands) (send_faults plan v p) fault h))

    pub named_by_sends : {X : Type 0} (sends : List SendLine) (result : Result X MergeFault) → sends ≡ plan.sends → prop_values u.name names lines ≡ [] → command_values u.name names commands ≡ []
        → Finds (sent u.name v p.view sends) result → Finds (named_faults plan v p) result
    named_by_sends sends result same_sends e g h =
        rest_of (value_faults plan v p) (sent u.name v p.view sends) (named_faults plan v p) result
        (ap (λ (faults : List MergeFault). value_faults plan v p ++ faults) (ap (sent u.name v p.view) same_sends ∙ rw called (sent_are plan v p)))
        (sym values_both ∙ ap (λ (faults : List MergeFault). faults ++ command_values u.name names commands) e ∙ g) h

-- the three parts of the faults of a viewpoint
pub viewpoint_stop : {X : Type 0} (plan : MapValue) (v : ℕ) (p : Viewpoint) (fault : MergeFault) → IsFirstOf (named_faults plan v p) fault → (result : Result X MergeFault) → IsErrAnd result (λ other. other ≡ fault) → Finds (viewpoint_faults plan v p) result
viewpoint_stop plan v p fault h = err_is (viewpoint_faults plan v p) fault
    (in_front (named_faults plan v p) (told_or_stuttered_faults plan v p ++ total_faults plan v p) (viewpoint_faults plan v p) fault (three_parts plan v p) h)

pub viewpoint_told : {X : Type 0} (plan : MapValue) (v : ℕ) (p : Viewpoint) (fault : MergeFault) → named_faults plan v p ≡ [] → IsFirstOf (told_or_stuttered_faults plan v p) fault → (result : Result X MergeFault) → IsErrAnd result (λ other. other ≡ fault) → Finds (viewpoint_faults plan v p) result
viewpoint_told plan v p fault e h = err_is (viewpoint_faults plan v p) fault
    (behind (named_faults plan v p) (told_or_stuttered_faults plan v p ++ total_faults plan v p) (viewpoint_faults plan v p) fault (three_parts plan v p) e
    (first_in_front (told_or_stuttered_faults plan v p) (total_faults plan v p) fault h))

pub viewpoint_rest : {X : Type 0} (plan : MapValue) (v : ℕ) (p : Viewpoint) (result : Result X MergeFault) → named_faults plan v p ≡ [] → told_or_stuttered_faults plan v p ≡ [] → Finds (total_faults plan v p) result → Finds (viewpoint_faults plan v p) result
viewpoint_rest plan v p result e g h =
    rest_of (named_faults plan v p) (told_or_stuttered_faults plan v p ++ total_faults plan v p) (viewpoint_faults plan v p) result (three_parts plan v p) e
    (rest_of (told_or_stuttered_faults plan v p) (total_faults plan v p) (told_or_stuttered_faults plan v p ++ total_faults plan v p) result refl g h)

-- the faults of viewpoints, one after another
pub viewpoints_more : (m : Merge) (v n : ℕ) → v < n → viewpoint_faults m.plan v (viewpoint_at m v) ≡ [] → faults_from m (v + 1) (n - (v + 1)) ≡ faults_from m v (n - v)
unfolding faults_from
viewpoints_more m v n h e =
    sym (ap (flat_map (λ k. viewpoint_faults m.plan k (viewpoint_at m k))) (range_more v n h)
    ∙ ap (λ (front : List MergeFault). front ++ flat_map (λ k. viewpoint_faults m.plan k (viewpoint_at m k)) (range_with_len (v + 1) (n - (v + 1)))) e)

pub viewpoints_stop : (m : Merge) (v n : ℕ) (fault : MergeFault) (all : List MergeFault) → v < n → faults_from m v (n - v) ≡ all → IsFirstOf (viewpoint_faults m.plan v (viewpoint_at m v)) fault → IsFirstOf all fault
unfolding faults_from
viewpoints_stop m v n fault all h same first =
    let P : List MergeFault → Type 0 = λ faults. IsFirstOf faults fault in
    subst P (sym (ap (flat_map (λ k. viewpoint_faults m.plan k (viewpoint_at m k))) (range_more v n h)) ∙ same)
    (first_in_front (viewpoint_faults m.plan v (viewpoint_at m v)) (flat_map (λ k. viewpoint_faults m.plan k (viewpoint_at m k)) (range_with_len (v + 1) (n - (v + 1)))) fault first)

pub viewpoints_none : (m : Merge) (v n : ℕ) → n ≤ v → faults_from m v (n - v) ≡ []
unfolding faults_from
viewpoints_none m v n h = let e : n - v ≡ 0 = omega arith in rw e refl

pub viewpoints_start : (m : Merge) (n : ℕ) → faults_from m 0 (n - 0) ≡ faults_from m 0 n
viewpoints_start m n = let e : n - 0 ≡ n = omega arith in rw e refl

pub viewpoints_all : (m : Merge) → faults_from m 0 (length m.viewpoints) ≡ all_faults m
unfolding faults_from all_faults
viewpoints_all m = refl

-- the viewpoint at a place is the view and the lattice of the pair there
pub viewpoint_there : (sigmap : SigMap) (views : List (View × Lattice)) (v : ℕ) (d : View × Lattice) → v < length views → viewpoint_at (merge_in sigmap views) v ≡ viewpoint_of (get_or views v d)
viewpoint_there sigmap [] v d h = absurd (omega arith)
viewpoint_there sigmap (pair ∷ views) zero d h = refl
viewpoint_there sigmap (pair ∷ views) (suc v) d h = viewpoint_there sigmap views v d (omega arith)

viewpoints_count : (views : List (View × Lattice)) → length (map viewpoint_of views) ≡ length views
viewpoints_count [] = refl
viewpoints_count (pair ∷ views) = ap suc (viewpoints_count views)

pub all_from : (sigmap : SigMap) (views : List (View × Lattice)) → faults_from (merge_in sigmap views) 0 (length views) ≡ all_faults (merge_in sigmap views)
all_from sigmap views = ap (faults_from (merge_in sigmap views) 0) (sym (viewpoints_count views)) ∙ viewpoints_all (merge_in sigmap views)

-- an error that is passed on, in the words of a clause on errors
pub err_if : {X : Type 0} (faults : List MergeFault) (fault : MergeFault) → IsFirstOf faults fault → (result : Result X MergeFault) → IsErrAnd result (λ other. other ≡ fault) → IfErr result (IsFirstOf faults)
err_if faults fault h (Ok x) e = absurd e
err_if faults fault h (Err other) e = let P : MergeFault → Type 0 = λ f. IsFirstOf faults f in subst P (sym e) h

pub ruleset all_steps = (viewpoints_more, viewpoints_stop, viewpoints_none, viewpoints_start, viewpoints_all)

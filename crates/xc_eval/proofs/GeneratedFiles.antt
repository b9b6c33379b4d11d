-- What comes of the generated files: each load of their check finds its file, so it comes to its own end.
use Rattle.std.proofs.Common.{◌≡◌, ℕ, Bool, true, List, [], ◌∷◌, ◌++◌, map, codes, Option, Some, None, if◌then◌else◌, Result, Ok, Err, IsSome, refl, sym, ap, subst, inl, inr, ◌⊎◌, ◌∙◌}
use Rattle.std.specs.String.{string_bytes}
use Rattle.std.specs.declared.string.String.{String}
use Rattle.std.specs.declared.alloc.Global.{Global}
use Rattle.xc_base.specs.Lines.{text_rows}
use Rattle.xc_base.specs.Shelves.{Told, Shelved, held, shelved}
use Rattle.xc_base.specs.Sinks.{Sunk, AddsNothing}
use Rattle.xc_base.specs.declared.shelf.File.{File}
use Rattle.xc_sigmap_lines.specs.MapFiles.{MapValue, map_format}
use Rattle.xc_sigmap_lines.specs.declared.parts.Use.{Use}
use Rattle.xc_merge.specs.Merges.{Merge, Viewpoint}
use Rattle.xc_formula_text.specs.FormulaFiles.{formula_format}
use Rattle.xc_report.specs.Reports.{signature_of}
use Rattle.xc_gen.specs.Generated.{chain_text, diamond_text, view_text, map_text, formulas_text, files_of as generated_files, generated, is_size, IsFaultOf}
use Rattle.xc_gen.specs.declared.fault.GenFault.{GenFault}
use Rattle.xc_gen.specs.declared.fault.GenFault.TheVariants.{Size}
use Rattle.xc_gen.specs.Links.{UsesBothViews, NamesItsLattice}
use Rattle.xc_gen.specs.Naming.{AreNamed}
use Rattle.xc_gen.specs.declared.side.Side.TheVariants.{Left, Right}
use Rattle.xc_lines.specs.Texts.{size_line}
use Rattle.xc_lines.specs.declared.halt.Halt.{Halt}
use Rattle.xc_lines.specs.declared.halt.Halt.TheVariants.{Words, Refused, ReadFault, WriteFault, Memory}
use Rattle.xc_lines.specs.declared.passed.Passed.{Passed}
use Rattle.xc_course.specs.Courses.{Outcome, Refusal, Reads}
use Rattle.xc_course.specs.Trees.{Tree, Over, Happens, OpenViewpoints}
use Rattle.xc_course.specs.Works.{CameTo, EndsWith, EndsSo, LeavesTold, Works, WorksAlways}
use Rattle.xc_course.proofs.Working.{ends_always, halt_kept, same_told, goes_unless, stops_unless}
use Rattle.xc_eval.specs.Checking.{CheckTree, GenTree, size_refusal}
use Rattle.xc_eval.proofs.Behind.{behind_map, behind_viewpoints, behind_merge, behind_formulas, behind_limit}
use Rattle.xc_eval.proofs.Finding.{Finds, opens_finds, reads_finds, viewpoint_finds, unless_finds}

-- work over files of its own comes to its own end, whatever the shelf holds
module _ (tree : Tree) (told : Told) (faults : ℕ) (finds : Finds told.files (Happens tree)) (steady : told.steady ≡ true) where
  abbrev own : Shelved
  own = record { told = Some told; faults = faults }

  ends_over : (now : Shelved) (o : Outcome) → EndsWith (Happens tree) own o → EndsWith (Happens (Over told.files tree)) now o
  ends_over now o h = ends_always (Happens (Over told.files tree)) now o (λ m. h.1)

  so_over : (now : Shelved) (P : Outcome → Type 0) → EndsSo (Happens tree) own P → EndsSo (Happens (Over told.files tree)) now P
  so_over now P h = record { outcome = h.outcome; ends = ends_over now h.outcome h.ends; holds = h.holds }

  nothing_or_over : (now : Shelved) (N : Type 0) (P : Outcome → Type 0) → (N ⊎ EndsSo (Happens tree) own P) → N ⊎ EndsSo (Happens (Over told.files tree)) now P
  nothing_or_over now N P (inl h) = inl h
  nothing_or_over now N P (inr h) = inr (so_over now P h)

  held_fails : {X : Type 0} (found : Option (List ℕ)) → IsSome found → found ≡ None → X
  held_fails None some none = cc
  held_fails (Some bytes) some none = cc

  came_over : (after now : Shelved) (out out_after : Sunk) (result : Result Passed Halt) → CameTo (Happens tree) own after out out_after result → CameTo (Happens (Over told.files tree)) now now out out_after result
  came_over after now out out_after (Ok passed) h = (so_over now _ h.0, h.1)
  came_over after now out out_after (Err (Refused line)) h = (ends_over now (Refusal (string_bytes line)) h.0, h.1)
  came_over after now out out_after (Err (ReadFault line)) h = held_fails (held told.files h.0.name) (finds h.0.name h.0.failed.0) (h.0.absent steady)
  came_over after now out out_after (Err WriteFault) h = (so_over now _ h.0, h.1)
  came_over after now out out_after (Err Memory) h = (inl refl, nothing_or_over now (AddsNothing out.bytes out_after.bytes) _ h.1, h.2)
  came_over after now out out_after (Err Words) h = absurd h

  told_kept : (now : Shelved) (result : Result Passed Halt) → LeavesTold now.told now.told result
  told_kept now (Ok passed) = refl
  told_kept now (Err halt) = halt_kept now.told halt

  works_over : (after : Shelved) (out out_after : Sunk) (result : Result Passed Halt) → Works tree own after out out_after result → WorksAlways (Over told.files tree) out out_after result
  works_over after out out_after result h = λ now. record { came = came_over after now out out_after result h.came; kept = told_kept now result; files = same_told now.told }

-- the generated files
module _ (number size : ℕ) (named : AreNamed number size) (uses : UsesBothViews size) (left : NamesItsLattice Left number size) (right : NamesItsLattice Right number size) where
  abbrev files : List File
  files = generated_files number size

  formulas_find : (m : Merge) → Finds files (Happens (behind_merge (codes "gen.ctl") m))
  formulas_find m =
      opens_finds files 1048576 (codes "gen.ctl") formulas_text (Reads (formula_format (signature_of m)) (codes "gen.ctl") (λ fs. Happens (behind_formulas m fs))) named.formulas
      (reads_finds files (formula_format (signature_of m)) (codes "gen.ctl") (λ fs. Happens (behind_formulas m fs)) (text_rows formulas_text)
      (λ fs is. unless_finds files _ (behind_limit m fs tt) (λ name e. cc)))

  merged_finds : (plan : MapValue) (found : List Viewpoint) → Finds files (Happens (behind_viewpoints (codes "gen.ctl") plan found))
  merged_finds plan found = unless_finds files _ (behind_merge (codes "gen.ctl") (record { plan = plan; viewpoints = found })) (formulas_find (record { plan = plan; viewpoints = found }))

  viewpoints_find : (next : List Viewpoint → Tree) → ((found : List Viewpoint) → Finds files (Happens (next found))) → Finds files (Happens (OpenViewpoints (codes "left.view" ∷ codes "right.view" ∷ []) [] next))
  viewpoints_find next finds =
      viewpoint_finds files (codes "left.view") (view_text Left number size) (codes "chain.lat") chain_text (λ p. OpenViewpoints (codes "right.view" ∷ []) ([] ++ p ∷ []) next) named.left left named.chain
      (λ p. viewpoint_finds files (codes "right.view") (view_text Right number size) (codes "diamond.lat") diamond_text (λ q. next (([] ++ p ∷ []) ++ q ∷ [])) named.right right named.diamond
      (λ q. finds (([] ++ p ∷ []) ++ q ∷ [])))

  check_finds : Finds files (Happens (CheckTree (codes "gen.map") (codes "gen.ctl")))
  check_finds =
      opens_finds files 1048576 (codes "gen.map") (map_text size) (Reads map_format (codes "gen.map") (λ plan. Happens (behind_map (codes "gen.ctl") plan))) named.sigmap
      (reads_finds files map_format (codes "gen.map") (λ plan. Happens (behind_map (codes "gen.ctl") plan)) (text_rows (map_text size))
      (λ plan is. subst (λ (us : List Use). Finds files (Happens (OpenViewpoints (map (λ (u : Use). u.file) us) [] (behind_viewpoints (codes "gen.ctl") plan)))) (sym (uses plan is)) (viewpoints_find (behind_viewpoints (codes "gen.ctl") plan) (merged_finds plan))))

  -- so what their check came to, the request came to, whatever the shelf holds
  pub generated_works : (made after : Shelved) (out out_after : Sunk) (result : Result Passed Halt) → is_size size ≡ true → made ≡ shelved (generated number size)
      → Works (CheckTree (codes "gen.map") (codes "gen.ctl")) made after out out_after result → WorksAlways (GenTree number size) out out_after result
  generated_works made after out out_after result is same h = λ now.
      goes_unless (size_refusal size) (Over files (CheckTree (codes "gen.map") (codes "gen.ctl"))) now now out out_after result
      (ap (λ (b : Bool). if b then None else Some (size_line size)) is)
      (works_over (CheckTree (codes "gen.map") (codes "gen.ctl")) (record { files = files; failed = []; steady = true }) 0 check_finds refl after out out_after result
      (subst (λ (s : Shelved). Works (CheckTree (codes "gen.map") (codes "gen.ctl")) s after out out_after result) same h) now)

-- another size is refused with its line
pub size_refused : (number size found : ℕ) (fault : GenFault) (line : String Global) (out : Sunk) → fault ≡ Size found → IsFaultOf size fault → string_bytes line ≡ size_line found → WorksAlways (GenTree number size) out out (Err (Refused line))
size_refused number size found fault line out is of told = λ now.
    let no = subst (λ (f : GenFault). IsFaultOf size f) is of in
    stops_unless (size_refusal size) (Over (generated_files number size) (CheckTree (codes "gen.map") (codes "gen.ctl"))) (size_line size) now out line
    (ap (λ (b : Bool). if b then None else Some (size_line size)) no.1)
    (told ∙ ap size_line no.0)

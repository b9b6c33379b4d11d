-- What comes behind each stage of a check.
use Rattle.std.specs.Prelude.{ℕ, false, List, []}
use Rattle.xc_sigmap_lines.specs.MapFiles.{MapValue}
use Rattle.xc_merge.specs.Merges.{Merge, Viewpoint}
use Rattle.xc_ctl.specs.declared.kind.Kind.{Kind}
use Rattle.xc_report.specs.Reports.{signature_of}
use Rattle.xc_lines.specs.declared.status.Status.TheVariants.{Done}
use Rattle.xc_course.specs.FileKinds.{Formulas}
use Rattle.xc_course.specs.Trees.{Tree, Open, OpenViewpoints, Merges, Within, Serve, files_of}
use Rattle.xc_eval.specs.Checking.{state_limit, report_items}

abbrev pub behind_limit : Merge → List (List Kind) → Unit {0} → Tree
behind_limit m formulas x = Serve Done (report_items false m formulas)

abbrev pub behind_formulas : Merge → List (List Kind) → Tree
behind_formulas m formulas = Within state_limit m (behind_limit m formulas)

abbrev pub behind_merge : List ℕ → Merge → Tree
behind_merge name m = Open (Formulas (signature_of m)) name (behind_formulas m)

abbrev pub behind_viewpoints : List ℕ → MapValue → List Viewpoint → Tree
behind_viewpoints name plan found = Merges plan found (behind_merge name)

abbrev pub behind_map : List ℕ → MapValue → Tree
behind_map name plan = OpenViewpoints (files_of plan) [] (behind_viewpoints name plan)

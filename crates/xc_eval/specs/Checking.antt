-- The courses of the modes that evaluate formulas: `check`, and `gen`, which checks generated files.
use Rattle.std.specs.Prelude.{◌+◌, ℕ, Bool, false, if◌then◌else◌, codes, List, [], ◌∷◌, Option, Some, None}
use Rattle.xc_merge.specs.Merges.{Merge}
use Rattle.xc_ctl.specs.declared.kind.Kind.{Kind}
use Rattle.xc_gen.specs.Generated.{files_of as generated_files, is_size}
use Rattle.xc_report.specs.Reports.{signature_of}
use Rattle.xc_lines.specs.Texts.{size_line}
use Rattle.xc_lines.specs.declared.status.Status.TheVariants.{Done}
use Rattle.xc_course.specs.FileKinds.{Maps, Formulas}
use Rattle.xc_course.specs.Items.{Item, Head, Block}
use Rattle.xc_course.specs.Trees.{Tree, Open, OpenViewpoints, Merges, Within, Over, Unless, Serve, files_of}

-- how many states may be evaluated
abbrev pub state_limit : ℕ
state_limit = 4096

-- the blocks of formulas, numbered from a number on
abbrev pub blocks_of : Bool → Merge → ℕ → List (List Kind) → List Item
blocks_of marked m number [] = []
blocks_of marked m number (nodes ∷ formulas) = Block marked m number nodes ∷ blocks_of marked m (number + 1) formulas

-- the report on formulas over a machine
abbrev pub report_items : Bool → Merge → List (List Kind) → List Item
report_items marked m formulas = Head marked m ∷ blocks_of marked m 1 formulas

-- `check MAP FORMULAS`: the map, the viewpoints, their merge, the formulas, the limit of states, and the report
abbrev pub CheckTree : List ℕ → List ℕ → Tree
CheckTree sigmap formulas =
    Open Maps sigmap (λ plan. OpenViewpoints (files_of plan) [] (λ found. Merges plan found (λ m. Open (Formulas (signature_of m)) formulas (λ fs. Within state_limit m (λ x. Serve Done (report_items false m fs))))))

-- the refusal of a size of which no files are generated
abbrev pub size_refusal : ℕ → Option (List ℕ)
size_refusal size = if is_size size then None else Some (size_line size)

-- `gen NUMBER SIZE`: the check of the generated files, whatever the shelf holds
abbrev pub GenTree : ℕ → ℕ → Tree
GenTree number size = Unless (size_refusal size) (Over (generated_files number size) (CheckTree (codes "gen.map") (codes "gen.ctl")))

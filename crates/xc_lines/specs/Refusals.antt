-- Lines of faults that are not out of memory.
use Rattle.std.specs.Prelude.{◌≡◌, ℕ, List}
use Rattle.xc_base.specs.declared.fault.TextFault.{TextFault}
use Rattle.xc_base.specs.declared.fault.TextFault.TheVariants as texts
use Rattle.xc_merge.specs.declared.fault.MergeFault.{MergeFault}
use Rattle.xc_merge.specs.declared.fault.MergeFault.TheVariants as faults
use Rattle.xc_lines.specs.Texts.{text_line, merge_line}

-- the line is that of a text's fault, which is not out of memory
abbrev pub IsTextLine : List ℕ → TextFault → List ℕ → Type 0
IsTextLine _ texts.Memory _ = ⊥
IsTextLine name fault line = line ≡ text_line name fault

-- the line is that of a fault of viewpoints, which is not out of memory
abbrev pub IsMergeLine : MergeFault → List ℕ → Type 0
IsMergeLine faults.Memory _ = ⊥
IsMergeLine fault line = line ≡ merge_line fault

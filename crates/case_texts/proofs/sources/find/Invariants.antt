use Rattle.std.proofs.Common.{◌≡◌, drop}
use Rattle.case_texts.specs.Sources.{text_called}
use Rattle.case_texts.proofs.sources.find.Given as goal

-- the texts so far have other names
abbrev pub invariant-loop-text : goal.invariant-loop-text
invariant-loop-text l = text_called l.name (drop l.text-index l.texts) ≡ text_called l.name l.texts

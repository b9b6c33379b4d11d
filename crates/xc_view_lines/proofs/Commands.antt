-- A command's tokens, split at the first `do`.
use Rattle.std.proofs.Common.{◌≡◌, ℕ, ◌+◌, ◌-◌, List, map, length, take, drop, codes, Option, Some, None, sym, ◌∙◌, ap}
use Rattle.std.specs.List.{position}
use Rattle.std.specs.Str.{bytes_eq}
use Rattle.xc_base.specs.declared.lines.Lexeme.{Lexeme}
use Rattle.xc_base.specs.Lines.{texts}
use Rattle.xc_expr.specs.Written.{written, set}
use Rattle.xc_expr.specs.Resolving.{both}
use Rattle.xc_expr.specs.Reading.{guard_in, action_in}
use Rattle.xc_expr.specs.declared.phrase.Phrase.{Phrase}
use Rattle.xc_expr.specs.declared.setting.Setting.{Setting}
use Rattle.xc_view_lines.specs.ViewLines.{Command}
use Rattle.xc_view_lines.specs.LineReading.{command_at, command_parts}
use Rattle.xc_forms.proofs.Tokens.{back_texts}
use Rattle.xc_view_lines.proofs.Tokens.{do_in_texts, front_texts}

-- the first `do` of tokens
abbrev pub first_do : List Lexeme → Option ℕ
first_do tokens = position (λ x. bytes_eq (codes "do") x.text.now) tokens

-- what stands in front of it, and behind it, is read
module _ (name value : List ℕ) (tokens : List Lexeme) (place : ℕ) (found : Some place ≡ first_do tokens) where
  both_read : command_parts name value (texts tokens) ≡ both (Command name value) (guard_in (texts (take place tokens))) (action_in (texts (take (length tokens - (place + 1)) (drop (place + 1) tokens))))
  unfolding command_parts
  both_read =
      ap (command_at name value (texts tokens)) (do_in_texts tokens ∙ sym found)
      ∙ rw (front_texts tokens place, back_texts tokens (place + 1))

  pub command_read : (n v : List ℕ) (guard : Phrase) (action : List Setting) → n ≡ name → v ≡ value
      → Some (written guard) ≡ guard_in (texts (take place tokens))
      → Some (map set action) ≡ action_in (texts (take (length tokens - (place + 1)) (drop (place + 1) tokens)))
      → Some (Command n v (written guard) (map set action)) ≡ command_parts name value (texts tokens)
  command_read n v guard action en ev g a = rw (both_read, ← g, ← a, en, ev)

  pub action_lacks : (guard : Phrase)
      → Some (written guard) ≡ guard_in (texts (take place tokens))
      → None ≡ action_in (texts (take (length tokens - (place + 1)) (drop (place + 1) tokens)))
      → None ≡ command_parts name value (texts tokens)
  action_lacks guard g a = rw (both_read, ← g, ← a)

use Rattle.std.proofs.Common.{◌≡◌, map, take}
use Rattle.xc_base.specs.Lines.{texts}
use Rattle.xc_base.specs.Text.{token_text}
use Rattle.xc_base.specs.declared.lines.Token.{Token}
use Rattle.xc_base.specs.declared.lines.Lexeme.{Lexeme}
use Rattle.xc_base.proofs.lines.Lines.lexemes.Given as goal

abbrev pub invariant-loop-token : goal.invariant-loop-token
invariant-loop-token l = record {
  texts : texts l.lexemes ≡ map (token_text l.self.source.now) (take l.token-index l.token-items);
  words : map (λ (x : Lexeme). x.word) l.lexemes ≡ map (λ (t : Token). t.word) (take l.token-index l.token-items);
}

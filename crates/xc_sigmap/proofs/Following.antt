-- What may stand behind statements, and what they lack.
use Rattle.std.proofs.Common.{◌≡◌, ℕ, ◌-◌, ◌≤◌, List, [], ◌∷◌, length, get_or, refl, ap, sym, ◌∙◌, arith}
use Rattle.xc_sigmap_lines.specs.declared.statement.Statement.{Statement}
use Rattle.xc_sigmap_lines.specs.MapFiles.{is_due, may_follow, last_of, missing_part, later_part}

-- the last statement stands at the last place
last_at : (s : Statement) (more : List Statement) (d : Statement) → get_or (s ∷ more) (length more) d ≡ last_of s more
last_at s [] d = refl
last_at s (t ∷ more) d = last_at t more d

-- what is due behind statements
pub due_behind : (ss : List Statement) (s last : Statement) → 1 ≤ length ss → last ≡ get_or ss (length ss - 1) last → is_due ss s ≡ may_follow last s
due_behind [] s last h e = absurd (omega arith)
due_behind (t ∷ more) s last h e =
    let behind : length (t ∷ more) - 1 ≡ length more = omega arith in
    ap (λ (r : Statement). may_follow r s) (sym (e ∙ ap (λ (n : ℕ). get_or (t ∷ more) n last) behind ∙ last_at t more last))

-- what a file lacks that has a statement
pub part_missing : (ss : List Statement) → 1 ≤ length ss → missing_part ss ≡ later_part ss
part_missing [] h = absurd (omega arith)
part_missing (s ∷ more) h = refl

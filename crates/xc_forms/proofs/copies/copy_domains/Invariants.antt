use Rattle.std.proofs.Common.{◌≡◌, take}
use Rattle.xc_forms.proofs.copies.copy_domains.Given as goal

abbrev pub invariant-loop-domain : goal.invariant-loop-domain
invariant-loop-domain l = l.copies ≡ take l.domain-index l.domains

-- All sizes fit.
use Rattle.std.proofs.Common.{◌≡◌, ℕ, ◌≤◌, true, nat_le, refl, arith}
use Rattle.std.specs.List.{list_all, range_with_len}
use Rattle.std.proofs.lemmas.Bool.{and_parts, leb-true}
use Rattle.xc_theory.proofs.Ranges.{all_range_at}
use Rattle.xc_gen.specs.Generated.{is_size}
use Rattle.xc_gen_laws.proofs.Checks.{all_fit}
use Rattle.xc_gen_laws.proofs.Computed.{of_1, of_2, of_3, of_4, of_5, of_6, of_7, of_8, of_9, of_10, of_11, of_12}
use Rattle.xc_gen_laws.proofs.Size13.{of_13}
use Rattle.xc_gen_laws.proofs.Size14.{of_14}
use Rattle.xc_gen_laws.proofs.Size15.{of_15}
use Rattle.xc_gen_laws.proofs.Size16.{of_16}
use Rattle.xc_gen_laws.proofs.Size17.{of_17}
use Rattle.xc_gen_laws.proofs.Size18.{of_18}
use Rattle.xc_gen_laws.proofs.Size19.{of_19}
use Rattle.xc_gen_laws.proofs.Size20.{of_20}

all_sizes : list_all all_fit (range_with_len 1 20) ≡ true
all_sizes = rw (of_1, of_2, of_3, of_4, of_5, of_6, of_7, of_8, of_9, of_10, of_11, of_12, of_13, of_14, of_15, of_16, of_17, of_18, of_19, of_20) refl

pub sizes_fit : (size : ℕ) → is_size size ≡ true → all_fit size ≡ true
sizes_fit size h =
    let parts = and_parts (nat_le 1 size) (nat_le size 20) h in
    let low = leb-true 1 size parts.0 in
    let high = leb-true size 20 parts.1 in
    all_range_at all_fit 1 20 size all_sizes (omega arith) (omega arith)

-- For how many elements a table of one of three sizes is to have room.
use Rattle.std.specs.Prelude.{ℕ, nat_le, if◌then◌else◌}

-- the least of 4, 16 and 64 that a number of elements up to 64 fits
abbrev pub least_room : ℕ → ℕ
least_room size = if nat_le size 4 then 4 else if nat_le size 16 then 16 else 64

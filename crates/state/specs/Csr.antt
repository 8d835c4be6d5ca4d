-- MSACSR: the bits that exist, the values that arm a float trap, and the bits that do.
use Rattle.std.specs.Prelude.{ℕ, ◌+◌, ◌*◌, ◌/◌, ◌%◌, ◌^◌, Bool, cond, ◌&&◌, ◌||◌, ◌==◌}

-- the bits of 0107FFFF hex: 0 to 18, and 24
abbrev pub masked : ℕ → ℕ
masked x = x % 2 ^ 19 + 2 ^ 24 * (x / 2 ^ 24 % 2)

abbrev pub bit : ℕ → ℕ → Bool
bit k v = v / 2 ^ k % 2 == 1

-- bit 17, or a position that bits 16..12 and 11..7 share
abbrev pub arms : ℕ → Bool
arms v =
    bit 17 v
    || (bit 16 v && bit 11 v)
    || (bit 15 v && bit 10 v)
    || (bit 14 v && bit 9 v)
    || (bit 13 v && bit 8 v)
    || (bit 12 v && bit 7 v)

-- bit 5 + k, at its place, where bit k is set too
abbrev pub shared : ℕ → ℕ → ℕ
shared k v = cond (bit (5 + k) v && bit k v) (2 ^ (5 + k)) 0

-- the bits that arm it: bit 17 where it is set, else those of 16..12 that 11..7 share, at their places
abbrev pub arming : ℕ → ℕ
arming v = cond (bit 17 v) (2 ^ 17) (shared 11 v + shared 10 v + shared 9 v + shared 8 v + shared 7 v)

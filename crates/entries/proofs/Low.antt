-- The lowest half of a word is what is left of it. Assumes nothing.
use Rattle.std.proofs.Common.{◌≡◌, ℕ, ◌%◌, arith}
use Rattle.fields.specs.Fields.{bits}

pub low16 : (w : ℕ) → bits w 15 0 ≡ w % 65536
low16 w = omega arith

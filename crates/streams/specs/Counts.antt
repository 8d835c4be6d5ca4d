-- What the contracts on counts of bytes cite.
use Rattle.std.specs.Prelude.{◌≡◌, ℕ, ◌≤◌, min, List, length, take, ℤ, pos, negsuc}

-- `&xs[..n]` is in bounds and has n bytes
abbrev pub IsPrefixLen : ℕ → List ℕ → Type 0
IsPrefixLen n xs = (n ≤ length xs) × (n ≡ length (take n xs))

-- a number brought into `0..=most`
abbrev pub clamp_len : ℤ → ℕ → ℕ
clamp_len (pos k) most = min k most
clamp_len (negsuc k) most = 0

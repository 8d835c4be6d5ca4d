-- Bytes spell the same number by either definition. Assumes nothing.
use mathlib.Core.Path.{◌≡◌, refl, sym, ap, ◌∙◌}
use mathlib.Core.List.{List, [], ◌∷◌}
use Prim.Native.Nat.{ℕ, zero, suc, ◌+◌, ◌*◌, ◌≤◌, ◌<◌}
use native.Mathlib.Decide.{dec_lt}
use native.Mathlib.Numerals.{add-one}
use native.Mathlib.Omega.{arith}
use lib.ListN.{length, get_or, take, drop}
use lib.Seq.{drop-cons}
use Rattle.memory.specs.Bytes.{part, number}
use Rattle.demands.specs.Tables.{little}

-- past the end there are none
drop_past : (s : List ℕ) (at : ℕ) → length s ≤ at → drop at s ≡ []
drop_past [] zero h = refl
drop_past [] (suc at) h = refl
drop_past (b ∷ s) zero h = absurd (omega arith)
drop_past (b ∷ s) (suc at) h = drop_past s at (omega arith)

get_d_past : (s : List ℕ) (at : ℕ) → length s ≤ at → get_or s at 0 ≡ 0
get_d_past [] zero h = refl
get_d_past [] (suc at) h = refl
get_d_past (b ∷ s) zero h = absurd (omega arith)
get_d_past (b ∷ s) (suc at) h = get_d_past s at (omega arith)

number-none : (n : ℕ) → number (take n []) ≡ 0
unfolding number
number-none zero = refl
number-none (suc n) = refl

pub little-number : (s : List ℕ) (at n : ℕ) → little s at n ≡ number (part s at n)
unfolding little number
little-number s at zero = refl
little-number s at (suc n) = go (dec_lt at (length s)) (little-number s (at + 1) n)
  where
    go : Dec (at < length s) → little s (at + 1) n ≡ number (part s (at + 1) n)
        → get_or s at 0 + 256 * little s (at + 1) n ≡ number (part s at (suc n))
    go (yes h) e = rw (drop-cons s at 0 h, e, add-one)
    go (no h) e =
        let z : number (part s (at + 1) n) ≡ 0 = rw (drop_past s (at + 1) (omega arith)) (number-none n) in
        let o : number (part s at (suc n)) ≡ 0 = rw (drop_past s at (omega arith)) (number-none (suc n)) in
        omega (arith, get_d_past s at (omega arith), e)

-- A list that is filled from a program that a set-up accepts. Assumes nothing.
use Rattle.std.proofs.Common.{◌≡◌, ℕ, ◌+◌, ◌/◌, ◌%◌, ◌^◌, ◌≤◌, Bool, true, false, not, ◌||◌, eqb, ltb, List, length, refl, arith, ltb-false, eqb-true}
use Rattle.entries.proofs.ListedLaws.{long, held}
use Rattle.entries.specs.Listed.{listed, AreWords}
use Rattle.state.proofs.SetupLaws.{program-small}
use Rattle.state.proofs.TestLaws.{or_left, or_right}
use Rattle.state.specs.Setup.{program_bad}
use Rattle.listed.specs.Turn.{Stands, Reads}

not-false : (b : Bool) → not b ≡ false → b ≡ true
not-false true h = refl
not-false false h = let z : ◌≡◌ {A = ℕ} 0 1 = cc in absurd (omega arith)

pub stands : (base : ℕ) (p : List ℕ) → program_bad base (length p) ≡ false → Stands base p
stands base p e =
    let n = length p in
    let odd_base = not (eqb (base % 4) 0) in
    let odd = odd_base || not (eqb (n % 4) 0) in
    let large = ltb 262144 n in
    let past = ltb (2 ^ 64) (base + n) in
    let even = or_right odd_base (not (eqb (n % 4) 0)) (or_left odd large (or_left (odd || large) past e)) in
    record {
      words = eqb-true (n % 4) 0 (not-false (eqb (n % 4) 0) even);
      few = program-small base n e;
      below = ltb-false (2 ^ 64) (base + n) (or_right (odd || large) past e);
    }

pub filled : (base : ℕ) (p l : List ℕ) → Stands base p → length p / 4 ≤ length l → AreWords p (length p / 4)
    → Reads base (length p / 4) p (listed p l (length p / 4))
filled base p l s h w =
    record {
      stands = s;
      all = refl;
      long = rw (long p l (length p / 4)) h;
      at = λ i b. held p l (length p / 4) i b h;
      are = w;
    }

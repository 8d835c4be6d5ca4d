-- The elements that SHF chooses by its immediate, and SPLAT by a place.
use mathlib.Core.Path.{◌≡◌, sym, ap, ◌∙◌}
use Prim.Native.Nat.{ℕ, ◌+◌, ◌-◌, ◌*◌, ◌/◌, ◌%◌, ◌^◌, ◌<◌}
use native.Mathlib.Omega.{arith}
use lib.Dec.{lit<}
use lib.Bits.{bit_and, and_mask}
use Rattle.isa.specs.declared.Width.{Width}
use Rattle.isa.specs.declared.Width.TheVariants.{B, H, W, D}
use Rattle.isa.specs.Widths.{bits}
use Rattle.memory.specs.declared.Register.{Register}
use Rattle.memory.specs.Value.{value}
use Rattle.memory.proofs.Values.{Words}
use Rattle.vectors.specs.Register.{element, build, whole}
use Rattle.vectors.proofs.ElementLaws.{element-below}
use Rattle.vectors.proofs.Sizes.{Shares, shares}
use Rattle.vectors.proofs.Wholes.{value_low, value-high, whole_words}
use Rattle.parallel.specs.Lanes.{Lanes}
use Rattle.parallel.proofs.Words.{built, same-lanes}
use Rattle.parallel_pack.proofs.Quarters.{sent, bits-0, bits-1, bits-2, bits-3}
use Rattle.permute.specs.Permute.{chosen_by_immediate}

-- SHF stays within four elements, and a word has all of them
module _ {n : ℕ} (share : Shares n) {s : Register} (hs : Words s) (imm m : ℕ) (fours : 64 / n ≡ m * 4) {lo hi : ℕ}
    (a : Lanes n lo (λ i. element n s.low (i / 4 * 4 + element 2 imm (i % 4))))
    (b : Lanes n hi (λ i. element n s.high (i / 4 * 4 + element 2 imm (i % 4)))) where
  inner : (i : ℕ) → i < 64 / n → i / 4 * 4 + element 2 imm (i % 4) < 64 / n
  inner i l = omega (arith, fours, element-below 2 imm (i % 4))

  later : (i : ℕ)
      → 64 / n + (i / 4 * 4 + element 2 imm (i % 4)) ≡ (64 / n + i) / 4 * 4 + element 2 imm ((64 / n + i) % 4)
  later i =
      let p : (64 / n + i) / 4 * 4 ≡ 64 / n + i / 4 * 4 = omega (arith, fours) in
      let q : (64 / n + i) % 4 ≡ i % 4 = omega (arith, fours) in
      rw (p, q) (omega arith)

  pub shf-words : lo + hi * 2 ^ 64 ≡ whole n (chosen_by_immediate imm n (value s))
  unfolding chosen_by_immediate
  shf-words = whole_words share _ lo hi
      (built share (same-lanes share a
      (λ i l. sym (value_low share hs (i / 4 * 4 + element 2 imm (i % 4)) (inner i l)))))
      (built share (same-lanes share b
      (λ i l. sym (value-high share hs (i / 4 * 4 + element 2 imm (i % 4))) ∙ ap (element n (value s)) (later i))))

-- one of the first four elements
first-sent : (n s imm i : ℕ) {c : ℕ} → i < 4 → c ≡ element 2 imm i → element n s c ≡ chosen_by_immediate imm n s i
unfolding chosen_by_immediate
first-sent n s imm i {c} l e =
    let place : c ≡ 0 * 4 + c = omega arith in
    let same : 0 * 4 + i ≡ i = omega arith in
    ap (element n s) place ∙ sent n s imm 0 i l e
    ∙ ap (λ z. element n s (z / 4 * 4 + element 2 imm (z % 4))) same

-- a register of four elements, and one of two
module _ (s imm : ℕ) where
  pub shf-four : {lo hi : ℕ} → lo ≡ element 32 s (imm % 4) + element 32 s (imm / 4 % 4) * 2 ^ 32
      → hi ≡ element 32 s (imm / 16 % 4) + element 32 s (imm / 64 % 4) * 2 ^ 32
      → lo + hi * 2 ^ 64 ≡ whole 32 (chosen_by_immediate imm 32 s)
  unfolding build
  shf-four {lo} {hi} p q = whole_words (shares W) (chosen_by_immediate imm 32 s) lo hi
      (p ∙ omega (arith, first-sent 32 s imm 0 (lit< tt) (bits-0 imm), first-sent 32 s imm 1 (lit< tt) (bits-1 imm)))
      (q ∙ omega (arith, first-sent 32 s imm 2 (lit< tt) (bits-2 imm), first-sent 32 s imm 3 (lit< tt) (bits-3 imm)))

  pub shf-two : {lo hi : ℕ} → lo ≡ element 64 s (imm % 4) → hi ≡ element 64 s (imm / 4 % 4)
      → lo + hi * 2 ^ 64 ≡ whole 64 (chosen_by_immediate imm 64 s)
  unfolding build
  shf-two {lo} {hi} p q = whole_words (shares D) (chosen_by_immediate imm 64 s) lo hi
      (p ∙ omega (arith, first-sent 64 s imm 0 (lit< tt) (bits-0 imm)))
      (q ∙ omega (arith, first-sent 64 s imm 1 (lit< tt) (bits-1 imm)))

-- the low bits of a place
pub last-mask : (w : Width) (i : ℕ) → bit_and i (128 / bits w - 1) ≡ i % (128 / bits w)
last-mask B i = and_mask i 4
last-mask H i = and_mask i 3
last-mask W i = and_mask i 2
last-mask D i = and_mask i 1

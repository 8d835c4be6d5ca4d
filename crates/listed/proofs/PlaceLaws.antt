-- The index that a turned distance gives is the word's, or past the words. Assumes nothing.
use Rattle.std.proofs.Common.{◌≡◌, ℕ, ◌+◌, ◌-◌, ◌*◌, ◌/◌, ◌%◌, ◌^◌, ◌<◌, ◌≤◌, Bool, true, false, eqb, ltb, List, length, refl, ap, ◌∙◌, arith, ltb-false, ltb-true, eqb-true}
use borrow.Author.Tests.{eqb-false}
use Rattle.memory.specs.Bytes.{part, number}
use Rattle.state.proofs.FetchLaws.{fetched-below, fetched-odd, fetched-past, fetched-word}
use Rattle.std.specs.Prelude.{Some, None}
use Rattle.state.specs.Fetch.{fetched}
use Rattle.entries.specs.Listed.{word_at}
use Rattle.listed.specs.Turn.{Stands, Placed}

quarter : (d : ℕ) → d < 2 ^ 64 → d / 4 < 4611686018427387904
quarter d h = omega arith

four : (d : ℕ) → d % 4 < 4
four d = omega arith

fits : (q r : ℕ) → q < 4611686018427387904 → r < 4 → q + r * 4611686018427387904 < 2 ^ 64
fits q r h k = omega arith

-- the index has room in 64 bits
pub room : (d : ℕ) → d < 2 ^ 64 → d / 4 + d % 4 * 4611686018427387904 < 2 ^ 64
room d h = fits (d / 4) (d % 4) (quarter d h) (four d)

less : (d n : ℕ) → d + 4 ≤ n → d < n
less d n h = omega arith

minus : (base pc d : ℕ) → d + base ≡ pc → pc - base ≡ d
minus base pc d h = omega arith

over : (base pc d : ℕ) → d + base ≡ pc → base ≤ pc
over base pc d h = omega arith

-- the numbers alone, a part of each at a time
even : (d r n : ℕ) → r ≡ d / 4 + d % 4 * 4611686018427387904 → n ≤ 262144 → r < n / 4 → d % 4 ≡ 0
even d r n is few h = omega arith

near : (d r n : ℕ) → r ≡ d / 4 + d % 4 * 4611686018427387904 → d % 4 ≡ 0 → r < n / 4 → d + 4 ≤ n
near d r n is e h = omega arith

onward : (base pc d n : ℕ) → (d + base) % 2 ^ 64 ≡ pc → base + n ≤ 2 ^ 64 → d < n → d + base ≡ pc
onward base pc d n back below h = omega arith

place : (d r : ℕ) → r ≡ d / 4 + d % 4 * 4611686018427387904 → d % 4 ≡ 0 → d ≡ 4 * r
place d r is e = omega arith

apart : (base pc d : ℕ) → (d + base) % 2 ^ 64 ≡ pc → d < 2 ^ 64 → base ≤ pc → pc - base ≡ d
apart base pc d back small h = omega arith

past : (d r n : ℕ) → r ≡ d / 4 + d % 4 * 4611686018427387904 → d % 4 ≡ 0 → n % 4 ≡ 0 → n / 4 ≤ r → n < d + 4
past d r n is e whole h = omega arith

module _ (base pc d r : ℕ) (small : d < 2 ^ 64) (back : (d + base) % 2 ^ 64 ≡ pc)
    (is : r ≡ d / 4 + d % 4 * 4611686018427387904) where
  found : (p : List ℕ) → Stands base p → r < length p / 4 → fetched p base pc ≡ Some (word_at p r)
  found p s h =
      let e = even d r (length p) is s.few h in
      let n = near d r (length p) is e h in
      let o = onward base pc d (length p) back s.below (less d (length p) n) in
      let a : pc - base ≡ d = minus base pc d o in
      fetched-word p base pc (over base pc d o) (rw a e) (rw a n)
      ∙ ap (λ x. Some (number (part p x 4))) (a ∙ place d r is e)

  none : (p : List ℕ) → Stands base p → length p / 4 ≤ r → fetched p base pc ≡ None
  none p s h = go (ltb pc base) refl (eqb ((pc - base) % 4) 0) refl
    where
      go : (b : Bool) → ltb pc base ≡ b → (t : Bool) → eqb ((pc - base) % 4) 0 ≡ t → fetched p base pc ≡ None
      go true e t f = fetched-below p base pc (ltb-true pc base e)
      go false e false f = fetched-odd p base pc (eqb-false ((pc - base) % 4) 0 f)
      go false e true f =
          let a = apart base pc d back small (ltb-false pc base e) in
          let four : d % 4 ≡ 0 = rw a at (eqb-true ((pc - base) % 4) 0 f) in
          fetched-past p base pc (rw a (past d r (length p) is four s.words h))

  pub placed : Placed base pc r
  placed = record { found = found; none = none }

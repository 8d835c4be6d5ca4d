-- Places and turned registers, over the order and the size of an element: the bytes of some elements have their places
-- among themselves, and the place of a place is the byte's own. So turning twice changes nothing. Assumes nothing.
use mathlib.Core.Path.{◌≡◌, refl, sym, ap, ◌∙◌}
use Prim.Native.Nat.{ℕ, zero, suc, ◌+◌, ◌-◌, ◌*◌, ◌/◌, ◌%◌, ◌^◌, ◌<◌}
use native.Mathlib.Nat.{mod-lt, mod-add-div', mod-eq_of_lt, div-lt_iff_lt-mul, add-mul-div_left, add-mul-mod_self_left}
use native.Mathlib.Omega.{arith}
use lib.Arith.{digits_lt, digits_div, digits_mod}
use Rattle.memory.proofs.Numbers.{number-bytes_of}
use Rattle.vectors.specs.Register.{element}
use Rattle.vectors.proofs.ElementLaws.{element-below, element-build, build-below, build-element, same-elements}
use Rattle.order.specs.declared.Order.{Order}
use Rattle.order.specs.declared.Order.TheVariants.{Little, Big}
use Rattle.order.specs.Order.{place, turned, TurnedTwice, StandsBack}

-- an element of which something is made has bytes
pub some : (n m k : ℕ) → n * m ≡ suc k → 0 < n
some zero m k size = omega arith
some (suc n) m k size = omega arith

module _ (n : ℕ) (pos : 0 < n) where
  last : (b : ℕ) → n - 1 - b % n < n
  last b = omega arith

  -- m elements have their places among themselves
  pub place-within : (m : ℕ) (o : Order) (b : ℕ) → b < n * m → place o n b < n * m
  place-within m Little b h = h
  place-within m Big b h =
      let q : b / n < m = (div-lt_iff_lt-mul pos).1 (omega arith) in
      omega (arith, digits_lt {m = m} q (last b))

  -- behind m elements the places are as at the beginning
  pub place-behind : (m : ℕ) (o : Order) (b : ℕ) → place o n (n * m + b) ≡ n * m + place o n b
  place-behind m Little b = refl
  place-behind m Big b =
      let e : n * m + b ≡ b + n * m = omega arith in
      rw (e, add-mul-div_left b m pos, add-mul-mod_self_left b n m) (omega arith)

  pub place-back : (o : Order) (b : ℕ) → place o n (place o n b) ≡ b
  place-back Little b = refl
  place-back Big b =
      rw (digits_div (b / n) (last b), digits_mod (b / n) (last b)) (omega (arith, mod-add-div' b n, mod-lt b pos))

pub turned-below : (o : Order) (n x : ℕ) → turned o n x < 2 ^ 128
unfolding turned
turned-below o n x = build-below 8 (λ b. element 8 x (place o n b)) (λ b. element-below 8 x (place o n b)) 16

pub element-turned : (o : Order) (n x b : ℕ) → b < 16 → element 8 (turned o n x) b ≡ element 8 x (place o n b)
unfolding turned
element-turned o n x b h =
    element-build 8 (λ b. element 8 x (place o n b)) (λ b. element-below 8 x (place o n b)) 16 b h

-- little-endian order leaves every byte where it is
pub turned-little : (n x : ℕ) → turned Little n x ≡ x % 2 ^ 128
unfolding turned
turned-little n x = build-element 8 x 16

pub turned-twice : TurnedTwice
turned-twice o n m x size =
    let pos = some n m 15 size in
    sym (mod-eq_of_lt (turned-below o n (turned o n x)))
    ∙ same-elements 8 (turned o n (turned o n x)) x 16
    (λ b h. element-turned o n (turned o n x) b h
    ∙ element-turned o n x (place o n b) (rw size at (place-within n pos m o b (rw size h)))
    ∙ ap (element 8 x) (place-back n pos o b))

pub stands-back : StandsBack
stands-back o n m x size =
    rw (number-bytes_of 16 (turned o n x), mod-eq_of_lt (turned-below o n x)) (turned-twice o n m x size)

-- Sums and products modulo 2^n are those of the numbers that they stand for.
-- Assumes nothing.
use mathlib.Core.Path.{◌≡◌, ap, ◌∙◌}
use Prim.Native.Nat.{ℕ, ◌+◌, ◌*◌, ◌%◌, ◌^◌, ◌<◌}
use native.Mathlib.Nat.{mod-lt, mod-add-mod}
use lib.IntN.{ℤ, pos, ◌+ℤ◌, ◌*ℤ◌}
use lib.Pow.{pow_pos}
use Rattle.element.specs.Value.{wrap}
use Rattle.linear.specs.Sums.{addv}
use Rattle.products.specs.Products.{mulv}
use Rattle.products.proofs.Ring.{like-pos, like-wrap, wrap-add, wrap-mul}

pub addv-below : (n x y : ℕ) → addv n x y < 2 ^ n
unfolding addv
addv-below n x y = mod-lt (x + y) (pow_pos n)

-- a number and a scaled one
pub scaled-sum : (x b : ℕ) (y : ℤ) → wrap 64 (pos x +ℤ y *ℤ pos b) ≡ addv 64 x (mulv 64 (wrap 64 y) b)
scaled-sum x b y = wrap-add (like-pos 64 x) (like-wrap 64 (y *ℤ pos b)) ∙ ap (addv 64 x) (wrap-mul (like-wrap 64 y) (like-pos 64 b))

-- the same on top of a sum
pub scaled-sum-on : (x c b : ℕ) (y : ℤ) → wrap 64 (pos (x + c) +ℤ y *ℤ pos b) ≡ addv 64 (addv 64 x c) (mulv 64 (wrap 64 y) b)
unfolding addv wrap
scaled-sum-on x c b y = wrap-add (like-wrap 64 (pos (x + c))) (like-wrap 64 (y *ℤ pos b)) ∙ ap (addv 64 ((x + c) % 2 ^ 64)) (wrap-mul (like-wrap 64 y) (like-pos 64 b))

pub mul-add : (n x f y : ℕ) → addv n (mulv n x f) y ≡ (x * f + y) % 2 ^ n
unfolding addv mulv
mul-add n x f y = mod-add-mod (x * f) (2 ^ n) y

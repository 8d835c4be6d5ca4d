-- Dot products modulo 2^64, of which an element keeps the low bits: differences, products and sums go by the low bits.
use Rattle.std.proofs.Common.{◌≡◌, ℕ, ◌+◌, ◌-◌, ◌*◌, ◌/◌, ◌%◌, ◌^◌, ◌≤◌, ◌<◌, sym, ap, ◌∙◌, ap₂, div-add-mod', arith}
use native.Mathlib.Nat.{add-mod, add-mul-mod_self_right}
use lib.Bits.{bit_xor, xor_zero_r}
use Rattle.isa.specs.declared.Width.{Width}
use Rattle.isa.specs.Widths.{bits}
use Rattle.element.specs.declared.Reading.{Reading}
use Rattle.element.specs.declared.Reading.TheVariants.{Unsigned, Signed}
use Rattle.element.specs.Value.{value, wrap}
use Rattle.element.specs.Views.{view, bias}
use Rattle.element.proofs.Readings.{value-diff}
use Rattle.element.proofs.Views.{flip-below, mod-is, wrap-below}
use Rattle.element.proofs.Widths.{half-size, low-low}
use Rattle.linear.specs.Sums.{addv}
use Rattle.parallel.proofs.TopBit.{xor-top}
use Rattle.products.specs.Halves.{dotp}
use Rattle.products.specs.Products.{mulv}
use Rattle.products.proofs.Halves.{by-halves}
use Rattle.products.proofs.Quotient.{difference}

mul-mod : (a b m : ℕ) → a * b % m ≡ a % m * (b % m) % m
mul-mod a b m =
    ap (λ x. x % m) (by-halves a b m ∙ omega arith)
    ∙ add-mul-mod_self_right (a % m * (b % m)) (a / m * (b / m) * m + (a / m * (b % m) + a % m * (b / m))) m

module _ (w : Width) where
  viewed : (g : Reading) {x : ℕ} → x < 2 ^ (bits w / 2) → bit_xor x (bias g (bits w / 2)) ≡ view g (bits w / 2) x
  viewed Unsigned {x} l = xor_zero_r x
  viewed Signed l = xor-top (bits w / 2) (half-size w).part l

  -- a half, turned at its sign bit and lessened by that bit's weight, is what it stands for
  pub extended-is : (g : Reading) {h x : ℕ} → h ≡ bias g (bits w / 2) → x < 2 ^ (bits w / 2)
      → (bit_xor x h + (2 ^ 64 - h)) % 2 ^ 64 % 2 ^ bits w ≡ wrap (bits w) (value g (bits w / 2) x)
  extended-is g {h} {x} e l =
      let half = bits w / 2 in
      let v = view g half x in
      let sum = v + (2 ^ 64 - h) in
      let is : bit_xor x h ≡ v = rw e (viewed g l) in
      let fits : v < 2 ^ 64 = omega (arith, view-below g l, (half-size w).part.room) in
      let less : h ≤ 2 ^ 64 = rw e (bias-below g) in
      rw is (difference w (sum % 2 ^ 64) (value-diff half (half-size w).part g l)
      (ap (λ b. (sum % 2 ^ 64 + b) % 2 ^ 64) (sym e)
      ∙ mod-is (sum % 2 ^ 64 + h) (2 ^ 64) v (sum / 2 ^ 64) 1 fits (omega (arith, div-add-mod' sum (2 ^ 64)))))
    where
      view-below : (g : Reading) {x : ℕ} → x < 2 ^ (bits w / 2) → view g (bits w / 2) x < 2 ^ (bits w / 2)
      view-below Unsigned l = l
      view-below Signed l = flip-below (bits w / 2) (half-size w).part l

      bias-below : (g : Reading) → bias g (bits w / 2) ≤ 2 ^ 64
      bias-below Unsigned = omega arith
      bias-below Signed = omega (arith, (half-size w).part)

  module _ (a b : ℕ) {p q : ℕ} (ea : a % 2 ^ bits w ≡ p) (eb : b % 2 ^ bits w ≡ q) where
    pub product_is : a * b % 2 ^ 64 % 2 ^ bits w ≡ mulv (bits w) p q
    unfolding mulv
    product_is = low-low w (a * b) ∙ mul-mod a b (2 ^ bits w) ∙ ap₂ (λ x y. x * y % 2 ^ bits w) ea eb

    pub sum_is : (a + b) % 2 ^ 64 % 2 ^ bits w ≡ addv (bits w) p q
    unfolding addv
    sum_is = low-low w (a + b) ∙ add-mod a b (2 ^ bits w) ∙ ap₂ (λ x y. (x + y) % 2 ^ bits w) ea eb

pub dotp-below : (g : Reading) (n x y : ℕ) → dotp g n x y < 2 ^ n
unfolding dotp
dotp-below g n x y = wrap-below n _

-- Request 1/12 a second time, in plain numbers: what division by 0 gives at any width, and that every other divisor has
-- the quotient and the remainder that document 01 gives it.
use Rattle.std.specs.Prelude.{◌≡◌, ℕ, ◌-◌, ◌^◌, ◌<◌, ◌≤◌, cond, ◌==◌, ◌≢◌, int_div, int_rem, nat_lt}
use Rattle.isa.specs.declared.Product.{Product}
use Rattle.isa.specs.declared.Product.TheVariants.{DivS, DivU, ModS, ModU}
use Rattle.element.specs.declared.Reading.{Reading}
use Rattle.element.specs.declared.Reading.TheVariants.{Unsigned, Signed}
use Rattle.element.specs.Value.{value, wrap}
use Rattle.products.specs.Operations.{product_of}

pub data Division : Type 0 where
  div-s div-u mod-s mod-u : Division

abbrev pub product_in : Division → Product
product_in div-s = DivS
product_in div-u = DivU
product_in mod-s = ModS
product_in mod-u = ModU

-- of a dividend s in n bits, by 0
abbrev pub by_zero : Division → ℕ → ℕ → ℕ
by_zero div-u n s = 2 ^ n - 1
by_zero div-s n s = cond (nat_lt s (2 ^ (n - 1))) (2 ^ n - 1) 1
by_zero mod-s n s = s
by_zero mod-u n s = s

-- document 01's lines
abbrev quotient_before : Reading → ℕ → ℕ → ℕ → ℕ
quotient_before g n s t = cond (t == 0) 0 (wrap n (int_div (value g n s) (value g n t)))

abbrev remainder_before : Reading → ℕ → ℕ → ℕ → ℕ
remainder_before g n s t = cond (t == 0) 0 (wrap n (int_rem (value g n s) (value g n t)))

abbrev pub before : Division → ℕ → ℕ → ℕ → ℕ
before div-s n s t = quotient_before Signed n s t
before div-u n s t = quotient_before Unsigned n s t
before mod-s n s t = remainder_before Signed n s t
before mod-u n s t = remainder_before Unsigned n s t

-- r is what the division o of s by t gives in n bits
pub record Divided (o : Division) (n s t r : ℕ) : Type 0 where
  pub zero : t ≡ 0 → r ≡ by_zero o n s
  pub other : (t ≢ 0) → r ≡ before o n s t

abbrev pub Divides : Type 0
Divides =
    (o : Division) (n : ℕ) → 0 < n → n ≤ 64 → (d s t : ℕ) → s < 2 ^ n
    → Divided o n s t (product_of (product_in o) n d s t)

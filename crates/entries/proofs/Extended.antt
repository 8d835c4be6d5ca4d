-- A number of 32 bits, turned at its sign and taken down again, carries its sign to 64 bits. Assumes nothing.
use Rattle.std.proofs.Common.{◌≡◌, ℕ, ◌+◌, ◌%◌, ◌^◌, ◌<◌, Bool, true, false, ltb, refl, arith, ltb-false, ltb-true}
use Rattle.element.specs.Value.{signed, wrap}
use Rattle.permute.proofs.Extensions.{extend-plus, extend-minus}

pub carried : (x r : ℕ) → x < 4294967296 → r < 2 ^ 64
    → (r + 2147483648) % 2 ^ 64 ≡ (x + 2147483648) % 4294967296 → r ≡ wrap 64 (signed 32 x)
carried x r small low e = go (ltb x 2147483648) refl
  where
    go : (b : Bool) → ltb x 2147483648 ≡ b → r ≡ wrap 64 (signed 32 x)
    go true h =
        let below = ltb-true x 2147483648 h in
        let same : r ≡ x = omega arith in
        rw same (extend-plus 32 x below (omega arith))
    go false h =
        let above = ltb-false x 2147483648 h in
        extend-minus 32 x r above low (omega arith)

-- A register is turned a word at a time: no element crosses its two words. Assumes nothing.
use mathlib.Core.Path.{◌≡◌, refl, sym, ap, ◌∙◌}
use Prim.Native.Nat.{ℕ, ◌+◌, ◌*◌, ◌/◌, ◌<◌}
use native.Mathlib.Nat.{mod-eq_of_lt}
use Rattle.isa.specs.declared.Width.{Width}
use Rattle.isa.specs.declared.Width.TheVariants.{B, H, W, D}
use Rattle.isa.specs.Widths.{bits, bytes}
use Rattle.memory.specs.declared.Register.{Register}
use Rattle.memory.specs.Value.{value, register, Holds}
use Rattle.memory.proofs.Values.{Words, value-below, register-value, is-register}
use Rattle.vectors.specs.Register.{element}
use Rattle.vectors.proofs.ElementLaws.{build-same}
use Rattle.vectors.proofs.Sizes.{shares}
use Rattle.vectors.proofs.Wholes.{value_low, value-high, whole_words}
use Rattle.order.specs.declared.Order.{Order}
use Rattle.order.specs.declared.Order.TheVariants.{Little, Big}
use Rattle.order.specs.Moved.{Moved}
use Rattle.order.specs.Order.{place, turned}
use Rattle.order.proofs.MovedLaws.{moved-built}
use Rattle.order.proofs.OrderLaws.{some, place-within, place-behind, turned-little}

-- a word is made of elements of each width
eight : (w : Width) → bytes w * (64 / bits w) ≡ 8
eight B = refl
eight H = refl
eight W = refl
eight D = refl

module _ (w : Width) (b : ℕ) where
  pos : 0 < bytes w
  pos = some (bytes w) (64 / bits w) 7 (eight w)

  -- the bytes of the lower word have their places in it, and those of the upper word theirs, eight on
  low-place : b < 8 → place Big (bytes w) b < 8
  low-place h = rw (eight w) at (place-within (bytes w) pos (64 / bits w) Big b (rw (eight w) h))

  high-place : place Big (bytes w) (8 + b) ≡ 8 + place Big (bytes w) b
  high-place = rw (eight w) at (place-behind (bytes w) pos (64 / bits w) Big b)

pub little-register : (w : Width) (v : Register) → Words v → v ≡ register (turned Little (bytes w) (value v))
little-register w v h =
    register-value h ∙ ap register (sym (turned-little (bytes w) (value v) ∙ mod-eq_of_lt (value-below h)))

module _ (w : Width) (v : Register) (h : Words v) where
  abbrev byte : ℕ → ℕ
  byte b = element 8 (value v) (place Big (bytes w) b)

  pub big-register : (r : Register) → Words r → Moved v.low (place Big (bytes w)) r.low
      → Moved v.high (place Big (bytes w)) r.high → r ≡ register (turned Big (bytes w) (value v))
  unfolding turned
  big-register r k l u =
      is-register k
      (whole_words (shares B) byte r.low r.high
      (moved-built l
      ∙ build-same 8 (λ b. element 8 v.low (place Big (bytes w) b)) byte 8
      (λ b s. sym (value_low (shares B) h (place Big (bytes w) b) (low-place w b s))))
      (moved-built u
      ∙ build-same 8 (λ b. element 8 v.high (place Big (bytes w) b)) (λ b. byte (8 + b)) 8
      (λ b s. sym (ap (element 8 (value v)) (high-place w b) ∙ value-high (shares B) h (place Big (bytes w) b)))))

-- what holds a number is turned as that number is
pub turned-held : (o : Order) (n : ℕ) {v : Register} {x : ℕ} → Holds v x
    → register (turned o n (value v)) ≡ register (turned o n x)
turned-held o n h = ap (λ x. register (turned o n x)) h.exact

-- A register in two words and its number: each is the other's inverse.
use mathlib.Core.Path.{◌≡◌, sym, ap, ◌∙◌}
use Prim.Native.Nat.{ℕ, ◌*◌, ◌/◌, ◌%◌, ◌^◌, ◌<◌}
use native.Mathlib.Nat.{add_comm, mod-eq_of_lt}
use lib.Arith.{digits_lt}
use lib.Pow.{mod-pow-add}
use lib.Pow as pow
use Rattle.memory.specs.declared.Register.{Register}
use Rattle.memory.specs.Value.{value, register, Holds}

-- both parts are words
pub record Words (r : Register) : Type 0 where
  pub low : r.low < 2 ^ 64
  pub high : r.high < 2 ^ 64

pub value-below : {r : Register} → Words r → value r < 2 ^ 128
value-below {r} h = rw (add_comm r.low (r.high * 2 ^ 64)) (digits_lt h.high h.low)

pub value-register : (x : ℕ) → value (register x) ≡ x % 2 ^ 128
unfolding register
value-register x = add_comm (x % 2 ^ 64) (x / 2 ^ 64 % 2 ^ 64 * 2 ^ 64) ∙ sym (mod-pow-add x 64 64)

pub value-exact : {x : ℕ} → x < 2 ^ 128 → value (register x) ≡ x
value-exact {x} h = value-register x ∙ mod-eq_of_lt h

-- two words are the register of their number
pub register-value : {r : Register} → Words r → r ≡ register (value r)
unfolding register
register-value {r} h =
    let turn = add_comm r.low (r.high * 2 ^ 64) in
    let low : r.low ≡ value r % 2 ^ 64 = sym (ap (λ x. x % 2 ^ 64) turn ∙ pow.low r.high 64 h.low) in
    let high : r.high ≡ value r / 2 ^ 64 % 2 ^ 64 =
    sym (ap (λ x. x / 2 ^ 64 % 2 ^ 64) turn ∙ ap (λ x. x % 2 ^ 64) (pow.high r.high 64 h.low) ∙ mod-eq_of_lt h.high) in
    λ i. record { low = low i; high = high i }

-- what has the value x is the register of x
pub is-register : {r : Register} {x : ℕ} → Words r → value r ≡ x → r ≡ register x
is-register h e = register-value h ∙ ap register e

pub holds : {r : Register} {x : ℕ} → Words r → value r ≡ x → Holds r x
holds h e = record { is = is-register h e; exact = e }

-- Shifts of an n-bit element by k bits. `shr_z z m` is the floor of z / m.
use Rattle.std.specs.Prelude.{cond, ℕ, ◌-◌, ◌*◌, ◌%◌, ◌^◌, eqb, pos, ◌+ℤ◌}
use Rattle.std.specs.Int.Signed.{shr_z}
use Rattle.element.specs.declared.Reading.{Reading}
use Rattle.element.specs.Value.{value, wrap}
use Rattle.bits.specs.Places.{bit_at}

unfoldable pub sll : ℕ → ℕ → ℕ → ℕ
sll n s k = (s * 2 ^ k) % 2 ^ n

-- SRA and SRL: the floor of the value divided by 2^k
unfoldable pub shift_right : Reading → ℕ → ℕ → ℕ → ℕ
shift_right g n s k = wrap n (shr_z (value g n s) (2 ^ k))

-- the last bit that a shift of x by k moves out
unfoldable pub last_out : ℕ → ℕ → ℕ
last_out x k = cond (eqb k 0) 0 (bit_at x (k - 1))

-- SRAR and SRLR
unfoldable pub shift_rounded : Reading → ℕ → ℕ → ℕ → ℕ
shift_rounded g n s k = wrap n (shr_z (value g n s) (2 ^ k) +ℤ pos (last_out s k))

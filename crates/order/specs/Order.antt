-- The bytes of a register in memory (section 3.3.1 and Table 3.1 of the manual). Its elements stand in their order from
-- the lowest address on. The bytes of an element stand from the least significant on in little-endian order, from the
-- most significant on in big-endian order.
use Rattle.std.specs.Prelude.{◌≡◌, List, ℕ, ◌+◌, ◌-◌, ◌*◌, ◌/◌, ◌%◌, ◌^◌}
use Rattle.memory.specs.Bytes.{number, bytes_of}
use Rattle.vectors.specs.Register.{element, whole}
use Rattle.order.specs.declared.Order.{Order}
use Rattle.order.specs.declared.Order.TheVariants.{Little, Big}

-- where among the addresses of a register its byte b stands, in elements of n bytes
abbrev pub place : Order → ℕ → ℕ → ℕ
place Little n b = b
place Big n b = b / n * n + (n - 1 - b % n)

-- the register whose byte b is that of x at the place of b
unfoldable pub turned : Order → ℕ → ℕ → ℕ
turned o n x = whole 8 (λ b. element 8 x (place o n b))

-- the sixteen bytes that stand for the register x
abbrev pub bytes_in : Order → ℕ → ℕ → List ℕ
bytes_in o n x = bytes_of 16 (turned o n x)

-- the register for which sixteen bytes stand
abbrev pub register_in : Order → ℕ → List ℕ → ℕ
register_in o n s = turned o n (number s)

-- Of any register, in either order and for elements of any size of which a register is made:

-- turning twice changes nothing
abbrev pub TurnedTwice : Type 0
TurnedTwice = (o : Order) (n m x : ℕ) → n * m ≡ 16 → turned o n (turned o n x) ≡ x % 2 ^ 128

-- so the bytes that stand for it stand for nothing else
abbrev pub StandsBack : Type 0
StandsBack = (o : Order) (n m x : ℕ) → n * m ≡ 16 → register_in o n (bytes_in o n x) ≡ x % 2 ^ 128

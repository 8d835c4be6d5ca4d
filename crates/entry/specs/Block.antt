-- The control block as 24 bytes, little-endian, no byte spare:
--   0..8 program counter; 8..16 target, which counts only with mark 2; 16..20 MSACSR; 20..22 slot mark; 22 MSA switch;
--   23 byte order.
use Rattle.std.specs.Prelude.{ℕ, Bool, true, false, cond, ◌&&◌, List, ◌++◌, eqb, leb, length, get_or}
use Rattle.order.specs.declared.Order.{Order}
use Rattle.order.specs.declared.Order.TheVariants.{Little, Big}
use Rattle.state.specs.declared.control.Mark.{Mark}
use Rattle.state.specs.declared.control.Mark.TheVariants.{Clear, NotTaken, Taken}
use Rattle.state.specs.declared.control.Control.{Control}
use Rattle.memory.specs.Bytes.{part, number, bytes_of}

-- the number of n bytes from at
abbrev pub field : List ℕ → ℕ → ℕ → ℕ
field b at n = number (part b at n)

-- the byte at a place; 0 behind the end
abbrev pub byte : List ℕ → ℕ → ℕ
byte b at = get_or b at 0

-- a block that set-up refuses with 5, after 1 to 4: its counter is no multiple of 4
abbrev pub broken : Control
broken = record { pc = 1; mark = Clear; csr = 0; on = false }

abbrev pub block : List ℕ → Mark → Control
block b k = record { pc = field b 0 8; mark = k; csr = field b 16 4; on = eqb (byte b 22) 1 }

-- 0 clear, 1 set and not taken, 2 set and taken; no other number is a mark
abbrev pub by_mark : List ℕ → ℕ → Control
by_mark b k = cond (eqb k 0) (block b Clear) (cond (eqb k 1) (block b NotTaken) (cond (eqb k 2) (block b (Taken (field b 8 8))) broken))

-- the control block of lent bytes: 24 of them, a switch of 0 off or 1 on, and an order of 0 or 1
unfoldable pub decoded : List ℕ → Control
decoded b =
    cond (eqb (length b) 24) (cond (leb (byte b 22) 1 && leb (byte b 23) 1) (by_mark b (field b 20 2)) broken) broken

-- the byte order that lent bytes name: 0 little-endian, 1 big-endian; with another number they are no block, and are
-- refused, so it does not count what they name
unfoldable pub ordered : List ℕ → Order
ordered b = cond (eqb (byte b 23) 1) Big Little

abbrev pub mark_number : Mark → ℕ
mark_number Clear = 0
mark_number NotTaken = 1
mark_number (Taken t) = 2

-- a mark that is not taken has no target: 0 is written
abbrev pub target_of : Mark → ℕ
target_of Clear = 0
target_of NotTaken = 0
target_of (Taken t) = t

abbrev pub switch_number : Bool → ℕ
switch_number true = 1
switch_number false = 0

abbrev pub order_number : Order → ℕ
order_number Little = 0
order_number Big = 1

-- the bytes of a control block
unfoldable pub encoded : Order → Control → List ℕ
encoded o c =
    bytes_of 8 c.pc ++ bytes_of 8 (target_of c.mark) ++ bytes_of 4 c.csr ++ bytes_of 2 (mark_number c.mark)
    ++ bytes_of 1 (switch_number c.on) ++ bytes_of 1 (order_number o)

-- the lent bytes b, with c written over a block of its length, which keeps its order
unfoldable pub written : Control → List ℕ → List ℕ
written c b = cond (eqb (length b) 24) (encoded (ordered b) c) b

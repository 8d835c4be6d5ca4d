-- Three facts of the layout: a block outside it is refused with 5, after 1 to 4; byte 23 names the order; and a block
-- that is written reads as it was.
use Rattle.std.specs.Prelude.{◌≡◌, Bool, false, ◌&&◌, List, ℕ, ◌^◌, ◌<◌, eqb, leb, length, get_or, Ok, Err, Result, ⊤}
use Rattle.order.specs.declared.Order.{Order}
use Rattle.order.specs.declared.Order.TheVariants.{Little, Big}
use Rattle.state.specs.declared.control.Control.{Control}
use Rattle.state.specs.declared.setup.Refusal.TheVariants.{State}
use Rattle.state.specs.declared.setup.Refusal.{Refusal}
use Rattle.state.specs.Machine.{Env, machine}
use Rattle.state.specs.Setup.{refusal}
use Rattle.entry.specs.Block.{field, byte, decoded, ordered, encoded, target_of}

-- 24 bytes, a slot mark of 0 to 2, a switch of 0 or 1, and an order of 0 or 1
abbrev pub in_layout : List ℕ → Bool
in_layout b = eqb (length b) 24 && leb (field b 20 2) 2 && leb (byte b 22) 1 && leb (byte b 23) 1

-- 5 in place of an acceptance
abbrev pub or_five : Result ⊤ Refusal → Result ⊤ Refusal
or_five (Ok tt) = Err State
or_five (Err r) = Err r

-- bytes outside the layout are answered as any other block with the same set-up, and with 5 where that is accepted
abbrev pub OutsideRefused : Type 0
OutsideRefused =
    (p : List ℕ) (e : Env) (v g w b : List ℕ) (c : Control) → in_layout b ≡ false
    → refusal p e (machine v g w (decoded b)) ≡ or_five (refusal p e (machine v g w c))

-- 0 little-endian, 1 big-endian
abbrev pub OrderIs : Type 0
OrderIs = (b : List ℕ) → (get_or b 23 0 ≡ 0 → ordered b ≡ Little) × (get_or b 23 0 ≡ 1 → ordered b ≡ Big)

-- what the fields' bytes can hold
pub record InRange (c : Control) : Type 0 where
  pub pc : c.pc < 2 ^ 64
  pub target : target_of c.mark < 2 ^ 64
  pub csr : c.csr < 2 ^ 32

abbrev pub RoundTrip : Type 0
RoundTrip = (o : Order) (c : Control) → InRange c → (decoded (encoded o c) ≡ c) × (ordered (encoded o c) ≡ o)

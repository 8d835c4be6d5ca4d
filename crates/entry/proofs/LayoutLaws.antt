-- A block outside the layout is refused with 5, after 1 to 4; byte 23 names the order; and a block that is written
-- reads as it was. Assumes nothing.
use mathlib.Core.Path.{◌≡◌, refl, ap, ◌∙◌}
use mathlib.Core.Bool.{Bool, true, false, cond, not, ◌&&◌, ◌||◌}
use mathlib.Core.List.{List, [], ◌++◌, append_assoc, append-nil}
use Prim.Native.Nat.{ℕ, ◌*◌, ◌^◌, ◌<◌}
use native.Mathlib.Nat.{mod-eq_of_lt}
use native.Mathlib.Omega.{arith}
use borrow.Author.Tests.{eq-eqb, ne_eqb, leb-false}
use lib.Dec.{eqb, leb}
use lib.ListN.{length, take, drop, length-append}
use lib.Seq.{take_at, drop_at}
use Rattle.order.specs.declared.Order.{Order}
use Rattle.order.specs.declared.Order.TheVariants.{Little, Big}
use Rattle.state.specs.declared.control.Control.{Control}
use Rattle.state.specs.declared.control.Mark.{Mark}
use Rattle.state.specs.declared.control.Mark.TheVariants.{Clear, NotTaken, Taken}
use Rattle.state.specs.declared.setup.Refusal.TheVariants.{Registers, Program, WindowSize, SharedAddress, State}
use Rattle.std.specs.Prelude.{Ok, Err}
use Rattle.state.specs.Setup.{refusal, first, registers_bad, program_bad, window_bad, shares, state_bad}
use Rattle.memory.specs.Bytes.{part, number, bytes_of}
use Rattle.memory.proofs.Numbers.{length-bytes_of, number-bytes_of}
use Rattle.entry.specs.Block.{field, byte, broken, by_mark, decoded, ordered, encoded}
use Rattle.entry.specs.Block.{mark_number, target_of, switch_number, order_number}
use Rattle.entry.specs.Layout.{in_layout, or_five, OutsideRefused, OrderIs, RoundTrip}
use Rattle.entry.proofs.BlockLaws.{one_byte, mark-small, switch-small}

-- the tests of a block, by their answers
cases : (l s o : Bool) (k : ℕ) (c : ℕ → Control) → (leb k 2 ≡ false → c k ≡ broken) → l && leb k 2 && s && o ≡ false
    → cond l (cond (s && o) (c k) broken) broken ≡ broken
cases false s o k c f h = refl
cases true false o k c f h = refl
cases true true false k c f h = refl
cases true true true k c f h = f (go (leb k 2) h)
  where
    go : (m : Bool) → m && true && true ≡ false → m ≡ false
    go true e = e
    go false e = refl

-- no mark has a number above 2
no-mark : (b : List ℕ) (k : ℕ) → leb k 2 ≡ false → by_mark b k ≡ broken
no-mark b k h =
    let l : 2 < k = leb-false k 2 h in
    rw (ne_eqb k 0 (λ e. omega arith), ne_eqb k 1 (λ e. omega arith), ne_eqb k 2 (λ e. omega arith))

outside : (b : List ℕ) → in_layout b ≡ false → decoded b ≡ broken
unfolding decoded
outside b h =
    cases (eqb (length b) 24) (leb (byte b 22) 1) (leb (byte b 23) 1) (field b 20 2) (by_mark b)
    (no-mark b (field b 20 2)) h

-- the table of limits with its last row broken
last-broken : (r p s a x y : Bool) → x ≡ true
    → cond r (Err Registers) (cond p (Err Program) (cond s (Err WindowSize) (cond a (Err SharedAddress) (cond x (Err State) (Ok tt)))))
    ≡ or_five (cond r (Err Registers) (cond p (Err Program) (cond s (Err WindowSize) (cond a (Err SharedAddress) (cond y (Err State) (Ok tt))))))
last-broken true p s a x y h = refl
last-broken false true s a x y h = refl
last-broken false false true a x y h = refl
last-broken false false false true x y h = refl
last-broken false false false false x true h = rw h
last-broken false false false false x false h = rw h

broken-bad : (r : ℕ) → state_bad r broken ≡ true
broken-bad r = go (not (eqb r 0))
  where
    go : (z : Bool) → z || true || false || false ≡ true
    go true = refl
    go false = refl

pub outside-refused : OutsideRefused
unfolding refusal first
outside-refused p e v g w b c h =
    let at = e.board in
    let table = length e.table in
    let zero = number (part g 0 8) in
    rw (outside b h)
    (last-broken
    (registers_bad (length v) (length g))
    (program_bad at.program (length p))
    (window_bad at.table table || window_bad at.work (length w))
    (shares at.table table at.work (length w))
    (state_bad zero broken)
    (state_bad zero c)
    (broken-bad zero))

-- the n bytes s behind the bytes a
field_at : (a s r : List ℕ) (at n : ℕ) → length a ≡ at → length s ≡ n → part (a ++ s ++ r) at n ≡ s
field_at a s r at n h k = ap (λ l. take n (drop at l)) (append_assoc a s r) ∙ ap (take n) (drop_at a (s ++ r) at h) ∙ take_at s r n k

-- a number that the n bytes behind the bytes a hold is read back
read_at : (a r : List ℕ) (at n x : ℕ) → length a ≡ at → x < 2 ^ (8 * n) → field (a ++ bytes_of n x ++ r) at n ≡ x
read_at a r at n x h small =
    ap number (field_at a (bytes_of n x) r at n h (length-bytes_of n x)) ∙ number-bytes_of n x ∙ mod-eq_of_lt small

switch-known : (s : Bool) → leb (switch_number s) 1 ≡ true
switch-known true = refl
switch-known false = refl

switch_back : (s : Bool) → eqb (switch_number s) 1 ≡ s
switch_back true = refl
switch_back false = refl

order-known : (o : Order) → leb (order_number o) 1 ≡ true
order-known Little = refl
order-known Big = refl

order_small : (o : Order) → order_number o < 2 ^ 8
order_small Little = omega arith
order_small Big = omega arith

-- a block whose byte is the number of an order names it
order-back : (b : List ℕ) (o : Order) → byte b 23 ≡ order_number o → ordered b ≡ o
unfolding ordered
order-back b Little h = rw h
order-back b Big h = rw h

pub order_is : OrderIs
order_is b = (order-back b Little, order-back b Big)

-- bytes whose fields are a block's are read as that block
assembled : (b : List ℕ) (pc csr : ℕ) (k : Mark) (s : Bool) (o : Order) → length b ≡ 24 → field b 0 8 ≡ pc
    → field b 8 8 ≡ target_of k → field b 16 4 ≡ csr → field b 20 2 ≡ mark_number k → byte b 22 ≡ switch_number s
    → byte b 23 ≡ order_number o → decoded b ≡ record { pc = pc; mark = k; csr = csr; on = s }
unfolding decoded
assembled b pc csr Clear s o l p t x m h e =
    rw (eq-eqb _ _ l, h, switch-known s, e, order-known o, m, switch_back s, p, x)
assembled b pc csr NotTaken s o l p t x m h e =
    rw (eq-eqb _ _ l, h, switch-known s, e, order-known o, m, switch_back s, p, x)
assembled b pc csr (Taken a) s o l p t x m h e =
    rw (eq-eqb _ _ l, h, switch-known s, e, order-known o, m, switch_back s, p, x, t)

-- the bytes of a block, field by field
module _ (o : Order) (c : Control) where
  abbrev p : List ℕ
  p = bytes_of 8 c.pc

  abbrev t : List ℕ
  t = bytes_of 8 (target_of c.mark)

  abbrev x : List ℕ
  x = bytes_of 4 c.csr

  abbrev m : List ℕ
  m = bytes_of 2 (mark_number c.mark)

  abbrev s : List ℕ
  s = bytes_of 1 (switch_number c.on)

  abbrev q : List ℕ
  q = bytes_of 1 (order_number o)

  long : length (encoded o c) ≡ 24
  unfolding encoded
  long = simp (length-append, length-bytes_of)

  at-0 : c.pc < 2 ^ 64 → field (encoded o c) 0 8 ≡ c.pc
  unfolding encoded
  at-0 h =
      let e : encoded o c ≡ [] ++ p ++ (t ++ x ++ m ++ s ++ q) = simp append_assoc in
      ap (λ l. field l 0 8) e ∙ read_at [] (t ++ x ++ m ++ s ++ q) 0 8 c.pc refl h

  at_8 : target_of c.mark < 2 ^ 64 → field (encoded o c) 8 8 ≡ target_of c.mark
  unfolding encoded
  at_8 h =
      let e : encoded o c ≡ p ++ t ++ (x ++ m ++ s ++ q) = simp append_assoc in
      ap (λ l. field l 8 8) e ∙ read_at p (x ++ m ++ s ++ q) 8 8 (target_of c.mark) (simp length-bytes_of) h

  at-16 : c.csr < 2 ^ 32 → field (encoded o c) 16 4 ≡ c.csr
  unfolding encoded
  at-16 h =
      let e : encoded o c ≡ (p ++ t) ++ x ++ (m ++ s ++ q) = simp append_assoc in
      ap (λ l. field l 16 4) e
      ∙ read_at (p ++ t) (m ++ s ++ q) 16 4 c.csr (simp (length-append, length-bytes_of)) h

  at-20 : field (encoded o c) 20 2 ≡ mark_number c.mark
  unfolding encoded
  at-20 =
      let e : encoded o c ≡ (p ++ t ++ x) ++ m ++ (s ++ q) = simp append_assoc in
      ap (λ l. field l 20 2) e
      ∙ read_at (p ++ t ++ x) (s ++ q) 20 2 (mark_number c.mark) (simp (length-append, length-bytes_of))
      (mark-small c.mark)

  at-22 : byte (encoded o c) 22 ≡ switch_number c.on
  unfolding encoded
  at-22 =
      one_byte (encoded o c) 22 (omega (arith, long))
      ∙ read_at (p ++ t ++ x ++ m) q 22 1 (switch_number c.on) (simp (length-append, length-bytes_of))
      (switch-small c.on)

  pub order-written : byte (encoded o c) 23 ≡ order_number o
  unfolding encoded
  order-written =
      let e : encoded o c ≡ (p ++ t ++ x ++ m ++ s) ++ q ++ [] = simp (append_assoc, append-nil) in
      one_byte (encoded o c) 23 (omega (arith, long))
      ∙ ap (λ l. field l 23 1) e
      ∙ read_at (p ++ t ++ x ++ m ++ s) [] 23 1 (order_number o) (simp (length-append, length-bytes_of)) (order_small o)

pub round_trip : RoundTrip
round_trip o c i = (
  assembled (encoded o c) c.pc c.csr c.mark c.on o (long o c) (at-0 o c i.pc) (at_8 o c i.target)
      (at-16 o c i.csr) (at-20 o c) (at-22 o c) (order-written o c),
  order-back (encoded o c) o (order-written o c),
)

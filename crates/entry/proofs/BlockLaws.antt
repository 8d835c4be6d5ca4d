-- The bytes of a control block: written in three words, and read back.
use mathlib.Core.Path.{◌≡◌, sym, ap, ◌∙◌}
use mathlib.Core.Bool.{Bool, true, false}
use mathlib.Core.List.{List, [], ◌∷◌, ◌++◌, append_assoc, append-nil}
use Prim.Native.Nat.{ℕ, suc, ◌+◌, ◌*◌, ◌^◌, ◌≤◌, ◌<◌}
use native.Mathlib.Nat.{zero-add}
use native.Mathlib.Numerals.{add-one}
use native.Mathlib.Omega.{arith}
use borrow.Author.Tests.{eq-eqb, le-leb, lt-leb}
use lib.ListN.{length, get_or, length-append}
use lib.Seq.{drop-cons, drop-length}
use Rattle.order.specs.declared.Order.{Order}
use Rattle.state.specs.declared.control.Control.{Control}
use Rattle.state.specs.declared.control.Mark.{Mark}
use Rattle.state.specs.declared.control.Mark.TheVariants.{Clear, NotTaken, Taken}
use Rattle.memory.specs.Bytes.{part, replaced, number, bytes_of}
use Rattle.memory.proofs.Parts.{replaced-beside}
use Rattle.memory.proofs.Numbers.{length-bytes_of, bytes_of-append}
use Rattle.entry.specs.Block.{field, byte, broken, by_mark, decoded, encoded}
use Rattle.entry.specs.Block.{mark_number, target_of, switch_number, order_number}

-- the byte at, as the number of one byte
pub one_byte : (b : List ℕ) (at : ℕ) → at < length b → byte b at ≡ number (part b at 1)
unfolding number
one_byte b at h = rw (drop-cons b at 0 h) (omega arith)

-- a block of 24 bytes, by the tests of its switch and its order
module _ (b : List ℕ) (long : length b ≡ 24) where
  pub known : byte b 22 ≤ 1 → byte b 23 ≤ 1 → decoded b ≡ by_mark b (field b 20 2)
  unfolding decoded
  known s o = rw (eq-eqb _ _ long, le-leb _ _ s, le-leb _ _ o)

  pub switch-unknown : 1 < byte b 22 → decoded b ≡ broken
  unfolding decoded
  switch-unknown s = rw (eq-eqb _ _ long, lt-leb _ _ s)

  pub order-unknown : byte b 22 ≤ 1 → 1 < byte b 23 → decoded b ≡ broken
  unfolding decoded
  order-unknown s o = rw (eq-eqb _ _ long, le-leb _ _ s, lt-leb _ _ o)

-- what replaces all of a list is what the list becomes
replaced-whole : (d s : List ℕ) → length s ≡ length d → replaced d 0 s ≡ s
unfolding replaced
replaced-whole d s e = rw (zero-add, e, drop-length) (append-nil s)

-- a number of n bytes written behind the a bytes s
behind : (d s : List ℕ) (a n x : ℕ) → length s ≡ a → a ≤ length d → replaced (replaced d 0 s) a (bytes_of n x) ≡ replaced d 0 (s ++ bytes_of n x)
behind d s a n x e h =
    let at : 0 + length s ≡ a = omega arith in
    ap (λ k. replaced (replaced d 0 s) k (bytes_of n x)) (sym at) ∙ replaced-beside d 0 s (omega arith) (bytes_of n x)

pub mark-small : (k : Mark) → mark_number k < 2 ^ 16
mark-small Clear = omega arith
mark-small NotTaken = omega arith
mark-small (Taken t) = omega arith

pub switch-small : (s : Bool) → switch_number s < 2 ^ 8
switch-small true = omega arith
switch-small false = omega arith

-- the last eight bytes: MSACSR, slot mark, switch and order, side by side
last-four : (x m s o : ℕ) → x < 2 ^ 32 → m < 2 ^ 16 → s < 2 ^ 8
    → bytes_of 8 (x + (m + (s + o * 2 ^ 8) * 2 ^ 16) * 2 ^ 32)
    ≡ bytes_of 4 x ++ (bytes_of 2 m ++ (bytes_of 1 s ++ bytes_of 1 o))
last-four x m s o hx hm hs =
    bytes_of-append 4 4 x (m + (s + o * 2 ^ 8) * 2 ^ 16) hx
    ∙ ap (λ l. bytes_of 4 x ++ l) (bytes_of-append 2 2 m (s + o * 2 ^ 8) hm)
    ∙ ap (λ l. bytes_of 4 x ++ (bytes_of 2 m ++ l)) (bytes_of-append 1 1 s o hs)

regrouped : (p t x m s o : List ℕ) → p ++ t ++ (x ++ (m ++ (s ++ o))) ≡ p ++ t ++ x ++ m ++ s ++ o
regrouped p t x m s o = simp append_assoc

-- three words written over 24 bytes are the block's bytes
pub three-words : (b : List ℕ) (o : Order) (c : Control) → length b ≡ 24 → c.csr < 2 ^ 32
    → replaced (replaced (replaced b 0 (bytes_of 8 c.pc)) 8 (bytes_of 8 (target_of c.mark))) 16
    (bytes_of 8 (c.csr + (mark_number c.mark + (switch_number c.on + order_number o * 2 ^ 8) * 2 ^ 16) * 2 ^ 32))
    ≡ encoded o c
unfolding encoded
three-words b o c h small =
    let p = bytes_of 8 c.pc in
    let t = bytes_of 8 (target_of c.mark) in
    let m = mark_number c.mark in
    let s = switch_number c.on in
    let n = order_number o in
    let x = c.csr + (m + (s + n * 2 ^ 8) * 2 ^ 16) * 2 ^ 32 in
    let lp = length-bytes_of 8 c.pc in
    let lt = length-bytes_of 8 (target_of c.mark) in
    let two : length (p ++ t) ≡ 16 = rw length-append (omega arith) in
    let all : length (p ++ t ++ bytes_of 8 x) ≡ length b =
    rw (length-append, length-append) (omega (arith, length-bytes_of 8 x)) in
    ap (λ l. replaced l 16 (bytes_of 8 x)) (behind b p 8 8 (target_of c.mark) lp (omega arith))
    ∙ behind b (p ++ t) 16 8 x two (omega arith)
    ∙ replaced-whole b (p ++ t ++ bytes_of 8 x) all
    ∙ ap (λ l. p ++ t ++ l) (last-four c.csr m s n small (mark-small c.mark) (switch-small c.on))
    ∙ regrouped p t (bytes_of 4 c.csr) (bytes_of 2 m) (bytes_of 1 s) (bytes_of 1 n)

-- An arm of the match on a code from 8 to 87: the two words that it makes are the register that the entry's code, width
-- and old destination stand for. `row` says what the code k of the arm does, and is `refl` where k is a literal.
-- Assumes nothing.
use mathlib.Core.Path.{◌≡◌, refl, ap, ◌∙◌}
use mathlib.Core.List.{List}
use Prim.Native.Nat.{ℕ, ◌/◌, ◌^◌}
use native.Mathlib.Nat.{mod-lt}
use lib.Pow.{pow_pos}
use Rattle.isa.specs.declared.Logic.{Logic}
use Rattle.isa.specs.declared.Width.{Width}
use Rattle.isa.specs.Widths.{bits}
use Rattle.lanes.specs.declared.Lane.{Lane}
use Rattle.lanes.specs.Lane.{lane_of}
use Rattle.each.specs.Lanes.{each_lane}
use Rattle.each.proofs.Words.{both_words}
use Rattle.entries.specs.Cut.{code_of, width_of}
use Rattle.logic.specs.Logic.{logic_bit}
use Rattle.logic.proofs.BitLaws.{both_bits}
use Rattle.memory.specs.declared.Register.{Register}
use Rattle.memory.specs.File.{register_at}
use Rattle.memory.specs.Value.{value, register, Holds}
use Rattle.memory.proofs.Values.{Words}
use Rattle.parallel.specs.Lanes.{Each3}
use Rattle.permute.specs.Permute.{chosen_by_control}
use Rattle.vectors.specs.Register.{build, element, whole, together}
use Rattle.acts.specs.Act.{vector_of, vreg}

-- what holds a number has two words
pub words_of : {r : Register} {x : ℕ} → Holds r x → Words r
unfolding register
words_of {x = x} held = rw held.is (record { low = mod-lt x (pow_pos 64); high = mod-lt (x / 2 ^ 64) (pow_pos 64) })

-- a register of the file, by the number y that the code has for it
pub read_at : (file : List ℕ) {y z : ℕ} {d : Register} → y ≡ z → Holds d (register_at file (vreg y))
    → Holds d (register_at file (vreg z))
read_at file e h = rw e at h

-- c is the code of the entry x, and s and t are registers
pub record Known (x c : ℕ) (s t : Register) : Type 0 where
  pub code : c ≡ code_of x
  pub first : Words s
  pub second : Words t

module _ {x : ℕ} (e : ℕ) {s t : Register} {c k : ℕ} {w : Width} {r : Register} (key : c ≡ k) (known : Known x c s t)
    (width : w ≡ width_of x) where
  -- what holds of the arm's code and the code's width holds of the entry's
  pub of_entry : r ≡ register (vector_of k (bits w) e (value s) (value t))
      → r ≡ register (vector_of (code_of x) (bits (width_of x)) e (value s) (value t))
  of_entry h = rw (← known.code, key, ← width) h

  -- the elements of s and t
  pub each2 : (op : Lane) → ((n d s t : ℕ) → each_lane op n s s t ≡ vector_of k n d s t)
      → Each3 (bits w) r.low (lane_of op (bits w)) s.low s.low t.low
      → Each3 (bits w) r.high (lane_of op (bits w)) s.high s.high t.high
      → r ≡ register (vector_of (code_of x) (bits (width_of x)) e (value s) (value t))
  each2 op row low high =
      of_entry (both_words op w s s t r known.first known.first known.second low high
      ∙ ap register (row (bits w) e (value s) (value t)))

  -- with the old destination, whose value is e
  module _ {d : Register} (held : Holds d e) where
    with-old : (m : ℕ) → m ≡ vector_of k (bits w) (value d) (value s) (value t) → r ≡ register m
        → r ≡ register (vector_of (code_of x) (bits (width_of x)) e (value s) (value t))
    with-old m row made =
        of_entry (made ∙ ap register (row ∙ ap (λ y. vector_of k (bits w) y (value s) (value t)) held.exact))

    pub each3 : (op : Lane) → ((n d s t : ℕ) → each_lane op n d s t ≡ vector_of k n d s t)
        → Each3 (bits w) r.low (lane_of op (bits w)) d.low s.low t.low
        → Each3 (bits w) r.high (lane_of op (bits w)) d.high s.high t.high
        → r ≡ register (vector_of (code_of x) (bits (width_of x)) e (value s) (value t))
    each3 op row low high =
        with-old _ (row (bits w) (value d) (value s) (value t))
        (both_words op w d s t r (words_of held) known.first known.second low high)

    -- VSHF, by the controls in the old destination
    pub chosen3 : ((n d s t : ℕ) → whole n (chosen_by_control n d s t) ≡ vector_of k n d s t)
        → r ≡ register (whole (bits w) (chosen_by_control (bits w) (value d) (value s) (value t)))
        → r ≡ register (vector_of (code_of x) (bits (width_of x)) e (value s) (value t))
    chosen3 row made = with-old _ (row (bits w) (value d) (value s) (value t)) made

-- the bits of s and t, which have no width
module _ {x : ℕ} (e : ℕ) {s t : Register} {c k : ℕ} {r : Register} (key : c ≡ k) (known : Known x c s t)
    (hr : Words r) where
  pub bits2 : (op : Logic) → ((n d s t : ℕ) → together 1 (logic_bit op) s s t ≡ vector_of k n d s t)
      → r.low ≡ build 1 (λ i. logic_bit op (element 1 s.low i) (element 1 s.low i) (element 1 t.low i)) 64
      → r.high ≡ build 1 (λ i. logic_bit op (element 1 s.high i) (element 1 s.high i) (element 1 t.high i)) 64
      → r ≡ register (vector_of (code_of x) (bits (width_of x)) e (value s) (value t))
  bits2 op row low high =
      of_entry e key known refl
      (both_bits op s s t r known.first known.first known.second hr low high
      ∙ ap register (row (bits (width_of x)) e (value s) (value t)))

  -- with those of the old destination, whose value is e
  pub bits3 : {d : Register} → Holds d e
      → (op : Logic) → ((n d s t : ℕ) → together 1 (logic_bit op) d s t ≡ vector_of k n d s t)
      → r.low ≡ build 1 (λ i. logic_bit op (element 1 d.low i) (element 1 s.low i) (element 1 t.low i)) 64
      → r.high ≡ build 1 (λ i. logic_bit op (element 1 d.high i) (element 1 s.high i) (element 1 t.high i)) 64
      → r ≡ register (vector_of (code_of x) (bits (width_of x)) e (value s) (value t))
  bits3 {d} held op row low high =
      with-old e key known refl held _ (row (bits (width_of x)) (value d) (value s) (value t))
      (both_bits op d s t r (words_of held) known.first known.second hr low high)

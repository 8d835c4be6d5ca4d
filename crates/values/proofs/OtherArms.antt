-- An arm of the match on a code from 88 to 104. `row` says what the code k of the arm does with the machine m: `refl`
-- where k is a literal, and `unsaid` in the last arm, where k is none of the codes listed.
-- Assumes nothing.
use mathlib.Core.Path.{◌≡◌, refl, sym, ap, ◌∙◌}
use mathlib.Core.Bool.{Bool, true, false, cond}
use mathlib.Core.List.{List, [], ◌∷◌}
use Prim.Native.Nat.{ℕ}
use native.Mathlib.Omega.{arith}
use lib.Dec.{eqb}
use Rattle.isa.specs.declared.BitOp.TheVariants as bit
use Rattle.isa.specs.declared.Fixed.TheVariants.{MsubrQ}
use Rattle.isa.specs.declared.Saturate.{Saturate}
use Rattle.isa.specs.declared.Width.{Width}
use Rattle.isa.specs.Widths.{bits}
use Rattle.lanes.specs.declared.Lane.TheVariants as lane
use Rattle.lanes.specs.Lane.{lane_of}
use Rattle.each.proofs.Words.{both_words}
use Rattle.entries.specs.Cut.{code_of, width_of, imm_of}
use Rattle.forms.specs.Forms.{bit_of, fixed_of}
use Rattle.memory.specs.declared.Register.{Register}
use Rattle.memory.specs.Value.{value, register, Holds}
use Rattle.ops.proofs.Find.{Others, among, none}
use Rattle.parallel.specs.Lanes.{Each3}
use Rattle.state.specs.Machine.{Machine}
use Rattle.vectors.specs.Register.{filled}
use Rattle.vectors.proofs.Sizes.{shares}
use Rattle.vectors.proofs.Wholes.{value-filled}
use Rattle.acts.specs.Act.{At, said, source_in, fixed_in, values, value_of}
use Rattle.values.proofs.Arms.{words_of}

-- ---- where the code is none of these, what is said first

abbrev pub codes_of : {A : Type 0} → List (At A) → List ℕ
codes_of [] = []
codes_of (l ∷ ls) = l.code ∷ codes_of ls

module _ {A : Type 0} (other : A) (c : ℕ) where
  passed : (l : At A) (ls : List (At A)) (b : Bool) → cond b true (among c (codes_of ls)) ≡ false
      → (among c (codes_of ls) ≡ false → said other c ls ≡ other) → cond b l.does (said other c ls) ≡ other
  passed l ls true h next = absurd (let z : ◌≡◌ {A = ℕ} 0 1 = cc in omega arith)
  passed l ls false h next = next h

  without : (ls : List (At A)) → among c (codes_of ls) ≡ false → said other c ls ≡ other
  without [] h = refl
  without (l ∷ ls) h = passed l ls (eqb l.code c) h (λ m. without ls m)

  pub unsaid : (ls : List (At A)) → Others c (Unit {0}) (codes_of ls) → other ≡ said other c ls
  unsaid ls h = sym (without ls (none c (codes_of ls) (Unit {0}) h).1)

-- ---- the arms

-- what the code k does
abbrev pub value_at : Machine → ℕ → ℕ → ℕ
value_at m x k = said (fixed_in m x (fixed_of MsubrQ)) k (values m x)

module _ (m : Machine) (x : ℕ) {k c : ℕ} {r : Register} (key : c ≡ k) (code : c ≡ code_of x) where
  pub of-value : r ≡ register (value_at m x k) → r ≡ register (value_of m x)
  of-value h = rw (← code, key) h

  -- t has the immediate in every element
  pub saturated : (o : Saturate) {w : Width} {s t : Register} {i : ℕ} → w ≡ width_of x → Holds s (source_in m x)
      → i ≡ imm_of x → t ≡ register (filled (bits w) i)
      → bit_of (bit.Saturate o) (bits (width_of x)) (source_in m x) (source_in m x) (imm_of x) ≡ value_at m x k
      → Each3 (bits w) r.low (lane_of (lane.Bit (bit.Saturate o)) (bits w)) s.low s.low t.low
      → Each3 (bits w) r.high (lane_of (lane.Bit (bit.Saturate o)) (bits w)) s.high s.high t.high
      → r ≡ register (value_of m x)
  saturated o {w} {s} {t} {i} width held imm is row low high =
      let hs = words_of held in
      let all : Holds t (filled (bits w) i) =
      (record { is = is; exact = ap value is ∙ value-filled (shares w) i }) in
      of-value
      (rw (← row, ← width, ← held.exact, ← imm, ← all.exact)
      (both_words (lane.Bit (bit.Saturate o)) w s s t r hs hs (words_of all) low high))

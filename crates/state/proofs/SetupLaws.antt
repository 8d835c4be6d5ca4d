-- What an accepted set-up keeps.
use Rattle.std.proofs.Common.{◌≡◌, ℕ, ◌+◌, ◌%◌, ◌^◌, ◌≤◌, Bool, true, false, cond, not, ◌||◌, eqb, ltb, List, [], ◌∷◌, length, refl, arith, ltb-false}
use Rattle.std.specs.Prelude.{Ok, Err, Result, ⊤}
use Rattle.state.specs.declared.setup.Refusal.{Refusal}
use Rattle.state.specs.Machine.{Env, Machine}
use Rattle.state.specs.Setup.{Limit, refusal, first, program_bad, window_bad}
use Rattle.state.proofs.TestLaws.{or_left, or_right, vectors-sized, generals-sized}

-- a row that is passed is not broken, and the rest is accepted
passed : (l : Limit) (ls : List Limit) → first (l ∷ ls) ≡ Ok tt → (l.broken ≡ false) × (first ls ≡ Ok tt)
unfolding first
passed l ls e = go l.broken e
  where
    go : (b : Bool) → cond b (Err l.refusal) (first ls) ≡ Ok tt → (b ≡ false) × (first ls ≡ Ok tt)
    go true k = let z : ◌≡◌ {A = ℕ} 0 1 = cc in absurd (omega arith)
    go false k = (refl, k)

-- rows that are tested one after the other: a broken one is the first, and behind one that is not the rest answers
abbrev tested : Bool → Refusal → Result ⊤ Refusal
tested b r = cond b (Err r) (Ok tt)

abbrev row : Bool → Refusal → Limit
row b r = record { broken = b; refusal = r }

pub whole : (b : Bool) (r : Refusal) → ◌≡◌ {A = Result ⊤ Refusal} (Ok tt) (tested b r) → b ≡ false
whole true r k = let z : ◌≡◌ {A = ℕ} 0 1 = cc in absurd (omega arith)
whole false r k = refl

pub here : (b : Bool) (r x : Refusal) (ls : List Limit) → ◌≡◌ {A = Result ⊤ Refusal} (Err x) (tested b r)
    → Err x ≡ first (row b r ∷ ls)
unfolding first
here true r x ls k = k
here false r x ls k = let z : ◌≡◌ {A = ℕ} 0 1 = cc in absurd (omega arith)

pub next : (b : Bool) (r : Refusal) (q : Result ⊤ Refusal) (ls : List Limit)
    → ◌≡◌ {A = Result ⊤ Refusal} (Ok tt) (tested b r) → q ≡ first ls → q ≡ first (row b r ∷ ls)
unfolding first
next b r q ls e k = rw (whole b r e) k

pub last : (b : Bool) (r : Refusal) (q : Result ⊤ Refusal) → q ≡ tested b r → q ≡ first (row b r ∷ [])
unfolding first
last b r q k = k

-- a window that keeps its limits is small, and ends at 2^64 or before
window-small : (base n : ℕ) → window_bad base n ≡ false → n ≤ 1048576
window-small base n e = ltb-false 1048576 n (or_left (ltb 1048576 n) (ltb (2 ^ 64) (base + n)) e)

window-ends : (base n : ℕ) → window_bad base n ≡ false → base + n ≤ 2 ^ 64
window-ends base n e = ltb-false (2 ^ 64) (base + n) (or_right (ltb 1048576 n) (ltb (2 ^ 64) (base + n)) e)

-- and so is a program that keeps its own
pub program-small : (base n : ℕ) → program_bad base n ≡ false → n ≤ 262144
program-small base n e =
    let odd = not (eqb (base % 4) 0) || not (eqb (n % 4) 0) in
    let large = ltb 262144 n in
    ltb-false 262144 n (or_right odd large (or_left (odd || large) (ltb (2 ^ 64) (base + n)) e))

pub record Sized (e : Env) (m : Machine) : Type 0 where
  pub vectors : length m.vec ≡ 512
  pub generals : length m.gen ≡ 256
  pub table-small : length e.table ≤ 1048576
  pub work-small : length m.work ≤ 1048576
  pub table : e.board.table + length e.table ≤ 2 ^ 64
  pub work : e.board.work + length m.work ≤ 2 ^ 64

pub accepted : (p : List ℕ) (e : Env) (m : Machine) → refusal p e m ≡ Ok tt → Sized e m
unfolding refusal
accepted p e m r =
    let one = passed _ _ r in
    let two = passed _ _ one.1 in
    let three = passed _ _ two.1 in
    let t = window_bad e.board.table (length e.table) in
    let w = window_bad e.board.work (length m.work) in
    record {
      vectors = vectors-sized (length m.vec) (length m.gen) one.0;
      generals = generals-sized (length m.vec) (length m.gen) one.0;
      table-small = window-small e.board.table (length e.table) (or_left t w three.0);
      work-small = window-small e.board.work (length m.work) (or_right t w three.0);
      table = window-ends e.board.table (length e.table) (or_left t w three.0);
      work = window-ends e.board.work (length m.work) (or_right t w three.0);
    }

pub program-accepted : (p : List ℕ) (e : Env) (m : Machine) → refusal p e m ≡ Ok tt
    → program_bad e.board.program (length p) ≡ false
unfolding refusal
program-accepted p e m r = (passed _ _ (passed _ _ r).1).0

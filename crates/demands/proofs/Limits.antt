-- The limits of set-up, row by row: the machine's test of a row reflects what document 01 says there. Assumes nothing.
use mathlib.Core.Path.{◌≡◌, refl, sym, ap, ◌∙◌}
use mathlib.Core.Bool.{Bool, true, false, cond, not, ◌&&◌, ◌||◌}
use mathlib.Core.List.{List, [], ◌∷◌, ◌++◌}
use mathlib.Core.Logic.{◌⊎◌}
use Prim.Native.Nat.{ℕ, ◌+◌, ◌%◌, ◌^◌, ◌≤◌, ◌<◌}
use native.Mathlib.Decide.{dec_le}
use native.Mathlib.Omega.{arith}
use lib.Dec.{eqb, ltb}
use lib.ListN.{length}
use Rattle.memory.specs.Bytes.{part, number}
use Rattle.state.specs.declared.control.Control.{Control}
use Rattle.state.specs.declared.control.Mark.{Mark}
use Rattle.state.specs.declared.control.Mark.TheVariants.{Clear, NotTaken, Taken}
use Rattle.state.specs.declared.setup.Refusal.{Refusal}
use Rattle.state.specs.declared.setup.Refusal.TheVariants as refusals
use Rattle.std.specs.Prelude.{Ok, Err, Result, ⊤}
use Rattle.state.specs.Csr.{masked}
use Rattle.state.specs.Machine.{Env, Machine}
use Rattle.state.specs.Numbers.{refusal_number}
use Rattle.state.specs.Setup.{refusal, first, setup_number, registers_bad, program_bad, window_bad, shares, target_bad, state_bad}
use Rattle.demands.specs.Limits.{Registers, Program, Window, Shared, State, limits, FirstLimit}
use Rattle.demands.specs.Tables.{Row, row, First, none, given, passed, Not, Some, little, Inside}
use Rattle.demands.proofs.CsrBits.{outside-reflects}
use Rattle.demands.proofs.Little.{little-number}
use Rattle.demands.proofs.Reflects.{Reflects, clash, likewise, eq-reflects, lt-reflects, not-reflects, or-reflects, and-reflects, four-reflect}

differs : (x y : ℕ) → Reflects (not (eqb x y)) (Not (x ≡ y))
differs x y = not-reflects (eqb x y) (eq-reflects x y)

registers : (m : Machine) → Reflects (registers_bad (length m.vec) (length m.gen)) (Registers m)
registers m = or-reflects _ _ (differs (length m.vec) 512) (differs (length m.gen) 256)

pub program : (base n : ℕ) → Reflects (program_bad base n) (Program base n)
program base n =
    four-reflect _ _ _ _ (differs (base % 4) 0) (differs (n % 4) 0) (lt-reflects 262144 n)
    (lt-reflects (2 ^ 64) (base + n))

window : (base n : ℕ) → Reflects (window_bad base n) (Window base n)
window base n = or-reflects _ _ (lt-reflects 1048576 n) (lt-reflects (2 ^ 64) (base + n))

windows : (e : Env) (m : Machine)
    → Reflects (window_bad e.board.table (length e.table) || window_bad e.board.work (length m.work))
    (Window e.board.table (length e.table) ⊎ Window e.board.work (length m.work))
windows e m =
    or-reflects _ _ (window e.board.table (length e.table)) (window e.board.work (length m.work))

-- windows of n bytes from a and of k bytes from b that begin before each other's end: the later beginning is in both
meet : (a n b k : ℕ) → Not (n ≡ 0) × Not (k ≡ 0) × (b < a + n) × (a < b + k) → Some (λ x. Inside a n x × Inside b k x)
meet a n b k h = go (dec_le a b)
  where
    go : Dec (a ≤ b) → Some (λ x. Inside a n x × Inside b k x)
    go (yes l) = record { number = b; holds = ((l, h.2), (omega arith, omega (arith, h.1))) }
    go (no l) = record { number = a; holds = ((omega arith, omega (arith, h.0)), (omega arith, h.3)) }

met : (a n b k : ℕ) → Some (λ x. Inside a n x × Inside b k x) → Not (n ≡ 0) × Not (k ≡ 0) × (b < a + n) × (a < b + k)
met a n b k s =
    let i = s.holds.0 in
    let j = s.holds.1 in
    (λ z. omega (arith, i), λ z. omega (arith, j), omega (arith, i, j), omega (arith, i, j))

shared : (a n b k : ℕ) → Reflects (shares a n b k) (Some (λ x. Inside a n x × Inside b k x))
shared a n b k =
    likewise (λ h. meet a n b k (h.0.0.0, h.0.0.1, h.0.1, h.1))
    (λ s. let h = met a n b k s in (((h.0, h.1), h.2), h.3))
    (and-reflects _ _ (and-reflects _ _ (and-reflects _ _ (differs n 0) (differs k 0)) (lt-reflects b (a + n)))
    (lt-reflects a (b + k)))

meets : (e : Env) (m : Machine)
    → Reflects (shares e.board.table (length e.table) e.board.work (length m.work)) (Shared e m)
meets e m = shared e.board.table (length e.table) e.board.work (length m.work)

-- the target of a mark set and taken
taken : (k : Mark) → Reflects (target_bad k) (Some (λ t. (k ≡ Taken t) × Not (t % 4 ≡ 0)))
taken Clear = record { yes = λ e. clash e refl; no = λ e s. let z : ◌≡◌ {A = ℕ} 0 1 = cc s.holds.0 in omega arith }
taken NotTaken =
    record { yes = λ e. clash e refl; no = λ e s. let z : ◌≡◌ {A = ℕ} 0 1 = cc s.holds.0 in omega arith }
taken (Taken t) =
    likewise (λ n. record { number = t; holds = (refl, n) })
    (λ s. let e : s.number ≡ t = cc s.holds.0 in λ z. s.holds.1 (rw e z))
    (differs (t % 4) 0)

zero : (g : List ℕ) → Reflects (not (eqb (number (part g 0 8)) 0)) (Not (little g 0 8 ≡ 0))
zero g =
    let e = little-number g 0 8 in
    likewise (λ n z. n (sym e ∙ z)) (λ n z. n (e ∙ z)) (differs (number (part g 0 8)) 0)

state : (g : List ℕ) (c : Control) → Reflects (state_bad (number (part g 0 8)) c) (State g c)
state g c = four-reflect _ _ _ _ (zero g) (differs (c.pc % 4) 0) (taken c.mark) (outside-reflects c.csr)

-- the number of a set-up, and n where it is accepted
abbrev pub or_number : Result ⊤ Refusal → ℕ → ℕ
or_number (Ok tt) n = n
or_number (Err r) n = refusal_number r

-- one row more before the rest
row_first : (b : Bool) {P : Type 0} → Reflects b P → (r : Refusal) (s : Result ⊤ Refusal) (rows : List Row) (n : ℕ)
    → (b ≡ false → First rows (or_number s n))
    → First (row (refusal_number r) P ∷ rows) (or_number (cond b (Err r) s) n)
row_first true x r s rows n f = given (x.yes refl)
row_first false x r s rows n f = passed (x.no refl) (f refl)

-- the limits before other rows
pub limits-first : (p : List ℕ) (e : Env) (m : Machine) (rows : List Row) (n : ℕ)
    → (refusal p e m ≡ Ok tt → First rows n)
    → First (limits p e m ++ rows) (or_number (refusal p e m) n)
unfolding refusal first
limits-first p e m rows n f =
    row_first _ (registers m) refusals.Registers _ _ n
    (λ a. row_first _ (program e.board.program (length p)) refusals.Program _ _ n
    (λ b. row_first _ (windows e m) refusals.WindowSize _ _ n
    (λ c. row_first _ (meets e m) refusals.SharedAddress _ _ n
    (λ d. row_first _ (state m.gen m.ctl) refusals.State (Ok tt) _ n (λ g. f (rw (a, b, c, d, g)))))))

numbered : (s : Result ⊤ Refusal) → or_number s 0 ≡ setup_number s
numbered (Ok tt) = refl
numbered (Err r) = refl

pub first-limit : FirstLimit
first-limit p e m = rw (numbered (refusal p e m)) at (limits-first p e m [] 0 (λ a. none))

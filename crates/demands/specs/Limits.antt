-- The limits of set-up: document 01's table, a row a number, in its order. A set-up is refused with the number of the
-- first row that applies, and accepted where none does.
use Rattle.std.specs.Prelude.{◌≡◌, ◌⊎◌, List, [], ◌∷◌, ℕ, ◌+◌, ◌*◌, ◌%◌, ◌^◌, ◌<◌, length}
use Rattle.state.specs.declared.control.Control.{Control}
use Rattle.state.specs.declared.control.Mark.TheVariants.{Taken}
use Rattle.state.specs.Machine.{Env, Machine}
use Rattle.state.specs.Setup.{refusal, setup_number}
use Rattle.demands.specs.Tables.{Row, row, First, Not, Some, little, Bit, csr_bits, Inside}

-- vector buffer is not 512 bytes, or general registers are not 32 of 8
abbrev pub Registers : Machine → Type 0
Registers m = Not (length m.vec ≡ 512) ⊎ Not (length m.gen ≡ 8 * 32)

-- n bytes from base: the base is no multiple of 4, they are no whole words, over 65,536 words, or their end passes 2^64
abbrev pub Program : ℕ → ℕ → Type 0
Program base n = Not (base % 4 ≡ 0) ⊎ Not (n % 4 ≡ 0) ⊎ (4 * 65536 < n) ⊎ (2 ^ 64 < base + n)

-- a window is over 1,048,576 bytes, or its end passes 2^64
abbrev pub Window : ℕ → ℕ → Type 0
Window base n = (1048576 < n) ⊎ (2 ^ 64 < base + n)

-- there is an address that both windows hold
abbrev pub Shared : Env → Machine → Type 0
Shared e m = Some (λ x. Inside e.board.table (length e.table) x × Inside e.board.work (length m.work) x)

-- register 0 is not zero, program counter, or the target of a mark set and taken, is no multiple of 4, or MSACSR has a
-- bit outside 0107FFFF
abbrev pub State : List ℕ → Control → Type 0
State gen c =
    Not (little gen 0 8 ≡ 0)
    ⊎ Not (c.pc % 4 ≡ 0)
    ⊎ Some (λ t. (c.mark ≡ Taken t) × Not (t % 4 ≡ 0))
    ⊎ Some (λ k. Bit k c.csr × Not (Bit k csr_bits))

abbrev pub limits : List ℕ → Env → Machine → List Row
limits p e m =
    row 1 (Registers m)
    ∷ row 2 (Program e.board.program (length p))
    ∷ row 3 (Window e.board.table (length e.table) ⊎ Window e.board.work (length m.work))
    ∷ row 4 (Shared e m)
    ∷ row 5 (State m.gen m.ctl)
    ∷ []

abbrev pub FirstLimit : Type 1
FirstLimit = (p : List ℕ) (e : Env) (m : Machine) → First (limits p e m) (setup_number (refusal p e m))

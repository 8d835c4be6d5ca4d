-- Demand 3. Two accepted runs are alike but for a larger budget and a larger work window: the second holds every
-- address of the first, with the same bytes, wherever it begins and however long it is. If the first stopped neither
-- with 17 nor with 20, the second ends alike, and leaves every added byte alone; and both windows are as long as they
-- were. That both runs have the same byte order (request 7/12) is asked by the statement's shape: it has one.
use Rattle.std.specs.Prelude.{◌≡◌, ℕ, ◌+◌, ◌-◌, ◌≤◌, ◌<◌, List, length, get_or, Ok}
use Rattle.order.specs.declared.Order.{Order}
use Rattle.state.specs.declared.control.Control.{Control}
use Rattle.state.specs.Machine.{Env, env, machine}
use Rattle.state.specs.Setup.{refusal}
use Rattle.machine.specs.Numbers.{reason_number}
use Rattle.machine.specs.Run.{Run, whole_run}

-- a window with bytes w₂ from b₂ holds every address of one with bytes w₁ from b₁, with the same byte
abbrev pub Holds : ℕ → List ℕ → ℕ → List ℕ → Type 0
Holds b₁ w₁ b₂ w₂ = (k : ℕ) → k < length w₁ → (b₂ ≤ b₁ + k) × (b₁ + k < b₂ + length w₂) × (get_or w₂ (b₁ + k - b₂) 0 ≡ get_or w₁ k 0)

-- w' has the bytes of w, a window from b₂, at every address that is none of the n from b₁
abbrev pub Untouched : ℕ → ℕ → ℕ → List ℕ → List ℕ → Type 0
Untouched b₁ n b₂ w w' = (j : ℕ) → j < length w → ((b₁ ≤ b₂ + j) × (b₂ + j < b₁ + n) → ⊥) → get_or w' j 0 ≡ get_or w j 0

-- how the second run r₂ ends beside the first, r₁: work windows from b₁ and b₂, of which the first has n bytes and the second had w₂
pub record EndsAlike (b₁ n b₂ : ℕ) (w₂ : List ℕ) (r₁ r₂ : Run) : Type 0 where
  pub reason : r₂.reason ≡ r₁.reason
  pub count : r₂.count ≡ r₁.count
  pub vec : r₂.after.vec ≡ r₁.after.vec
  pub gen : r₂.after.gen ≡ r₁.after.gen
  pub ctl : r₂.after.ctl ≡ r₁.after.ctl
  pub first-length : length r₁.after.work ≡ n
  pub second-length : length r₂.after.work ≡ length w₂
  pub shared : Holds b₁ r₁.after.work b₂ r₂.after.work
  pub added : Untouched b₁ n b₂ w₂ r₂.after.work

abbrev pub placed_env : Order → ℕ → ℕ → ℕ → List ℕ → Env
placed_env order pb tb wb table = env (record { program = pb; table = tb; work = wb; order = order }) table

-- program, table, byte order, registers and controls are the same; the work windows are w₁ from b₁ and w₂ from b₂
unfoldable pub Wider : Type 0
Wider =
    (order : Order) (program table : List ℕ) (pb tb b₁ b₂ : ℕ) (v g : List ℕ) (c : Control) (w₁ w₂ : List ℕ) (n₁ n₂ : ℕ)
    → Holds b₁ w₁ b₂ w₂
    → n₁ ≤ n₂
    → refusal program (placed_env order pb tb b₁ table) (machine v g w₁ c) ≡ Ok tt
    → refusal program (placed_env order pb tb b₂ table) (machine v g w₂ c) ≡ Ok tt
    → (reason_number (whole_run program (placed_env order pb tb b₁ table) n₁ (machine v g w₁ c)).reason ≡ 17 → ⊥)
    → (reason_number (whole_run program (placed_env order pb tb b₁ table) n₁ (machine v g w₁ c)).reason ≡ 20 → ⊥)
    → EndsAlike b₁ (length w₁) b₂ w₂
    (whole_run program (placed_env order pb tb b₁ table) n₁ (machine v g w₁ c))
    (whole_run program (placed_env order pb tb b₂ table) n₂ (machine v g w₂ c))

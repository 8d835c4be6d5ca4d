-- When there is a word at the program counter.
use Rattle.std.proofs.Common.{◌≡◌, ℕ, ◌+◌, ◌-◌, ◌%◌, ◌<◌, ◌≤◌, Bool, true, false, cond, ◌&&◌, eqb, leb, List, length, refl, arith, eq-eqb, ne_eqb, le-leb, leb-true}
use borrow.Author.Tests.{lt-leb}
use Rattle.memory.specs.Bytes.{part, number}
use Rattle.state.proofs.TestLaws.{and-false}
use Rattle.std.specs.Prelude.{Some, None}
use Rattle.state.specs.Fetch.{fetched}

module _ (program : List ℕ) (base pc : ℕ) where
  pub fetched-below : pc < base → fetched program base pc ≡ None
  unfolding fetched
  fetched-below h = simp (lt-leb base pc h)

  pub fetched-odd : ((pc - base) % 4 ≡ 0 → ⊥) → fetched program base pc ≡ None
  unfolding fetched
  fetched-odd h = simp (ne_eqb ((pc - base) % 4) 0 h, and-false)

  pub fetched-past : length program < pc - base + 4 → fetched program base pc ≡ None
  unfolding fetched
  fetched-past h = simp (lt-leb (pc - base + 4) (length program) h, and-false)

  pub fetched-word : base ≤ pc → (pc - base) % 4 ≡ 0 → pc - base + 4 ≤ length program → fetched program base pc ≡ Some (number (part program (pc - base) 4))
  unfolding fetched
  fetched-word b m l = simp (le-leb base pc b, eq-eqb ((pc - base) % 4) 0 m, le-leb (pc - base + 4) (length program) l)

  -- where there is one
  pub fetched-inside : {w : ℕ} → fetched program base pc ≡ Some w → (base ≤ pc) × (pc - base + 4 ≤ length program)
  unfolding fetched
  fetched-inside {w} = go (leb base pc) (eqb ((pc - base) % 4) 0) (leb (pc - base + 4) (length program)) refl refl
    where
      go : (a b c : Bool) → leb base pc ≡ a → leb (pc - base + 4) (length program) ≡ c
          → cond (a && b && c) (Some (number (part program (pc - base) 4))) None ≡ Some w
          → (base ≤ pc) × (pc - base + 4 ≤ length program)
      go true true true h k q = (leb-true base pc h, leb-true (pc - base + 4) (length program) k)
      go true true false h k q = let z : ◌≡◌ {A = ℕ} 0 1 = cc in absurd (omega arith)
      go true false c h k q = let z : ◌≡◌ {A = ℕ} 0 1 = cc in absurd (omega arith)
      go false b c h k q = let z : ◌≡◌ {A = ℕ} 0 1 = cc in absurd (omega arith)

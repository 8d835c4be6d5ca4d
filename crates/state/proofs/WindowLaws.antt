-- Laws of the place of sixteen bytes in a window, and of the address that is missing.
use Rattle.std.proofs.Common.{◌≡◌, ℕ, zero, suc, ◌+◌, ◌-◌, ◌%◌, ◌^◌, ◌<◌, ◌≤◌, Bool, true, false, cond, ltb, sym, refl, ap, ◌∙◌, arith, le-leb}
use native.Mathlib.Numerals.{unary_clauses}
use native.Mathlib.Decide.{dec_le}
use borrow.Author.Tests.{lt-leb}
use Rattle.state.proofs.TestLaws.{and-false, ltb-same}
use Rattle.state.specs.declared.board.Board.{Board}
use Rattle.std.specs.Prelude.{Some, None, Option}
use Rattle.state.specs.declared.windows.Spot.TheVariants.{Table, Work, Outside}
use Rattle.state.specs.Windows.{placed, lies_in, first_outside, missing, or_else, or_work, spot_of}

module _ (base len a : ℕ) where
  pub placed_at : base ≤ a → a + 16 ≤ base + len → placed base len a ≡ Some (a - base)
  unfolding placed
  placed_at h k = simp (le-leb base a h, le-leb (a + 16) (base + len) k)

  pub placed_below : a < base → placed base len a ≡ None
  unfolding placed
  placed_below h = simp (lt-leb base a h)

  pub placed_past : base + len < a + 16 → placed base len a ≡ None
  unfolding placed
  placed_past k = simp (lt-leb (a + 16) (base + len) k, and-false)

  -- what a place says: the window holds the first byte and the last
  pub placed-fits : (i : ℕ) → placed base len a ≡ Some i → (base ≤ a) × (a + 16 ≤ base + len) × (i ≡ a - base)
  placed-fits i e = go (dec_le base a) (dec_le (a + 16) (base + len))
    where
      go : Dec (base ≤ a) → Dec (a + 16 ≤ base + len) → (base ≤ a) × (a + 16 ≤ base + len) × (i ≡ a - base)
      go (yes h) (yes k) = (h, k, cc (placed_at h k))
      go (yes h) (no k) = let z : ◌≡◌ {A = ℕ} 0 1 = cc (placed_past (omega arith)) in absurd (omega arith)
      go (no h) d = let z : ◌≡◌ {A = ℕ} 0 1 = cc (placed_below (omega arith)) in absurd (omega arith)

module _ (b : Board) (table work a : ℕ) where
  -- the address that is missing where neither window has all sixteen
  abbrev missing_here : ℕ
  missing_here = missing b table work a

  abbrev in_table : Option ℕ
  in_table = placed b.table table a

  abbrev in_work : Option ℕ
  in_work = placed b.work work a

  -- the bytes that a spot names are there
  pub spot-table : (i : ℕ) → spot_of b table work a ≡ Table i
      → (b.table ≤ a) × (a + 16 ≤ b.table + table) × (i ≡ a - b.table)
  spot-table i e = go in_table refl e
    where
      go : (f : Option ℕ) → in_table ≡ f → or_else missing_here f in_work ≡ Table i
          → (b.table ≤ a) × (a + 16 ≤ b.table + table) × (i ≡ a - b.table)
      go (Some j) p q = placed-fits b.table table a i (cc)
      go None p q = go₂ in_work q
        where
          go₂ : (f : Option ℕ) → or_work missing_here f ≡ Table i
              → (b.table ≤ a) × (a + 16 ≤ b.table + table) × (i ≡ a - b.table)
          go₂ (Some j) r = let z : ◌≡◌ {A = ℕ} 0 1 = cc in absurd (omega arith)
          go₂ None r = let z : ◌≡◌ {A = ℕ} 0 1 = cc in absurd (omega arith)

  pub spot-work : (i : ℕ) → spot_of b table work a ≡ Work i
      → (b.work ≤ a) × (a + 16 ≤ b.work + work) × (i ≡ a - b.work)
  spot-work i e = go in_table e
    where
      go : (f : Option ℕ) → or_else missing_here f in_work ≡ Work i
          → (b.work ≤ a) × (a + 16 ≤ b.work + work) × (i ≡ a - b.work)
      go (Some j) q = let z : ◌≡◌ {A = ℕ} 0 1 = cc in absurd (omega arith)
      go None q = go₂ in_work refl q
        where
          go₂ : (f : Option ℕ) → in_work ≡ f → or_work missing_here f ≡ Work i
              → (b.work ≤ a) × (a + 16 ≤ b.work + work) × (i ≡ a - b.work)
          go₂ (Some j) p r = placed-fits b.work work a i (cc)
          go₂ None p r = let z : ◌≡◌ {A = ℕ} 0 1 = cc in absurd (omega arith)

  -- and one that names none has the address
  pub spot-outside : (x : ℕ) → spot_of b table work a ≡ Outside x → x ≡ missing b table work a
  spot-outside x e = go in_table in_work e
    where
      go : (t w : Option ℕ) → or_else missing_here t w ≡ Outside x → x ≡ missing_here
      go (Some j) w q = let z : ◌≡◌ {A = ℕ} 0 1 = cc in absurd (omega arith)
      go None (Some j) q = let z : ◌≡◌ {A = ℕ} 0 1 = cc in absurd (omega arith)
      go None None q = cc

module _ (base len x : ℕ) where
  pub lies-below : x < base → lies_in base len x ≡ false
  unfolding lies_in
  lies-below h = simp (lt-leb base x h)

  pub lies-from : base ≤ x → lies_in base len x ≡ ltb (x - base) len
  unfolding lies_in
  lies-from h =
      simp (le-leb base x h) (ltb-same x (base + len) (x - base) len (λ k. omega arith) (λ k. omega arith))

  -- one address further, where this one lies in the window
  pub outside-next : (n : ℕ) → lies_in base len x ≡ true
      → first_outside (suc n) base len x ≡ first_outside n base len ((x + 1) % 2 ^ 64)
  unfolding first_outside
  outside-next n h = simp (h)

  -- the same, where n are left
  pub outside-on : (n y : ℕ) → 0 < n → y ≡ (x + 1) % 2 ^ 64 → lies_in base len x ≡ true
      → first_outside (n - 1) base len y ≡ first_outside n base len x
  outside-on zero y p e h = absurd (omega arith)
  outside-on (suc n) y p e h = simp unary_clauses (ap (first_outside n base len) e ∙ sym (outside-next n h))

  pub outside-here : (n : ℕ) → lies_in base len x ≡ false → first_outside n base len x ≡ x
  unfolding first_outside
  outside-here zero h = refl
  outside-here (suc n) h = simp (h)

  pub outside-none : (n : ℕ) → n ≡ 0 → first_outside n base len x ≡ x
  unfolding first_outside
  outside-none n e = ap (λ k. first_outside k base len x) e

module _ (b : Board) (table work a : ℕ) where
  pub missing-table : lies_in b.table table a ≡ true
      → missing b table work a ≡ first_outside 16 b.table table a
  unfolding missing
  missing-table h = simp (h)

  pub missing-other : lies_in b.table table a ≡ false
      → missing b table work a ≡ first_outside 16 b.work work a
  unfolding missing
  missing-other h = simp (h) (go (lies_in b.work work a) refl)
    where
      go : (w : Bool) → lies_in b.work work a ≡ w
          → cond w (first_outside 16 b.work work a) a ≡ first_outside 16 b.work work a
      go true p = refl
      go false p = sym (outside-here b.work work a 16 p)

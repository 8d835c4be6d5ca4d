-- A whole number as a difference of two natural numbers: the bridge from the definitions in ℤ to `omega`, which reads ℕ alone.
-- Assumes nothing.
use mathlib.Core.Path.{◌≡◌, refl, sym, ap, ◌∙◌}
use mathlib.Core.Bool.{Bool, true, false, not, cond}
use Prim.Native.Nat.{ℕ, zero, suc, ◌+◌, ◌-◌, ◌*◌, ◌/◌, ◌%◌, ◌≤◌, ◌<◌}
use native.Mathlib.Nat.{div-add-mod', mod-lt, le_antisymm, lt_of_mul-lt-mul_right, mul-add-div_right}
use native.Mathlib.Omega.{arith}
use borrow.Author.Tests.{lt-ltb, le-ltb, le-leb, lt-leb, ltb-true, ltb-false}
use lib.Dec.{ltb, leb}
use lib.IntN.{ℤ, pos, negsuc, neg_ℤ, nat_abs, sub_ℕ, ◌+ℤ◌, ◌-ℤ◌, ◌*ℤ◌}
use lib.Signed.{lt_z, le_z, shr_z}

abbrev IsDiff : ℤ → ℕ → ℕ → Type 0
IsDiff (pos k) a b = a ≡ b + k
IsDiff (negsuc k) a b = b ≡ a + suc k

-- z is a - b
pub record Diff (z : ℤ) (a b : ℕ) : Type 0 where
  pub is : IsDiff z a b

-- what holds on both sides of a test holds of its pick
pub by-test {ℓ} : {A : Type ℓ} (P : A → Type 0) (a b : ℕ) {x y : A} → (a < b → P x) → (b ≤ a → P y) → P (cond (ltb a b) x y)
by-test {A = A} P a b {x} {y} f g = go (ltb a b) refl
  where
    go : (t : Bool) → ltb a b ≡ t → P (cond t x y)
    go true e = f (ltb-true a b e)
    go false e = g (ltb-false a b e)

-- either way of a test
pub cond_below : (b : Bool) {x y m : ℕ} → x < m → y < m → cond b x y < m
cond_below true h k = h
cond_below false h k = k

pub by_order : {P : Type 0} (a b : ℕ) → (a < b → P) → (b ≤ a → P) → P
by_order {P} a b f g = go (ltb a b) refl
  where
    go : (t : Bool) → ltb a b ≡ t → P
    go true e = f (ltb-true a b e)
    go false e = g (ltb-false a b e)

-- two tests that say the same
pub same_test : (a b c d : ℕ) → (a < b → c < d) → (b ≤ a → d ≤ c) → ltb a b ≡ ltb c d
same_test a b c d f g = go (ltb a b) refl
  where
    go : (t : Bool) → ltb a b ≡ t → t ≡ ltb c d
    go true e = sym (lt-ltb c d (f (ltb-true a b e)))
    go false e = sym (le-ltb c d (g (ltb-false a b e)))

pub leb-not : (a b : ℕ) → not (ltb b a) ≡ leb a b
leb-not a b = go (ltb b a) refl
  where
    go : (t : Bool) → ltb b a ≡ t → not t ≡ leb a b
    go true e = sym (lt-leb a b (ltb-true b a e))
    go false e = sym (le-leb a b (ltb-false b a e))

pub le_z-not : (y z : ℤ) → le_z y z ≡ not (lt_z z y)
le_z-not (pos j) (pos k) = sym (leb-not j k)
le_z-not (pos j) (negsuc k) = refl
le_z-not (negsuc j) (pos k) = refl
le_z-not (negsuc j) (negsuc k) = sym (leb-not k j)

pub diff-pos : (k : ℕ) → Diff (pos k) k 0
diff-pos k = omega arith

pub diff-sub : (a b : ℕ) → Diff (sub_ℕ a b) a b
diff-sub a b = by-test (λ z. Diff z a b) a b (λ h. omega arith) (λ h. omega arith)

pub diff-neg : {z : ℤ} {a b : ℕ} → Diff z a b → Diff (neg_ℤ z) b a
diff-neg {z = pos zero} h = omega arith
diff-neg {z = pos (suc k)} h = omega arith
diff-neg {z = negsuc k} h = omega arith

-- a difference may be shifted
pub diff-to : {z : ℤ} {a b c d : ℕ} → Diff z a b → a + d ≡ c + b → Diff z c d
diff-to {z = pos k} h e = omega arith
diff-to {z = negsuc k} h e = omega arith

pub diff-add : {y z : ℤ} {a b c d : ℕ} → Diff y a b → Diff z c d → Diff (y +ℤ z) (a + c) (b + d)
diff-add {y = pos j} {z = pos k} g h = omega arith
diff-add {y = pos j} {z = negsuc k} g h = diff-to (diff-sub j (suc k)) (omega arith)
diff-add {y = negsuc j} {z = pos k} g h = diff-to (diff-sub k (suc j)) (omega arith)
diff-add {y = negsuc j} {z = negsuc k} g h = omega arith

pub diff-minus : {y z : ℤ} {a b c d : ℕ} → Diff y a b → Diff z c d → Diff (y -ℤ z) (a + d) (b + c)
diff-minus g h = diff-add g (diff-neg h)

-- a number has one difference, up to a shift
pub diff-same : {z : ℤ} {a b c d : ℕ} → Diff z a b → Diff z c d → a + d ≡ c + b
diff-same {z = pos k} g h = omega arith
diff-same {z = negsuc k} g h = omega arith

pub diff-lt : {y z : ℤ} {a b c d : ℕ} → Diff y a b → Diff z c d → lt_z y z ≡ ltb (a + d) (c + b)
diff-lt {y = pos j} {z = pos k} {a} {b} {c} {d} g h = same_test j k (a + d) (c + b) (λ l. omega arith) (λ l. omega arith)
diff-lt {y = pos j} {z = negsuc k} {a} {b} {c} {d} g h = sym (le-ltb (a + d) (c + b) (omega arith))
diff-lt {y = negsuc j} {z = pos k} {a} {b} {c} {d} g h = sym (lt-ltb (a + d) (c + b) (omega arith))
diff-lt {y = negsuc j} {z = negsuc k} {a} {b} {c} {d} g h = same_test k j (a + d) (c + b) (λ l. omega arith) (λ l. omega arith)

pub diff-abs : {z : ℤ} {a b : ℕ} → Diff z a b → nat_abs z ≡ (a - b) + (b - a)
diff-abs {z = pos k} h = omega arith
diff-abs {z = negsuc k} h = omega arith

pub diff-mul : {y z : ℤ} {a b c d : ℕ} → Diff y a b → Diff z c d → Diff (y *ℤ z) (a * c + b * d) (a * d + b * c)
diff-mul {y = pos j} {z = pos k} g h = record { is = rw (g.is, h.is) (omega arith) }
diff-mul {y = pos j} {z = negsuc k} g h =
    diff-neg {z = pos (j * suc k)} (record { is = rw (g.is, h.is) (omega arith) })
diff-mul {y = negsuc j} {z = pos k} g h =
    diff-neg {z = pos (suc j * k)} (record { is = rw (g.is, h.is) (omega arith) })
diff-mul {y = negsuc j} {z = negsuc k} g h = record { is = rw (g.is, h.is) (omega arith) }

-- more than c and less than c + 2 times m
one_more : (b c m e : ℕ) → b * m ≡ c * m + e → 0 < e → e < m + m → b ≡ suc c
one_more b c m e h low high = le_antisymm
    (omega (arith, lt_of_mul-lt-mul_right m {m = b} {n = suc (suc c)} (omega arith)))
    (lt_of_mul-lt-mul_right m {m = c} {n = b} (omega arith))

-- the floor of a number that stands over a multiple of the divisor
pub diff-shr : {z : ℤ} {a b : ℕ} (m : ℕ) → 0 < m → Diff z a (b * m) → Diff (shr_z z m) (a / m) b
diff-shr {z = pos k} {a} {b} m some d =
    record { is = ap (λ x. x / m) d.is ∙ mul-add-div_right some b k }
diff-shr {z = negsuc k} {a} {b} m some d =
    let e = one_more b (a / m + k / m) m (a % m + k % m + 1)
    (omega (arith, div-add-mod' a m, div-add-mod' k m)) (omega arith) (omega (arith, mod-lt a some, mod-lt k some)) in
    record { is = omega arith }

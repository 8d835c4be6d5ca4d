-- The rows in one number each, and the class and formats of a byte. Assumes nothing.
use mathlib.Core.Path.{◌≡◌, refl, sym, ap, ◌∙◌}
use mathlib.Core.Bool.{Bool, true, false, cond}
use mathlib.Core.List.{List, [], ◌∷◌}
use Prim.Native.Nat.{ℕ, zero, suc, ◌+◌, ◌*◌, ◌/◌, ◌%◌, ◌^◌, ◌<◌, ◌≤◌}
use native.Mathlib.Decide.{dec_lt}
use native.Mathlib.Omega.{arith}
use borrow.Author.Tests.{eqb-true, eqb-false, ltb-true}
use lib.Dec.{eqb, ltb}
use lib.ListN.{get_or-eq_default}
use Rattle.isa.specs.declared.Width.{Width}
use Rattle.ops.specs.declared.Class.{Class}
use Rattle.ops.specs.declared.Class.TheVariants as class
use Rattle.ops.specs.Formats.{Formats, bhwd, hwd, bhw, b, v, bare, hw, has}
use Rattle.ops.specs.Table.{Row, table, row_at, class_at, formats_at}
use Rattle.ops.specs.Packed.{classes, class_code, class_of, formats_code, formats_of, byte_of, byte_at, eight, row_word}
use Rattle.ops.proofs.Find.{Others, among, none, rule}

-- the rows that are not all reserved
abbrev keys : List ℕ
keys =
    0 ∷ 1 ∷ 2 ∷ 6 ∷ 7 ∷ 9 ∷ 10 ∷ 13 ∷ 14 ∷ 15 ∷ 16 ∷ 17 ∷ 18 ∷ 19 ∷ 20 ∷ 21
    ∷ 32 ∷ 36 ∷ 40 ∷ 42 ∷ 44 ∷ 47 ∷ 48 ∷ 49 ∷ 50 ∷ 51 ∷ 52 ∷ 53 ∷ 54 ∷ 55 ∷ 56 ∷ 58 ∷ []

same : (b : Bool) → cond b true true ≡ true
same true = refl
same false = refl

abbrev kept : ℕ → Row → Bool
kept k r = cond (among (k / 8) keys) true (eqb (byte_of r) 0)

kept_at : (k : ℕ) → kept k (row_at k) ≡ true
unfolding row_at
kept_at k = rule kept (λ k. same (among (k / 8) keys)) table refl k

nothing : (m c : ℕ) → c < 8 → among m keys ≡ false → byte_at (m * 8 + c) ≡ 0
unfolding byte_at
nothing m c h e =
    let q : (m * 8 + c) / 8 ≡ m = omega arith in
    eqb-true _ 0 (rw (q, e) at (kept_at (m * 8 + c)))

pub vacant : (m : ℕ) → Others m (Unit {0}) keys → row_word m ≡ 0
unfolding row_word
vacant m h =
    let e = (none m keys (Unit {0}) h).1 in
    rw (
      nothing m 0 (omega arith) e,
      nothing m 1 (omega arith) e,
      nothing m 2 (omega arith) e,
      nothing m 3 (omega arith) e,
      nothing m 4 (omega arith) e,
      nothing m 5 (omega arith) e,
      nothing m 6 (omega arith) e,
      nothing m 7 (omega arith) e,
    )

-- a byte is below 256
pub byte_small : (k : ℕ) → byte_at k < 256
unfolding byte_at row_at
byte_small k = ltb-true _ 256 (rule (λ k r. ltb (byte_of r) 256) (λ k. refl) table refl k)

-- a column of eight
pub digit : (d : ℕ → ℕ) → ((c : ℕ) → d c < 256) → (c : ℕ) → c < 8 → eight d / 2 ^ (c * 8) % 256 ≡ d c
digit d s zero h = omega (arith, s 0)
digit d s (suc zero) h = omega (arith, s 0, s 1)
digit d s (suc (suc zero)) h = omega (arith, s 0, s 1, s 2)
digit d s (suc (suc (suc zero))) h = omega (arith, s 0, s 1, s 2, s 3)
digit d s (suc (suc (suc (suc zero)))) h = omega (arith, s 0, s 1, s 2, s 3, s 4)
digit d s (suc (suc (suc (suc (suc zero))))) h = omega (arith, s 0, s 1, s 2, s 3, s 4, s 5)
digit d s (suc (suc (suc (suc (suc (suc zero)))))) h = omega (arith, s 0, s 1, s 2, s 3, s 4, s 5, s 6)
digit d s (suc (suc (suc (suc (suc (suc (suc zero))))))) h = omega (arith, s 0, s 1, s 2, s 3, s 4, s 5, s 6, s 7)
digit d s (suc (suc (suc (suc (suc (suc (suc (suc c)))))))) h = absurd (omega arith)

-- a place's byte is a column of its row
pub column : (k : ℕ) → row_word (k / 8) / 2 ^ (k % 8 * 8) % 256 ≡ byte_at k
unfolding row_word
column k =
    let p : k / 8 * 8 + k % 8 ≡ k = omega arith in
    digit (λ c. byte_at (k / 8 * 8 + c)) (λ c. byte_small (k / 8 * 8 + c)) (k % 8) (omega arith) ∙ ap byte_at p

-- ---- a byte's parts

pub class-known : (c : Class) → class_of (class_code c) ≡ c
class-known =
    elim [
      | class.Reserved ↦ refl
      | class.Three ↦ refl
      | class.Indexed ↦ refl
      | class.Imm5U ↦ refl
      | class.Imm5S ↦ refl
      | class.Ldi ↦ refl
      | class.Bit ↦ refl
      | class.Imm8 ↦ refl
      | class.Shf ↦ refl
      | class.Element ↦ refl
      | class.Insve ↦ refl
      | class.Copy ↦ refl
      | class.Insert ↦ refl
      | class.Move ↦ refl
      | class.Cfcmsa ↦ refl
      | class.Ctcmsa ↦ refl
      | class.Vec ↦ refl
      | class.Fill ↦ refl
      | class.Count ↦ refl
      | class.Memory ↦ refl
      | class.Branch ↦ refl
      | class.BranchV ↦ refl
      | class.Scaled ↦ refl
      | class.LeftOut ↦ refl
      | class.Fixed ↦ refl
    ]

formats-known : (f : Formats) → formats_of (formats_code f) ≡ f
formats-known = elim [ bhwd ↦ refl | hwd ↦ refl | bhw ↦ refl | b ↦ refl | v ↦ refl | bare ↦ refl | hw ↦ refl ]

code-small : (k : ℕ) → class_code (class_at k) < 25
unfolding row_at
code-small k = ltb-true _ 25 (rule (λ k r. ltb (class_code r.class) 25) (λ k. refl) table refl k)

pub class-part : (k : ℕ) → byte_at k % 32 ≡ class_code (class_at k)
unfolding byte_at
class-part k = let h = code-small k in omega arith

pub class-small : (k : ℕ) → byte_at k % 32 < 25
class-small k = rw (class-part k) (code-small k)

formats-part : (k : ℕ) → byte_at k / 32 ≡ formats_code (formats_at k)
unfolding byte_at
formats-part k = let h = code-small k in omega arith

pub class-in : (k : ℕ) → class_of (byte_at k % 32) ≡ class_at k
class-in k = rw (class-part k) (class-known (class_at k))

pub formats-in : (k : ℕ) → formats_of (byte_at k / 32) ≡ formats_at k
formats-in k = rw (formats-part k) (formats-known (formats_at k))

-- a class of one choice of formats: 3RF, as far as it is here, has H and W
pub fixed-formats : (k : ℕ) → class_at k ≡ class.Fixed → formats_at k ≡ hw
unfolding row_at
fixed-formats k e =
    let only : ℕ → Row → Bool = λ k r. cond (eqb (class_code r.class) 24) (eqb (formats_code r.formats) 6) true in
    let t : eqb (formats_code (formats_at k)) 6 ≡ true = rw e at (rule only (λ k. refl) table refl k) in
    sym (formats-known (formats_at k)) ∙ ap formats_of (eqb-true (formats_code (formats_at k)) 6 t)

-- ---- numbers that a match leaves over

abbrev pub span : ℕ → ℕ → List ℕ
span i zero = []
span i (suc c) = i ∷ span (suc i) c

among-span : (i c n : ℕ) → i ≤ n → n < i + c → among n (span i c) ≡ true
among-span i zero n h l = absurd (omega arith)
among-span i (suc c) n h l = go (eqb i n) refl (λ (q : suc i ≤ n). among-span (suc i) c n q (omega arith))
  where
    go : (t : Bool) → eqb i n ≡ t → (suc i ≤ n → among n (span (suc i) c) ≡ true)
        → cond t true (among n (span (suc i) c)) ≡ true
    go true e next = refl
    go false e next = let d = eqb-false i n e in next (omega (arith, d))

pub no-class : (n : ℕ) → Others n (Unit {0}) (span 1 24) → class_of n ≡ class.Reserved
no-class zero h = refl
no-class (suc n) h = go (dec_lt (suc n) 25)
  where
    go : Dec (suc n < 25) → class_of (suc n) ≡ class.Reserved
    go (yes l) =
        let f = (none (suc n) (span 1 24) (Unit {0}) h).1 in
        let t = among-span 1 24 (suc n) (omega arith) (omega arith) in
        absurd (let z : ◌≡◌ {A = ℕ} 0 1 = cc in omega arith)
    go (no l) = let q : 25 ≤ suc n = omega arith in get_or-eq_default classes class.Reserved q

pub no-form : (n : ℕ) (df : Width) → Others n (Unit {0}) (0 ∷ 1 ∷ 2 ∷ 3 ∷ 6 ∷ []) → has (formats_of n) df ≡ false
no-form zero df h = absurd (h.0.0.0.0.1 refl)
no-form (suc zero) df h = absurd (h.0.0.0.1 refl)
no-form (suc (suc zero)) df h = absurd (h.0.0.1 refl)
no-form (suc (suc (suc zero))) df h = absurd (h.0.1 refl)
no-form (suc (suc (suc (suc zero)))) df h = refl
no-form (suc (suc (suc (suc (suc zero))))) df h = refl
no-form (suc (suc (suc (suc (suc (suc zero)))))) df h = absurd (h.1 refl)
no-form (suc (suc (suc (suc (suc (suc (suc n))))))) df h = refl

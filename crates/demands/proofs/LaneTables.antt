-- The tables of the lanes beside the table of operations: one computed test over all its rows shows that each operation
-- has the element that its class allows. Assumes nothing.
use mathlib.Core.Path.{◌≡◌, refl}
use mathlib.Core.Bool.{Bool, true, false}
use mathlib.Core.List.{◌++◌}
use Prim.Native.Nat.{ℕ}
use native.Mathlib.Omega.{arith}
use Rattle.isa.specs.declared.Three.{Three}
use Rattle.isa.specs.declared.Three.TheVariants as three
use Rattle.isa.specs.declared.Width.{Width}
use Rattle.isa.specs.Widths.{bits}
use Rattle.ops.specs.declared.Class.{Class}
use Rattle.ops.specs.declared.Class.TheVariants as class
use Rattle.ops.specs.Meaning.{three_at}
use Rattle.ops.specs.Table.{Row, table, row_at, class_at, mnemonic}
use Rattle.ops.proofs.Find.{rule}
use Rattle.shown.specs.declared.Form.{Form}
use Rattle.shown.specs.declared.Form.TheVariants.{Each}
use Rattle.text.specs.Text.{bytes}
use Rattle.demands.specs.LaneTables.{Element, of_format, of_result, one_bit, unlisted, arithmetic, bitwise}
use Rattle.demands.specs.LaneTables.{fixed_point, compares, others, listed, element_named, element_at, HasBits}

-- ---- what a class allows

-- 3R works on lanes, but for the permutes
abbrev pub lanes : Three → Bool
lanes (three.Arith o) = true
lanes (three.Bitwise o) = true
lanes (three.Rounding o) = true
lanes (three.Pack o) = false
lanes three.Vshf = false

-- elements of a format where the operation works on lanes; and else it is of the other tables
abbrev pub in_format : Bool → Bool → Element → Bool
in_format lane? other? of_format = lane?
in_format lane? other? of_result = lane?
in_format lane? other? one_bit = false
in_format lane? other? unlisted = other?

-- single bits
abbrev pub in_bits : Bool → Element → Bool
in_bits other? of_format = false
in_bits other? of_result = false
in_bits other? one_bit = true
in_bits other? unlisted = other?

abbrev pub allows : Class → Three → Bool → Element → Bool
allows class.Reserved o other? x = true
allows class.Three o other? x = in_format (lanes o) other? x
allows class.Indexed o other? x = in_format false other? x
allows class.Imm5U o other? x = in_format true other? x
allows class.Imm5S o other? x = in_format true other? x
allows class.Ldi o other? x = in_format false other? x
allows class.Bit o other? x = in_format true other? x
allows class.Imm8 o other? x = in_bits other? x
allows class.Shf o other? x = in_format false other? x
allows class.Element o other? x = in_format false other? x
allows class.Insve o other? x = in_format false other? x
allows class.Copy o other? x = in_format false other? x
allows class.Insert o other? x = in_format false other? x
allows class.Move o other? x = in_format false other? x
allows class.Cfcmsa o other? x = in_format false other? x
allows class.Ctcmsa o other? x = in_format false other? x
allows class.Vec o other? x = in_bits other? x
allows class.Fill o other? x = in_format false other? x
allows class.Count o other? x = in_format true other? x
allows class.Memory o other? x = in_format false other? x
allows class.Branch o other? x = in_format false other? x
allows class.BranchV o other? x = in_format false other? x
allows class.Scaled o other? x = in_format false other? x
allows class.LeftOut o other? x = true
allows class.Fixed o other? x = in_format true other? x

abbrev allowed : ℕ → Row → Bool
allowed k r =
    allows r.class (three_at k) (listed (bytes r.name) others)
    (element_named (bytes r.name) (arithmetic ++ bitwise ++ fixed_point ++ compares))

abbrev pub other_at : ℕ → Bool
other_at k = listed (mnemonic k) others

pub allowed_at : (k : ℕ) (c : Class) → class_at k ≡ c → allows c (three_at k) (other_at k) (element_at k) ≡ true
unfolding row_at three_at element_at
allowed_at k c q = rw q at (rule allowed (λ k. refl) table refl k)

-- ---- what follows

-- elements of which B holds: of one width, for which A holds; or of none, and the operation is of the other tables
pub data Viewed (B : ℕ → Type 0) (other? : Bool) (A : ℕ → Type 0) : Type 0 where
  has : (n : ℕ) → B n → ((k : ℕ) → B k → k ≡ n) → A n → Viewed B other? A
  none : other? ≡ true → ((k : ℕ) → B k → ⊥) → Viewed B other? A

never : {C : Type 0} → false ≡ true → C
never h = absurd (let z : ◌≡◌ {A = ℕ} 0 1 = cc in omega arith)

module _ (other? : Bool) (A : ℕ → Type 0) where
  pub format-view : (df : Width) (lane? : Bool) (x : Element) → in_format lane? other? x ≡ true
      → (lane? ≡ true → A (bits df)) → Viewed (HasBits x (Each df)) other? A
  format-view df lane? of_format t a = has (bits df) refl (λ k h. h) (a t)
  format-view df lane? of_result t a = has (bits df) refl (λ k h. h) (a t)
  format-view df lane? one_bit t a = never t
  format-view df lane? unlisted t a = none t (λ k h. h)

  pub single-view : (f : Form) (x : Element) → in_bits other? x ≡ true → A 1 → Viewed (HasBits x f) other? A
  single-view f of_format t a = never t
  single-view f of_result t a = never t
  single-view f one_bit t a = has 1 refl (λ k h. h) a
  single-view f unlisted t a = none t (λ k h. h)

  pub no-view : (f : Form) (x : Element) → in_format false other? x ≡ true → Viewed (HasBits x f) other? A
  no-view f of_format t = never t
  no-view f of_result t = never t
  no-view f one_bit t = never t
  no-view f unlisted t = none t (λ k h. h)

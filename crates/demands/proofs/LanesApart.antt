-- Lanes that cannot touch: by the class of the instruction, the destination is made element by element of registers
-- that the instruction names. Assumes nothing.
use mathlib.Core.Path.{◌≡◌, refl, sym, ◌∙◌}
use mathlib.Core.Bool.{true, false}
use mathlib.Core.List.{List, [], ◌∷◌}
use mathlib.Core.Logic.{◌⊎◌, inl, inr}
use Prim.Native.Nat.{ℕ, zero, suc, ◌+◌, ◌*◌, ◌/◌, ◌^◌, ◌≤◌, ◌<◌}
use native.Mathlib.Omega.{arith}
use Rattle.isa.specs.declared.Instr.{Instr}
use Rattle.isa.specs.declared.Instr.TheVariants as instr
use Rattle.isa.specs.declared.Logic.{Logic}
use Rattle.std.specs.Prelude.{Ok}
use Rattle.isa.specs.declared.Three.{Three}
use Rattle.isa.specs.declared.Three.TheVariants as three
use Rattle.isa.specs.declared.BitOp.TheVariants as bit
use Rattle.isa.specs.declared.Vreg.{Vreg}
use Rattle.isa.specs.declared.Width.{Width}
use Rattle.isa.specs.declared.Width.TheVariants.{B}
use Rattle.isa.specs.Widths.{bits}
use Rattle.each.specs.Lanes.{each_lane}
use Rattle.each.proofs.LaneLaws.{each_lane-below, untouched}
use Rattle.forms.specs.Forms.{three_of, immediate}
use Rattle.lanes.specs.declared.Lane.{Lane}
use Rattle.lanes.specs.declared.Lane.TheVariants as lane
use Rattle.logic.specs.Logic.{logic_bit}
use Rattle.logic.proofs.BitLaws.{logic-below, logic-untouched}
use Rattle.memory.specs.Bytes.{AreBytes}
use Rattle.memory.specs.File.{register_at}
use Rattle.ops.specs.declared.Class.TheVariants as class
use Rattle.ops.specs.Meaning.{three_at, imm5_at, bit_at, logic_at, count_at, fixed_at}
use Rattle.ops.specs.Places as places
use Rattle.ops.specs.Table.{row_at}
use Rattle.plan.specs.declared.planned.Kind.TheVariants.{Switched}
use Rattle.plan.specs.Plan.{executed, kind_of, writes}
use Rattle.reading.specs.Reading.{read_of}
use Rattle.shown.specs.declared.Form.{Form}
use Rattle.shown.specs.declared.Form.TheVariants.{Each, Whole}
use Rattle.shown.specs.Shown.{shown_of}
use Rattle.state.specs.Machine.{Env, Machine}
use Rattle.vectors.specs.Register.{element, together, filled}
use Rattle.vectors.proofs.Sizes.{Shares, shares, shares-bit, inside-register}
use Rattle.words.specs.Formed.{Formed}
use Rattle.machine.specs.Step.{step_of, whole_step}
use Rattle.demands.specs.Destination.{in_vector, operands_of}
use Rattle.demands.specs.LaneTables.{element_at, HasBits, ElementBits, EachListed}
use Rattle.demands.specs.LanesApart.{element_in, Agree, Finishes, Apart, LanesApart}
use Rattle.demands.specs.Tables.{Some}
use Rattle.demands.proofs.Demand2.{formed, ends}
use Rattle.demands.proofs.Elements.{element-is, register-bytes}
use Rattle.demands.proofs.LaneTables.{lanes, in_format, in_bits, other_at, allowed_at}
use Rattle.demands.proofs.LaneTables.{Viewed, has, none, format-view, single-view, no-view}
use Rattle.demands.proofs.Lanes.{byte-after}
use Rattle.demands.proofs.Reasons.{word-fetched}

-- ---- operations on registers

-- each element of the result is made of the same-numbered elements
record LaneWise (n : ℕ) (f : ℕ → ℕ → ℕ → ℕ) : Type 0 where
  below : (d s t : ℕ) → f d s t < 2 ^ 128
  apart : (d s t d' s' t' i : ℕ) → i < 128 / n
      → element n d i ≡ element n d' i → element n s i ≡ element n s' i → element n t i ≡ element n t' i
      → element n (f d s t) i ≡ element n (f d' s' t') i

each-wise : (l : Lane) (df : Width) → LaneWise (bits df) (each_lane l (bits df))
each-wise l df = record { below = each_lane-below l df; apart = untouched l df }

logic-wise : (o : Logic) → LaneWise 1 (together 1 (logic_bit o))
logic-wise o = record { below = logic-below o; apart = logic-untouched o }

three-wise : (df : Width) (o : Three) → lanes o ≡ true → LaneWise (bits df) (three_of o (bits df))
three-wise df (three.Arith o) t = each-wise (lane.Arith o) df
three-wise df (three.Bitwise o) t = each-wise (lane.Bit (bit.Bitwise o)) df
three-wise df (three.Rounding o) t = each-wise (lane.Bit (bit.Rounding o)) df
three-wise df (three.Pack o) t = absurd (let z : ◌≡◌ {A = ℕ} 0 1 = cc in omega arith)
three-wise df three.Vshf t = absurd (let z : ◌≡◌ {A = ℕ} 0 1 = cc in omega arith)

-- ---- instructions

-- what goes into the operation: the register at a place of a list, or a number that the instruction has
data From : Type 0 where
  place : ℕ → From
  always : ℕ → From

abbrev register_of : List Vreg → ℕ → List ℕ → ℕ
register_of [] k v = 0
register_of (r ∷ rs) zero v = register_at v r
register_of (r ∷ rs) (suc k) v = register_of rs k v

abbrev from : List Vreg → From → List ℕ → ℕ
from rs (place k) v = register_of rs k v
from rs (always x) v = x

-- an instruction writes what f makes of three such to wd
abbrev Makes : Instr → Vreg → From → From → From → (ℕ → ℕ → ℕ → ℕ) → Type 0
Makes i wd d s t f =
    (e : Env) (m : Machine)
    → executed e m i
    ≡ writes wd
    (f (from (wd ∷ (operands_of i).sources) d m.vec) (from (wd ∷ (operands_of i).sources) s m.vec)
    (from (wd ∷ (operands_of i).sources) t m.vec))

-- and f works on elements of n bits
record Wise (i : Instr) (n : ℕ) : Type 0 where
  share : Shares n
  wd : Vreg
  d : From
  s : From
  t : From
  f : ℕ → ℕ → ℕ → ℕ
  wise : LaneWise n f
  destination : (operands_of i).destination ≡ in_vector wd
  kind : kind_of i ≡ Switched
  makes : Makes i wd d s t f

-- files that agree in element k of registers
module _ (n k : ℕ) (fits : n * k + n ≤ 128) (v v' : List ℕ) (bytes : AreBytes v) (bytes' : AreBytes v') where
  register-alike : (r : Vreg) → element_in v r n k ≡ element_in v' r n k
      → element n (register_at v r) k ≡ element n (register_at v' r) k
  register-alike r h =
      sym (element-is v r (register_at v r) (register-bytes v r bytes) n k fits)
      ∙ h
      ∙ element-is v' r (register_at v' r) (register-bytes v' r bytes') n k fits

  place-alike : (rs : List Vreg) (j : ℕ) → Agree n k v v' rs
      → element n (register_of rs j v) k ≡ element n (register_of rs j v') k
  place-alike [] j a = refl
  place-alike (r ∷ rs) zero a = register-alike r a.0
  place-alike (r ∷ rs) (suc j) a = place-alike rs j a.1

  alike : (rs : List Vreg) (x : From) → Agree n k v v' rs → element n (from rs x v) k ≡ element n (from rs x v') k
  alike rs (place j) a = place-alike rs j a
  alike rs (always x) a = refl

module _ (w : ℕ) (i : Instr) (reads : read_of w ≡ Ok i) (n : ℕ) (x : Wise i n) where
  abbrev registers : List Vreg
  registers = x.wd ∷ (operands_of i).sources

  abbrev made : List ℕ → ℕ
  made v = x.f (from registers x.d v) (from registers x.s v) (from registers x.t v)

  element-after : (p : List ℕ) (e : Env) (m : Machine) → Finishes w p e m → (k : ℕ) → n * k + n ≤ 128
      → element_in (whole_step p e m).after.vec x.wd n k ≡ element n (made m.vec) k
  element-after p e m g k fits =
      let s = ends p e m g.finished in
      rw s.after
      (element-is (step_of p e m).after.vec x.wd (made m.vec)
      (byte-after i x.wd (made m.vec) p e m w s.ok (word-fetched p e m g.word) reads s.done x.kind
      (x.makes e m) (x.wise.below _ _ _))
      n k fits)

  apart : Apart w i n
  apart =
      record {
        wd = x.wd;
        destination = x.destination;
        same = λ p p' e e' m m' g g' k h a.
            let fits = inside-register x.share k h in
            let same : (y : From) → element n (from registers y m.vec) k ≡ element n (from registers y m'.vec) k =
            λ y. alike n k fits m.vec m'.vec g.bytes g'.bytes registers y a in (
              element-after p e m g k fits
                  ∙ x.wise.apart _ _ _ _ _ _ k h (same x.d) (same x.s) (same x.t)
                  ∙ sym (element-after p' e' m' g' k fits),
              tt,
            );
      }

-- ---- classes

abbrev old : From
old = place 0

abbrev first : From
first = place 1

abbrev second : From
second = place 2

abbrev View : Instr → Type 0
View i = Viewed (ElementBits i) (other_at (shown_of i).name) (Wise i)

-- without lanes
no-lanes : (i : Instr) → in_format false (other_at (shown_of i).name) (element_at (shown_of i).name) ≡ true → View i
no-lanes i t = no-view (other_at (shown_of i).name) (Wise i) (shown_of i).form (element_at (shown_of i).name) t

module _ (i : Instr) (wd : Vreg) (d s t : From) (destination : (operands_of i).destination ≡ in_vector wd)
    (kind : kind_of i ≡ Switched) where
  wise : (n : ℕ) → Shares n → (f : ℕ → ℕ → ℕ → ℕ) → LaneWise n f → Makes i wd d s t f → Wise i n
  wise n share f w makes =
      record {
        share = share;
        wd = wd;
        d = d;
        s = s;
        t = t;
        f = f;
        wise = w;
        destination = destination;
        kind = kind;
        makes = makes;
      }

  -- lanes of a format
  by-format : (k : ℕ) (df : Width) (l : Lane) → in_format true (other_at k) (element_at k) ≡ true
      → Makes i wd d s t (each_lane l (bits df)) → Viewed (HasBits (element_at k) (Each df)) (other_at k) (Wise i)
  by-format k df l h makes =
      format-view (other_at k) (Wise i) df true (element_at k) h
      (λ t. wise (bits df) (shares df) (each_lane l (bits df)) (each-wise l df) makes)

  -- single bits
  by_bit : (k : ℕ) (f : Form) (o : Logic) → in_bits (other_at k) (element_at k) ≡ true
      → Makes i wd d s t (together 1 (logic_bit o)) → Viewed (HasBits (element_at k) f) (other_at k) (Wise i)
  by_bit k f o h makes =
      single-view (other_at k) (Wise i) f (element_at k) h
      (wise 1 shares-bit (together 1 (logic_bit o)) (logic-wise o) makes)

viewed : (i : Instr) → Formed i → View i
unfolding row_at
viewed (instr.Three k df wd ws wt) f =
    let i : Instr = instr.Three k df wd ws wt in
    format-view (other_at k.0) (Wise i) df (lanes (three_at k.0)) (element_at k.0)
    (allowed_at k.0 class.Three f.3)
    (λ t.
    wise i wd old first second refl refl (bits df) (shares df) (three_of (three_at k.0) (bits df))
    (three-wise df (three_at k.0) t) (λ e m. refl))
viewed (instr.Indexed k df wd ws rt) f = no-lanes (instr.Indexed k df wd ws rt) (allowed_at k.0 class.Indexed f.3)
viewed (instr.Imm5U k df wd ws imm) f =
    by-format (instr.Imm5U k df wd ws imm) wd first first (always (filled (bits df) (immediate false imm))) refl refl
    k.0 df (lane.Arith (imm5_at k.0)) (allowed_at k.0 class.Imm5U f.3) (λ e m. refl)
viewed (instr.Imm5S k df wd ws imm) f =
    by-format (instr.Imm5S k df wd ws imm) wd first first (always (filled (bits df) (immediate true imm))) refl refl
    k.0 df (lane.Arith (imm5_at k.0)) (allowed_at k.0 class.Imm5S f.3) (λ e m. refl)
viewed (instr.Ldi df wd imm) f = no-lanes (instr.Ldi df wd imm) (allowed_at places.ldi class.Ldi refl)
viewed (instr.Bit k df wd ws n) f =
    by-format (instr.Bit k df wd ws n) wd old first (always (filled (bits df) n)) refl refl k.0 df
    (lane.Bit (bit_at k.0)) (allowed_at k.0 class.Bit f.3) (λ e m. refl)
viewed (instr.Imm8 k wd ws imm) f =
    by_bit (instr.Imm8 k wd ws imm) wd old first (always (filled 8 imm)) refl refl k.0 (Each B) (logic_at k.0)
    (allowed_at k.0 class.Imm8 f.3) (λ e m. refl)
viewed (instr.Shf df wd ws imm) f = no-lanes (instr.Shf df wd ws imm) (allowed_at places.shf class.Shf refl)
viewed (instr.Element k df wd ws n) f =
    no-lanes (instr.Element k df wd ws n) (allowed_at k.0 class.Element f.3)
viewed (instr.Insve df wd n ws) f = no-lanes (instr.Insve df wd n ws) (allowed_at places.insve class.Insve refl)
viewed (instr.Copy k df rd ws n) f = no-lanes (instr.Copy k df rd ws n) (allowed_at k.0 class.Copy f.3)
viewed (instr.Insert df wd n rs) f = no-lanes (instr.Insert df wd n rs) (allowed_at places.insert class.Insert refl)
viewed (instr.Move wd ws) f = no-lanes (instr.Move wd ws) (allowed_at places.move class.Move refl)
viewed (instr.Cfcmsa rd cs) f = no-lanes (instr.Cfcmsa rd cs) (allowed_at places.cfcmsa class.Cfcmsa refl)
viewed (instr.Ctcmsa cd rs) f = no-lanes (instr.Ctcmsa cd rs) (allowed_at places.ctcmsa class.Ctcmsa refl)
viewed (instr.Vec k wd ws wt) f =
    by_bit (instr.Vec k wd ws wt) wd old first second refl refl k.0 Whole (logic_at k.0)
    (allowed_at k.0 class.Vec f.3) (λ e m. refl)
viewed (instr.Fill df wd rs) f = no-lanes (instr.Fill df wd rs) (allowed_at places.fill class.Fill refl)
viewed (instr.Count k df wd ws) f =
    by-format (instr.Count k df wd ws) wd first first first refl refl k.0 df (lane.Count (count_at k.0))
    (allowed_at k.0 class.Count f.2) (λ e m. refl)
viewed (instr.Memory k df wd offset rs) f =
    no-lanes (instr.Memory k df wd offset rs) (allowed_at k.0 class.Memory f.3)
viewed (instr.Branch k df wt offset) f =
    no-lanes (instr.Branch k df wt offset) (allowed_at k.0 class.Branch f.2)
viewed (instr.BranchV k wt offset) f = no-lanes (instr.BranchV k wt offset) (allowed_at k.0 class.BranchV f.2)
viewed (instr.Scaled k rd rs rt sa) f = no-lanes (instr.Scaled k rd rs rt sa) (allowed_at k.0 class.Scaled f.4)
viewed (instr.Fixed k df wd ws wt) f =
    by-format (instr.Fixed k df wd ws wt) wd old first second refl refl k.0 df (lane.Fixed (fixed_at k.0))
    (allowed_at k.0 class.Fixed f.3) (λ e m. refl)

pub each-listed : EachListed
each-listed w i reads = go (viewed i (formed w i reads))
  where
    go : View i → Some (ElementBits i) ⊎ (other_at (shown_of i).name ≡ true)
    go (has n h one x) = inl (record { number = n; holds = h })
    go (none t not) = inr t

pub lanes-apart : LanesApart
lanes-apart w i reads n h = go (viewed i (formed w i reads))
  where
    go : View i → Apart w i n
    go (has k b one x) = let same : n ≡ k = one n h in rw same (apart w i reads k x)
    go (none t not) = absurd (not n h)

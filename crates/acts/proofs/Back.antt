-- The entry of an instruction does what the instruction does. Assumes nothing.
use mathlib.Core.Path.{◌≡◌, sym, ap, ◌∙◌}
use Prim.Native.Nat.{ℕ, ◌+◌, ◌-◌, ◌%◌, ◌^◌, ◌≤◌, ◌<◌}
use native.Mathlib.Omega.{arith}
use native.Mathlib.Nat.{mod-eq_of_lt}
use lib.Dec.{lit<, lit≤}
use lib.IntN.{ℤ, pos, ◌+ℤ◌, ◌*ℤ◌}
use Rattle.isa.specs.declared.Instr.{Instr}
use Rattle.isa.specs.declared.Instr.TheVariants as instr
use Rattle.std.specs.Prelude.{Ok, Err, Result}
use Rattle.isa.specs.declared.Unread.{Unread}
use Rattle.isa.specs.declared.Width.{Width}
use Rattle.isa.specs.declared.Width.TheVariants.{B, H, W, D}
use Rattle.isa.specs.Widths.{bits, bytes, elements}
use Rattle.ops.specs.Meaning.{indexed_at, imm5_at, bit_at, logic_at, fixed_at}
use Rattle.ops.specs.Meaning.{copied_at, count_at, memory_at, zero_at, scaled_at}
use Rattle.element.specs.Value.{signed, wrap}
use Rattle.element.proofs.Widths.{size}
use Rattle.linear.specs.Sums.{addv}
use Rattle.permute.proofs.Extensions.{wrap-narrow}
use Rattle.permute.specs.Loaded.{loaded}
use Rattle.products.proofs.Ring.{like-pos, like-wrap, wrap-add}
use Rattle.state.specs.Machine.{Env, Machine}
use Rattle.vectors.specs.Register.{whole, filled}
use Rattle.words.specs.Formed.{Formed}
use Rattle.entries.specs.Entry.{instr_entry, entry_of, arith_code, bit_code, copied_code, count_code, fixed_code}
use Rattle.entries.specs.Entry.{indexed_code, logic_code, memory_code, scaled_code, three_code, unread_code, zero_code}
use Rattle.entries.proofs.CutLaws.{parts}
use Rattle.entries.proofs.Kept.{kept_small, kept-signed, kept-times}
use Rattle.plan.specs.Numbers.{address, target}
use Rattle.plan.specs.Plan.{plan_of}
use Rattle.acts.specs.Act.{executed_at, plan_at, plan_read, FormedRead}
use Rattle.acts.proofs.Codes.{unread-plan, memory-plan, scaled-plan, zero-plan, zero-v-plan, logic-plan}
use Rattle.acts.proofs.Codes.{indexed-plan, count-plan, fixed-plan, copied-plan, three-plan, imm5-plan, bit-plan}
use Rattle.acts.proofs.Rows.{three-place, fixed-format}

-- no operand
none : 0 < 32
none = lit< tt

elements-few : (df : Width) → elements df ≤ 16
elements-few B = omega arith
elements-few H = omega arith
elements-few W = omega arith
elements-few D = omega arith

index : (df : Width) (n : ℕ) → n < elements df → n % 4294967296 ≡ n
index df n h = mod-eq_of_lt (omega (arith, elements-few df))

bytes-few : (df : Width) → bytes df ≤ 8
bytes-few B = omega arith
bytes-few H = omega arith
bytes-few W = omega arith
bytes-few D = omega arith

-- a sum modulo 2^64
sum_back : (x : ℕ) (z : ℤ) → (x + wrap 64 z) % 2 ^ 64 ≡ wrap 64 (pos x +ℤ z)
unfolding addv
sum_back x z = sym (wrap-add (like-pos 64 x) (like-wrap 64 z))

-- an immediate in every element
filled-back : (df : Width) (z : ℤ) → filled (bits df) (wrap 64 z) ≡ whole (bits df) (λ _. wrap (bits df) z)
unfolding filled
filled-back df z =
    let n = bits df in
    let e : 64 - n + n ≡ 64 = omega (arith, size df) in
    ap (λ (x : ℕ). whole n (λ _. x)) (rw e at (wrap-narrow (64 - n) n z))

module _ (e : Env) (m : Machine) where
  abbrev Does : Instr → Type 0
  Does i = plan_at e m (instr_entry i) ≡ plan_of e m i

  instr-back : (i : Instr) → Formed i → Does i
  unfolding plan_at executed_at plan_of address target loaded
  -- with registers
  instr-back (instr.Move wd ws) f =
      let p = parts 95 B 0 wd.0 ws.0 0 0 f.0 f.1 none in
      rw (p.code, p.dest, p.source)
  instr-back (instr.Cfcmsa rd cs) f =
      let p = parts 107 B 0 rd.0 cs.0 0 0 f.0 f.1 none in
      rw (p.code, p.dest, p.source)
  instr-back (instr.Ctcmsa cd rs) f =
      let p = parts 108 B 0 cd.0 rs.0 0 0 f.0 f.1 none in
      rw (p.code, p.dest, p.source)
  instr-back (instr.Fill df wd rs) f =
      let p = parts 92 df 0 wd.0 rs.0 0 0 f.0 f.1 none in
      rw (p.code, p.width, p.flag, p.dest, p.source)
  instr-back (instr.Count k df wd ws) f =
      let p = parts (count_code (count_at k.0)) df 0 wd.0 ws.0 0 0 f.0 f.1 none in
      count-plan e m _ (count_at k.0) p.code ∙ rw (p.width, p.dest, p.source)
  instr-back (instr.Vec k wd ws wt) f =
      let p = parts (logic_code (logic_at k.0)) B 0 wd.0 ws.0 wt.0 0 f.0 f.1 f.2 in
      logic-plan e m _ (logic_at k.0) p.code ∙ rw (p.flag, p.dest, p.source, p.third)
  instr-back (instr.Indexed k df wd ws rt) f =
      let p = parts (indexed_code (indexed_at k.0)) df 0 wd.0 ws.0 rt.0 0 f.0 f.1 f.2 in
      indexed-plan e m _ (indexed_at k.0) p.code ∙ rw (p.width, p.flag, p.dest, p.source, p.third)
  instr-back (instr.Three k df wd ws wt) f =
      let p = parts (three_code k.0) df 0 wd.0 ws.0 wt.0 0 f.0 f.1 f.2 in
      let r = three-place k.0 f.3 in
      three-plan e m _ k.0 r.0 r.1 p.code ∙ rw (p.width, p.flag, p.dest, p.source, p.third)
  instr-back (instr.Fixed k df wd ws wt) f =
      let p = parts (fixed_code (fixed_at k.0)) df 0 wd.0 ws.0 wt.0 0 f.0 f.1 f.2 in
      fixed-plan e m _ (fixed_at k.0) p.code
      ∙ rw (p.format, fixed-format k.0 f.3 df f.4, p.dest, p.source, p.third)
  -- with an index or an immediate that stands for itself
  instr-back (instr.Insert df wd n rs) f =
      let p = parts 94 df 0 wd.0 rs.0 0 n f.0 f.2 none in
      let i = p.imm ∙ index df n f.1 in
      rw (p.code, p.width, p.flag, p.dest, p.source, i)
  instr-back (instr.Insve df wd n ws) f =
      let p = parts 94 df 1 wd.0 ws.0 0 n f.0 f.2 none in
      let i = p.imm ∙ index df n f.1 in
      rw (p.code, p.width, p.flag, p.dest, p.source, i)
  instr-back (instr.Copy k df rd ws n) f =
      let p = parts (copied_code (copied_at k.0)) df 1 rd.0 ws.0 0 n f.0 f.1 none in
      let i = p.imm ∙ index df n f.2 in
      copied-plan e m _ (copied_at k.0) p.code ∙ rw (p.width, p.dest, p.source, i)
  instr-back (instr.Shf df wd ws imm) f =
      let p = parts 93 df 1 wd.0 ws.0 0 imm f.0 f.1 none in
      let i : imm % 4294967296 % 256 ≡ imm = omega (arith, f.2) in
      rw (p.code, p.width, p.dest, p.source, p.imm, i)
  instr-back (instr.Scaled k rd rs rt sa) f =
      let p = parts (scaled_code (scaled_at k.0)) B 0 rd.0 rs.0 rt.0 sa f.0 f.1 f.2 in
      let i : sa % 4294967296 % 4 ≡ sa = omega (arith, f.3) in
      scaled-plan e m _ (scaled_at k.0) p.code ∙ rw (p.dest, p.source, p.third, p.imm, i)
  instr-back (instr.Element k df wd ws n) f =
      let p = parts (indexed_code (indexed_at k.0)) df 1 wd.0 ws.0 0 n f.0 f.1 none in
      let i = kept_small _ n (omega (arith, elements-few df, f.2)) p.imm in
      indexed-plan e m _ (indexed_at k.0) p.code ∙ rw (p.width, p.flag, p.dest, p.source, i)
  instr-back (instr.Bit k df wd ws n) f =
      let p = parts (bit_code (bit_at k.0)) df 1 wd.0 ws.0 0 n f.0 f.1 none in
      let few : n < 64 = omega (arith, (size df).few, f.2) in
      let i = p.imm ∙ mod-eq_of_lt (omega arith) in
      bit-plan e m _ (bit_at k.0) p.code p.flag (kept_small _ n (omega arith) p.imm ∙ sym i)
      ∙ rw (p.width, p.dest, p.source, i)
  instr-back (instr.Imm8 k wd ws imm) f =
      let p = parts (logic_code (logic_at k.0)) B 1 wd.0 ws.0 0 imm f.0 f.1 none in
      let i = kept_small _ imm (omega (arith, f.2)) p.imm in
      logic-plan e m _ (logic_at k.0) p.code ∙ rw (p.width, p.flag, p.dest, p.source, i)
  instr-back (instr.Imm5U k df wd ws imm) f =
      let p = parts (arith_code (imm5_at k.0)) df 1 wd.0 ws.0 0 imm f.0 f.1 none in
      let i = kept_small _ imm (omega (arith, f.2)) p.imm in
      imm5-plan e m _ k.0 p.code ∙ rw (p.width, p.flag, p.dest, p.source, i, mod-eq_of_lt f.2)
  -- with a signed immediate or an offset
  instr-back (instr.Imm5S k df wd ws imm) f =
      let p = parts (arith_code (imm5_at k.0)) df 1 wd.0 ws.0 0 (wrap 32 (signed 5 imm)) f.0 f.1 none in
      let i = kept-signed 5 (lit< tt) (lit≤ tt) _ imm f.2 p.imm in
      imm5-plan e m _ k.0 p.code ∙ rw (p.width, p.flag, p.dest, p.source, i, mod-eq_of_lt f.2)
  instr-back (instr.Ldi df wd imm) f =
      let p = parts 92 df 1 wd.0 0 0 (wrap 32 (signed 10 imm)) f.0 none none in
      let i = kept-signed 10 (lit< tt) (lit≤ tt) _ imm f.1 p.imm in
      rw (p.code, p.width, p.flag, p.dest, i, mod-eq_of_lt f.1, filled-back df (signed 10 imm))
  instr-back (instr.Memory k df wd offset rs) f =
      let z = signed 10 offset *ℤ pos (bytes df) in
      let p = parts (memory_code (memory_at k.0)) df 0 wd.0 rs.0 0 (wrap 32 z) f.0 f.2 none in
      let i = kept-times 10 (lit< tt) (lit≤ tt) _ offset f.1 (bytes df) (bytes-few df) p.imm in
      memory-plan e m _ (memory_at k.0) p.code
      ∙ rw (p.width, p.dest, p.source, i, sum_back)
  instr-back (instr.Branch k df wt offset) f =
      let z = signed 16 offset *ℤ pos 4 in
      let p = parts (zero_code (zero_at k.0)) df 0 0 0 wt.0 (wrap 32 z) none none f.0 in
      let i = kept-times 16 (lit< tt) (lit≤ tt) _ offset f.1 4 (lit≤ tt) p.imm in
      zero-plan e m _ (zero_at k.0) p.code ∙ rw (p.width, p.third, i, sum_back)
  instr-back (instr.BranchV k wt offset) f =
      let z = signed 16 offset *ℤ pos 4 in
      let p = parts (2 + zero_code (zero_at k.0)) B 0 0 0 wt.0 (wrap 32 z) none none f.0 in
      let i = kept-times 16 (lit< tt) (lit≤ tt) _ offset f.1 4 (lit≤ tt) p.imm in
      zero-v-plan e m _ (zero_at k.0) p.code ∙ rw (p.third, i, sum_back)

pub plan-back : (r : Result Instr Unread) → FormedRead r → (e : Env) (m : Machine) → plan_at e m (entry_of r) ≡ plan_read e m r
plan-back (Err u) f e m = unread-plan e m _ u (parts (unread_code u) B 0 0 0 0 0 none none none).code
plan-back (Ok i) f e m = instr-back e m i f

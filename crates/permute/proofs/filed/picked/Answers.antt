-- `permute::filed::picked` meets its contract. The loop goes from the lowest element up (Turn).
use Prim.Native.Nat.{ℕ, ◌+◌, ◌*◌, ◌/◌, ◌%◌, ◌^◌, ◌<◌}
use mathlib.Core.Path.{◌≡◌, refl, ◌∙◌}
use mathlib.Core.List.{List}
use mathlib.Core.Logic.{◌⊎◌, inl, inr, ⊎_elim}
use native.Mathlib.Omega.{arith}
use lib.ListN.{length}
use Rattle.isa.specs.declared.Width.{Width}
use Rattle.isa.specs.Widths.{bits, bytes}
use Rattle.memory.specs.Bytes.{number, part, AreBytes}
use Rattle.memory.specs.File.{register_at}
use Rattle.permute.proofs.ControlLaws.{told, grown-none, put-fits, put-taken, turn-inside, turn-left, place-next}
use Rattle.permute.proofs.FiledLaws.{filed-first, filed-second}
use Rattle.permute.proofs.filed.picked.Goals as goal
use Rattle.permute.proofs.filed.picked.Goals.{then-c-eq0, else-c-eq0, then-c-m-eq0, else-c-m-eq0}

-- which register a control names
abbrev Came : ℕ → ℕ → ℕ → ℕ → ℕ → Type 0
Came s t c m r = ((c / m % 2 ≡ 0) × (r ≡ t)) ⊎ ((c / m % 2 ≡ 0 → ⊥) × (r ≡ s))

-- the element that the control chooses, by the numbers of the width
is : (w : Width) {n b m : ℕ} → n ≡ bits w → b ≡ bytes w → m ≡ 128 / bits w → (s t c r : ℕ) → s < 32 → t < 32
    → (file : List ℕ) → AreBytes file → length file ≡ 512 → c / 64 % 4 ≡ 0 → Came s t c m r
    → number (part file (16 * r + b * (c % m)) (bytes w))
    ≡ told n (register_at file (record { 0 = s })) (register_at file (record { 0 = t })) c
is w en eb em s t c r hs ht file are long taken came = ⊎_elim
    (λ k. rw (k.1, eb, em, en) (filed-first file are long w _ _ c taken ht (rw em at k.0)))
    (λ k. rw (k.1, eb, em, en) (filed-second file are long w _ _ c taken hs (rw em at k.0))) came

pub loop-i-init : goal.loop-i-init
loop-i-init c =
    let pre = c.requires in
    record {
      w = c.args.w;
      size = pre.0;
      ones = rw pre.0 refl;
      reach = rw pre.0 refl;
      grown = grown-none _ _;
    }

pub overflow_add-out : goal.overflow_add-out
overflow_add-out c =
    let inv = c.loop-i.invariant in
    let came : Came c.args.s c.args.t (c.args.d / 2 ^ (c.args.n * c.loop-i.i)) c.args.m c.from.result =
    elim c.if-c-m-eq0.branch [
      | then-c-m-eq0 w ↦ inl (w.if-c-m-eq0.true, c.from.ensures ∙ w.r-is)
      | else-c-m-eq0 w ↦ inr (w.if-c-m-eq0.false, c.from.ensures ∙ w.r-is)
    ] in
    let x = c.item.ensures ∙ is c.args.w c.requires.0 c.requires.1 c.requires.2 _ _ _ _ c.requires.4 c.requires.5
    c.args.file.now (λ k. omega (arith, c.type_inv.file k)) c.requires.3 c.if-c-eq0.true came in
    omega (arith, put-fits inv (turn-inside inv refl c.loop-i-test.true) x)

pub loop-i-preserved : goal.loop-i-preserved
loop-i-preserved c =
    let inv = c.loop-i.invariant in
    let room = turn-inside inv refl c.loop-i-test.true in
    rw (← place-next c.args.n c.loop-i.i) (elim c.if-c-eq0.branch [
      | then-c-eq0 w ↦
          let came : Came c.args.s c.args.t (c.args.d / 2 ^ (c.args.n * c.loop-i.i)) c.args.m w.from.result =
          elim w.if-c-m-eq0.branch [
            | then-c-m-eq0 v ↦ inl (v.if-c-m-eq0.true, w.from.ensures ∙ v.r-is)
            | else-c-m-eq0 v ↦ inr (v.if-c-m-eq0.false, w.from.ensures ∙ v.r-is)
          ] in
          let x = w.item.ensures ∙ is c.args.w c.requires.0 c.requires.1 c.requires.2 _ _ _ _ c.requires.4 c.requires.5
          c.args.file.now (λ k. omega (arith, c.type_inv.file k)) c.requires.3 w.if-c-eq0.true came in
          rw w.out-is (put-taken inv room x)
      | else-c-eq0 w ↦ rw w.out-is (turn-left inv room w.if-c-eq0.false)
    ])

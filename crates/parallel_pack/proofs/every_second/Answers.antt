-- `parallel_pack::every_second` meets its contract. A half of the result from each word.
use borrow.Author.Rules.{rules}
use mathlib.Core.Path.{sym, ap, ◌∙◌}
use Prim.Native.Nat.{ℕ, ◌+◌, ◌*◌, ◌/◌, ◌^◌, ◌<◌}
use native.Mathlib.Omega.{arith}
use native.Mathlib.Nat.{mod-eq_of_lt}
use Rattle.isa.specs.Widths.{bits}
use Rattle.memory.specs.Value.{value}
use Rattle.memory.proofs.Values.{Words}
use Rattle.vectors.specs.Register.{element}
use Rattle.vectors.proofs.ElementLaws.{element-below, build-same}
use Rattle.vectors.proofs.Wholes.{value_low, value-high}
use Rattle.parallel.proofs.Words.{made}
use Rattle.parallel_pack.proofs.Places.{doubles, half-below, halves-built, element-shift}
use Rattle.parallel_pack.proofs.every_second.Goals as goal

pub overflow_add-result : goal.overflow_add-result
overflow_add-result c =
    let top = c in
    let n = bits top.args.w in
    let d = doubles top.args.w top.requires.0 in
    let low = half-below d _ c.gathered.ensures (λ i. element-below n _ (i * 2)) in
    let high = half-below d _ c.gathered-2.ensures (λ i. element-below n _ (i * 2)) in
    let fits : c.gathered-2.result * 2 ^ 32 < 2 ^ 64 = omega arith in
    rw (mod-eq_of_lt fits) (omega arith)

pub returns : goal.returns
returns c =
    let top = c in
    let a = top.args in
    let v = a.v in
    let o = a.o in
    let n = bits a.w in
    let d = doubles a.w top.requires.0 in
    let counted = c.count.ensures in
    let f : ℕ → ℕ = λ i. element n (value v) (i * 2 + o) in
    let high = half-below d _ c.gathered-2.ensures (λ i. element-below n _ (i * 2)) in
    let fits : c.gathered-2.result * 2 ^ 32 < 2 ^ 64 = omega arith in
    let words : Words v = record { low = search rules; high = search rules } in
    rw (mod-eq_of_lt fits)
    (made d.one f
    (halves-built d f
    ((rw counted at c.gathered.ensures)
    ∙ build-same n (λ i. element n (v.low / 2 ^ (n * o)) (i * 2)) f (32 / n)
    (λ i l. element-shift n v.low o (i * 2)
    ∙ sym (value_low d.one {v = v} words (i * 2 + o) (omega (arith, d.half, top.requires.1)))))
    ((rw counted at c.gathered-2.ensures)
    ∙ build-same n (λ i. element n (v.high / 2 ^ (n * o)) (i * 2)) (λ i. f (32 / n + i)) (32 / n)
    (λ i l. element-shift n v.high o (i * 2) ∙ sym (value-high d.one {v = v} words (i * 2 + o))
    ∙ ap (element n (value v)) (omega (arith, d.half)))))
    (λ i l. element-below n (value v) (i * 2 + o)))

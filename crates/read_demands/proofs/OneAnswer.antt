-- Two answers that meet a promise are one: both are what the definition says. Assumes nothing.
use mathlib.Core.Path.{◌≡◌, refl, sym, ap, ◌∙◌}
use mathlib.Core.Bool.{Bool, true, false}
use mathlib.Core.List.{List}
use Prim.Native.Nat.{ℕ}
use native.Mathlib.Omega.{arith}
use Rattle.std.specs.Prelude.{Option, Some, None, is_none}
use Rattle.state.specs.declared.control.Control.{Control}
use Rattle.machine.specs.declared.run.Ended.{Ended}
use Rattle.listed.specs.Run.{end_in}
use Rattle.state.specs.Machine.{Machine}
use Rattle.entry.specs.declared.MsaEnded.{MsaEnded}
use Rattle.entry.specs.OneAnswer.{Same}
use Rattle.entry.proofs.OneAnswer as entry
use Rattle.entry_read.specs.Entry.{ShortIs}
use Rattle.demands.proofs.OneAnswer as machine
use Rattle.read_demands.specs.OneAnswer.{OneListed, OneRead}

same-end : (c : Control) (r r' : Option Ended) → is_none r ≡ is_none r' → end_in c r ≡ end_in c r' → r ≡ r'
same-end c None None h e = refl
same-end c (Some x) (Some y) h e = ap Some e
same-end c None (Some y) h e = absurd (let z : ◌≡◌ {A = ℕ} 0 1 = cc in omega arith)
same-end c (Some x) None h e = absurd (let z : ◌≡◌ {A = ℕ} 0 1 = cc in omega arith)

pub one-listed : OneListed
one-listed s r r' v v' g g' w w' l l' i j =
    let c = s.run.after.ctl in
    let run = machine.one-run s.run (end_in c r) (end_in c r') v v' g g' w w' i.ended j.ended in
    (same-end c r r' (i.short ∙ sym j.short) run.0, run.1, run.2, run.3, i.list ∙ sym j.list)

one-short : (m : Machine) (b : List ℕ) (r r' : MsaEnded) (v v' g g' w w' c c' : List ℕ) → ShortIs m r v g w b c
    → ShortIs m r' v' g' w' b c'
    → (r ≡ r') × Same v v' g g' w w' c c'
one-short m b r r' v v' g g' w w' c c' i j =
    let n = i.reason ∙ sym j.reason in
    let q = i.count ∙ sym j.count in
    let x = i.missing ∙ sym j.missing in (
      λ k. record { reason = n k; count = q k; missing = x k },
      (i.vec ∙ sym j.vec, i.gen ∙ sym j.gen, i.work ∙ sym j.work, i.control ∙ sym j.control),
    )

pub one-read : OneRead
one-read s b r r' v v' g g' w w' c c' l l' i j =
    let one = go s.short refl in
    (one.0, i.list ∙ sym j.list, one.1)
  where
    go : (t : Bool) → s.short ≡ t → (r ≡ r') × Same v v' g g' w w' c c'
    go false h = entry.one-run s.run b r r' v v' g g' w w' c c' (i.ran h) (j.ran h)
    go true h = one-short s.run.after b r r' v v' g g' w w' c c' (i.short h) (j.short h)

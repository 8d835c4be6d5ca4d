-- Two answers that meet a promise are one: both are what the definition says. Assumes nothing.
use mathlib.Core.Path.{sym, ◌∙◌}
use Rattle.entry.specs.OneAnswer.{OneStep, OneRun}

pub one-step : OneStep
one-step s b r r' v v' g g' w w' c c' i j =
    let n = i.reason ∙ sym j.reason in
    let x = i.missing ∙ sym j.missing in (
      λ k. record { reason = n k; missing = x k },
      (i.vec ∙ sym j.vec, i.gen ∙ sym j.gen, i.work ∙ sym j.work, i.control ∙ sym j.control),
    )

pub one-run : OneRun
one-run s b r r' v v' g g' w w' c c' i j =
    let n = i.reason ∙ sym j.reason in
    let q = i.count ∙ sym j.count in
    let x = i.missing ∙ sym j.missing in (
      λ k. record { reason = n k; count = q k; missing = x k },
      (i.vec ∙ sym j.vec, i.gen ∙ sym j.gen, i.work ∙ sym j.work, i.control ∙ sym j.control),
    )

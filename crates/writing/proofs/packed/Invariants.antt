-- The loop's invariant: the fields from place i on are put together, and all of them fit.
use Prim.Native.Nat.{ℕ, ◌^◌, ◌≤◌}
use mathlib.Core.Path.{◌≡◌}
use mathlib.Core.Bool.{true}
use mathlib.Core.List.{List}
use lib.ListN.{drop}
use Rattle.fields.specs.Fields.{total, word_of, fits}
use Rattle.writing.proofs.packed.Given as goal

pub record Done (ns vs : List ℕ) (i word scale : ℕ) : Type 0 where
  pub within : i ≤ 7
  pub put : word ≡ word_of (drop i ns) (drop i vs)
  pub next : scale ≡ 2 ^ total (drop i ns)
  pub fit : fits (drop i ns) (drop i vs) ≡ true

abbrev pub invariant-loop-i : goal.invariant-loop-i
invariant-loop-i l = Done l.widths l.values l.i l.word l.scale

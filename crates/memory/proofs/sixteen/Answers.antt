-- `memory::sixteen` meets its contract: sixteen bytes spell what their two halves spell.
use mathlib.Core.Path.{sym, ap₂, ◌∙◌}
use Prim.Native.Nat.{◌+◌, ◌*◌, ◌^◌}
use borrow.Author.Rules.{rules}
use native.Mathlib.Omega.{arith}
use Rattle.memory.proofs.Numbers.{number-parts}
use Rattle.memory.proofs.Values.{holds}
use Rattle.memory.proofs.sixteen.Goals as goal

pub returns : goal.returns
returns c =
    let s = c in
    holds (record { low = search rules; high = search rules })
    (ap₂ (λ a b. a + b * 2 ^ 64) c.eight.ensures c.eight-2.ensures
    ∙ sym (number-parts s.args.s.now s.args.at 8 8 (omega (arith, s.requires))))

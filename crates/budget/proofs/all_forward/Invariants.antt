-- `budget::all_forward`. The invariant: the words before i all go forward.
use Rattle.std.proofs.Common.{◌≡◌, true}
use Rattle.budget.specs.Budget.{forward_to}
use Rattle.budget.proofs.all_forward.Given as goal

abbrev pub invariant-loop-i : goal.invariant-loop-i
invariant-loop-i l = forward_to l.program l.i ≡ true

-- `state::windows::first_outside`: of the addresses that are left the first outside is that of all sixteen.
use Rattle.std.proofs.Common.{◌≡◌, ◌+◌, ◌-◌, ◌%◌, ◌^◌}
use Rattle.state.specs.Windows.{first_outside}
use Rattle.state.proofs.windows.first_outside.Given as goal

abbrev pub invariant-loop-k : goal.invariant-loop-k
invariant-loop-k l =
    first_outside (16 - l.k) l.base l.len ((l.a + l.k) % 2 ^ 64) ≡ first_outside 16 l.base l.len l.a

-- What a plan names is there: a register of the file, and sixteen bytes of a work window of len bytes from base.
use Rattle.std.specs.Prelude.{ℕ, ◌+◌, ◌≤◌, ◌<◌}
use Rattle.plan.specs.declared.Plan.{Plan}
use Rattle.plan.specs.declared.Plan.TheVariants as plan

abbrev pub There : ℕ → ℕ → Plan → Type 0
There base len (plan.Stop s) = Unit {0}
There base len plan.Nothing = Unit {0}
There base len (plan.Vector r v) = r.0 < 32
There base len (plan.General r x) = r.0 < 32
There base len (plan.Store a v) = (base ≤ a) × (a + 16 ≤ base + len)
There base len (plan.Csr x) = Unit {0}
There base len (plan.Branch k) = Unit {0}

-- Two calls of `msa_run` as one. A call that ended with 20 is gone on with by a call on the bytes that it left. The two
-- do what one call with the sum of their budgets does: it leaves the same bytes, has the second's reason and its
-- missing address, and counts what both count. (A budget is below 2^32, and so is a sum that a call can have; nothing
-- here needs it.)
use Rattle.std.specs.Prelude.{◌≡◌, ℕ, ◌+◌}
use Rattle.memory.specs.Bytes.{AreBytes}
use Rattle.entry.specs.declared.MsaEnded.{MsaEnded}
use Rattle.entry_demands.specs.Calls.{Given, Lent, Call}

-- calls from x to y with budget n, on from y to z with budget k, and from x to z' with both budgets
abbrev pub GoesOnCalled : Type 0
GoesOnCalled =
    (g : Given) (n k : ℕ) (a b c : MsaEnded) (x y z z' : Lent) → AreBytes x.control
    → Call g n x a y → a.reason ≡ 20 → Call g k y b z → Call g (n + k) x c z'
    → (c ≡ record { reason = b.reason; count = n + b.count; missing = b.missing }) × (z' ≡ z)

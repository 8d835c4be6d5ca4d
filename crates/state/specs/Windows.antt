-- Sixteen bytes and the window that holds them all, or the address that is missing. No window passes 2^64 (limit 3), so
-- an address of one is a plain number, and sixteen addresses that pass 2^64 are in none.
use Rattle.std.specs.Prelude.{ℕ, zero, suc, ◌+◌, ◌-◌, ◌%◌, ◌^◌, Bool, cond, ◌&&◌, nat_le, nat_lt, Some, None, Option}
use Rattle.state.specs.declared.board.Board.{Board}
use Rattle.state.specs.declared.windows.Spot.{Spot}
use Rattle.state.specs.declared.windows.Spot.TheVariants.{Table, Work, Outside}

-- the place of address a, where a window of len bytes from base holds a to a + 15
unfoldable pub placed : ℕ → ℕ → ℕ → Option ℕ
placed base len a = cond (nat_le base a && nat_le (a + 16) (base + len)) (Some (a - base)) None

-- whether the address x lies in a window of len bytes from base
unfoldable pub lies_in : ℕ → ℕ → ℕ → Bool
lies_in base len x = nat_le base x && nat_lt x (base + len)

-- of n addresses from a, counted upward modulo 2^64, the first that does not lie in the window (where all n do, the one
-- after them)
unfoldable pub first_outside : ℕ → ℕ → ℕ → ℕ → ℕ
first_outside zero base len a = a
first_outside (suc n) base len a = cond (lies_in base len a) (first_outside n base len ((a + 1) % 2 ^ 64)) a

-- of the sixteen addresses the first that does not lie in the window holding the first byte, or the first address
-- itself if no window holds it
unfoldable pub missing : Board → ℕ → ℕ → ℕ → ℕ
missing b table work a =
    cond (lies_in b.table table a) (first_outside 16 b.table table a)
    (cond (lies_in b.work work a) (first_outside 16 b.work work a) a)

-- what the table and the work window say of sixteen addresses of which x is missing where neither has them all
abbrev pub or_work : ℕ → Option ℕ → Spot
or_work x (Some i) = Work i
or_work x None = Outside x

abbrev pub or_else : ℕ → Option ℕ → Option ℕ → Spot
or_else x (Some i) f = Table i
or_else x None f = or_work x f

-- the window, and the place in it; limit 4 keeps the windows apart, so it does not matter which is asked first
abbrev pub spot_of : Board → ℕ → ℕ → ℕ → Spot
spot_of b table work a = or_else (missing b table work a) (placed b.table table a) (placed b.work work a)

-- `listed::kept::unread_at` meets its contract.
use Rattle.std.proofs.Common.{sym, ne_eqb}
use Rattle.listed.proofs.kept.unread_at.Goals as goal

pub returns-in-109 : goal.returns-in-109
returns-in-109 c = rw c.in-109.is

pub returns-in-110 : goal.returns-in-110
returns-in-110 c = rw c.in-110.is

pub returns-in_default : goal.returns-in_default
returns-in_default c = rw (
  ne_eqb 109 c.args.c (λ e. c.in_default.in_default-own.rest.0.1 (sym e)),
  ne_eqb 110 c.args.c
      (λ e. c.in_default.in_default-own.rest.1 (sym e)),
)

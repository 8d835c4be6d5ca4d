-- `listed::moved::moved` meets its contract.
use Rattle.std.proofs.Common.{sym, ne_eqb}
use Rattle.listed.proofs.moved.moved.Goals as goal

pub returns-in-105 : goal.returns-in-105
returns-in-105 c w = rw (← c.code_of.ensures.0, c.in-105.is)
    (cc)

pub returns-in-106 : goal.returns-in-106
returns-in-106 c w = rw (← c.code_of.ensures.0, c.in-106.is)
    (cc)

pub returns-in-107 : goal.returns-in-107
returns-in-107 c w = rw (← c.code_of.ensures.0, c.in-107.is) (cc)

pub returns-in_default : goal.returns-in_default
returns-in_default c w =
    let k = c.code_of.result in
    rw (
      ← c.code_of.ensures.0,
      ne_eqb 105 k (λ e. c.in_default.in_default-own.rest.0.0.1 (sym e)),
      ne_eqb 106 k (λ e. c.in_default.in_default-own.rest.0.1 (sym e)),
      ne_eqb 107 k (λ e. c.in_default.in_default-own.rest.1 (sym e)),
    )
    (cc)

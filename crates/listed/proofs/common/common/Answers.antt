-- `listed::common::common` meets its contract.
use Rattle.std.proofs.Common.{◌≡◌, ◌≤◌, sym, refl, arith, ne_eqb}
use Rattle.acts.specs.Act.{last_in}
use Rattle.entries.specs.Cut.{width_of}
use Rattle.isa.specs.declared.Zero.TheVariants.{Bz, Bnz}
use Rattle.listed.proofs.ActLaws.{branching, plan-common}
use Rattle.plan.specs.Zero.{taken_of, taken_vof}
use Rattle.state.specs.Machine.{env, machine}
use Rattle.listed.proofs.common.common.Goals as goal

pub returns-in-0 : goal.returns-in-0
returns-in-0 c =
    let a = c.args in
    let m = machine a.vectors.now a.generals.now a.work.now a.c in
    let plan = plan-common (env a.board a.table.now) m a.e c.requires.0 c.requires.1 in
    rw (
      plan,
      ← c.code_of.ensures.0,
      c.in-0.is,
      ← c.address_of.ensures,
    )
    (c.load.ensures a.generals.now)

pub returns-in-1 : goal.returns-in-1
returns-in-1 c =
    let a = c.args in
    let m = machine a.vectors.now a.generals.now a.work.now a.c in
    let plan = plan-common (env a.board a.table.now) m a.e c.requires.0 c.requires.1 in
    rw (
      plan,
      ← c.code_of.ensures.0,
      c.in-1.is,
      ← c.address_of-in-1.ensures,
    )
    (c.store.ensures a.table.now a.generals.now refl)

pub returns-in-2 : goal.returns-in-2
returns-in-2 c =
    let a = c.args in
    let m = machine a.vectors.now a.generals.now a.work.now a.c in
    let plan = plan-common (env a.board a.table.now) m a.e c.requires.0 c.requires.1 in
    rw (
      plan,
      ← c.code_of.ensures.0,
      c.in-2.is,
    )
    (c.summed.ensures a.board.work a.vectors.now a.work.now)

pub returns-in-3 : goal.returns-in-3
returns-in-3 c =
    let a = c.args in
    let m = machine a.vectors.now a.generals.now a.work.now a.c in
    let plan = plan-common (env a.board a.table.now) m a.e c.requires.0 c.requires.1 in
    rw (
      plan,
      ← c.code_of.ensures.0,
      c.in-3.is,
    )
    (c.summed-in-3.ensures a.board.work a.vectors.now a.work.now)

pub returns-in-4 : goal.returns-in-4
returns-in-4 c =
    let a = c.args in
    let m = machine a.vectors.now a.generals.now a.work.now a.c in
    let plan = plan-common (env a.board a.table.now) m a.e c.requires.0 c.requires.1 in
    let is : c.taken.result ≡ taken_of Bz (width_of a.e) (last_in m a.e) = cc in
    rw (
      plan,
      ← c.code_of.ensures.0,
      c.in-4.is,
      ← is,
    )
    (c.branched.ensures a.board.work a.vectors.now a.generals.now a.work.now)

pub returns-in-5 : goal.returns-in-5
returns-in-5 c =
    let a = c.args in
    let m = machine a.vectors.now a.generals.now a.work.now a.c in
    let plan = plan-common (env a.board a.table.now) m a.e c.requires.0 c.requires.1 in
    let is : c.taken-in-5.result ≡ taken_of Bnz (width_of a.e) (last_in m a.e) = cc in
    rw (
      plan,
      ← c.code_of.ensures.0,
      c.in-5.is,
      ← is,
    )
    (c.branched-in-5.ensures a.board.work a.vectors.now a.generals.now a.work.now)

pub returns-in-6 : goal.returns-in-6
returns-in-6 c =
    let a = c.args in
    let m = machine a.vectors.now a.generals.now a.work.now a.c in
    let plan = plan-common (env a.board a.table.now) m a.e c.requires.0 c.requires.1 in
    let is : c.taken_v.result ≡ taken_vof Bz (last_in m a.e) = cc in
    rw (
      plan,
      ← c.code_of.ensures.0,
      c.in-6.is,
      ← is,
    )
    (c.branched-in-6.ensures a.board.work a.vectors.now a.generals.now a.work.now)

pub returns-in_default : goal.returns-in_default
returns-in_default c =
    let a = c.args in
    let m = machine a.vectors.now a.generals.now a.work.now a.c in
    let plan = plan-common (env a.board a.table.now) m a.e c.requires.0 c.requires.1 in
    let is : c.taken_v-in_default.result ≡ taken_vof Bnz (last_in m a.e) = cc in
    let rest = c.in_default.in_default-own.rest in
    let k = c.code_of.result in
    let same = c.code_of.ensures.0 in
    let four : 4 ≤ k = omega (
      arith,
      rest.0.0.0.0.0.0.1,
      rest.0.0.0.0.0.1,
      rest.0.0.0.0.1,
      rest.0.0.0.1,
    ) in
    rw (
      plan,
      ← same,
      branching k four (omega (arith, same, c.requires.0)),
      ne_eqb 0 k (λ e. rest.0.0.0.0.0.0.1 (sym e)),
      ne_eqb 1 k (λ e. rest.0.0.0.0.0.1 (sym e)),
      ne_eqb 2 k (λ e. rest.0.0.0.0.1 (sym e)),
      ne_eqb 3 k (λ e. rest.0.0.0.1 (sym e)),
      ne_eqb 4 k (λ e. rest.0.0.1 (sym e)),
      ne_eqb 5 k (λ e. rest.0.1 (sym e)),
      ne_eqb 6 k (λ e. rest.1 (sym e)),
      ← is,
    )
    (c.branched-in_default.ensures a.board.work a.vectors.now a.generals.now a.work.now)

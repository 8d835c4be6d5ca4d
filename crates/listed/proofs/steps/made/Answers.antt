-- `listed::steps::made` meets its contract.
use Rattle.std.proofs.Common.{◌≡◌, sym, ◌∙◌, arith}
use Rattle.entries.specs.Cut.{code_of}
use Rattle.listed.proofs.ActLaws.{executed-vector, executed-value, shuffles}
use Rattle.state.specs.Machine.{machine}
use Rattle.listed.proofs.steps.made.Goals as goal

pub returns-then-k-eq80 : goal.returns-then-k-eq80
returns-then-k-eq80 c n w k =
    let a = c.args in
    let code : code_of a.e ≡ 80 = sym c.code_of-k.ensures.0 ∙ c.if-k-eq80.true in
    let v = c.shuffled.ensures in
    rw (
      executed-vector n (machine a.vectors.now a.generals.now w k) a.e (omega (arith, code))
          (omega (arith, code)),
      code,
      shuffles,
    ) (cc)

pub seldom-requires : goal.seldom-requires
seldom-requires c =
    (c.requires.0, omega (arith, c.code_of-k.ensures.0, c.if-k-lt88.true))

pub returns-then-k-lt88 : goal.returns-then-k-lt88
returns-then-k-lt88 c n w k =
    let a = c.args in
    let t = c.third.ensures.exact in
    let s = c.read_register-s.ensures.exact in
    let d = c.read_register-d.ensures.exact in
    let i = c.dest_of.ensures.0 in
    let j = c.source_of.ensures.0 in
    let v = c.seldom.ensures in
    rw (executed-vector n (machine a.vectors.now a.generals.now w k) a.e (omega (arith, c.requires.0))
    (omega (arith, c.code_of-k.ensures.0, c.if-k-lt88.true))) (cc)

pub returns : goal.returns
returns c n w k =
    let a = c.args in
    let v = c.other.ensures w k in
    rw (executed-value n (machine a.vectors.now a.generals.now w k) a.e
    (omega (arith, c.code_of-k.ensures.0, c.if-k-lt88.false)) c.requires.1) (cc)

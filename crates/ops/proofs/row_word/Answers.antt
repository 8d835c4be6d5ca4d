-- `ops::row_word` meets its contract: an arm a row.
use mathlib.Core.Path.{◌≡◌, sym, ap}
use Prim.Native.Nat.{ℕ}
use Rattle.ops.specs.Table.{row_at}
use Rattle.ops.specs.Packed.{row_word, byte_at}
use Rattle.ops.proofs.Packed.{vacant}
use Rattle.ops.proofs.row_word.Goals as goal

at : {j k : ℕ} → k ≡ j → row_word j ≡ row_word k
at e = ap row_word (sym e)

pub returns-in-0 : goal.returns-in-0
unfolding row_word byte_at row_at
returns-in-0 c = at c.in-0.is

pub returns-in-1 : goal.returns-in-1
unfolding row_word byte_at row_at
returns-in-1 c = at c.in-1.is

pub returns-in-2 : goal.returns-in-2
unfolding row_word byte_at row_at
returns-in-2 c = at c.in-2.is

pub returns-in-6 : goal.returns-in-6
unfolding row_word byte_at row_at
returns-in-6 c = at c.in-6.is

pub returns-in-7 : goal.returns-in-7
unfolding row_word byte_at row_at
returns-in-7 c = at c.in-7.is

pub returns-in-9 : goal.returns-in-9
unfolding row_word byte_at row_at
returns-in-9 c = at c.in-9.is

pub returns-in-10 : goal.returns-in-10
unfolding row_word byte_at row_at
returns-in-10 c = at c.in-10.is

pub returns-in-13 : goal.returns-in-13
unfolding row_word byte_at row_at
returns-in-13 c = at c.in-13.is

pub returns-in-14 : goal.returns-in-14
unfolding row_word byte_at row_at
returns-in-14 c = at c.in-14.is

pub returns-in-15 : goal.returns-in-15
unfolding row_word byte_at row_at
returns-in-15 c = at c.in-15.is

pub returns-in-16 : goal.returns-in-16
unfolding row_word byte_at row_at
returns-in-16 c = at c.in-16.is

pub returns-in-17 : goal.returns-in-17
unfolding row_word byte_at row_at
returns-in-17 c = at c.in-17.is

pub returns-in-18 : goal.returns-in-18
unfolding row_word byte_at row_at
returns-in-18 c = at c.in-18.is

pub returns-in-19 : goal.returns-in-19
unfolding row_word byte_at row_at
returns-in-19 c = at c.in-19.is

pub returns-in-20 : goal.returns-in-20
unfolding row_word byte_at row_at
returns-in-20 c = at c.in-20.is

pub returns-in-21 : goal.returns-in-21
unfolding row_word byte_at row_at
returns-in-21 c = at c.in-21.is

pub returns-in-32 : goal.returns-in-32
unfolding row_word byte_at row_at
returns-in-32 c = at c.in-32.is

pub returns-in-36 : goal.returns-in-36
unfolding row_word byte_at row_at
returns-in-36 c = at c.in-36.is

pub returns-in-40 : goal.returns-in-40
unfolding row_word byte_at row_at
returns-in-40 c = at c.in-40.is

pub returns-in-42 : goal.returns-in-42
unfolding row_word byte_at row_at
returns-in-42 c = at c.in-42.is

pub returns-in-44 : goal.returns-in-44
unfolding row_word byte_at row_at
returns-in-44 c = at c.in-44.is

pub returns-in-47 : goal.returns-in-47
unfolding row_word byte_at row_at
returns-in-47 c = at c.in-47.is

pub returns-in-48 : goal.returns-in-48
unfolding row_word byte_at row_at
returns-in-48 c = at c.in-48.is

pub returns-in-49 : goal.returns-in-49
unfolding row_word byte_at row_at
returns-in-49 c = at c.in-49.is

pub returns-in-50 : goal.returns-in-50
unfolding row_word byte_at row_at
returns-in-50 c = at c.in-50.is

pub returns-in-51 : goal.returns-in-51
unfolding row_word byte_at row_at
returns-in-51 c = at c.in-51.is

pub returns-in-52 : goal.returns-in-52
unfolding row_word byte_at row_at
returns-in-52 c = at c.in-52.is

pub returns-in-53 : goal.returns-in-53
unfolding row_word byte_at row_at
returns-in-53 c = at c.in-53.is

pub returns-in-54 : goal.returns-in-54
unfolding row_word byte_at row_at
returns-in-54 c = at c.in-54.is

pub returns-in-55 : goal.returns-in-55
unfolding row_word byte_at row_at
returns-in-55 c = at c.in-55.is

pub returns-in-56 : goal.returns-in-56
unfolding row_word byte_at row_at
returns-in-56 c = at c.in-56.is

pub returns-in-58 : goal.returns-in-58
unfolding row_word byte_at row_at
returns-in-58 c = at c.in-58.is

pub returns-in_default : goal.returns-in_default
unfolding row_word byte_at row_at
returns-in_default c = sym (vacant c.args.m c.in_default.in_default-own.rest)

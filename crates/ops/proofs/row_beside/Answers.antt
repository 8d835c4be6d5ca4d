-- `ops::row_beside` meets its contract: an arm a row.
use mathlib.Core.Path.{sym}
use Rattle.ops.proofs.Packed.{vacant}
use Rattle.ops.proofs.row_beside.Goals as goal

pub returns-in-0 : goal.returns-in-0
returns-in-0 c = rw c.in-0.is c.row_word.ensures

pub returns-in-1 : goal.returns-in-1
returns-in-1 c = rw c.in-1.is c.row_word-in-1.ensures

pub returns-in-2 : goal.returns-in-2
returns-in-2 c = rw c.in-2.is c.row_word-in-2.ensures

pub returns-in-6 : goal.returns-in-6
returns-in-6 c = rw c.in-6.is c.row_word-in-6.ensures

pub returns-in-7 : goal.returns-in-7
returns-in-7 c = rw c.in-7.is c.row_word-in-7.ensures

pub returns-in-9 : goal.returns-in-9
returns-in-9 c = rw c.in-9.is c.row_word-in-9.ensures

pub returns-in-10 : goal.returns-in-10
returns-in-10 c = rw c.in-10.is c.row_word-in-10.ensures

pub returns-in-13 : goal.returns-in-13
returns-in-13 c = rw c.in-13.is c.row_word-in-13.ensures

pub returns-in-14 : goal.returns-in-14
returns-in-14 c = rw c.in-14.is c.row_word-in-14.ensures

pub returns-in-15 : goal.returns-in-15
returns-in-15 c = rw c.in-15.is c.row_word-in-15.ensures

pub returns-in-16 : goal.returns-in-16
returns-in-16 c = rw c.in-16.is c.row_word-in-16.ensures

pub returns-in-17 : goal.returns-in-17
returns-in-17 c = rw c.in-17.is c.row_word-in-17.ensures

pub returns-in-18 : goal.returns-in-18
returns-in-18 c = rw c.in-18.is c.row_word-in-18.ensures

pub returns-in-19 : goal.returns-in-19
returns-in-19 c = rw c.in-19.is c.row_word-in-19.ensures

pub returns-in-20 : goal.returns-in-20
returns-in-20 c = rw c.in-20.is c.row_word-in-20.ensures

pub returns-in-21 : goal.returns-in-21
returns-in-21 c = rw c.in-21.is c.row_word-in-21.ensures

pub returns-in-32 : goal.returns-in-32
returns-in-32 c = rw c.in-32.is c.row_word-in-32.ensures

pub returns-in-36 : goal.returns-in-36
returns-in-36 c = rw c.in-36.is c.row_word-in-36.ensures

pub returns-in-40 : goal.returns-in-40
returns-in-40 c = rw c.in-40.is c.row_word-in-40.ensures

pub returns-in-42 : goal.returns-in-42
returns-in-42 c = rw c.in-42.is c.row_word-in-42.ensures

pub returns-in-44 : goal.returns-in-44
returns-in-44 c = rw c.in-44.is c.row_word-in-44.ensures

pub returns-in-47 : goal.returns-in-47
returns-in-47 c = rw c.in-47.is c.row_word-in-47.ensures

pub returns-in-48 : goal.returns-in-48
returns-in-48 c = rw c.in-48.is c.row_word-in-48.ensures

pub returns-in-49 : goal.returns-in-49
returns-in-49 c = rw c.in-49.is c.row_word-in-49.ensures

pub returns-in-50 : goal.returns-in-50
returns-in-50 c = rw c.in-50.is c.row_word-in-50.ensures

pub returns-in-51 : goal.returns-in-51
returns-in-51 c = rw c.in-51.is c.row_word-in-51.ensures

pub returns-in-52 : goal.returns-in-52
returns-in-52 c = rw c.in-52.is c.row_word-in-52.ensures

pub returns-in-53 : goal.returns-in-53
returns-in-53 c = rw c.in-53.is c.row_word-in-53.ensures

pub returns-in-54 : goal.returns-in-54
returns-in-54 c = rw c.in-54.is c.row_word-in-54.ensures

pub returns-in-55 : goal.returns-in-55
returns-in-55 c = rw c.in-55.is c.row_word-in-55.ensures

pub returns-in-56 : goal.returns-in-56
returns-in-56 c = rw c.in-56.is c.row_word-in-56.ensures

pub returns-in-58 : goal.returns-in-58
returns-in-58 c = rw c.in-58.is c.row_word-in-58.ensures

pub returns-in_default : goal.returns-in_default
returns-in_default c = sym (vacant c.args.m c.in_default.in_default-own.rest)

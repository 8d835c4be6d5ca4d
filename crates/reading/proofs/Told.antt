-- What a class says of stops goes by whether the word reads. Assumes nothing.
use mathlib.Core.Path.{◌≡◌}
use mathlib.Core.Bool.{Bool, true, false, cond}
use Rattle.isa.specs.declared.Instr.{Instr}
use Rattle.std.specs.Prelude.{Ok, Result}
use Rattle.isa.specs.declared.Unread.{Unread}
use Rattle.reading.specs.declared.ahead.Ahead.{Ahead}
use Rattle.reading.specs.Ahead.{ahead_in, ahead_of}

pub told-given : {b ok : Bool} (i : Instr) (v : Result Instr Unread) {r : Ahead} → b ≡ ok → r ≡ cond b (ahead_in i) (ahead_of v)
    → r ≡ ahead_of (cond ok (Ok i) v)
told-given {b} i v {r} e h = rw (← e) (go b h)
  where
    go : (t : Bool) → r ≡ cond t (ahead_in i) (ahead_of v) → r ≡ ahead_of (cond t (Ok i) v)
    go true q = q
    go false q = q

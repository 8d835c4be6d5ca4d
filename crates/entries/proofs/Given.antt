-- The entry of what a class reads goes by whether the word reads. Assumes nothing.
use Rattle.std.proofs.Common.{◌≡◌, Bool, true, false, cond, refl}
use Rattle.isa.specs.declared.Instr.{Instr}
use Rattle.std.specs.Prelude.{Ok, Result}
use Rattle.isa.specs.declared.Unread.{Unread}
use Rattle.entries.specs.Entry.{instr_entry, entry_of}

pub entry-given : (ok : Bool) (i : Instr) (v : Result Instr Unread)
    → entry_of (cond ok (Ok i) v) ≡ cond ok (instr_entry i) (entry_of v)
entry-given true i v = refl
entry-given false i v = refl

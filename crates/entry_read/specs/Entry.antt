-- What the C entry that keeps a list of read instructions answers and leaves: what `msa_run` does, and the list with
-- the program's entries; or 51 where the list is too short, and then nothing is changed.
use Rattle.std.specs.Prelude.{◌≡◌, true, false, List, ℕ}
use Rattle.state.specs.Machine.{Machine}
use Rattle.entry.specs.declared.MsaEnded.{MsaEnded}
use Rattle.entry.specs.Entry.{RunsTo}
use Rattle.listed.specs.Run.{Listing}

-- 51 for a call with the machine m and the block b: no instruction is finished, and the lent bytes are as they were
pub record ShortIs (m : Machine) (r : MsaEnded) (v g w b b' : List ℕ) : Type 0 where
  pub reason : r.reason ≡ 51
  pub count : r.count ≡ 0
  pub missing : r.missing ≡ 0
  pub vec : v ≡ m.vec
  pub gen : g ≡ m.gen
  pub work : w ≡ m.work
  pub control : b' ≡ b

-- `msa_run_read` for the run s from a list: the answer r, the vector registers v, the general registers g and the work
-- window w after it, the bytes of the control block, b before and b' after, and the list l after it
pub record ReadsTo (s : Listing) (r : MsaEnded) (v g w b b' l : List ℕ) : Type 0 where
  pub ran : s.short ≡ false → RunsTo s.run r v g w b b'
  pub short : s.short ≡ true → ShortIs s.run.after r v g w b b'
  pub list : l ≡ s.list

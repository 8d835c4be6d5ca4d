-- What a plan names as the reason to stop is what the word says of stops, in the state that it meets.
-- Assumes nothing.
use mathlib.Core.Path.{◌≡◌, refl, ◌∙◌}
use mathlib.Core.List.{List}
use Prim.Native.Nat.{ℕ, ◌<◌, ◌^◌}
use lib.ListN.{length}
use Rattle.isa.specs.declared.Instr.{Instr}
use Rattle.isa.specs.declared.Instr.TheVariants as instr
use Rattle.isa.specs.declared.Memory.{Memory}
use Rattle.isa.specs.declared.Memory.TheVariants.{Ld, St}
use Rattle.std.specs.Prelude.{Ok, Err, Result, ⊤}
use Rattle.isa.specs.declared.Unread.{Unread}
use Rattle.state.specs.declared.stops.Stop.{Stop}
use Rattle.isa.specs.declared.Vreg.{Vreg}
use Rattle.isa.specs.declared.Width.{Width}
use Rattle.memory.specs.File.{register_at}
use Rattle.ops.specs.Meaning.{memory_at}
use Rattle.reading.specs.Ahead.{ahead_in, ahead_of}
use Rattle.reading.specs.Reading.{read_of}
use Rattle.state.specs.declared.board.Board.{Board}
use Rattle.state.specs.declared.control.Control.{Control}
use Rattle.state.specs.declared.windows.Spot.{Spot}
use Rattle.state.specs.declared.windows.Spot.TheVariants.{Table, Work, Outside}
use Rattle.state.specs.Machine.{Env, Machine, env, machine}
use Rattle.state.specs.Windows.{spot_of}
use Rattle.words.proofs.Answers.{read-formed}
use Rattle.words.specs.Formed.{Formed}
use Rattle.plan.specs.declared.Plan.{Plan}
use Rattle.plan.specs.Ahead.{first, place_early, stop_ahead, Within}
use Rattle.plan.specs.Numbers.{address}
use Rattle.plan.specs.Plan.{plan_of, early, unless, kind_of, executed, accessed, loaded, stored, general_at, stop_in}

-- 15 and 16 come before what an instruction's own plan names
unless-stops : (e : Result ⊤ Stop) (q : Plan) → stop_in (unless e q) ≡ first e (stop_in q)
unless-stops (Ok tt) q = refl
unless-stops (Err s) q = refl

-- and are all where that plan names nothing
first-go : (e : Result ⊤ Stop) → first e (Ok tt) ≡ e
first-go (Ok tt) = refl
first-go (Err s) = refl

module _ (b : Board) (t v g w : List ℕ) (c : Control) where
  abbrev here : Env
  here = env b t

  abbrev whole : Machine
  whole = machine v g w c

  accessed-stops : (o : Memory) (df : Width) (wd : Vreg) (a : ℕ)
      → stop_in (accessed o df b t v w wd a) ≡ place_early o a (spot_of b (length t) (length w) a)
  accessed-stops Ld df wd a = go (spot_of b (length t) (length w) a)
    where
      go : (p : Spot) → stop_in (loaded p b.order df wd t w) ≡ place_early Ld a p
      go (Table i) = refl
      go (Work i) = refl
      go (Outside x) = refl
  accessed-stops St df wd a = go (spot_of b (length t) (length w) a)
    where
      go : (p : Spot) → stop_in (stored p b.order df a (register_at v wd)) ≡ place_early St a p
      go (Table i) = refl
      go (Work i) = refl
      go (Outside x) = refl

  first_stops : (i : Instr)
      → first (early (kind_of i) c.mark c.on) (stop_in (executed here whole i))
      ≡ stop_ahead (ahead_in i) b (length t) g (length w) c
  first_stops (instr.Three o df wd ws wt) = first-go _
  first_stops (instr.Indexed o df wd ws rt) = first-go _
  first_stops (instr.Imm5U o df wd ws imm) = first-go _
  first_stops (instr.Imm5S o df wd ws imm) = first-go _
  first_stops (instr.Ldi df wd imm) = first-go _
  first_stops (instr.Bit o df wd ws k) = first-go _
  first_stops (instr.Imm8 o wd ws imm) = first-go _
  first_stops (instr.Shf df wd ws imm) = first-go _
  first_stops (instr.Element o df wd ws n) = first-go _
  first_stops (instr.Insve df wd n ws) = first-go _
  first_stops (instr.Copy o df rd ws n) = first-go _
  first_stops (instr.Insert df wd n rs) = first-go _
  first_stops (instr.Move wd ws) = first-go _
  first_stops (instr.Cfcmsa rd cs) = first-go _
  first_stops (instr.Ctcmsa cd rs) = refl
  first_stops (instr.Vec o wd ws wt) = first-go _
  first_stops (instr.Fill df wd rs) = first-go _
  first_stops (instr.Count o df wd ws) = first-go _
  first_stops (instr.Memory o df wd offset rs) =
      rw (accessed-stops (memory_at o.0) df wd (address df offset (general_at g rs)))
  first_stops (instr.Branch o df wt offset) = first-go _
  first_stops (instr.BranchV o wt offset) = first-go _
  first_stops (instr.Scaled o rd rs rt sa) = refl
  first_stops (instr.Fixed o df wd ws wt) = first-go _

  pub planned-stops : (i : Instr) → stop_in (plan_of here whole i) ≡ stop_ahead (ahead_in i) b (length t) g (length w) c
  unfolding plan_of
  planned-stops i =
      unless-stops (early (kind_of i) c.mark c.on) (executed here whole i) ∙ first_stops i

-- the offset of what was read is within its field

formed-within : (i : Instr) → Formed i → Within (ahead_in i)
formed-within (instr.Three o df wd ws wt) f = tt
formed-within (instr.Indexed o df wd ws rt) f = tt
formed-within (instr.Imm5U o df wd ws imm) f = tt
formed-within (instr.Imm5S o df wd ws imm) f = tt
formed-within (instr.Ldi df wd imm) f = tt
formed-within (instr.Bit o df wd ws k) f = tt
formed-within (instr.Imm8 o wd ws imm) f = tt
formed-within (instr.Shf df wd ws imm) f = tt
formed-within (instr.Element o df wd ws n) f = tt
formed-within (instr.Insve df wd n ws) f = tt
formed-within (instr.Copy o df rd ws n) f = tt
formed-within (instr.Insert df wd n rs) f = tt
formed-within (instr.Move wd ws) f = tt
formed-within (instr.Cfcmsa rd cs) f = tt
formed-within (instr.Ctcmsa cd rs) f = tt
formed-within (instr.Vec o wd ws wt) f = tt
formed-within (instr.Fill df wd rs) f = tt
formed-within (instr.Count o df wd ws) f = tt
formed-within (instr.Memory o df wd offset rs) f = f.1
formed-within (instr.Branch o df wt offset) f = tt
formed-within (instr.BranchV o wt offset) f = tt
formed-within (instr.Scaled o rd rs rt sa) f = tt
formed-within (instr.Fixed o df wd ws wt) f = tt

pub read-within : (w : ℕ) → w < 2 ^ 32 → Within (ahead_of (read_of w))
read-within w h = go (read_of w) refl
  where
    go : (r : Result Instr Unread) → read_of w ≡ r → Within (ahead_of r)
    go (Err u) e = tt
    go (Ok i) e = formed-within i (read-formed w i h e)

-- The two worked machines, by computing. Assumes nothing.
use mathlib.Core.Path.{◌≡◌, refl}
use mathlib.Core.Bool.{Bool, true}
use mathlib.Core.List.{List, [], ◌∷◌}
use Prim.Native.Nat.{ℕ, zero, suc, ◌<◌}
use native.Mathlib.Omega.{arith}
use borrow.Author.Tests.{ltb-true}
use lib.Dec.{ltb, lit<}
use Rattle.isa.specs.declared.Instr.{Instr}
use Rattle.std.specs.Prelude.{Ok}
use Rattle.element.specs.Value.{signed, wrap}
use Rattle.each.specs.Lanes.{each_lane}
use Rattle.fields.specs.Fields.{both}
use Rattle.fields.proofs.Fields.{both_left, both_right}
use Rattle.linear.specs.Sums.{addv}
use Rattle.memory.specs.Bytes.{number, replaced, bytes_of, AreBytes}
use Rattle.memory.specs.File.{register_at, with_register}
use Rattle.memory.specs.Value.{register}
use Rattle.ops.specs.Meaning.{three_at}
use Rattle.ops.specs.Table.{row_at}
use Rattle.permute.specs.Permute.{chosen_by_immediate}
use Rattle.plan.specs.Plan.{plan_of}
use Rattle.products.specs.Halves.{hadd}
use Rattle.reading.specs.Reading.{place_of, read_of}
use Rattle.state.specs.Fetch.{fetched}
use Rattle.state.specs.Setup.{refusal, first}
use Rattle.vectors.specs.Register.{element, build}
use Rattle.machine.specs.Step.{step_of, whole_step}
use Rattle.demands.specs.Destination.{in_vector, operands_of}
use Rattle.demands.specs.Echoes.{loud, loud_env, loud_program, quiet, quiet_env, quiet_program}
use Rattle.demands.specs.Echoes.{$w, AgreeIn, Worked, EchoesApart, shf, EchoesTouch}
use Rattle.demands.specs.Echoes as echoes
use Rattle.demands.specs.LaneTables.{element_at}
use Rattle.demands.specs.LanesApart.{bits_from, element_in, Agree, Apart}
use Rattle.demands.specs.Tables.{Not, little}

-- bytes, by one test
abbrev bytes? : List ℕ → Bool
bytes? [] = true
bytes? (b ∷ s) = both (ltb b 256) (bytes? s)

are-bytes : (s : List ℕ) → bytes? s ≡ true → AreBytes s
are-bytes [] t zero = omega arith
are-bytes [] t (suc k) = omega arith
are-bytes (b ∷ s) t zero = ltb-true b 256 (both_left (ltb b 256) (bytes? s) t)
are-bytes (b ∷ s) t (suc k) = are-bytes s (both_right (ltb b 256) (bytes? s) t) k

module _ (w : ℕ) (instruction : Instr) where
  abbrev loud_after : List ℕ
  loud_after = (whole_step (loud_program w) loud_env loud).after.vec

  abbrev quiet_after : List ℕ
  quiet_after = (whole_step (quiet_program w) quiet_env quiet).after.vec

  -- before the step they are the same two machines whatever the word is
  worked : (j : ℕ) → read_of w ≡ Ok instruction
      → w ≡ little (loud_program w) 0 4 → (whole_step (loud_program w) loud_env loud).answer ≡ Ok (Ok tt)
      → w ≡ little (quiet_program w) 4 4 → (whole_step (quiet_program w) quiet_env quiet).answer ≡ Ok (Ok tt)
      → AgreeIn j loud_after quiet_after ($w 5) → Worked w instruction j
  unfolding bits_from
  worked j reads first loudly second quietly wd =
      record {
        reads = reads;
        loudly =
            record {
              word = record { number = 0; holds = ((lit< tt, refl), first) };
              bytes = are-bytes loud.vec refl;
              finished = loudly;
            };
        quietly =
            record {
              word = record { number = 1; holds = ((lit< tt, refl), second) };
              bytes = are-bytes quiet.vec refl;
              finished = quietly;
            };
        ws = refl;
        wt = refl;
        old = refl;
        wd = wd;
      }

  -- bytes that touch
  touching : {j : ℕ} → Worked w instruction j → (operands_of instruction).destination ≡ in_vector ($w 5)
      → Agree 8 4 loud.vec quiet.vec ($w 5 ∷ (operands_of instruction).sources)
      → Not (element_in loud_after ($w 5) 8 4 ≡ element_in quiet_after ($w 5) 8 4) → Not (Apart w instruction 8)
  touching k names agree differ a =
      let is : a.wd ≡ $w 5 = cc in
      let agreed : Agree 8 4 loud.vec quiet.vec (a.wd ∷ (operands_of instruction).sources) = rw is agree in
      let same =
      a.same (loud_program w) (quiet_program w) loud_env quiet_env loud quiet k.loudly k.quietly 4 (lit< tt) agreed
      in
      differ (rw is at same.0)

pub echoes-apart : EchoesApart
unfolding read_of place_of row_at element_at little refusal first step_of fetched plan_of number three_at register_at
    with_register replaced bytes_of register each_lane build element addv wrap bits_from
echoes-apart = (refl, worked 0x7802094E echoes.addv 4 refl refl refl refl refl refl)

pub echoes-touch : EchoesTouch
unfolding read_of place_of row_at little refusal first step_of fetched plan_of number three_at register_at with_register
    replaced bytes_of register chosen_by_immediate each_lane hadd signed wrap build element bits_from
echoes-touch =
    let s : Worked 0x78B10942 shf 5 = worked 0x78B10942 shf 5 refl refl refl refl refl refl in
    let h : Worked 0x7A220955 echoes.hadd 5 = worked 0x7A220955 echoes.hadd 5 refl refl refl refl refl refl in (
      s,
      touching 0x78B10942 shf s refl (refl, (refl, tt)) (λ e. omega arith),
      h,
      touching 0x7A220955 echoes.hadd h refl (refl, (refl, (refl, tt))) (λ e. omega arith),
    )

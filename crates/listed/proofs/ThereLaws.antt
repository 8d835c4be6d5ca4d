-- What the plan of an entry names is there, whatever number the entry is. Assumes nothing.
use Rattle.std.proofs.Common.{ℕ, ◌<◌, Bool, true, false, cond, eqb, ltb, List, [], ◌∷◌, length, arith}
use Rattle.isa.specs.declared.Memory.{Memory}
use Rattle.isa.specs.declared.Memory.TheVariants.{Ld, St}
use Rattle.acts.specs.Act.{At, said, plan_at, executed_at, kind_at, vreg, greg, address_in}
use Rattle.acts.specs.Act.{common_of, commons, move_of, moves}
use Rattle.entries.specs.Cut.{code_of, width_of, dest_of, source_of}
use Rattle.plan.specs.declared.Plan.{Plan}
use Rattle.std.specs.Prelude.{Ok, Err, Result, ⊤}
use Rattle.state.specs.declared.stops.Stop.{Stop}
use Rattle.plan.specs.Plan.{accessed, early, unless, general_at}
use Rattle.plan.specs.There.{There}
use Rattle.plan.proofs.PlanLaws.{access-cases, control-cases}
use Rattle.state.proofs.WindowLaws.{spot-work}
use Rattle.state.specs.Csr.{masked, arms, arming}
use Rattle.state.specs.Machine.{Env, Machine}

-- what holds of every line holds of what is said
abbrev All : {A : Type 0} → (A → Type 0) → List (At A) → Type 0
All P [] = Unit {0}
All P (l ∷ ls) = P l.does × All P ls

said_all : {A : Type 0} (P : A → Type 0) (other : A) (c : ℕ) (ls : List (At A)) → P other → All P ls
    → P (said other c ls)
said_all P other c [] o h = o
said_all P other c (l ∷ ls) o h = go (eqb l.code c) (said_all P other c ls o h.1)
  where
    go : (b : Bool) → P (said other c ls) → P (cond b l.does (said other c ls))
    go true k = h.0
    go false k = k

either : (P : Plan → Type 0) (b : Bool) (p q : Plan) → P p → P q → P (cond b p q)
either P true p q h k = h
either P false p q h k = k

dest-below : (x : ℕ) → dest_of x < 32
unfolding dest_of
dest-below x = omega arith

module _ (e : Env) (m : Machine) (x : ℕ) where
  abbrev Names : Plan → Type 0
  Names = There e.board.work (length m.work)

  access : (o : Memory)
      → Names (accessed o (width_of x) e.board e.table m.vec m.work (vreg (dest_of x)) (address_in m x))
  access o =
      access-cases Names (width_of x) e.board e.table m.vec m.work (vreg (dest_of x)) (address_in m x)
      (λ v. dest-below x)
      (λ i v p. let h = spot-work e.board (length e.table) (length m.work) (address_in m x) i p in
      (h.0, h.1))
      tt (λ v p. tt) o

  common : Names (common_of e m x)
  common =
      said_all Names _ (code_of x) (commons e m x) tt
      (access Ld, (access St, (dest-below x, (dest-below x, (tt, (tt, (tt, tt)))))))

  pub move-there : Names (move_of m x)
  move-there =
      let y = masked (general_at m.gen (greg (source_of x))) in
      said_all Names _ (code_of x) (moves m x)
      (control-cases Names (arming y) y tt tt tt (eqb (dest_of x) 1) (arms y))
      (dest-below x, (dest-below x, (dest-below x, tt)))

  executed : Names (executed_at e m x)
  unfolding executed_at
  executed =
      either Names (ltb (code_of x) 8) _ _ common
      (either Names (ltb (code_of x) 88) _ _ (dest-below x)
      (either Names (ltb (code_of x) 105) _ _ (dest-below x) move-there))

  unless-there : (s : Result ⊤ Stop) (p : Plan) → Names p → Names (unless s p)
  unless-there (Ok tt) p h = h
  unless-there (Err s) p h = tt

  pub entry-there : There e.board.work (length m.work) (plan_at e m x)
  unfolding plan_at
  entry-there =
      either Names (ltb (code_of x) 109) _ _
      (unless-there (early (kind_at (code_of x)) m.ctl.mark m.ctl.on) (executed_at e m x) executed) tt

-- What fetching and set-up promise makes their answers the definitions'. Assumes nothing.
use Rattle.std.proofs.Common.{◌≡◌, ℕ, List, sym, refl, ap, ◌∙◌}
use Rattle.isa.specs.Numbers.{Said, number, values}
use Rattle.isa.proofs.Apart.{apart}
use Rattle.std.specs.Prelude.{Ok, Err, Some, None, Result, Option, ⊤}
use Rattle.state.specs.declared.setup.Refusal.{Refusal}
use Rattle.state.specs.Fetch.{fetched, fetched_said, Fetches}
use Rattle.state.specs.Machine.{Env, Machine}
use Rattle.state.specs.Setup.{setup_number, refusal, Checks}
use Rattle.state.proofs.SetupLaws.{Sized, accepted}
use Rattle.state.proofs.Named.{Named, refused, stopped, neither, named, named-refusal}

abbrev fetched_from : Said ℕ → Option ℕ
fetched_from (number n) = None
fetched_from (values w) = Some w

fetched-back : (r : Option ℕ) → fetched_from (fetched_said r) ≡ r
fetched-back (Some w) = refl
fetched-back None = refl

pub fetched-is : {p : List ℕ} {base pc : ℕ} {r : Option ℕ} → Fetches p base pc r → r ≡ fetched p base pc
fetched-is {p} {base} {pc} {r} f = apart fetched_said fetched_from fetched-back r (fetched p base pc) f.said

abbrev as_setup : Named → Result ⊤ Refusal
as_setup (refused r) = Err r
as_setup (stopped s) = Ok tt
as_setup neither = Ok tt

setup-back : (r : Result ⊤ Refusal) → as_setup (named (setup_number r) 0) ≡ r
setup-back (Ok tt) = refl
setup-back (Err r) = ap as_setup (named-refusal r 0)

pub setup-is : {s r : Result ⊤ Refusal} → Checks s r → r ≡ s
setup-is {s} {r} h = apart setup_number (λ n. as_setup (named n 0)) setup-back r s h.number

-- a set-up that is checked and accepted has its sizes
pub sized : (p : List ℕ) (e : Env) (m : Machine) {r : Result ⊤ Refusal} → Checks (refusal p e m) r → r ≡ Ok tt
    → Sized e m
sized p e m c o = accepted p e m (sym (setup-is c) ∙ o)

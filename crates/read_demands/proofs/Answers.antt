-- The answers of the second engine's C entry, by what a call comes to (`Comes`): the limits come first, then 51, and a
-- run is that of the first engine. Assumes nothing.
use mathlib.Core.Path.{◌≡◌, sym, ap, subst, ◌∙◌}
use mathlib.Core.List.{List, [], ◌∷◌, ◌++◌}
use Prim.Native.Nat.{ℕ, ◌*◌, ◌/◌, ◌<◌}
use native.Mathlib.Omega.{arith}
use lib.ListN.{length, get_or}
use Rattle.memory.specs.Bytes.{AreBytes}
use Rattle.state.specs.declared.setup.Refusal.{Refusal}
use Rattle.std.specs.Prelude.{Ok, Err, Result, ⊤}
use Rattle.state.specs.Numbers.{refusal_number}
use Rattle.state.specs.Setup.{setup_number}
use Rattle.machine.specs.declared.run.Reason.{Reason}
use Rattle.machine.specs.Numbers.{reason_number}
use Rattle.machine.specs.Run.{whole_run}
use Rattle.entries.specs.Listed.{entry_at}
use Rattle.entries.proofs.ListedLaws.{long, kept}
use Rattle.entry.specs.declared.MsaEnded.{MsaEnded}
use Rattle.entry.proofs.OneAnswer.{one-run}
use Rattle.demands.specs.Missing.{Names}
use Rattle.demands.specs.Reasons.{stops}
use Rattle.demands.specs.Tables.{Row, row, First, none, given, passed, Not}
use Rattle.demands.proofs.Answers.{Reasoned, spends, fewer, reasoned, refusal-between}
use Rattle.demands.proofs.Limits.{or_number, limits-first, first-limit}
use Rattle.demands.proofs.Rows.{one-first}
use Rattle.entry_demands.specs.Calls.{Given, Lent, env_of, machine_of, Call}
use Rattle.entry_demands.proofs.Answers.{run-called, run-missing-called}
use Rattle.read_demands.specs.Answers.{Short, short, limits_of, refusals, Refuses}
use Rattle.read_demands.specs.Answers.{ReadCalled, ReadMissingCalled, ReadRefuses, ReadShort, ReadRuns}
use Rattle.read_demands.specs.Answers.{SameRun, ReadSame, KeepsTail, TailKept}
use Rattle.read_demands.specs.Calls.{ReadCall}
use Rattle.read_demands.proofs.Comes.{Comes, refused, too_short, ran, comes, setup_of}
use Rattle.read_demands.proofs.Comes.{same-lent, limit-refuses, filled_at}

-- ---- the rows

not-accepted : (u : Refusal) → ◌≡◌ {A = Result ⊤ Refusal} (Err u) (Ok tt) → ⊥
not-accepted u h = let z : ◌≡◌ {A = ℕ} 0 1 = cc in omega arith

-- a row that does not apply, among others
inserted : (rows rest : List Row) (r : Row) (n : ℕ) → Not r.applies → First (rows ++ rest) n
    → First (rows ++ r ∷ rest) n
inserted [] rest r n h f = passed h f
inserted (q ∷ rows) rest r n h (given a) = given a
inserted (q ∷ rows) rest r n h (passed b f) = passed b (inserted rows rest r n h f)

-- no reason of a run is 51
below-51 : (r : Reason) → Reasoned r → Not (reason_number r ≡ 51)
below-51 r spends h = omega arith
below-51 r (fewer l u) h = omega arith

called-below : (g : Given) (budget : ℕ) (x y : Lent) (r : MsaEnded) → Call g budget x r y → Not (r.reason ≡ 51)
called-below g budget x y r i h =
    let why = (whole_run g.program (env_of g x) budget (machine_of x)).reason in
    below-51 why (reasoned why) (sym i.reason ∙ h)

module _ (g : Given) (x : Lent) where
  -- the limits before other rows, by the set-up
  before : (rows : List Row) (n : ℕ) (q : Result ⊤ Refusal) → setup_of g x ≡ q → (q ≡ Ok tt → First rows n)
      → First (limits_of g x ++ rows) (or_number q n)
  before rows n q h f =
      subst (λ s. First (limits_of g x ++ rows) (or_number s n)) h
      (limits-first g.program (env_of g x) (machine_of x) rows n (λ a. f (sym h ∙ a)))

  refused-first : (rows : List Row) (u : Refusal) → setup_of g x ≡ Err u
      → First (limits_of g x ++ rows) (refusal_number u)
  refused-first rows u h = before rows 0 (Err u) h (λ z. absurd (not-accepted u z))

  -- and alone
  limit-first : (q : Result ⊤ Refusal) → setup_of g x ≡ q → First (limits_of g x) (setup_number q)
  limit-first q h =
      subst (λ s. First (limits_of g x) (setup_number s)) h (first-limit g.program (env_of g x) (machine_of x))

  breaks : (u : Refusal) → setup_of g x ≡ Err u → First (limits_of g x) 0 → ⊥
  breaks u h f =
      let e = one-first (limits_of g x) 0 (refusal_number u) f (limit-first (Err u) h) in
      omega (arith, e, (refusal-between u).0)

  -- the number of the six rows
  module _ (list : List ℕ) where
    limit-six : (u : Refusal) → setup_of g x ≡ Err u → First (refusals g x list) (refusal_number u)
    limit-six u h = refused-first (short g.program list ∷ []) u h

    short-six : setup_of g x ≡ Ok tt → Short g.program list → First (refusals g x list) 51
    short-six h k = before (short g.program list ∷ []) 51 (Ok tt) h (λ a. given k)

    none-six : setup_of g x ≡ Ok tt → Not (Short g.program list) → First (refusals g x list) 0
    none-six h k = before (short g.program list ∷ []) 0 (Ok tt) h (λ a. passed k none)

-- ---- refusals

module _ (g : Given) (budget : ℕ) (x y : Lent) (list list' : List ℕ) (r : MsaEnded) where
  refuses : (n : ℕ) → Comes g budget x list r y list' → First (refusals g x list) n → Not (n ≡ 0)
      → Refuses n x list r y list'
  refuses n (refused u h i l) f some =
      rw (one-first (refusals g x list) n (refusal_number u) f (limit-six g x list u h))
      (limit-refuses g budget x y list list' r u h i l)
  refuses n (too_short h k i) f some = rw (one-first (refusals g x list) n 51 f (short-six g x list h k)) i
  refuses n (ran h k i l) f some = absurd (some (one-first (refusals g x list) n 0 f (none-six g x list h k)))

  is-short : Comes g budget x list r y list' → r.reason ≡ 51 → First (limits_of g x) 0 × Short g.program list
  is-short (refused u h i l) e = absurd (called-below g budget x y r i e)
  is-short (too_short h k i) e = (limit-first g x (Ok tt) h, k)
  is-short (ran h k i l) e = absurd (called-below g budget x y r i e)

  says-short : Comes g budget x list r y list' → First (limits_of g x) 0 → Short g.program list → r.reason ≡ 51
  says-short (refused u h i l) f s = absurd (breaks g x u h f)
  says-short (too_short h k i) f s = i.reason
  says-short (ran h k i l) f s = absurd (k s)

pub read-refuses : ReadRefuses
read-refuses g budget n x y list list' r c = refuses g budget x y list list' r n (comes g budget x y list list' r c)

pub read_short : ReadShort
read_short g budget x y list list' r c =
    let come = comes g budget x y list list' r c in
    (is-short g budget x y list list' r come, says-short g budget x y list list' r come)

-- ---- beside `msa_run`

-- without 51 it is a call of `msa_run`
unless-short : (g : Given) (budget : ℕ) (x y : Lent) (list list' : List ℕ) (r : MsaEnded)
    → Comes g budget x list r y list' → Not (r.reason ≡ 51)
    → Call g budget x r y
unless-short g budget x y list list' r (refused u h i l) n = i
unless-short g budget x y list list' r (too_short h k i) n = absurd (n i.reason)
unless-short g budget x y list list' r (ran h k i l) n = i

-- where none of the six rows applies, it is one, and the entries of the program's words are in the list
pub record Ran (g : Given) (budget : ℕ) (x y : Lent) (list' : List ℕ) (r : MsaEnded) : Type 0 where
  pub call : Call g budget x r y
  pub entries : (i : ℕ) → 4 * i < length g.program → get_or list' i 0 ≡ entry_at g.program i

pub runs : (g : Given) (budget : ℕ) (x y : Lent) (list list' : List ℕ) (r : MsaEnded)
    → ReadCall g budget x list r y list' → First (refusals g x list) 0
    → Ran g budget x y list' r
runs g budget x y list list' r c f = go (comes g budget x y list list' r c)
  where
    go : Comes g budget x list r y list' → Ran g budget x y list' r
    go (refused u h i l) =
        let e = one-first (refusals g x list) 0 (refusal_number u) f (limit-six g x list u h) in
        absurd (omega (arith, e, (refusal-between u).0))
    go (too_short h k i) =
        absurd (omega (arith, one-first (refusals g x list) 0 51 f (short-six g x list h k)))
    go (ran h k i l) = record { call = i; entries = filled_at g budget x y list list' r h k l }

pub read-runs : ReadRuns
read-runs g budget x y list list' r c f = (runs g budget x y list list' r c f).call

-- two calls of `msa_run` on the same bytes
one-call : (g : Given) (budget : ℕ) (x y z : Lent) (a b : MsaEnded) → Call g budget x a y → Call g budget x b z
    → (a ≡ b) × (y ≡ z)
one-call g budget x y z a b i j =
    let s = whole_run g.program (env_of g x) budget (machine_of x) in
    let one = one-run s x.control a b _ _ _ _ _ _ _ _ i j in
    (one.0, same-lent z y one.1.0 one.1.1 one.1.2 one.1.3)

pub same-run : SameRun
same-run g budget x y z list list' a b i c n =
    one-call g budget x z y b a (unless-short g budget x z list list' b (comes g budget x z list list' b c) n) i

-- ---- the answers

module _ (g : Given) (budget : ℕ) (x y : Lent) (list list' : List ℕ) (r : MsaEnded) (bytes : AreBytes x.control)
  where
    abbrev rest : List Row
    rest = row 20 (r.count ≡ budget) ∷ stops g.program (env_of g x) (machine_of y)

    numbered : Comes g budget x list r y list' → First (limits_of g x ++ short g.program list ∷ rest) r.reason
    numbered (refused u h i l) =
        rw (limit-refuses g budget x y list list' r u h i l).reason
        (refused-first g x (short g.program list ∷ rest) u h)
    numbered (too_short h k i) =
        rw i.reason (before g x (short g.program list ∷ rest) 51 (Ok tt) h (λ a. given k))
    numbered (ran h k i l) =
        inserted (limits_of g x) rest (short g.program list) r.reason k
        (run-called g budget x y r bytes i).number

    some : Comes g budget x list r y list' → Not (r.reason ≡ 0)
    some (refused u h i l) = (run-called g budget x y r bytes i).some
    some (too_short h k i) = λ e. omega (arith, i.reason)
    some (ran h k i l) = (run-called g budget x y r bytes i).some

    names : Comes g budget x list r y list'
        → Names g.program (env_of g x) (machine_of y) r.reason r.missing
    names (refused u h i l) = run-missing-called g budget x y r bytes i
    names (too_short h k i) = record { missing = λ e. absurd (omega (arith, i.reason)); none = λ e. i.missing }
    names (ran h k i l) = run-missing-called g budget x y r bytes i

pub read-called : ReadCalled
read-called g budget x y list list' r bytes c =
    let come = comes g budget x y list list' r c in
    record {
      number = numbered g budget x y list list' r bytes come;
      some = some g budget x y list list' r bytes come;
    }

pub read-missing-called : ReadMissingCalled
read-missing-called g budget x y list list' r bytes c =
    names g budget x y list list' r bytes (comes g budget x y list list' r c)

-- ---- the list

module _ (g : Given) (budget : ℕ) (x y : Lent) (list list' : List ℕ) (r : MsaEnded) where
  -- where no limit is broken and 51 is not the answer, none of the six rows applies
  none-applies : Comes g budget x list r y list' → Not (r.reason ≡ 51) → First (limits_of g x) 0
      → First (refusals g x list) 0
  none-applies (refused u h c l) n f = absurd (breaks g x u h f)
  none-applies (too_short h k c) n f = absurd (n c.reason)
  none-applies (ran h k c l) n f = none-six g x list h k

  tail : Comes g budget x list r y list' → KeepsTail g.program list list'
  tail (refused u h c l) = (ap length l, λ i b. ap (λ k. get_or k i 0) l)
  tail (too_short h k c) = (ap length c.entries, λ i b. ap (λ k. get_or k i 0) c.entries)
  tail (ran h k c l) = (
    ap length l ∙ long g.program list (length g.program / 4),
    λ i b. ap (λ k. get_or k i 0) l ∙ kept g.program list (length g.program / 4) i (omega arith),
  )

pub read_same : ReadSame
read_same g budget x y z k k' l l' a b c d n o =
    let first = comes g budget x y k k' a c in
    let second = comes g budget x z l l' b d in
    let i = unless-short g budget x y k k' a first n in
    let j = unless-short g budget x z l l' b second o in
    let one = one-call g budget x y z a b i j in (
      one.0,
      one.1,
      λ f i h.
          (runs g budget x y k k' a c (none-applies g budget x y k k' a first n f)).entries i h
          ∙ sym ((runs g budget x z l l' b d (none-applies g budget x z l l' b second o f)).entries i h),
    )

pub tail-kept : TailKept
tail-kept g budget x y list list' r c = tail g budget x y list list' r (comes g budget x y list list' r c)

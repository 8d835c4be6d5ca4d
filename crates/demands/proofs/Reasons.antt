-- The first reason: by the word at the counter, what it reads as, and what the instruction may stop for. Assumes
-- nothing.
use mathlib.Core.Path.{◌≡◌, refl, sym, ap, ◌∙◌}
use mathlib.Core.Bool.{Bool, true, false, cond, ◌&&◌}
use mathlib.Core.List.{List, [], ◌∷◌}
use Prim.Native.Nat.{ℕ, ◌+◌, ◌-◌, ◌*◌, ◌/◌, ◌%◌, ◌^◌, ◌<◌}
use native.Mathlib.Omega.{arith}
use lib.Dec.{eqb, leb}
use lib.ListN.{length}
use Rattle.isa.specs.declared.Creg.{Creg}
use Rattle.isa.specs.declared.Greg.{Greg}
use Rattle.isa.specs.declared.Instr.{Instr}
use Rattle.isa.specs.declared.Instr.TheVariants as instr
use Rattle.isa.specs.declared.Memory.{Memory}
use Rattle.isa.specs.declared.Memory.TheVariants.{Ld, St}
use Rattle.isa.specs.declared.Op.{Op}
use Rattle.std.specs.Prelude.{Ok, Err, None, Result}
use Rattle.isa.specs.declared.Unread.{Unread}
use Rattle.isa.specs.declared.Unread.TheVariants.{Unassigned, LeftOut, Other}
use Rattle.isa.specs.declared.Vreg.{Vreg}
use Rattle.isa.specs.declared.Width.{Width}
use Rattle.memory.specs.Bytes.{part, number}
use Rattle.memory.specs.File.{register_at}
use Rattle.element.proofs.Views.{wrap-below}
use Rattle.plan.specs.declared.Plan.{Plan}
use Rattle.plan.specs.declared.Plan.TheVariants as plan
use Rattle.plan.specs.declared.planned.Kind.{Kind}
use Rattle.plan.specs.declared.planned.Kind.TheVariants.{Branching, Switched, Free}
use Rattle.plan.specs.Numbers.{address}
use Rattle.plan.specs.Plan.{plan_of, executed, accessed, loaded, stored, general_at, kind_of}
use Rattle.plan.specs.Plan.{early, switched_early, unless}
use Rattle.ops.specs.Meaning.{memory_at}
use Rattle.reading.specs.Reading.{read_of}
use Rattle.state.specs.declared.control.Mark.{Mark}
use Rattle.state.specs.declared.control.Mark.TheVariants.{Clear, NotTaken, Taken}
use Rattle.state.specs.declared.stops.Stop.TheVariants.{Trap}
use Rattle.state.specs.Csr.{masked, arms, arming}
use Rattle.state.specs.Fetch.{fetched}
use Rattle.state.specs.Machine.{Env, Machine}
use Rattle.state.specs.Windows.{placed, or_else}
use Rattle.state.proofs.SetupLaws.{Sized, accepted}
use Rattle.machine.specs.Numbers.{outcome_number}
use Rattle.machine.specs.Step.{Ending, step_of, outcome_of, concluded, attempted, decided}
use Rattle.machine.specs.Why.{word_here}
use Rattle.demands.specs.AtCounter.{IsBranch, format, whole, IgnoresSwitch, scaled, general, element_bytes}
use Rattle.demands.specs.AtCounter.{address_from, first_address, Accesses, at, SetsCsr, to, InTable, InWork, Arms}
use Rattle.demands.specs.AtCounter.{AtWord, StandsAt, ReadsAs, IsWord, Does}
use Rattle.demands.specs.Reasons.{read_stops, stops, FirstReason}
use Rattle.std.specs.declared.option.Option.TheVariants as option
use Rattle.demands.specs.Tables.{Row, row, First, none, given, passed, Not, Some, little}
use Rattle.demands.proofs.Addresses.{address-from, all-inside}
use Rattle.demands.proofs.CsrBits.{arms-reflects}
use Rattle.demands.proofs.Little.{little-number}
use Rattle.demands.proofs.Rows.{swapped}
use Rattle.demands.proofs.Reflects.{Reflects, clash, likewise, eq-reflects, le-reflects, and-reflects}

-- two numbers that are not the same
differ : {A : Type 0} → ◌≡◌ {A = ℕ} 0 1 → A
differ z = absurd (omega arith)

-- ---- 15 and 16

data Kinds (i : Instr) : Kind → Type 0 where
  branching : IsBranch i → Not (IgnoresSwitch i) → Kinds i Branching
  switched : Not (IsBranch i) → Not (IgnoresSwitch i) → Kinds i Switched
  free : Not (IsBranch i) → IgnoresSwitch i → Kinds i Free

kinds : (i : Instr) → Kinds i (kind_of i)
kinds (instr.Three o df wd ws wt) = switched (λ h. elim h [ ]) (λ h. elim h [ ])
kinds (instr.Indexed o df wd ws rt) = switched (λ h. elim h [ ]) (λ h. elim h [ ])
kinds (instr.Imm5U o df wd ws imm) = switched (λ h. elim h [ ]) (λ h. elim h [ ])
kinds (instr.Imm5S o df wd ws imm) = switched (λ h. elim h [ ]) (λ h. elim h [ ])
kinds (instr.Ldi df wd imm) = switched (λ h. elim h [ ]) (λ h. elim h [ ])
kinds (instr.Bit o df wd ws k) = switched (λ h. elim h [ ]) (λ h. elim h [ ])
kinds (instr.Imm8 o wd ws imm) = switched (λ h. elim h [ ]) (λ h. elim h [ ])
kinds (instr.Shf df wd ws imm) = switched (λ h. elim h [ ]) (λ h. elim h [ ])
kinds (instr.Element o df wd ws n) = switched (λ h. elim h [ ]) (λ h. elim h [ ])
kinds (instr.Insve df wd n ws) = switched (λ h. elim h [ ]) (λ h. elim h [ ])
kinds (instr.Copy o df rd ws n) = switched (λ h. elim h [ ]) (λ h. elim h [ ])
kinds (instr.Insert df wd n rs) = switched (λ h. elim h [ ]) (λ h. elim h [ ])
kinds (instr.Move wd ws) = switched (λ h. elim h [ ]) (λ h. elim h [ ])
kinds (instr.Cfcmsa rd cs) = switched (λ h. elim h [ ]) (λ h. elim h [ ])
kinds (instr.Ctcmsa cd rs) = switched (λ h. elim h [ ]) (λ h. elim h [ ])
kinds (instr.Vec o wd ws wt) = switched (λ h. elim h [ ]) (λ h. elim h [ ])
kinds (instr.Fill df wd rs) = switched (λ h. elim h [ ]) (λ h. elim h [ ])
kinds (instr.Count o df wd ws) = switched (λ h. elim h [ ]) (λ h. elim h [ ])
kinds (instr.Memory o df wd offset rs) = switched (λ h. elim h [ ]) (λ h. elim h [ ])
kinds (instr.Branch o df wt offset) = branching format (λ h. elim h [ ])
kinds (instr.BranchV o wt offset) = branching whole (λ h. elim h [ ])
kinds (instr.Scaled o rd rs rt sa) = free (λ h. elim h [ ]) scaled
kinds (instr.Fixed o df wd ws wt) = switched (λ h. elim h [ ]) (λ h. elim h [ ])

-- both before what the instruction itself may stop for
module _ (i : Instr) (q : Plan) (rows : List Row) (rest : First rows (outcome_number (outcome_of q))) where
  abbrev InSlot : Mark → Type 0
  InSlot mark = IsBranch i × Not (mark ≡ Clear)

  abbrev Off : Bool → Type 0
  Off on = Not (IgnoresSwitch i) × (on ≡ false)

  not_on : Not (Off true)
  not_on h = clash refl h.1

  switch-first : Not (IgnoresSwitch i) → (on : Bool)
      → First (row 16 (Off on) ∷ rows) (outcome_number (outcome_of (unless (switched_early on) q)))
  switch-first s true = passed not_on rest
  switch-first s false = let h : Off false = (s, refl) in given h

  early-first : (k : Kind) → Kinds i k → (mark : Mark) (on : Bool)
      → First (row 15 (InSlot mark) ∷ row 16 (Off on) ∷ rows) (outcome_number (outcome_of (unless (early k mark on) q)))
  early-first Branching (branching b s) Clear on = passed (λ (h : InSlot Clear). h.1 refl) (switch-first s on)
  early-first Branching (branching b s) NotTaken on = let h : InSlot NotTaken = (b, λ e. differ (cc)) in given h
  early-first Branching (branching b s) (Taken t) on = let h : InSlot (Taken t) = (b, λ e. differ (cc)) in given h
  early-first Switched (switched b s) mark on = passed (λ (h : InSlot mark). b h.0) (switch-first s on)
  early-first Free (free b s) mark on = passed (λ (h : InSlot mark). b h.0) (passed (λ (h : Off on). h.0 s) rest)

-- ---- 17 to 19

pub general-at : (m : Machine) (r : Greg) → general m r ≡ general_at m.gen r
unfolding general_at
general-at m r = little-number m.gen (8 * r.0) 8

-- the address, by either definition
pub same_address : (m : Machine) (df : Width) (offset : ℕ) (rs : Greg)
    → first_address m df offset rs ≡ address df offset (general_at m.gen rs)
same_address m df offset rs =
    ap (λ x. address_from x offset (element_bytes df)) (general-at m rs)
    ∙ sym (address-from df offset (general_at m.gen rs))

module _ (e : Env) (m : Machine) (sized : Sized e m) where
  -- the facts of the rows
  abbrev Nowhere? : Memory → ℕ → Type 0
  Nowhere? o a = Not (InTable e a) × Not (InWork e m a)

  abbrev ReadOnly? : Memory → ℕ → Type 0
  ReadOnly? o a = (o ≡ St) × InTable e a

  abbrev risks : Instr → List Row
  risks i = row 17 (Accesses m Nowhere? i) ∷ row 18 (Accesses m ReadOnly? i) ∷ row 19 (SetsCsr m Arms i) ∷ []

  -- the two windows, as the machine tests them
  abbrev holds_all : ℕ → ℕ → ℕ → Bool
  holds_all base len a = leb base a && leb (a + 16) (base + len)

  in_table : (a : ℕ) → a < 2 ^ 64 → Reflects (holds_all e.board.table (length e.table) a) (InTable e a)
  in_table a h = all-inside e.board.table (length e.table) a sized.table-small sized.table h

  in-work : (a : ℕ) → a < 2 ^ 64 → Reflects (holds_all e.board.work (length m.work) a) (InWork e m a)
  in-work a h = all-inside e.board.work (length m.work) a sized.work-small sized.work h

  module _ (k : Op) (df : Width) (wd : Vreg) (offset : ℕ) (rs : Greg) where
    abbrev a : ℕ
    a = address df offset (general_at m.gen rs)

    abbrev access : Instr
    access = instr.Memory k df wd offset rs

    pub below : a < 2 ^ 64
    unfolding address
    below = wrap-below 64 _

    module _ (f : Memory → ℕ → Type 0) where
      pub accesses : f (memory_at k.0) a → Accesses m f access
      accesses h = at {k = k} {df = df} {offset = offset} {rs = rs} (rw (same_address m df offset rs) h)

      pub accessing : Accesses m f access → f (memory_at k.0) a
      accessing (at h) = rw (same_address m df offset rs) at h

    no-csr : Not (SetsCsr m Arms access)
    no-csr h = elim h [ ]

    -- a load that one of the windows holds
    load-passes : memory_at k.0 ≡ Ld → Not (Nowhere? (memory_at k.0) a) → First (risks access) 0
    load-passes p n =
        let not-store : Not (memory_at k.0 ≡ St) = λ q. let l : Ld ≡ St = sym p ∙ q in differ (cc) in
        passed (λ h. n (accessing Nowhere? h))
        (passed (λ h. not-store (accessing ReadOnly? h).0) (passed no-csr none))

    load-first : memory_at k.0 ≡ Ld → (z : ℕ) (t w : Bool) → Reflects t (InTable e a) → Reflects w (InWork e m a)
        → First (risks access)
        (outcome_number
        (outcome_of (loaded
        (or_else z (cond t (option.Some (a - e.board.table)) None) (cond w (option.Some (a - e.board.work)) None))
        e.board.order df wd e.table m.work)))
    load-first p z true w x y = load-passes p (λ h. h.0 (x.yes refl))
    load-first p z false true x y = load-passes p (λ h. h.1 (y.yes refl))
    load-first p z false false x y = given (accesses Nowhere? (x.no refl, y.no refl))

    store-first : memory_at k.0 ≡ St → (v z : ℕ) (t w : Bool) → Reflects t (InTable e a) → Reflects w (InWork e m a)
        → First (risks access)
        (outcome_number
        (outcome_of (stored
        (or_else z (cond t (option.Some (a - e.board.table)) None) (cond w (option.Some (a - e.board.work)) None))
        e.board.order df a v)))
    store-first p v z true w x y =
        passed (λ h. (accessing Nowhere? h).0 (x.yes refl)) (given (accesses ReadOnly? (p, x.yes refl)))
    store-first p v z false true x y =
        passed (λ h. (accessing Nowhere? h).1 (y.yes refl))
        (passed (λ h. x.no refl (accessing ReadOnly? h).1) (passed no-csr none))
    store-first p v z false false x y = given (accesses Nowhere? (x.no refl, y.no refl))

    access-first : (o : Memory) → memory_at k.0 ≡ o
        → First (risks access)
        (outcome_number (outcome_of (accessed o df e.board e.table m.vec m.work wd a)))
    unfolding placed
    access-first Ld p =
        load-first p _ (holds_all e.board.table (length e.table) a)
        (holds_all e.board.work (length m.work) a) (in_table a below) (in-work a below)
    access-first St p =
        store-first p (register_at m.vec wd) _ (holds_all e.board.table (length e.table) a)
        (holds_all e.board.work (length m.work) a) (in_table a below) (in-work a below)

  -- CTCMSA
  module _ (cd : Creg) (rs : Greg) where
    abbrev x : ℕ
    x = general_at m.gen rs

    sets : (cd.0 ≡ 1) × Arms x → SetsCsr m Arms (instr.Ctcmsa cd rs)
    sets h = to {rs = rs} h.0 (rw (general-at m rs) h.1)

    set : SetsCsr m Arms (instr.Ctcmsa cd rs) → (cd.0 ≡ 1) × Arms x
    set (to p q) = (p, rw (general-at m rs) at q)

    no_access : (f : Memory → ℕ → Type 0) → Not (Accesses m f (instr.Ctcmsa cd rs))
    no_access f h = elim h [ ]

    control-first : (one trap : Bool) → Reflects one (cd.0 ≡ 1) → Reflects trap (Arms x)
        → First (risks (instr.Ctcmsa cd rs))
        (outcome_number
        (outcome_of (cond one (cond trap (plan.Stop (Trap (arming (masked x)))) (plan.Csr (masked x))) plan.Nothing)))
    control-first true true a b =
        passed (no_access Nowhere?) (passed (no_access ReadOnly?) (given (sets (a.yes refl, b.yes refl))))
    control-first true false a b =
        passed (no_access Nowhere?) (passed (no_access ReadOnly?) (passed (λ h. b.no refl (set h).1) none))
    control-first false trap a b =
        passed (no_access Nowhere?) (passed (no_access ReadOnly?) (passed (λ h. a.no refl (set h).0) none))

  -- an instruction that none of them concerns
  quiet : {i : Instr} → Not (Accesses m Nowhere? i) → Not (Accesses m ReadOnly? i) → Not (SetsCsr m Arms i)
      → First (risks i) 0
  quiet n r c = passed n (passed r (passed c none))

  executed-first : (i : Instr) → First (risks i) (outcome_number (outcome_of (executed e m i)))
  executed-first (instr.Three o df wd ws wt) = quiet (λ h. elim h [ ]) (λ h. elim h [ ]) (λ h. elim h [ ])
  executed-first (instr.Indexed o df wd ws rt) = quiet (λ h. elim h [ ]) (λ h. elim h [ ]) (λ h. elim h [ ])
  executed-first (instr.Imm5U o df wd ws imm) = quiet (λ h. elim h [ ]) (λ h. elim h [ ]) (λ h. elim h [ ])
  executed-first (instr.Imm5S o df wd ws imm) = quiet (λ h. elim h [ ]) (λ h. elim h [ ]) (λ h. elim h [ ])
  executed-first (instr.Ldi df wd imm) = quiet (λ h. elim h [ ]) (λ h. elim h [ ]) (λ h. elim h [ ])
  executed-first (instr.Bit o df wd ws k) = quiet (λ h. elim h [ ]) (λ h. elim h [ ]) (λ h. elim h [ ])
  executed-first (instr.Imm8 o wd ws imm) = quiet (λ h. elim h [ ]) (λ h. elim h [ ]) (λ h. elim h [ ])
  executed-first (instr.Shf df wd ws imm) = quiet (λ h. elim h [ ]) (λ h. elim h [ ]) (λ h. elim h [ ])
  executed-first (instr.Element o df wd ws n) = quiet (λ h. elim h [ ]) (λ h. elim h [ ]) (λ h. elim h [ ])
  executed-first (instr.Insve df wd n ws) = quiet (λ h. elim h [ ]) (λ h. elim h [ ]) (λ h. elim h [ ])
  executed-first (instr.Copy o df rd ws n) = quiet (λ h. elim h [ ]) (λ h. elim h [ ]) (λ h. elim h [ ])
  executed-first (instr.Insert df wd n rs) = quiet (λ h. elim h [ ]) (λ h. elim h [ ]) (λ h. elim h [ ])
  executed-first (instr.Move wd ws) = quiet (λ h. elim h [ ]) (λ h. elim h [ ]) (λ h. elim h [ ])
  executed-first (instr.Cfcmsa rd cs) = quiet (λ h. elim h [ ]) (λ h. elim h [ ]) (λ h. elim h [ ])
  executed-first (instr.Ctcmsa cd rs) =
      control-first cd rs (eqb cd.0 1) (arms (masked (general_at m.gen rs))) (eq-reflects cd.0 1)
      (arms-reflects (general_at m.gen rs))
  executed-first (instr.Vec o wd ws wt) = quiet (λ h. elim h [ ]) (λ h. elim h [ ]) (λ h. elim h [ ])
  executed-first (instr.Fill df wd rs) = quiet (λ h. elim h [ ]) (λ h. elim h [ ]) (λ h. elim h [ ])
  executed-first (instr.Count o df wd ws) = quiet (λ h. elim h [ ]) (λ h. elim h [ ]) (λ h. elim h [ ])
  executed-first (instr.Memory o df wd offset rs) = access-first o df wd offset rs (memory_at o.0) refl
  executed-first (instr.Branch o df wt offset) = quiet (λ h. elim h [ ]) (λ h. elim h [ ]) (λ h. elim h [ ])
  executed-first (instr.BranchV o wt offset) = quiet (λ h. elim h [ ]) (λ h. elim h [ ]) (λ h. elim h [ ])
  executed-first (instr.Scaled o rd rs rt sa) = quiet (λ h. elim h [ ]) (λ h. elim h [ ]) (λ h. elim h [ ])
  executed-first (instr.Fixed o df wd ws wt) = quiet (λ h. elim h [ ]) (λ h. elim h [ ]) (λ h. elim h [ ])

-- ---- the word at the counter

-- whether a word stands at the address x
module _ (p : List ℕ) (base x : ℕ) where
  abbrev pub at_word? : Bool
  at_word? = leb base x && eqb ((x - base) % 4) 0 && leb (x - base + 4) (length p)

  pub at-word : Reflects at_word? (Some (AtWord p base x))
  at-word =
      likewise
      (λ h.
      let inside : (x - base) / 4 < length p / 4 = omega (arith, h.0.0, h.1) in
      let at : x ≡ base + 4 * ((x - base) / 4) = omega (arith, h.0.0, h.0.1) in
      record { number = (x - base) / 4; holds = (inside, at) })
      (λ s. let i = s.holds.0 in let k = s.holds.1 in ((omega arith, omega arith), omega arith))
      (and-reflects _ _ (and-reflects _ _ (le-reflects base x) (eq-reflects ((x - base) % 4) 0))
      (le-reflects (x - base + 4) (length p)))

module _ (p : List ℕ) (e : Env) (m : Machine) where
  -- there is one
  pub one-reading : {r r' : Result Instr Unread} → ReadsAs p e m r → ReadsAs p e m r' → r ≡ r'
  one-reading s t =
      let k : s.number ≡ t.number = omega (arith, s.holds.0.1, t.holds.0.1) in
      sym s.holds.1 ∙ ap (λ i. read_of (little p (4 * i) 4)) k ∙ t.holds.1

  -- so two facts of the instruction there are facts of one instruction
  pub both-do : {f g : Instr → Type 0} {A : Type 0} → ((i : Instr) → f i → g i → A) → Does p e m f → Does p e m g → A
  both-do h c d =
      let same : d.instruction ≡ c.instruction = cc (one-reading d.reads c.reads) in
      h c.instruction c.holds (rw same at d.holds)

  -- 15 to 19 of the instruction that it reads as
  module _ (i : Instr) (here : ReadsAs p e m (Ok i)) where
    does : {f : Instr → Type 0} → f i → Does p e m f
    does h = record { instruction = i; reads = here; holds = h }

    done : {f : Instr → Type 0} → Does p e m f → f i
    done d = let k : d.instruction ≡ i = cc (one-reading d.reads here) in rw k at d.holds

  abbrev stands? : Bool
  stands? = at_word? p e.board.program m.ctl.pc

  stands : Reflects stands? (Some (StandsAt p e m))
  stands = at-word p e.board.program m.ctl.pc

  abbrev w : ℕ
  w = number (part p (m.ctl.pc - e.board.program) 4)

  spelt : (s : Some (StandsAt p e m)) → little p (4 * s.number) 4 ≡ w
  spelt s =
      let k : 4 * s.number ≡ m.ctl.pc - e.board.program = omega (arith, s.holds.1) in
      little-number p (4 * s.number) 4 ∙ ap (λ at. number (part p at 4)) k

  reads : Some (StandsAt p e m) → ReadsAs p e m (read_of w)
  reads s = record { number = s.number; holds = (s.holds, ap read_of (spelt s)) }

  -- the word that is fetched
  abbrev pub word : ℕ
  word = word_here (fetched p e.board.program m.ctl.pc)

  pub word-is : Some (StandsAt p e m) → IsWord p e m word
  unfolding fetched
  word-is s = go stands? stands
    where
      go : (b : Bool) → Reflects b (Some (StandsAt p e m)) → IsWord p e m (word_here (cond b (option.Some w) None))
      go true x = record { number = s.number; holds = (s.holds, sym (spelt s)) }
      go false x = absurd (x.no refl s)

  -- a word is fetched exactly where it stands
  pub word-fetched : {v : ℕ} → IsWord p e m v → fetched p e.board.program m.ctl.pc ≡ option.Some v
  unfolding fetched
  word-fetched {v} s = go stands? stands
    where
      at : Some (StandsAt p e m)
      at = record { number = s.number; holds = s.holds.0 }

      go : (b : Bool) → Reflects b (Some (StandsAt p e m)) → cond b (option.Some w) None ≡ option.Some v
      go true x = ap option.Some (sym (s.holds.1 ∙ spelt at))
      go false x = absurd (x.no refl at)

  pub fetched-word : {v : ℕ} → fetched p e.board.program m.ctl.pc ≡ option.Some v → IsWord p e m v
  unfolding fetched
  fetched-word {v} = go stands? stands
    where
      go : (b : Bool) → Reflects b (Some (StandsAt p e m)) → cond b (option.Some w) None ≡ option.Some v → IsWord p e m v
      go true x q =
          let s = x.yes refl in
          let is : v ≡ w = cc in
          record { number = s.number; holds = (s.holds, is ∙ sym (spelt s)) }
      go false x q = differ (cc)

  -- the instruction there is what the step does, and decides how it ends
  pub step-concludes : {i : Instr} → ReadsAs p e m (Ok i)
      → step_of p e m ≡ concluded e.board.work (plan_of e m i) m
  unfolding step_of fetched
  step-concludes {i} here = go stands? stands
    where
      go : (b : Bool) → Reflects b (Some (StandsAt p e m))
          → attempted (cond b (option.Some w) None) e m ≡ concluded e.board.work (plan_of e m i) m
      go true x = ap (λ r. decided r e m) (one-reading (reads (x.yes refl)) here)
      go false x = absurd (x.no refl (record { number = here.number; holds = here.holds.0 }))

  pub step-plans : {i : Instr} → ReadsAs p e m (Ok i) → (step_of p e m).outcome ≡ outcome_of (plan_of e m i)
  step-plans here = ap (λ (r : Ending). r.outcome) (step-concludes here)

  module _ (sized : Sized e m) where
    planned-first : (i : Instr)
        → First (row 15 (IsBranch i × Not (m.ctl.mark ≡ Clear))
        ∷ row 16 (Not (IgnoresSwitch i) × (m.ctl.on ≡ false)) ∷ risks e m sized i)
        (outcome_number (outcome_of (plan_of e m i)))
    unfolding plan_of
    planned-first i =
        early-first i (executed e m i) (risks e m sized i) (executed-first e m sized i) (kind_of i) (kinds i)
        m.ctl.mark m.ctl.on

    -- it reads as nothing else
    other : {r : Result Instr Unread} (s : Result Instr Unread) → ReadsAs p e m r → Not (r ≡ s) → Not (ReadsAs p e m s)
    other s here n t = n (one-reading here t)

    decided-first : (r : Result Instr Unread) → ReadsAs p e m r → First (read_stops p e m) (outcome_number (decided r e m).outcome)
    decided-first (Err Unassigned) here = given here
    decided-first (Err LeftOut) here = passed (other (Err Unassigned) here (λ q. differ (cc))) (given here)
    decided-first (Err Other) here =
        passed (other (Err Unassigned) here (λ q. differ (cc)))
        (passed (other (Err LeftOut) here (λ q. differ (cc))) (given here))
    decided-first (Ok i) here =
        passed (other (Err Unassigned) here (λ q. differ (cc)))
        (passed (other (Err LeftOut) here (λ q. differ (cc)))
        (passed (other (Err Other) here (λ q. differ (cc)))
        (swapped (does i here) (done i here)
        (swapped (does i here) (done i here)
        (swapped (does i here) (done i here)
        (swapped (does i here) (done i here) (swapped (does i here) (done i here) (λ f. f)))))
        (planned-first i))))

    counter-first : (b : Bool) → Reflects b (Some (StandsAt p e m))
        → First (stops p e m) (outcome_number (attempted (cond b (option.Some w) None) e m).outcome)
    counter-first true x =
        passed (λ (n : Not (Some (StandsAt p e m))). n (x.yes refl)) (decided-first (read_of w) (reads (x.yes refl)))
    counter-first false x = given (x.no refl)

pub first-reason : FirstReason
unfolding step_of fetched
first-reason p e m a = counter-first p e m (accepted p e m a) (stands? p e m) (stands p e m)

-- Loads and stores byte by byte, and a load after a store. The machine's own place of a byte is Table 3.1's offset.
-- Assumes nothing.
use mathlib.Core.Path.{◌≡◌, refl, sym, ap, ◌∙◌}
use mathlib.Core.List.{List}
use mathlib.Core.Logic.{◌⊎◌, inl, inr, ⊎_elim}
use Prim.Native.Nat.{ℕ, ◌+◌, ◌-◌, ◌*◌, ◌^◌, ◌≤◌, ◌<◌}
use native.Mathlib.Nat.{mod-eq_of_lt}
use native.Mathlib.Omega.{arith}
use lib.Arith.{digits_div, digits_mod}
use lib.ListN.{length, get_or}
use Rattle.isa.specs.declared.Instr.{Instr}
use Rattle.isa.specs.declared.Instr.TheVariants as instr
use Rattle.isa.specs.declared.Memory.{Memory}
use Rattle.isa.specs.declared.Memory.TheVariants.{Ld, St}
use Rattle.isa.specs.declared.Vreg.{Vreg}
use Rattle.isa.specs.declared.Width.{Width}
use Rattle.isa.specs.declared.Width.TheVariants.{B, H, W, D}
use Rattle.isa.specs.Widths.{bytes, elements}
use Rattle.memory.specs.Bytes.{part, number, replaced, bytes_of, AreBytes}
use Rattle.memory.specs.File.{register_at, with_register}
use Rattle.memory.specs.Value.{value, register}
use Rattle.memory.proofs.Files.{register_at-below}
use Rattle.memory.proofs.Numbers.{length-bytes_of, part_bytes}
use Rattle.memory.proofs.Parts.{get_d_part, length-replaced, part-replaced}
use Rattle.memory.proofs.Values.{value-exact}
use Rattle.ops.specs.Meaning.{memory_at}
use Rattle.order.specs.declared.Order.{Order}
use Rattle.order.specs.declared.Order.TheVariants.{Little, Big}
use Rattle.order.specs.Order.{place, turned, bytes_in, register_in}
use Rattle.order.proofs.ByteLaws.{byte-in}
use Rattle.order.proofs.OrderLaws.{some, place-within, place-back, turned-below, element-turned, stands-back}
use Rattle.vectors.specs.Register.{element}
use Rattle.plan.specs.declared.Plan.{Plan}
use Rattle.plan.specs.declared.Plan.TheVariants as plan
use Rattle.plan.specs.Numbers.{address}
use Rattle.plan.specs.Plan.{plan_of, accessed, loaded, stored, writes, general_at}
use Rattle.std.specs.Prelude.{Ok}
use Rattle.state.specs.declared.windows.Spot.{Spot}
use Rattle.state.specs.declared.windows.Spot.TheVariants.{Table, Work, Outside}
use Rattle.state.specs.Machine.{Env, Machine}
use Rattle.state.specs.Setup.{refusal}
use Rattle.state.specs.Windows.{spot_of}
use Rattle.state.proofs.SetupLaws.{accepted}
use Rattle.state.proofs.WindowLaws.{spot-table, spot-work}
use Rattle.machine.specs.Step.{Ending, step_of, outcome_of, concluded}
use Rattle.demands.specs.AtCounter.{element_bytes}
use Rattle.demands.specs.Tables.{Not, Inside}
use Rattle.demands.specs.Destination.{Access, first_of}
use Rattle.demands.specs.Order.{offset, IsByte, byte_of, ByteAt, Done}
use Rattle.demands.specs.Order.{Loaded, LoadsBytes, StoresBytes, GivesBack}
use Rattle.demands.proofs.Demand2.{formed}
use Rattle.demands.proofs.Kept.{stays-accepted}
use Rattle.demands.proofs.Lanes.{by-switch}
use Rattle.demands.proofs.Reasons.{step-concludes, same_address}
use Rattle.demands.proofs.Written.{changed-length, changed-others, register-byte}

-- ---- places

-- by either definition
same_bytes : (df : Width) → element_bytes df ≡ bytes df
same_bytes B = refl
same_bytes H = refl
same_bytes W = refl
same_bytes D = refl

-- a register is made of elements of each format
sixteen : (df : Width) → bytes df * elements df ≡ 16
sixteen B = refl
sixteen H = refl
sixteen W = refl
sixteen D = refl

offset-place : (o : Order) (n i j : ℕ) → j < n → offset o n i j ≡ place o n (n * i + j)
offset-place Little n i j h = refl
offset-place Big n i j h =
    let e : n * i + j ≡ i * n + j = omega arith in
    rw (e, digits_div i h, digits_mod i h) (omega arith)

module _ (o : Order) (df : Width) where
  abbrev n : ℕ
  n = bytes df

  pos : 0 < n
  pos = some n (elements df) 15 (sixteen df)

  within : (b : ℕ) → b < 16 → place o n b < 16
  within b h = rw (sixteen df) at (place-within n pos (elements df) o b (rw (sixteen df) h))

-- ---- registers and windows

module _ (o : Order) (df : Width) (wd : Vreg) (a base : ℕ) where
  abbrev size : ℕ
  size = bytes df

  inside : (w : List ℕ) → base ≤ a → a + 16 ≤ base + length w → (b : ℕ) → b < 16 → Inside base (length w) (a + b)
  inside w from to b h = (omega arith, omega arith)

  -- where a register was loaded from
  loaded_byte : (v w : List ℕ) → length v ≡ 512 → wd.0 < 32 → AreBytes w → base ≤ a → a + 16 ≤ base + length w
      → (i j : ℕ) → IsByte size i j
      → ByteAt base w (a + offset o size i j)
      (byte_of (with_register v wd (value (register (register_in o size (part w (a - base) 16))))) wd size i j)
  unfolding with_register
  loaded_byte v w long small are_bytes from to i j h =
      let b : ℕ = size * i + j in
      let s : List ℕ = part w (a - base) 16 in
      let there : place o size b < 16 = within o df b h.0 in
      let at : a + place o size b - base ≡ a - base + place o size b = omega arith in
      let same =
      register-byte v (16 * wd.0) (register_in o size s) (omega arith) (turned-below o size (number s)) b h.0
      ∙ element-turned o size (number s) b h.0
      ∙ byte-in s (part_bytes w (a - base) 16 are_bytes) (place o size b)
      ∙ get_d_part w (a - base) 16 (place o size b) there
      in
      rw (offset-place o size i j h.1, at, same) (inside w from to (place o size b) there, refl)

  -- where a register was stored
  module _ (v w : List ℕ) (from : base ≤ a) (to : a + 16 ≤ base + length w) where
    abbrev turned_one : ℕ
    turned_one = turned o size (register_at v wd)

    abbrev after : List ℕ
    after = replaced w (a - base) (bytes_of 16 (value (register turned_one)))

    fit : a - base + 16 ≤ length w
    fit = omega arith

    below : turned_one < 2 ^ 128
    below = turned-below o size (register_at v wd)

    long : length after ≡ length w
    long = changed-length w (a - base) 16 (value (register turned_one)) fit

    stored-byte : AreBytes v → (i j : ℕ) → IsByte size i j
        → ByteAt base after (a + offset o size i j) (byte_of v wd size i j)
    unfolding register_at
    stored-byte are_bytes i j h =
        let b : ℕ = size * i + j in
        let s : List ℕ = part v (16 * wd.0) 16 in
        let there : place o size b < 16 = within o df b h.0 in
        let at : a + place o size b - base ≡ a - base + place o size b = omega arith in
        let same =
        register-byte w (a - base) turned_one fit below (place o size b) there
        ∙ element-turned o size (number s) (place o size b) there
        ∙ ap (element 8 (number s)) (place-back size (pos o df) o b)
        ∙ byte-in s (part_bytes v (16 * wd.0) 16 are_bytes) b
        ∙ get_d_part v (16 * wd.0) 16 b h.0
        in
        rw (offset-place o size i j h.1, at, same) (rw long (inside w from to (place o size b) there), refl)

    stored-others : (y b : ℕ) → Not ((a ≤ y) × (y < a + 16)) → ByteAt base w y b → ByteAt base after y b
    stored-others y b out h =
        let away : Not ((a - base ≤ y - base) × (y - base < a - base + 16)) =
        λ r. out (omega (arith, r.0, r.1, h.0.0), omega (arith, r.0, r.1, h.0.0)) in
        (rw long h.0, changed-others w (a - base) 16 (value (register turned_one)) fit (y - base) away ∙ h.1)

-- ---- steps

-- the address, by the machine's own definition, and where the windows place it
abbrev pub start : Access → Machine → ℕ
start x m = address x.df x.s10 (general_at m.gen x.rs)

abbrev pub spot : Access → Env → Machine → Spot
spot x e m = spot_of e.board (length e.table) (length m.work) (start x m)

module _ (o : Memory) (x : Access) (p : List ℕ) (e : Env) (m : Machine) (ok : refusal p e m ≡ Ok tt)
    (d : Done o x p e m) where
  abbrev done : Plan
  done = accessed o x.df e.board e.table m.vec m.work x.wd (start x m)

  abbrev instruction : Instr
  instruction = instr.Memory d.op x.df x.wd x.s10 x.rs

  first-is : first_of x m ≡ start x m
  first-is = same_address m x.df x.s10 x.rs

  step_is : step_of p e m ≡ concluded e.board.work (plan_of e m instruction) m
  step_is = step-concludes p e m d.reads

  planned : plan_of e m instruction ≡ done
  unfolding plan_of
  planned =
      by-switch (accessed (memory_at d.op.0) x.df e.board e.table m.vec m.work x.wd (start x m))
      m.ctl.on (sym (ap (λ (r : Ending). r.outcome) step_is) ∙ d.finished)
      ∙ ap (λ o. accessed o x.df e.board e.table m.vec m.work x.wd (start x m)) d.is

  done-is : step_of p e m ≡ concluded e.board.work done m
  done-is = step_is ∙ ap (λ q. concluded e.board.work q m) planned

  finishes : outcome_of done ≡ Ok tt
  finishes = sym (ap (λ (r : Ending). r.outcome) done-is) ∙ d.finished

  register-small : x.wd.0 < 32
  register-small = (formed _ instruction d.reads.holds.1).0

-- a load from a window with bytes w from base
record Came (x : Access) (p : List ℕ) (e : Env) (m : Machine) (a base : ℕ) (w : List ℕ) : Type 0 where
  from : base ≤ a
  to : a + 16 ≤ base + length w
  is : step_of p e m
      ≡ concluded e.board.work
      (writes x.wd (register_in e.board.order (bytes x.df) (part w (a - base) 16))) m

module _ (x : Access) (p : List ℕ) (e : Env) (m : Machine) (ok : refusal p e m ≡ Ok tt) (d : Done Ld x p e m) where
  abbrev Comes : ℕ → List ℕ → Type 0
  Comes = Came x p e m (start x m)

  came_from : (s : Spot) → spot x e m ≡ s
      → outcome_of (loaded s e.board.order x.df x.wd e.table m.work) ≡ Ok tt
      → step_of p e m ≡ concluded e.board.work (loaded s e.board.order x.df x.wd e.table m.work) m
      → Comes e.board.table e.table ⊎ Comes e.board.work m.work
  came_from (Table k) q f r =
      let h = spot-table e.board (length e.table) (length m.work) (start x m) k q in
      inl (record { from = h.0; to = h.1; is = rw h.2 at r })
  came_from (Work k) q f r =
      let h = spot-work e.board (length e.table) (length m.work) (start x m) k q in
      inr (record { from = h.0; to = h.1; is = rw h.2 at r })
  came_from (Outside y) q f r = let z : ◌≡◌ {A = ℕ} 0 1 = cc in absurd (omega arith)

  came : Comes e.board.table e.table ⊎ Comes e.board.work m.work
  came = came_from (spot x e m) refl (finishes Ld x p e m ok d) (done-is Ld x p e m ok d)

  came-loaded : (base : ℕ) (w : List ℕ) → AreBytes w → Comes base w → Loaded x e m (step_of p e m).after base w
  unfolding with_register
  came-loaded base w are_bytes c =
      let o : Order = e.board.order in
      let long = (accepted p e m ok).vectors in
      let small = register-small Ld x p e m ok d in
      rw c.is
      (record {
        each = λ i j h.
            rw (same_bytes x.df, first-is Ld x p e m ok d)
            (loaded_byte o x.df x.wd (start x m) base m.vec w long small are_bytes c.from c.to i j
            (rw (same_bytes x.df) at h));
        others =
            let s : List ℕ = part w (start x m - base) 16 in
            changed-others m.vec (16 * x.wd.0) 16 (value (register (register_in o (bytes x.df) s)))
            (omega arith);
      })

pub loads-bytes : LoadsBytes
loads-bytes x p e m ok table work d =
    ⊎_elim (λ c. inl (came-loaded x p e m ok d e.board.table e.table table c))
    (λ c. inr (came-loaded x p e m ok d e.board.work m.work work c)) (came x p e m ok d)

-- a store at the address a
record Went (x : Access) (p : List ℕ) (e : Env) (m : Machine) (a : ℕ) : Type 0 where
  from : e.board.work ≤ a
  to : a + 16 ≤ e.board.work + length m.work
  found : spot_of e.board (length e.table) (length m.work) a ≡ Work (a - e.board.work)
  is : step_of p e m
      ≡ concluded e.board.work
      (plan.Store a (register (turned e.board.order (bytes x.df) (register_at m.vec x.wd)))) m

went : (x : Access) (p : List ℕ) (e : Env) (m : Machine) (ok : refusal p e m ≡ Ok tt) (d : Done St x p e m)
    → Went x p e m (start x m)
went x p e m ok d = go (spot x e m) refl (finishes St x p e m ok d) (done-is St x p e m ok d)
  where
    go : (s : Spot) → spot x e m ≡ s
        → outcome_of (stored s e.board.order x.df (start x m) (register_at m.vec x.wd))
        ≡ Ok tt
        → step_of p e m
        ≡ concluded e.board.work
        (stored s e.board.order x.df (start x m) (register_at m.vec x.wd)) m
        → Went x p e m (start x m)
    go (Table k) q f r = let z : ◌≡◌ {A = ℕ} 0 1 = cc in absurd (omega arith)
    go (Work k) q f r =
        let h = spot-work e.board (length e.table) (length m.work) (start x m) k q in
        record { from = h.0; to = h.1; found = q ∙ ap Work h.2; is = r }
    go (Outside y) q f r = let z : ◌≡◌ {A = ℕ} 0 1 = cc in absurd (omega arith)

pub stores-bytes : StoresBytes
stores-bytes x p e m ok are_bytes d =
    let a : ℕ = start x m in
    let t : Went x p e m a = went x p e m ok d in
    rw t.is
    (record {
      each = λ i j h.
          rw (same_bytes x.df, first-is St x p e m ok d)
          (stored-byte e.board.order x.df x.wd a e.board.work m.vec m.work t.from t.to
          are_bytes i j (rw (same_bytes x.df) at h));
      others = λ y b out h.
          stored-others e.board.order x.df x.wd a e.board.work m.vec m.work t.from t.to y b
          (rw (first-is St x p e m ok d) at out) h;
    })

-- ---- a store and then a load

-- sixteen bytes that were stored, and are loaded
stored_back : (o : Order) (df : Width) (w : List ℕ) (at x : ℕ) → at + 16 ≤ length w → x < 2 ^ 128
    → register_in o (bytes df) (part (replaced w at (bytes_of 16 (value (register (turned o (bytes df) x))))) at 16) ≡ x
stored_back o df w at x fits small =
    let n : ℕ = bytes df in
    let s : List ℕ = bytes_in o n x in
    let long = length-bytes_of 16 (turned o n x) in
    let kept : part (replaced w at s) at 16 ≡ s =
    ap (part (replaced w at s) at) (sym long) ∙ part-replaced w at s (omega (arith, long)) in
    rw (value-exact (turned-below o n x), kept) (stands-back o n (elements df) x (sixteen df) ∙ mod-eq_of_lt small)

pub gives_back : GivesBack
unfolding register_at with_register
gives_back x y p e m ok are_bytes d g same at b h =
    let o : Order = e.board.order in
    let m₁ : Machine = (step_of p e m).after in
    let ok₁ : refusal p e m₁ ≡ Ok tt = stays-accepted p e m ok d.finished in
    let a : ℕ = start x m in
    let i : ℕ = a - e.board.work in
    let held : List ℕ = part m.vec (16 * x.wd.0) 16 in
    let v : ℕ = register_at m.vec x.wd in
    let below : v < 2 ^ 128 =
    register_at-below m.vec x.wd are_bytes (accepted p e m ok).vectors (register-small St x p e m ok d) in
    let t : Went x p e m a = went x p e m ok d in
    let put : List ℕ = bytes_of 16 (value (register (turned o (bytes x.df) v))) in
    let size = length-bytes_of 16 (value (register (turned o (bytes x.df) v))) in
    let work : m₁.work ≡ replaced m.work i put = ap (λ (r : Ending). r.after.work) t.is in
    let long : length m₁.work ≡ length m.work =
    ap length work ∙ length-replaced m.work i put (omega (arith, size, t.from, t.to)) in
    let again : start y m₁ ≡ a = sym (first-is Ld y p e m₁ ok₁ g) ∙ sym at ∙ first-is St x p e m ok d in
    let found : spot y e m₁ ≡ Work i = rw (again, long) t.found in
    let back : register_in o (bytes y.df) (part m₁.work i 16) ≡ v =
    rw (← same, work) (stored_back o x.df m.work i v (omega (arith, t.from, t.to)) below) in
    let ends : step_of p e m₁ ≡ concluded e.board.work (writes y.wd v) m₁ =
    done-is Ld y p e m₁ ok₁ g
    ∙ ap (λ s. concluded e.board.work (loaded s o y.df y.wd e.table m₁.work) m₁) found
    ∙ ap (λ z. concluded e.board.work (writes y.wd z) m₁) back in
    let long₁ = (accepted p e m₁ ok₁).vectors in
    let small₁ = register-small Ld y p e m₁ ok₁ g in
    ap (λ (r : Ending). get_or r.after.vec (16 * y.wd.0 + b) 0) ends
    ∙ register-byte m₁.vec (16 * y.wd.0) v (omega (arith, long₁, small₁)) below b h
    ∙ byte-in held (part_bytes m.vec (16 * x.wd.0) 16 are_bytes) b
    ∙ get_d_part m.vec (16 * x.wd.0) 16 b h

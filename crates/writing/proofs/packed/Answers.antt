-- `writing::packed` meets its contract. The loop's invariant: the fields from place i on are put together, and all of them fit.
use Prim.Native.Nat.{ℕ, ◌+◌, ◌-◌, ◌*◌, ◌^◌, ◌≤◌, ◌<◌}
use mathlib.Core.Path.{◌≡◌, refl}
use mathlib.Core.Bool.{false}
use mathlib.Core.List.{List, []}
use native.Mathlib.Omega.{arith}
use lib.ListN.{drop, get_or, length}
use lib.Seq.{drop-length}
use Rattle.std.specs.Prelude.{Some}
use Rattle.fields.specs.Fields.{fits}
use Rattle.writing.specs.Writing.{Shaped, packed}
use Rattle.fields.proofs.Fields.{width_fits, word-step, scale-step, scale-lt, fits-step, word_below, word_lt, refused}
use Rattle.writing.proofs.packed.Invariants.{Done}
use Rattle.writing.proofs.packed.Goals as goal

start : {ns vs : List ℕ} → Shaped ns vs → Done ns vs 7 0 1
start {ns} {vs} s =
    let n : drop 7 ns ≡ [] = rw s.fields at (drop-length ns) in
    let v : drop 7 vs ≡ [] = rw s.filled at (drop-length vs) in
    record { within = omega arith; put = rw n; next = rw n; fit = rw (n, v) }

-- a turn, by the numbers
module _ {ns vs : List ℕ} {i word scale : ℕ} (s : Shaped ns vs) (d : Done ns vs i word scale) (some : 0 < i) where
  hn : i ≤ length ns
  hn = omega (arith, s.fields, d.within)

  hv : i ≤ length vs
  hv = omega (arith, s.filled, d.within)

  width_small : get_or ns (i - 1) 0 ≤ 32
  width_small = omega (arith, width_fits ns vs i some hn hv, s.whole)

  module _ {size value : ℕ} (es : size ≡ 2 ^ get_or ns (i - 1) 0) (ev : value ≡ get_or vs (i - 1) 0) where
    scale_small : scale * size ≤ 4294967296
    scale_small = rw (d.next, es) (scale-lt ns vs i some hn hv s.whole)

    not-fits : size ≤ value → fits ns vs ≡ false
    not-fits h = refused ns vs i some hn hv (rw (es, ev) at h)

    module _ (h : value < size) where
      h' : get_or vs (i - 1) 0 < 2 ^ get_or ns (i - 1) 0
      h' = rw (es, ev) at h

      word_small : word + value * scale < 4294967296
      word_small = rw (d.put, d.next, ev) (word_below ns vs i some hn hv h' d.fit s.whole)

      again : Done ns vs (i - 1) (word + value * scale) (scale * size)
      again =
          record {
            within = omega (arith, d.within);
            put = rw (d.put, d.next, ev) (word-step ns vs i some hn hv);
            next = rw (d.next, es) (scale-step ns vs i some hn hv);
            fit = fits-step ns vs i some hn hv h' d.fit;
          }

-- at the end of a turn
turn_small : (c : goal.Else-size-value) → c.loop-i.word + get_or c.args.values.now (c.loop-i.i - 1) 0 * c.loop-i.scale < 4294967296
turn_small c = word_small c.requires c.loop-i.invariant c.loop-i-test.true c.power-size.ensures refl c.if-size-value.false

-- at the end of the loop
module _ {ns vs : List ℕ} {i word scale : ℕ} (s : Shaped ns vs) (d : Done ns vs i word scale) (none : i ≤ 0) where
  at_zero : Done ns vs 0 word scale
  at_zero = let e : i ≡ 0 = omega arith in rw e at d

  word_fits : word < 4294967296
  word_fits = rw at_zero.put (rw s.whole at (word_lt ns vs at_zero.fit))

  answer : Some word ≡ packed ns vs
  answer = rw (at_zero.fit, at_zero.put)

pub returns-then-size-value : goal.returns-then-size-value
returns-then-size-value c =
    rw (not-fits c.requires c.loop-i.invariant c.loop-i-test.true c.power-size.ensures refl c.if-size-value.true)

pub overflow_mul-scale : goal.overflow_mul-scale
overflow_mul-scale c =
    omega (arith, scale_small c.requires c.loop-i.invariant c.loop-i-test.true c.power-size.ensures refl)

pub loop-i-preserved : goal.loop-i-preserved
loop-i-preserved c = again c.requires c.loop-i.invariant c.loop-i-test.true c.power-size.ensures refl c.if-size-value.false

pub overflow_cast-result : goal.overflow_cast-result
overflow_cast-result c = omega (arith, word_fits c.requires c.loop-i.invariant c.loop-i-test.false)

pub loop-i-init : goal.loop-i-init
loop-i-init c = start c.requires

pub bounds-widths-i : goal.bounds-widths-i
bounds-widths-i c = omega (arith, c.requires.fields)

pub power-size-requires : goal.power-size-requires
power-size-requires c = width_small c.requires c.loop-i.invariant c.loop-i-test.true

pub bounds-values-i : goal.bounds-values-i
bounds-values-i c = omega (arith, c.requires.filled)

pub overflow_mul-word : goal.overflow_mul-word
overflow_mul-word c = omega (arith, turn_small c)

pub overflow_add-word : goal.overflow_add-word
overflow_add-word c = omega (arith, turn_small c)

pub returns : goal.returns
returns c = answer c.requires c.loop-i.invariant c.loop-i-test.false

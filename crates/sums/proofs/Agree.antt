-- Every sum of the list agrees, by computing. Assumes nothing.
use mathlib.Core.Path.{◌≡◌, refl, ◌∙◌}
use mathlib.Core.List.{List}
use Prim.Native.Nat.{ℕ, ◌+◌, ◌-◌, ◌*◌, ◌/◌, ◌%◌, ◌^◌}
use native.Mathlib.Omega.{arith}
use Rattle.element.specs.Value.{signed, magnitude, wrap, clamp, sat}
use Rattle.each.specs.Lanes.{each_lane}
use Rattle.fixed.specs.Fixed.{product, widened, cut}
use Rattle.linear.specs.Sums.{addv, add_a, adds_a, asub, subsuu_s, average}
use Rattle.memory.specs.Bytes.{number, bytes_of}
use Rattle.memory.specs.File.{register_at}
use Rattle.memory.specs.Value.{register}
use Rattle.order.specs.Order.{turned}
use Rattle.permute.specs.Permute.{chosen_by_control, both}
use Rattle.plan.specs.Numbers.{address, target, lsa}
use Rattle.plan.specs.Plan.{plan_of, general_at}
use Rattle.plan.specs.Zero.{some_zero}
use Rattle.plan.proofs.NumberLaws.{scaled-sum-on}
use Rattle.products.specs.Halves.{products, dotp, hsub}
use Rattle.products.specs.Products.{mulv, quotient, remainder}
use Rattle.ops.specs.Table.{row_at}
use Rattle.ops.specs.Meaning.{memory_at, zero_at, scaled_at}
use Rattle.reading.specs.Reading.{place_of, read_of}
use Rattle.state.specs.Machine.{Env}
use Rattle.state.specs.Windows.{placed, lies_in, missing}
use Rattle.vectors.specs.Register.{element, build, whole}
use Rattle.writing.specs.Writing.{write_of}
use Rattle.sums.specs.Sums.{Agree, names, zeros, multiplies, orders, sums}

-- −2 as a number of 64 bits
minus-two : wrap 64 (signed 16 0xFFFE) ≡ 2 ^ 64 - 2
unfolding wrap signed
minus-two = refl

back-four : (a : ℕ) → target a 0xFFFE ≡ (a + (2 ^ 64 - 4)) % 2 ^ 64
unfolding target addv mulv
back-four a = scaled-sum-on a 4 4 (signed 16 0xFFFE) ∙ rw minus-two (omega arith)

-- byte 15 of a register in every byte, as the elements make it and as a product
all-bytes : (x : ℕ) → whole 8 (λ _. x) ≡ x * 0x01010101010101010101010101010101
unfolding build
all-bytes x = omega arith

pub names-agree : Agree names
unfolding row_at
names-agree = (refl, (refl, (refl, (refl, tt))))

pub zeros-agree : Agree zeros
unfolding signed wrap quotient remainder each_lane build element
zeros-agree = (refl, (refl, (refl, (refl, (refl, (refl, (refl, (refl, (refl, (refl, (refl, (refl, tt))))))))))))

pub multiplies-agree : Agree multiplies
unfolding write_of read_of place_of row_at signed wrap clamp sat product widened cut each_lane build element
multiplies-agree = (refl, (refl, (refl, (refl, (refl, (refl, (refl, (refl, (refl, (refl, (refl, (refl, tt))))))))))))

pub orders-agree : (a : ℕ) → Agree (orders a)
unfolding bytes_of turned build element plan_of memory_at general_at register_at number address placed missing lies_in
    register signed wrap
orders-agree a = (refl, (refl, (refl, (refl, tt))))

pub all-agree : (e : Env) (v g w : List ℕ) (a ws wt : ℕ) → Agree (sums e v g w a ws wt)
unfolding write_of read_of place_of row_at zero_at scaled_at signed magnitude wrap clamp sat add_a adds_a asub subsuu_s average
    quotient remainder products dotp hsub each_lane build element chosen_by_control both plan_of register_at general_at number
    some_zero lsa
all-agree e v g w a ws wt = (
  refl,
  (
    refl,
    (
      refl,
      (
        refl,
        (
          refl,
          (
            refl,
            (
              rw (back-four a),
              (
                refl,
                (
                  refl,
                  (
                    refl,
                    (
                      refl,
                      (
                        refl,
                        (
                          refl,
                          (
                            refl,
                            (refl, (refl, (refl, (refl, (refl, (all-bytes (ws / 2 ^ 120 % 2 ^ 8), (refl, tt))))))),
                          ),
                        ),
                      ),
                    ),
                  ),
                ),
              ),
            ),
          ),
        ),
      ),
    ),
  ),
)

-- The tables stand in places of their own: the class at a word's place tells by which bits the word came there,
-- and a place put into those bits is the word's place again. Assumes nothing.
use mathlib.Core.Path.{◌≡◌, refl, sym, ap, ◌∙◌, subst}
use mathlib.Core.Bool.{Bool, true, false, cond, not}
use mathlib.Core.List.{List, [], ◌∷◌}
use Prim.Native.Nat.{ℕ, ◌+◌, ◌*◌, ◌/◌, ◌%◌, ◌<◌, ◌≤◌}
use native.Mathlib.Omega.{arith}
use borrow.Author.Tests.{eqb-true, eqb-false, ltb-true, ltb-false, leb-true, not-true, lt-ltb, le-ltb, eq-eqb, ne_eqb}
use lib.Dec.{eqb, ltb, leb}
use lib.ListN.{get_or}
use Rattle.fields.specs.Fields.{bits, both}
use Rattle.fields.proofs.Fields.{both_left, both_right, split}
use Rattle.fields.proofs.Table.{every, at}
use Rattle.ops.specs.declared.Class.{Class}
use Rattle.ops.specs.declared.Class.TheVariants as class
use Rattle.ops.specs.Packed.{class_code}
use Rattle.ops.specs.Places as place
use Rattle.ops.specs.Table.{table, row_at, class_at}
use Rattle.ops.proofs.Find.{rule}
use Rattle.ops.proofs.Packed.{class-known}
use Rattle.reading.specs.Reading.{Block, i8, shf, minor, elm, elm62, vec, float, two, mi10, branch, special, other}
use Rattle.reading.specs.Reading.{block_of, msa_block, high_block, place_in, place_of}

pub cond-elim : {A : Type 0} (P : A → Type 0) (b : Bool) (x y : A)
    → (b ≡ true → P x) → (b ≡ false → P y) → P (cond b x y)
cond-elim P true x y f g = f refl
cond-elim P false x y f g = g refl

pub below : {A : Type 0} (P : A → Type 0) (x n : ℕ) (p q : A) → (x < n → P p) → (n ≤ x → P q) → P (cond (ltb x n) p q)
below P x n p q f g = cond-elim P (ltb x n) p q (λ e. f (ltb-true x n e)) (λ e. g (ltb-false x n e))

-- ---- what is known of a word by its block

abbrev pub Facts : Block → ℕ → Type 0
Facts i8 w = (30 ≡ bits w 31 26) × (bits w 5 0 < 2)
Facts shf w = (30 ≡ bits w 31 26) × (2 ≡ bits w 5 0)
Facts minor w = (30 ≡ bits w 31 26) × (3 ≤ bits w 5 0) × (bits w 5 0 < 25)
Facts elm w = (30 ≡ bits w 31 26) × (25 ≡ bits w 5 0)
Facts elm62 w = (30 ≡ bits w 31 26) × (25 ≡ bits w 5 0) × (62 ≡ bits w 21 16)
Facts vec w = (30 ≡ bits w 31 26) × (30 ≡ bits w 5 0)
Facts float w = (30 ≡ bits w 31 26) × (26 ≤ bits w 5 0) × (bits w 5 0 < 29)
Facts two w = (30 ≡ bits w 31 26) × (30 ≡ bits w 5 0) × (24 ≡ bits w 25 21)
Facts mi10 w = (30 ≡ bits w 31 26) × (32 ≤ bits w 5 0) × (bits w 5 0 < 40)
Facts branch w = 17 ≡ bits w 31 26
Facts special w = 0 ≡ bits w 31 26
Facts other w = Unit {0}

module _ (w : ℕ) where
  abbrev Known : Block → Type 0
  Known b = Facts b w

  module _ (major : 30 ≡ bits w 31 26) where
    high-facts : 25 ≤ bits w 5 0 → Known (high_block w)
    high-facts l =
        below Known (bits w 5 0) 26 _ _
        (λ h. let m : 25 ≡ bits w 5 0 = omega arith in
        cond-elim Known (eqb (bits w 21 16) 62) _ _ (λ e. (major, m, sym (eqb-true _ _ e))) (λ e. (major, m)))
        (λ l. below Known (bits w 5 0) 29 _ _ (λ h. (major, l, h))
        (λ l. cond-elim Known (eqb (bits w 5 0) 30) _ _
        (λ e. let m : 30 ≡ bits w 5 0 = sym (eqb-true _ _ e) in
        cond-elim Known (eqb (bits w 25 21) 24) _ _ (λ e. (major, m, sym (eqb-true _ _ e))) (λ e. (major, m)))
        (λ n. below Known (bits w 5 0) 32 _ _ (λ h. tt)
        (λ l. below Known (bits w 5 0) 40 _ _ (λ h. (major, l, h)) (λ l. tt)))))

    msa-facts : Known (msa_block w)
    msa-facts =
        below Known (bits w 5 0) 2 _ _ (λ h. (major, h))
        (λ l. below Known (bits w 5 0) 3 _ _ (λ h. (major, omega arith))
        (λ l. below Known (bits w 5 0) 25 _ _ (λ h. (major, l, h)) (λ l. high-facts l)))

  facts : Known (block_of w)
  facts =
      cond-elim Known (eqb (bits w 31 26) 30) _ _ (λ e. msa-facts (sym (eqb-true _ _ e)))
      (λ n. cond-elim Known (eqb (bits w 31 26) 17) _ _ (λ e. sym (eqb-true _ _ e))
      (λ n. cond-elim Known (eqb (bits w 31 26) 0) _ _ (λ e. sym (eqb-true _ _ e)) (λ n. tt)))

-- ---- the places of a block

-- a block's place among the blocks, its first place in the table and the place past its last
abbrev bounds : Block → ℕ × ℕ × ℕ
bounds i8 = (0, 0, 16)
bounds shf = (1, 16, 24)
bounds minor = (2, 24, 200)
bounds mi10 = (3, 256, 320)
bounds elm = (4, 320, 336)
bounds elm62 = (5, 336, 352)
bounds vec = (6, 352, 384)
bounds float = (7, 384, 432)
bounds two = (8, 432, 440)
bounds branch = (9, 440, 448)
bounds special = (10, 448, 512)
bounds other = (11, 512, 513)

abbrev rank : Block → ℕ
rank b = (bounds b).0

abbrev lo : Block → ℕ
lo b = (bounds b).1

abbrev hi : Block → ℕ
hi b = (bounds b).2

abbrev pub inside : Block → ℕ → Bool
inside b k = both (leb (lo b) k) (ltb k (hi b))

pub least : (b : Block) (k : ℕ) → inside b k ≡ true → lo b ≤ k
least b k t = leb-true (lo b) k (both_left (leb (lo b) k) (ltb k (hi b)) t)

pub most : (b : Block) (k : ℕ) → inside b k ≡ true → k < hi b
most b k t = ltb-true k (hi b) (both_right (leb (lo b) k) (ltb k (hi b)) t)

within : (b : Block) (k : ℕ) → inside b k ≡ true → (lo b ≤ k) × (k < hi b)
within b k t = (least b k t, most b k t)

-- the last two bits of a minor opcode apart
quarter : (w : ℕ) → bits w 5 0 ≡ bits w 5 2 * 4 + bits w 1 0
quarter w = split w 0 4 2

range : (b : Block) (w : ℕ) → Facts b w → (lo b ≤ place_in b w) × (place_in b w < hi b)
range i8 w f = omega arith
range shf w f = omega arith
range minor w f = omega arith
range elm w f = omega arith
range elm62 w f = omega arith
range vec w f = omega arith
range float w f = omega arith
range two w f = omega arith
range mi10 w f = let e = quarter w in omega arith
range branch w f = omega arith
range special w f = omega arith
range other w f = omega arith

-- the blocks by rank
abbrev blocks : List Block
blocks = i8 ∷ shf ∷ minor ∷ mi10 ∷ elm ∷ elm62 ∷ vec ∷ float ∷ two ∷ branch ∷ special ∷ other ∷ []

ranked : (b : Block) → get_or blocks (rank b) i8 ≡ b
ranked i8 = refl
ranked shf = refl
ranked minor = refl
ranked mi10 = refl
ranked elm = refl
ranked elm62 = refl
ranked vec = refl
ranked float = refl
ranked two = refl
ranked branch = refl
ranked special = refl
ranked other = refl

-- a test that each block passes
abbrev all : (Block → Bool) → Bool
all f = every (λ k. f) 0 blocks

each : (f : Block → Bool) → all f ≡ true → (b : Block) → f b ≡ true
each f t b = rw (ranked b) at (at (λ k. f) i8 (λ k. both_left (f i8) _ t) blocks t (rank b))

-- two blocks are one, or one of them ends before the other begins
abbrev clear : Block → Block → Bool
clear b c = cond (eqb (rank b) (rank c)) true (cond (leb (hi b) (lo c)) true (leb (hi c) (lo b)))

all-clear : (b c : Block) → clear b c ≡ true
all-clear b = each (clear b) (each (λ b. all (clear b)) refl b)

-- a place is in one block only
same_block : (b c : Block) (k : ℕ) → lo b ≤ k → k < hi b → lo c ≤ k → k < hi c → b ≡ c
same_block b c k p q r s =
    let Same : Bool → Type 0 = λ t. t ≡ true → b ≡ c in
    cond-elim Same (eqb (rank b) (rank c)) true _
    (λ e h. sym (ranked b) ∙ ap (λ (n : ℕ). get_or blocks n i8) (eqb-true (rank b) (rank c) e) ∙ ranked c)
    (λ n. cond-elim Same (leb (hi b) (lo c)) true _
    (λ e h. absurd (let l = leb-true (hi b) (lo c) e in omega arith))
    (λ n h. absurd (let l = leb-true (hi c) (lo b) h in omega arith)))
    (all-clear b c)

-- a word whose place is one of a block came there by the block's bits
pub found : (w : ℕ) (b : Block) → inside b (place_of w) ≡ true → Facts b w × (place_of w ≡ place_in b w)
unfolding place_of
found w b t =
    let k : ℕ = place_in (block_of w) w in
    let r = range (block_of w) w (facts w) in
    let e : block_of w ≡ b = same_block (block_of w) b k r.0 r.1 (least b k t) (most b k t) in
    subst (λ (x : Block). Facts x w × (k ≡ place_in x w)) e (facts w, refl)

-- ---- the classes of a block

abbrev pub standing : Class → ℕ → Bool
standing class.Reserved k = true
standing class.Three k = inside minor k
standing class.Indexed k = inside minor k
standing class.Imm5U k = inside minor k
standing class.Imm5S k = inside minor k
standing class.Ldi k = eqb k place.ldi
standing class.Bit k = inside minor k
standing class.Imm8 k = inside i8 k
standing class.Shf k = eqb k place.shf
standing class.Element k = inside elm k
standing class.Insve k = eqb k place.insve
standing class.Copy k = inside elm k
standing class.Insert k = eqb k place.insert
standing class.Move k = eqb k place.move
standing class.Cfcmsa k = eqb k place.cfcmsa
standing class.Ctcmsa k = eqb k place.ctcmsa
standing class.Vec k = both (inside vec k) (not (eqb k (place.vec 24)))
standing class.Fill k = eqb k place.fill
standing class.Count k = inside two k
standing class.Memory k = both (inside mi10 k) (eqb (k % 32) 0)
standing class.Branch k = inside branch k
standing class.BranchV k = inside branch k
standing class.Scaled k = inside special k
standing class.LeftOut k = cond (ltb k 384) (inside vec k) (inside float k)
standing class.Fixed k = both (inside float k) (leb (place.float 28 0) k)

stands_at : (k : ℕ) → standing (class_at k) k ≡ true
unfolding row_at
stands_at k = rule (λ k r. standing r.class k) (λ k. refl) table refl k

pub stood : (c : Class) (k : ℕ) → class_at k ≡ c → standing c k ≡ true
stood c k e = rw e at (stands_at k)

-- the places of the minor opcode 28
pub at-28 : (k : ℕ) → standing class.Fixed k ≡ true → (416 ≤ k) × (k < 432)
at-28 k t = (
  leb-true 416 k (both_right (inside float k) (leb 416 k) t),
  most float k (both_left (inside float k) (leb 416 k) t),
)

-- a class that stands alone, at its place
pub sole : (c : Class) (k n : ℕ) → class_at k ≡ c → standing c k ≡ eqb k n → k ≡ n
sole c k n e s = eqb-true k n (sym s ∙ stood c k e)

-- a class by its number
pub class-is : (c : Class) (k : ℕ) → eqb (class_code (class_at k)) (class_code c) ≡ true → class_at k ≡ c
class-is c k t =
    let e : class_code (class_at k) ≡ class_code c = eqb-true (class_code (class_at k)) (class_code c) t in
    sym (class-known (class_at k)) ∙ rw e (class-known c)

-- ---- a place put into its bits

module _ (w k : ℕ) where
  -- the minor opcodes after SHF's
  past-shf : bits w 31 26 ≡ 30 → 3 ≤ bits w 5 0 → place_of w ≡ place_in (cond (ltb (bits w 5 0) 25) minor (high_block w)) w
  unfolding place_of
  past-shf a l = rw (a, le-ltb (bits w 5 0) 2 (omega arith), le-ltb (bits w 5 0) 3 l)

  pub to-minor : bits w 31 26 ≡ 30 → bits w 25 23 ≡ k % 8 → bits w 5 0 ≡ k / 8 → inside minor k ≡ true → place_of w ≡ k
  to-minor a c m t =
      let r = within minor k t in
      past-shf a (omega arith) ∙ rw (lt-ltb (bits w 5 0) 25 (omega arith)) (omega arith)

  pub to-i8 : bits w 31 26 ≡ 30 → bits w 25 24 ≡ k % 8 → bits w 5 0 ≡ k / 8 → inside i8 k ≡ true → place_of w ≡ k
  unfolding place_of
  to-i8 a c m t = let u = most i8 k t in rw (a, lt-ltb (bits w 5 0) 2 (omega arith)) (omega arith)

  pub to-branch : bits w 31 26 ≡ 17 → bits w 25 23 ≡ k % 8 → inside branch k ≡ true → place_of w ≡ k
  unfolding place_of
  to-branch a c t =
      let r = within branch k t in
      rw a (omega arith)

  pub to-special : bits w 31 26 ≡ 0 → bits w 5 0 ≡ k % 64 → inside special k ≡ true → place_of w ≡ k
  unfolding place_of
  to-special a m t =
      let r = within special k t in
      rw a (omega arith)

  module _ (major : bits w 31 26 ≡ 30) where
    high : 25 ≤ bits w 5 0 → place_of w ≡ place_in (high_block w) w
    high l = past-shf major (omega arith) ∙ rw (le-ltb (bits w 5 0) 25 l)

    pub to-elm : bits w 25 22 ≡ k % 16 → bits w 5 0 ≡ 25 → eqb (bits w 21 16) 62 ≡ false → inside elm k ≡ true
        → place_of w ≡ k
    to-elm c m n t =
        let r = within elm k t in
        high (omega arith) ∙ rw (lt-ltb (bits w 5 0) 26 (omega arith), n) (omega arith)

    pub to-elm62 : bits w 25 22 ≡ k % 16 → bits w 5 0 ≡ 25 → bits w 21 16 ≡ 62 → inside elm62 k ≡ true → place_of w ≡ k
    to-elm62 c m n t =
        let r = within elm62 k t in
        high (omega arith) ∙ rw (lt-ltb (bits w 5 0) 26 (omega arith), eq-eqb (bits w 21 16) 62 n) (omega arith)

    pub to-float : bits w 25 22 ≡ k % 16 → bits w 5 0 ≡ 28 → standing class.Fixed k ≡ true → place_of w ≡ k
    to-float c m t =
        let r = at-28 k t in
        high (omega arith)
        ∙ rw (le-ltb (bits w 5 0) 26 (omega arith), lt-ltb (bits w 5 0) 29 (omega arith)) (omega arith)

    at-30 : bits w 5 0 ≡ 30 → place_of w ≡ place_in (cond (eqb (bits w 25 21) 24) two vec) w
    at-30 m =
        high (omega arith)
        ∙ rw (le-ltb (bits w 5 0) 26 (omega arith), le-ltb (bits w 5 0) 29 (omega arith), eq-eqb (bits w 5 0) 30 m)

    pub to_vec : bits w 25 21 ≡ k % 32 → bits w 5 0 ≡ 30 → standing class.Vec k ≡ true → place_of w ≡ k
    to_vec c m t =
        let i = both_left (inside vec k) (not (eqb k 376)) t in
        let r = within vec k i in
        let d = eqb-false k 376 (not-true (eqb k 376) (both_right (inside vec k) (not (eqb k 376)) t)) in
        at-30 m ∙ rw (ne_eqb (bits w 25 21) 24 (λ e. d (omega arith))) (omega arith)

    pub to-two : bits w 25 21 ≡ 24 → bits w 20 18 ≡ k % 8 → bits w 5 0 ≡ 30 → inside two k ≡ true → place_of w ≡ k
    to-two b c m t =
        let r = within two k t in
        at-30 m ∙ rw (eq-eqb (bits w 25 21) 24 b) (omega arith)

    pub to-mi10 : bits w 5 2 ≡ k / 32 → standing class.Memory k ≡ true → place_of w ≡ k
    to-mi10 c t =
        let i = both_left (inside mi10 k) (eqb (k % 32) 0) t in
        let r = within mi10 k i in
        let z = eqb-true (k % 32) 0 (both_right (inside mi10 k) (eqb (k % 32) 0) t) in
        let q = quarter w in
        high (omega arith)
        ∙ rw (
          le-ltb (bits w 5 0) 26 (omega arith),
          le-ltb (bits w 5 0) 29 (omega arith),
          ne_eqb (bits w 5 0) 30 (omega arith),
          le-ltb (bits w 5 0) 32 (omega arith),
          lt-ltb (bits w 5 0) 40 (omega arith),
        ) (omega arith)

pub to-shf : (w : ℕ) → bits w 31 26 ≡ 30 → bits w 5 0 ≡ 2 → place_of w ≡ place.shf
unfolding place_of
to-shf w major m = rw (major, le-ltb (bits w 5 0) 2 (omega arith), lt-ltb (bits w 5 0) 3 (omega arith))

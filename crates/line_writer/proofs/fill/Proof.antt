-- `line_writer::fill` meets its contract: a walk of its MIR, by hand. All that it knows of `new` and `put` is that each
-- meets its contract. Each is called at the borrow's own lifetime, share and ghost name: what it returns is, by its
-- contract, a record that is known whole (`Moves.antt`). At exit the borrow is owned at the last writer's list.
use mathlib.Core.Path.{◌≡◌, refl, sym, ap, subst}
use Prim.Native.Nat.{ℕ, ◌<◌, ◌^◌}
use mathlib.Core.List.{[], ◌∷◌, List}
use lib.Dec.{T as Holds}
use lib.ListN.{length}
use seplogic.Ra.Ura.{Ura}
use base.Fraction.{full_share}
use mir.Syntax.{named, erased, w32, w64}
use mir.Val.{Val, WT, has_ty, vint, vstruct, vcons, vnil}
use base.Logic.{SProp, ent, sep, id⊢, ex_e, snd∗}
use base.Fml.{Lft, Share, GName, ftrue, flft, fat}
use prog.Memory.{Memory}
use prog.Routine.{Routine}
use prog.Wp.{Calls, Loops, WpFn, Tables}
use types.Logic.{Logic, sem}
use contract.Monad.{Fun, fact}
use contract.Running.{tables, tables_of}
use types.Kit.{‵, raw, given, some, later, ◌⊛◌, ◌$◌, ◌∵◌, !, qed, by, move, keep, drop, use1, use2, split}
use types.Kit.{join, pick, learn, rewrite, fsplit, fjoin, suffices, frame, await, updating, now as at_once, done}
use types.Run.{look, init, store, forget, stop, hop, fld, from, load, lit, addr, of_opd, and_then, no_more, assigns}
use types.Run.{land, returns, enter, alloc1, alloc0, params1, pass1, pass0, free1, free0}
use types.Part.{agg, whole, sub, look_in}
use sound.WpLaws.{FmC, fm_of, WpFn-mono}
use denote.RattleType.{owns}
use denote.Laws.{Is, shows}
use denote.Plain.{uint_Makes, uint_vals, uint_Tells}
use denote.Builtin.{u8, u32, usize}
use denote.Ref.{MutBor, NamedLft}
use denote.Slice.{slice_val, MutSlice, Room, mut_slice_vals, mut_slice_Tells}
use denote.Steps.{only, owned, peeks, heard, nothing}
use denote.Enum.Laws as EL
use denote.Struct.Laws as LL
use denote.Struct.Rest.{all_own, own_open}
use denote.Triple.Entry.{on_entry}
use denote.Triple.Spec.{Meets, triple_of}
use denote.Triple.Statement.{Contract, Triple}
use denote.Triple.Call.{calls_at}
use denote.Triple.Clauses.{ensured, lasts}
use denote.Triple.Table.{entered}
use denote.Triple.Walked.{says, needs, Stays, stay_none, stay_slice, walk_of, Goes-none, Goes-slice, Walks, ends_at}
use denote.Triple.Walked.{walked, walk_Meets}
use denote.Exit.{yes}
use denote.Signature.{plain}
use Rattle.line_writer.specs.declared.LineWriter.{LineWriter}
use Rattle.text.specs.Text.{Room as Fits}
use Rattle.listing.specs.declared.Part.{Part}
use Rattle.listing.specs.declared.Part.TheVariants.{Address, Word, Text, Blanks}
use Rattle.listing.specs.Listing.{line_of}
use Rattle.listing.specs.contracts.Part as P
use Rattle.listing.proofs.Part.TheLaws as P'
use Rattle.line_writer.specs.Moved.{moved}
use Rattle.line_writer.proofs.Moves as moves
use Rattle.line_writer.proofs.Moves.{RoomFor}
use Rattle.line_writer.specs.contracts.LineWriter as T
use Rattle.line_writer.proofs.LineWriter.TheLaws as T'
use Rattle.line_writer.specs.contracts.new as new
use Rattle.line_writer.proofs.new.Symbol.{name as #line-writer·new}
use Rattle.line_writer.proofs.new.Met as new-thm
use Rattle.line_writer.specs.contracts.put as put
use Rattle.line_writer.proofs.put.Symbol.{name as #line-writer·put}
use Rattle.line_writer.proofs.put.Met as put-thm
use Rattle.line_writer.specs.contracts.fill.Key.{name as #line-writer·fill}
use Rattle.line_writer.specs.contracts.fill as fill
use Rattle.line_writer.proofs.fill.Statement as stated
use Rattle.line_writer.proofs.fill.Code as code

-- a part's machine value
abbrev mach-part : Part → Val
mach-part p = EL.val P.the_type P'.the_laws p

abbrev stayed : Stays (fill.ended).signature.params (fill.ended).kept
stayed = (stay_slice (0 ∷ []) tt (plain (λ _. u8)), (stay_none (λ _. u32) yes, (stay_none (λ _. u32) yes, tt)))

module _ {M : Type 1} {𝓤 : Ura M} (𝓛 : Logic 𝓤) (mem : Memory → SProp 𝓤) (run : Routine → Fun 𝓤) where
  -- the contracts that the proof cites
  abbrev New : Contract 𝓤
  New = triple_of 𝓛 new.signature (new.spec 𝓛 mem run)

  abbrev Put : Contract 𝓤
  Put = triple_of 𝓛 put.signature (put.spec 𝓛 mem run)

  -- of each callee's `ensured`, the clause alone: neither has a last value
  new-of : (κ : Lft) (x : MutBor (List ℕ)) (r : LineWriter)
      → ent 𝓤 (ensured 𝓛 new.ended (new.clauses 𝓛 mem run) (κ, tt) (x, tt) tt r)
      (fact 𝓤 ((r.line ≡ x) × (r.at ≡ 0)))
  new-of κ x r =
      ex_e 𝓤 _ (λ ws. snd∗ 𝓤 (sem 𝓛 (lasts new.ended (κ, tt) (x, tt) ws)) (fact 𝓤 ((r.line ≡ x) × (r.at ≡ 0))))

  put_of : (κ : Lft) (h : LineWriter) (p : Part) (r : LineWriter)
      → ent 𝓤 (ensured 𝓛 put.ended (put.clauses 𝓛 mem run) (κ, tt) (h, (p, tt)) tt r) (fact 𝓤 (r ≡ moved h p))
  put_of κ h p r = ex_e 𝓤 _ (λ ws. snd∗ 𝓤 (sem 𝓛 (lasts put.ended (κ, tt) (h, (p, tt)) ws)) (fact 𝓤 (r ≡ moved h p)))

module _ {M : Type 1} {𝓤 : Ura M} (𝓛 : Logic 𝓤) (mem : Memory → SProp 𝓤)
    (run : Routine → Fun 𝓤) (κ : Lft) (q : Share) (b o : ℕ) (γ : GName) (ys : List ℕ) (v u : ℕ) (v-fits : v < 2 ^ 32)
    (u-fits : u < 2 ^ 32) (within : Fits ys 0 (line_of v u)) where
  open 𝓛 use {H, A}

  abbrev α : NamedLft
  α = record { mir = named 0; lft = κ }

  abbrev x : MutBor (List ℕ)
  x = record { ref_ptr = (b, o); ghost_name = γ; now = ys }

  abbrev s : Val
  s = slice_val (b, o) (length ys)

  -- the writer that `new` returns, and the one after each part
  abbrev h₀ : LineWriter
  h₀ = moves.made x v u

  abbrev h₁ : LineWriter
  h₁ = moves.addressed x v u

  abbrev h₂ : LineWriter
  h₂ = moves.worded x v u

  abbrev h₃ : LineWriter
  h₃ = moves.texted x v u

  abbrev h₄ : LineWriter
  h₄ = moves.blanked x v u

  -- the parts, with their machine values
  is_address : Is P.the_row (Address v) (mach-part (Address v) ∷ [])
  is_address = EL.owes P.the_type P'.the_laws (Address v) ((refl, v-fits), tt)

  is_word : Is P.the_row (Word u) (mach-part (Word u) ∷ [])
  is_word = EL.owes P.the_type P'.the_laws (Word u) ((refl, u-fits), tt)

  is-text : Is P.the_row (Text u) (mach-part (Text u) ∷ [])
  is-text = EL.owes P.the_type P'.the_laws (Text u) ((refl, u-fits), tt)

  is-blanks : Is P.the_row Blanks (mach-part Blanks ∷ [])
  is-blanks = EL.owes P.the_type P'.the_laws Blanks tt

  -- the machine value of a writer has the struct's MIR type, whose lifetimes a local's erases
  typed : (h : LineWriter) (w : Val) → Is (T.the_row α) h (w ∷ []) → Holds (has_ty (T'.mir erased) w) × WT w
  typed h w is =
      let fields = LL.owed (T.the_type α) (T'.the_laws α) h _ is in
      subst (λ (z : Val). Holds (has_ty (T'.mir erased) z) × WT z)
      (sym (ap only (LL.tells (T.the_type α) (T'.the_laws α) h _ is)))
      (tt, ((tt, (record { fits = fields.0.0.1.0 }, tt)), (record { fits = fields.1.0.1 }, tt)))

  typed-part : (p : Part) → Is P.the_row p (mach-part p ∷ []) → Holds (has_ty P'.mir (mach-part p)) × WT (mach-part p)
  typed-part p is = ((EL.lawful P.the_type P'.the_laws 𝓛 tt).typed p _ is).0

  abbrev Arg : Type 0
  Arg = MutBor (List ℕ) × (ℕ × (ℕ × Unit {0}))

  abbrev a : Arg
  a = (x, (v, (u, tt)))

  abbrev vals : List Val × (List Val × (List Val × Unit {0}))
  vals = (s ∷ [], (vint w32 v ∷ [], (vint w32 u ∷ [], tt)))

  abbrev Post : Val → SProp 𝓤
  Post = (walk_of 𝓛 fill.ended stayed (fill.clauses 𝓛 mem run)).post (((κ, tt), (q, tt), tt, a, vals), tt)

  -- what each callee's triple binds outside, and that the caller has what it asks
  abbrev to-new : (New 𝓛 mem run).Ghost
  to-new = (((κ, tt), (q, tt), tt, (x, tt), (s ∷ [], tt)), tt)

  goes-new : ent 𝓤 (sep 𝓤 (sep 𝓤 (A.lft κ q) (sem 𝓛 ftrue))
      (sem 𝓛 ((MutSlice (named 0) κ u8).own_val x (s ∷ [])))) ((New 𝓛 mem run).pre to-new)
  goes-new =
      qed 𝓛 ((‵ (flft κ q) ⊛ ‵ ftrue) ∷ ‵ ((MutSlice (named 0) κ u8).own_val x (s ∷ [])) ∷ []) ∵ nothing ! $
      move ! (2 ∷ 0 ∷ []) $ fjoin ! $ move ! (1 ∷ 0 ∷ []) $ join ! $ frame ! $ done !

  abbrev to-put : LineWriter → Part → Val → (Put 𝓛 mem run).Ghost
  to-put h p w = (((κ, tt), (q, tt), tt, (h, (p, tt)), (w ∷ [], (mach-part p ∷ [], tt))), tt)

  goes-put : (h : LineWriter) (p : Part) (w : Val) → RoomFor h p → Is P.the_row p (mach-part p ∷ [])
      → ent 𝓤 (sep 𝓤 (sep 𝓤 (A.lft κ q) (sem 𝓛 ftrue)) (sem 𝓛 ((T.the_row α).own_val h (w ∷ []))))
      ((Put 𝓛 mem run).pre (to-put h p w))
  goes-put h p w room is =
      qed 𝓛 ((‵ (flft κ q) ⊛ ‵ ftrue) ∷ ‵ ((T.the_row α).own_val h (w ∷ [])) ∷ []) ∵ says ! room $ frame ! $
      nothing ! $ owned ! P.the_row (Is P.the_row) (EL.makes P.the_type P'.the_plain 𝓛) p _ is $ fjoin ! $
      move ! (1 ∷ 0 ∷ []) $ fjoin ! $ done !

  -- what is had after a call of `put`: the token, and the writer moved on
  put-gives : (h : LineWriter) (p : Part) (w w' : Val)
      → ent 𝓤 ((Put 𝓛 mem run).post (to-put h p w) w')
      (H.⇛ (sep 𝓤 (sep 𝓤 (A.lft κ q) (sem 𝓛 ftrue)) (sem 𝓛 ((T.the_row α).own_val (moved h p) (w' ∷ [])))))
  put-gives h p w w' =
      qed 𝓛 (raw ((Put 𝓛 mem run).post (to-put h p w) w') ∷ []) ∵ updating ! $
      use1 𝓛 (later (some (λ (r : LineWriter). ((‵ (flft κ q) ⊛ ‵ ftrue) ⊛ ‵ ((T.the_row α).own_val r (w' ∷ []))) ⊛ raw
      (ensured 𝓛 put.ended (put.clauses 𝓛 mem run) (κ, tt) (h, (p, tt)) tt r)))) (id⊢ 𝓤 _) $ await ! tt $
      pick ! (λ r.
      split ! $ move ! (1 ∷ []) $ use1 𝓛 (raw (fact 𝓤 (r ≡ moved h p))) (put_of 𝓛 mem run κ h p r) $
      heard ! (r ≡ moved h p) (λ e.
      split ! $ rewrite ! 1 (λ (z : LineWriter). ‵ ((T.the_row α).own_val z (w' ∷ []))) e refl $ at_once ! $ frame ! $
      done !))

  -- the machine value of a writer
  abbrev mach : LineWriter → Val
  mach h = vstruct (vcons (slice_val h.line.ref_ptr (length h.line.now)) (vcons (vint w64 h.at) vnil))

  exits : (w : Val) → h₃.at < 2 ^ 64
      → ent 𝓤 (sep 𝓤 (sep 𝓤 (A.lft κ q) (sem 𝓛 ftrue)) (sem 𝓛 ((T.the_row α).own_val h₄ (w ∷ []))))
      (Post (vint w64 h₃.at))
  exits w fits =
      qed 𝓛 ((‵ (flft κ q) ⊛ ‵ ftrue) ∷ ‵ ((T.the_row α).own_val h₄ (w ∷ [])) ∷ []) ∵
      suffices ! _ (ends_at 𝓛 fill.ended stayed (fill.clauses 𝓛 mem run)
      (((κ, tt), (q, tt), tt, a, vals), tt) (vint w64 h₃.at) h₃.at (h₄.line.now, (tt, (tt, tt)))
      (moves.same_length x v u within, (tt, (tt, tt)))) $
      says ! (moves.length-is x v u, moves.filled x v u within) $ frame ! $
      use1 𝓛 (given (w ∷ [] ≡ mach h₄ ∷ []) (‵
      (all_own (T.the_type α).parts (T'.the_laws α) (h₄.line, (h₄.at, tt)))))
      (own_open 𝓛 (T.the_type α) (T'.the_laws α) (h₄.line, (h₄.at, tt)) w) $ learn ! (λ _. fsplit ! $
      rewrite ! 0 (λ (m : ℕ). ‵ ((MutSlice (named 0) κ u8).own_val h₄.line (slice_val (b, o) m ∷ [])))
      (moves.same_length x v u within) refl $ move ! (1 ∷ []) $ drop ! $
      owned ! usize (Is usize) (uint_Makes 𝓛 w64) h₃.at _ (refl, fits) $ move ! (1 ∷ 0 ∷ []) $
      nothing ! $ owned ! u32 (Is u32) (uint_Makes 𝓛 w32) u _ (refl, u-fits) $ fjoin ! $
      owned ! u32 (Is u32) (uint_Makes 𝓛 w32) v _ (refl, v-fits) $ fjoin ! $ move ! (1 ∷ 0 ∷ []) $ fjoin ! $
      done !)

  module _ (C : Calls 𝓤 H) (Λ : Loops 𝓤 H) (fm : FmC 𝓤 H 𝓛.laws C)
      (known-new : Triple 𝓤 (C #line-writer·new) (New 𝓛 mem run))
      (known-put : Triple 𝓤 (C #line-writer·put) (Put 𝓛 mem run)) where
    walk : Room u8 (length ys)
        → ent 𝓤 (on_entry 𝓛 fill.signature (κ, tt) (q, tt) a vals)
        (WpFn 𝓤 H C Λ code.function (s ∷ vint w32 v ∷ vint w32 u ∷ []) Post)
    walk room =
        qed 𝓛 ((‵ (flft κ q) ⊛ ‵ ftrue) ∷ ‵ (owns (MutSlice (named 0) κ u8 ∷ u32 ∷ u32 ∷ []) a vals) ∷ []) ∵
        enter ! C Λ code.function (s ∷ vint w32 v ∷ vint w32 u ∷ []) _ $
        alloc1 ! (λ l₀. alloc1 ! (λ l₁. alloc1 ! (λ l₂. alloc1 ! (λ l₃. alloc1 ! (λ l₄.
        alloc1 ! (λ l₅. alloc1 ! (λ l₆. alloc1 ! (λ l₇. alloc1 ! (λ l₈. alloc1 ! (λ l₉.
        alloc1 ! (λ l₁₀. alloc1 ! (λ l₁₁. alloc1 ! (λ l₁₂. alloc1 ! (λ l₁₃. alloc1 ! (λ l₁₄. alloc0 ! $ params1 ! $
        pass1 ! (init ! 26 refl (tt, (tt, (record { fits = room.0 }, tt)))) $
        pass1 ! (init ! 24 refl (tt, record { fits = v-fits })) $
        pass1 ! (init ! 22 refl (tt, record { fits = u-fits })) $ pass0 ! $
        -- [_14; …; _13; …; and so on to _1; …; room for _0; …; the token; what line, address and word own]
        assigns ! (addr ! (from ! (fld ! refl (hop ! (look_in ! 26 (sub ! 0 refl (whole !))) (stop !)))))
        (from ! (stop !)) (init ! 10 refl (tt, tt)) $
        assigns ! (agg ! (and_then ! (load ! (from ! (stop !)) (look ! 10 refl))
        (and_then ! (load ! (from ! (fld ! refl (stop !))) (look_in ! 26 (sub ! 1 refl (whole !)))) (no_more !))))
        (from ! (stop !)) (init ! 8 refl (tt, (tt, (record { fits = room.0 }, tt)))) $
        -- `new`
        move ! (31 ∷ []) $ fsplit ! $ move ! (32 ∷ 0 ∷ []) $ use2 𝓛 (raw ((New 𝓛 mem run).pre to-new)) goes-new $
        calls_at ! fm (New 𝓛 mem run) known-new to-new
        (and_then ! (load ! (from ! (stop !)) (look ! 10 refl)) (no_more !)) (λ w₀.
        use1 𝓛 (later (some (λ (r : LineWriter). ((‵ (flft κ q) ⊛ ‵ ftrue) ⊛ ‵ ((T.the_row α).own_val r (w₀ ∷ []))) ⊛ raw
        (ensured 𝓛 new.ended (new.clauses 𝓛 mem run) (κ, tt) (x, tt) tt r)))) (id⊢ 𝓤 _) $ await ! tt $
        pick ! (λ r₀.
        split ! $ move ! (1 ∷ []) $
        use1 𝓛 (raw (fact 𝓤 ((r₀.line ≡ x) × (r₀.at ≡ 0)))) (new-of 𝓛 mem run κ x r₀) $
        heard ! ((r₀.line ≡ x) × (r₀.at ≡ 0)) (λ e₀.
        split ! $ rewrite ! 1 (λ (h : LineWriter). ‵ ((T.the_row α).own_val h (w₀ ∷ [])))
        (λ i. record { line = e₀.0 i; at = e₀.1 i }) refl $
        move ! (1 ∷ []) $ peeks ! (T.the_row α) (Is (T.the_row α)) (shows 𝓛 (T.the_row α)) h₀ (w₀ ∷ [])
        (λ is₀. land ! (from ! (stop !)) (init ! 15 refl (typed h₀ w₀ is₀)) $
        -- [the writer; the token; what address and word own; _14; …]: the address is put
        assigns ! (agg ! (and_then ! (lit ! tt) (and_then ! (load ! (from ! (stop !)) (look ! 27 refl))
        (no_more !)))) (from ! (stop !)) (init ! 9 refl (typed-part (Address v) is_address)) $
        move ! (1 ∷ 0 ∷ []) $ use2 𝓛 (raw ((Put 𝓛 mem run).pre (to-put h₀ (Address v) w₀)))
        (goes-put h₀ (Address v) w₀ (moves.for-address x v u within) is_address) $
        calls_at ! fm (Put 𝓛 mem run) known-put (to-put h₀ (Address v) w₀)
        (and_then ! (load ! (from ! (stop !)) (look ! 14 refl))
        (and_then ! (load ! (from ! (stop !)) (look ! 8 refl)) (no_more !))) (λ w₁.
        use1 𝓛 (later ((‵ (flft κ q) ⊛ ‵ ftrue) ⊛ ‵ ((T.the_row α).own_val h₁ (w₁ ∷ []))))
        (put-gives h₀ (Address v) w₀ w₁) $ await ! tt $ split ! $ move ! (1 ∷ []) $
        peeks ! (T.the_row α) (Is (T.the_row α)) (shows 𝓛 (T.the_row α)) h₁ (w₁ ∷ [])
        (λ is₁. land ! (from ! (stop !)) (init ! 23 refl (typed h₁ w₁ is₁)) $
        -- the word
        assigns ! (of_opd ! (load ! (from ! (stop !)) (look ! 23 refl))) (from ! (stop !))
        (init ! 7 refl (typed h₁ w₁ is₁)) $
        assigns ! (agg ! (and_then ! (lit ! tt) (and_then ! (load ! (from ! (stop !)) (look ! 25 refl))
        (no_more !)))) (from ! (stop !)) (store ! 9 refl (typed-part (Word u) is_word)) $
        move ! (1 ∷ 0 ∷ []) $ use2 𝓛 (raw ((Put 𝓛 mem run).pre (to-put h₁ (Word u) w₁)))
        (goes-put h₁ (Word u) w₁ (moves.for-word x v u within) is_word) $
        calls_at ! fm (Put 𝓛 mem run) known-put (to-put h₁ (Word u) w₁)
        (and_then ! (load ! (from ! (stop !)) (look ! 6 refl))
        (and_then ! (load ! (from ! (stop !)) (look ! 8 refl)) (no_more !))) (λ w₂.
        use1 𝓛 (later ((‵ (flft κ q) ⊛ ‵ ftrue) ⊛ ‵ ((T.the_row α).own_val h₂ (w₂ ∷ [])))) (put-gives h₁ (Word u) w₁ w₂) $
        await ! tt $ split ! $ move ! (1 ∷ []) $
        peeks ! (T.the_row α) (Is (T.the_row α)) (shows 𝓛 (T.the_row α)) h₂ (w₂ ∷ [])
        (λ is₂. land ! (from ! (stop !)) (init ! 21 refl (typed h₂ w₂ is₂)) $
        -- the text
        assigns ! (of_opd ! (load ! (from ! (stop !)) (look ! 21 refl))) (from ! (stop !))
        (init ! 5 refl (typed h₂ w₂ is₂)) $
        assigns ! (agg ! (and_then ! (lit ! tt) (and_then ! (load ! (from ! (stop !)) (look ! 25 refl))
        (no_more !)))) (from ! (stop !)) (store ! 9 refl (typed-part (Text u) is-text)) $
        move ! (1 ∷ 0 ∷ []) $ use2 𝓛 (raw ((Put 𝓛 mem run).pre (to-put h₂ (Text u) w₂)))
        (goes-put h₂ (Text u) w₂ (moves.for-text x v u within) is-text) $
        calls_at ! fm (Put 𝓛 mem run) known-put (to-put h₂ (Text u) w₂)
        (and_then ! (load ! (from ! (stop !)) (look ! 4 refl))
        (and_then ! (load ! (from ! (stop !)) (look ! 8 refl)) (no_more !))) (λ w₃.
        use1 𝓛 (later ((‵ (flft κ q) ⊛ ‵ ftrue) ⊛ ‵ ((T.the_row α).own_val h₃ (w₃ ∷ [])))) (put-gives h₂ (Text u) w₂ w₃) $
        await ! tt $ split ! $ move ! (1 ∷ []) $
        peeks ! (T.the_row α) (Is (T.the_row α)) (shows 𝓛 (T.the_row α)) h₃ (w₃ ∷ [])
        (λ is₃. land ! (from ! (stop !)) (init ! 19 refl (typed h₃ w₃ is₃)) $
        -- the length is read from the writer
        let fits₃ : h₃.at < 2 ^ 64 = (LL.owed (T.the_type α) (T'.the_laws α) h₃ _ is₃).1.0.1 in
        rewrite ! 19 (λ (z : Val). ‵ (fat full_share (T'.mir erased) l₆ 0 z))
        (ap only (LL.tells (T.the_type α) (T'.the_laws α) h₃ _ is₃)) refl $
        assigns ! (of_opd ! (load ! (from ! (fld ! refl (stop !))) (look_in ! 19 (sub ! 1 refl (whole !)))))
        (from ! (stop !)) (init ! 17 refl (tt, record { fits = fits₃ })) $
        rewrite ! 19 (λ (z : Val). ‵ (fat full_share (T'.mir erased) l₆ 0 z))
        (sym (ap only (LL.tells (T.the_type α) (T'.the_laws α) h₃ _ is₃))) refl $
        -- the blanks
        assigns ! (of_opd ! (load ! (from ! (stop !)) (look ! 19 refl))) (from ! (stop !))
        (init ! 3 refl (typed h₃ w₃ is₃)) $
        assigns ! (agg ! (and_then ! (lit ! tt) (no_more !))) (from ! (stop !))
        (store ! 9 refl (typed-part Blanks is-blanks)) $
        move ! (1 ∷ 0 ∷ []) $ use2 𝓛 (raw ((Put 𝓛 mem run).pre (to-put h₃ Blanks w₃)))
        (goes-put h₃ Blanks w₃ (moves.for-blanks x v u within) is-blanks) $
        calls_at ! fm (Put 𝓛 mem run) known-put (to-put h₃ Blanks w₃)
        (and_then ! (load ! (from ! (stop !)) (look ! 2 refl))
        (and_then ! (load ! (from ! (stop !)) (look ! 8 refl)) (no_more !))) (λ w₄.
        use1 𝓛 (later ((‵ (flft κ q) ⊛ ‵ ftrue) ⊛ ‵ ((T.the_row α).own_val h₄ (w₄ ∷ [])))) (put-gives h₃ Blanks w₃ w₄) $
        await ! tt $ split ! $ move ! (1 ∷ []) $
        peeks ! (T.the_row α) (Is (T.the_row α)) (shows 𝓛 (T.the_row α)) h₄ (w₄ ∷ [])
        (λ is₄. land ! (from ! (stop !)) (store ! 15 refl (typed h₄ w₄ is₄)) $
        assigns ! (of_opd ! (load ! (from ! (stop !)) (look ! 17 refl))) (from ! (stop !))
        (init ! 31 refl (tt, record { fits = fits₃ })) $
        returns ! (look ! 31 refl) $ forget ! 3 refl $ forget ! 5 refl $ forget ! 7 refl $ forget ! 9 refl $
        forget ! 11 refl $ forget ! 13 refl $ forget ! 15 refl $ forget ! 17 refl $ forget ! 19 refl $
        forget ! 21 refl $ forget ! 23 refl $ forget ! 25 refl $ forget ! 27 refl $ forget ! 29 refl $
        forget ! 31 refl $
        move ! (31 ∷ 32 ∷ []) $ free1 ! $ move ! (29 ∷ 30 ∷ []) $ free1 ! $ move ! (27 ∷ 28 ∷ []) $ free1 ! $
        move ! (25 ∷ 26 ∷ []) $ free1 ! $ move ! (23 ∷ 24 ∷ []) $ free1 ! $ move ! (21 ∷ 22 ∷ []) $ free1 ! $
        move ! (19 ∷ 20 ∷ []) $ free1 ! $ move ! (17 ∷ 18 ∷ []) $ free1 ! $ move ! (15 ∷ 16 ∷ []) $ free1 ! $
        move ! (13 ∷ 14 ∷ []) $ free1 ! $ move ! (11 ∷ 12 ∷ []) $ free1 ! $ move ! (9 ∷ 10 ∷ []) $ free1 ! $
        move ! (7 ∷ 8 ∷ []) $ free1 ! $ move ! (5 ∷ 6 ∷ []) $ free1 ! $ move ! (3 ∷ 4 ∷ []) $ free1 ! $ free0 ! $
        keep ! (1 ∷ 0 ∷ []) $ by ! (exits w₄ fits₃))))))))))))))))))))))))))))

module _ {M : Type 1} {𝓤 : Ura M} (𝓛 : Logic 𝓤) (mem : Memory → SProp 𝓤)
    (run : Routine → Fun 𝓤) where
  open 𝓛 use {H}

  fill_walks : (C : Calls 𝓤 H) (Λ : Loops 𝓤 H) → FmC 𝓤 H 𝓛.laws C
      → Triple 𝓤 (C #line-writer·new) (New 𝓛 mem run) → Triple 𝓤 (C #line-writer·put) (Put 𝓛 mem run)
      → Walks 𝓛 fill.ended stayed (WpFn 𝓤 H C Λ code.function) (fill.clauses 𝓛 mem run)
  fill_walks C Λ fm known-new known-put =
      walked 𝓛 fill.ended stayed (fill.clauses 𝓛 mem run) (WpFn 𝓤 H C Λ code.function)
      (λ κs. (mut_slice_vals, (uint_vals w32, (uint_vals w32, tt))))
      (λ κs. (mut_slice_Tells (named 0) κs.0 u8, (uint_Tells w32, (uint_Tells w32, tt))))
      (λ κs qs bounds a g are. needs 𝓤 (Fits a.0.now 0 (line_of a.1.0 a.1.1.0)) _ (λ within.
      walk 𝓛 mem run κs.0 qs.0 a.0.ref_ptr.0 a.0.ref_ptr.1 a.0.ghost_name a.0.now a.1.0
      a.1.1.0 are.1.0.1 are.1.1.0.1 within C Λ fm known-new known-put are.0.0.1))

fill_meets : {M : Type 1} {𝓤 : Ura M} (𝓛 : Logic 𝓤) →
    (mem : Memory → SProp 𝓤) (run : Routine → Fun 𝓤) (𝓣 : Tables 𝓤 𝓛.H)
    → Triple 𝓤 (𝓣.C #line-writer·new) (New 𝓛 mem run) → Triple 𝓤 (𝓣.C #line-writer·put) (Put 𝓛 mem run)
    → Meets 𝓛 fill.signature (WpFn 𝓤 𝓛.H 𝓣.C 𝓣.Λ code.function) (fill.spec 𝓛 mem run)
fill_meets {𝓤 = 𝓤} 𝓛 mem run 𝓣 known-new known-put =
    walk_Meets 𝓛 fill.ended stayed (
      Goes-slice 𝓛 1 0 tt (plain (λ _. u8)),
      (
        Goes-none 𝓛 1 (λ _. u32) yes (λ κs x f. refl),
        (Goes-none 𝓛 1 (λ _. u32) yes (λ κs x f. refl), tt),
      ),
    ) (fill.clauses 𝓛 mem run)
    (WpFn 𝓤 𝓛.H 𝓣.C 𝓣.Λ code.function) (WpFn-mono 𝓤 𝓛.H 𝓛.laws 𝓣 code.function)
    (fill_walks 𝓛 mem run 𝓣.C 𝓣.Λ (fm_of 𝓤 𝓛.H 𝓛.laws 𝓣) known-new known-put)

pub fill_spec : {M : Type 1} → stated.statement M
unfolding tables_of
fill_spec 𝓤 𝓛 𝓜 𝓡 wired =
    let 𝓣 = tables 𝓤 𝓛.H 𝓜 𝓡 𝓡.env in
    entered 𝓤 𝓛.H (triple_of 𝓛 fill.signature (fill.spec 𝓛 𝓜.mem 𝓡.returns)) 𝓣.C 𝓣.Λ #line-writer·fill code.function
    (code.unfolded 𝓤 𝓛.H 𝓜 𝓡 wired)
    (fill_meets 𝓛 𝓜.mem 𝓡.returns (tables_of 𝓤 𝓛.H 𝓜 𝓣)
    (new-thm.met 𝓤 𝓛 𝓜 𝓡 (code.calls-line_writer::new 𝓡.env wired))
    (put-thm.met 𝓤 𝓛 𝓜 𝓡 (code.calls-line_writer::put 𝓡.env wired)))

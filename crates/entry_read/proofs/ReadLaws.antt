-- From what the engine answers to what the C entry answers. Assumes nothing.
use Rattle.std.proofs.Common.{◌≡◌, ℕ, Bool, true, false, cond, ltb, List, refl, sym, ◌∙◌, arith}
use Rattle.std.specs.Prelude.{Some, None}
use Rattle.machine.specs.declared.run.Ended.{Ended}
use Rattle.machine.specs.Numbers.{reason_number, reason_missing}
use Rattle.entry.specs.Block.{written}
use Rattle.entry.proofs.EntryLaws.{runs_to}
use Rattle.listed.specs.Run.{Listing, ListedIs}
use Rattle.entry_read.specs.Entry.{ReadsTo}

clash : {A : Type 0} → false ≡ true → A
clash h = let z : ◌≡◌ {A = ℕ} 0 1 = cc in absurd (omega arith)

module _ (s : Listing) (v g w b b' l : List ℕ) where
  -- a run: the answer of `msa_run`, and the list with the program's entries
  pub ran-to : (e : Ended) (n x : ℕ) → ListedIs s (Some e) v g w l
      → n ≡ reason_number e.reason → x ≡ reason_missing e.reason
      → b' ≡ cond (ltb 0 e.count) (written e.control b) b
      → ReadsTo s (record { reason = n; count = e.count; missing = x }) v g w b b' l
  ran-to e n x i f h k =
      record {
        ran = λ y. runs_to v g w b b' s.run e n x i.ended f h k;
        short = λ y. clash (i.short ∙ y);
        list = i.list;
      }

  -- none where the list is too short: 51, and nothing is changed
  pub short-to : ListedIs s None v g w l → b' ≡ b
      → ReadsTo s (record { reason = 51; count = 0; missing = 0 }) v g w b b' l
  short-to i k =
      record {
        ran = λ y. clash (sym (i.short ∙ y));
        short = λ y. record {
          reason = refl;
          count = refl;
          missing = refl;
          vec = i.ended.vec;
          gen = i.ended.gen;
          work = i.ended.work;
          control = k;
        };
        list = i.list;
      }

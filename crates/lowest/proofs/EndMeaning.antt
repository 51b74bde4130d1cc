-- What the row of the end says: every transaction that has begun comes before it, and it reads nothing.
-- Assumes nothing.
use mathlib.Core.Path.{◌≡◌, refl, ap, ◌∙◌}
use Prim.Native.Nat.{ℕ, zero, suc, ◌+◌, ◌≤◌, ◌<◌}
use native.Mathlib.Nat.{le_refl, le_of_lt}
use native.Mathlib.Omega.{arith}
use mathlib.Core.Bool.{Bool, true, false, cond}
use mathlib.Core.List.{List}
use lib.ListN.{length, take}
use lib.Seq.{take-suc, take_all}
use lib.Dec.{eqb}
use borrow.Author.Tests.{eqb-false}
use Rattle.lists.specs.Lists.{◌and◌, keep}
use Rattle.lists.proofs.ListLaws.{and_false_r}
use Rattle.events.specs.declared.event.Event.{Event}
use Rattle.events.specs.Events.{no_event, event_at, is_begin, begins}
use Rattle.events.specs.Questions.{readable}
use Rattle.events.proofs.EventLaws.{begins-snoc, begins-same}
use Rattle.events.proofs.QuestionLaws.{asked-at}
use Rattle.lists.specs.Bits.{bit_at}
use Rattle.places.specs.Facts.{end_row, after_of, reads_of}
use Rattle.places.specs.Tree.{EndAsks}
use Rattle.tables.specs.declared.Tables.{Tables}
use Rattle.tables.specs.Tables.{next, tables_of}
use Rattle.lowest.specs.Order.{Judged}
use Rattle.tables.proofs.PutLaws.{end-next, end-reads-next}
use Rattle.lowest.proofs.Meaning.{Good, tab, tab-suc, has_room, shaped, bit-joined, fact-zero}
use Rattle.lowest.proofs.GoodHistory.{good}

module _ (h : List Event) (fine : Good h) where
  pub end_reads : (n : ℕ) → n ≤ length h → reads_of (tab h fine n).facts end_row ≡ 0
  unfolding next
  end_reads zero l = fact-zero end_row 2 (omega arith) (omega arith)
  end_reads (suc n) l =
      rw (tab-suc h fine n l)
      (end-reads-next (tab h fine n).ended (tab h fine n).facts (shaped h fine n (le_of_lt l)) (event_at h n) (has_room h fine n l) ∙ end_reads n (le_of_lt l))

  module _ (r : readable h ≡ true) where
    none-begun : begins (take 0 h) ≡ 0
    unfolding begins keep
    none-begun = refl

    pub end_after : (n : ℕ) → n ≤ length h → EndAsks (tab h fine n).facts (begins (take n h))
    unfolding next ◌and◌
    end_after zero l k m = absurd (omega (arith, none-begun))
    end_after (suc n) l k m =
        rw (tab-suc h fine n l)
        (ap (bit_at k) (end-next s.ended s.facts (shaped h fine n (le_of_lt l)) e (has_room h fine n l))
        ∙ bit-joined (after_of s.facts end_row) (is_begin e) e.transaction k ∙ go (is_begin e) refl (eqb e.transaction k) refl (end_after n (le_of_lt l) k))
      where
        s : Tables
        s = tab h fine n

        e : Event
        e = event_at h n

        go : (b : Bool) → is_begin e ≡ b → (d : Bool) → eqb e.transaction k ≡ d → (k < begins (take n h) → bit_at k (after_of s.facts end_row) ≡ 1)
            → cond (d and b) 1 (bit_at k (after_of s.facts end_row)) ≡ 1
        go true p true q ih = refl
        go true p false q ih =
            let c : begins (take (suc n) h) ≡ begins (take n h) + 1 = ap begins (take-suc h n no_event l) ∙ begins-snoc (take n h) e p in
            let t : e.transaction ≡ begins (take n h) = (asked-at h r n l).next p in
            let f : (e.transaction ≡ k → ⊥) = eqb-false _ _ q in
            ih (omega arith)
        go false p d q ih =
            let c : begins (take (suc n) h) ≡ begins (take n h) = ap begins (take-suc h n no_event l) ∙ begins-same (take n h) e p in
            rw (and_false_r d false refl) (ih (omega arith))

-- so that a completion of a history's facts has all its transactions
pub asks-by : (h : List Event) (s : Tables) (m : ℕ) → Judged h → s ≡ tables_of h → m ≡ begins h → EndAsks s.facts m
asks-by h s m j e q =
    rw (e, q, ← take_all (length h) h (le_refl (length h))) (end_after h (good h j.readable j.few) j.readable (length h) (le_refl (length h)))

-- What counts and tally say, for every call.
-- Assumes nothing.
use Prim.Native.Nat.{ℕ}
use native.Mathlib.Omega.{arith}
use mathlib.Core.Path.{◌≡◌, refl, ap, ◌∙◌}
use mathlib.Core.Logic.{◌↔◌}
use mathlib.Core.List.{List, [], ◌∷◌}
use Rattle.std.specs.Prelude.{Ok, Err}
use Rattle.event_log.specs.Checked.{Checked}
use Rattle.event_log.specs.Columns.{Columns, history}
use Rattle.events.specs.Said.{Said, done, at_event, refuse}
use Rattle.event_log.specs.Answer.{history_answer}
use Rattle.opacity.specs.Counts.{counts}
use Rattle.counts.specs.declared.tally.Tally.{Tally}
use Rattle.counts.specs.Tally.{tally}
use Rattle.counts.specs.Answer.{counted, transactions_answer, store_reads_answer, tallied, tally_answer, count_said, tally_said}

module _ (edition : ℕ) (starts : List ℕ) (c : Columns) (count : ℕ) where
  count-exactly : (k n : ℕ) → (count_said (counted (history_answer edition starts c count) k) ≡ done (n ∷ [])) ↔ ((history_answer edition starts c count ≡ Ok tt) × (k ≡ n))
  unfolding count_said
  count-exactly k n = (go (history_answer edition starts c count) refl, λ w. rw w.0 (ap (λ (i : ℕ). done (i ∷ [])) w.1))
    where
      go : (v : Checked) → history_answer edition starts c count ≡ v → count_said (counted v k) ≡ done (n ∷ []) → (history_answer edition starts c count ≡ Ok tt) × (k ≡ n)
      go (Ok u) w x = let i : k ≡ n = cc in (w, i)
      go (Err r) w x = absurd (let z : ◌≡◌ {A = ℕ} 0 1 = cc in omega arith)

  count-refused : (k q e : ℕ) → (count_said (counted (history_answer edition starts c count) k) ≡ at_event q e) ↔ (history_answer edition starts c count ≡ Err (refuse q e))
  unfolding count_said
  count-refused k q e = (go (history_answer edition starts c count) refl, λ w. rw w)
    where
      go : (v : Checked) → history_answer edition starts c count ≡ v → count_said (counted v k) ≡ at_event q e → history_answer edition starts c count ≡ Err (refuse q e)
      go (Ok u) w x = absurd (let z : ◌≡◌ {A = ℕ} 0 1 = cc in omega arith)
      go (Err r) w x =
          let i : r.question ≡ q = cc in
          let j : r.at ≡ e = cc in
          w ∙ (λ y. Err (refuse (i y) (j y)))

  pub transactions-exactly : (n : ℕ) → (count_said (transactions_answer edition starts c count) ≡ done (n ∷ []))
      ↔ ((history_answer edition starts c count ≡ Ok tt) × ((counts (history c count)).transactions ≡ n))
  unfolding transactions_answer
  transactions-exactly n = count-exactly _ n

  pub transactions-refused : (q e : ℕ) → (count_said (transactions_answer edition starts c count) ≡ at_event q e) ↔ (history_answer edition starts c count ≡ Err (refuse q e))
  unfolding transactions_answer
  transactions-refused q e = count-refused _ q e

  pub store-reads-exactly : (n : ℕ) → (count_said (store_reads_answer edition starts c count) ≡ done (n ∷ []))
      ↔ ((history_answer edition starts c count ≡ Ok tt) × ((counts (history c count)).reads ≡ n))
  unfolding store_reads_answer
  store-reads-exactly n = count-exactly _ n

  pub store-reads-refused : (q e : ℕ) → (count_said (store_reads_answer edition starts c count) ≡ at_event q e) ↔ (history_answer edition starts c count ≡ Err (refuse q e))
  unfolding store_reads_answer
  store-reads-refused q e = count-refused _ q e

  pub tallied-exactly : (x : Tally) → (tally_said (tally_answer edition starts c count) ≡ done (x.committed ∷ x.aborted ∷ x.pending ∷ x.live ∷ []))
      ↔ ((history_answer edition starts c count ≡ Ok tt) × (tally (history c count) ≡ x))
  unfolding tally_answer tally_said
  tallied-exactly x = (go (history_answer edition starts c count) refl, λ w. rw w.0 (ap four w.1))
    where
      four : Tally → Said
      four y = done (y.committed ∷ y.aborted ∷ y.pending ∷ y.live ∷ [])

      go : (v : Checked) → history_answer edition starts c count ≡ v → tally_said (tallied v (tally (history c count))) ≡ four x
          → (history_answer edition starts c count ≡ Ok tt) × (tally (history c count) ≡ x)
      go (Ok u) w k =
          let h = tally (history c count) in
          let i : h.committed ≡ x.committed = cc in
          let j : h.aborted ≡ x.aborted = cc in
          let m : h.pending ≡ x.pending = cc in
          let n : h.live ≡ x.live = cc in
          (w, λ y. record { committed = i y; aborted = j y; pending = m y; live = n y })
      go (Err r) w k = absurd (let z : ◌≡◌ {A = ℕ} 0 1 = cc in omega arith)

  pub tally-refused : (q e : ℕ) → (tally_said (tally_answer edition starts c count) ≡ at_event q e) ↔ (history_answer edition starts c count ≡ Err (refuse q e))
  unfolding tally_answer tally_said
  tally-refused q e = (go (history_answer edition starts c count) refl, λ w. rw w)
    where
      go : (v : Checked) → history_answer edition starts c count ≡ v → tally_said (tallied v (tally (history c count))) ≡ at_event q e
          → history_answer edition starts c count ≡ Err (refuse q e)
      go (Ok u) w x = absurd (let z : ◌≡◌ {A = ℕ} 0 1 = cc in omega arith)
      go (Err r) w x =
          let i : r.question ≡ q = cc in
          let j : r.at ≡ e = cc in
          w ∙ (λ y. Err (refuse (i y) (j y)))

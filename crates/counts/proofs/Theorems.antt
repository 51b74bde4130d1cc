-- The four numbers of the tally add up to the transactions, and each transaction is counted in exactly one of them, once: that which its
-- events say.
-- Assumes nothing.
use Prim.Native.Nat.{ℕ, zero, suc, ◌+◌, ◌≤◌, ◌<◌}
use native.Mathlib.Decide.{dec_lt}
use native.Mathlib.Omega.{arith}
use mathlib.Core.Path.{◌≡◌, refl, sym, ap, ◌∙◌}
use mathlib.Core.Logic.{◌↔◌}
use mathlib.Core.Bool.{Bool, true, false, cond}
use mathlib.Core.List.{List}
use lib.Dec.{eqb}
use lib.ListN.{length}
use borrow.Author.Tests.{eqb-true, ne_eqb}
use Rattle.lists.specs.Lists.{◌and◌, keep, range}
use Rattle.events.specs.declared.event.Event.{Event}
use Rattle.events.specs.Events.{begins}
use Rattle.event_log.specs.Columns.{Columns, history}
use Rattle.events.specs.Questions.{readable}
use Rattle.event_log.specs.Answer.{history_answer}
use Rattle.lists.proofs.ListLaws.{and-false-l, eqb-self, keep-both}
use Rattle.opacity.specs.Transactions.{Status, committed, aborted, pending, live, HasStatus, status_number, status}
use Rattle.opacity.specs.Counts.{one, counts}
use Rattle.opacity.proofs.HowMany.{how_many, how-many-suc, how-many-none, how-many-moved}
use Rattle.opacity.proofs.Statuses.{status-iff}
use Rattle.std.specs.Prelude.{Ok, Err}
use Rattle.event_log.specs.Checked.{Checked}
use Rattle.counts.specs.declared.tally.Tally.{Tally}
use Rattle.counts.specs.Tally.{has_status, of_status, tally, times}
use Rattle.counts.specs.Answer.{counted, transactions_answer, tallied, tally_answer}

-- a status is one of the four
one-of-four : (s : Status) → one (eqb (status_number s) 3) + one (eqb (status_number s) 2) + one (eqb (status_number s) 1) + one (eqb (status_number s) 0) ≡ 1
one-of-four committed = refl
one-of-four aborted = refl
one-of-four pending = refl
one-of-four live = refl

-- a number below n stands once among those that pass, if it passes; one that is not below n stands there not at all
module _ (p : ℕ → Bool) (t n : ℕ) where
  both : times t (keep p (range n)) ≡ how_many (λ u. eqb u t and p u) n
  unfolding times
  both = ap length (keep-both p (λ u. eqb u t) (range n))

  other : (u : ℕ) → (t ≡ u → ⊥) → (eqb u t and p u) ≡ false
  other u d = and-false-l _ _ (ne_eqb u t (λ e. d (sym e)))

  times_below : t < n → times t (keep p (range n)) ≡ one (p t)
  unfolding ◌and◌
  times_below l =
      let nothing = how-many-none (λ u. false) n (λ u m. refl) in
      let more = how-many-moved (λ u. false) (λ u. eqb u t and p u) t (λ u d. sym (other u d)) n l in
      let here : one (eqb t t and p t) ≡ one (p t) = ap (λ (b : Bool). one (b and p t)) (eqb-self t) in
      omega (arith, both, nothing, more, here)

  times-beyond : n ≤ t → times t (keep p (range n)) ≡ 0
  times-beyond l = both ∙ how-many-none (λ u. eqb u t and p u) n (λ u m. other u (λ e. omega arith))

-- the numbers tell the statuses apart: a transaction stands as s exactly if that is its status
named : ℕ → Status
named k = cond (eqb k 3) committed (cond (eqb k 2) aborted (cond (eqb k 1) pending live))

named_back : (s : Status) → named (status_number s) ≡ s
unfolding named
named_back committed = refl
named_back aborted = refl
named_back pending = refl
named_back live = refl

pub has-status : (s : Status) (h : List Event) (t : ℕ) → status h t ≡ s → has_status s h t ≡ true
has-status s h t e = ap (λ (z : Status). eqb (status_number z) (status_number s)) e ∙ eqb-self (status_number s)

pub status-has : (s : Status) (h : List Event) (t : ℕ) → has_status s h t ≡ true → status h t ≡ s
status-has s h t q = sym (named_back (status h t)) ∙ (ap named (eqb-true _ _ q) ∙ named_back s)

module _ (h : List Event) where
  all-counted : (n : ℕ) → how_many (has_status committed h) n + how_many (has_status aborted h) n + how_many (has_status pending h) n + how_many (has_status live h) n ≡ n
  unfolding range keep
  all-counted zero = refl
  all-counted (suc n) =
      omega (
        arith,
        how-many-suc (has_status committed h) n,
        how-many-suc (has_status aborted h) n,
        how-many-suc (has_status pending h) n,
        how-many-suc (has_status live h) n,
        one-of-four (status h n),
        all-counted n,
      )

  pub adds-up : (tally h).committed + (tally h).aborted + (tally h).pending + (tally h).live ≡ begins h
  unfolding tally of_status
  adds-up = all-counted (begins h)

  -- a transaction is counted once as what it is
  counted-as : (s : Status) (t : ℕ) → t < begins h → times t (of_status s h) ≡ one (has_status s h t)
  unfolding of_status
  counted-as s t l = times_below (has_status s h) t (begins h) l

  pub counted-once : (t : ℕ) → t < begins h
      → times t (of_status committed h) + times t (of_status aborted h) + times t (of_status pending h) + times t (of_status live h) ≡ 1
  counted-once t l = rw (counted-as committed t l, counted-as aborted t l, counted-as pending t l, counted-as live t l) (one-of-four (status h t))

  -- and in which of the four, in a readable history: in the one that its events say
  pub counted-iff : readable h ≡ true → (s : Status) (t : ℕ) → (times t (of_status s h) ≡ 1) ↔ ((t < begins h) × HasStatus s h t)
  unfolding of_status
  counted-iff r s t = (
    λ e.
        elim (dec_lt t (begins h)) [
          | yes l ↦ (l, (status-iff h r t s).0 (passes (has_status s h t) refl (sym (counted-as s t l) ∙ e)))
          | no f ↦ absurd (omega (arith, e, times-beyond (has_status s h) t (begins h) (omega arith)))
        ],
    λ x. counted-as s t x.0 ∙ ap one (has-status s h t ((status-iff h r t s).1 x.1)),
  )
    where
      passes : (b : Bool) → has_status s h t ≡ b → one b ≡ 1 → status h t ≡ s
      passes true q e = status-has s h t q
      passes false q e = absurd (omega (arith, e))

-- where there is a tally there is a count of the transactions, and the four add up to it
pub tally-adds-up : (edition : ℕ) (starts : List ℕ) (c : Columns) (count : ℕ) (x : Tally) → tally_answer edition starts c count ≡ Ok x
    → transactions_answer edition starts c count ≡ Ok (x.committed + x.aborted + x.pending + x.live)
unfolding tally_answer transactions_answer counts
tally-adds-up edition starts c count x e = go (history_answer edition starts c count) e
  where
    go : (y : Checked) → tallied y (tally (history c count)) ≡ Ok x
        → counted y (begins (history c count)) ≡ Ok (x.committed + x.aborted + x.pending + x.live)
    go (Ok u) d =
        let q : tally (history c count) ≡ x = cc in
        ap Ok (sym (adds-up (history c count)) ∙ ap (λ (y : Tally). y.committed + y.aborted + y.pending + y.live) q)
    go (Err r) d = absurd (let z : ◌≡◌ {A = ℕ} 0 1 = cc in omega arith)

-- The numbers of the questions about columns and calls, and the events that come with them: at most 2,048, or the count.
-- Assumes nothing.
use Rattle.std.specs.Prelude.{Ok, Err}
use mathlib.Core.Path.{◌≡◌, refl, sym, ap, subst, ◌∙◌}
use mathlib.Core.Logic.{◌⊎◌, inl, inr}
use Prim.Native.Nat.{ℕ, zero, suc, ◌≤◌, ◌<◌}
use native.Mathlib.Omega.{arith}
use mathlib.Core.Bool.{Bool, true, false, cond}
use mathlib.Core.List.{List, [], ◌∷◌}
use mathlib.Core.Option.{Option, none, some, get_or, none-ne-some, some-injective}
use lib.Dec.{leb}
use lib.ListN.{length, take}
use lib.Seq.{length-take-le}
use borrow.Author.Tests.{leb-true}
use Rattle.events.specs.declared.event.Event.{Event}
use Rattle.event_log.specs.Checked.{Checked}
use Rattle.events.specs.declared.refusal.Refusal.{Refusal}
use Rattle.events.specs.Said.{refuse}
use Rattle.lists.specs.Lists.{◌and◌, all, lowest}
use Rattle.events.specs.Events.{event_at}
use Rattle.event_log.specs.Columns.{Columns, history, hold}
use Rattle.event_log.specs.Starts.{admits}
use Rattle.events.specs.Questions.{Question, refusal, Past, past, event_questions, column_questions, refused_at, readable}
use Rattle.event_log.specs.Answer.{refused_with, events_answer, history_answer}
use Rattle.lists.proofs.ListLaws.{and_l, and_r, lowest-some, Lowest}
use Rattle.events.proofs.QuestionLaws.{asked, fit}
use Rattle.event_log.proofs.StartLaws.{history-readable}
use Rattle.event_log.specs.Calls.{asked_of, then_checked}
use Rattle.codes.specs.Codes.{Within}

abbrev pub within : ℕ → ℕ → ℕ → Bool
within low high q = leb low q and leb q high

pub is_within : (low high q : ℕ) → within low high q ≡ true → Within low high q
is_within low high q w = record { least = leb-true _ _ (and_l _ _ w); most = leb-true _ _ (and_r _ _ w) }

-- the question that refuses is one of those that are put: what is so of each of their numbers is so of its number
pub numbered-by : (f : ℕ → Bool) (qs : List Question) → all (λ q. f q.number) qs ≡ true → (n : ℕ) → refusal qs ≡ some n → f n ≡ true
unfolding refusal all
numbered-by f [] a n e = absurd (none-ne-some n e)
numbered-by f (q ∷ qs) a n e = go q.yes e (numbered-by f qs (and_r _ _ a) n)
  where
    go : (b : Bool) → cond b (refusal qs) (some q.number) ≡ some n → (refusal qs ≡ some n → f n ≡ true) → f n ≡ true
    go true k ih = ih k
    go false k ih =
        let s : q.number ≡ n = some-injective q.number n k in
        ap f (sym s) ∙ and_l _ _ a

pub numbered : (low high : ℕ) (qs : List Question) → all (λ q. within low high q.number) qs ≡ true → (n : ℕ) → refusal qs ≡ some n → Within low high n
numbered low high qs a n e = is_within low high n (numbered-by (within low high) qs a n e)

-- ---- columns

-- a question of columns or of a call, with its event: at most 2,048, or the count
pub record Asked (low high count : ℕ) (r : Refusal) : Type 0 where
  pub number : Within low high r.question
  pub place : (r.at ≤ 2048) ⊎ (r.at ≡ count)

-- within wider limits
pub widen : {low high low' high' count : ℕ} {r : Refusal} → low' ≤ low → high ≤ high' → Asked low high count r → Asked low' high' count r
widen {low} {high} {low'} {high'} {count} {r} a b w =
    record { number = record { least = omega (arith, w.number.least); most = omega (arith, w.number.most) }; place = w.place }

columns-numbered : (edition : ℕ) (p : Past) (e : Event) (n : ℕ) → refusal (column_questions edition p e) ≡ some n → Within 4 17 n
unfolding column_questions event_questions all ◌and◌
columns-numbered edition p e n x = numbered 4 17 (column_questions edition p e) refl n x

-- an event that a question refuses comes after at most 2,048 others: question 6 let the one before it pass
early : (edition : ℕ) (h : List Event) (i : ℕ) → i < length h → ((j : ℕ) → j < i → refused_at edition h j ≡ none) → i ≤ 2048
unfolding refused_at
early edition h zero l g = omega arith
early edition h (suc i) l g =
    let a = asked (past (take i h)) (event_at h i) (fit edition (past (take i h)) (event_at h i) (g i (omega arith))).asks in
    omega (arith, a.room, length-take-le i h (omega arith))

refused-with : (i : ℕ) (o : Option ℕ) → refused_with i o ≡ none → o ≡ none
refused-with i none e = refl
refused-with i (some q) e = absurd (none-ne-some (Err (refuse q i)) (sym e))

pub events-number : (edition : ℕ) (h : List Event) (count : ℕ) (r : Refusal) → events_answer edition h ≡ Err r → Asked 4 17 count r
unfolding events_answer refused_at
events-number edition h count r x = go (lowest (λ i. refused_with i (refused_at edition h i)) (length h)) refl x
  where
    at-event : (i : ℕ) → i < length h → ((j : ℕ) → j < i → refused_at edition h j ≡ none) → (o : Option ℕ) → refused_at edition h i ≡ o
        → refused_with i o ≡ some (Err r) → Asked 4 17 count r
    at-event i l g none w k = absurd (none-ne-some (Err r) k)
    at-event i l g (some n) w k =
        let s : Err (refuse n i) ≡ Err r = some-injective (Err (refuse n i)) (Err r) k in
        let e : refuse n i ≡ r = cc in
        let m = columns-numbered edition (past (take i h)) (event_at h i) n w in
        subst (Asked 4 17 count) e (record { number = m; place = inl (early edition h i l g) })

    go : (o : Option Checked) → lowest (λ i. refused_with i (refused_at edition h i)) (length h) ≡ o → get_or o (Ok tt) ≡ Err r → Asked 4 17 count r
    go none w k = let z : ◌≡◌ {A = ℕ} 0 1 = cc in absurd (omega arith)
    go (some y) w k =
        let f : Lowest (λ i. refused_with i (refused_at edition h i)) (length h) y = lowest-some (λ i. refused_with i (refused_at edition h i)) (length h) w in
        at-event f.at f.inside (λ j l. refused-with j (refused_at edition h j) (f.least j l)) (refused_at edition h f.at) refl (f.answer ∙ ap some k)

-- a question whose event is the count
at_count : (low high count q : ℕ) (r : Refusal) → Within low high q → ◌≡◌ {A = Checked} (Err (refuse q count)) (Err r) → Asked low high count r
at_count low high count q r w k =
    let e : refuse q count ≡ r = cc in
    subst (Asked low high count) e (record { number = w; place = inr refl })

-- 17, 3 and each event's own
pub call-number : (edition : ℕ) (starts : List ℕ) (c : Columns) (count : ℕ) (r : Refusal) → history_answer edition starts c count ≡ Err r → Asked 3 17 count r
unfolding history_answer
call-number edition starts c count r x = go (hold c count) (admits edition starts) x
  where
    go : (b a : Bool) → cond b (cond a (events_answer edition (history c count)) (Err (refuse 3 count))) (Err (refuse 17 count)) ≡ Err r → Asked 3 17 count r
    go true true k = widen (omega arith) (omega arith) (events-number edition (history c count) count r k)
    go true false k = at_count 3 17 count 3 r (record { least = omega arith; most = omega arith }) k
    go false a k = at_count 3 17 count 17 r (record { least = omega arith; most = omega arith }) k

pub call-readable : (edition : ℕ) (starts : List ℕ) (c : Columns) (count : ℕ) → history_answer edition starts c count ≡ Ok tt → readable (history c count) ≡ true
call-readable edition starts c count x = (history-readable edition starts c count x).1

-- ---- questions of a call: the count is their event

pub asked-number : (low high count : ℕ) (qs : List Question) → all (λ q. within low high q.number) qs ≡ true → (r : Refusal)
    → asked_of count qs ≡ Err r → Asked low high count r
unfolding asked_of
asked-number low high count qs a r x = go (refusal qs) refl x
  where
    go : (o : Option ℕ) → refusal qs ≡ o → get_or (refused_with count o) (Ok tt) ≡ Err r → Asked low high count r
    go none w k = let z : ◌≡◌ {A = ℕ} 0 1 = cc in absurd (omega arith)
    go (some n) w k = at_count low high count n r (numbered low high qs a n w) k

pub then-cases : (a b : Checked) (r : Refusal) → then_checked a b ≡ Err r
    → (a ≡ Err r) ⊎ ((a ≡ Ok tt) × (b ≡ Err r))
unfolding then_checked
then-cases (Ok tt) b r x = inr (refl, x)
then-cases (Err p) b r x = inl x

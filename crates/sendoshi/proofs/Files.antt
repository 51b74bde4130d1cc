-- The questions that refuse a file, and the byte that comes with them, which no file that is read goes beyond; and how many events a file
-- that is read has, and which editions there are.
-- Assumes nothing.
use Rattle.std.specs.Prelude.{Result, Ok, Err}
use mathlib.Core.Path.{◌≡◌, refl, sym, ap, subst, ◌∙◌}
use mathlib.Core.Logic.{◌⊎◌, inl, inr, ⊎_elim}
use Prim.Native.Nat.{ℕ, zero, suc, ◌+◌, ◌≤◌, ◌<◌}
use native.Mathlib.Omega.{arith}
use mathlib.Core.Bool.{Bool, true, false, cond}
use mathlib.Core.List.{List, [], ◌∷◌}
use mathlib.Core.Option.{Option, none, some}
use lib.Dec.{leb, eqb}
use lib.ListN.{length, length-append}
use borrow.Author.Tests.{leb-true, eqb-true}
use Rattle.records.specs.declared.record.Record.{Record}
use Rattle.records.specs.declared.record.Found.{Found}
use Rattle.steps.specs.declared.step.Step.{Step}
use Rattle.lists.specs.Lists.{◌and◌, ◌or◌, all}
use Rattle.events.specs.declared.refusal.Refusal.{Refusal}
use Rattle.events.specs.Said.{refuse}
use Rattle.events.specs.Questions.{Question, ask, refusal, Past, past, event_questions}
use Rattle.records.specs.Bytes.{pick}
use Rattle.records.specs.Records.{record_at, body_of}
use Rattle.steps.specs.Steps.{event_in, record_questions, unless, event_on, is_start, start_questions, start_refusal, start_on, is_note, note_on, record_on, record_step}
use Rattle.lists.proofs.ListLaws.{and_l, and_r, or_cases}
use Rattle.events.proofs.QuestionLaws.{asked, head-yes}
use Rattle.records.proofs.RecordLaws.{whole_in}
use Rattle.steps.proofs.StepLaws.{starting, passing}
use Rattle.reader.specs.Reading.{is_edition, opening, Log, readable, refused, continued, walk, opened, history_of}
use Rattle.reader.proofs.OpeningLaws.{opens, head-long, head-known}
use Rattle.reader.proofs.WalkLaws.{event-in, readable≢}
use Rattle.opacity.specs.Marking.{Marking}
use Rattle.marking_reader.specs.declared.step.MarkingStep.{MarkingStep}
use Rattle.marking_reader.specs.File.{Known, Asked, asked as asked_of, every_pointed, is_place, head_questions, record_questions as marking_questions, end_questions, taken}
use Rattle.marking_reader.specs.File.{unless as unless_by, Stepped, body_step, end_step, step_on as marking_step_on, step_at as marking_step_at}
use Rattle.marking_reader.specs.File.{refused as refused_file, continued as continued_marking, walk as walk_marking, headed, opening as opening_marking, nothing_read, after_opening, file_read}
use Rattle.marking_reader.proofs.StepLaws.{placed-means, pointed-means}
use Rattle.marking_reader.proofs.WalkLaws.{place-ends, point-ends}
use Rattle.codes.specs.Codes.{Within}
use Rattle.sendoshi.proofs.Numbers.{within, is_within, numbered-by, numbered}

-- ---- a history's file

-- 1 to the last number given, and 41 to 44
pub record HistoryNumber (last q : ℕ) : Type 0 where
  pub least : 1 ≤ q
  pub most : q ≤ 44
  pub apart : (q ≤ last) ⊎ (41 ≤ q)

abbrev of_file : ℕ → Bool
of_file q = within 1 13 q or within 41 44 q

of-file : (q : ℕ) → of_file q ≡ true → HistoryNumber 13 q
of-file q t =
    ⊎_elim
    (λ a. let w = is_within 1 13 q a in record { least = w.least; most = omega arith; apart = inl w.most })
    (λ a. let w = is_within 41 44 q a in record { least = omega arith; most = w.most; apart = inr w.least })
    (or_cases _ _ t)

-- the question that refuses a record: 2, 4 to 13, and 41 to 44
step-number : (edition : ℕ) (s : List ℕ) (at next : ℕ) (p : Past) (q : ℕ) → record_step edition s at next p ≡ Err q → HistoryNumber 13 q
unfolding record_step record_questions event_questions start_questions all ◌and◌ ◌or◌
step-number edition s at next p q x = go (record_at s at) x
  where
    its : (qs : List Question) → all (λ n. of_file n.number) qs ≡ true → (o : Option ℕ) → refusal qs ≡ o → (y : Step)
        → unless o y ≡ Err q → HistoryNumber 13 q
    its qs a none w y k = let z : ◌≡◌ {A = ℕ} 0 1 = cc in absurd (omega arith)
    its qs a (some n) w y k = let e : n ≡ q = cc in of-file q (ap of_file (sym e) ∙ numbered-by of_file qs a n w)

    whole : (r : Record) (b d : Bool) → pick b (start_on p.count next s r) (pick d (note_on r) (event_on edition p s r)) ≡ Err q
        → HistoryNumber 13 q
    whole r true d k = its _ refl (start_refusal p.count next s r) refl _ k
    whole r false true k = its _ refl (refusal (ask 44 (leb r.size 64) ∷ [])) refl _ k
    whole r false false k = its _ refl (refusal (record_questions edition p r (event_in p s r))) refl _ k

    go : (f : Found) → record_on edition next p s f ≡ Err q → HistoryNumber 13 q
    go (Found.Whole r) k = whole r (is_start edition r.kind) (is_note r.kind) k
    go Found.Short k = let e : 2 ≡ q = cc in record { least = omega arith; most = omega arith; apart = inl (omega arith) }
    go Found.End k = let z : ◌≡◌ {A = ℕ} 0 1 = cc in absurd (omega arith)

-- the walk has as many steps as it needs, so that a question ends it
walk-number : (left : ℕ) (s : List ℕ) (at next : ℕ) (l : Log) (q b : ℕ) → at ≤ length s → length s < at + left → walk left s at next l ≡ refused q b
    → HistoryNumber 13 q × (b ≤ length s)
unfolding walk
walk-number zero s at next l q b i m x = absurd (omega arith)
walk-number (suc n) s at next l q b i m x =
    go (record_step l.edition s at next (past l.events)) refl x (λ end k y. walk-number n s end k y q b)
  where
    go : (y : Result Step ℕ) → record_step l.edition s at next (past l.events) ≡ y → continued (walk n s) at next l y ≡ refused q b
        → ((end k : ℕ) (y : Log) → end ≤ length s → length s < end + n → walk n s end k y ≡ refused q b → HistoryNumber 13 q × (b ≤ length s))
        → HistoryNumber 13 q × (b ≤ length s)
    go (Ok (Step.Taken e end)) w k ih =
        let t = event-in l.edition s at next (past l.events) e end w in
        ih end next _ t.1 (omega (arith, t.0)) k
    go (Err p) w k ih =
        let e : p ≡ q = cc in
        let f : at ≡ b = cc in
        (rw e at (step-number l.edition s at next (past l.events) p w), omega arith)
    go (Ok Step.Finished) w k ih = let z : ◌≡◌ {A = ℕ} 0 1 = cc in absurd (omega arith)
    go (Ok (Step.Started r v end)) w k ih =
        let t = starting l.edition next (past l.events) s at r v end w in
        ih end (r + 1) _ t.within (omega (arith, t.goes_on)) k
    go (Ok (Step.Noted end)) w k ih =
        let t = passing l.edition next (past l.events) s at end w in
        ih end next l t.within (omega (arith, t.goes_on)) k

opening-number : (s : List ℕ) (q : ℕ) → opening s ≡ some q → Within 1 3 q
unfolding opening all ◌and◌
opening-number s q e = numbered 1 3 _ refl q e

-- 1 to 13 and 41 to 44, at a byte of a file of at most 32,768 bytes
pub history-number : (s : List ℕ) (q b : ℕ) → history_of s ≡ refused q b → HistoryNumber 13 q × (b ≤ 32768)
unfolding history_of
history-number s q b x = go (opening s) refl x
  where
    go : (o : Option ℕ) → opening s ≡ o → opened s o ≡ refused q b → HistoryNumber 13 q × (b ≤ 32768)
    go none w k =
        let r = walk-number (suc (length s)) s 6 0 _ q b (head-long s w) (omega arith) k in
        (r.0, omega (arith, r.1, (opens s w).short))
    go (some n) w k =
        let e : n ≡ q = cc in
        let f : 0 ≡ b = cc in
        let m = opening-number s n w in
        (record { least = omega (arith, m.least); most = omega (arith, m.most); apart = inl (omega (arith, m.most)) }, omega arith)

-- what a file that is read holds: at most 2,048 events, and the edition that its head names
record Walked (edition : ℕ) (m : Log) : Type 0 where
  few : length m.events ≤ 2048
  same : m.edition ≡ edition

walk-count : (left : ℕ) (s : List ℕ) (at next : ℕ) (l m : Log) → length l.events ≤ 2048 → walk left s at next l ≡ readable m → Walked l.edition m
unfolding walk event_questions
walk-count zero s at next l m i x = let z : ◌≡◌ {A = ℕ} 0 1 = cc in absurd (omega arith)
walk-count (suc n) s at next l m i x = go (record_step l.edition s at next (past l.events)) refl x (λ end k y. walk-count n s end k y m)
  where
    go : (y : Result Step ℕ) → record_step l.edition s at next (past l.events) ≡ y → continued (walk n s) at next l y ≡ readable m
        → ((end k : ℕ) (y : Log) → length y.events ≤ 2048 → walk n s end k y ≡ readable m → Walked y.edition m)
        → Walked l.edition m
    go (Ok (Step.Taken e end)) w k ih =
        let t = event-in l.edition s at next (past l.events) e end w in
        ih end next _ (omega (arith, (asked (past l.events) e t.2).room, length-append l.events (e ∷ []))) k
    go (Err p) w k ih = absurd (readable≢ p at m k)
    go (Ok Step.Finished) w k ih =
        let e : l ≡ m = cc in
        let f : length l.events ≡ length m.events = ap (λ (y : Log). length y.events) e in
        record { few = omega arith; same = ap (λ (y : Log). y.edition) (sym e) }
    go (Ok (Step.Started r v end)) w k ih = ih end (r + 1) _ i k
    go (Ok (Step.Noted end)) w k ih = ih end next l i k

-- A file that question 14 is put to has at most 32,768 bytes and 2,048 events, and its edition is 1 or 2.
pub record ReadLimits (s : List ℕ) (l : Log) : Type 0 where
  pub bytes : length s ≤ 32768
  pub events : length l.events ≤ 2048
  pub edition : (l.edition ≡ 1) ⊎ (l.edition ≡ 2)

pub read-limits : (s : List ℕ) (l : Log) → history_of s ≡ readable l → ReadLimits s l
unfolding history_of is_edition
read-limits s l x = go (opening s) refl x
  where
    go : (o : Option ℕ) → opening s ≡ o → opened s o ≡ readable l → ReadLimits s l
    go none w k =
        let d = walk-count (suc (length s)) s 6 0 _ l (omega arith) k in
        record {
          bytes = (opens s w).short;
          events = d.few;
          edition = ⊎_elim (λ a. inl (d.same ∙ eqb-true _ 1 a)) (λ a. inr (d.same ∙ eqb-true _ 2 a)) (or_cases _ _ (head-known s w));
        }
    go (some n) w k = absurd (readable≢ n 0 l k)

-- ---- a marking's file

-- 1, 2 and 21 to 29
pub record MarkingNumber (q : ℕ) : Type 0 where
  pub least : 1 ≤ q
  pub most : q ≤ 29
  pub apart : (q ≤ 2) ⊎ (21 ≤ q)

from-21 : {n q : ℕ} → n ≡ q → Within 21 29 n → MarkingNumber q
from-21 {n} {q} e w =
    let l = w.least in
    let m = w.most in
    record { least = omega arith; most = omega arith; apart = inr (omega arith) }

-- the question that refuses a record or the end, with its byte
module _ (a : Asked) (s : List ℕ) (at : ℕ) (pointed : Bool) (l : at ≤ length s) where
  abbrev Told : Refusal → Type 0
  Told r = MarkingNumber r.question × (r.at ≤ length s)

  marking_step : (r : Refusal) → marking_step_at a pointed s at ≡ Err r → Told r
  unfolding marking_step_at body_step marking_questions end_step end_questions refusal all ◌and◌
  marking_step r x = go (record_at s at) x
    where
      body : (f : Record) (o : Option ℕ) → refusal (marking_questions a f.kind (body_of s f)) ≡ o
          → unless_by o at (taken f.kind (body_of s f) (f.start + f.size)) ≡ Err r → Told r
      body f none w k = let z : ◌≡◌ {A = ℕ} 0 1 = cc in absurd (omega arith)
      body f (some n) w k =
          let e : refuse n at ≡ r = cc in
          subst Told e (from-21 refl (numbered 21 29 (marking_questions a f.kind (body_of s f)) refl n w), l)

      last : (n : ℕ) → 28 ≤ n → n ≤ 29 → refuse n (length s) ≡ r → Told r
      last n i j e = subst Told e (record { least = omega arith; most = omega arith; apart = inr (omega arith) }, omega arith)

      ended : (x y : Bool) → end_step (length s) x y ≡ Err r → Told r
      ended true true d = let z : ◌≡◌ {A = ℕ} 0 1 = cc in absurd (omega arith)
      ended true false d = let e : refuse 29 (length s) ≡ r = cc in last 29 (omega arith) (omega arith) e
      ended false y d = let e : refuse 28 (length s) ≡ r = cc in last 28 (omega arith) (omega arith) e

      go : (f : Found) → marking_step_on a pointed s at f ≡ Err r → Told r
      go (Found.Whole f) k = body f (refusal (marking_questions a f.kind (body_of s f))) refl k
      go Found.Short k =
          let e : refuse 2 at ≡ r = cc in
          subst Told e (record { least = omega arith; most = omega arith; apart = inl (omega arith) }, l)
      go Found.End k = ended a.every_placed pointed k

marking-walk : (kn : Known) (left : ℕ) (s : List ℕ) (at : ℕ) (m : Marking) (q b : ℕ) → at ≤ length s → length s < at + left
    → walk_marking kn left s at m ≡ refused_file q b → MarkingNumber q × (b ≤ length s)
unfolding walk_marking
marking-walk kn zero s at m q b l r x = absurd (omega arith)
marking-walk kn (suc n) s at m q b l r x = go (marking_step_at (asked_of kn m) (every_pointed kn m) s at) refl x (λ end m'. marking-walk kn n s end m' q b)
  where
    go : (y : Stepped) → marking_step_at (asked_of kn m) (every_pointed kn m) s at ≡ y → continued_marking (walk_marking kn n s) m y ≡ refused_file q b
        → ((end : ℕ) (m' : Marking) → end ≤ length s → length s < end + n → walk_marking kn n s end m' ≡ refused_file q b → MarkingNumber q × (b ≤ length s))
        → MarkingNumber q × (b ≤ length s)
    go (Ok (MarkingStep.Placed t o end)) w k ih =
        let e = place-ends (placed-means (asked_of kn m) s at (every_pointed kn m) t o end w) in
        ih end _ e.1 (omega (arith, e.0)) k
    go (Ok (MarkingStep.Pointed t o end)) w k ih =
        let e = point-ends (pointed-means (asked_of kn m) s at (every_pointed kn m) t o end w) in
        ih end _ e.1 (omega (arith, e.0)) k
    go (Ok MarkingStep.Finished) w k ih = let z : ◌≡◌ {A = ℕ} 0 1 = cc in absurd (omega arith)
    go (Err p) w k ih =
        let e : p.question ≡ q = cc in
        let f : p.at ≡ b = cc in
        let t = marking_step (asked_of kn m) s at (every_pointed kn m) l p w in
        (subst MarkingNumber e t.0, omega (arith, t.1))

-- a file that opens has a head and is not too long
record MarkingOpens (s : List ℕ) : Type 0 where
  short : length s ≤ 32768
  head : 6 ≤ length s

marking-opens : (s : List ℕ) → opening_marking s ≡ none → MarkingOpens s
unfolding opening_marking head_questions
marking-opens s x = go (leb (length s) 32768) refl (record_at s 0) refl x
  where
    whole : length s ≤ 32768 → (r : Record) → record_at s 0 ≡ Found.Whole r → refusal (head_questions s r) ≡ none → MarkingOpens s
    whole l r w k =
        let i = whole_in s 0 r w in
        let z : r.size ≡ 2 = eqb-true _ _ (and_l _ _ (and_r (eqb r.kind 2) _ (head-yes _ _ k).0)) in
        record { short = l; head = omega (arith, i.0, i.1) }

    go : (b : Bool) → leb (length s) 32768 ≡ b → (f : Found) → record_at s 0 ≡ f → cond b (headed s f) (some 1) ≡ none → MarkingOpens s
    go true t (Found.Whole r) w k = whole (leb-true _ _ t) r w k
    go true t Found.Short w k = let z : ◌≡◌ {A = ℕ} 0 1 = cc in absurd (omega arith)
    go true t Found.End w k = let z : ◌≡◌ {A = ℕ} 0 1 = cc in absurd (omega arith)
    go false t f w k = let z : ◌≡◌ {A = ℕ} 0 1 = cc in absurd (omega arith)

marking-opening : (s : List ℕ) (q : ℕ) → opening_marking s ≡ some q → MarkingNumber q
unfolding opening_marking head_questions all ◌and◌
marking-opening s q x = go (leb (length s) 32768) (record_at s 0) x
  where
    low : (n : ℕ) → 1 ≤ n → n ≤ 2 → ◌≡◌ {A = Option ℕ} (some n) (some q) → MarkingNumber q
    low n l m k = let e : n ≡ q = cc in record { least = omega arith; most = omega arith; apart = inl (omega arith) }

    go : (b : Bool) (f : Found) → cond b (headed s f) (some 1) ≡ some q → MarkingNumber q
    go true (Found.Whole r) k = from-21 refl (numbered 21 29 (head_questions s r) refl q k)
    go true Found.Short k = low 2 (omega arith) (omega arith) k
    go true Found.End k = let e : 21 ≡ q = cc in record { least = omega arith; most = omega arith; apart = inr (omega arith) }
    go false f k = low 1 (omega arith) (omega arith) k

pub marking-number : (kn : Known) (s : List ℕ) (q b : ℕ) → file_read kn s ≡ refused_file q b → MarkingNumber q × (b ≤ 32768)
unfolding file_read
marking-number kn s q b x = go (opening_marking s) refl x
  where
    go : (o : Option ℕ) → opening_marking s ≡ o → after_opening kn s o ≡ refused_file q b → MarkingNumber q × (b ≤ 32768)
    go none w k =
        let o = marking-opens s w in
        let r = marking-walk kn (suc (length s)) s 6 nothing_read q b o.head (omega arith) k in
        (r.0, omega (arith, r.1, o.short))
    go (some n) w k =
        let e : n ≡ q = cc in
        let f : 0 ≡ b = cc in
        (rw e at (marking-opening s n w), omega arith)

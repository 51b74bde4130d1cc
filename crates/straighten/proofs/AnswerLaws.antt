-- The answer case by case: what it is where each question says no, where a rule is broken and where none is; and what each result tells.
-- Assumes nothing.
use Prim.Native.Nat.{ℕ}
use native.Mathlib.Omega.{arith}
use mathlib.Core.Path.{◌≡◌, refl, sym, ap, ◌∙◌, subst}
use mathlib.Core.Logic.{◌⊎◌, inl, inr}
use mathlib.Core.Bool.{Bool, true, false, not, cond}
use mathlib.Core.List.{List, [], ◌∷◌}
use mathlib.Core.Option.{Option, none, some, get_or, none-ne-some, some-injective}
use lib.Dec.{eqb}
use lib.ListN.{length, take}
use Rattle.events.specs.declared.event.Event.{Event}
use Rattle.std.specs.Prelude.{Ok, Err}
use Rattle.event_log.specs.Checked.{Checked}
use Rattle.events.specs.declared.refusal.Refusal.{Refusal}
use Rattle.events.specs.Said.{refuse}
use Rattle.lists.specs.Lists.{◌and◌, all, lowest}
use Rattle.records.specs.Bytes.{over}
use Rattle.events.specs.Events.{event_at}
use Rattle.event_log.specs.Columns.{Columns, history, hold}
use Rattle.event_log.specs.Starts.{start_of, admits}
use Rattle.events.specs.Questions.{Question, Past, past, refusal, event_questions, column_questions, refused_at}
use Rattle.event_log.specs.Answer.{refused_with, events_answer, history_answer}
use Rattle.lists.proofs.ListLaws.{and_l, and_r, eqb-self, not-true, clash, Lowest, lowest-some}
use Rattle.opacity.specs.declared.verdict.Rule.{Rule}
use Rattle.opacity.specs.declared.verdict.Verdict.{Verdict}
use Rattle.opacity.specs.declared.verdict.Verdict.TheVariants.{Accepted, Broken as Breaks}
use Rattle.opacity.specs.Marking.{Marking, ReadableFor, marking_bytes, verdict}
use Rattle.marking_reader.specs.File.{known, FileRead, content, refused, file_read}
use Rattle.straighten.specs.declared.Unstraightened.TheVariants.{Broken, Refused, MarkingRefused}
use Rattle.straighten.specs.Straight.{straightened, moved_events}
use Rattle.straighten.specs.Answer.{Straightening, moved_to, Given, gives, after_verdict, judged, roomy, after_file, after_columns, straightened_answer, Passes, Short}
use Rattle.straighten.proofs.StraightLaws.{accepted-same}

-- ---- 15 is no question of the history

not-asked : (n : ℕ) (qs : List Question) → all (λ q. not (eqb q.number n)) qs ≡ true → refusal qs ≡ some n → ⊥
unfolding refusal all
not-asked n [] a e = none-ne-some n e
not-asked n (q ∷ qs) a e = go q.yes e (not-asked n qs (and_r _ _ a))
  where
    go : (b : Bool) → cond b (refusal qs) (some q.number) ≡ some n → (refusal qs ≡ some n → ⊥) → ⊥
    go true k ih = ih k
    go false k ih =
        let s : q.number ≡ n = some-injective q.number n k in
        clash (ap (λ (x : ℕ). eqb x n) s ∙ eqb-self n) (not-true _ (and_l _ _ a))

entry-not-15 : (edition : ℕ) (p : Past) (e : Event) → refusal (column_questions edition p e) ≡ some 15 → ⊥
unfolding column_questions event_questions all ◌and◌
entry-not-15 edition p e = not-asked 15 (column_questions edition p e) refl

pub never-15 : (edition : ℕ) (starts : List ℕ) (c : Columns) (n e : ℕ) → history_answer edition starts c n ≡ Err (refuse 15 e) → ⊥
unfolding history_answer events_answer refused_at
never-15 edition starts c n e x = held (hold c n) (admits edition starts) x
  where
    at-event : (i : ℕ) (o : Option ℕ) → refused_at edition (history c n) i ≡ o → refused_with i o ≡ some (Err (refuse 15 e)) → ⊥
    at-event i none w k = none-ne-some (Err (refuse 15 e)) k
    at-event i (some q) w k =
        let s : ◌≡◌ {A = Checked} (Err (refuse q i)) (Err (refuse 15 e)) = some-injective (Err (refuse q i)) (Err (refuse 15 e)) k in
        let b : refuse q i ≡ refuse 15 e = cc in
        let a : q ≡ 15 = ap (λ (r : Refusal). r.question) b in
        entry-not-15 edition (past (take i (history c n))) (event_at (history c n) i) (w ∙ ap some a)

    events : (o : Option Checked) → lowest (λ i. refused_with i (refused_at edition (history c n) i)) (length (history c n)) ≡ o → get_or o (Ok tt) ≡ Err (refuse 15 e) → ⊥
    events none w k = let z : ◌≡◌ {A = ℕ} 0 1 = cc in omega arith
    events (some y) w k =
        let r : Lowest (λ i. refused_with i (refused_at edition (history c n) i)) (length (history c n)) y = lowest-some _ _ w in
        at-event r.at (refused_at edition (history c n) r.at) refl (r.answer ∙ ap some k)

    held : (b a : Bool) → cond b (cond a (events_answer edition (history c n)) (Err (refuse 3 n))) (Err (refuse 17 n)) ≡ Err (refuse 15 e) → ⊥
    held true true k = events (lowest (λ i. refused_with i (refused_at edition (history c n) i)) (length (history c n))) refl k
    held true false k =
        let b : refuse 3 n ≡ refuse 15 e = cc in
        let z : ◌≡◌ {A = ℕ} 3 15 = ap (λ (r : Refusal). r.question) b in
        omega arith
    held false a k =
        let b : refuse 17 n ≡ refuse 15 e = cc in
        let z : ◌≡◌ {A = ℕ} 17 15 = ap (λ (r : Refusal). r.question) b in
        omega arith

-- ---- the cases

-- a marking is written
pub record Done (edition : ℕ) (starts : List ℕ) (c : Columns) (n : ℕ) (file output list : List ℕ) (k l : ℕ) (output' list' : List ℕ) : Type 0 where
  pub marking : Marking
  pub passes : Passes edition starts c n file output list marking
  pub accepted : verdict (start_of starts) (history c n) (straightened (start_of starts) (history c n) marking) ≡ Accepted
  pub size : length (marking_bytes (straightened (start_of starts) (history c n) marking)) ≡ k
  pub count : length (moved_events (start_of starts) (history c n) marking) ≡ l
  pub bytes : output' ≡ over (marking_bytes (straightened (start_of starts) (history c n) marking)) output
  pub entries : list' ≡ over (moved_events (start_of starts) (history c n) marking) list

module _ (edition : ℕ) (starts : List ℕ) (c : Columns) (n : ℕ) (file output list : List ℕ) where
  pub history-said : (r : Refusal) → history_answer edition starts c n ≡ Err r → straightened_answer edition starts c n file output list ≡ gives (Err (Refused r)) output list
  unfolding straightened_answer
  history-said r x = rw x

  pub marking-said : (q byte : ℕ) → history_answer edition starts c n ≡ Ok tt → file_read (known (history c n)) file ≡ refused q byte
      → straightened_answer edition starts c n file output list ≡ gives (Err (MarkingRefused (refuse q byte))) output list
  unfolding straightened_answer
  marking-said q byte x y = rw (x, y)

  pub short-said : Short edition starts c n file output list → straightened_answer edition starts c n file output list ≡ gives (Err (Refused (refuse 15 n))) output list
  unfolding straightened_answer
  short-said s = rw (s.fine, s.holds, s.room)

  module _ (m : Marking) (p : Passes edition starts c n file output list m) where
    pub judged-said : straightened_answer edition starts c n file output list ≡ judged (start_of starts) (history c n) m output list
    unfolding straightened_answer
    judged-said = rw (p.fine, p.holds, p.room)

    pub done-said : verdict (start_of starts) (history c n) (straightened (start_of starts) (history c n) m) ≡ Accepted
        → straightened_answer edition starts c n file output list
        ≡ gives (moved_to (length (marking_bytes (straightened (start_of starts) (history c n) m))) (length (moved_events (start_of starts) (history c n) m)))
        (over (marking_bytes (straightened (start_of starts) (history c n) m)) output) (over (moved_events (start_of starts) (history c n) m) list)
    unfolding judged
    done-said v = judged-said ∙ rw v

    pub broken-said : (q : Rule) (i t : ℕ) → verdict (start_of starts) (history c n) (straightened (start_of starts) (history c n) m) ≡ Breaks q i t
        → straightened_answer edition starts c n file output list ≡ gives (Err (Broken q i t)) output list
    unfolding judged
    broken-said q i t v = judged-said ∙ rw v

    -- a marking that the rules accept is written as it is
    pub same-said : ReadableFor (history c n) m → verdict (start_of starts) (history c n) m ≡ Accepted → file ≡ marking_bytes m
        → straightened_answer edition starts c n file output list ≡ gives (moved_to (length file) 0) (over file output) list
    same-said f v e =
        let s = accepted-same (start_of starts) (history c n) m f v in
        done-said (ap (verdict (start_of starts) (history c n)) s.0 ∙ v)
        ∙ (λ i. gives (moved_to (length (marking_bytes (s.0 i))) (length (s.1 i))) (over (marking_bytes (s.0 i)) output) (over (s.1 i) list))
        ∙ ap (λ (b : List ℕ). gives (moved_to (length b) 0) (over b output) list) (sym e)

  -- what a result tells
  abbrev pub Tells : Straightening → List ℕ → List ℕ → Type 0
  Tells (Ok d) o s = Done edition starts c n file output list d.length d.moved o s
  Tells (Err (Broken q i t)) o s =
      ((m : Marking) × Passes edition starts c n file output list m × (verdict (start_of starts) (history c n) (straightened (start_of starts) (history c n) m) ≡ Breaks q i t))
      × (o ≡ output) × (s ≡ list)
  Tells (Err (Refused r)) o s = ((history_answer edition starts c n ≡ Err r) ⊎ (Short edition starts c n file output list × (r ≡ refuse 15 n))) × (o ≡ output) × (s ≡ list)
  Tells (Err (MarkingRefused r)) o s =
      ((history_answer edition starts c n ≡ Ok tt) × (file_read (known (history c n)) file ≡ refused r.question r.at))
      × (o ≡ output) × (s ≡ list)

  TellsOf : Given → Type 0
  TellsOf g = Tells g.result g.output g.list

  tells : TellsOf (straightened_answer edition starts c n file output list)
  unfolding straightened_answer judged TellsOf
  tells = columns (history_answer edition starts c n) refl
    where
      rules : (m : Marking) → Passes edition starts c n file output list m → (v : Verdict) → verdict (start_of starts) (history c n) (straightened (start_of starts) (history c n) m) ≡ v
          → TellsOf (after_verdict (marking_bytes (straightened (start_of starts) (history c n) m)) (moved_events (start_of starts) (history c n) m) output list v)
      rules m p Accepted v = record { marking = m; passes = p; accepted = v; size = refl; count = refl; bytes = refl; entries = refl }
      rules m p (Breaks q i t) v = ((m, p, v), refl, refl)

      buffers : (fine : history_answer edition starts c n ≡ Ok tt) (m : Marking) (holds : file_read (known (history c n)) file ≡ content m) (b : Bool) → roomy (history c n) file output list ≡ b
          → TellsOf (cond b (judged (start_of starts) (history c n) m output list) (gives (Err (Refused (refuse 15 n))) output list))
      buffers fine m holds true r = rules m (record { fine = fine; holds = holds; room = r }) (verdict (start_of starts) (history c n) (straightened (start_of starts) (history c n) m)) refl
      buffers fine m holds false r = (inr (record { fine = fine; marking = m; holds = holds; room = r }, refl), refl, refl)

      marking : (fine : history_answer edition starts c n ≡ Ok tt) (x : FileRead) → file_read (known (history c n)) file ≡ x
          → TellsOf (after_file (start_of starts) (history c n) n file output list x)
      marking fine (content m) e = buffers fine m e (roomy (history c n) file output list) refl
      marking fine (refused q byte) e = ((fine, e), refl, refl)

      columns : (x : Checked) → history_answer edition starts c n ≡ x → TellsOf (after_columns (start_of starts) (history c n) n file output list x)
      columns (Ok tt) e = marking e (file_read (known (history c n)) file) refl
      columns (Err r) e = (inl e, refl, refl)

  pub answer-means : (r : Straightening) → (straightened_answer edition starts c n file output list).result ≡ r
      → Tells r (straightened_answer edition starts c n file output list).output (straightened_answer edition starts c n file output list).list
  unfolding TellsOf
  answer-means r e = subst (λ (x : Straightening). Tells x (straightened_answer edition starts c n file output list).output (straightened_answer edition starts c n file output list).list) e tells

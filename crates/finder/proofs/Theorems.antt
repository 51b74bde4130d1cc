-- What the finder's answer means, in both directions. `find_marking` gives `foundAnswer`, so each theorem is one about its result and its
-- output. Assumes nothing.
use Rattle.std.specs.Prelude.{Ok, Err, Some, None}
use mathlib.Core.Path.{◌≡◌, refl, sym, ap, ap₂, subst, ◌∙◌}
use mathlib.Core.Logic.{◌↔◌}
use Prim.Native.Nat.{ℕ, ◌≤◌}
use mathlib.Core.Bool.{Bool, true, false}
use mathlib.Core.List.{List, [], ◌∷◌}
use mathlib.Core.Option.{Option, none, some}
use lib.ListN.{length, take}
use Rattle.records.proofs.BufferLaws.{take-over, drop-over}
use Rattle.events.specs.declared.event.Event.{Event}
use Rattle.event_log.specs.Checked.{Checked}
use Rattle.events.specs.declared.refusal.Refusal.{Refusal}
use Rattle.events.specs.Said.{done, nothing, at_event, refuse}
use Rattle.records.specs.Bytes.{over}
use Rattle.event_log.specs.Columns.{Columns, history, hold}
use Rattle.event_log.specs.Starts.{start_of, no_starts}
use Rattle.events.specs.Questions.{Question, ask, readable}
use Rattle.event_log.specs.Answer.{events_answer}
use Rattle.event_log.proofs.ColumnLaws.{history-length}
use Rattle.events.proofs.QuestionLaws.{readable-in, readable-take}
use Rattle.event_log.proofs.StartLaws.{no-starts, first-admitted}
use Rattle.opacity.specs.Justification.{Place, Justified}
use Rattle.opacity.specs.Lowest.{LowestJustified}
use Rattle.opacity.specs.Serial.{Serial, LowestSerial}
use Rattle.opacity.specs.Marking.{marked, marking_bytes}
use Rattle.opacity.proofs.Least.{lowest-least}
use Rattle.opacity.proofs.Theorems.{lowest-unique, lowest-some, lowest-none, prefix-lowest-serial, prefix-none-serial, marked-is-readable, marked-is-accepted}
use Rattle.event_log.specs.Calls.{asked_of, then_checked}
use Rattle.event_log.proofs.CallLaws.{asked-yes, asked-no, then-then}
use Rattle.finder.specs.Answer.{Finding, Given, gives, said, Passed, decided, prefix_refusal, call_refusal, find_refusal, lowest_marking, found_answer, first_edition_refusal, first_edition_answer}
use Rattle.finder.specs.Words.{Passes, LowestSize, Written}
use Rattle.finder.proofs.AnswerLaws.{said-marking, said-none, said-refused, passes, decided-refused, decided-marking, decided-none}
use Rattle.finder.proofs.AnswerLaws.{marking-e, none-e, refused-e, passed, marking-some, some-marking, none-marking, marking-none}

-- a call: edition, start values, columns, count, prefix length, and the output as it was
module _ (edition : ℕ) (starts : List ℕ) (c : Columns) (count prefix : ℕ) (output : List ℕ) where
  -- the events judged: the first `prefix` of the first `count`, with the start values of the whole
  abbrev pub judged : List Event
  judged = take prefix (history c count)

  inside : Passes edition starts c count prefix output → prefix ≤ length (history c count)
  inside x = rw (history-length c count) (passed edition starts c count prefix (length output) x).inside

  whole-readable : Passes edition starts c count prefix output → readable (history c count) ≡ true
  whole-readable x = readable-in edition (history c count) (passed edition starts c count prefix (length output) x).readable

  judged-readable : Passes edition starts c count prefix output → readable judged ≡ true
  judged-readable x = readable-take (history c count) prefix (inside x) (whole-readable x)

  -- A question refuses exactly where it is the first that says no, and then the output is as it was.
  pub refused-exactly : (r : Refusal)
      → ((found_answer edition starts c count prefix output).result ≡ Err r) ↔ (find_refusal edition starts c count prefix (length output) ≡ Err r)
  unfolding found_answer
  refused-exactly r = (
    λ x. (refused-e _ _ output r x).0,
    λ x. ap (λ (g : Given). g.result) (sym (decided-refused (lowest_marking (start_of starts) judged) output x)),
  )

  pub refused-unchanged : (r : Refusal) → (found_answer edition starts c count prefix output).result ≡ Err r → (found_answer edition starts c count prefix output).output ≡ output
  unfolding found_answer
  refused-unchanged r x = (refused-e _ _ output r x).1

  -- A marking is found exactly where the prefix has a justification,
  pub marking-exactly : Passes edition starts c count prefix output
      → ((n : ℕ) × ((found_answer edition starts c count prefix output).result ≡ Ok (Some n))) ↔ ((J : List Place) × Justified (start_of starts) judged J)
  unfolding found_answer
  marking-exactly x = (
    λ w.
        let m = marking-e _ _ output w.0 w.1 in
        let s = marking-some (start_of starts) judged m.found in
        (s.0, ((lowest-some (start_of starts) judged (judged-readable x) s.0).0 s.1).justifies),
    λ w.
        let l = lowest-least (start_of starts) judged w.1 in
        let g = decided-marking _ output _ x (some-marking (start_of starts) judged l.1) refl refl in
        (length (marking_bytes (marked judged l.0)), ap (λ (v : Given). v.result) (sym g)),
  )

  -- and none exactly where it has none; with none the output is as it was.
  pub none-exactly : Passes edition starts c count prefix output
      → ((found_answer edition starts c count prefix output).result ≡ Ok None) ↔ ((J : List Place) → Justified (start_of starts) judged J → ⊥)
  unfolding found_answer
  none-exactly x =
      let e = lowest-none (start_of starts) judged (judged-readable x) in (
        λ w. e.0 (marking-none (start_of starts) judged (none-e _ _ output w).1),
        λ f. ap (λ (v : Given). v.result) (sym (decided-none output x (none-marking (start_of starts) judged (e.1 f)))),
      )

  pub none-unchanged : (found_answer edition starts c count prefix output).result ≡ Ok None → (found_answer edition starts c count prefix output).output ≡ output
  unfolding found_answer
  none-unchanged x = (none-e _ _ output x).2

  -- The lowest justification's marking is what is written, from the output's first byte, and its length is what is returned.
  pub lowest-written : Passes edition starts c count prefix output → (J : List Place) → LowestJustified (start_of starts) judged J
      → found_answer edition starts c count prefix output ≡ gives (Ok (Some (length (marking_bytes (marked judged J))))) (over (marking_bytes (marked judged J)) output)
  unfolding found_answer
  lowest-written x J j = sym (decided-marking _ output _ x (some-marking (start_of starts) judged ((lowest-some (start_of starts) judged (judged-readable x) J).1 j)) refl refl)

  -- What is written is the marking of the lowest justification; it is readable for the prefix, and the rules accept it.
  pub written : (n : ℕ) → (found_answer edition starts c count prefix output).result ≡ Ok (Some n) → Written edition starts c count prefix output n
  unfolding found_answer
  written n x =
      let m = marking-e _ _ output n x in
      let s = marking-some (start_of starts) judged m.found in
      let r = judged-readable m.passes in
      let l = (lowest-some (start_of starts) judged r s.0).0 s.1 in
      let k : length m.bytes ≡ n = sym m.size in
      record {
        passes = m.passes;
        order = s.0;
        lowest = l;
        bytes = rw m.output (take-over m.bytes output n k ∙ s.2);
        behind = rw m.output (drop-over m.bytes output n k);
        readable = marked-is-readable (start_of starts) judged r s.0 l.justifies;
        accepted = marked-is-accepted (start_of starts) judged r s.0 l.justifies;
      }

  -- The same in the words of a machine that runs the transactions one at a time: the marking is that of the lowest order that explains
  -- the prefix, and none is found exactly where no order explains it.
  pub lowest-serial-written : Passes edition starts c count prefix output → (J : List Place) → LowestSerial (start_of starts) judged J
      → found_answer edition starts c count prefix output ≡ gives (Ok (Some (length (marking_bytes (marked judged J))))) (over (marking_bytes (marked judged J)) output)
  unfolding found_answer
  lowest-serial-written x J s =
      let e = (prefix-lowest-serial (start_of starts) (history c count) (whole-readable x) prefix (inside x) J).1 s in
      sym (decided-marking _ output _ x (some-marking (start_of starts) judged e) refl refl)

  pub none-serial : Passes edition starts c count prefix output
      → ((found_answer edition starts c count prefix output).result ≡ Ok None) ↔ ((K : List Place) → Serial (start_of starts) judged K → ⊥)
  unfolding found_answer
  none-serial x =
      let e = prefix-none-serial (start_of starts) (history c count) (whole-readable x) prefix (inside x) in (
        λ w. e.0 (marking-none (start_of starts) judged (none-e _ _ output w).1),
        λ f. ap (λ (v : Given). v.result) (sym (decided-none output x (none-marking (start_of starts) judged (e.1 f)))),
      )

  -- What the finder says, for every call: the length of the marking of the lowest justification exactly where no question says no and there
  -- is one,
  pub found-said : (n : ℕ) → (said (found_answer edition starts c count prefix output).result ≡ done (n ∷ []))
      ↔ (Passed edition starts c count prefix (length output) × LowestSize starts c count prefix n)
  unfolding said
  found-said n = (
    λ x.
        let w = written n (said-marking _ n x) in
        let e = lowest-written w.passes w.order w.lowest in
        let k : ◌≡◌ {A = Finding} (Ok (Some (length (marking_bytes (marked judged w.order))))) (Ok (Some n)) = ap (λ (g : Given). g.result) (sym e) ∙ said-marking _ n x in
        (passed edition starts c count prefix (length output) w.passes, record { order = w.order; lowest = w.lowest; size = cc }),
    λ w.
        ap (λ (g : Given). said g.result) (lowest-written (passes edition starts c count prefix (length output) w.0) w.1.order w.1.lowest)
        ∙ ap (λ (i : ℕ). done (i ∷ [])) w.1.size,
  )

  -- none exactly where no question says no and there is none,
  pub none_said : (said (found_answer edition starts c count prefix output).result ≡ nothing)
      ↔ (Passed edition starts c count prefix (length output) × ((J : List Place) → Justified (start_of starts) judged J → ⊥))
  unfolding found_answer said
  none_said = (
    λ x.
        let w = none-e _ _ output (said-none _ x) in
        (passed edition starts c count prefix (length output) w.0, (none-exactly w.0).0 (said-none _ x)),
    λ w. ap said ((none-exactly (passes edition starts c count prefix (length output) w.0)).1 w.1),
  )

  -- and a question with its event exactly where it is the first that says no.
  pub refused-said : (q e : ℕ) → (said (found_answer edition starts c count prefix output).result ≡ at_event q e)
      ↔ (find_refusal edition starts c count prefix (length output) ≡ Err (refuse q e))
  unfolding said
  refused-said q e = (
    λ x. (refused-exactly (refuse q e)).0 (said-refused _ q e x),
    λ x. ap said ((refused-exactly (refuse q e)).1 x),
  )

refusal-same : (edition : ℕ) (starts : List ℕ) (c d : Columns) (count prefix : ℕ) {m n : ℕ} → hold c count ≡ hold d count → history c count ≡ history d count → m ≡ n
    → find_refusal edition starts c count prefix m ≡ find_refusal edition starts d count prefix n
unfolding find_refusal call_refusal
refusal-same edition starts c d count prefix e f g = rw (e, f, g)

result-same : (x : Checked) (m : Option (List ℕ)) (o p : List ℕ) → (decided x m o).result ≡ (decided x m p).result
unfolding decided
result-same (Err r) m o p = refl
result-same (Ok tt) none o p = refl
result-same (Ok tt) (some bytes) o p = refl

-- What stands in the columns past the count, and what the output held, make no difference: columns that hold the same events below the
-- count, and an output of the same length, give the same result.
pub past-count : (edition : ℕ) (starts : List ℕ) (c d : Columns) (count prefix : ℕ) (output before : List ℕ)
    → hold c count ≡ hold d count → history c count ≡ history d count → length output ≡ length before
    → (found_answer edition starts c count prefix output).result ≡ (found_answer edition starts d count prefix before).result
unfolding found_answer
past-count edition starts c d count prefix output before e f g =
    ap₂ (λ (x : Checked) (m : Option (List ℕ)). (decided x m output).result) (refusal-same edition starts c d count prefix e f g)
    (ap (λ (h : List Event). lowest_marking (start_of starts) (take prefix h)) f)
    ∙ result-same (find_refusal edition starts d count prefix (length before)) (lowest_marking (start_of starts) (take prefix (history d count))) output before

-- and the same bytes, where they are a marking of length n
pub past-count-bytes : (edition : ℕ) (starts : List ℕ) (c d : Columns) (count prefix : ℕ) (output before : List ℕ) (n : ℕ)
    → hold c count ≡ hold d count → history c count ≡ history d count → length output ≡ length before
    → (found_answer edition starts c count prefix output).result ≡ Ok (Some n)
    → take n (found_answer edition starts c count prefix output).output ≡ take n (found_answer edition starts d count prefix before).output
past-count-bytes edition starts c d count prefix output before n e f g x =
    let v = written edition starts c count prefix output n x in
    let w = written edition starts d count prefix before n (sym (past-count edition starts c d count prefix output before e f g) ∙ x) in
    let h : take prefix (history c count) ≡ take prefix (history d count) = ap (take prefix) f in
    let l : LowestJustified (start_of starts) (take prefix (history c count)) w.order = subst (λ (y : List Event). LowestJustified (start_of starts) y w.order) (sym h) w.lowest in
    let o : v.order ≡ w.order =
    lowest-unique (start_of starts) (take prefix (history c count)) (judged-readable edition starts c count prefix output v.passes) v.order w.order v.lowest l in
    v.bytes ∙ (ap₂ (λ (y : List Event) (J : List Place). marking_bytes (marked y J)) h o ∙ sym w.bytes)

-- ---- edition 1

-- a question that says yes may be left out
left_out : (count n : ℕ) (a b : Bool) (q : Question) → b ≡ true → asked_of count (ask 17 a ∷ ask n b ∷ q ∷ []) ≡ asked_of count (ask 17 a ∷ q ∷ [])
left_out count n true b q e = asked-yes count 17 _ _ refl ∙ asked-yes count n b _ e ∙ sym (asked-yes count 17 _ _ refl)
left_out count n false b q e = asked-no count 17 _ _ refl ∙ sym (asked-no count 17 _ _ refl)

-- A history of edition 1 is answered as it was before there were start values.
pub first-edition : (c : Columns) (count prefix : ℕ) (output : List ℕ) → found_answer 1 no_starts c count prefix output ≡ first_edition_answer c count prefix output
unfolding found_answer find_refusal call_refusal first_edition_answer first_edition_refusal
first-edition c count prefix output =
    ap₂ (λ (x : Checked) (s : ℕ → ℕ). decided x (lowest_marking s (take prefix (history c count))) output) asked no-starts
  where
    asked : find_refusal 1 no_starts c count prefix (length output) ≡ first_edition_refusal c count prefix (length output)
    asked =
        ap (λ (x : Checked). then_checked (then_checked x (events_answer 1 (history c count))) (prefix_refusal (take prefix (history c count)) count (length output)))
        (left_out count 3 _ _ _ first-admitted)
        ∙ then-then _ _ _

-- What the scan's answer means, in both directions. `scan_history` gives `scanAnswer`, so each theorem is one about its result.
-- Assumes nothing.
use Rattle.std.specs.Prelude.{Ok, Err}
use mathlib.Core.Path.{◌≡◌, sym, ap, ap₂, ◌∙◌}
use mathlib.Core.Logic.{◌↔◌}
use Prim.Native.Nat.{ℕ}
use mathlib.Core.List.{List, []}
use lib.ListN.{length}
use Rattle.event_log.specs.Checked.{Checked}
use Rattle.events.specs.declared.refusal.Refusal.{Refusal}
use Rattle.events.specs.Said.{done, faulted, at_event, refuse}
use Rattle.event_log.specs.Columns.{Columns, history, hold}
use Rattle.event_log.specs.Starts.{start_of, no_starts}
use Rattle.event_log.specs.Answer.{history_answer}
use Rattle.event_log.proofs.ColumnLaws.{history-length}
use Rattle.event_log.proofs.StartLaws as start-laws
use Rattle.opacity.specs.declared.verdict.Cause.{Cause}
use Rattle.opacity.specs.declared.verdict.Cause.TheVariants.{Other}
use Rattle.opacity.specs.Scan.{Scanned, opaque, fault, cause_number, scan, AllJustified, FaultsAt}
use Rattle.opacity.specs.Serial.{AllSerial}
use Rattle.opacity.proofs.Theorems.{opaque-iff, faulted-iff, opaque-iff-serial, cause-never-four}
use Rattle.event_log.specs.Calls.{then_checked}
use Rattle.scan.specs.Answer.{said, Passes, Passed, size_refusal, scan_refusal, decided, scan_answer, first_edition_answer}
use Rattle.scan.proofs.AnswerLaws.{said-opaque, said-fault, said-refused, passes, decided-refused, decided-scanned, scanned-e, refused-e, passed, passed-readable}

-- a call: edition, start values, columns and count
module _ (edition : ℕ) (starts : List ℕ) (c : Columns) (count : ℕ) where
  -- the history has as many events as the count says, so its prefixes are those of 0 to count events
  pub whole : length (history c count) ≡ count
  whole = history-length c count

  -- A question refuses exactly where it is the first that says no.
  pub refused-exactly : (r : Refusal) → (scan_answer edition starts c count ≡ Err r) ↔ (scan_refusal edition starts c count ≡ Err r)
  unfolding scan_answer
  refused-exactly r = (λ x. refused-e _ _ r x, λ x. sym (decided-refused (scan (start_of starts) (history c count)) x))

  -- The answer is what the scan of the history says, where no question refuses.
  scanned-exactly : Passes edition starts c count → (s : Scanned) → (scan_answer edition starts c count ≡ Ok s) ↔ (scan (start_of starts) (history c count) ≡ s)
  unfolding scan_answer
  scanned-exactly x s = (λ w. (scanned-e _ _ s w).1, λ e. sym (decided-scanned (scan (start_of starts) (history c count)) x) ∙ ap Ok e)

  -- The answer is opaque exactly where every prefix has a justification, each with the start values of the whole.
  pub opaque-exactly : Passes edition starts c count → (scan_answer edition starts c count ≡ Ok opaque) ↔ AllJustified (start_of starts) (history c count)
  opaque-exactly x =
      let s = scanned-exactly x opaque in
      let o = opaque-iff (start_of starts) (history c count) (passed-readable edition starts c count x) in
      (λ w. o.0 (s.0 w), λ f. s.1 (o.1 f))

  -- The answer is faulted at e exactly where the prefix that ends with e has no justification and every shorter one has; the cause is
  -- that of e's kind.
  pub faulted-exactly : Passes edition starts c count → (e : ℕ) (w : Cause) → (scan_answer edition starts c count ≡ Ok (fault e w)) ↔ FaultsAt (start_of starts) (history c count) e w
  faulted-exactly x e w =
      let s = scanned-exactly x (fault e w) in
      let f = faulted-iff (start_of starts) (history c count) (passed-readable edition starts c count x) e w in
      (λ y. f.0 (s.0 y), λ g. s.1 (f.1 g))

  -- Opaque in the words of a machine that runs the transactions one at a time.
  pub opaque-serial : Passes edition starts c count → (scan_answer edition starts c count ≡ Ok opaque) ↔ AllSerial (start_of starts) (history c count)
  opaque-serial x =
      let s = scanned-exactly x opaque in
      let o = opaque-iff-serial (start_of starts) (history c count) (passed-readable edition starts c count x) in
      (λ w. o.0 (s.0 w), λ f. s.1 (o.1 f))

  -- What the scan says, for every call: opaque exactly where no question says no and every prefix has a justification,
  pub opaque-said : (said (scan_answer edition starts c count) ≡ done []) ↔ (Passed edition starts c count × AllJustified (start_of starts) (history c count))
  unfolding scan_answer said
  opaque-said = (
    λ x.
        let o = said-opaque _ x in
        let p = (scanned-e _ _ _ o).0 in
        (passed edition starts c count p, (opaque-exactly p).0 o),
    λ w. ap said ((opaque-exactly (passes edition starts c count w.0)).1 w.1),
  )

  -- event e and the number of its cause exactly where no question says no and the prefix that ends with e is the first without one,
  pub faulted-said : (e w : ℕ) → (said (scan_answer edition starts c count) ≡ faulted e w)
      ↔ (Passed edition starts c count × ((k : Cause) × ((cause_number k ≡ w) × FaultsAt (start_of starts) (history c count) e k)))
  unfolding scan_answer said
  faulted-said e w = (
    λ x.
        let o = said-fault _ e w x in
        let p = (scanned-e _ _ _ o.1.1).0 in
        (passed edition starts c count p, (o.0, (o.1.0, (faulted-exactly p e o.0).0 o.1.1))),
    λ f.
        ap said ((faulted-exactly (passes edition starts c count f.0) e f.1.0).1 f.1.1.1)
        ∙ ap (faulted e) f.1.1.0,
  )

  -- and a question with its event exactly where it is the first that says no.
  pub refused-said : (q e : ℕ) → (said (scan_answer edition starts c count) ≡ at_event q e) ↔ (scan_refusal edition starts c count ≡ Err (refuse q e))
  unfolding said
  refused-said q e = (
    λ x. (refused-exactly (refuse q e)).0 (said-refused _ q e x),
    λ x. ap said ((refused-exactly (refuse q e)).1 x),
  )

  -- The last cause, the paper's 4, never comes: a begin, a call, a returned write and a lone write leave a justification.
  pub no-cause-four : (e : ℕ) → scan_answer edition starts c count ≡ Ok (fault e Other) → ⊥
  unfolding scan_answer
  no-cause-four e x =
      let s = scanned-e _ _ _ x in
      cause-never-four (start_of starts) (history c count) (passed-readable edition starts c count s.0) e s.1

-- What stands in the columns past the count makes no difference: columns that hold the same events below the count give the same answer.
pub past-count : (edition : ℕ) (starts : List ℕ) (c d : Columns) (count : ℕ) → hold c count ≡ hold d count → history c count ≡ history d count
    → scan_answer edition starts c count ≡ scan_answer edition starts d count
unfolding scan_answer scan_refusal history_answer
past-count edition starts c d count e f = rw (e, f)

-- A history of edition 1 is answered as it was before there were start values.
pub first-edition : (c : Columns) (count : ℕ) → scan_answer 1 no_starts c count ≡ first_edition_answer c count
unfolding scan_answer scan_refusal first_edition_answer
first-edition c count =
    ap₂ (λ (x : Checked) (s : ℕ → ℕ). decided (then_checked x (size_refusal (history c count) count)) (scan s (history c count))) (start-laws.first-edition c count) start-laws.no-starts

-- Laws of the scan's answer and of its questions.
-- Assumes nothing.
use Rattle.std.specs.Prelude.{Result, Ok, Err}
use mathlib.Core.Path.{◌≡◌, refl, sym, ap, ◌∙◌}
use Prim.Native.Nat.{ℕ, ◌≤◌, ◌<◌}
use native.Mathlib.Omega.{arith}
use mathlib.Core.Bool.{Bool, true, false}
use mathlib.Core.List.{List, [], ◌∷◌}
use lib.Dec.{leb}
use lib.ListN.{length}
use borrow.Author.Tests.{le-leb, lt-leb, leb-true}
use Rattle.events.specs.declared.event.Event.{Event}
use Rattle.event_log.specs.Checked.{Checked, asked, answered}
use Rattle.events.specs.declared.refusal.Refusal.{Refusal}
use Rattle.events.specs.Said.{done, faulted, at_event, refuse}
use Rattle.events.specs.Events.{begins}
use Rattle.event_log.specs.Columns.{Columns, history}
use Rattle.event_log.specs.Starts.{start_of}
use Rattle.events.specs.Questions.{ask, readable}
use Rattle.event_log.specs.Answer.{history_answer}
use Rattle.event_log.proofs.ColumnLaws.{hold-e, hold-i, history-length}
use Rattle.event_log.proofs.StartLaws.{fine, fine-answer}
use Rattle.events.proofs.QuestionLaws.{readable-in}
use Rattle.event_log.proofs.AnswerLaws.{columns-readable, readable-columns}
use Rattle.opacity.specs.declared.verdict.Cause.{Cause}
use Rattle.opacity.specs.declared.verdict.Cause.TheVariants.{Read, Commit, Abort, Other}
use Rattle.opacity.specs.Scan.{Scanned, cause_number, opaque, fault, scan}
use Rattle.event_log.specs.Calls.{asked_of}
use Rattle.event_log.proofs.CallLaws.{asked-none, asked-yes, asked-no, asked-e, then-readable, then-refused, then-e}
use Rattle.scan.specs.Answer.{Scanning, Passed, scanned_said, said, size_refusal, scan_refusal, decided, scan_answer}
use Rattle.scan.specs.Logs.{scan_of}

-- ---- what is decided

pub decided-refused : {x : Checked} {r : Refusal} (s : Scanned) → x ≡ Err r → Err r ≡ decided x s
unfolding decided
decided-refused s x = rw x

pub decided-scanned : {x : Checked} (s : Scanned) → x ≡ Ok tt → Ok s ≡ decided x s
unfolding decided
decided-scanned s x = rw x

pub scanned-e : (x : Checked) (s t : Scanned) → decided x s ≡ Ok t → (x ≡ Ok tt) × (s ≡ t)
unfolding decided
scanned-e (Err r) s t w = cc
scanned-e (Ok tt) s t w = (refl, cc)

pub refused-e : (x : Checked) (s : Scanned) (r : Refusal) → decided x s ≡ Err r → x ≡ Err r
unfolding decided
refused-e (Err p) s r w = cc
refused-e (Ok tt) s r w = cc

-- ---- what is said

-- each cause has a number of its own
same_cause : (c d : Cause) → cause_number c ≡ cause_number d → c ≡ d
same_cause Read Read e = refl
same_cause Read Commit e = absurd (omega (arith, e))
same_cause Read Abort e = absurd (omega (arith, e))
same_cause Read Other e = absurd (omega (arith, e))
same_cause Commit Read e = absurd (omega (arith, e))
same_cause Commit Commit e = refl
same_cause Commit Abort e = absurd (omega (arith, e))
same_cause Commit Other e = absurd (omega (arith, e))
same_cause Abort Read e = absurd (omega (arith, e))
same_cause Abort Commit e = absurd (omega (arith, e))
same_cause Abort Abort e = refl
same_cause Abort Other e = absurd (omega (arith, e))
same_cause Other Read e = absurd (omega (arith, e))
same_cause Other Commit e = absurd (omega (arith, e))
same_cause Other Abort e = absurd (omega (arith, e))
same_cause Other Other e = refl

pub said-scanned : (x : Scanning) (s : Scanned) → said x ≡ scanned_said s → x ≡ Ok s
unfolding said
said-scanned (Ok (Ok u)) (Ok v) k = refl
said-scanned (Ok (Err f)) (Err g) k =
    let a : f.event ≡ g.event = cc in
    let b : cause_number f.cause ≡ cause_number g.cause = cc in
    let c : f.cause ≡ g.cause = same_cause f.cause g.cause b in
    λ i. Ok (fault (a i) (c i))
said-scanned (Ok (Ok u)) (Err g) k = cc
said-scanned (Ok (Err f)) (Ok v) k = cc
said-scanned (Err r) (Ok v) k = cc
said-scanned (Err r) (Err g) k = cc

pub said-opaque : (x : Scanning) → said x ≡ done [] → x ≡ Ok opaque
unfolding said
said-opaque (Ok (Ok tt)) k = refl
said-opaque (Ok (Err f)) k = cc
said-opaque (Err r) k = cc

pub said-fault : (x : Scanning) (e w : ℕ) → said x ≡ faulted e w → (c : Cause) × ((cause_number c ≡ w) × (x ≡ Ok (fault e c)))
unfolding said
said-fault (Ok (Ok tt)) e w k = cc
said-fault (Ok (Err f)) e w k =
    let a : f.event ≡ e = cc in
    let b : cause_number f.cause ≡ w = cc in
    (f.cause, (b, λ i. Ok (fault (a i) f.cause)))
said-fault (Err r) e w k = cc

pub said-refused : (x : Scanning) (q e : ℕ) → said x ≡ at_event q e → x ≡ Err (refuse q e)
unfolding said
said-refused (Ok (Ok tt)) q e k = cc
said-refused (Ok (Err f)) q e k = cc
said-refused (Err r) q e k =
    let a : r.question ≡ q = cc in
    let b : r.at ≡ e = cc in
    λ i. Err (refuse (a i) (b i))

-- ---- the questions

module _ (h : List Event) (count : ℕ) where
  pub refused-31 : 10 < begins h → size_refusal h count ≡ Err (refuse 31 count)
  unfolding size_refusal
  refused-31 l = asked-no count 31 _ _ (lt-leb (begins h) 10 l)

  pub passes-31 : begins h ≤ 10 → size_refusal h count ≡ Ok tt
  unfolding size_refusal
  passes-31 l = asked-yes count 31 _ _ (le-leb (begins h) 10 l) ∙ asked-none count

  pub passes-31-e : size_refusal h count ≡ Ok tt → begins h ≤ 10
  unfolding size_refusal
  passes-31-e x = leb-true _ _ (asked-e count 31 _ _ x).0

module _ (edition : ℕ) (starts : List ℕ) (c : Columns) (count : ℕ) where
  pub passed : scan_refusal edition starts c count ≡ Ok tt → Passed edition starts c count
  unfolding scan_refusal
  passed x =
      let a = then-e _ _ x in
      let f = fine edition starts c count a.0 in
      let b = columns-readable edition c count f.columns in
      record { held = hold-i c count b.0; admitted = f.admitted; readable = b.1; few = passes-31-e (history c count) count a.1 }

  pub passed-readable : scan_refusal edition starts c count ≡ Ok tt → readable (history c count) ≡ true
  passed-readable x = readable-in edition (history c count) (passed x).readable

  pub passes : Passed edition starts c count → scan_refusal edition starts c count ≡ Ok tt
  unfolding scan_refusal
  passes p =
      then-readable _ (fine-answer edition starts c count p.admitted (readable-columns edition c count (hold-e c count p.held) p.readable))
      ∙ passes-31 (history c count) count p.few

-- 31 is one question
module _ (starts : List ℕ) (h : List Event) {n : ℕ} (counts : n ≡ begins h) where
  asked-once : asked (leb n 10) 31 (length h) ≡ size_refusal h (length h)
  unfolding size_refusal
  asked-once = rw counts (go (leb (begins h) 10) refl)
    where
      go : (b : Bool) → leb (begins h) 10 ≡ b → asked b 31 (length h) ≡ asked_of (length h) (ask 31 (leb (begins h) 10) ∷ [])
      go true z = sym (asked-yes (length h) 31 _ [] z ∙ asked-none (length h))
      go false z = sym (asked-no (length h) 31 _ [] z)

  pub scan-refused : {r : Refusal} → ◌≡◌ {A = Checked} (Err r) (asked (leb n 10) 31 (length h)) → ◌≡◌ {A = Scanning} (Err r) (scan_of starts h)
  unfolding scan_of
  scan-refused e = decided-refused _ (sym (e ∙ asked-once))

  pub scan-passed : {u : Unit {0}} → ◌≡◌ {A = Checked} (Ok u) (asked (leb n 10) 31 (length h)) → ◌≡◌ {A = Scanning} (Ok (scan (start_of starts) h)) (scan_of starts h)
  unfolding scan_of
  scan-passed e = decided-scanned _ (sym (e ∙ asked-once))

-- the scan of a history behind a door
module _ (edition : ℕ) (starts : List ℕ) (c : Columns) (count : ℕ) where
  scan-within : (x : Checked) → history_answer edition starts c count ≡ x → (y : Result Scanning Refusal) → y ≡ answered x (scan_of starts (history c count))
      → {r : Refusal} {s : Scanning} → (y ≡ Err r → ◌≡◌ {A = Scanning} (Err r) (scan_answer edition starts c count)) × (y ≡ Ok s → s ≡ scan_answer edition starts c count)
  unfolding scan_answer scan_refusal scan_of
  scan-within (Err q) e y a {r} {s} = (λ z. let same : r ≡ q = cc in ap Err same ∙ decided-refused _ (then-refused _ e), λ z. cc)
  scan-within (Ok u) e y a {r} {s} = (
    λ z. cc,
    λ z.
        let same : s ≡ scan_of starts (history c count) = cc in
        same
        ∙ (rw (history-length c count)
        (ap (λ (x : Checked). decided x (scan (start_of starts) (history c count))) (sym (then-readable _ e)))),
  )

  pub door-refused : {y : Result Scanning Refusal} {r : Refusal} → y ≡ answered (history_answer edition starts c count) (scan_of starts (history c count)) → y ≡ Err r
      → ◌≡◌ {A = Scanning} (Err r) (scan_answer edition starts c count)
  door-refused {y} {r} a = (scan-within _ refl y a {r = r} {s = Err r}).0

  pub door-passed : {y : Result Scanning Refusal} {s : Scanning} → y ≡ answered (history_answer edition starts c count) (scan_of starts (history c count)) → y ≡ Ok s
      → s ≡ scan_answer edition starts c count
  door-passed {y} {s} a = (scan-within _ refl y a {r = refuse 0 0} {s = s}).1

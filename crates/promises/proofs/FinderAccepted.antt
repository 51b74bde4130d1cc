-- The checker accepts what the finder writes (the last words of demand 3): given the same edition, start values and columns, the prefix
-- length as the count, and exactly the bytes of the returned length, its answer is accepted.
-- Assumes nothing.
use Rattle.std.specs.Prelude.{Ok, Some}
use Prim.Native.Nat.{ℕ, ◌≤◌}
use native.Mathlib.Omega.{arith}
use mathlib.Core.Path.{◌≡◌, sym, ap, ◌∙◌, subst}
use mathlib.Core.List.{List}
use lib.ListN.{length, take}
use Rattle.events.specs.declared.event.Event.{Event}
use Rattle.event_log.specs.Columns.{Columns, history}
use Rattle.event_log.specs.Starts.{start_of}
use Rattle.event_log.specs.Answer.{history_answer}
use Rattle.event_log.proofs.ColumnLaws.{Held, hold-e, history-take}
use Rattle.event_log.proofs.AnswerLaws.{readable-columns, readable-fewer}
use Rattle.event_log.proofs.StartLaws.{fine-answer}
use Rattle.opacity.specs.declared.verdict.Verdict.TheVariants.{Accepted}
use Rattle.opacity.specs.Marking.{Marking, ReadableFor, marked, verdict}
use Rattle.finder.specs.Answer.{Finding}
use Rattle.finder.specs.Answer.{Passed, found_answer}
use Rattle.finder.proofs.AnswerLaws.{passed}
use Rattle.finder.specs.Words.{Written}
use Rattle.finder.proofs.Theorems.{written}
use Rattle.marking.specs.Answer.{verdict_answer}
use Rattle.marking.proofs.Theorems.{bytes-accepted}

pub found-accepted : (edition : ℕ) (starts : List ℕ) (c : Columns) (count prefix : ℕ) (output : List ℕ) (n : ℕ) → (found_answer edition starts c count prefix output).result ≡ Ok (Some n)
    → verdict_answer edition starts c prefix (take n (found_answer edition starts c count prefix output).output) ≡ Ok Accepted
found-accepted edition starts c count prefix output n x =
    let w : Written edition starts c count prefix output n = written edition starts c count prefix output n x in
    let p : Passed edition starts c count prefix (length output) = passed edition starts c count prefix (length output) w.passes in
    let k : Held c count = hold-e c count p.held in
    let i : prefix ≤ count = p.inside in
    let held : Held c prefix = record {
      kinds = omega (arith, k.kinds);
      transactions = omega (arith, k.transactions);
      registers = omega (arith, k.registers);
      values = omega (arith, k.values);
      threads = omega (arith, k.threads);
    } in
    let fine : history_answer edition starts c prefix ≡ Ok tt =
    fine-answer edition starts c prefix p.admitted (readable-columns edition c prefix held (readable-fewer edition c count prefix i p.readable)) in
    let e : take prefix (history c count) ≡ history c prefix = history-take c count prefix i in
    let m : Marking = marked (take prefix (history c count)) w.order in
    let r : ReadableFor (history c prefix) m = subst (λ (h : List Event). ReadableFor h m) e w.readable in
    let v : verdict (start_of starts) (history c prefix) m ≡ Accepted = sym (ap (λ (h : List Event). verdict (start_of starts) h m) e) ∙ w.accepted in
    ap (verdict_answer edition starts c prefix) w.bytes ∙ bytes-accepted edition starts c prefix m fine r v

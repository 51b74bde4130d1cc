-- The theorems about the checker's answer, gathered: each says what the paper says. The words are those of specs/ here and in `opacity`;
-- the edition and the start values are the caller's, whichever they are.
-- Assumes nothing.
use Prim.Native.Nat.{ℕ}
use mathlib.Core.Path.{◌≡◌, refl, sym, ap, ◌∙◌}
use mathlib.Core.Logic.{◌↔◌}
use mathlib.Core.Bool.{true}
use mathlib.Core.List.{List, []}
use Rattle.std.specs.Prelude.{Ok, Err}
use Rattle.events.specs.declared.refusal.Refusal.{Refusal}
use Rattle.event_log.specs.Checked.{Checked}
use Rattle.events.specs.Said.{done, broken, at_event, at_byte, refuse}
use Rattle.events.specs.declared.event.Event.{Event}
use Rattle.records.specs.Bytes.{Bytes}
use Rattle.event_log.specs.Columns.{Columns, history}
use Rattle.event_log.specs.Starts.{start_of, no_starts}
use Rattle.events.specs.Questions.{readable}
use Rattle.event_log.specs.Answer.{history_answer}
use Rattle.event_log.proofs.StartLaws.{no-starts, first-edition as first-asked, history-readable}
use Rattle.opacity.specs.declared.verdict.Rule.{Rule}
use Rattle.opacity.specs.Justification.{Justified}
use Rattle.opacity.specs.declared.verdict.Verdict.{Verdict}
use Rattle.opacity.specs.declared.verdict.Verdict.TheVariants.{Accepted, Broken}
use Rattle.opacity.specs.Marking.{Marking, ReadableFor, marking_bytes, verdict, rule_number, named_event, named_transaction}
use Rattle.opacity.specs.Verdicts.{AllHold, RuleD, FirstBroken}
use Rattle.opacity.proofs.VerdictLaws.{same-rule}
use Rattle.opacity.proofs.Theorems.{accepted-iff-rules, accepted-iff-justified, broken-iff-first}
use Rattle.marking.specs.declared.check.Unchecked.TheVariants.{HistoryRefused, MarkingRefused}
use Rattle.marking_reader.specs.File.{known, FileRead, content, refused, file_read}
use Rattle.marking.specs.Answer.{Checking, ruled, after_columns, verdict_answer, first_edition_answer, verdict_said, said, Justifying, Breaking}
use Rattle.marking_reader.proofs.ContentLaws.{content-readable}
use Rattle.marking_reader.proofs.ReadBack.{bytes-content}
use Rattle.marking_reader.proofs.WriteBack.{content-bytes}

-- ---- the file

-- A marking file is readable for a readable history exactly if it is the bytes of a content that is readable for it: what is read is
-- that content, and those bytes are what a marking writer writes.
pub readable-iff-bytes : (h : List Event) → readable h ≡ true → (file : List ℕ) → Bytes file → (m : Marking)
    → (file_read (known h) file ≡ content m) ↔ (ReadableFor h m × (file ≡ marking_bytes m))
readable-iff-bytes h r file by m = (
  λ e. (content-readable h file m r e, content-bytes (known h) file by m e),
  λ w. ap (file_read (known h)) w.1 ∙ bytes-content h m r w.0,
)

-- ---- which answer comes when

module _ (edition : ℕ) (starts : List ℕ) (c : Columns) (n : ℕ) (file : List ℕ) where
  -- 17, 3 of the start values or an event's own question comes before all else, with its event; for 17 and 3 that is the count.
  pub history-refused : (r : Refusal)
      → (verdict_answer edition starts c n file ≡ Err (HistoryRefused r)) ↔ (history_answer edition starts c n ≡ Err r)
  unfolding verdict_answer
  history-refused r = (go (history_answer edition starts c n), λ e. rw e)
    where
      not-ruled : (x : FileRead) → ruled (start_of starts) (history c n) x ≡ Err (HistoryRefused r) → ⊥
      not-ruled (content m) d = cc
      not-ruled (refused a b) d = cc

      go : (x : Checked) → after_columns (start_of starts) (history c n) file x ≡ Err (HistoryRefused r) → x ≡ Err r
      go (Ok tt) d = absurd (not-ruled (file_read (known (history c n)) file) d)
      go (Err a) d = cc

  module _ (fine : history_answer edition starts c n ≡ Ok tt) where
    after : verdict_answer edition starts c n file ≡ ruled (start_of starts) (history c n) (file_read (known (history c n)) file)
    unfolding verdict_answer
    after = rw fine

    -- Then the marking's questions, with the byte.
    pub marking-refused : (q byte : ℕ) → (verdict_answer edition starts c n file ≡ Err (MarkingRefused (refuse q byte)))
        ↔ (file_read (known (history c n)) file ≡ refused q byte)
    marking-refused q byte = (
      λ e. go (file_read (known (history c n)) file) (sym after ∙ e),
      λ e. after ∙ ap (ruled (start_of starts) (history c n)) e,
    )
      where
        go : (x : FileRead) → ruled (start_of starts) (history c n) x ≡ Err (MarkingRefused (refuse q byte)) → x ≡ refused q byte
        go (content m) d = absurd (cc)
        go (refused a b) d = let e : refuse a b ≡ refuse q byte = cc in λ i. refused (e i).question (e i).at

    -- Then the rules, on the content m of the file.
    module _ (m : Marking) (holds : file_read (known (history c n)) file ≡ content m) where
      answered : verdict_answer edition starts c n file ≡ Ok (verdict (start_of starts) (history c n) m)
      answered = after ∙ ap (ruled (start_of starts) (history c n)) holds

      pub by-verdict : (v : Verdict) → (verdict_answer edition starts c n file ≡ Ok v) ↔ (verdict (start_of starts) (history c n) m ≡ v)
      by-verdict v = (λ e. same (sym answered ∙ e), λ e. answered ∙ λ i. Ok (e i))
        where
          same : ◌≡◌ {A = Checking} (Ok (verdict (start_of starts) (history c n) m)) (Ok v) → verdict (start_of starts) (history c n) m ≡ v
          same d = cc

      history-is-readable : readable (history c n) ≡ true
      history-is-readable = (history-readable edition starts c n fine).1

      content-is-readable : ReadableFor (history c n) m
      content-is-readable = content-readable (history c n) file m history-is-readable holds

      -- Accepted exactly if all five rules hold,
      pub accepted-rules : (verdict_answer edition starts c n file ≡ Ok Accepted) ↔ AllHold (start_of starts) (history c n) m
      accepted-rules = (
        λ e. (accepted-iff-rules (start_of starts) (history c n) history-is-readable m).0 ((by-verdict Accepted).0 e),
        λ a. (by-verdict Accepted).1 ((accepted-iff-rules (start_of starts) (history c n) history-is-readable m).1 a),
      )

      -- exactly if the outcomes and order are a justification of the history and no committed writer of the register but the reader stands
      -- between a read's point and its reader;
      pub accepted-justified : (verdict_answer edition starts c n file ≡ Ok Accepted)
          ↔ (Justified (start_of starts) (history c n) m.places × RuleD (history c n) m)
      accepted-justified = (
        λ e. justified.0 ((by-verdict Accepted).0 e),
        λ a. (by-verdict Accepted).1 (justified.1 a),
      )
        where
          justified : (verdict (start_of starts) (history c n) m ≡ Accepted)
              ↔ (Justified (start_of starts) (history c n) m.places × RuleD (history c n) m)
          justified = accepted-iff-justified (start_of starts) (history c n) history-is-readable m content-is-readable

      -- otherwise the first broken rule, where it is broken lowest, with its event and transaction.
      pub broken-first : (q : Rule) (i t : ℕ) → (verdict_answer edition starts c n file ≡ Ok (Broken q i t))
          ↔ ((k : ℕ) × FirstBroken (start_of starts) (history c n) m q k
          × (i ≡ named_event (history c n) q k) × (t ≡ named_transaction (history c n) q k))
      broken-first q i t = (
        λ e. (broken-iff-first (start_of starts) (history c n) history-is-readable m q i t).0 ((by-verdict (Broken q i t)).0 e),
        λ a. (by-verdict (Broken q i t)).1 ((broken-iff-first (start_of starts) (history c n) history-is-readable m q i t).1 a),
      )

-- ---- the whole

pub accepted-iff : (edition : ℕ) (starts : List ℕ) (c : Columns) (n : ℕ) (file : List ℕ)
    → (verdict_answer edition starts c n file ≡ Ok Accepted) ↔ Justifying edition starts c n file
unfolding verdict_answer
accepted-iff edition starts c n file = (
  λ e. go (history_answer edition starts c n) refl e,
  λ j. (accepted-justified edition starts c n file j.fine j.marking j.holds).1 (j.justified, j.rule_d),
)
  where
    found : (fine : history_answer edition starts c n ≡ Ok tt) (x : FileRead) → file_read (known (history c n)) file ≡ x
        → ruled (start_of starts) (history c n) x ≡ Ok Accepted → Justifying edition starts c n file
    found fine (content m) q d =
        let a = (accepted-justified edition starts c n file fine m q).0 (rw fine (ap (ruled (start_of starts) (history c n)) q ∙ d)) in
        record { fine = fine; marking = m; holds = q; justified = a.0; rule_d = a.1 }
    found fine (refused a b) q d = absurd (cc)

    go : (x : Checked) → history_answer edition starts c n ≡ x → after_columns (start_of starts) (history c n) file x ≡ Ok Accepted
        → Justifying edition starts c n file
    go (Ok tt) q d = found q (file_read (known (history c n)) file) refl d
    go (Err a) q d = absurd (cc)

-- ---- what the checker says, for every call

-- a verdict is told by what it says
same-verdict : (v w : Verdict) → verdict_said v ≡ verdict_said w → v ≡ w
same-verdict Accepted Accepted e = refl
same-verdict Accepted (Broken r i t) e = absurd (cc)
same-verdict (Broken r i t) Accepted e = absurd (cc)
same-verdict (Broken r i t) (Broken q j u) e =
    let a : rule_number r ≡ rule_number q = cc in
    let b : i ≡ j = cc in
    let d : t ≡ u = cc in
    λ k. Broken (same-rule r q a k) (b k) (d k)

said-ruled : (x : Checking) (v : Verdict) → said x ≡ verdict_said v → x ≡ Ok v
unfolding said
said-ruled (Ok w) v e = let same = same-verdict w v e in λ i. Ok (same i)
said-ruled (Err (HistoryRefused r)) Accepted e = absurd (cc)
said-ruled (Err (HistoryRefused r)) (Broken q i u) e = absurd (cc)
said-ruled (Err (MarkingRefused r)) Accepted e = absurd (cc)
said-ruled (Err (MarkingRefused r)) (Broken q i u) e = absurd (cc)

said-history : (x : Checking) (q e : ℕ) → said x ≡ at_event q e → x ≡ Err (HistoryRefused (refuse q e))
unfolding said
said-history (Ok Accepted) q e k = absurd (cc)
said-history (Ok (Broken r i t)) q e k = absurd (cc)
said-history (Err (HistoryRefused r)) q e k =
    let a : r.question ≡ q = cc in
    let b : r.at ≡ e = cc in
    λ i. Err (HistoryRefused (refuse (a i) (b i)))
said-history (Err (MarkingRefused r)) q e k = absurd (cc)

said-marking : (x : Checking) (q b : ℕ) → said x ≡ at_byte q b → x ≡ Err (MarkingRefused (refuse q b))
unfolding said
said-marking (Ok Accepted) q b k = absurd (cc)
said-marking (Ok (Broken r i t)) q b k = absurd (cc)
said-marking (Err (HistoryRefused r)) q b k = absurd (cc)
said-marking (Err (MarkingRefused r)) q b k =
    let a : r.question ≡ q = cc in
    let d : r.at ≡ b = cc in
    λ i. Err (MarkingRefused (refuse (a i) (d i)))

module _ (edition : ℕ) (starts : List ℕ) (c : Columns) (n : ℕ) (file : List ℕ) where
  -- accepted,
  pub accepted-said : (said (verdict_answer edition starts c n file) ≡ done []) ↔ Justifying edition starts c n file
  unfolding said
  accepted-said = (
    λ x. (accepted-iff edition starts c n file).0 (said-ruled _ Accepted x),
    λ j. ap said ((accepted-iff edition starts c n file).1 j),
  )

  -- which is the same as: all five rules hold,
  pub rules-said : (m : Marking) → history_answer edition starts c n ≡ Ok tt → file_read (known (history c n)) file ≡ content m
      → (said (verdict_answer edition starts c n file) ≡ done []) ↔ AllHold (start_of starts) (history c n) m
  unfolding said
  rules-said m fine holds = (
    λ x. (accepted-rules edition starts c n file fine m holds).0 (said-ruled _ Accepted x),
    λ a. ap said ((accepted-rules edition starts c n file fine m holds).1 a),
  )

  -- the first broken rule with its event and transaction,
  pub broken-said : (r : Rule) (e t : ℕ)
      → (said (verdict_answer edition starts c n file) ≡ broken (rule_number r) e t) ↔ Breaking edition starts c n file r e t
  unfolding said verdict_answer
  broken-said r e t = (λ x. go (history_answer edition starts c n) refl (said-ruled _ (Broken r e t) x), back)
    where
      found : (fine : history_answer edition starts c n ≡ Ok tt) (x : FileRead) → file_read (known (history c n)) file ≡ x
          → ruled (start_of starts) (history c n) x ≡ Ok (Broken r e t) → Breaking edition starts c n file r e t
      found fine (content m) q d =
          let w = (broken-first edition starts c n file fine m q r e t).0 (rw fine (ap (ruled (start_of starts) (history c n)) q ∙ d)) in
          record { fine = fine; marking = m; holds = q; at = w.0; first = w.1; event = w.2; transaction = w.3 }
      found fine (refused a b) q d = absurd (cc)

      go : (x : Checked) → history_answer edition starts c n ≡ x → after_columns (start_of starts) (history c n) file x ≡ Ok (Broken r e t)
          → Breaking edition starts c n file r e t
      go (Ok tt) q d = found q (file_read (known (history c n)) file) refl d
      go (Err a) q d = absurd (cc)

      back : Breaking edition starts c n file r e t → said (verdict_answer edition starts c n file) ≡ broken (rule_number r) e t
      back b =
          ap said
          ((broken-first edition starts c n file b.fine b.marking b.holds r e t).1 (b.at, b.first, b.event, b.transaction))

  -- the history's question with its event, and the marking's with its byte.
  pub history-said : (q e : ℕ)
      → (said (verdict_answer edition starts c n file) ≡ at_event q e) ↔ (history_answer edition starts c n ≡ Err (refuse q e))
  unfolding said
  history-said q e = (
    λ x. (history-refused edition starts c n file (refuse q e)).0 (said-history _ q e x),
    λ x. ap said ((history-refused edition starts c n file (refuse q e)).1 x),
  )

  pub marking-said : (q b : ℕ) → (said (verdict_answer edition starts c n file) ≡ at_byte q b)
      ↔ ((history_answer edition starts c n ≡ Ok tt) × (file_read (known (history c n)) file ≡ refused q b))
  unfolding said verdict_answer
  marking-said q b = (
    λ x.
        let k = said-marking _ q b x in
        let f = fine (history_answer edition starts c n) refl k in
        (f, (marking-refused edition starts c n file f q b).0 k),
    λ w. ap said ((marking-refused edition starts c n file w.0 q b).1 w.1),
  )
    where
      fine : (x : Checked) → history_answer edition starts c n ≡ x
          → after_columns (start_of starts) (history c n) file x ≡ Err (MarkingRefused (refuse q b))
          → history_answer edition starts c n ≡ Ok tt
      fine (Ok tt) e k = e
      fine (Err r) e k = absurd (cc)

-- The bytes of a content that is readable for the history are judged as that content is; where its verdict is accepted, the checker
-- accepts them.
pub bytes-judged : (edition : ℕ) (starts : List ℕ) (c : Columns) (n : ℕ) (m : Marking) → history_answer edition starts c n ≡ Ok tt
    → ReadableFor (history c n) m
    → verdict_answer edition starts c n (marking_bytes m) ≡ Ok (verdict (start_of starts) (history c n) m)
bytes-judged edition starts c n m fine f =
    answered edition starts c n (marking_bytes m) fine m (bytes-content (history c n) m (history-readable edition starts c n fine).1 f)

pub bytes-accepted : (edition : ℕ) (starts : List ℕ) (c : Columns) (n : ℕ) (m : Marking) → history_answer edition starts c n ≡ Ok tt
    → ReadableFor (history c n) m
    → verdict (start_of starts) (history c n) m ≡ Accepted → verdict_answer edition starts c n (marking_bytes m) ≡ Ok Accepted
bytes-accepted edition starts c n m fine f e = bytes-judged edition starts c n m fine f ∙ λ i. Ok (e i)

-- ---- edition 1

-- A history of edition 1 is answered as it was before there were start values.
pub first-edition : (c : Columns) (n : ℕ) (file : List ℕ) → verdict_answer 1 no_starts c n file ≡ first_edition_answer c n file
unfolding verdict_answer first_edition_answer
first-edition c n file = rw (no-starts, first-asked c n)

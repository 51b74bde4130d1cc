-- The theorems about straightened read points, gathered: each says what the request says. The words are those of specs/ here, in `opacity`
-- and in `marking`; the edition and the start values are the caller's, whichever they are. What the straightened marking is like for
-- itself, point by point, is in StraightLaws and RuleLaws.
-- Assumes nothing.
use Prim.Native.Nat.{ℕ, ◌<◌}
use native.Mathlib.Omega.{arith}
use mathlib.Core.Path.{◌≡◌, refl, sym, ap, ◌∙◌}
use mathlib.Core.Logic.{◌↔◌, ◌⊎◌, ⊎_elim}
use mathlib.Core.Bool.{Bool, true, false, cond}
use mathlib.Core.List.{List, [], ◌∷◌}
use lib.ListN.{length, take, drop}
use Rattle.events.specs.declared.event.Event.{Event}
use Rattle.std.specs.Prelude.{Ok, Err}
use Rattle.event_log.specs.Checked.{Checked}
use Rattle.events.specs.declared.refusal.Refusal.{Refusal}
use Rattle.events.specs.Said.{done as is_done, broken, at_event, at_byte, refuse}
use Rattle.records.specs.Bytes.{Bytes, over}
use Rattle.events.specs.Events.{event_at}
use Rattle.event_log.specs.Columns.{Columns, history, hold}
use Rattle.event_log.specs.Starts.{start_of, no_starts}
use Rattle.event_log.specs.Answer.{history_answer}
use Rattle.records.proofs.BufferLaws.{take-over, drop-over}
use Rattle.event_log.proofs.StartLaws.{no-starts, history-readable, first-edition as first-asked}
use Rattle.opacity.specs.declared.verdict.Rule.{Rule}
use Rattle.opacity.specs.declared.verdict.Rule.TheVariants.{D, E}
use Rattle.opacity.specs.declared.verdict.Verdict.{Verdict}
use Rattle.opacity.specs.declared.verdict.Verdict.TheVariants.{Accepted, Broken as Breaks}
use Rattle.opacity.specs.Justification.{Justified}
use Rattle.opacity.specs.Marking.{Marking, ReadableFor, marking_bytes, verdict, rule_number}
use Rattle.opacity.proofs.VerdictLaws.{same-rule}
use Rattle.opacity.proofs.Rules.{justified-accepted}
use Rattle.marking_reader.specs.File.{known, FileRead, content, refused, file_read}
use Rattle.marking.specs.Answer.{verdict_answer}
use Rattle.marking_reader.proofs.ContentLaws.{content-readable}
use Rattle.marking_reader.proofs.ReadBack.{bytes-content}
use Rattle.marking_reader.proofs.WriteBack.{content-bytes}
use Rattle.marking.proofs.Theorems.{by-verdict, accepted-iff, bytes-judged}
use Rattle.straighten.specs.declared.Unstraightened.TheVariants.{Broken, Refused, MarkingRefused}
use Rattle.straighten.specs.Straight.{straightened, moved_events, FirstIllegal}
use Rattle.straighten.specs.Answer.{Straightening, moved_to, Given, gives, after_verdict, judged, roomy, after_file, after_columns, straightened_answer, first_edition_answer, said, Passes, Short}
use Rattle.straighten.specs.Words.{Written}
use Rattle.straighten.proofs.StraightLaws.{moved-rise, straight-readable, straight-accepted, straight-length}
use Rattle.straighten.proofs.RuleLaws.{order-rules-same, never-D, E-first-illegal}
use Rattle.straighten.proofs.AnswerLaws.{never-15, Done, history-said, marking-said, short-said, done-said, broken-said, same-said, answer-means}

-- a call: edition, start values, columns, count, the marking's file, and the output and the list as they were
module _ (edition : ℕ) (starts : List ℕ) (c : Columns) (n : ℕ) (file output list : List ℕ) where
  -- the history in the columns, and what the call gives
  abbrev pub events : List Event
  events = history c n

  abbrev pub given : Given
  given = straightened_answer edition starts c n file output list

  -- ---- which answer comes when

  -- 17, 3 of the start values or an event's own question comes before all else, with its event, for 17 and 3 the count; 15 is not among them.
  pub history-refused : (r : Refusal) → (r.question ≡ 15 → ⊥) → (given.result ≡ Err (Refused r)) ↔ (history_answer edition starts c n ≡ Err r)
  history-refused r u = (
    λ x. ⊎_elim (λ a. a) (λ b. absurd (u (ap (λ (y : Refusal). y.question) b.1))) (answer-means edition starts c n file output list (Err (Refused r)) x).0,
    λ x. ap (λ (g : Given). g.result) (history-said edition starts c n file output list r x),
  )

  -- Then the marking's questions, with the byte.
  pub marking-refused : (q byte : ℕ) → (given.result ≡ Err (MarkingRefused (refuse q byte))) ↔ ((history_answer edition starts c n ≡ Ok tt) × (file_read (known events) file ≡ refused q byte))
  marking-refused q byte = (
    λ x. (answer-means edition starts c n file output list (Err (MarkingRefused (refuse q byte))) x).0,
    λ w. ap (λ (g : Given). g.result) (marking-said edition starts c n file output list q byte w.0 w.1),
  )

  -- Then 15, with the count: the output is shorter than the marking, or the list has no entry for every store read.
  pub short-refused : (e : ℕ) → (given.result ≡ Err (Refused (refuse 15 e))) ↔ (Short edition starts c n file output list × (e ≡ n))
  short-refused e = (
    λ x.
        ⊎_elim (λ a. absurd (never-15 edition starts c n e a)) (λ b. (b.0, ap (λ (y : Refusal). y.at) b.1))
        (answer-means edition starts c n file output list (Err (Refused (refuse 15 e))) x).0,
    λ w. ap (λ (g : Given). g.result) (short-said edition starts c n file output list w.0) ∙ ap (λ (i : ℕ). Err (Refused (refuse 15 i))) (sym w.1),
  )

  -- Whatever the answer is but success, output and list are as they were.
  pub untouched : ((k l : ℕ) → given.result ≡ moved_to k l → ⊥) → (given.output ≡ output) × (given.list ≡ list)
  untouched u = go given.result refl
    where
      go : (r : Straightening) → given.result ≡ r → (given.output ≡ output) × (given.list ≡ list)
      go (Ok d) x = absurd (u d.length d.moved x)
      go (Err (Broken q i t)) x = let w = answer-means edition starts c n file output list (Err (Broken q i t)) x in (w.1, w.2)
      go (Err (Refused r)) x = let w = answer-means edition starts c n file output list (Err (Refused r)) x in (w.1, w.2)
      go (Err (MarkingRefused r)) x = let w = answer-means edition starts c n file output list (Err (MarkingRefused r)) x in (w.1, w.2)

  -- ---- where no question refuses the call, and m is what the file holds

  module _ (m : Marking) (p : Passes edition starts c n file output list m) where
    readable-for : ReadableFor events m
    readable-for = content-readable events file m (history-readable edition starts c n p.fine).1 p.holds

    the-content : (m' : Marking) → file_read (known events) file ≡ content m' → m' ≡ m
    the-content m' e = let z = p.holds in cc

    verdict-of : (m' : Marking) (v : Verdict) → file_read (known events) file ≡ content m' → verdict (start_of starts) events (straightened (start_of starts) events m') ≡ v
        → verdict (start_of starts) events (straightened (start_of starts) events m) ≡ v
    verdict-of m' v e x = ap (λ (y : Marking). verdict (start_of starts) events (straightened (start_of starts) events y)) (sym (the-content m' e)) ∙ x

    -- It succeeds exactly if the outcomes and order are a justification.
    pub succeeds-exactly : ((k : ℕ) × (l : ℕ) × (given.result ≡ moved_to k l)) ↔ Justified (start_of starts) events m.places
    succeeds-exactly = (
      λ w.
          let d = answer-means edition starts c n file output list (moved_to w.0 w.1) w.2 in
          (straight-accepted (start_of starts) events m readable-for).0 (verdict-of d.marking Accepted d.passes.holds d.accepted),
      λ j. (_, _, ap (λ (g : Given). g.result) (done-said edition starts c n file output list m p ((straight-accepted (start_of starts) events m readable-for).1 j))),
    )

    -- Otherwise the answer is the checker's verdict on the straightened marking,
    pub broken-exactly : (q : Rule) (i t : ℕ) → (given.result ≡ Err (Broken q i t)) ↔ (verdict (start_of starts) events (straightened (start_of starts) events m) ≡ Breaks q i t)
    broken-exactly q i t = (
      λ x. let w = (answer-means edition starts c n file output list (Err (Broken q i t)) x).0 in verdict-of w.0 (Breaks q i t) w.1.holds w.2,
      λ v. ap (λ (g : Given). g.result) (broken-said edition starts c n file output list m p q i t v),
    )

    -- for A, B and C that on the file given,
    pub order-rule-exactly : (q : Rule) → rule_number q < 4 → (i t : ℕ) → (given.result ≡ Err (Broken q i t)) ↔ (verdict_answer edition starts c n file ≡ Ok (Breaks q i t))
    order-rule-exactly q l i t =
        let a = broken-exactly q i t in
        let b = order-rules-same (start_of starts) events m q l i t in
        let d = by-verdict edition starts c n file p.fine m p.holds (Breaks q i t) in
        (λ x. d.1 (b.0 (a.0 x)), λ x. a.1 (b.1 (d.0 x)))

    -- never D,
    pub never-broken-D : (i t : ℕ) → given.result ≡ Err (Broken D i t) → ⊥
    never-broken-D i t x = never-D (start_of starts) events m readable-for i t ((broken-exactly D i t).0 x)

    -- and E exactly if A, B and C hold, with the first store read that is not legal in the order and its transaction.
    pub E-exactly : (i t : ℕ) → (given.result ≡ Err (Broken E i t)) ↔ (FirstIllegal (start_of starts) events m i × (t ≡ (event_at events i).transaction))
    E-exactly i t =
        let a = broken-exactly E i t in
        let b = E-first-illegal (start_of starts) events m readable-for i t in
        (λ x. b.0 (a.0 x), λ w. a.1 (b.1 w))

  -- A file that the checker accepts comes back byte by byte, with nothing moved.
  pub accepted-back : verdict_answer edition starts c n file ≡ Ok Accepted → Bytes file → roomy events file output list ≡ true
      → given ≡ gives (moved_to (length file) 0) (over file output) list
  accepted-back x by room =
      let j = (accepted-iff edition starts c n file).0 x in
      let p : Passes edition starts c n file output list j.marking = record { fine = j.fine; holds = j.holds; room = room } in
      same-said edition starts c n file output list j.marking p (readable-for j.marking p)
      (justified-accepted (start_of starts) events j.marking j.justified j.rule_d) (content-bytes (known events) file by j.marking j.holds)

  -- ---- what is written

  module _ (k l : ℕ) (x : given.result ≡ moved_to k l) where
    done : Done edition starts c n file output list k l given.output given.list
    done = answer-means edition starts c n file output list (moved_to k l) x

    bytes-written : take k given.output ≡ marking_bytes (straightened (start_of starts) events done.marking)
    bytes-written = ap (take k) done.bytes ∙ take-over (marking_bytes (straightened (start_of starts) events done.marking)) output k done.size

    moved-written : take l given.list ≡ moved_events (start_of starts) events done.marking
    moved-written = ap (take l) done.entries ∙ take-over (moved_events (start_of starts) events done.marking) list l done.count

    written-readable : ReadableFor events (straightened (start_of starts) events done.marking)
    written-readable = straight-readable (start_of starts) events done.marking (readable-for done.marking done.passes)

    pub written_behind : (drop k given.output ≡ drop k output) × (drop l given.list ≡ drop l list)
    written_behind = (
      ap (drop k) done.bytes ∙ drop-over (marking_bytes (straightened (start_of starts) events done.marking)) output k done.size,
      ap (drop l) done.entries ∙ drop-over (moved_events (start_of starts) events done.marking) list l done.count,
    )

    pub written-accepted : verdict_answer edition starts c n (take k given.output) ≡ Ok Accepted
    written-accepted =
        ap (verdict_answer edition starts c n) bytes-written
        ∙ bytes-judged edition starts c n (straightened (start_of starts) events done.marking) done.passes.fine written-readable
        ∙ (λ i. Ok (done.accepted i))

    pub written : Bytes file → Written edition starts c n file output list k l
    written by =
        let m = done.marking in
        let f = readable-for m done.passes in
        record {
          marking = m;
          passes = done.passes;
          justified = (straight-accepted (start_of starts) events m f).0 done.accepted;
          size = sym done.size ∙ straight-length (start_of starts) events m ∙ ap length (sym (content-bytes (known events) file by m done.passes.holds));
          bytes = bytes-written;
          behind-bytes = written_behind.0;
          moved = moved-written;
          behind_moved = written_behind.1;
          rising = rw moved-written (moved-rise (start_of starts) events m f);
          readable = written-readable;
          accepted = written-accepted;
        }

    -- Straightening what was written moves nothing: with room, those bytes come back.
    pub again : (output₂ list₂ : List ℕ) → roomy events (take k given.output) output₂ list₂ ≡ true
        → straightened_answer edition starts c n (take k given.output) output₂ list₂ ≡ gives (moved_to k 0) (over (take k given.output) output₂) list₂
    again output₂ list₂ room =
        let m : Marking = straightened (start_of starts) events done.marking in
        let e = bytes-content events m (history-readable edition starts c n done.passes.fine).1 written-readable in
        same-said edition starts c n (take k given.output) output₂ list₂ m
        (record { fine = done.passes.fine; holds = ap (file_read (known events)) bytes-written ∙ e; room = room }) written-readable done.accepted bytes-written
        ∙ ap (λ (i : ℕ). gives (moved_to i 0) (over (take k given.output) output₂) list₂) (ap length bytes-written ∙ done.size)

-- ---- what the straightening says, for every call

pub said-straightened : (x : Straightening) (k l : ℕ) → said x ≡ is_done (k ∷ l ∷ []) → x ≡ moved_to k l
unfolding said
said-straightened (Ok d) k l e =
    let a : d.length ≡ k = cc in
    let b : d.moved ≡ l = cc in
    λ i. moved_to (a i) (b i)
said-straightened (Err (Broken q i t)) k l e = absurd (let z : ◌≡◌ {A = ℕ} 0 1 = cc in omega arith)
said-straightened (Err (Refused r)) k l e = absurd (let z : ◌≡◌ {A = ℕ} 0 1 = cc in omega arith)
said-straightened (Err (MarkingRefused r)) k l e = absurd (let z : ◌≡◌ {A = ℕ} 0 1 = cc in omega arith)

pub said-broken : (x : Straightening) (q : Rule) (i t : ℕ) → said x ≡ broken (rule_number q) i t → x ≡ Err (Broken q i t)
unfolding said
said-broken (Ok d) q i t e = absurd (let z : ◌≡◌ {A = ℕ} 0 1 = cc in omega arith)
said-broken (Err (Broken r j u)) q i t e =
    let a : rule_number r ≡ rule_number q = cc in
    let b : j ≡ i = cc in
    let d : u ≡ t = cc in
    λ k. Err (Broken (same-rule r q a k) (b k) (d k))
said-broken (Err (Refused r)) q i t e = absurd (let z : ◌≡◌ {A = ℕ} 0 1 = cc in omega arith)
said-broken (Err (MarkingRefused r)) q i t e = absurd (let z : ◌≡◌ {A = ℕ} 0 1 = cc in omega arith)

said-refused : (x : Straightening) (q e : ℕ) → said x ≡ at_event q e → x ≡ Err (Refused (refuse q e))
unfolding said
said-refused (Ok d) q e k = absurd (let z : ◌≡◌ {A = ℕ} 0 1 = cc in omega arith)
said-refused (Err (Broken r j u)) q e k = absurd (let z : ◌≡◌ {A = ℕ} 0 1 = cc in omega arith)
said-refused (Err (Refused r)) q e k =
    let a : r.question ≡ q = cc in
    let b : r.at ≡ e = cc in
    λ i. Err (Refused (refuse (a i) (b i)))
said-refused (Err (MarkingRefused r)) q e k = absurd (let z : ◌≡◌ {A = ℕ} 0 1 = cc in omega arith)

said-unread : (x : Straightening) (q b : ℕ) → said x ≡ at_byte q b → x ≡ Err (MarkingRefused (refuse q b))
unfolding said
said-unread (Ok d) q b k = absurd (let z : ◌≡◌ {A = ℕ} 0 1 = cc in omega arith)
said-unread (Err (Broken r j u)) q b k = absurd (let z : ◌≡◌ {A = ℕ} 0 1 = cc in omega arith)
said-unread (Err (Refused r)) q b k = absurd (let z : ◌≡◌ {A = ℕ} 0 1 = cc in omega arith)
said-unread (Err (MarkingRefused r)) q b k =
    let a : r.question ≡ q = cc in
    let d : r.at ≡ b = cc in
    λ i. Err (MarkingRefused (refuse (a i) (d i)))

module _ (edition : ℕ) (starts : List ℕ) (c : Columns) (n : ℕ) (file output list : List ℕ) where
  abbrev result : Straightening
  result = (straightened_answer edition starts c n file output list).result

  -- It has succeeded exactly if no question says no and the outcomes and order that the file holds are a justification.
  pub straightened-said : ((k : ℕ) × (l : ℕ) × (said result ≡ is_done (k ∷ l ∷ [])))
      ↔ ((m : Marking) × Passes edition starts c n file output list m × Justified (start_of starts) (history c n) m.places)
  unfolding said
  straightened-said = (
    λ w.
        let x = said-straightened result w.0 w.1 w.2 in
        let d = answer-means edition starts c n file output list (moved_to w.0 w.1) x in
        (d.marking, d.passes, (succeeds-exactly edition starts c n file output list d.marking d.passes).0 (w.0, w.1, x)),
    λ w.
        let d = (succeeds-exactly edition starts c n file output list w.0 w.1).1 w.2 in
        (d.0, d.1, ap said d.2),
  )

  -- It names the rule that the straightened marking breaks, with its event and transaction, exactly if no question says no,
  pub broken-said-exactly : (q : Rule) (i t : ℕ) → (said result ≡ broken (rule_number q) i t)
      ↔ ((m : Marking) × Passes edition starts c n file output list m × (verdict (start_of starts) (history c n) (straightened (start_of starts) (history c n) m) ≡ Breaks q i t))
  unfolding said
  broken-said-exactly q i t = (
    λ x. (answer-means edition starts c n file output list (Err (Broken q i t)) (said-broken result q i t x)).0,
    λ w. ap said ((broken-exactly edition starts c n file output list w.0 w.1 q i t).1 w.2),
  )

  -- a question about history or buffers with its event, 15 with the count,
  pub refused-said : (q e : ℕ) → (said result ≡ at_event q e)
      ↔ ((history_answer edition starts c n ≡ Err (refuse q e)) ⊎ (Short edition starts c n file output list × (refuse q e ≡ refuse 15 n)))
  unfolding said
  refused-said q e = (
    λ x. (answer-means edition starts c n file output list (Err (Refused (refuse q e))) (said-refused result q e x)).0,
    λ w.
        ⊎_elim
        (λ a. ap (λ (g : Given). said g.result) (history-said edition starts c n file output list (refuse q e) a))
        (λ b. ap (λ (g : Given). said g.result) (short-said edition starts c n file output list b.0) ∙ ap (λ (r : Refusal). said (Err (Refused r))) (sym b.1))
        w,
  )

  -- and one about the marking with its byte.
  pub unread-said : (q b : ℕ) → (said result ≡ at_byte q b) ↔ ((history_answer edition starts c n ≡ Ok tt) × (file_read (known (history c n)) file ≡ refused q b))
  unfolding said
  unread-said q b = (
    λ x. (marking-refused edition starts c n file output list q b).0 (said-unread result q b x),
    λ w. ap said ((marking-refused edition starts c n file output list q b).1 w),
  )

-- ---- what stands past the count

-- What stands in the columns past the count, and what output and list held, make no difference: columns that hold the same events below the
-- count, and an output and a list of the same lengths, give the same result.
module _ (start : ℕ → ℕ) (h : List Event) (n : ℕ) (file output list before marks : List ℕ) (same : roomy h file output list ≡ roomy h file before marks) where
  result-same : (x : Checked) → (after_columns start h n file output list x).result ≡ (after_columns start h n file before marks x).result
  unfolding judged
  result-same (Err r) = refl
  result-same (Ok tt) = content-same (file_read (known h) file)
    where
      rules-same : (bytes moved : List ℕ) (v : Verdict) → (after_verdict bytes moved output list v).result ≡ (after_verdict bytes moved before marks v).result
      rules-same m moved Accepted = refl
      rules-same m moved (Breaks q i t) = refl

      room-same : (m : Marking) (b : Bool)
          → (cond b (judged start h m output list) (gives (Err (Refused (refuse 15 n))) output list)).result ≡ (cond b (judged start h m before marks) (gives (Err (Refused (refuse 15 n))) before marks)).result
      room-same m true = rules-same _ _ (verdict start h (straightened start h m))
      room-same m false = refl

      content-same : (y : FileRead) → (after_file start h n file output list y).result ≡ (after_file start h n file before marks y).result
      content-same (content m) = rw same (room-same m (roomy h file before marks))
      content-same (refused q byte) = refl

pub past-count : (edition : ℕ) (starts : List ℕ) (c d : Columns) (n : ℕ) (file output list before marks : List ℕ) → hold c n ≡ hold d n → history c n ≡ history d n
    → length output ≡ length before → length list ≡ length marks
    → (straightened_answer edition starts c n file output list).result ≡ (straightened_answer edition starts d n file before marks).result
unfolding straightened_answer history_answer roomy
past-count edition starts c d n file output list before marks held events o l =
    rw (held, events) (result-same (start_of starts) (history d n) n file output list before marks (rw (o, l)) (history_answer edition starts d n))

-- ---- edition 1

-- A history of edition 1 is answered as it was before there were start values.
pub first-edition : (c : Columns) (n : ℕ) (file output list : List ℕ) → straightened_answer 1 no_starts c n file output list ≡ first_edition_answer c n file output list
unfolding straightened_answer first_edition_answer
first-edition c n file output list = rw (no-starts, first-asked c n)

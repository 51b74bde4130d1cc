-- Laws of the finder's answer.
-- Assumes nothing.
use Rattle.std.specs.Prelude.{Ok, Err, Some, None}
use mathlib.Core.Path.{◌≡◌, refl, sym, ap₂, ◌∙◌}
use Prim.Native.Nat.{ℕ, ◌≤◌, ◌<◌}
use mathlib.Core.Bool.{Bool, true, false, cond}
use mathlib.Core.List.{List, [], ◌∷◌}
use mathlib.Core.Option.{Option, none, some, none-ne-some, some-ne-none, some-injective}
use lib.Dec.{leb}
use lib.ListN.{length, take}
use borrow.Author.Tests.{le-leb, lt-leb, leb-true}
use Rattle.events.specs.declared.event.Event.{Event}
use Rattle.event_log.specs.Checked.{Checked, asked}
use Rattle.events.specs.declared.refusal.Refusal.{Refusal}
use Rattle.events.specs.Said.{done, nothing, at_event, refuse}
use Rattle.records.specs.Bytes.{over}
use Rattle.events.specs.Events.{begins}
use Rattle.event_log.specs.Columns.{Columns, history, hold}
use Rattle.event_log.specs.Starts.{admits}
use Rattle.events.specs.Questions.{ask, readable_in}
use Rattle.event_log.specs.Answer.{events_answer, columns_answer, history_answer}
use Rattle.event_log.proofs.ColumnLaws.{hold-e}
use Rattle.event_log.proofs.AnswerLaws.{answer-readable, readable-columns}
use Rattle.opacity.specs.Justification.{Place}
use Rattle.opacity.specs.Lowest.{lowest_of}
use Rattle.opacity.specs.Marking.{marked, marking_bytes}
use Rattle.event_log.specs.Calls.{asked_of, then_checked}
use Rattle.event_log.proofs.CheckedLaws.{asked-yes as asked-passed, asked-no as asked-refused}
use Rattle.event_log.proofs.CallLaws.{asked-none, asked-yes, asked-no, asked-e, then-readable, then-refused, then-e}
use Rattle.finder.specs.Answer.{Finding, marking_size, Passed, said, gives, decided, prefix_refusal, call_refusal, find_refusal, marking_of, lowest_marking, found_answer}
use Rattle.finder.specs.Logs.{find_of}

-- ---- what is decided

pub decided-refused : {x : Checked} {r : Refusal} (m : Option (List ℕ)) (o : List ℕ) → x ≡ Err r → gives (Err r) o ≡ decided x m o
unfolding decided
decided-refused m o x = rw x

pub decided-none : {x : Checked} {m : Option (List ℕ)} (o : List ℕ) → x ≡ Ok tt → m ≡ none → gives (Ok None) o ≡ decided x m o
unfolding decided
decided-none o x e = rw (x, e)

pub decided-marking : {x : Checked} {m : Option (List ℕ)} {bytes : List ℕ} (n : ℕ) (o o' : List ℕ) → x ≡ Ok tt → m ≡ some bytes
    → n ≡ length bytes → o' ≡ over bytes o → gives (Ok (Some n)) o' ≡ decided x m o
unfolding decided
decided-marking n o o' x e l w = rw (x, e) (ap₂ (λ (k : ℕ) (z : List ℕ). gives (Ok (Some k)) z) l w)

-- ---- questions 31 and 32

module _ (h : List Event) (count room : ℕ) where
  -- as they are put, one after the other
  module _ {n : ℕ} (counts : n ≡ begins h) where
    asked-31-32 : {fits : Bool} → fits ≡ leb (marking_size h) room → prefix_refusal h count room ≡ then_checked (asked (leb n 10) 31 count) (asked fits 32 count)
    unfolding prefix_refusal then_checked
    asked-31-32 f = rw (counts, f) (go (leb (begins h) 10) refl (leb (marking_size h) room) refl)
      where
        go : (x : Bool) → leb (begins h) 10 ≡ x → (y : Bool) → leb (marking_size h) room ≡ y
            → asked_of count (ask 31 (leb (begins h) 10) ∷ ask 32 (leb (marking_size h) room) ∷ []) ≡ then_checked (asked x 31 count) (asked y 32 count)
        go false a y b = asked-no count 31 _ _ a
        go true a false b = asked-yes count 31 _ _ a ∙ asked-no count 32 _ _ b
        go true a true b = asked-yes count 31 _ _ a ∙ asked-yes count 32 _ _ b ∙ asked-none count

    pub refused-31 : {r : Refusal} → ◌≡◌ {A = Checked} (Err r) (asked (leb n 10) 31 count) → prefix_refusal h count room ≡ Err r
    refused-31 x = asked-31-32 refl ∙ then-refused _ (sym x)

    pub refused-32 : {u : Unit {0}} {fits : Bool} {r : Refusal} → ◌≡◌ {A = Checked} (Ok u) (asked (leb n 10) 31 count) → fits ≡ leb (marking_size h) room
        → ◌≡◌ {A = Checked} (Err r) (asked fits 32 count) → prefix_refusal h count room ≡ Err r
    refused-32 a f x = asked-31-32 f ∙ then-readable _ (sym a) ∙ sym x

    pub passed-31-32 : {u v : Unit {0}} {fits : Bool} → ◌≡◌ {A = Checked} (Ok u) (asked (leb n 10) 31 count) → fits ≡ leb (marking_size h) room
        → ◌≡◌ {A = Checked} (Ok v) (asked fits 32 count) → prefix_refusal h count room ≡ Ok tt
    passed-31-32 a f x = asked-31-32 f ∙ then-readable _ (sym a) ∙ sym x

  pub passes-31-32 : begins h ≤ 10 → marking_size h ≤ room → prefix_refusal h count room ≡ Ok tt
  unfolding prefix_refusal
  passes-31-32 l k =
      asked-yes count 31 _ _ (le-leb (begins h) 10 l)
      ∙ asked-yes count 32 _ _ (le-leb (marking_size h) room k)
      ∙ asked-none count

  pub prefix-e : prefix_refusal h count room ≡ Ok tt → (begins h ≤ 10) × (marking_size h ≤ room)
  unfolding prefix_refusal
  prefix-e x = let a = asked-e count 31 _ _ x in let b = asked-e count 32 _ _ a.1 in (leb-true _ _ a.0, leb-true _ _ b.0)

-- ---- what an answer tells

-- a marking was found and written
pub record Marked (x : Checked) (m : Option (List ℕ)) (o : List ℕ) (n : ℕ) : Type 0 where
  pub passes : x ≡ Ok tt
  pub bytes : List ℕ
  pub found : m ≡ some bytes
  pub size : n ≡ length bytes
  pub output : (decided x m o).output ≡ over bytes o

pub marking-e : (x : Checked) (m : Option (List ℕ)) (o : List ℕ) (n : ℕ) → (decided x m o).result ≡ Ok (Some n) → Marked x m o n
unfolding decided
marking-e (Err r) m o n w = cc
marking-e (Ok tt) none o n w = cc
marking-e (Ok tt) (some bytes) o n w = record { passes = refl; bytes = bytes; found = refl; size = cc; output = refl }

-- none was found, and the output is as it was
pub none-e : (x : Checked) (m : Option (List ℕ)) (o : List ℕ) → (decided x m o).result ≡ Ok None → (x ≡ Ok tt) × (m ≡ none) × ((decided x m o).output ≡ o)
unfolding decided
none-e (Err r) m o w = cc
none-e (Ok tt) none o w = (refl, refl, refl)
none-e (Ok tt) (some bytes) o w = cc

-- a question said no, and the output is as it was
pub refused-e : (x : Checked) (m : Option (List ℕ)) (o : List ℕ) (r : Refusal) → (decided x m o).result ≡ Err r → (x ≡ Err r) × ((decided x m o).output ≡ o)
unfolding decided
refused-e (Err p) m o r w = (cc, refl)
refused-e (Ok tt) none o r w = cc
refused-e (Ok tt) (some bytes) o r w = cc

-- ---- what is said

pub said-marking : (x : Finding) (n : ℕ) → said x ≡ done (n ∷ []) → x ≡ Ok (Some n)
unfolding said
said-marking (Ok (Some m)) n e = cc
said-marking (Ok None) n e = cc
said-marking (Err r) n e = cc

pub said-none : (x : Finding) → said x ≡ nothing → x ≡ Ok None
unfolding said
said-none (Ok (Some m)) e = cc
said-none (Ok None) e = refl
said-none (Err r) e = cc

pub said-refused : (x : Finding) (q e : ℕ) → said x ≡ at_event q e → x ≡ Err (refuse q e)
unfolding said
said-refused (Ok (Some m)) q e k = cc
said-refused (Ok None) q e k = cc
said-refused (Err r) q e k =
    let a : r.question ≡ q = cc in
    let b : r.at ≡ e = cc in
    λ i. Err (refuse (a i) (b i))

-- ---- the questions of a call and of its events

module _ (edition : ℕ) (starts : List ℕ) (c : Columns) (count prefix : ℕ) where
  -- what it tells that none of them refuses
  pub record Called : Type 0 where
    pub held : hold c count ≡ true
    pub admitted : admits edition starts ≡ true
    pub inside : prefix ≤ count
    pub readable : readable_in edition (history c count) ≡ true

  called : call_refusal edition starts c count prefix ≡ Ok tt → Called
  unfolding call_refusal
  called x =
      let a = then-e _ _ x in
      let d = asked-e count 17 _ _ a.0 in
      let g = asked-e count 3 _ _ d.1 in
      let f = asked-e count 18 _ _ g.1 in
      record { held = d.0; admitted = g.0; inside = leb-true _ _ f.0; readable = answer-readable edition (history c count) a.1 }

  -- one after the other, as they are put
  pub not-held : hold c count ≡ false → Err (refuse 17 count) ≡ call_refusal edition starts c count prefix
  unfolding call_refusal
  not-held e = sym (then-refused _ (asked-no count 17 _ _ e))

  pub not-admitted : hold c count ≡ true → admits edition starts ≡ false → Err (refuse 3 count) ≡ call_refusal edition starts c count prefix
  unfolding call_refusal
  not-admitted e a = sym (then-refused _ (asked-yes count 17 _ _ e ∙ asked-no count 3 _ _ a))

  pub too_long : hold c count ≡ true → admits edition starts ≡ true → leb prefix count ≡ false → Err (refuse 18 count) ≡ call_refusal edition starts c count prefix
  unfolding call_refusal
  too_long e a l =
      sym (then-refused _ (asked-yes count 17 _ _ e ∙ asked-yes count 3 _ _ a ∙ asked-no count 18 _ _ l))

  held-events : hold c count ≡ true → columns_answer edition c count ≡ events_answer edition (history c count)
  unfolding columns_answer
  held-events e = rw e

  pub events-asked : hold c count ≡ true → admits edition starts ≡ true → prefix ≤ count → columns_answer edition c count ≡ call_refusal edition starts c count prefix
  unfolding call_refusal
  events-asked e a l =
      held-events e
      ∙ sym (then-readable _ (asked-yes count 17 _ _ e ∙ asked-yes count 3 _ _ a ∙ asked-yes count 18 _ _ (le-leb prefix count l) ∙ asked-none count))

  -- where the prefix is one of the history, they are those of the columns
  pub call-answers : prefix ≤ count → call_refusal edition starts c count prefix ≡ history_answer edition starts c count
  unfolding history_answer
  call-answers l = go (hold c count) refl (admits edition starts) refl
    where
      go : (x : Bool) → hold c count ≡ x → (y : Bool) → admits edition starts ≡ y
          → call_refusal edition starts c count prefix ≡ cond x (cond y (events_answer edition (history c count)) (Err (refuse 3 count))) (Err (refuse 17 count))
      go false e y a = sym (not-held e)
      go true e false a = sym (not-admitted e a)
      go true e true a = sym (events-asked e a l) ∙ held-events e

-- ---- all questions

module _ (edition : ℕ) (starts : List ℕ) (c : Columns) (count prefix room : ℕ) where
  pub passed : find_refusal edition starts c count prefix room ≡ Ok tt → Passed edition starts c count prefix room
  unfolding find_refusal
  passed x =
      let a = then-e _ _ x in
      let p = called edition starts c count prefix a.0 in
      let g = prefix-e (take prefix (history c count)) count room a.1 in
      record {
        held = p.held;
        admitted = p.admitted;
        inside = p.inside;
        readable = p.readable;
        few = g.0;
        fits = g.1;
      }

  pub passes : Passed edition starts c count prefix room → find_refusal edition starts c count prefix room ≡ Ok tt
  unfolding find_refusal
  passes p =
      let k : columns_answer edition c count ≡ Ok tt = readable-columns edition c count (hold-e c count p.held) p.readable in
      then-readable _ (sym (events-asked edition starts c count prefix p.held p.admitted p.inside) ∙ k)
      ∙ passes-31-32 (take prefix (history c count)) count room p.few p.fits

-- ---- what is decided of a call

module _ (edition : ℕ) (starts : List ℕ) (c : Columns) (count prefix : ℕ) (o : List ℕ) where
  call-refused : {r : Refusal} → call_refusal edition starts c count prefix ≡ Err r → gives (Err r) o ≡ found_answer edition starts c count prefix o
  unfolding found_answer find_refusal
  call-refused x = decided-refused _ o (then-refused _ x)

  -- 17, 3 and 18, one after the other
  pub refused-17 : {a : Bool} {r : Refusal} → ◌≡◌ {A = Checked} (Err r) (asked a 17 count) → a ≡ hold c count → gives (Err r) o ≡ found_answer edition starts c count prefix o
  refused-17 x held =
      let no = asked-refused _ _ _ x in
      call-refused (sym (not-held edition starts c count prefix (sym held ∙ no.0)) ∙ sym no.1)

  module _ {a : Bool} {u : Unit {0}} (yes : ◌≡◌ {A = Checked} (Ok u) (asked a 17 count)) (held : a ≡ hold c count) where
    pub refused-3 : {b : Bool} {r : Refusal} → ◌≡◌ {A = Checked} (Err r) (asked b 3 count) → b ≡ admits edition starts
        → gives (Err r) o ≡ found_answer edition starts c count prefix o
    refused-3 x admitted =
        let no = asked-refused _ _ _ x in
        call-refused (sym (not-admitted edition starts c count prefix (sym held ∙ asked-passed _ _ _ yes) (sym admitted ∙ no.0)) ∙ sym no.1)

    pub refused-18 : {b : Bool} {v : Unit {0}} {r : Refusal} → ◌≡◌ {A = Checked} (Ok v) (asked b 3 count) → b ≡ admits edition starts
        → ◌≡◌ {A = Checked} (Err r) (asked (leb prefix count) 18 count) → gives (Err r) o ≡ found_answer edition starts c count prefix o
    refused-18 y admitted x =
        let no = asked-refused _ _ _ x in
        call-refused (sym (too_long edition starts c count prefix (sym held ∙ asked-passed _ _ _ yes) (sym admitted ∙ asked-passed _ _ _ y) no.0) ∙ sym no.1)

  -- where the prefix is one of the history, the questions are those of the columns, and what is left is asked and decided of the prefix alone
  pub columns-refused : {r : Refusal} → prefix ≤ count → history_answer edition starts c count ≡ Err r → gives (Err r) o ≡ found_answer edition starts c count prefix o
  columns-refused l e = call-refused (call-answers edition starts c count prefix l ∙ e)

  pub columns-passed : {h : List Event} {u : Unit {0}} → prefix ≤ count → history_answer edition starts c count ≡ Ok u → h ≡ take prefix (history c count)
      → find_of starts h count o ≡ found_answer edition starts c count prefix o
  unfolding find_of found_answer find_refusal
  columns-passed l e same = rw (call-answers edition starts c count prefix l, e, same) (rw then-readable)

-- ---- the lowest marking

pub marking-some : (start : ℕ → ℕ) (h : List Event) {bytes : List ℕ} → lowest_marking start h ≡ some bytes
    → (J : List Place) × (lowest_of start h ≡ some J) × (bytes ≡ marking_bytes (marked h J))
unfolding lowest_marking
marking-some start h {bytes} e = go (lowest_of start h) refl e
  where
    go : (o : Option (List Place)) → lowest_of start h ≡ o → marking_of h o ≡ some bytes → (J : List Place) × (lowest_of start h ≡ some J) × (bytes ≡ marking_bytes (marked h J))
    go none q x = absurd (none-ne-some bytes x)
    go (some J) q x = (J, q, sym (some-injective (marking_bytes (marked h J)) bytes x))

pub some-marking : (start : ℕ → ℕ) (h : List Event) {J : List Place} → lowest_of start h ≡ some J → lowest_marking start h ≡ some (marking_bytes (marked h J))
unfolding lowest_marking
some-marking start h e = rw e

pub none-marking : (start : ℕ → ℕ) (h : List Event) → lowest_of start h ≡ none → lowest_marking start h ≡ none
unfolding lowest_marking
none-marking start h e = rw e

pub marking-none : (start : ℕ → ℕ) (h : List Event) → lowest_marking start h ≡ none → lowest_of start h ≡ none
unfolding lowest_marking
marking-none start h e = go (lowest_of start h) e
  where
    go : (o : Option (List Place)) → marking_of h o ≡ none → o ≡ none
    go none x = refl
    go (some J) x = absurd (some-ne-none (marking_bytes (marked h J)) x)

-- 18, put to a prefix that is longer
pub longer : (prefix count : ℕ) → count < prefix → ◌≡◌ {A = Checked} (Err (refuse 18 count)) (asked (leb prefix count) 18 count)
longer prefix count l = rw (lt-leb prefix count l)

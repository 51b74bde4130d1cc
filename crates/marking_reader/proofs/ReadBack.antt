-- The bytes of a content that is readable for a readable history are read as that content.
-- Assumes nothing.
use Prim.Native.Nat.{ℕ, zero, suc, ◌+◌, ◌≤◌, ◌<◌}
use native.Mathlib.Nat.{add-zero, add_assoc, le_refl, lt_of_not-le}
use native.Mathlib.Decide.{dec_le}
use native.Mathlib.Omega.{arith}
use mathlib.Core.Path.{◌≡◌, refl, sym, ap, ◌∙◌, subst}
use mathlib.Core.Bool.{Bool, true, false}
use mathlib.Core.List.{List, [], ◌∷◌, ◌++◌, map, append_assoc, append-nil}
use mathlib.Core.Option.{Option, none, some, get_or}
use lib.Dec.{eqb, ltb, leb}
use lib.ListN.{length, length-append}
use borrow.Author.Tests.{lt-ltb, ltb-true, le-ltb, le-leb, leb-true}
use Rattle.events.specs.declared.event.Event.{Event}
use Rattle.std.specs.Prelude.{Ok}
use Rattle.records.specs.declared.record.Found.TheVariants.{Whole}
use Rattle.records.specs.Bytes.{u16_bytes, u32_bytes}
use Rattle.lists.specs.Lists.{◌and◌, ◌or◌, any, all, every, keep, push, latest, range}
use Rattle.events.specs.Questions.{refusal, readable}
use Rattle.records.specs.Records.{record_at}
use Rattle.records.proofs.FieldLaws.{u16-back, u32-back, whole-at, record-back, part-back}
use Rattle.lists.proofs.ListLaws.{all-weaken, and_i, and_l, and_r, imp-i, every-i, latest-snoc, clash, keep-member}
use Rattle.events.proofs.ReadableLaws.{readable-most}
use Rattle.opacity.specs.Transactions.{is_store_read, store_reads}
use Rattle.opacity.specs.Justification.{Place, placed, distinct, is_order}
use Rattle.opacity.specs.Marking.{Marking, Point, ReadableFor, marking_head, outcome_number, place_bytes, point_bytes, flat, marking_bytes}
use Rattle.opacity.proofs.Bounds.{at-most-64, reads-low}
use Rattle.opacity.proofs.MarkingBytes.{marking-length, readable-length}
use Rattle.opacity.proofs.Orders.{distinct-at}
use Rattle.marking_reader.specs.declared.step.MarkingStep.TheVariants.{Placed, Pointed, Finished}
use Rattle.marking_reader.specs.File.{Known, known, asked, transaction_in, outcome_in, event_in, gap_in, next_event, every_placed, has_point}
use Rattle.marking_reader.specs.File.{every_pointed, head_questions, end_questions, body_step, end_step, step_on, step_at, continued, walk}
use Rattle.marking_reader.specs.File.{FileRead, content, opening, nothing_read, after_opening, file_read}
use Rattle.marking_reader.specs.State.{place_questions, point_questions, place_step, point_step}
use Rattle.marking_reader.proofs.StepLaws.{body-place, body-point}
use Rattle.marking_reader.proofs.PointLaws.{beyond-history}

-- one after another, each at least the bound and one past the one before
unfoldable pub rising : ℕ → List ℕ → Bool
rising b [] = true
rising b (x ∷ xs) = leb b x and rising (x + 1) xs

unfoldable from : ℕ → ℕ → List ℕ
from a zero = []
from a (suc k) = a ∷ from (a + 1) k

from-snoc : (a k : ℕ) → from a (suc k) ≡ from a k ++ ((a + k) ∷ [])
unfolding from
from-snoc a zero = ap (λ (x : ℕ). x ∷ []) (sym (add-zero a))
from-snoc a (suc k) =
    let next : a + 1 + k ≡ a + suc k = add_assoc a 1 k ∙ ap (λ (x : ℕ). a + x) (one-add k) in
    ap (λ (x : List ℕ). a ∷ x) (from-snoc (a + 1) k ∙ ap (λ (x : ℕ). from (a + 1) k ++ (x ∷ [])) next)
  where
    one-add : (j : ℕ) → 1 + j ≡ suc j
    one-add j = omega arith

range-from : (n : ℕ) → range n ≡ from 0 n
unfolding range from
range-from zero = refl
range-from (suc n) =
    ap (λ (x : List ℕ). x ++ (n ∷ [])) (range-from n) ∙ sym (from-snoc 0 n ∙ ap (λ (x : ℕ). from 0 n ++ (x ∷ [])) (zero-add n))
  where
    zero-add : (j : ℕ) → 0 + j ≡ j
    zero-add j = omega arith

module _ (p : ℕ → Bool) where
  keep-rising : (a k b : ℕ) → b ≤ a → rising b (keep p (from a k)) ≡ true
  unfolding from keep rising
  keep-rising a zero b l = refl
  keep-rising a (suc k) b l = go (p a) (λ c m. keep-rising (a + 1) k c m)
    where
      go : (x : Bool) → ((c : ℕ) → c ≤ a + 1 → rising c (keep p (from (a + 1) k)) ≡ true)
          → rising b (push x a (keep p (from (a + 1) k))) ≡ true
      go true ih = and_i _ _ (le-leb b a l) (ih (a + 1) (le_refl (a + 1)))
      go false ih = ih b (omega arith)

  pub keep-passes : (xs : List ℕ) → all p (keep p xs) ≡ true
  unfolding all keep
  keep-passes [] = refl
  keep-passes (x ∷ xs) = go (p x) refl (keep-passes xs)
    where
      go : (b : Bool) → p x ≡ b → all p (keep p xs) ≡ true → all p (push b x (keep p xs)) ≡ true
      go true e ih = and_i _ _ e ih
      go false e ih = ih

-- the numbers below n that pass rise
pub passing-rise : (p : ℕ → Bool) (n : ℕ) → rising 0 (keep p (range n)) ≡ true
passing-rise p n = rw (range-from n) (keep-rising p 0 n 0 (le_refl 0))

place-taken : (b next : ℕ) (used : ℕ → Bool) (at : ℕ) (body : List ℕ) (t o end : ℕ) → length body ≡ 4 → transaction_in body ≡ t → outcome_in body ≡ o
    → next ≡ 0 → t < b → used t ≡ false → o < 2 → place_step b next used at body end ≡ Ok (Placed t o end)
unfolding place_step place_questions refusal ◌and◌
place-taken b next used at body t o end z x y n l u m = rw (z, x, y, n, lt-ltb t b l, u, lt-ltb o 2 m)

point-taken : (b next : ℕ) (pl : Bool) (reads : ℕ → Bool) (at : ℕ) (body : List ℕ) (e g end : ℕ)
    → length body ≡ 6 → event_in body ≡ e → gap_in body ≡ g → pl ≡ true → leb next e ≡ true → reads e ≡ true → leb g b ≡ true
    → point_step b next pl reads at body end ≡ Ok (Pointed e g end)
unfolding point_step point_questions refusal ◌and◌
point-taken b next pl reads at body e g end z x y p l r m = rw (z, x, y, imp-i (eqb next 0) pl (λ w. p), l, r, m)

module _ (k : Known) (pointed : Bool) (m : Marking) (pre rest : List ℕ) where
  place-back : (p : Place) → p.transaction < k.transactions → k.transactions ≤ 64 → placed p.transaction m.places ≡ false
      → next_event m.points ≡ 0
      → step_at (asked k m) pointed (pre ++ (place_bytes p ++ rest)) (length pre)
      ≡ Ok (Placed p.transaction (outcome_number p.committed) (length pre + 4 + 4))
  unfolding step_at
  place-back p l few fresh none_yet =
      let body : List ℕ = u16_bytes p.transaction ++ u16_bytes (outcome_number p.committed) in
      let o : outcome_number p.committed < 2 = low-outcome p.committed in
      let t = u16-back p.transaction (omega arith) in
      let c = u16-back (outcome_number p.committed) (omega arith) in
      ap (step_on (asked k m) pointed (pre ++ (place_bytes p ++ rest)) (length pre)) (record-back pre body rest 32 4 (omega arith) refl (omega arith))
      ∙ (ap (λ (b : List ℕ). body_step (asked k m) (length pre) 32 b (length pre + 4 + 4)) (part-back pre body rest 32 4 (omega arith) refl (omega arith))
      ∙ (body-place (asked k m) (length pre) 32 body (length pre + 4 + 4) refl
      ∙ place-taken k.transactions (next_event m.points) (λ t. placed t m.places) (length pre) body _ _ _ refl t c none_yet l fresh o))
    where
      low-outcome : (b : Bool) → outcome_number b < 2
      low-outcome true = omega arith
      low-outcome false = omega arith

  point-back : (q : Point) → q.event < 4294967296 → q.gap < 65536 → every_placed k m ≡ true
      → leb (next_event m.points) q.event ≡ true → k.store_read q.event ≡ true → leb q.gap k.transactions ≡ true
      → step_at (asked k m) pointed (pre ++ (point_bytes q ++ rest)) (length pre) ≡ Ok (Pointed q.event q.gap (length pre + 4 + 6))
  unfolding step_at
  point-back q le lg full above read low =
      let body : List ℕ = u32_bytes q.event ++ u16_bytes q.gap in
      let e = u32-back q.event le in
      let g = u16-back q.gap lg in
      ap (step_on (asked k m) pointed (pre ++ (point_bytes q ++ rest)) (length pre)) (record-back pre body rest 33 6 (omega arith) refl (omega arith))
      ∙ (ap (λ (b : List ℕ). body_step (asked k m) (length pre) 33 b (length pre + 4 + 6)) (part-back pre body rest 33 6 (omega arith) refl (omega arith))
      ∙ (body-point (asked k m) (length pre) 33 body (length pre + 4 + 6) refl
      ∙ point-taken k.transactions (next_event m.points) (every_placed k m) k.store_read (length pre) body _ _ _ refl e g full above read low))

end_back : (k : Known) (m : Marking) (s : List ℕ) → every_placed k m ≡ true → every_pointed k m ≡ true
    → step_at (asked k m) (every_pointed k m) s (length s) ≡ Ok Finished
unfolding step_at end_step end_questions refusal
end_back k m s p q = rw (le-ltb (length s) (length s) (le_refl (length s)), p, q)

next_more : (done : List Point) (q : Point) → next_event (done ++ (q ∷ [])) ≡ q.event + 1
unfolding next_event
next_more done q = ap (λ (o : Option ℕ). get_or o 0) (latest-snoc (λ p. some (p.event + 1)) done q)

outcome-is : (c : Bool) → eqb (outcome_number c) 1 ≡ c
outcome-is true = refl
outcome-is false = refl

-- the walk over the points that are left, then over the places
module _ (k : Known) (few : k.transactions ≤ 64) (P : List Place) (all-points : List Point)
    (full : every (λ t. placed t P) k.transactions ≡ true)
    (complete : every_pointed k (record { places = P; points = all-points }) ≡ true) where
  -- the whole marking, the one with the points up to some, and the one with places alone
  abbrev whole : Marking
  whole = record { places = P; points = all-points }

  abbrev up_to : List Point → Marking
  up_to done = record { places = P; points = done }

  abbrev unpointed : List Place → Marking
  unpointed done = record { places = done; points = [] }

  -- one step of the walk
  abbrev step : ℕ → List ℕ → ℕ → Marking → FileRead
  step n s at m = continued (walk k n s) m (step_at (asked k m) (every_pointed k m) s at)

  points-back : (qs done : List Point) (pre : List ℕ) (n : ℕ) → done ++ qs ≡ all-points → length qs < n
      → rising (next_event done) (map (λ q. q.event) qs) ≡ true → all (λ q. k.store_read q.event) qs ≡ true
      → all (λ q. ltb q.event 4294967296) qs ≡ true → all (λ q. leb q.gap k.transactions) qs ≡ true
      → walk k n (pre ++ flat point_bytes qs) (length pre) (up_to done) ≡ content whole
  unfolding walk flat every_placed all rising
  points-back [] done pre zero e l r a w g = absurd (omega arith)
  points-back [] done pre (suc n) e l r a w g =
      let d : done ≡ all-points = sym (append-nil done) ∙ e in
      let c : every_pointed k (up_to done) ≡ true = rw d complete in
      subst (λ (x : List ℕ). step n x (length pre) (up_to done) ≡ content whole) (sym (append-nil pre))
      (ap (continued (walk k n pre) (up_to done)) (end_back k (up_to done) pre full c)
      ∙ ap (λ (x : List Point). content (record { places = P; points = x })) d)
  points-back (q ∷ qs) done pre zero e l r a w g = absurd (omega arith)
  points-back (q ∷ qs) done pre (suc n) e l r a w g =
      let gl : q.gap ≤ k.transactions = leb-true _ _ (and_l _ _ g) in
      let m = up_to done in
      let x : length pre + 4 + 6 ≡ length (pre ++ point_bytes q) = omega (arith, length-append pre (point_bytes q)) in
      let later = flat point_bytes qs in
      let y : pre ++ (point_bytes q ++ later) ≡ (pre ++ point_bytes q) ++ later = sym (append_assoc pre (point_bytes q) later) in
      let d : (done ++ (q ∷ [])) ++ qs ≡ all-points = append_assoc done (q ∷ []) qs ∙ e in
      let v : next_event (done ++ (q ∷ [])) ≡ q.event + 1 = next_more done q in
      ap (continued (walk k n (pre ++ (point_bytes q ++ later))) m)
      (point-back k (every_pointed k m) m pre later q (ltb-true _ _ (and_l _ _ w)) (omega arith) full
      (and_l _ _ r) (and_l _ _ a) (and_l _ _ g))
      ∙ ((λ i. walk k n (y i) (x i) (record { places = P; points = done ++ (q ∷ []) }))
      ∙ points-back qs (done ++ (q ∷ [])) (pre ++ point_bytes q) n d (omega arith) (rw v (and_r _ _ r))
      (and_r _ _ a) (and_r _ _ w) (and_r _ _ g))

  module _ (ordered-low : all (λ p. ltb p.transaction k.transactions) P ≡ true) (apart : distinct P ≡ true)
      (r : rising 0 (map (λ q. q.event) all-points) ≡ true) (a : all (λ q. k.store_read q.event) all-points ≡ true)
      (w : all (λ q. ltb q.event 4294967296) all-points ≡ true) (g : all (λ q. leb q.gap k.transactions) all-points ≡ true) where
    places-back : (ps done : List Place) (pre : List ℕ) (n : ℕ) → done ++ ps ≡ P → length ps + length all-points < n
        → all (λ p. ltb p.transaction k.transactions) ps ≡ true
        → walk k n (pre ++ (flat place_bytes ps ++ flat point_bytes all-points)) (length pre) (unpointed done) ≡ content whole
    unfolding walk flat all next_event latest
    places-back [] done pre n e l low =
        let d : done ≡ P = sym (append-nil done) ∙ e in
        rw d (points-back all-points [] pre n refl (omega arith) r a w g)
    places-back (p ∷ ps) done pre zero e l low = absurd (omega arith)
    places-back (p ∷ ps) done pre (suc n) e l low =
        let m = unpointed done in
        let rest : List ℕ = flat place_bytes ps ++ flat point_bytes all-points in
        let x : length pre + 4 + 4 ≡ length (pre ++ place_bytes p) = omega (arith, length-append pre (place_bytes p)) in
        let z : pre ++ ((place_bytes p ++ flat place_bytes ps) ++ flat point_bytes all-points) ≡ pre ++ (place_bytes p ++ rest) =
        ap (λ (b : List ℕ). pre ++ b) (append_assoc (place_bytes p) (flat place_bytes ps) (flat point_bytes all-points)) in
        let y : pre ++ (place_bytes p ++ rest) ≡ (pre ++ place_bytes p) ++ rest = sym (append_assoc pre (place_bytes p) rest) in
        let d : (done ++ (p ∷ [])) ++ ps ≡ P = append_assoc done (p ∷ []) ps ∙ e in
        let fresh : placed p.transaction done ≡ false = (distinct-at done p ps (ap distinct e ∙ apart)).0 in
        let c = outcome-is p.committed in
        ap (λ (b : List ℕ). step n b (length pre) m) z
        ∙ (ap (continued (walk k n (pre ++ (place_bytes p ++ rest))) m)
        (place-back k (every_pointed k m) m pre rest p (ltb-true _ _ (and_l _ _ low)) few fresh refl)
        ∙ ((λ i. walk k n (y i) (x i) (unpointed (done ++ (record { transaction = p.transaction; committed = c i } ∷ []))))
        ∙ places-back ps (done ++ (p ∷ [])) (pre ++ place_bytes p) n d (omega arith) (and_r _ _ low)))

    head-back : length (marking_bytes whole) ≤ 32768 → opening (marking_bytes whole) ≡ none
    unfolding marking_bytes opening head_questions refusal ◌and◌
    head-back l =
        let s : List ℕ = flat place_bytes P ++ flat point_bytes all-points in
        let e : record_at (marking_head ++ s) 0 ≡ Whole (record { kind = 2; start = 4; size = 2 }) =
        whole-at (marking_head ++ s) 0 2 2 refl refl (omega (arith, length-append marking_head s)) in
        rw (le-leb _ _ l, e)

    marking-back : length (marking_bytes whole) ≤ 32768
        → file_read k (marking_bytes whole) ≡ content whole
    unfolding file_read marking_bytes
    marking-back l =
        ap (after_opening k (marking_bytes whole)) (head-back l) ∙ start
      where
        enough : length P + length all-points < suc (length (marking_bytes whole))
        enough = omega (arith, marking-length whole)

        start : walk k (suc (length (marking_bytes whole))) (marking_bytes whole) 6 nothing_read ≡ content whole
        start = places-back P [] marking_head _ refl enough ordered-low

-- ---- a content that is readable for a readable history

all-events : (p : ℕ → Bool) (qs : List Point) → all (λ q. p q.event) qs ≡ all p (map (λ q. q.event) qs)
unfolding all
all-events p [] = refl
all-events p (q ∷ qs) = ap (λ (b : Bool). p q.event and b) (all-events p qs)

any-events : (i : ℕ) (qs : List Point) → any (λ q. eqb q.event i) qs ≡ any (λ x. eqb x i) (map (λ q. q.event) qs)
unfolding any
any-events i [] = refl
any-events i (q ∷ qs) = ap (λ (b : Bool). eqb q.event i or b) (any-events i qs)

module _ (h : List Event) (m : Marking) (r : readable h ≡ true) (f : ReadableFor h m) where
  reads-rise : rising 0 (map (λ q. q.event) m.points) ≡ true
  unfolding store_reads
  reads-rise = rw f.reads (passing-rise (is_store_read h) (length h))

  reads-are : all (is_store_read h) (map (λ q. q.event) m.points) ≡ true
  unfolding store_reads
  reads-are = rw f.reads (keep-passes (is_store_read h) (range (length h)))

  read_low : (i : ℕ) → is_store_read h i ≡ true → ltb i 4294967296 ≡ true
  read_low i e =
      elim (dec_le (length h) i) [
        | yes l ↦ absurd (clash e (beyond-history h i l))
        | no u ↦ lt-ltb i 4294967296 (let l = lt_of_not-le u in let k = readable-most h r in omega arith)
      ]

  pointed : every_pointed (known h) m ≡ true
  unfolding every_pointed has_point store_reads
  pointed =
      every-i _ (length h)
      (λ i l. imp-i _ _ (λ e. any-events i m.points ∙ rw f.reads (keep-member (is_store_read h) (length h) i l e)))

  small : length (marking_bytes m) ≤ 32768
  small = omega (arith, readable-length h m f, at-most-64 h r, reads-low h r)

  -- the bytes of a content that is readable for the history are read as it
  pub bytes-content : file_read (known h) (marking_bytes m) ≡ content m
  unfolding is_order
  bytes-content =
      let low = all-weaken (is_store_read h) (λ i. ltb i 4294967296) (map (λ q. q.event) m.points) read_low reads-are in
      marking-back (known h) (at-most-64 h r) m.places m.points (and_r _ _ (and_r _ _ f.order)) pointed
      (and_l _ _ f.order) (and_l _ _ (and_r _ _ f.order))
      reads-rise (all-events (is_store_read h) m.points ∙ reads-are)
      (all-events (λ i. ltb i 4294967296) m.points ∙ low)
      f.gaps small

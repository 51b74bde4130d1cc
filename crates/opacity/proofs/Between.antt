-- Rule D is broken exactly where a writer other than the reader stands between point and reader.
-- Assumes nothing.
use Prim.Native.Nat.{ℕ, suc, ◌+◌, ◌-◌, ◌≤◌, ◌<◌, min, max}
use native.Mathlib.Nat.{min-eq_left, min-eq_right, max-eq_left, max-eq_right, min-le_left, lt_of_not-le, le_of_lt}
use native.Mathlib.Decide.{dec_le}
use native.Mathlib.Omega.{arith}
use mathlib.Core.Path.{◌≡◌, refl, sym, ap, ◌∙◌}
use mathlib.Core.Logic.{inl, inr, ◌↔◌}
use mathlib.Core.Bool.{Bool, true, false, not, cond, true≢false}
use mathlib.Core.List.{List, [], ◌∷◌, ◌++◌, append_assoc}
use mathlib.Core.Option.{Option, none, some}
use lib.ListN.{length, take, drop, take-append-drop, length-append, length-take, length-drop}
use lib.Seq.{length-take-le, take-append-add, drop-append-le}
use borrow.Author.Tests.{eqb-true, eqb-false, ne_eqb}
use Rattle.lists.specs.Lists.{◌implies◌, or_else, is_none, keep, push, latest}
use Rattle.events.specs.declared.event.Event.{Event}
use Rattle.events.specs.Events.{event_at}
use Rattle.lists.proofs.ListLaws.{not-true, clash}
use Rattle.opacity.specs.Transactions.{last_write, writes, is_store_read, LastWrite}
use Rattle.opacity.specs.Justification.{Place, is_of, before, written}
use Rattle.opacity.specs.Marking.{Marking, gap_of, place_of, others, between, no_writer_between, rule_holds, D}
use Rattle.opacity.specs.Verdicts.{Holds, Between, WriterBetween}
use Rattle.opacity.proofs.Meanings.{no-write-means, last-write-means}
use Rattle.opacity.proofs.FirstLaws.{implies-false}

-- ---- an element with an answer among those kept

-- xs is cut at an element that passes q and has an answer
record Answering {A B : Type 0} (f : A → Option B) (q : A → Bool) (xs : List A) : Type 0 where
  front : List A
  here : A
  back : List A
  cut : xs ≡ front ++ here ∷ back
  kept : q here ≡ true
  answers : is_none (f here) ≡ false

module _ {A B : Type 0} (f : A → Option B) (q : A → Bool) where
  behind : (x : A) (xs : List A) → Answering f q xs → Answering f q (x ∷ xs)
  behind x xs w =
      record {
        front = x ∷ w.front;
        here = w.here;
        back = w.back;
        cut = ap (λ (l : List A). x ∷ l) w.cut;
        kept = w.kept;
        answers = w.answers;
      }

  answering : (xs : List A) → is_none (latest f (keep q xs)) ≡ false → Answering f q xs
  unfolding keep latest
  answering [] e = absurd (true≢false e)
  answering (x ∷ xs) e = go (q x) refl e (answering xs)
    where
      first : (o : Option B) → q x ≡ true → is_none (or_else o (f x)) ≡ false → (is_none o ≡ false → Answering f q xs) → Answering f q (x ∷ xs)
      first none k a ih = record { front = []; here = x; back = xs; cut = refl; kept = k; answers = a }
      first (some y) k a ih = behind x xs (ih refl)

      go : (b : Bool) → q x ≡ b → is_none (latest f (push b x (keep q xs))) ≡ false
          → (is_none (latest f (keep q xs)) ≡ false → Answering f q xs) → Answering f q (x ∷ xs)
      go true k a ih = first (latest f (keep q xs)) k a ih
      go false k a ih = behind x xs (ih a)

  -- an answer before or behind another
  either_l : (o p : Option B) → is_none o ≡ false → is_none (or_else o p) ≡ false
  either_l none p e = absurd (true≢false e)
  either_l (some y) p e = refl

  either_r : (o p : Option B) → is_none p ≡ false → is_none (or_else o p) ≡ false
  either_r none p e = e
  either_r (some y) p e = refl

  answered : (front : List A) (x : A) (back : List A) → q x ≡ true → is_none (f x) ≡ false
      → is_none (latest f (keep q (front ++ x ∷ back))) ≡ false
  unfolding keep latest
  answered [] x back k a = rw k (either_r (latest f (keep q back)) (f x) a)
  answered (y ∷ front) x back k a = go (q y) (answered front x back k a)
    where
      go : (b : Bool) → is_none (latest f (keep q (front ++ x ∷ back))) ≡ false
          → is_none (latest f (push b y (keep q (front ++ x ∷ back)))) ≡ false
      go true i = either_l (latest f (keep q (front ++ x ∷ back))) (f y) i
      go false i = i

-- ---- a part of a list

-- the same of the elements from number a on and below number b
record Within {A B : Type 0} (f : A → Option B) (q : A → Bool) (a b : ℕ) (xs : List A) : Type 0 where
  whole : Answering f q xs
  low : a ≤ length whole.front
  high : length whole.front < b

module _ {A B : Type 0} (f : A → Option B) (q : A → Bool) (a b : ℕ) (xs : List A) where
  widened : a ≤ b → Answering f q (drop a (take b xs)) → Within f q a b xs
  widened l w =
      let part : List A = take b xs in
      let size : length (drop a part) ≡ length w.front + suc (length w.back) =
      ap length w.cut ∙ length-append w.front (w.here ∷ w.back) in
      let rest : length (drop a part) ≡ length part - a = length-drop a part in
      let some_left : a ≤ length part = omega arith in
      let front_long : length (take a part ++ w.front) ≡ a + length w.front =
      length-append (take a part) w.front ∙ ap (λ (n : ℕ). n + length w.front) (length-take-le a part some_left) in
      let part-short : length part ≤ b = rw (length-take b xs) (min-le_left b (length xs)) in
      record {
        whole = record {
          front = take a part ++ w.front;
          here = w.here;
          back = w.back ++ drop b xs;
          cut = joined;
          kept = w.kept;
          answers = w.answers;
        };
        low = omega arith;
        high = omega arith;
      }
    where
      joined : xs ≡ (take a (take b xs) ++ w.front) ++ w.here ∷ (w.back ++ drop b xs)
      joined =
          sym (take-append-drop b xs)
          ∙ ap (λ (l : List A). l ++ drop b xs) (sym (take-append-drop a (take b xs)))
          ∙ ap (λ (l : List A). (take a (take b xs) ++ l) ++ drop b xs) w.cut
          ∙ simp append_assoc

  narrowed : (w : Within f q a b xs) → is_none (latest f (keep q (drop a (take b xs)))) ≡ false
  narrowed w =
      ap (λ (l : List A). is_none (latest f (keep q l))) part
      ∙ answered f q (drop a w.whole.front) w.whole.here (take k w.whole.back) w.whole.kept w.whole.answers
    where
      k : ℕ
      k = b - suc (length w.whole.front)

      long : b ≡ length w.whole.front + suc k
      long = omega (arith, w.high)

      part : drop a (take b xs) ≡ drop a w.whole.front ++ w.whole.here ∷ take k w.whole.back
      part =
          ap (λ (n : ℕ). drop a (take n xs)) long
          ∙ ap (λ (l : List A). drop a (take (length w.whole.front + suc k) l)) w.whole.cut
          ∙ ap (drop a) (take-append-add w.whole.front (w.whole.here ∷ w.whole.back) (suc k))
          ∙ drop-append-le a w.whole.front (w.whole.here ∷ take k w.whole.back) w.low

-- ---- rule D

-- the place whose number is t's is that of t
own-place : (t : ℕ) (front : List Place) (here : Place) (back : List Place) → length front ≡ place_of t (front ++ here ∷ back)
    → here.transaction ≡ t
unfolding place_of before
own-place t [] here back e = go (is_of t here) refl e
  where
    go : (b : Bool) → is_of t here ≡ b → 0 ≡ length (cond b [] (here ∷ before t back)) → here.transaction ≡ t
    go true k q = eqb-true _ _ k
    go false k q = absurd (omega arith)
own-place t (p ∷ front) here back e = go (is_of t p) e (own-place t front here back)
  where
    go : (b : Bool) → suc (length front) ≡ length (cond b [] (p ∷ before t (front ++ here ∷ back)))
        → (length front ≡ length (before t (front ++ here ∷ back)) → here.transaction ≡ t) → here.transaction ≡ t
    go true q ih = absurd (omega arith)
    go false q ih = ih (omega arith)

-- a writer of r: it is committed, and an event of its transaction writes r
record Writer (h : List Event) (r : ℕ) (p : Place) : Type 0 where
  committed : p.committed ≡ true
  event : ℕ
  inside : event < length h
  write : writes h p.transaction r event ≡ true

module _ (h : List Event) (r : ℕ) (p : Place) where
  writer : is_none (written h r p) ≡ false → Writer h r p
  unfolding written
  writer e = go p.committed refl e
    where
      wrote : (o : Option ℕ) → last_write h p.transaction r ≡ o → is_none o ≡ false → p.committed ≡ true → Writer h r p
      wrote none q a k = absurd (true≢false a)
      wrote (some v) q a k =
          let w : LastWrite h p.transaction r v = (last-write-means h p.transaction r v).0 q in
          record { committed = k; event = w.event; inside = w.inside; write = w.write }

      go : (b : Bool) → p.committed ≡ b → is_none (cond b (last_write h p.transaction r) none) ≡ false → Writer h r p
      go true k a = wrote (last_write h p.transaction r) refl a k
      go false k a = absurd (true≢false a)

  counts : Writer h r p → is_none (written h r p) ≡ false
  unfolding written
  counts w = rw w.committed (go (last_write h p.transaction r) refl)
    where
      go : (o : Option ℕ) → last_write h p.transaction r ≡ o → is_none o ≡ false
      go none q = absurd (clash w.write (no-write-means h p.transaction r q w.event w.inside))
      go (some v) q = refl

module _ (h : List Event) (J : List Place) (g i : ℕ) where
  abbrev register : ℕ
  register = (event_at h i).register

  abbrev reader : ℕ
  reader = place_of (event_at h i).transaction J

  abbrev another : Place → Bool
  another p = not (is_of (event_at h i).transaction p)

  abbrev by_another : List Place → Option ℕ
  by_another P = latest (written h register) (others (event_at h i).transaction P)

  writer-between : (w : Answering (written h register) another J) → Between g reader (length w.front) → WriterBetween h J g i
  writer-between w b =
      let c = writer h register w.here w.answers in
      record {
        front = w.front;
        here = w.here;
        back = w.back;
        cut = w.cut;
        between = b;
        other = eqb-false _ _ (not-true _ w.kept);
        committed = c.committed;
        event = c.event;
        inside = c.inside;
        write = c.write;
      }

  -- the reader's own place is not another's
  passed : (w : Answering (written h register) another J) → reader ≤ length w.front → reader < length w.front
  passed w l = omega (arith, apart)
    where
      apart : length w.front ≡ reader → ⊥
      apart e =
          eqb-false _ _ (not-true _ w.kept)
          (own-place (event_at h i).transaction w.front w.here w.back (e ∙ ap (place_of (event_at h i).transaction) w.cut))

  found : is_none (by_another (between g reader J)) ≡ false → WriterBetween h J g i
  unfolding between others
  found e =
      elim (dec_le g reader) [
        | yes l ↦
            let w = within g reader l (rw (min-eq_left l, max-eq_right l) at e) in
            writer-between w.whole (inl (w.low, w.high))
        | no u ↦
            let l : reader ≤ g = le_of_lt (lt_of_not-le u) in
            let w = within reader g l (rw (min-eq_right l, max-eq_left l) at e) in
            writer-between w.whole (inr (passed w.whole w.low, w.high))
      ]
    where
      within : (a b : ℕ) → a ≤ b → is_none (latest (written h register) (keep another (drop a (take b J)))) ≡ false
          → Within (written h register) another a b J
      within a b l n = widened (written h register) another a b J l (answering (written h register) another (drop a (take b J)) n)

  lost : WriterBetween h J g i → is_none (by_another (between g reader J)) ≡ false
  unfolding between others
  lost w = either w.between
    where
      wrote : Writer h register w.here
      wrote = record { committed = w.committed; event = w.event; inside = w.inside; write = w.write }

      whole : Answering (written h register) another J
      whole =
          record {
            front = w.front;
            here = w.here;
            back = w.back;
            cut = w.cut;
            kept = ap not (ne_eqb _ _ w.other);
            answers = counts h register w.here wrote;
          }

      part : (a b : ℕ) → a ≤ length w.front → length w.front < b
          → is_none (latest (written h register) (keep another (drop a (take b J)))) ≡ false
      part a b l u = narrowed (written h register) another a b J (record { whole = whole; low = l; high = u })

      either : Between g reader (length w.front)
          → is_none (latest (written h register) (keep another (drop (min g reader) (take (max g reader) J)))) ≡ false
      either (inl s) = let l : g ≤ reader = omega arith in rw (min-eq_left l, max-eq_right l) (part g reader s.0 s.1)
      either (inr s) = let l : reader ≤ g = omega arith in rw (min-eq_right l, max-eq_left l) (part reader g (le_of_lt s.0) s.1)

  -- Rule D says no at a store read exactly if a writer other than the reader stands between point and reader.
  pub writer-between-iff : is_store_read h i ≡ true → (no_writer_between h J g i ≡ false) ↔ WriterBetween h J g i
  unfolding no_writer_between ◌implies◌
  writer-between-iff s = (
    λ e. found (implies-false (is_store_read h i) (is_none (by_another (between g reader J))) e).1,
    λ w. rw s (lost w),
  )

-- Rule D holds exactly if no store read has such a writer.
pub D-means : (start : ℕ → ℕ) (h : List Event) (m : Marking)
    → Holds start h m D ↔ ((i : ℕ) → i < length h → is_store_read h i ≡ true → WriterBetween h m.places (gap_of m.points i) i → ⊥)
unfolding rule_holds no_writer_between
D-means start h m = (
  λ f i l s w. clash (f i l) ((writer-between-iff h m.places (gap_of m.points i) i s).1 w),
  λ f i l. go f i l (no_writer_between h m.places (gap_of m.points i) i) refl,
)
  where
    go : ((i : ℕ) → i < length h → is_store_read h i ≡ true → WriterBetween h m.places (gap_of m.points i) i → ⊥)
        → (i : ℕ) → i < length h → (b : Bool) → no_writer_between h m.places (gap_of m.points i) i ≡ b → b ≡ true
    go f i l true e = refl
    go f i l false e =
        let s = (implies-false (is_store_read h i) _ e).0 in
        absurd (f i l s ((writer-between-iff h m.places (gap_of m.points i) i s).0 e))

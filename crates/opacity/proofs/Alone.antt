-- A lone access judges like the transaction that it stands for, spelled out with nothing in between: begin, call, return, commit called and
-- committed. A history that ends with the one is justified by the same orders as with the other, and has the same lowest.
-- Assumes nothing.
use Prim.Native.Nat.{ℕ, zero, suc, ◌+◌, ◌<◌}
use native.Mathlib.Nat.{not-suc-le-zero, le_of_suc-le-suc, suc-le-suc_iff, zero-lt-suc}
use native.Mathlib.Omega.{arith}
use mathlib.Core.Path.{◌≡◌, refl, sym, ap, ap₂, ◌∙◌}
use mathlib.Core.Logic.{◌↔◌}
use mathlib.Core.Bool.{Bool, true, false, cond, true≢false}
use mathlib.Core.List.{List, [], ◌∷◌, ◌++◌, append-nil, append_assoc}
use mathlib.Core.Option.{Option, none, some}
use lib.Dec.{eqb, ltb}
use lib.ListN.{length, drop, length-append, get_or-append}
use lib.Seq.{take_at, get_or-append_seam}
use borrow.Author.Tests.{eqb-true, ltb-true, lt-ltb}
use Rattle.lists.specs.Lists.{◌and◌, ◌or◌, ◌implies◌, push, any, all, keep}
use Rattle.events.specs.declared.event.Event.{Event}
use Rattle.events.specs.Events.{no_event, event_at, is_lone, is_begin, answers_read, is_read, is_write, asks_commit, is_commit, is_abort, is_end, by, has, begins}
use Rattle.events.specs.Questions.{readable}
use Rattle.events.specs.Spelled.{spelled}
use Rattle.lists.proofs.ListLaws.{and_l, and_r, and_i, and_false_r, or_l, or_r, nor-l, nor-r, every-e, every-i, eqb-self, all-weaken, keep_append}
use Rattle.events.proofs.EventLaws.{begins-snoc, begins-same}
use Rattle.events.proofs.KindLaws.{of-kind, lone-by}
use Rattle.events.proofs.QuestionLaws.{eventless}
use Rattle.events.proofs.SpelledLaws.{spelled-own, spelled-starts, spelled-once, spelled-commits}
use Rattle.opacity.specs.Transactions.{committed, status, precedes}
use Rattle.opacity.specs.Justification.{Place, outcome_kept, preceded, real_time_kept, Justified}
use Rattle.opacity.specs.Lowest.{lowest_of}
use Rattle.opacity.specs.Store.{Store}
use Rattle.opacity.specs.Serial.{does, events_of, run, reads_right, after, runs_right, Serial}
use Rattle.opacity.proofs.Bounds.{transaction-known}
use Rattle.opacity.proofs.Snoc.{precedes-more, precedes-snoc}
use Rattle.opacity.proofs.Serial.{Known, known-serial}
use Rattle.opacity.proofs.LowestSerial.{found-iff-lowest}
use Rattle.opacity.proofs.Least.{none-iff}

-- ---- what judgement depends on

-- Two histories whose transactions are alike: as many begin, with the same statuses, the same precede each other, and each, run by itself,
-- has its reads right and leaves what it does in the other.
pub record Alike (h k : List Event) : Type 0 where
  pub count : begins h ≡ begins k
  pub statuses : (t : ℕ) → status h t ≡ status k t
  pub real_time : (t u : ℕ) → precedes h t u ≡ precedes k t u
  pub views : (t : ℕ) (s : Store) → run (events_of t h) s ≡ run (events_of t k) s
  pub reads : (t : ℕ) (s : Store) → reads_right (events_of t h) s ≡ reads_right (events_of t k) s

pub alike-sym : (h k : List Event) → Alike h k → Alike k h
alike-sym h k a =
    record {
      count = sym a.count;
      statuses = λ t. sym (a.statuses t);
      real_time = λ t u. sym (a.real_time t u);
      views = λ t s. sym (a.views t s);
      reads = λ t s. sym (a.reads t s);
    }

module _ (h k : List Event) (a : Alike h k) where
  runs-alike : (s : Store) (J : List Place) → runs_right s h J ≡ runs_right s k J
  unfolding runs_right after
  runs-alike s [] = refl
  runs-alike s (p ∷ J) =
      ap₂ ◌and◌ (a.reads p.transaction s)
      (runs-alike (after h p s) J ∙ ap (λ (v : Store). runs_right (cond p.committed v s) k J) (a.views p.transaction s))

  alike-serial : (start : Store) (J : List Place) → Serial start h J → Serial start k J
  unfolding outcome_kept real_time_kept preceded
  alike-serial start J s =
      record {
        order = rw a.count at s.order;
        outcomes = λ t l. rw (a.statuses t) at (s.outcomes t (rw a.count l));
        real_time = λ u l.
            every-i _ _ (λ t m. rw (a.real_time t u) at (every-e _ _ (s.real_time u (rw a.count l)) t (rw a.count m)));
        reads = sym (runs-alike start J) ∙ s.reads;
      }

-- the same orders justify both, and the same is the lowest
module _ (start : Store) (h k : List Event) (known-h : Known h) (known-k : Known k) (a : Alike h k) where
  pub alike-justified : (J : List Place) → Justified start h J ↔ Justified start k J
  alike-justified J = (
    λ j. (known-serial start k J known-k).1 (alike-serial h k a start J ((known-serial start h J known-h).0 j)),
    λ j. (known-serial start h J known-h).1 (alike-serial k h (alike-sym h k a) start J ((known-serial start k J known-k).0 j)),
  )

  pub alike-lowest : lowest_of start h ≡ lowest_of start k
  alike-lowest = go (lowest_of start h) refl
    where
      go : (o : Option (List Place)) → lowest_of start h ≡ o → o ≡ lowest_of start k
      go none e = sym ((none-iff start k known-k).1 (λ K j. (none-iff start h known-h).0 e K ((alike-justified K).1 j)))
      go (some J) e =
          let l = (found-iff-lowest start h known-h J).0 e in
          sym ((found-iff-lowest start k known-k J).1 (record {
            justifies = (alike-justified J).0 l.justifies;
            least = λ K j. l.least K ((alike-justified K).1 j);
          }))

-- ---- a transaction at once

-- the events are a committed transaction t, whole and with nothing in between
record AtOnce (t : ℕ) (first : Event) (rest : List Event) : Type 0 where
  own : all (λ e. eqb e.transaction t) (first ∷ rest) ≡ true
  starts : is_begin first ≡ true
  once : any is_begin rest ≡ false
  commits : any is_commit (first ∷ rest) ≡ true

-- the events of t tell what t has
has-events : (p : Event → Bool) (t : ℕ) (h : List Event) → has p t h ≡ any p (events_of t h)
unfolding has by any events_of keep ◌and◌ ◌or◌
has-events p t [] = refl
has-events p t (e ∷ h) = go (eqb e.transaction t) (has-events p t h)
  where
    go : (b : Bool) → has p t h ≡ any p (events_of t h) → ((b and p e) or has p t h) ≡ any p (push b e (events_of t h))
    go true ih = ap (λ (x : Bool). p e or x) ih
    go false ih = ih

all-events : (t : ℕ) (X : List Event) → all (λ e. eqb e.transaction t) X ≡ true → events_of t X ≡ X
unfolding all events_of keep
all-events t [] a = refl
all-events t (e ∷ X) a = rw (and_l _ _ a) (ap (λ (l : List Event). e ∷ l) (all-events t X (and_r _ _ a)))

other-events : (t u : ℕ) → eqb t u ≡ false → (X : List Event) → all (λ e. eqb e.transaction t) X ≡ true → events_of u X ≡ []
unfolding all events_of keep
other-events t u n [] a = refl
other-events t u n (e ∷ X) a =
    let q : e.transaction ≡ t = eqb-true _ _ (and_l _ _ a) in
    rw (q, n) (other-events t u n X (and_r _ _ a))

no-events : (t : ℕ) (h : List Event) → has (λ e. true) t h ≡ false → events_of t h ≡ []
unfolding any ◌or◌
no-events t h n = go (events_of t h) (sym (has-events (λ e. true) t h) ∙ n)
  where
    go : (l : List Event) → any (λ e. true) l ≡ false → l ≡ []
    go [] m = refl
    go (x ∷ l) m = absurd (true≢false m)

-- events that begin nothing change nothing in how many begin and in what precedes what
quiet : (X k : List Event) → any is_begin X ≡ false → (begins (k ++ X) ≡ begins k) × ((t u : ℕ) → precedes (k ++ X) t u ≡ precedes k t u)
unfolding any by
quiet [] k n = rw append-nil (refl, λ t u. refl)
quiet (x ∷ X) k n =
    let ih = quiet X (k ++ (x ∷ [])) (nor-r _ _ n) in
    let c : k ++ x ∷ X ≡ (k ++ (x ∷ [])) ++ X = sym (append_assoc k (x ∷ []) X) in
    rw c (ih.0 ∙ begins-same k x (nor-l _ _ n), λ t u. ih.1 t u ∙ precedes-snoc k x t u (and_false_r _ _ (nor-l _ _ n)))

-- The history h, in which t has no event, and then t at once.
module _ (h : List Event) (t : ℕ) (eventless : (p : Event → Bool) → has p t h ≡ false) where
  module _ (first : Event) (rest : List Event) (w : AtOnce t first rest) where
    own-events : events_of t (h ++ first ∷ rest) ≡ first ∷ rest
    unfolding events_of
    own-events =
        keep_append (λ e. eqb e.transaction t) h (first ∷ rest)
        ∙ ap₂ (λ (x y : List Event). x ++ y) (no-events t h (eventless (λ e. true))) (all-events t (first ∷ rest) w.own)

    their-events : (u : ℕ) → eqb t u ≡ false → events_of u (h ++ first ∷ rest) ≡ events_of u h
    unfolding events_of
    their-events u n =
        keep_append (λ e. eqb e.transaction u) h (first ∷ rest)
        ∙ ap (λ (x : List Event). events_of u h ++ x) (other-events t u n (first ∷ rest) w.own)
        ∙ append-nil (events_of u h)

    has-theirs : (p : Event → Bool) (u : ℕ) → eqb t u ≡ false → has p u (h ++ first ∷ rest) ≡ has p u h
    has-theirs p u n = has-events p u (h ++ first ∷ rest) ∙ ap (any p) (their-events u n) ∙ sym (has-events p u h)

    their-status : (u : ℕ) → eqb t u ≡ false → status (h ++ first ∷ rest) u ≡ status h u
    unfolding status
    their-status u n = rw (has-theirs is_commit u n, has-theirs is_abort u n, has-theirs asks_commit u n)

    own-status : status (h ++ first ∷ rest) t ≡ committed
    unfolding status
    own-status = let c : has is_commit t (h ++ first ∷ rest) ≡ true = has-events is_commit t (h ++ first ∷ rest) ∙ ap (any is_commit) own-events ∙ w.commits in rw c

    regroup : h ++ first ∷ rest ≡ (h ++ (first ∷ [])) ++ rest
    regroup = sym (append_assoc h (first ∷ []) rest)

    one-begins : begins (h ++ first ∷ rest) ≡ begins h + 1
    one-begins = rw regroup ((quiet rest (h ++ (first ∷ [])) w.once).0 ∙ begins-snoc h first w.starts)

    in-time : (u v : ℕ) → precedes (h ++ first ∷ rest) u v ≡ (precedes h u v or (has is_end u h and (eqb t v and true)))
    unfolding all by
    in-time u v =
        let q : first.transaction ≡ t = eqb-true _ _ (and_l _ _ w.own) in
        rw regroup
        ((quiet rest (h ++ (first ∷ [])) w.once).1 u v ∙ precedes-more h first u v
        ∙ ap₂ (λ (m : ℕ) (c : Bool). precedes h u v or (has is_end u h and (eqb m v and c))) q w.starts)

  -- one way or the other
  module _ (a b : Event) (more other : List Event) (x : AtOnce t a more) (y : AtOnce t b other)
      (views : (s : Store) → run (a ∷ more) s ≡ run (b ∷ other) s) (reads : (s : Store) → reads_right (a ∷ more) s ≡ reads_right (b ∷ other) s) where
    alike : Alike (h ++ a ∷ more) (h ++ b ∷ other)
    alike =
        record {
          count = one-begins a more x ∙ sym (one-begins b other y);
          statuses = λ u. statuses u (eqb t u) refl;
          real_time = λ u v. in-time a more x u v ∙ sym (in-time b other y u v);
          views = λ u s. each (λ (l : List Event). run l s) (views s) u (eqb t u) refl;
          reads = λ u s. each (λ (l : List Event). reads_right l s) (reads s) u (eqb t u) refl;
        }
      where
        statuses : (u : ℕ) (c : Bool) → eqb t u ≡ c → status (h ++ a ∷ more) u ≡ status (h ++ b ∷ other) u
        statuses u true q = let e : t ≡ u = eqb-true t u q in rw (← e) (own-status a more x ∙ sym (own-status b other y))
        statuses u false q = their-status a more x u q ∙ sym (their-status b other y u q)

        each : {A : Type 0} (f : List Event → A) → f (a ∷ more) ≡ f (b ∷ other) → (u : ℕ) (c : Bool) → eqb t u ≡ c
            → f (events_of u (h ++ a ∷ more)) ≡ f (events_of u (h ++ b ∷ other))
        each f same u true q = let e : t ≡ u = eqb-true t u q in rw (← e) (ap f (own-events a more x) ∙ same ∙ ap f (sym (own-events b other y)))
        each f same u false q = ap f (their-events a more x u q ∙ sym (their-events b other y u q))

-- ---- a lone access

module _ (e : Event) where
  -- the access is a transaction at once, and so is the one that it stands for
  alone : is_lone e ≡ true → AtOnce e.transaction e []
  unfolding all any is_begin is_commit
  alone l = record { own = and_i _ _ (eqb-self e.transaction) refl; starts = or_r _ _ l; once = refl; commits = or_l _ _ (or_l _ _ l) }

  stood-for : AtOnce e.transaction (event_at (spelled e) 0) (drop 1 (spelled e))
  unfolding spelled
  stood-for = record { own = spelled-own e; starts = spelled-starts e; once = spelled-once e; commits = spelled-commits e }

  -- they leave the same and have the same reads right
  same : is_lone e ≡ true → (s : Store) → (run (e ∷ []) s ≡ run (spelled e) s) × (reads_right (e ∷ []) s ≡ reads_right (spelled e) s)
  unfolding spelled answers_read is_read is_write run does reads_right ◌and◌ ◌or◌ ◌implies◌
  same l s =
      lone-by (λ k. (run (of-kind e k ∷ []) s ≡ run (spelled (of-kind e k)) s) × (reads_right (of-kind e k ∷ []) s ≡ reads_right (spelled (of-kind e k)) s)) e
      (refl, refl) (refl, refl) l

-- so a history in which that transaction has no event is alike with either at its end
pub lone-alike : (h : List Event) (e : Event) → ((p : Event → Bool) → has p e.transaction h ≡ false) → is_lone e ≡ true
    → Alike (h ++ (e ∷ [])) (h ++ spelled e)
unfolding spelled
lone-alike h e n l = alike h e.transaction n e _ [] _ (alone e l) (stood-for e) (λ s. (same e l s).0) (λ s. (same e l s).1)

-- every event is of a transaction below n, where those of k and of X are
below-append : (n : ℕ) (k X : List Event) → ((i : ℕ) → i < length k → (event_at k i).transaction < n) → all (λ x. ltb x.transaction n) X ≡ true
    → (i : ℕ) → i < length (k ++ X) → (event_at (k ++ X) i).transaction < n
unfolding all
below-append n [] [] f a i l = absurd (not-suc-le-zero l)
below-append n [] (x ∷ X) f a zero l = ltb-true _ _ (and_l _ _ a)
below-append n [] (x ∷ X) f a (suc i) l = below-append n [] X f (and_r _ _ a) i (le_of_suc-le-suc l)
below-append n (x ∷ k) X f a zero l = f 0 (zero-lt-suc (length k))
below-append n (x ∷ k) X f a (suc i) l = below-append n k X (λ j m. f (suc j) (suc-le-suc_iff.1 m)) a i (le_of_suc-le-suc l)

spelled-below : (n : ℕ) (e : Event) → e.transaction < n → all (λ x. ltb x.transaction n) (spelled e) ≡ true
spelled-below n e l =
    all-weaken (λ x. eqb x.transaction e.transaction) (λ x. ltb x.transaction n) (spelled e)
    (λ x q. lt-ltb x.transaction n (omega (arith, l, eqb-true x.transaction e.transaction q))) (spelled-own e)

module _ (start : Store) (h : List Event) (e : Event) (r : readable (h ++ (e ∷ [])) ≡ true) (l : is_lone e ≡ true) where
  inside : length h < length (h ++ (e ∷ []))
  inside = omega (arith, length-append h (e ∷ []))

  here : event_at (h ++ (e ∷ [])) (length h) ≡ e
  here = get_or-append_seam h e [] no_event

  unmet : (p : Event → Bool) → has p e.transaction h ≡ false
  unfolding is_begin
  unmet p = rw (here, take_at h (e ∷ []) (length h) refl) at (eventless (h ++ (e ∷ [])) r (length h) inside (rw here (or_r _ _ l)) p)

  both : Alike (h ++ (e ∷ [])) (h ++ spelled e)
  both = lone-alike h e unmet l

  known : Known (h ++ (e ∷ []))
  known = transaction-known (h ++ (e ∷ [])) r

  known-spelled : Known (h ++ spelled e)
  known-spelled =
      rw (← both.count)
      (below-append (begins (h ++ (e ∷ []))) h (spelled e)
      (λ i m. rw (get_or-append h (e ∷ []) no_event i m) at (known i (omega (arith, inside))))
      (spelled-below (begins (h ++ (e ∷ []))) e (rw here at (known (length h) inside))))

  -- The same orders justify the history with the lone access and with the transaction spelled out,
  pub lone-justified : (J : List Place) → Justified start (h ++ (e ∷ [])) J ↔ Justified start (h ++ spelled e) J
  lone-justified J = alike-justified start (h ++ (e ∷ [])) (h ++ spelled e) known known-spelled both J

  -- and the same is their lowest.
  pub lone-lowest : lowest_of start (h ++ (e ∷ [])) ≡ lowest_of start (h ++ spelled e)
  lone-lowest = alike-lowest start (h ++ (e ∷ [])) (h ++ spelled e) known known-spelled both

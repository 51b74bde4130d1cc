-- What the tables of the first n events of a history hold.
-- Assumes nothing.
use mathlib.Core.Path.{◌≡◌, refl, sym, ap, ◌∙◌}
use Prim.Native.Nat.{ℕ, zero, suc, ◌+◌, ◌≤◌, ◌<◌}
use native.Mathlib.Nat.{le_of_lt}
use native.Mathlib.Omega.{arith}
use mathlib.Core.Bool.{Bool, true, false, cond}
use mathlib.Core.List.{List, [], ◌∷◌, ◌++◌}
use mathlib.Core.Option.{none, some}
use lib.ListN.{length, take, get_or, replicate, length-replicate, get_or-replicate}
use lib.Seq.{take-suc}
use lib.Dec.{eqb}
use borrow.Author.Tests.{eqb-true}
use Rattle.lists.specs.Lists.{◌and◌, ◌or◌, or_else, any, latest}
use Rattle.events.specs.declared.event.Event.{Event}
use Rattle.events.specs.Events.{no_event, event_at, is_begin, is_write, asks_commit, is_commit, is_abort, is_end, by, has, ended}
use Rattle.opacity.specs.Transactions.{precedes, Status, status, last_write}
use Rattle.lists.proofs.ListLaws.{and_false_r, or-false, latest-snoc}
use Rattle.events.proofs.StateLaws.{has-snoc}
use Rattle.opacity.proofs.Snoc.{precedes-more}
use Rattle.opacity.proofs.Statuses.{not-committed, not-aborted}
use Rattle.lists.specs.Bits.{bit_at}
use Rattle.places.specs.Facts.{fact, Shaped}
use Rattle.places.specs.Places.{plus}
use Rattle.lists.proofs.BitLaws.{bit-none, bit-with}
use Rattle.tables.specs.declared.Tables.{Tables}
use Rattle.tables.specs.Tables.{Tabled, joined, rule_with, next, empty, go_through, tables_of}
use Rattle.tables.proofs.TableLaws.{tables-snoc}
use Rattle.tables.proofs.PutLaws.{and-true, shaped-next, after_next, allowed-next, written_next}

-- what the tables need of an event e after the events past
pub record Fine (past : List Event) (e : Event) : Type 0 where
  pub transaction : e.transaction < 10
  pub register : e.register < 32
  pub going : ended e.transaction past ≡ false

abbrev pub Good : List Event → Type 0
Good h = (i : ℕ) → i < length h → Fine (take i h) (event_at h i)

abbrev pub digit : Bool → ℕ
digit true = 1
digit false = 0

-- ---- one event more in a history

pub precedes-snoc : (h : List Event) (e : Event) (x t : ℕ) → precedes (h ++ (e ∷ [])) x t ≡ (precedes h x t or (ended x h and by is_begin t e))
unfolding ended
precedes-snoc h e x t = precedes-more h e x t

-- what precedes a transaction has ended
pub precedes-ended : (h : List Event) (x t : ℕ) → precedes h x t ≡ true → ended x h ≡ true
unfolding precedes ended has any ◌or◌ ◌and◌
precedes-ended [] x t q = q
precedes-ended (y ∷ h) x t q = go (by is_end x y) q (precedes-ended h x t)
  where
    go : (b : Bool) → ((b and has is_begin t h) or precedes h x t) ≡ true → (precedes h x t ≡ true → ended x h ≡ true) → (b or ended x h) ≡ true
    go true q' ih = refl
    go false q' ih = ih q'

pub last_snoc : (h : List Event) (e : Event) (t r : ℕ) → last_write (h ++ (e ∷ [])) t r ≡ or_else (cond (by is_write t e and eqb e.register r) (some e.value) none) (last_write h t r)
unfolding last_write
last_snoc h e t r = latest-snoc (λ e. cond (by is_write t e and eqb e.register r) (some e.value) none) h e

-- a rule as a table holds it
abbrev pub rule : Status → ℕ
rule Status.committed = 1
rule Status.aborted = 0
rule Status.pending = 2
rule Status.live = 0

-- ---- the tables of no events

ended-zero : (x : ℕ) → bit_at x (tables_of []).ended ≡ digit (ended x [])
unfolding ended has any tables_of go_through empty
ended-zero x = bit-none x

shaped-zero : Shaped (tables_of []).facts
unfolding tables_of go_through empty
shaped-zero =
    let row : List ℕ = replicate 72 0 in
    record {
      rows = length-replicate {A = List ℕ} 11 row;
      row = λ t l. ap length (get_or-replicate 11 t row [] l) ∙ length-replicate {A = ℕ} 72 0;
    }

pub fact-zero : (t k : ℕ) → t < 11 → k < 72 → fact (tables_of []).facts t k ≡ 0
unfolding tables_of go_through empty
fact-zero t k l m =
    let row : List ℕ = replicate 72 0 in
    ap (λ (r : List ℕ). get_or r k 0) (get_or-replicate 11 t row [] l) ∙ get_or-replicate 72 k 0 0 m

after-zero : (t x : ℕ) → t < 10 → bit_at x (fact (tables_of []).facts t 0) ≡ digit (precedes [] x t)
unfolding precedes
after-zero t x l = ap (bit_at x) (fact-zero t 0 (omega arith) (omega arith)) ∙ bit-none x

allowed-zero : (t : ℕ) → t < 10 → fact (tables_of []).facts t 1 ≡ rule (status [] t)
unfolding status has any
allowed-zero t l = fact-zero t 1 (omega arith) (omega arith)

written-zero : (t r : ℕ) → t < 10 → r < 32 → fact (tables_of []).facts t (35 + r) ≡ plus (last_write [] t r)
unfolding last_write latest
written-zero t r l k = fact-zero t (35 + r) (omega arith) (omega arith)

-- ---- one event more

-- not of the transaction
by-other : (p : Event → Bool) (t : ℕ) (e : Event) → eqb e.transaction t ≡ false → by p t e ≡ false
unfolding by ◌and◌
by-other p t e q = rw q

-- of the transaction
by-same : (p : Event → Bool) (t : ℕ) (e : Event) → eqb e.transaction t ≡ true → by p t e ≡ p e
unfolding by ◌and◌
by-same p t e q = rw q

-- of another kind
by-not : (p : Event → Bool) (t : ℕ) (e : Event) → p e ≡ false → by p t e ≡ false
unfolding by
by-not p t e q = and_false_r _ _ q

or-true : (b : Bool) → (b or true) ≡ true
unfolding ◌or◌
or-true true = refl
or-true false = refl

ends : (b c : Bool) → (b ≡ true → c ≡ true) → digit c ≡ digit (b or (c and true))
unfolding ◌or◌ ◌and◌
ends true c f = ap digit (f refl)
ends false true f = refl
ends false false f = refl

stays : (b c : Bool) → digit b ≡ digit (b or (c and false))
unfolding ◌or◌ ◌and◌
stays true c = refl
stays false true = refl
stays false false = refl

-- t joins a set
pub bit-joined : (set : ℕ) (b : Bool) (t x : ℕ) → bit_at x (joined set b t) ≡ cond (eqb t x and b) 1 (bit_at x set)
unfolding joined
bit-joined set true t x = bit-with x t set ∙ ap (λ (b : Bool). cond b 1 (bit_at x set)) (sym (and-true (eqb t x)))
bit-joined set false t x = ap (λ (b : Bool). cond b 1 (bit_at x set)) (sym (and_false_r (eqb t x) false refl))

joins : (c b : Bool) (m : ℕ) → m ≡ digit b → cond c 1 m ≡ digit (b or c)
joins true b m q = ap digit (sym (or-true b))
joins false b m q = q ∙ ap digit (sym (or-false b))

module _ (h : List Event) (good : Good h) where
  -- the tables of the first n events
  abbrev pub tab : ℕ → Tables
  tab n = tables_of (take n h)

  pub tab-suc : (n : ℕ) → n < length h → tab (suc n) ≡ next (tab n) (event_at h n)
  tab-suc n l = ap tables_of (take-suc h n no_event l) ∙ tables-snoc (take n h) (event_at h n)

  pub has_room : (n : ℕ) → n < length h → Tabled (event_at h n)
  has_room n l = record { transaction = (good n l).transaction; register = (good n l).register }

  pub shaped : (n : ℕ) → n ≤ length h → Shaped (tab n).facts
  unfolding next
  shaped zero l = shaped-zero
  shaped (suc n) l = rw (tab-suc n l) (shaped-next (tab n).ended (tab n).facts (shaped n (le_of_lt l)) (event_at h n) (has_room n l))

  -- ---- those that have ended, and those that had ended before a transaction began

  ended-step : (s : Tables) (past : List Event) (e : Event) (x : ℕ) → bit_at x s.ended ≡ digit (ended x past) → bit_at x (next s e).ended ≡ digit (ended x (past ++ (e ∷ [])))
  unfolding ended next by
  ended-step s past e x q =
      bit-joined s.ended (is_end e) e.transaction x ∙ joins (eqb e.transaction x and is_end e) (has is_end x past) _ q
      ∙ ap digit (sym (has-snoc is_end past e x))

  pub ended-holds : (n : ℕ) → n ≤ length h → (x : ℕ) → bit_at x (tab n).ended ≡ digit (ended x (take n h))
  ended-holds zero l x = ended-zero x
  ended-holds (suc n) l x = rw (tab-suc n l, take-suc h n no_event l) (ended-step (tab n) (take n h) (event_at h n) x (ended-holds n (le_of_lt l) x))

  module _ (s : Tables) (fit : Shaped s.facts) (past : List Event) (e : Event) (its : Tabled e) (t : ℕ) where
    after-step : t < 10 → (x : ℕ) → bit_at x s.ended ≡ digit (ended x past) → bit_at x (fact s.facts t 0) ≡ digit (precedes past x t)
        → bit_at x (fact (next s e).facts t 0) ≡ digit (precedes (past ++ (e ∷ [])) x t)
    unfolding next by
    after-step l x q p =
        ap (bit_at x) (after_next s.ended s.facts fit e its t l) ∙ go (eqb e.transaction t and is_begin e) ∙ ap digit (sym (precedes-snoc past e x t))
      where
        go : (c : Bool) → bit_at x (cond c s.ended (fact s.facts t 0)) ≡ digit (precedes past x t or (ended x past and c))
        go true = q ∙ ends (precedes past x t) (ended x past) (precedes-ended past x t)
        go false = p ∙ stays (precedes past x t) (ended x past)

    written_step : (r : ℕ) → fact s.facts t (35 + r) ≡ plus (last_write past t r) → fact (next s e).facts t (35 + r) ≡ plus (last_write (past ++ (e ∷ [])) t r)
    unfolding next by
    written_step r q =
        written_next s.ended s.facts fit e its t r ∙ go ((eqb e.transaction t and is_write e) and eqb e.register r)
        ∙ ap plus (sym (last_snoc past e t r))
      where
        go : (c : Bool) → cond c (e.value + 1) (fact s.facts t (35 + r)) ≡ plus (or_else (cond c (some e.value) none) (last_write past t r))
        go true = refl
        go false = q

    allowed-step : ended e.transaction past ≡ false → fact s.facts t 1 ≡ rule (status past t)
        → fact (next s e).facts t 1 ≡ rule (status (past ++ (e ∷ [])) t)
    unfolding status next rule_with
    allowed-step going q =
        rw (has-snoc is_commit past e t, has-snoc is_abort past e t, has-snoc asks_commit past e t)
        (allowed-next s.ended s.facts fit e its t ∙ go (eqb e.transaction t) refl (is_commit e) refl (is_abort e) refl (asks_commit e) refl)
      where
        unended : eqb e.transaction t ≡ true → ended t past ≡ false
        unended f = rw (eqb-true e.transaction t f) at going

        go : (d : Bool) → eqb e.transaction t ≡ d → (c : Bool) → is_commit e ≡ c → (x : Bool) → is_abort e ≡ x → (a : Bool) → asks_commit e ≡ a
            → cond d (cond c 1 (cond x 0 (cond a 2 (fact s.facts t 1)))) (fact s.facts t 1)
            ≡ rule (cond (has is_commit t past or by is_commit t e) Status.committed
            (cond (has is_abort t past or by is_abort t e) Status.aborted (cond (has asks_commit t past or by asks_commit t e) Status.pending Status.live)))
        go false f c u x v a w = simp (by-other is_commit t e f, by-other is_abort t e f, by-other asks_commit t e f, or-false) q
        go true f true u x v a w = simp (by-same is_commit t e f, u, or-true)
        go true f false u true v a w =
            simp (by-not is_commit t e u, by-same is_abort t e f, v, or-false, or-true, not-committed t past (unended f))
        go true f false u false v true w =
            simp (
              by-not is_commit t e u,
              by-not is_abort t e v,
              by-same asks_commit t e f,
              w,
              or-false,
              or-true,
              not-committed t past (unended f),
              not-aborted t past (unended f),
            )
        go true f false u false v false w = simp (by-not is_commit t e u, by-not is_abort t e v, by-not asks_commit t e w, or-false) q

  pub after_holds : (n : ℕ) → n ≤ length h → (t x : ℕ) → t < 10 → bit_at x (fact (tab n).facts t 0) ≡ digit (precedes (take n h) x t)
  after_holds zero l t x k = after-zero t x k
  after_holds (suc n) l t x k =
      rw (tab-suc n l, take-suc h n no_event l)
      (after-step (tab n) (shaped n (le_of_lt l)) (take n h) (event_at h n) (has_room n l) t k x (ended-holds n (le_of_lt l) x) (after_holds n (le_of_lt l) t x k))

  -- ---- the last writes

  pub written-holds : (n : ℕ) → n ≤ length h → (t r : ℕ) → t < 10 → r < 32 → fact (tab n).facts t (35 + r) ≡ plus (last_write (take n h) t r)
  written-holds zero l t r lt lr = written-zero t r lt lr
  written-holds (suc n) l t r lt lr =
      rw (tab-suc n l, take-suc h n no_event l)
      (written_step (tab n) (shaped n (le_of_lt l)) (take n h) (event_at h n) (has_room n l) t r (written-holds n (le_of_lt l) t r lt lr))

  -- ---- the outcomes allowed

  pub allowed-holds : (n : ℕ) → n ≤ length h → (t : ℕ) → t < 10 → fact (tab n).facts t 1 ≡ rule (status (take n h) t)
  allowed-holds zero l t k = allowed-zero t k
  allowed-holds (suc n) l t k =
      rw (tab-suc n l, take-suc h n no_event l)
      (allowed-step (tab n) (shaped n (le_of_lt l)) (take n h) (event_at h n) (has_room n l) t (good n l).going (allowed-holds n (le_of_lt l) t k))

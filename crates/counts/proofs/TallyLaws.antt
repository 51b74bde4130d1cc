-- How far the tally has come after the first t transactions: the four counts say how many of them stand so.
-- Assumes nothing.
use Prim.Native.Nat.{ℕ, ◌+◌, ◌≤◌, ◌<◌}
use native.Mathlib.Nat.{le_refl}
use native.Mathlib.Omega.{arith}
use mathlib.Core.Path.{◌≡◌, refl, ap, ◌∙◌}
use mathlib.Core.Bool.{true}
use mathlib.Core.List.{List}
use lib.Dec.{eqb}
use lib.ListN.{length, take, get_or}
use Rattle.std.proofs.lemmas.List.{get_or-take, length-take-le}
use Rattle.lists.specs.Lists.{keep, range}
use Rattle.events.specs.declared.event.Event.{Event}
use Rattle.events.specs.Events.{begins}
use Rattle.events.specs.Questions.{readable}
use Rattle.opacity.proofs.Bounds.{at-most-64}
use Rattle.opacity.specs.Transactions.{Status, committed, aborted, pending, live, status_number, status}
use Rattle.opacity.specs.Counts.{one}
use Rattle.opacity.proofs.HowMany.{how_many, how-many-more, how-many-low}
use Rattle.links.specs.declared.tables.Rank.{Rank}
use Rattle.links.specs.declared.tables.Rank.TheVariants.{Live, Pending, Aborted, Committed}
use Rattle.links.specs.Tables.{Ranked}
use Rattle.links.proofs.TableLaws.{status_rank, rank-told}
use Rattle.counts.specs.declared.tally.Tally.{Tally}
use Rattle.counts.specs.Tally.{has_status, of_status, tally}

pub status-low : (s : Status) → status_number s < 4
status-low committed = le_refl 4
status-low aborted = omega arith
status-low pending = omega arith
status-low live = omega arith

-- the tally with one transaction more, which has come so far
abbrev pub with_rank : Rank → Tally → Tally
with_rank Committed x = record x { committed = x.committed + 1 }
with_rank Aborted x = record x { aborted = x.aborted + 1 }
with_rank Pending x = record x { pending = x.pending + 1 }
with_rank Live x = record x { live = x.live + 1 }

pub record Counted (h : List Event) (x : Tally) (t : ℕ) : Type 0 where
  pub committed : x.committed ≡ how_many (has_status committed h) t
  pub aborted : x.aborted ≡ how_many (has_status aborted h) t
  pub pending : x.pending ≡ how_many (has_status pending h) t
  pub live : x.live ≡ how_many (has_status live h) t

module _ (h : List Event) where
  pub counted-first : Counted h record { committed = 0; aborted = 0; pending = 0; live = 0 } 0
  unfolding range keep
  counted-first = record { committed = refl; aborted = refl; pending = refl; live = refl }

  module _ (x : Tally) (t : ℕ) (w : Counted h x t) where
    -- none of the counts is past the transactions tallied
    pub record Few : Type 0 where
      pub committed : x.committed ≤ t
      pub aborted : x.aborted ≤ t
      pub pending : x.pending ≤ t
      pub live : x.live ≤ t

    pub counts-few : Few
    counts-few =
        record {
          committed = omega (arith, w.committed, how-many-low (has_status committed h) t);
          aborted = omega (arith, w.aborted, how-many-low (has_status aborted h) t);
          pending = omega (arith, w.pending, how-many-low (has_status pending h) t);
          live = omega (arith, w.live, how-many-low (has_status live h) t);
        }

    added : (s u : Status) → status h t ≡ u
        → how_many (has_status s h) (t + 1) ≡ how_many (has_status s h) t + one (eqb (status_number u) (status_number s))
    added s u e =
        how-many-more (has_status s h) t
        ∙ ap (λ (v : Status). how_many (has_status s h) t + one (eqb (status_number v) (status_number s))) e

    its-status : (u : Status) → status h t ≡ u → Counted h (with_rank (status_rank u) x) (t + 1)
    its-status committed e =
        record {
          committed = omega (arith, w.committed, added committed committed e);
          aborted = omega (arith, w.aborted, added aborted committed e);
          pending = omega (arith, w.pending, added pending committed e);
          live = omega (arith, w.live, added live committed e);
        }
    its-status aborted e =
        record {
          committed = omega (arith, w.committed, added committed aborted e);
          aborted = omega (arith, w.aborted, added aborted aborted e);
          pending = omega (arith, w.pending, added pending aborted e);
          live = omega (arith, w.live, added live aborted e);
        }
    its-status pending e =
        record {
          committed = omega (arith, w.committed, added committed pending e);
          aborted = omega (arith, w.aborted, added aborted pending e);
          pending = omega (arith, w.pending, added pending pending e);
          live = omega (arith, w.live, added live pending e);
        }
    its-status live e =
        record {
          committed = omega (arith, w.committed, added committed live e);
          aborted = omega (arith, w.aborted, added aborted live e);
          pending = omega (arith, w.pending, added pending live e);
          live = omega (arith, w.live, added live live e);
        }

    pub counted-more : (k : Rank) → k ≡ status_rank (status h t) → Counted h (with_rank k x) (t + 1)
    counted-more k e = rw e (its-status (status h t) refl)

  -- the counts after the last transaction
  pub counted-all : (x : Tally) (t : ℕ) → t ≡ begins h → Counted h x t → x ≡ tally h
  unfolding tally of_status
  counted-all x t e w =
      λ i. record {
        committed = (w.committed ∙ ap (how_many (has_status committed h)) e) i;
        aborted = (w.aborted ∙ ap (how_many (has_status aborted h)) e) i;
        pending = (w.pending ∙ ap (how_many (has_status pending h)) e) i;
        live = (w.live ∙ ap (how_many (has_status live h)) e) i;
      }

-- how far the transactions begun have come
module _ (h : List Event) (r : readable h ≡ true) (ranks : List Rank) (y : Ranked h ranks) (n : ℕ) (e : n ≡ begins h) where
  pub ranked : n ≤ length ranks
  ranked = omega (arith, y.size, e, at-most-64 h r)

  pub ranked-length : length (take n ranks) ≡ n
  ranked-length = length-take-le n ranks ranked

  pub ranked-at : (t : ℕ) → t < length (take n ranks) → get_or (take n ranks) t Live ≡ status_rank (status h t)
  ranked-at t l =
      let few : t < n = omega (arith, ranked-length) in
      let low : t < 64 = omega (arith, few, e, at-most-64 h r) in
      get_or-take n ranks t Live few ∙ rank-told y t low

  -- so many fit a number of the machine
  pub few-enough : (t : ℕ) → t < length (take n ranks) → t < 64
  few-enough t l = omega (arith, ranked-length, e, at-most-64 h r)

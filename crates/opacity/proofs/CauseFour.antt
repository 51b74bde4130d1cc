-- The scan never answers with cause 4: a begin, a call, a returned write or a lone write is not the first event to fault a history.
-- Assumes nothing.
use Prim.Native.Nat.{ℕ, suc, ◌<◌}
use native.Mathlib.Nat.{le_refl}
use mathlib.Core.Path.{◌≡◌, refl, sym}
use mathlib.Core.Bool.{Bool, true, false, not, cond}
use mathlib.Core.List.{List}
use lib.Dec.{eqb}
use lib.ListN.{length, take}
use Rattle.lists.specs.Lists.{◌implies◌}
use Rattle.events.specs.declared.event.Event.{Event}
use Rattle.events.specs.Events.{event_at, is_begin, is_read, is_commit, is_abort}
use Rattle.events.specs.Questions.{readable}
use Rattle.events.proofs.QuestionLaws.{begun}
use Rattle.opacity.specs.Justification.{Place, outcome, contents, Justified}
use Rattle.opacity.specs.Carry.{seen, carries, carried}
use Rattle.opacity.specs.Scan.{Cause, Read, Commit, Abort, Other, fault, cause, scan}
use Rattle.opacity.proofs.Opacity.{faulted-prefix}
use Rattle.opacity.proofs.Carry.{carried-justified}

-- the question put to an event of cause 4 says yes: it is no read, and an end only if it is a lone write
passes : (start : ℕ → ℕ) (h : List Event) (J : List Place) (e : Event) → cause e ≡ Other → carries start h J e ≡ true
unfolding cause carries ◌implies◌
passes start h J e = go (is_read e) (is_begin e) (is_commit e) (is_abort e)
  where
    go : (r b c a : Bool) → ◌≡◌ {A = Cause} (cond r Read (cond b Other (cond c Commit (cond a Abort Other)))) Other
        → cond b (r implies eqb (contents start h J e.register) e.value)
        (cond r (eqb (seen start h J e.transaction e.register) e.value) (cond c (outcome e.transaction J) (cond a (not (outcome e.transaction J)) true))) ≡ true
    go true b c a q = cc
    go false true c a q = refl
    go false false true a q = cc
    go false false false true q = cc
    go false false false false q = refl

module _ (start : ℕ → ℕ) (h : List Event) (r : readable h ≡ true) (i : ℕ) where
  -- an order for the events before such an event is carried on to it
  pub four-justified : i < length h → cause (event_at h i) ≡ Other → (J : List Place) → Justified start (take i h) J
      → Justified start (take (suc i) h) (carried J (event_at h i))
  four-justified l c J j = carried-justified start h r i l J j (passes start (take i h) J (event_at h i) c)

  pub never-four : scan start h ≡ fault i Other → ⊥
  never-four t =
      let f = faulted-prefix start h (begun h r) i Other t in
      let p = f.shorter i (le_refl i) in
      f.none_here (carried p.0 (event_at h i)) (four-justified f.inside (sym f.why) p.0 p.1)

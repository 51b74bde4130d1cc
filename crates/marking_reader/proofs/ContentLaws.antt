-- The content of a file that is read to the end is readable for the history.
-- Assumes nothing.
use Prim.Native.Nat.{ℕ, zero, suc, ◌+◌}
use native.Mathlib.Omega.{arith}
use mathlib.Core.Path.{◌≡◌, sym, ap, ◌∙◌}
use mathlib.Core.Bool.{Bool, true, false, not}
use mathlib.Core.List.{List}
use mathlib.Core.Option.{Option, none, some}
use lib.ListN.{length, get_or, set, replicate, length-replicate}
use Rattle.events.specs.declared.event.Event.{Event}
use Rattle.std.specs.Prelude.{Ok, Err}
use Rattle.lists.specs.Lists.{every}
use Rattle.events.specs.Events.{begins}
use Rattle.events.specs.Questions.{readable}
use Rattle.events.proofs.ReadableLaws.{readable-most}
use Rattle.opacity.specs.Transactions.{is_store_read, store_reads}
use Rattle.opacity.specs.Marking.{Marking, ReadableFor}
use Rattle.opacity.proofs.Finder.{events-of}
use Rattle.opacity.proofs.Bounds.{at-most-64}
use Rattle.marking_reader.specs.declared.step.MarkingStep.TheVariants.{Placed, Pointed, Finished}
use Rattle.marking_reader.specs.File.{known, Asked, asked, every_pointed, Stepped, step_at, continued, walk}
use Rattle.marking_reader.specs.File.{content, opening, after_opening, file_read}
use Rattle.marking_reader.specs.State.{point_by, asked_by, so_far, Sound, Kept}
use Rattle.marking_reader.proofs.StepLaws.{placed-means, pointed-means, finished-means}
use Rattle.marking_reader.proofs.PointLaws.{points_kept, gaps-low}
use Rattle.marking_reader.proofs.WalkLaws.{not-content}
use Rattle.marking_reader.proofs.SoundLaws.{arrays-fresh, sound-start, nothing-so, step_same, end-so, end_kept}
use Rattle.marking_reader.proofs.SoundLaws.{place-so, place-sound, point-so, point-sound}

-- what stands in arrays for a content that was read
record Arrays (h : List Event) (m : Marking) : Type 0 where
  order : List ℕ
  outcomes : List ℕ
  gaps : List ℕ
  same : m ≡ so_far order outcomes (begins h) gaps (length h)
  kept : Kept h order outcomes gaps

module _ (h : List Event) (s : List ℕ) (m' : Marking) where
  -- arrays that are sound, from which what is left of the walk gives the content
  abbrev Going : ℕ → Type 0
  Going left =
      (at : ℕ) (order outcomes : List ℕ) (used : List Bool) (filled : ℕ) (gaps : List ℕ) (next : ℕ)
      → Sound h order outcomes used filled gaps next → walk (known h) left s at (so_far order outcomes filled gaps next) ≡ content m'
      → Arrays h m'

  walk-content : (left : ℕ) → Going left
  unfolding walk
  walk-content zero at order outcomes used filled gaps next y e = absurd (not-content e)
  walk-content (suc left) at order outcomes used filled gaps next y e =
      go (step_at (asked (known h) M) (every_pointed (known h) M) s at) (step_same y s at) e (walk-content left)
    where
      M : Marking
      M = so_far order outcomes filled gaps next

      asks : Asked
      asks = asked_by h (begins h) used filled next

      pointed : Bool
      pointed = every (point_by h gaps) (length h)

      go : (x : Stepped) → step_at asks pointed s at ≡ x → continued (walk (known h) left s) M x ≡ content m' → Going left → Arrays h m'
      go (Ok (Placed t o end)) q d ih =
          let w = placed-means asks s at pointed t o end q in
          ih end (set order filled t) (set outcomes filled o) (set used t true) (filled + 1) gaps next (place-sound y t o w.fine)
          (ap (walk (known h) left s end) (place-so y t o w.fine) ∙ d)
      go (Ok (Pointed i g end)) q d ih =
          let w = pointed-means asks s at pointed i g end q in
          ih end order outcomes used filled (set gaps i g) (i + 1) (point-sound y i g w.fine)
          (ap (walk (known h) left s end) (point-so y i g w.fine) ∙ d)
      go (Err r) q d ih = absurd (not-content d)
      go (Ok Finished) q d ih =
          let w = finished-means asks s at pointed q in
          let z : M ≡ m' = cc in
          record {
            order = order;
            outcomes = outcomes;
            gaps = gaps;
            same = sym (end-so y w.1 w.2 ∙ z);
            kept = end_kept y w.1 w.2;
          }

  file-content : readable h ≡ true → file_read (known h) s ≡ content m' → Arrays h m'
  unfolding file_read
  file-content r e = go (opening s) e
    where
      go : (o : Option ℕ) → after_opening (known h) s o ≡ content m' → Arrays h m'
      go none d =
          walk-content (suc (length s)) 6 (replicate 64 0) (replicate 64 0) (replicate 64 false) 0 (replicate 2048 65535) 0
          (sound-start h (replicate 64 0) (replicate 64 0) (replicate 2048 65535) (readable-most h r) (at-most-64 h r)
          (omega (arith, readable-most h r, length-replicate {A = ℕ} 2048 65535)) (arrays-fresh 2048))
          (ap (walk (known h) (suc (length s)) s 6) (nothing-so _ _ _) ∙ d)
      go (some q) d = absurd (not-content d)

pub content-readable : (h : List Event) (s : List ℕ) (m : Marking) → readable h ≡ true → file_read (known h) s ≡ content m → ReadableFor h m
unfolding so_far store_reads
content-readable h s m r e =
    let a = file-content h s m r e in
    let p = points_kept (is_store_read h) a.gaps (length h) a.kept.pointed in
    record {
      order = rw a.same a.kept.ordered;
      reads = rw (a.same, ← p) (events-of (λ i. get_or a.gaps i 0) (store_reads h));
      gaps =
          rw a.same
          (gaps-low a.gaps (begins h) (length h) (λ i l z. a.kept.gaps-fit i l (a.kept.pointed i l ∙ ap not z)));
    }

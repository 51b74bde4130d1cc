-- One step of the marking reader: what each of its answers tells of the arrays, and how far the walk has come after it.
-- Assumes nothing.
use Prim.Native.Nat.{ℕ, ◌+◌, ◌≤◌, ◌<◌}
use native.Mathlib.Omega.{arith}
use mathlib.Core.Path.{◌≡◌, sym, ap, ◌∙◌}
use mathlib.Core.Bool.{Bool, true}
use mathlib.Core.List.{List, map}
use lib.ListN.{length, set}
use Rattle.std.specs.Prelude.{Ok, Err}
use Rattle.lists.specs.Lists.{every, keep, range}
use Rattle.events.specs.declared.event.Event.{Event}
use Rattle.events.specs.Events.{begins}
use Rattle.events.specs.declared.refusal.Refusal.{Refusal}
use Rattle.event_log.specs.Checked.{Checked}
use Rattle.opacity.specs.Transactions.{is_store_read, store_reads}
use Rattle.opacity.specs.Marking.{Marking}
use Rattle.rules.specs.Judge.{content as in_arrays}
use Rattle.marking_reader.specs.declared.step.MarkingStep.{MarkingStep}
use Rattle.marking_reader.specs.declared.step.MarkingStep.TheVariants.{Placed, Pointed, Finished}
use Rattle.marking_reader.specs.File.{known, Asked, Stepped, step_at, content, refused, continued, walk, file_read}
use Rattle.marking_reader.specs.State.{point_by, asked_by, points_of, so_far, Sound, Kept, read_as}
use Rattle.marking_reader.proofs.StepLaws.{placed-means, pointed-means, finished-means}
use Rattle.marking_reader.proofs.PointLaws.{pt, points_kept}
use Rattle.marking_reader.proofs.SoundLaws.{step_same, end-so, end_kept}
use Rattle.marking_reader.proofs.SoundLaws.{room, place-low, outcome-low, place-so, place-sound, inside, point-so, point-sound}
use Rattle.marking_reader.proofs.WalkLaws.{Reached, reached-next, on_step, place-ends, point-ends}

-- an answer is the file's, and the arrays hold what was read where no question says no
abbrev pub Answers : List Event → List ℕ → List ℕ → List ℕ → List ℕ → Checked → Type 0
Answers h s order outcomes gaps r =
    (read_as h order outcomes gaps r ≡ file_read (known h) s) × (r ≡ Ok tt → Kept h order outcomes gaps)

pub says-no : {h : List Event} {order outcomes gaps : List ℕ} (s : List ℕ) (x : Checked) (r : Refusal) → x ≡ Err r
    → file_read (known h) s ≡ refused r.question r.at → Answers h s order outcomes gaps x
says-no {h} {order} {outcomes} {gaps} s x r e o = (ap (read_as h order outcomes gaps) e ∙ sym o, λ y. absurd (cc))

-- the marking in the arrays is what has been read, where that is all
arrays-so : {h : List Event} {order outcomes gaps : List ℕ} → Kept h order outcomes gaps
    → in_arrays h order outcomes gaps ≡ so_far order outcomes (begins h) gaps (length h)
unfolding in_arrays so_far store_reads
arrays-so {h} {gaps = gaps} k =
    let p : map (pt gaps) (keep (is_store_read h) (range (length h))) ≡ points_of gaps (length h) =
    points_kept (is_store_read h) gaps (length h) k.pointed in
    rw p

module _ {h : List Event} {order outcomes : List ℕ} {used : List Bool} {filled : ℕ} {gaps : List ℕ} {next : ℕ} {s : List ℕ} {at : ℕ}
    (g : Reached (known h) s at (so_far order outcomes filled gaps next)) (y : Sound h order outcomes used filled gaps next) where
  abbrev asks : Asked
  asks = asked_by h (begins h) used filled next

  abbrev pointed : Bool
  pointed = every (point_by h gaps) (length h)

  abbrev read : Marking
  read = so_far order outcomes filled gaps next

  on : (x : Stepped) → step_at asks pointed s at ≡ x → file_read (known h) s ≡ continued (walk (known h) g.left s) read x
  on x q = on_step (known h) s at read g x (sym (step_same y s at) ∙ q)

  -- the answer that the code has, which counts the transactions
  pub given-so : {b : ℕ} {x x' : MarkingStep} → b ≡ begins h
      → ◌≡◌ {A = Stepped} (Ok x) (step_at (asked_by h b used filled next) pointed s at) → x ≡ x' → step_at asks pointed s at ≡ Ok x'
  given-so e q r = ap (λ (n : ℕ). step_at (asked_by h n used filled next) pointed s at) (sym e) ∙ (sym q ∙ λ i. Ok (r i))

  pub refused-so : {b : ℕ} {r : Refusal} → b ≡ begins h
      → ◌≡◌ {A = Stepped} (Err r) (step_at (asked_by h b used filled next) pointed s at) → step_at asks pointed s at ≡ Err r
  refused-so e q = ap (λ (n : ℕ). step_at (asked_by h n used filled next) pointed s at) (sym e) ∙ sym q

  reached : (m m' : Marking) (end : ℕ) → (at < end) × (end ≤ length s) → m' ≡ m → file_read (known h) s ≡ walk (known h) g.left s end m
      → Reached (known h) s end m'
  reached m m' end l e q =
      reached-next (known h) s at read g m' end l.0 l.1 (q ∙ ap (walk (known h) g.left s end) (sym e))

  -- a place: there is room for it, and the arrays with it are sound
  pub record Placing (t o end : ℕ) : Type 0 where
    pub free : filled < 64
    pub begun : t < 64
    pub outcome : o < 2
    pub onward : at < end
    pub within : end ≤ length s
    pub comes : Reached (known h) s end (so_far (set order filled t) (set outcomes filled o) (filled + 1) gaps next)
    pub holds : Sound h (set order filled t) (set outcomes filled o) (set used t true) (filled + 1) gaps next

  pub placing : {t o end : ℕ} → step_at asks pointed s at ≡ Ok (Placed t o end) → Placing t o end
  placing {t} {o} {end} q =
      let w = placed-means asks s at pointed t o end q in
      let l = place-ends w in
      let few = y.few-begun in
      record {
        free = omega (arith, room y t o w.fine);
        begun = omega (arith, place-low y t o w.fine);
        outcome = outcome-low y t o w.fine;
        onward = l.0;
        within = l.1;
        comes = reached _ _ end l (place-so y t o w.fine) (on (Ok (Placed t o end)) q);
        holds = place-sound y t o w.fine;
      }

  -- a point, likewise
  pub record Pointing (e gap end : ℕ) : Type 0 where
    pub inside : e < 2048
    pub entry : e < length gaps
    pub onward : at < end
    pub within : end ≤ length s
    pub comes : Reached (known h) s end (so_far order outcomes filled (set gaps e gap) (e + 1))
    pub holds : Sound h order outcomes used filled (set gaps e gap) (e + 1)

  pub pointing : {e gap end : ℕ} → step_at asks pointed s at ≡ Ok (Pointed e gap end) → Pointing e gap end
  pointing {e} {gap} {end} q =
      let w = pointed-means asks s at pointed e gap end q in
      let l = point-ends w in
      let few = y.few in
      record {
        inside = omega (arith, inside y e gap w.fine);
        entry = omega (arith, inside y e gap w.fine, y.gaps-room);
        onward = l.0;
        within = l.1;
        comes = reached _ _ end l (point-so y e gap w.fine) (on (Ok (Pointed e gap end)) q);
        holds = point-sound y e gap w.fine;
      }

  -- a refusal
  pub refusing : {r : Refusal} (x : Checked) → x ≡ Err r → step_at asks pointed s at ≡ Err r → Answers h s order outcomes gaps x
  refusing {r} x e d = says-no s x r e (on (Err r) d)

  -- the end
  pub finished : step_at asks pointed s at ≡ Ok Finished → Answers h s order outcomes gaps (Ok tt)
  finished d =
      let w = finished-means asks s at pointed d in
      let k = end_kept y w.1 w.2 in
      (ap content (arrays-so k ∙ end-so y w.1 w.2) ∙ sym (on (Ok Finished) d), λ e. k)

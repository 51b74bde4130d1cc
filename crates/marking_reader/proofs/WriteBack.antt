-- A file that is read is the bytes of its content.
-- Assumes nothing.
use Prim.Native.Nat.{ℕ, zero, suc, ◌+◌, ◌<◌}
use native.Mathlib.Omega.{arith}
use mathlib.Core.Path.{◌≡◌, refl, sym, ap, ◌∙◌}
use mathlib.Core.Bool.{Bool, true, false, cond}
use mathlib.Core.List.{List, [], ◌∷◌, ◌++◌, append_assoc, append-nil}
use mathlib.Core.Option.{Option, none, some, get_or}
use lib.Dec.{eqb, leb}
use lib.ListN.{length, drop, drop_of_length-le}
use borrow.Author.Tests.{eqb-true, ltb-true}
use Rattle.std.specs.Prelude.{Ok, Err}
use Rattle.records.specs.declared.record.Found.{Found}
use Rattle.records.specs.declared.record.Found.TheVariants.{Whole, Short, End}
use Rattle.records.specs.Bytes.{Bytes, u16_at, u32_at, u16_bytes, u32_bytes}
use Rattle.lists.specs.Lists.{◌and◌}
use Rattle.events.specs.Questions.{refusal}
use Rattle.records.specs.Records.{record_at, body_of}
use Rattle.records.proofs.FieldLaws.{field-forth, field-last, long-forth, body-length, body_bytes_lem, record-forth, head-forth as head_bytes_lem}
use Rattle.lists.proofs.ListLaws.{and_l, latest-snoc}
use Rattle.events.proofs.QuestionLaws.{head-yes}
use Rattle.records.proofs.RecordLaws.{there, end-past}
use Rattle.opacity.specs.Justification.{Place}
use Rattle.opacity.specs.Marking.{Marking, Point, marking_head, outcome_number, place_bytes, point_bytes, flat, marking_bytes}
use Rattle.opacity.proofs.MarkingBytes.{outcome-back, flat_append}
use Rattle.marking_reader.specs.declared.step.MarkingStep.TheVariants.{Placed, Pointed, Finished}
use Rattle.marking_reader.specs.File.{Known, Asked, asked, outcome_in, next_event, every_pointed, head_questions, Stepped, step_at, continued, walk}
use Rattle.marking_reader.specs.File.{content, with_place, with_point, headed, opening, nothing_read, after_opening, file_read}
use Rattle.marking_reader.specs.State.{place_questions}
use Rattle.marking_reader.proofs.StepLaws.{PlaceRead, PointRead, placed-means, pointed-means, finished-means}
use Rattle.marking_reader.proofs.WalkLaws.{not-content}

-- ---- a record that was read is the bytes of what it gave

module _ (a : Asked) (s : List ℕ) (at : ℕ) (by : Bytes s) where
  place-forth : (t o end : ℕ) → PlaceRead a s at t o end → o < 2
      → drop at s ≡ place_bytes (record { transaction = t; committed = eqb o 1 }) ++ drop end s
  place-forth t o end w l =
      let r = w.whole in
      let h = there s at r w.there in
      let x : outcome_in (body_of s r) ≡ outcome_number (eqb o 1) = w.second ∙ sym (outcome-back o l) in
      let f = body_bytes_lem s at r h by in
      let b : body_of s r ≡ u16_bytes t ++ u16_bytes (outcome_number (eqb o 1)) =
      field-forth (body_of s r) 0 f (omega (arith, w.size))
      ∙ ap (λ (l : List ℕ). u16_bytes (u16_at (body_of s r) 0) ++ l) (field-last (body_of s r) 2 f w.size)
      ∙ (λ i. u16_bytes (w.first i) ++ u16_bytes (x i)) in
      record-forth s at r h by 4 32 end _ (sym (body-length s at r h) ∙ w.size) (eqb-true _ _ w.kind) b w.ends

  point-forth : (e g end : ℕ) → PointRead a s at e g end → drop at s ≡ point_bytes (record { event = e; gap = g }) ++ drop end s
  point-forth e g end w =
      let r = w.whole in
      let h = there s at r w.there in
      let f = body_bytes_lem s at r h by in
      let b : body_of s r ≡ u32_bytes e ++ u16_bytes g =
      long-forth (body_of s r) 0 f (omega (arith, w.size))
      ∙ ap (λ (l : List ℕ). u32_bytes (u32_at (body_of s r) 0) ++ l) (field-last (body_of s r) 4 f w.size)
      ∙ (λ i. u32_bytes (w.first i) ++ u16_bytes (w.second i)) in
      record-forth s at r h by 6 33 end _ (sym (body-length s at r h) ∙ w.size) (eqb-true _ _ w.kind) b w.ends

-- ---- the file is the bytes of its content

bytes-place : (m : Marking) (t o : ℕ) → m.points ≡ []
    → marking_bytes (with_place m t o) ≡ marking_bytes m ++ place_bytes (record { transaction = t; committed = eqb o 1 })
unfolding marking_bytes flat
bytes-place m t o e =
    let p : Place = record { transaction = t; committed = eqb o 1 } in
    rw e
    (ap (λ (x : List ℕ). marking_head ++ x)
    (append-nil (flat place_bytes (m.places ++ (p ∷ []))) ∙ flat_append place_bytes m.places (p ∷ [])
    ∙ ap (λ (x : List ℕ). x ++ place_bytes p) (sym (append-nil (flat place_bytes m.places)))))

bytes-point : (m : Marking) (e g : ℕ) → marking_bytes (with_point m e g) ≡ marking_bytes m ++ point_bytes (record { event = e; gap = g })
unfolding marking_bytes flat
bytes-point m e g =
    let q : Point = record { event = e; gap = g } in
    ap (λ (x : List ℕ). marking_head ++ x)
    (ap (λ (x : List ℕ). flat place_bytes m.places ++ x) (flat_append point_bytes m.points (q ∷ []))
    ∙ sym (append_assoc (flat place_bytes m.places) (flat point_bytes m.points) (point_bytes q)))

-- the walk has come to a byte by the bytes of what it has read
record Forth (s : List ℕ) (at : ℕ) (m : Marking) : Type 0 where
  so : s ≡ marking_bytes m ++ drop at s
  unpointed : next_event m.points ≡ 0 → m.points ≡ []

module _ (k : Known) (s : List ℕ) (by : Bytes s) (m' : Marking) where
  forth-place : (at : ℕ) (m : Marking) (t o end : ℕ) → Forth s at m → PlaceRead (asked k m) s at t o end → Forth s end (with_place m t o)
  unfolding place_questions
  forth-place at m t o end f w =
      let q = head-yes _ _ w.fine in
      let e : m.points ≡ [] = f.unpointed (eqb-true _ _ (and_l _ _ q.0)) in
      let l : o < 2 = ltb-true _ _ (head-yes _ _ q.1).0 in
      record {
        so =
            f.so
            ∙ (ap (λ (x : List ℕ). marking_bytes m ++ x) (place-forth (asked k m) s at by t o end w l)
            ∙ (sym (append_assoc (marking_bytes m) (place_bytes (record { transaction = t; committed = eqb o 1 })) (drop end s))
            ∙ ap (λ (x : List ℕ). x ++ drop end s) (sym (bytes-place m t o e))));
        unpointed = f.unpointed;
      }

  forth-point : (at : ℕ) (m : Marking) (e g end : ℕ) → Forth s at m → PointRead (asked k m) s at e g end → Forth s end (with_point m e g)
  unfolding next_event
  forth-point at m e g end f w =
      record {
        so =
            f.so
            ∙ (ap (λ (x : List ℕ). marking_bytes m ++ x) (point-forth (asked k m) s at by e g end w)
            ∙ (sym (append_assoc (marking_bytes m) (point_bytes (record { event = e; gap = g })) (drop end s))
            ∙ ap (λ (x : List ℕ). x ++ drop end s) (sym (bytes-point m e g))));
        unpointed =
            λ z.
            let n = latest-snoc (λ p. some (p.event + 1)) m.points (record { event = e; gap = g }) in
            let y : e + 1 ≡ 0 = sym (ap (λ (x : Option ℕ). get_or x 0) n) ∙ z in
            absurd (omega arith);
      }

  walk-forth : (left at : ℕ) (m : Marking) → Forth s at m → walk k left s at m ≡ content m' → s ≡ marking_bytes m'
  unfolding walk
  walk-forth zero at m f e = absurd (not-content e)
  walk-forth (suc left) at m f e = go (step_at (asked k m) (every_pointed k m) s at) refl e (λ a x. walk-forth left a x)
    where
      go : (x : Stepped) → step_at (asked k m) (every_pointed k m) s at ≡ x → continued (walk k left s) m x ≡ content m'
          → ((a : ℕ) (x : Marking) → Forth s a x → walk k left s a x ≡ content m' → s ≡ marking_bytes m') → s ≡ marking_bytes m'
      go (Ok (Placed t o end)) q d ih =
          ih end (with_place m t o) (forth-place at m t o end f (placed-means (asked k m) s at (every_pointed k m) t o end q)) d
      go (Ok (Pointed i g end)) q d ih =
          ih end (with_point m i g) (forth-point at m i g end f (pointed-means (asked k m) s at (every_pointed k m) i g end q)) d
      go (Err r) q d ih = absurd (not-content d)
      go (Ok Finished) q d ih =
          let w = finished-means (asked k m) s at (every_pointed k m) q in
          let z : m ≡ m' = cc in
          let n : drop at s ≡ [] = drop_of_length-le s (end-past s at w.0) in
          f.so ∙ (ap (λ (x : List ℕ). marking_bytes m ++ x) n ∙ (append-nil (marking_bytes m) ∙ ap marking_bytes z))

  head-forth : opening s ≡ none → s ≡ marking_head ++ drop 6 s
  unfolding opening head_questions refusal
  head-forth e = size (leb (length s) 32768) e
    where
      one : (b : Bool) → ◌≡◌ {A = Option ℕ} (cond b none (some 21)) none → b ≡ true
      one true d = refl
      one false d = absurd (cc)

      found : (f : Found) → record_at s 0 ≡ f → headed s f ≡ none → s ≡ marking_head ++ drop 6 s
      found (Whole r) w d = head_bytes_lem s r 2 by w (one (eqb r.kind 2 and eqb r.size 2 and eqb (u16_at (body_of s r) 0) 1) d)
      found Short w d = absurd (cc)
      found End w d = absurd (cc)

      size : (b : Bool) → cond b (headed s (record_at s 0)) (some 1) ≡ none → s ≡ marking_head ++ drop 6 s
      size true d = found (record_at s 0) refl d
      size false d = absurd (cc)

  -- a file that is read is the bytes of its content
  pub content-bytes : file_read k s ≡ content m' → s ≡ marking_bytes m'
  unfolding file_read marking_bytes flat
  content-bytes e = go (opening s) refl e
    where
      go : (o : Option ℕ) → opening s ≡ o → after_opening k s o ≡ content m' → s ≡ marking_bytes m'
      go none q d = walk-forth (suc (length s)) 6 nothing_read (record { so = head-forth q; unpointed = λ z. refl }) d
      go (some x) q d = absurd (not-content d)

-- The arrays of the reader stay sound, and hold one place or point more.
-- Assumes nothing.
use Prim.Native.Nat.{ℕ, zero, suc, ◌+◌, ◌≤◌, ◌<◌}
use native.Mathlib.Nat.{not-suc-le-zero, le_refl, lt_of_not-le}
use native.Mathlib.Decide.{dec_le}
use native.Mathlib.Numerals.{add-one}
use native.Mathlib.Omega.{arith}
use mathlib.Core.Path.{◌≡◌, refl, sym, ap, ◌∙◌, subst, fun_ext}
use mathlib.Core.Logic.{⊎_elim}
use mathlib.Core.Bool.{Bool, true, false, not}
use mathlib.Core.List.{List, [], ◌∷◌, ◌++◌}
use mathlib.Core.Option.{none}
use lib.Dec.{eqb, ltb, leb}
use lib.ListN.{length, get_or, set, replicate, length-set, length-replicate, get_or-replicate}
use lib.Seq.{get_or-set_same, get_or-set_other}
use borrow.Author.Tests.{eqb-true, ne_eqb, eqb-false, lt-ltb, ltb-true, leb-true}
use Rattle.lists.specs.Lists.{◌and◌, ◌or◌, ◌implies◌, any, all, every, latest}
use Rattle.lists.proofs.ListLaws.{and_i, and_l, and_r, imp-e, not-true, or-false, clash}
use Rattle.lists.proofs.ListLaws.{any_append, all_append, below-cases, latest-snoc, every-e}
use Rattle.events.specs.declared.event.Event.{Event}
use Rattle.events.specs.Events.{begins}
use Rattle.events.specs.Questions.{refusal}
use Rattle.events.proofs.QuestionLaws.{head-yes}
use Rattle.opacity.specs.Transactions.{is_store_read}
use Rattle.opacity.specs.Justification.{Place, is_of, placed, distinct, is_order}
use Rattle.opacity.specs.Marking.{Marking, Point}
use Rattle.opacity.proofs.Orders.{distinct_snoc, fills, filled as full}
use Rattle.opacity.specs.Arrays.{places_of, place_at}
use Rattle.rules.proofs.Numbers.{every-ext}
use Rattle.opacity.proofs.Arrays.{places-length}
use Rattle.marking_reader.specs.File.{known, asked, next_event, every_placed, has_point, every_pointed, step_at}
use Rattle.marking_reader.specs.File.{with_place, with_point, nothing_read}
use Rattle.marking_reader.specs.State.{Fresh, point_by, asked_by, place_questions, point_questions, point_in, points_of, so_far, Sound, Kept}
use Rattle.marking_reader.proofs.PointLaws.{has-tabled, points_set, points_none, beyond-history}

-- ---- one place stored

-- places below k do not see a store at k
places-set : (order outcomes : List ℕ) (j t o k : ℕ) → k ≤ j → places_of (set order j t) (set outcomes j o) k ≡ places_of order outcomes k
unfolding places_of
places-set order outcomes j t o zero l = refl
places-set order outcomes j t o (suc k) l =
    let ne : k ≡ j → ⊥ = λ e. omega arith in
    ap (λ (P : List Place). P ++ (place_at (set order j t) (set outcomes j o) k ∷ [])) (places-set order outcomes j t o k (omega arith))
    ∙ rw (get_or-set_other order j k t 0 ne, get_or-set_other outcomes j k o 0 ne)

-- ---- nothing read

no_flag : (n t : ℕ) → get_or (replicate n false) t false ≡ false
no_flag zero t = refl
no_flag (suc n) zero = refl
no_flag (suc n) (suc t) = no_flag n t

-- arrays as the callers lend them
pub arrays-fresh : (n : ℕ) → Fresh (replicate 64 0) (replicate 64 0) (replicate n 65535)
arrays-fresh n =
    record {
      order-size = length-replicate {A = ℕ} 64 0;
      outcomes-size = length-replicate {A = ℕ} 64 0;
      none = λ i l. get_or-replicate n i 65535 0 (omega (arith, l, length-replicate {A = ℕ} n 65535));
    }

pub sound-start : (h : List Event) (order outcomes gaps : List ℕ) → length h ≤ 2048 → begins h ≤ 64 → length h ≤ length gaps
    → Fresh order outcomes gaps → Sound h order outcomes (replicate 64 false) 0 gaps 0
unfolding all distinct placed any places_of points_of next_event latest
sound-start h order outcomes gaps l m room f =
    record {
      few = l;
      few-begun = m;
      filled-le = omega arith;
      order-size = f.order-size;
      outcomes-size = f.outcomes-size;
      used-size = length-replicate {A = Bool} 64 false;
      gaps-room = room;
      used-holds = λ t. no_flag 64 t;
      low = refl;
      apart = refl;
      next-holds = refl;
      next_le = omega arith;
      none_after = λ i a c. f.none i c;
      fits = λ i a c. absurd (not-suc-le-zero a);
    }

pub nothing-so : (order outcomes gaps : List ℕ) → so_far order outcomes 0 gaps 0 ≡ nothing_read
unfolding so_far places_of points_of
nothing-so order outcomes gaps = refl

module _ {h : List Event} {order outcomes : List ℕ} {used : List Bool} {filled : ℕ} {gaps : List ℕ} {next : ℕ}
    (y : Sound h order outcomes used filled gaps next) where
  abbrev b : ℕ
  b = begins h

  -- the places filled, and the marking read so far
  abbrev P : List Place
  P = places_of order outcomes filled

  abbrev read : Marking
  read = so_far order outcomes filled gaps next

  -- a table that is filled has them all
  filled-all : filled ≡ b → every (λ t. placed t P) b ≡ true
  filled-all e = fills b P y.low y.apart (places-length order outcomes filled ∙ e)

  -- where an event has a gap, it is below the next
  below_next : (i : ℕ) → i < length gaps → eqb (get_or gaps i 0) 65535 ≡ false → i < next
  below_next i l e = elim (dec_le next i) [ yes m ↦ absurd (eqb-false _ _ e (y.none_after i m l)) | no u ↦ lt_of_not-le u ]

  -- ---- what the arrays say to the questions

  every-placed : eqb filled b ≡ every_placed (known h) (read)
  unfolding every_placed so_far is_order
  every-placed = go (eqb filled b) refl (every (λ t. placed t P) b) refl
    where
      go : (x : Bool) → eqb filled b ≡ x → (z : Bool) → every (λ t. placed t P) b ≡ z → x ≡ z
      go true e true f = refl
      go true e false f = absurd (clash (filled-all (eqb-true _ _ e)) f)
      go false e true f =
          let n = full b P (and_i _ _ y.low (and_i _ _ y.apart f)) in
          absurd (eqb-false _ _ e (sym (places-length order outcomes filled) ∙ n))
      go false e false f = refl

  pub asked-same : asked_by h b used filled next ≡ asked (known h) (read)
  unfolding so_far
  asked-same = λ i. record {
    transactions = b;
    store_read = λ j. is_store_read h j;
    next_event = next-same i;
    placed = fun_ext used-same i;
    every_placed = every-placed i;
  }
    where
      next-same : next ≡ next_event read.points
      next-same = sym y.next-holds

      used-same : (t : ℕ) → get_or used t false ≡ placed t (so_far order outcomes filled gaps next).places
      used-same t = y.used-holds t

  pub pointed-same : every (point_by h gaps) (length h) ≡ every_pointed (known h) (read)
  unfolding every_pointed so_far ◌and◌
  pointed-same = every-ext (point_by h gaps) (λ i. is_store_read h i implies has_point (points_of gaps next) i) (length h) same
    where
      there : (i : ℕ) → i < length h → (z : Bool) → eqb (get_or gaps i 0) 65535 ≡ z → not z ≡ (ltb i next and not z)
      there i l true e = none (ltb i next)
        where
          none : (x : Bool) → false ≡ (x and false)
          none true = refl
          none false = refl
      there i l false e =
          let w = below_next i (omega (arith, y.gaps-room)) e in rw (lt-ltb i next w)

      same : (i : ℕ) → i < length h → point_by h gaps i ≡ (is_store_read h i implies has_point (points_of gaps next) i)
      same i l = ap (λ (x : Bool). is_store_read h i implies x) (there i l (eqb (get_or gaps i 0) 65535) refl ∙ sym (has-tabled gaps next i))

  pub step_same : (s : List ℕ) (at : ℕ) → step_at (asked_by h b used filled next) (every (point_by h gaps) (length h)) s at
      ≡ step_at (asked (known h) (read)) (every_pointed (known h) (read)) s at
  step_same s at = λ i. step_at (asked-same i) (pointed-same i) s at

  -- ---- one place more
  module _ (t o : ℕ) (q : refusal (place_questions b next (get_or used t false) t o) ≡ none) where
    abbrev new : Place
    new = record { transaction = t; committed = eqb o 1 }

    fine : (eqb next 0 and ltb t b and not (get_or used t false)) ≡ true
    unfolding place_questions
    fine = (head-yes _ _ q).0

    pub place-low : t < b
    place-low = ltb-true _ _ (and_l _ _ (and_r _ _ fine))

    pub outcome-low : o < 2
    unfolding place_questions
    outcome-low = ltb-true _ _ (head-yes _ _ (head-yes _ _ q).1).0

    fresh : placed t P ≡ false
    fresh = sym (y.used-holds t) ∙ not-true _ (and_r _ _ (and_r _ _ fine))

    pub room : filled < b
    room =
        elim (dec_le b filled) [
          | yes m ↦
              absurd
              (let e : filled ≡ b = (let k = y.filled-le in omega arith) in
              clash {b = placed t P}
              (every-e (λ u. placed u P) b (filled-all e) t place-low) fresh)
          | no u ↦ lt_of_not-le u
        ]

    more-places : places_of (set order filled t) (set outcomes filled o) (filled + 1) ≡ P ++ (new ∷ [])
    unfolding places_of
    more-places =
        let f = y.few-begun in
        let m = room in
        let lo : filled < length order = rw y.order-size (omega arith) in
        let lu : filled < length outcomes = rw y.outcomes-size (omega arith) in
        rw (add-one filled)
        (ap (λ (p : List Place). p ++ (place_at (set order filled t) (set outcomes filled o) filled ∷ []))
        (places-set order outcomes filled t o filled (le_refl filled))
        ∙ rw (get_or-set_same order filled t 0 lo, get_or-set_same outcomes filled o 0 lu))

    used-more : (u : ℕ) → get_or (set used t true) u false ≡ placed u (P ++ (new ∷ []))
    unfolding placed any ◌or◌
    used-more u = go (eqb t u) refl ∙ sym (any_append (is_of u) P (new ∷ []))
      where
        last : (x : Bool) → true ≡ (x or true)
        last true = refl
        last false = refl

        go : (a : Bool) → eqb t u ≡ a → get_or (set used t true) u false ≡ (any (is_of u) P or (eqb t u or false))
        go true e =
            let d : t ≡ u = eqb-true t u e in
            let f = y.few-begun in
            let m = place-low in
            let k : t < length used = rw y.used-size (omega arith) in
            let z : get_or (set used t true) u false ≡ true =
            ap (λ (x : ℕ). get_or (set used t true) x false) (sym d) ∙ get_or-set_same used t true false k in
            rw (z, e) (last (any (is_of u) P))
        go false e = rw (get_or-set_other used t u true false (λ q. eqb-false t u e (sym q)), e, or-false) (y.used-holds u)

    pub place-sound : Sound h (set order filled t) (set outcomes filled o) (set used t true) (filled + 1) gaps next
    unfolding all
    place-sound =
        record {
          few = y.few;
          few-begun = y.few-begun;
          filled-le = (let m = room in omega arith);
          order-size = length-set order filled t ∙ y.order-size;
          outcomes-size = length-set outcomes filled o ∙ y.outcomes-size;
          used-size = length-set used t true ∙ y.used-size;
          gaps-room = y.gaps-room;
          used-holds = λ u. rw more-places (used-more u);
          low = rw (more-places, all_append) (and_i _ _ y.low (and_i _ _ (lt-ltb _ _ place-low) refl));
          apart = rw more-places (distinct_snoc P new y.apart fresh);
          next-holds = y.next-holds;
          next_le = y.next_le;
          none_after = y.none_after;
          fits = y.fits;
        }

    pub place-so : so_far (set order filled t) (set outcomes filled o) (filled + 1) gaps next ≡ with_place (read) t o
    unfolding so_far
    place-so = rw more-places

  -- ---- one point more
  module _ (e g : ℕ) (q : refusal (point_questions b next (eqb filled b) (is_store_read h e) e g) ≡ none) where
    above-read : (leb next e and is_store_read h e) ≡ true
    unfolding point_questions
    above-read = (head-yes _ _ (head-yes _ _ q).1).0

    above : next ≤ e
    above = leb-true _ _ (and_l _ _ above-read)

    gap-low : g ≤ b
    unfolding point_questions
    gap-low = leb-true _ _ (head-yes _ _ (head-yes _ _ (head-yes _ _ q).1).1).0

    pub inside : e < length h
    inside =
        elim (dec_le (length h) e) [
          | yes m ↦ absurd (clash (and_r _ _ above-read) (beyond-history h e m))
          | no u ↦ lt_of_not-le u
        ]

    more-points : points_of (set gaps e g) (e + 1) ≡ points_of gaps next ++ (record { event = e; gap = g } ∷ [])
    unfolding points_of
    more-points =
        let m = above in
        let f = y.few-begun in
        let few = y.few in
        let i = inside in
        let gl = gap-low in
        let le : e < length gaps = omega (arith, y.gaps-room, inside) in
        let z : eqb g 65535 ≡ false = ne_eqb g 65535 (λ d. omega arith) in
        rw (add-one e)
        (ap (λ (p : List Point). p ++ point_in (set gaps e g) e)
        (points_set gaps e g e (le_refl e) ∙ points_none gaps next e m (λ i a c. y.none_after i a (omega (arith, c, le))))
        ∙ rw (get_or-set_same gaps e g 0 le, z))

    pub point-so : so_far order outcomes filled (set gaps e g) (e + 1) ≡ with_point (read) e g
    unfolding so_far
    point-so = rw more-points

    fits-now : (j : ℕ) → j ≡ e → (get_or (set gaps e g) j 0 ≤ b) × (is_store_read h j ≡ true)
    fits-now j d =
        let i = inside in
        let few = y.few in
        let le : e < length gaps = omega (arith, y.gaps-room, inside) in
        (rw (d, get_or-set_same gaps e g 0 le) gap-low, rw d (and_r _ _ above-read))

    fits-before : (j : ℕ) → eqb (get_or (set gaps e g) j 0) 65535 ≡ false → j < e → (get_or (set gaps e g) j 0 ≤ b) × (is_store_read h j ≡ true)
    fits-before j c d =
        let ne : j ≡ e → ⊥ = λ k. omega arith in
        let i = inside in
        let few = y.few in
        let c' : eqb (get_or gaps j 0) 65535 ≡ false = rw (get_or-set_other gaps e j g 0 ne) at c in
        let f = y.fits j (below_next j (omega (arith, d, i, y.gaps-room)) c') c' in
        (rw (get_or-set_other gaps e j g 0 ne) f.0, f.1)

    pub point-sound : Sound h order outcomes used filled (set gaps e g) (e + 1)
    unfolding next_event
    point-sound =
        let few = y.few in
        let i = inside in
        record {
          few = y.few;
          few-begun = y.few-begun;
          filled-le = y.filled-le;
          order-size = y.order-size;
          outcomes-size = y.outcomes-size;
          used-size = y.used-size;
          gaps-room = omega (arith, length-set gaps e g, y.gaps-room);
          used-holds = y.used-holds;
          low = y.low;
          apart = y.apart;
          next-holds = rw (more-points, latest-snoc);
          next_le = omega arith;
          none_after = λ j a c. (let d = above in rw (get_or-set_other gaps e j g 0 (λ k. omega arith)) (y.none_after j (omega arith) (omega (arith, c, length-set gaps e g))));
          fits = λ j a c. ⊎_elim (fits-now j) (fits-before j c) (below-cases (rw (add-one e) at a));
        }

  -- ---- the end
  module _ (full-now : eqb filled b ≡ true) (pointed-now : every (point_by h gaps) (length h) ≡ true) where
    pub all-filled : filled ≡ b
    all-filled = eqb-true _ _ full-now

    pub end-so : so_far order outcomes b gaps (length h) ≡ so_far order outcomes filled gaps next
    unfolding so_far
    end-so = rw (all-filled, points_none gaps next (length h) y.next_le (λ i a c. y.none_after i a (omega (arith, c, y.gaps-room))))

    end-ordered : is_order b (places_of order outcomes b) ≡ true
    unfolding is_order
    end-ordered =
        let e = all-filled in
        subst (λ (x : ℕ). is_order b (places_of order outcomes x) ≡ true) e
        (and_i _ _ y.low (and_i _ _ y.apart (filled-all e)))

    end-pointed : (i : ℕ) → i < length h → is_store_read h i ≡ not (eqb (get_or gaps i 0) 65535)
    end-pointed i l = go (is_store_read h i) refl (eqb (get_or gaps i 0) 65535) refl
      where
        go : (a : Bool) → is_store_read h i ≡ a → (z : Bool) → eqb (get_or gaps i 0) 65535 ≡ z → a ≡ not z
        go true e true f = absurd (clash (imp-e _ _ (every-e (point_by h gaps) (length h) pointed-now i l) e) (ap not f))
        go true e false f = refl
        go false e true f = refl
        go false e false f = absurd (clash (y.fits i (below_next i (omega (arith, l, y.gaps-room)) f) f).1 e)

    end_fits : (i : ℕ) → i < length h → is_store_read h i ≡ true → get_or gaps i 0 ≤ b
    end_fits i l r =
        let z : eqb (get_or gaps i 0) 65535 ≡ false = not-true _ (sym (end-pointed i l) ∙ r) in
        (y.fits i (below_next i (omega (arith, l, y.gaps-room)) z) z).0

    pub end_kept : Kept h order outcomes gaps
    end_kept = record { gaps-room = y.gaps-room; ordered = end-ordered; pointed = end-pointed; gaps-fit = end_fits }

-- The straightened marking: which points are kept, which are moved and which events are listed; that it is readable and keeps D, and is
-- accepted exactly if its outcomes and order are a justification.
-- Assumes nothing.
use Prim.Native.Nat.{ℕ, ◌≤◌, ◌<◌}
use native.Mathlib.Omega.{arith}
use mathlib.Core.Path.{◌≡◌, refl, sym, ap, ◌∙◌, fun_ext}
use mathlib.Core.Logic.{◌↔◌}
use mathlib.Core.Bool.{Bool, true, false, not, cond}
use mathlib.Core.List.{List, [], ◌∷◌, map, map-map}
use lib.Dec.{leb}
use lib.ListN.{length, length-map}
use borrow.Author.Tests.{le-leb}
use Rattle.events.specs.declared.event.Event.{Event}
use Rattle.lists.specs.Lists.{◌and◌, all, keep, push, range}
use Rattle.events.specs.Events.{event_at, begins}
use Rattle.lists.proofs.ListLaws.{and_l, and_r, and_i, imp-i, not-true, clash, keep-length, keep-none}
use Rattle.opacity.specs.declared.verdict.Rule.TheVariants.{D, E}
use Rattle.opacity.specs.declared.verdict.Verdict.TheVariants.{Accepted}
use Rattle.opacity.specs.Transactions.{is_store_read, store_reads}
use Rattle.opacity.specs.Justification.{Place, Justified}
use Rattle.opacity.specs.Marking.{Marking, Point, ReadableFor, marking_bytes, gap_of, place_of, marked, no_writer_between, value_at_gap, verdict, rule_holds}
use Rattle.opacity.specs.Verdicts.{RuleD}
use Rattle.opacity.proofs.Finder.{gap-marked, marked-keeps-D, before-le, events-of}
use Rattle.opacity.proofs.MarkingBytes.{marking-length}
use Rattle.opacity.proofs.Orders.{filled}
use Rattle.opacity.proofs.Rules.{legal-gap, accepted-justified, justified-accepted}
use Rattle.opacity.proofs.VerdictLaws.{accepted-rules}
use Rattle.marking_reader.proofs.ReadBack.{rising, passing-rise}
use Rattle.straighten.specs.Straight.{stays_put, at_reader, straight_point, straightened, moved_events, Rises}
use Rattle.straighten.proofs.PointLaws.{point_with, by-event, keep-map, keep-keep, map-none, rises}

-- ---- an event that is no store read breaks neither D nor E at any gap, and nothing breaks D at its reader's place

module _ (h : List Event) (J : List Place) (i : ℕ) where
  no-read-D : (g : ℕ) → is_store_read h i ≡ false → no_writer_between h J g i ≡ true
  unfolding no_writer_between
  no-read-D g n = imp-i _ _ (λ s. absurd (clash s n))

  no-read-E : (start : ℕ → ℕ) (g : ℕ) → is_store_read h i ≡ false → value_at_gap start h J g i ≡ true
  unfolding value_at_gap
  no-read-E start g n = imp-i _ _ (λ s. absurd (clash s n))

  reader-keeps-D : i < length h → no_writer_between h J (place_of (event_at h i).transaction J) i ≡ true
  unfolding marked rule_holds
  reader-keeps-D l = go (is_store_read h i) refl
    where
      go : (b : Bool) → is_store_read h i ≡ b → no_writer_between h J (place_of (event_at h i).transaction J) i ≡ true
      go true s = ap (λ (g : ℕ). no_writer_between h J g i) (sym (gap-marked h (λ k. place_of (event_at h k).transaction J) i l s)) ∙ marked-keeps-D h J i l
      go false s = no-read-D _ s

-- ---- the points

module _ (start : ℕ → ℕ) (h : List Event) (m : Marking) where
  -- D and E hold at event i
  abbrev pub kept_at : ℕ → Bool
  kept_at i = rule_holds start h m D i and rule_holds start h m E i

  -- its gap afterwards
  abbrev pub gap_after : ℕ → ℕ
  gap_after i = cond (kept_at i) (gap_of m.points i) (place_of (event_at h i).transaction m.places)

  -- what is moved is a store read
  pub moved-read : (i : ℕ) → kept_at i ≡ false → is_store_read h i ≡ true
  unfolding rule_holds
  moved-read i n = go (is_store_read h i) refl
    where
      go : (b : Bool) → is_store_read h i ≡ b → b ≡ true
      go true s = refl
      go false s = absurd (clash (and_i _ _ (no-read-D h m.places i _ s) (no-read-E h m.places i start _ s)) n)

  point-after : (i : ℕ) → straight_point start h m.places (point_with (gap_of m.points) i) ≡ point_with gap_after i
  unfolding straight_point stays_put rule_holds
  point-after i = go (kept_at i)
    where
      go : (b : Bool)
          → cond b (point_with (gap_of m.points) i) (record { event = i; gap = place_of (event_at h i).transaction m.places })
          ≡ record { event = i; gap = cond b (gap_of m.points i) (place_of (event_at h i).transaction m.places) }
      go true = refl
      go false = refl

  -- a gap that is moved is a place
  gaps-stay : (b : ℕ) (ps : List Point) → length m.places ≡ b → all (λ p. leb p.gap b) ps ≡ true
      → all (λ p. leb p.gap b) (map (straight_point start h m.places) ps) ≡ true
  unfolding all straight_point place_of
  gaps-stay b [] e a = refl
  gaps-stay b (p ∷ ps) e a = and_i _ _ (go (stays_put start h m.places p)) (gaps-stay b ps e (and_r _ _ a))
    where
      go : (x : Bool) → leb (cond x p (at_reader h m.places p)).gap b ≡ true
      go true = and_l _ _ a
      go false = le-leb (place_of (event_at h p.event).transaction m.places) b (omega (arith, before-le (event_at h p.event).transaction m.places))

  -- where nothing is moved, the points are the same
  points-stay : (ps : List Point) → keep (λ p. not (stays_put start h m.places p)) ps ≡ [] → map (straight_point start h m.places) ps ≡ ps
  unfolding keep straight_point
  points-stay [] e = refl
  points-stay (p ∷ ps) e = go (stays_put start h m.places p) e (points-stay ps)
    where
      go : (b : Bool) → push (not b) p (keep (λ q. not (stays_put start h m.places q)) ps) ≡ []
          → (keep (λ q. not (stays_put start h m.places q)) ps ≡ [] → map (straight_point start h m.places) ps ≡ ps)
          → cond b p (at_reader h m.places p) ∷ map (straight_point start h m.places) ps ≡ p ∷ ps
      go true x ih = ap (λ (l : List Point). p ∷ l) (ih x)
      go false x ih = absurd (let z : ◌≡◌ {A = ℕ} 0 1 = cc in omega arith)

  pub unmoved-same : moved_events start h m ≡ [] → straightened start h m ≡ m
  unfolding moved_events straightened
  unmoved-same e = λ i. record { places = m.places; points = points-stay m.points (map-none (λ p. p.event) _ e) i }

  -- the bytes of the straightened marking are as many
  pub straight-length : length (marking_bytes (straightened start h m)) ≡ length (marking_bytes m)
  unfolding straightened
  straight-length =
      marking-length (straightened start h m)
      ∙ rw (length-map m.points (straight_point start h m.places))
      (sym (marking-length m))

  module _ (f : ReadableFor h m) where
    -- the points by event
    pub points-by-event : m.points ≡ map (λ i. record { event = i; gap = gap_of m.points i }) (store_reads h)
    unfolding store_reads
    points-by-event =
        by-event 0 m.points (rw f.reads (passing-rise (is_store_read h) (length h)))
        ∙ ap (map (point_with (gap_of m.points))) f.reads

    pub straight-points : (straightened start h m).points ≡ map (point_with gap_after) (store_reads h)
    unfolding straightened
    straight-points =
        ap (map (straight_point start h m.places)) points-by-event
        ∙ map-map (straight_point start h m.places) (point_with (gap_of m.points)) (store_reads h)
        ∙ ap (λ (g : ℕ → Point). map g (store_reads h)) (fun_ext point-after)

    pub straight-gap : (i : ℕ) → i < length h → is_store_read h i ≡ true → gap_of (straightened start h m).points i ≡ gap_after i
    straight-gap i l s = ap (λ (ps : List Point). gap_of ps i) straight-points ∙ gap-marked h gap_after i l s

    -- a point that breaks neither D nor E is kept,
    pub kept-gap : (i : ℕ) → i < length h → is_store_read h i ≡ true → rule_holds start h m D i ≡ true → rule_holds start h m E i ≡ true
        → gap_of (straightened start h m).points i ≡ gap_of m.points i
    kept-gap i l s d e = straight-gap i l s ∙ rw (and_i _ _ d e)

    -- and each other one is moved to its reader's place
    pub moved-gap : (i : ℕ) → i < length h → (rule_holds start h m D i and rule_holds start h m E i) ≡ false
        → gap_of (straightened start h m).points i ≡ place_of (event_at h i).transaction m.places
    moved-gap i l n = straight-gap i l (moved-read i n) ∙ rw n

    -- ---- the list of moved events

    pub moved-exactly : moved_events start h m ≡ keep (λ i. not (rule_holds start h m D i and rule_holds start h m E i)) (range (length h))
    unfolding moved_events stays_put rule_holds store_reads
    moved-exactly =
        ap (λ (ps : List Point). map (λ p. p.event) (keep (λ p. not (stays_put start h m.places p)) ps)) points-by-event
        ∙ ap (map (λ p. p.event)) (keep-map (λ p. not (stays_put start h m.places p)) (point_with (gap_of m.points)) (store_reads h))
        ∙ events-of (gap_of m.points) _
        ∙ keep-keep (is_store_read h) (λ i. not (kept_at i)) (range (length h)) (λ i n. moved-read i (not-true _ n))

    pub moved-rise : Rises (moved_events start h m)
    moved-rise = rises 0 _ (ap (rising 0) moved-exactly ∙ passing-rise _ (length h))

    pub moved-few : length (moved_events start h m) ≤ length (store_reads h)
    unfolding moved_events
    moved-few =
        let a = length-map (keep (λ p. not (stays_put start h m.places p)) m.points) (λ p. p.event) in
        let b = keep-length (λ p. not (stays_put start h m.places p)) m.points in
        let c = length-map m.points (λ p. p.event) in
        let d : length (map (λ p. p.event) m.points) ≡ length (store_reads h) = ap length f.reads in
        omega arith

    -- ---- the straightened marking

    -- it is readable for the history and keeps D
    pub straight-readable : ReadableFor h (straightened start h m)
    unfolding straightened
    straight-readable =
        record {
          order = f.order;
          reads = ap (map (λ p. p.event)) straight-points ∙ events-of gap_after (store_reads h);
          gaps = gaps-stay (begins h) m.points (filled (begins h) m.places f.order) f.gaps;
        }

    pub straight-keeps-D : RuleD h (straightened start h m)
    unfolding straightened rule_holds
    straight-keeps-D i l = go (is_store_read h i) refl
      where
        at : (b : Bool) → kept_at i ≡ b → no_writer_between h m.places (cond b (gap_of m.points i) (place_of (event_at h i).transaction m.places)) i ≡ true
        at true k = and_l _ _ k
        at false k = reader-keeps-D h m.places i l

        go : (b : Bool) → is_store_read h i ≡ b → no_writer_between h m.places (gap_of (straightened start h m).points i) i ≡ true
        go true s = ap (λ (g : ℕ). no_writer_between h m.places g i) (straight-gap i l s) ∙ at (kept_at i) refl
        go false s = no-read-D h m.places i _ s

    -- it is accepted exactly if outcomes and order are a justification
    pub straight-accepted : (verdict start h (straightened start h m) ≡ Accepted) ↔ Justified start h m.places
    unfolding straightened
    straight-accepted = (
      λ v. (accepted-justified start h (straightened start h m) f.order v).0,
      λ j. justified-accepted start h (straightened start h m) j straight-keeps-D,
    )

    -- a marking that is accepted stays as it is
    pub accepted-same : verdict start h m ≡ Accepted → (straightened start h m ≡ m) × (moved_events start h m ≡ [])
    accepted-same v =
        let a = (accepted-rules start h m).0 v in
        let n : moved_events start h m ≡ [] = moved-exactly ∙ keep-none _ (length h) (λ i l. ap not (and_i _ _ (a D i l) (a E i l))) in
        (unmoved-same n, n)

    -- where the straightened marking is accepted, every moved point has another gap than before
    pub moved-moves : verdict start h (straightened start h m) ≡ Accepted → (i : ℕ) → i < length h → (rule_holds start h m D i and rule_holds start h m E i) ≡ false
        → gap_of (straightened start h m).points i ≡ gap_of m.points i → ⊥
    unfolding straightened rule_holds
    moved-moves v i l n e =
        let a = (accepted-rules start h (straightened start h m)).0 v in
        clash (and_i _ _ (rw e at (a D i l)) (rw e at (a E i l))) n

    -- and broke D before: one that breaks E alone breaks it at its reader's place too
    pub moved-broke-D : verdict start h (straightened start h m) ≡ Accepted → (i : ℕ) → i < length h → (rule_holds start h m D i and rule_holds start h m E i) ≡ false
        → rule_holds start h m D i ≡ false
    unfolding rule_holds
    moved-broke-D v i l n = go (no_writer_between h m.places (gap_of m.points i) i) refl
      where
        go : (b : Bool) → no_writer_between h m.places (gap_of m.points i) i ≡ b → b ≡ false
        go false d = refl
        go true d = absurd (clash (and_i _ _ d (legal-gap start h m.places (gap_of m.points i) i d ((straight-accepted.0 v).store i l))) n)

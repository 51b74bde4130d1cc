-- The scan: it answers opaque exactly if every prefix has a justification, and otherwise names the last event of the first prefix that has
-- none.
-- Assumes nothing.
use Prim.Native.Nat.{ℕ, zero, suc, ◌≤◌, ◌<◌}
use native.Mathlib.Nat.{lt_of_lt_of_le}
use native.Mathlib.Omega.{arith}
use mathlib.Core.Path.{◌≡◌, refl, sym, ap, ◌∙◌}
use mathlib.Core.Bool.{Bool, true, false, true≢false}
use mathlib.Core.List.{List, []}
use mathlib.Core.Option.{Option, none, some}
use lib.ListN.{length, take}
use lib.Seq.{take-take, get_or-take, length-take-le}
use Rattle.lists.specs.Lists.{◌and◌, is_none, all, keep, every, first}
use Rattle.events.specs.declared.event.Event.{Event}
use Rattle.events.specs.Events.{no_event, event_at, begins}
use Rattle.opacity.specs.Justification.{Place, distinct, is_order, Justified}
use Rattle.opacity.specs.Lowest.{lowest_of}
use Rattle.opacity.specs.Scan.{Fault, Cause, opaque, fault, answer, scan, AllJustified, FaultsAt, cause}
use Rattle.lists.proofs.ListLaws.{none_first, first-none, is_none-none, none-is_none, First, first_some, none-some}
use Rattle.events.proofs.EventLaws.{begins-take}
use Rattle.opacity.proofs.Least.{lowest-justifies, lowest-least, none-iff}
use Rattle.opacity.proofs.FirstLaws.{first_found}

-- every event is of a transaction that has begun: true of each readable history (question 11) and of its prefixes
abbrev pub Begun : List Event → Type 0
Begun h = (i : ℕ) → i < length h → (event_at h i).transaction < begins (take (suc i) h)

-- in a prefix of a readable history every event is of one of the prefix's transactions
pub begun-prefix : (h : List Event) → Begun h → (n : ℕ) → n ≤ length h → (i : ℕ) → i < length (take n h) → (event_at (take n h) i).transaction < begins (take n h)
begun-prefix h b n l i m =
    let k : length (take n h) ≡ n = length-take-le n h l in
    let j : i < n = omega arith in
    let e : event_at (take n h) i ≡ event_at h i = get_or-take n h i no_event j in
    let q : take (suc i) (take n h) ≡ take (suc i) h = take-take (suc i) n h j in
    let c : begins (take (suc i) h) ≤ begins (take n h) = rw q at (begins-take (suc i) (take n h)) in
    rw e (lt_of_lt_of_le (b i (omega arith)) c)

pub empty-justified : (start : ℕ → ℕ) → Justified start [] []
unfolding is_order begins keep all distinct every ◌and◌
empty-justified start =
    record {
      order = refl;
      outcomes = λ t l. absurd (omega arith);
      real_time = λ t l. absurd (omega arith);
      own = λ t l. absurd (omega arith);
      store = λ t l. absurd (omega arith);
    }

-- an answer tells its event and its cause
pub fault-same : {i j : ℕ} {c d : Cause} → fault i c ≡ fault j d → (i ≡ j) × (c ≡ d)
fault-same {i = i} {j = j} {c = c} {d = d} e =
    let w : ◌≡◌ {A = Fault} record { event = i; cause = c } record { event = j; cause = d } = cc in
    (ap (λ (f : Fault). f.event) w, ap (λ (f : Fault). f.cause) w)

answer-e : (h : List Event) (o : Option ℕ) → answer h o ≡ opaque → o ≡ none
answer-e h none e = refl
answer-e h (some i) e = let z : ◌≡◌ {A = ℕ} 0 1 = cc in absurd (omega arith)

is_none-false : {A : Type 0} (o : Option A) → is_none o ≡ false → (a : A) × (o ≡ some a)
is_none-false none e = absurd (true≢false e)
is_none-false (some a) e = (a, refl)

module _ (start : ℕ → ℕ) (h : List Event) (b : Begun h) where
  pub opaque-prefixes : scan start h ≡ opaque → AllJustified start h
  unfolding scan
  opaque-prefixes e zero l = ([], empty-justified start)
  opaque-prefixes e (suc i) l =
      let o = is_none-false _ (first-none (λ k. is_none (lowest_of start (take (suc k) h))) _ (answer-e h _ e) i l) in
      (o.0, lowest-justifies start (take (suc i) h) (begun-prefix h b (suc i) l) o.1)

  pub prefixes-opaque : AllJustified start h → scan start h ≡ opaque
  unfolding scan
  prefixes-opaque f =
      ap (answer h)
      (none_first (λ k. is_none (lowest_of start (take (suc k) h))) _ (λ k l. ap is_none (lowest-least start (take (suc k) h) (f (suc k) l).1).1))

  -- the scan names the last event of the first prefix without a justification
  pub faulted-prefix : (i : ℕ) (c : Cause) → scan start h ≡ fault i c → FaultsAt start h i c
  unfolding scan
  faulted-prefix i c e = go (first bad (length h)) refl e
    where
      bad : ℕ → Bool
      bad k = is_none (lowest_of start (take (suc k) h))

      earlier : First bad (length h) i → (n : ℕ) → n ≤ i → (J : List Place) × Justified start (take n h) J
      earlier f zero l = ([], empty-justified start)
      earlier f (suc k) l =
          let m : suc k ≤ length h = omega (arith, f.inside) in
          let o = is_none-false _ (f.least k l) in
          (o.0, lowest-justifies start (take (suc k) h) (begun-prefix h b (suc k) m) o.1)

      found : First bad (length h) i → c ≡ cause (event_at h i) → FaultsAt start h i c
      found f w =
          record {
            inside = f.inside;
            why = w;
            none_here = λ J j. none-some (is_none-none _ f.passes) (lowest-least start (take (suc i) h) j).1;
            shorter = earlier f;
          }

      go : (o : Option ℕ) → first bad (length h) ≡ o → answer h o ≡ fault i c → FaultsAt start h i c
      go none q a = let z : ◌≡◌ {A = ℕ} 0 1 = cc in absurd (omega arith)
      go (some k) q a =
          let w = fault-same a in
          let x : k ≡ i = w.0 in
          let y : cause (event_at h k) ≡ c = w.1 in
          found (first_some bad (length h) (q ∙ ap some x)) (sym y ∙ ap (λ (m : ℕ). cause (event_at h m)) x)

  -- and the other way: no other event is so
  pub prefix-faulted : (i : ℕ) (c : Cause) → FaultsAt start h i c → scan start h ≡ fault i c
  unfolding scan
  prefix-faulted i c f =
      ap (answer h) (first_found bad (length h) i (record { inside = f.inside; passes = here; least = found }))
      ∙ ap (fault i) (sym f.why)
    where
      bad : ℕ → Bool
      bad k = is_none (lowest_of start (take (suc k) h))

      here : bad i ≡ true
      here = none-is_none ((none-iff start (take (suc i) h) (begun-prefix h b (suc i) f.inside)).1 f.none_here)

      found : (j : ℕ) → j < i → bad j ≡ false
      found j l = ap is_none (lowest-least start (take (suc j) h) (f.shorter (suc j) l).1).1

-- The verdict on the straightened marking: A, B and C are those of the marking given, D is never broken, and E is broken exactly where a
-- store read is not legal in the marking's order.
-- Assumes nothing.
use Prim.Native.Nat.{ℕ, ◌<◌}
use native.Mathlib.Nat.{lt_trans}
use native.Mathlib.Omega.{arith}
use mathlib.Core.Path.{◌≡◌, refl, sym, ap, ap₂, ◌∙◌, subst}
use mathlib.Core.Logic.{◌↔◌}
use mathlib.Core.List.{List}
use lib.ListN.{length}
use Rattle.events.specs.declared.event.Event.{Event}
use Rattle.events.specs.Events.{event_at}
use Rattle.lists.proofs.ListLaws.{clash, both_ways}
use Rattle.opacity.specs.declared.verdict.Rule.{Rule}
use Rattle.opacity.specs.declared.verdict.Rule.TheVariants.{A, B, C, D, E}
use Rattle.opacity.specs.declared.verdict.Verdict.TheVariants.{Broken}
use Rattle.opacity.specs.Justification.{Place, outcome_kept, real_time_kept, legal}
use Rattle.opacity.specs.Marking.{Marking, ReadableFor, verdict, rule_number, rule_holds}
use Rattle.opacity.specs.Verdicts.{Holds}
use Rattle.opacity.proofs.Rules.{gap-legal, legal-gap}
use Rattle.opacity.proofs.VerdictLaws.{broken-names, names-broken}
use Rattle.straighten.specs.Straight.{straightened, OrderRulesHold, FirstIllegal}
use Rattle.straighten.proofs.StraightLaws.{straight-keeps-D}

-- two markings of one order: A, B and C do not ask for the points
module _ (start : ℕ → ℕ) (h : List Event) (m m' : Marking) (same : m.places ≡ m'.places) where
  rule-same : (q : Rule) → rule_number q < 4 → (k : ℕ) → rule_holds start h m q k ≡ rule_holds start h m' q k
  unfolding rule_holds
  rule-same A l k = ap (λ (J : List Place). outcome_kept h J k) same
  rule-same B l k = ap (λ (J : List Place). real_time_kept h J k) same
  rule-same C l k = refl
  rule-same D l k = absurd (omega arith)
  rule-same E l k = absurd (omega arith)

  holds_same : (q : Rule) → rule_number q < 4 → Holds start h m q → Holds start h m' q
  holds_same q l f k i = sym (rule-same q l k) ∙ f k i

  broken-same : (q : Rule) → rule_number q < 4 → (i t : ℕ) → verdict start h m ≡ Broken q i t → verdict start h m' ≡ Broken q i t
  broken-same q l i t v =
      let n = broken-names start h m q i t v in
      let b = n.first-broken in
      names-broken start h m' q n.number
      (record {
        inside = b.inside;
        broken = sym (rule-same q l n.number) ∙ b.broken;
        lowest = λ j k. sym (rule-same q l j) ∙ b.lowest j k;
        earlier = λ p k. holds_same p (lt_trans k l) (b.earlier p k);
      })
      ∙ ap₂ (Broken q) (sym n.event) (sym n.transaction)

module _ (start : ℕ → ℕ) (h : List Event) (m : Marking) where
  places-stay : m.places ≡ (straightened start h m).places
  unfolding straightened
  places-stay = refl

  -- A, B and C are broken as in the marking given
  pub order-rules-same : (q : Rule) → rule_number q < 4 → (i t : ℕ)
      → (verdict start h (straightened start h m) ≡ Broken q i t) ↔ (verdict start h m ≡ Broken q i t)
  order-rules-same q l i t = (
    broken-same start h (straightened start h m) m (sym places-stay) q l i t,
    broken-same start h m (straightened start h m) places-stay q l i t,
  )

  module _ (f : ReadableFor h m) where
    -- D is not broken
    pub never-D : (i t : ℕ) → verdict start h (straightened start h m) ≡ Broken D i t → ⊥
    unfolding rule_holds
    never-D i t v =
        let b = (broken-names start h (straightened start h m) D i t v).first-broken in
        clash (straight-keeps-D start h m f _ b.inside) b.broken

    -- E says at each event whether the order makes it legal
    E-legal : (i : ℕ) → i < length h → rule_holds start h (straightened start h m) E i ≡ legal start h m.places i
    unfolding rule_holds straightened
    E-legal i l =
        let d = straight-keeps-D start h m f i l in
        both_ways _ _ (gap-legal start h m.places _ i d) (legal-gap start h m.places _ i d)

    -- E is broken exactly where the first store read is that is not legal, A, B and C holding
    pub E-first-illegal : (i t : ℕ)
        → (verdict start h (straightened start h m) ≡ Broken E i t) ↔ (FirstIllegal start h m i × (t ≡ (event_at h i).transaction))
    unfolding rule_holds
    E-first-illegal i t = (there, back)
      where
        there : verdict start h (straightened start h m) ≡ Broken E i t → FirstIllegal start h m i × (t ≡ (event_at h i).transaction)
        there v =
            let n = broken-names start h (straightened start h m) E i t v in
            let b = n.first-broken in
            subst (λ (k : ℕ). FirstIllegal start h m k × (t ≡ (event_at h k).transaction)) (sym n.event) (
              record {
                inside = b.inside;
                illegal = sym (E-legal n.number b.inside) ∙ b.broken;
                lowest = λ j l. sym (E-legal j (lt_trans l b.inside)) ∙ b.lowest j l;
                earlier = λ q l. holds_same start h (straightened start h m) m (sym places-stay) q l (b.earlier q (omega arith));
              },
              n.transaction,
            )

        hold : OrderRulesHold start h m → (q : Rule) → rule_number q < 5 → Holds start h (straightened start h m) q
        hold g A l = holds_same start h m (straightened start h m) places-stay A (omega arith) (g A (omega arith))
        hold g B l = holds_same start h m (straightened start h m) places-stay B (omega arith) (g B (omega arith))
        hold g C l = holds_same start h m (straightened start h m) places-stay C (omega arith) (g C (omega arith))
        hold g D l = straight-keeps-D start h m f
        hold g E l = absurd (omega arith)

        back : FirstIllegal start h m i × (t ≡ (event_at h i).transaction) → verdict start h (straightened start h m) ≡ Broken E i t
        back w =
            let b = w.0 in
            names-broken start h (straightened start h m) E i
            (record {
              inside = b.inside;
              broken = E-legal i b.inside ∙ b.illegal;
              lowest = λ j l. E-legal j (lt_trans l b.inside) ∙ b.lowest j l;
              earlier = hold b.earlier;
            })
            ∙ ap (Broken E i) (sym w.1)

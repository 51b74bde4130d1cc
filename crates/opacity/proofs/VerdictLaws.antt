-- What the verdict says: it is accepted exactly if all five rules hold, and otherwise names the first broken rule, where it is broken
-- lowest.
-- Assumes nothing.
use Prim.Native.Nat.{ℕ, suc, ◌<◌}
use native.Mathlib.Omega.{arith}
use mathlib.Core.Path.{◌≡◌, refl, sym, ap, ◌∙◌, subst}
use mathlib.Core.Logic.{◌⊎◌, inl, inr, ⊎_elim, ◌↔◌}
use mathlib.Core.Bool.{true, false, not, cond}
use mathlib.Core.List.{List}
use mathlib.Core.Option.{Option, none, some}
use lib.Dec.{eqb}
use Rattle.lists.specs.Lists.{first}
use Rattle.events.specs.declared.event.Event.{Event}
use Rattle.lists.proofs.ListLaws.{not-true, not-false, below-cases, First, first_some}
use Rattle.opacity.proofs.FirstLaws.{passes, none-fails, first_found}
use Rattle.opacity.specs.Marking.{Marking, Rule, A, B, C, D, E, Verdict, Accepted, Broken, broke, tries, verdict}
use Rattle.opacity.specs.Marking.{rule_number, put_to, rule_holds, named_event, named_transaction}
use Rattle.opacity.specs.Verdicts.{Holds, AllHold, FirstBroken}

-- ---- the rules one by one

rule_of : ℕ → Rule
rule_of n = cond (eqb n 1) A (cond (eqb n 2) B (cond (eqb n 3) C (cond (eqb n 4) D E)))

rule-back : (r : Rule) → rule_of (rule_number r) ≡ r
unfolding rule_of
rule-back A = refl
rule-back B = refl
rule-back C = refl
rule-back D = refl
rule-back E = refl

pub same-rule : (q r : Rule) → rule_number q ≡ rule_number r → q ≡ r
same-rule q r e = sym (rule-back q) ∙ ap rule_of e ∙ rule-back r

not-accepted : {r : Rule} {i t : ℕ} → Broken r i t ≡ Accepted → ⊥
not-accepted e = let z : ◌≡◌ {A = ℕ} 0 1 = cc in omega arith

module _ (start : ℕ → ℕ) (h : List Event) (m : Marking) where
  abbrev step : Rule → Verdict → Verdict
  step r v = tries start h m r v

  verdict-steps : verdict start h m ≡ step A (step B (step C (step D (step E Accepted))))
  unfolding verdict
  verdict-steps = refl

  step-holds : (r : Rule) (v : Verdict) → Holds start h m r → step r v ≡ v
  unfolding tries broke
  step-holds r v f = rw (none-fails (rule_holds start h m r) (put_to h r) f)

  step-broken : (r : Rule) (v : Verdict) (k : ℕ) → k < put_to h r → rule_holds start h m r k ≡ false
      → ((j : ℕ) → j < k → rule_holds start h m r j ≡ true) → step r v ≡ Broken r (named_event h r k) (named_transaction h r k)
  unfolding tries broke
  step-broken r v k l n f =
      let w : First (λ j. not (rule_holds start h m r j)) (put_to h r) k =
      record { inside = l; passes = ap not n; least = λ j b. ap not (f j b) } in
      rw (first_found (λ j. not (rule_holds start h m r j)) (put_to h r) k w)

  step-accepted : (r : Rule) (v : Verdict) → step r v ≡ Accepted → Holds start h m r × (v ≡ Accepted)
  unfolding tries broke
  step-accepted r v e = go (first (λ k. not (rule_holds start h m r k)) (put_to h r)) refl e
    where
      go : (o : Option ℕ) → first (λ k. not (rule_holds start h m r k)) (put_to h r) ≡ o
          → broke o (λ k. Broken r (named_event h r k) (named_transaction h r k)) v ≡ Accepted → Holds start h m r × (v ≡ Accepted)
      go none q a = (passes (rule_holds start h m r) (put_to h r) q, a)
      go (some k) q a = absurd (not-accepted a)

  -- ---- accepted

  pub accepted-rules : (verdict start h m ≡ Accepted) ↔ AllHold start h m
  accepted-rules = (there, back)
    where
      there : verdict start h m ≡ Accepted → AllHold start h m
      there e =
          let a = step-accepted A _ (sym verdict-steps ∙ e) in
          let b = step-accepted B _ a.1 in
          let c = step-accepted C _ b.1 in
          let d = step-accepted D _ c.1 in
          let f = step-accepted E _ d.1 in
          go a.0 b.0 c.0 d.0 f.0
        where
          go : Holds start h m A → Holds start h m B → Holds start h m C → Holds start h m D → Holds start h m E → AllHold start h m
          go a b c d f A = a
          go a b c d f B = b
          go a b c d f C = c
          go a b c d f D = d
          go a b c d f E = f

      back : AllHold start h m → verdict start h m ≡ Accepted
      back f =
          verdict-steps
          ∙ step-holds A _ (f A) ∙ step-holds B _ (f B) ∙ step-holds C _ (f C) ∙ step-holds D _ (f D) ∙ step-holds E _ (f E)

  -- ---- broken

  -- the rules numbered below n hold
  Upto : ℕ → Type 0
  Upto n = (q : Rule) → rule_number q < n → Holds start h m q

  nothing-before : Upto 1
  unfolding Upto
  nothing-before A l = absurd (omega arith)
  nothing-before B l = absurd (omega arith)
  nothing-before C l = absurd (omega arith)
  nothing-before D l = absurd (omega arith)
  nothing-before E l = absurd (omega arith)

  one_more : (r : Rule) → Upto (rule_number r) → Holds start h m r → Upto (suc (rule_number r))
  unfolding Upto
  one_more r f here q l = ⊎_elim (λ e. subst (Holds start h m) (sym (same-rule q r e)) here) (f q) (below-cases l)

  -- what the verdict's numbers name
  pub record Names (r : Rule) (i t : ℕ) : Type 0 where
    pub number : ℕ
    pub first-broken : FirstBroken start h m r number
    pub event : i ≡ named_event h r number
    pub transaction : t ≡ named_transaction h r number

  down : (r q : Rule) (v : Verdict) (i t : ℕ) → Upto (rule_number r) → step r v ≡ Broken q i t
      → Names q i t ⊎ (Upto (suc (rule_number r)) × (v ≡ Broken q i t))
  unfolding tries broke Upto
  down r q v i t up e = go (first (λ k. not (rule_holds start h m r k)) (put_to h r)) refl e
    where
      go : (o : Option ℕ) → first (λ k. not (rule_holds start h m r k)) (put_to h r) ≡ o
          → broke o (λ k. Broken r (named_event h r k) (named_transaction h r k)) v ≡ Broken q i t
          → Names q i t ⊎ (Upto (suc (rule_number r)) × (v ≡ Broken q i t))
      go none f a = inr (one_more r up (passes (rule_holds start h m r) (put_to h r) f), a)
      go (some k) f a =
          let x : r ≡ q = cc in
          let y : named_event h r k ≡ i = cc in
          let z : named_transaction h r k ≡ t = cc in
          let w = first_some (λ j. not (rule_holds start h m r j)) (put_to h r) f in
          inl
          (subst (λ (p : Rule). Names p i t) x
          (record {
            number = k;
            first-broken = record { inside = w.inside; broken = not-true _ w.passes; lowest = λ j l. not-false _ (w.least j l); earlier = up };
            event = sym y;
            transaction = sym z;
          }))

  pub broken-names : (r : Rule) (i t : ℕ) → verdict start h m ≡ Broken r i t → Names r i t
  broken-names r i t e =
      on (down A r _ i t nothing-before (sym verdict-steps ∙ e))
      (λ b. on (down B r _ i t b.0 b.1)
      (λ c. on (down C r _ i t c.0 c.1)
      (λ d. on (down D r _ i t d.0 d.1)
      (λ f. on (down E r _ i t f.0 f.1) (λ g. absurd (not-accepted (sym g.1)))))))
    where
      on : {X : Type 0} → Names r i t ⊎ X → (X → Names r i t) → Names r i t
      on s f = ⊎_elim (λ n. n) f s

  pub names-broken : (r : Rule) (k : ℕ) → FirstBroken start h m r k → verdict start h m ≡ Broken r (named_event h r k) (named_transaction h r k)
  names-broken r k f = verdict-steps ∙ go r f
    where
      here : (q : Rule) (v : Verdict) → FirstBroken start h m q k → step q v ≡ Broken q (named_event h q k) (named_transaction h q k)
      here q v g = step-broken q v k g.inside g.broken g.lowest

      go : (q : Rule) → FirstBroken start h m q k
          → step A (step B (step C (step D (step E Accepted)))) ≡ Broken q (named_event h q k) (named_transaction h q k)
      go A g = here A _ g
      go B g = step-holds A _ (g.earlier A (omega arith)) ∙ here B _ g
      go C g = step-holds A _ (g.earlier A (omega arith)) ∙ step-holds B _ (g.earlier B (omega arith)) ∙ here C _ g
      go D g =
          step-holds A _ (g.earlier A (omega arith)) ∙ step-holds B _ (g.earlier B (omega arith))
          ∙ step-holds C _ (g.earlier C (omega arith)) ∙ here D _ g
      go E g =
          step-holds A _ (g.earlier A (omega arith)) ∙ step-holds B _ (g.earlier B (omega arith))
          ∙ step-holds C _ (g.earlier C (omega arith)) ∙ step-holds D _ (g.earlier D (omega arith)) ∙ here E _ g

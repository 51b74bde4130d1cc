-- What is computed is the lowest justification, of which there is one at most; on a prefix it is the lowest order that explains the prefix run
-- one at a time, or none if there is no such order.
-- Assumes nothing.
use Prim.Native.Nat.{ℕ, ◌≤◌}
use mathlib.Core.Path.{◌≡◌, sym, ap, ◌∙◌, subst}
use mathlib.Core.Logic.{◌↔◌, ⊎_elim}
use mathlib.Core.Bool.{true}
use mathlib.Core.List.{List}
use mathlib.Core.Option.{none, some, some-injective}
use lib.ListN.{length, take}
use Rattle.events.specs.declared.event.Event.{Event}
use Rattle.opacity.specs.Justification.{Place}
use Rattle.opacity.specs.Lowest.{lowest_of, LowestJustified}
use Rattle.opacity.specs.Store.{Store}
use Rattle.opacity.specs.Serial.{Serial, LowestSerial}
use Rattle.lists.proofs.ListLaws.{clash}
use Rattle.opacity.proofs.Compare.{orders-ordered, not_above, lower-or-same}
use Rattle.opacity.proofs.Least.{lowest-justifies, lowest-least, none-iff}
use Rattle.opacity.proofs.Opacity.{Begun, begun-prefix}
use Rattle.opacity.proofs.Serial.{Known, known-serial}

module _ (start : Store) (h : List Event) where
  -- there is one lowest justification at most
  pub one-lowest : (J K : List Place) → LowestJustified start h J → LowestJustified start h K → J ≡ K
  one-lowest J K j k =
      ⊎_elim
      (λ a.
      ⊎_elim
      (λ b. absurd (clash (orders-ordered.transitive J K J a b) (orders-ordered.irreflexive J)))
      (λ q. sym q)
      (k.least J j.justifies))
      (λ q. q)
      (j.least K k.justifies)

module _ (start : Store) (h : List Event) (known : Known h) where
  found-lowest : (J : List Place) → lowest_of start h ≡ some J → LowestJustified start h J
  found-lowest J e =
      record {
        justifies = lowest-justifies start h known e;
        least = λ K k.
            let l = lowest-least start h k in
            let q : l.0 ≡ J = some-injective l.0 J (sym l.1 ∙ e) in
            lower-or-same J K (subst (λ (L : List Place). not_above L K ≡ true) q l.2);
      }

  -- what is computed is the lowest justification, and the other way round
  pub found-iff-lowest : (J : List Place) → (lowest_of start h ≡ some J) ↔ LowestJustified start h J
  found-iff-lowest J = (
    found-lowest J,
    λ j. let l = lowest-least start h j.justifies in l.1 ∙ ap some (one-lowest start h l.0 J (found-lowest l.0 l.1) j),
  )

  -- and so the lowest order that explains the history run one at a time
  serial-lowest : (J : List Place) → LowestJustified start h J ↔ LowestSerial start h J
  serial-lowest J = (
    λ j. record { explains = (known-serial start h J known).0 j.justifies; least = λ K s. j.least K ((known-serial start h K known).1 s) },
    λ s. record { justifies = (known-serial start h J known).1 s.explains; least = λ K k. s.least K ((known-serial start h K known).0 k) },
  )

module _ (start : Store) (h : List Event) (b : Begun h) (n : ℕ) (inside : n ≤ length h) where
  pub found-is-lowest : (J : List Place) → (lowest_of start (take n h) ≡ some J) ↔ LowestSerial start (take n h) J
  found-is-lowest J =
      let found = found-iff-lowest start (take n h) (begun-prefix h b n inside) J in
      let serial = serial-lowest start (take n h) (begun-prefix h b n inside) J in
      (λ e. serial.0 (found.0 e), λ s. found.1 (serial.1 s))

  pub none-is-none : (lowest_of start (take n h) ≡ none) ↔ ((K : List Place) → Serial start (take n h) K → ⊥)
  none-is-none =
      let known = begun-prefix h b n inside in
      let e = none-iff start (take n h) known in
      (λ q K s. e.0 q K ((known-serial start (take n h) K known).1 s), λ f. e.1 (λ K j. f K ((known-serial start (take n h) K known).0 j)))

-- What a register holds after the places P is what the committed transactions of P, applied in order over the start values, leave there, and
-- that is the store of the run one at a time (change request 4).
-- Assumes nothing.
use Prim.Native.Nat.{ℕ}
use mathlib.Core.Path.{◌≡◌, refl, sym, ap, ◌∙◌}
use mathlib.Core.Bool.{Bool, true, false, cond}
use mathlib.Core.List.{List, [], ◌∷◌, ◌++◌, foldl}
use mathlib.Core.Option.{Option, get_or}
use lib.Dec.{eqb}
use Rattle.lists.specs.Lists.{◌and◌, push, keep, latest}
use Rattle.events.specs.declared.event.Event.{Event}
use Rattle.events.specs.Events.{is_write, by}
use Rattle.opacity.specs.Justification.{Place, written, contents}
use Rattle.opacity.specs.Store.{Store, put, writes_of, after_write, after_place, applied}
use Rattle.opacity.specs.Serial.{does, events_of, run, after, serial_store}
use Rattle.opacity.proofs.Serial.{or_else-get_d, serial-contents}
use Rattle.lists.proofs.ListLaws.{latest-snoc}

does-write : (e : Event) (s : Store) → is_write e ≡ true → does e s ≡ put e.register e.value s
unfolding does
does-write e s q = rw q

does-nothing : (e : Event) (s : Store) → is_write e ≡ false → does e s ≡ s
unfolding does
does-nothing e s q = rw q

-- running the events of t is applying its writes: the other events leave the view as it is
run-writes : (t : ℕ) (h : List Event) (s : Store) → run (events_of t h) s ≡ foldl after_write s (writes_of h t)
unfolding events_of writes_of keep run after_write by ◌and◌
run-writes t [] s = refl
run-writes t (e ∷ h) s = go (eqb e.transaction t) (is_write e) refl (λ (v : Store). run-writes t h v)
  where
    go : (b w : Bool) → is_write e ≡ w → ((v : Store) → run (events_of t h) v ≡ foldl after_write v (writes_of h t))
        → run (push b e (events_of t h)) s ≡ foldl after_write s (push (b and w) e (writes_of h t))
    go true true q ih = ih (does e s) ∙ ap (λ (v : Store). foldl after_write v (writes_of h t)) (does-write e s q)
    go true false q ih = ih (does e s) ∙ ap (λ (v : Store). foldl after_write v (writes_of h t)) (does-nothing e s q)
    go false w q ih = ih s

-- The store of the run one at a time is the store of the places applied in order.
pub serial-applied : (start : Store) (h : List Event) (P : List Place) → serial_store start h P ≡ applied start h P
unfolding serial_store applied after after_place
serial-applied s h [] = refl
serial-applied s h (p ∷ P) =
    serial-applied (after h p s) h P
    ∙ ap (λ (x : Store). foldl (after_place h) (cond p.committed x s) P) (run-writes p.transaction h s)

-- For every register and every order of places, what the register holds is what the places applied in order leave there.
pub contents-applied : (start : Store) (h : List Event) (P : List Place) (r : ℕ) → contents start h P r ≡ applied start h P r
contents-applied start h P r = sym (serial-contents start h P r) ∙ ap (λ (s : Store). s r) (serial-applied start h P)

-- with one place more: what it wrote, or what was there
pub contents-more : (start : Store) (h : List Event) (P : List Place) (p : Place) (r : ℕ)
    → contents start h (P ++ (p ∷ [])) r ≡ get_or (written h r p) (contents start h P r)
unfolding contents
contents-more start h P p r =
    ap (λ (o : Option ℕ). get_or o (start r)) (latest-snoc (written h r) P p)
    ∙ or_else-get_d (written h r p) (latest (written h r) P) (start r)

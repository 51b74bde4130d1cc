-- The transaction that a lone access stands for: its events are of the access's transaction, it begins with the first and not again, and it
-- commits.
-- Assumes nothing.
use mathlib.Core.Path.{◌≡◌, refl}
use mathlib.Core.Bool.{Bool, true, false}
use lib.Dec.{eqb}
use lib.ListN.{drop}
use Rattle.lists.specs.Lists.{◌and◌, ◌or◌, any, all}
use Rattle.events.specs.Events.{Event, event_at, is_lone, is_begin, is_read, is_commit}
use Rattle.events.specs.Spelled.{spelled}
use Rattle.lists.proofs.ListLaws.{eqb-self}

module _ (e : Event) where
  pub spelled-own : all (λ x. eqb x.transaction e.transaction) (spelled e) ≡ true
  unfolding spelled all ◌and◌
  spelled-own = go (is_read e) refl
    where
      go : (b : Bool) → is_read e ≡ b → all (λ x. eqb x.transaction e.transaction) (spelled e) ≡ true
      go true q = rw (q, eqb-self e.transaction)
      go false q = rw (q, eqb-self e.transaction)

  pub spelled-starts : is_begin (event_at (spelled e) 0) ≡ true
  unfolding spelled is_begin ◌or◌
  spelled-starts = refl

  pub spelled-once : any is_begin (drop 1 (spelled e)) ≡ false
  unfolding spelled any is_begin is_lone ◌or◌
  spelled-once = go (is_read e) refl
    where
      go : (b : Bool) → is_read e ≡ b → any is_begin (drop 1 (spelled e)) ≡ false
      go true q = rw q
      go false q = rw q

  pub spelled-commits : any is_commit (spelled e) ≡ true
  unfolding spelled any is_commit is_lone ◌or◌
  spelled-commits = go (is_read e) refl
    where
      go : (b : Bool) → is_read e ≡ b → any is_commit (spelled e) ≡ true
      go true q = rw q
      go false q = rw q

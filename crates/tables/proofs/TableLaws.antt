-- The tables of a history with one event more.
-- Assumes nothing.
use mathlib.Core.Path.{◌≡◌, refl, sym, ap, ap₂, ◌∙◌}
use Prim.Native.Nat.{ℕ, ◌+◌, ◌<◌}
use native.Mathlib.Numerals.{add-one}
use mathlib.Core.List.{List, [], ◌∷◌, ◌++◌}
use lib.ListN.{length, take, get_or, set}
use lib.Seq.{take-suc, set-set, set-get_or, get_or-set_same}
use Rattle.events.specs.declared.event.Event.{Event}
use mathlib.Core.Bool.{true, false}
use Rattle.lists.specs.Lists.{◌and◌}
use Rattle.events.specs.Events.{no_event, event_at, is_read, is_write, is_quiet}
use Rattle.events.proofs.KindLaws.{quiet}
use Rattle.places.specs.Facts.{fact, put}
use Rattle.tables.specs.declared.Tables.{Tables}
use Rattle.tables.specs.Tables.{put_if, joined, contradicts, reads_store, read_with, written_with, rule_with, next, empty, go_through, tables_of}

-- what does not read and does not write leaves the facts of reads and of writes, and contradicts nothing
pub unread : (f : List (List ℕ)) (e : Event) → is_read e ≡ false → (read_with f e ≡ f) × (contradicts f e ≡ false)
unfolding reads_store contradicts put_if ◌and◌
unread f e n = (rw n, rw n)

pub unwritten : (f : List (List ℕ)) (e : Event) → is_write e ≡ false → written_with f e ≡ f
unfolding put_if
unwritten f e n = rw n

-- what stands at a place, put there again, leaves the table
put-again : (f : List (List ℕ)) (t k : ℕ) → put f t k (fact f t k) ≡ f
put-again f t k = rw (set-get_or (get_or f t []) k 0) (set-get_or f t [])

-- two numbers put into one row
pub put_both : (f : List (List ℕ)) (t k j a b : ℕ) → t < length f → set f t (set (set (get_or f t []) k a) j b) ≡ put (put f t k a) t j b
put_both f t k j a b l = rw (get_or-set_same f t (set (get_or f t []) k a) [] l, set-set f t (set (get_or f t []) k a) (set (set (get_or f t []) k a) j b))

-- a quiet event leaves the tables
pub quiet-stays : (s : Tables) (e : Event) → is_quiet e ≡ true → next s e ≡ s
unfolding next joined put_if rule_with contradicts reads_store ◌and◌
quiet-stays s e t =
    let q = quiet e t in
    simp (q.begins, q.reads, q.writes, q.asks, q.commits, q.aborts, q.ends, put-again s.facts e.transaction 1)

through-snoc : (s : Tables) (h : List Event) (e : Event) → go_through s (h ++ (e ∷ [])) ≡ next (go_through s h) e
unfolding go_through
through-snoc s [] e = refl
through-snoc s (x ∷ h) e = through-snoc (next s x) h e

pub tables-snoc : (h : List Event) (e : Event) → tables_of (h ++ (e ∷ [])) ≡ next (tables_of h) e
unfolding tables_of
tables-snoc h e = through-snoc empty h e

-- one event more, as the code counts
pub take_more : (h : List Event) (i : ℕ) → i < length h → take (i + 1) h ≡ take i h ++ (event_at h i ∷ [])
take_more h i l = rw (add-one i) (take-suc h i no_event l)

pub tables_more : (h : List Event) (i : ℕ) → i < length h → (s r : Tables) (e : Event) → s ≡ tables_of (take i h) → e ≡ event_at h i → r ≡ next s e
    → r ≡ tables_of (take (i + 1) h)
tables_more h i l s r e p q f =
    f ∙ ap₂ next p q ∙ sym (tables-snoc (take i h) (event_at h i)) ∙ ap tables_of (sym (take_more h i l))

-- Laws of the lookup: the last writes of a table of facts as a history, and the last place that wrote.
-- Assumes nothing.
use mathlib.Core.Path.{◌≡◌, refl, sym, ap, ◌∙◌}
use Prim.Native.Nat.{ℕ, zero, suc, ◌+◌, ◌-◌, ◌/◌, ◌%◌, ◌<◌}
use native.Mathlib.Omega.{arith}
use mathlib.Core.Bool.{Bool, true, false, cond}
use mathlib.Core.List.{List, [], ◌∷◌, ◌++◌}
use mathlib.Core.Option
use mathlib.Core.Option.{Option, none, some}
use lib.ListN.{length, drop, get_or, length-append, get_or-append}
use lib.Seq.{get_or-drop, get_or-append_seam}
use lib.Dec.{eqb}
use borrow.Author.Tests.{eq-eqb, ne_eqb}
use Rattle.lists.specs.Lists.{◌and◌, ◌or◌, or_else, latest}
use Rattle.events.specs.declared.event.Event.{Event}
use Rattle.events.specs.Events.{is_write, by}
use Rattle.opacity.specs.Transactions.{last_write}
use Rattle.opacity.specs.Justification.{Place, written, contents}
use Rattle.opacity.proofs.Contents.{contents-more}
use Rattle.places.specs.Facts.{fact, written_of}
use Rattle.places.specs.Places.{coded, decode, plus, cons_write, row_from, writes_from, writes_in, write_of}

-- ---- the table as a history

-- an entry's value
abbrev entry : ℕ → Option ℕ
entry zero = none
entry (suc v) = some v

module _ (u q : ℕ) where
  -- one entry more in front
  last_cons : (t r v : ℕ) (h : List Event) → last_write (cons_write t r v h) u q ≡ or_else (last_write h u q) (cond ((eqb t u and true) and eqb r q) (entry v) none)
  unfolding last_write latest by is_write ◌or◌
  last_cons t r zero h = go ((eqb t u and true) and eqb r q) (last_write h u q)
    where
      go : (b : Bool) (o : Option ℕ) → o ≡ or_else o (cond b none none)
      go true none = refl
      go true (some x) = refl
      go false none = refl
      go false (some x) = refl
  last_cons t r (suc v) h = refl

  -- one that is of another transaction or register
  other-cons : (t r v : ℕ) (h : List Event) → ((eqb t u and true) and eqb r q) ≡ false → last_write (cons_write t r v h) u q ≡ last_write h u q
  other-cons t r v h e = last_cons t r v h ∙ (rw e (past (last_write h u q)))
    where
      past : (o : Option ℕ) → or_else o none ≡ o
      past none = refl
      past (some x) = refl

  none_last : last_write [] u q ≡ none
  unfolding last_write latest
  none_last = refl

  -- a row of another transaction, and the entries of a row behind the register
  other_row : (t : ℕ) → eqb t u ≡ false → (w : List ℕ) (r : ℕ) (h : List Event) → last_write (row_from t r w h) u q ≡ last_write h u q
  unfolding row_from ◌and◌
  other_row t e [] r h = refl
  other_row t e (v ∷ w) r h = other-cons t r v (row_from t (suc r) w h) (rw e) ∙ other_row t e w (suc r) h

  row-behind : (w : List ℕ) (r : ℕ) (h : List Event) → q < r → last_write (row_from u r w h) u q ≡ last_write h u q
  unfolding row_from ◌and◌
  row-behind [] r h l = refl
  row-behind (v ∷ w) r h l =
      let same : eqb u u ≡ true = eq-eqb u u refl in
      let miss : eqb r q ≡ false = ne_eqb r q (λ e. omega arith) in
      other-cons u r v (row_from u (suc r) w h) (rw (same, miss)) ∙ row-behind w (suc r) h (omega arith)

  in_row : (w : List ℕ) (r d : ℕ) (h : List Event) → r + d ≡ q → last_write h u q ≡ none → plus (last_write (row_from u r w h) u q) ≡ get_or w d 0
  unfolding row_from ◌and◌
  in_row [] r d h e n = ap plus n
  in_row (v ∷ w) r zero h e n =
      let same : eqb u u ≡ true = eq-eqb u u refl in
      let hit : eqb r q ≡ true = eq-eqb r q (omega arith) in
      ap plus (last_cons u r v (row_from u (suc r) w h)) ∙ (rw (same, hit, row-behind w (suc r) h (omega arith), n) (whole v))
    where
      whole : (x : ℕ) → plus (entry x) ≡ x
      whole zero = refl
      whole (suc x) = omega arith
  in_row (v ∷ w) r (suc d) h e n =
      let same : eqb u u ≡ true = eq-eqb u u refl in
      let miss : eqb r q ≡ false = ne_eqb r q (λ k. omega arith) in
      ap plus (other-cons u r v (row_from u (suc r) w h) (rw (same, miss))) ∙ in_row w (suc r) d h (omega arith) n

  -- the rows behind that of u have no write of it
  rows_behind : (f : List (List ℕ)) (t : ℕ) → u < t → last_write (writes_from t f) u q ≡ none
  unfolding writes_from
  rows_behind [] t l = none_last
  rows_behind (row ∷ f) t l =
      other_row t (ne_eqb t u (λ e. omega arith)) (drop 35 row) 0 (writes_from (suc t) f) ∙ rows_behind f (suc t) (omega arith)

  in_rows : (f : List (List ℕ)) (t d : ℕ) → t + d ≡ u → plus (last_write (writes_from t f) u q) ≡ fact f d (35 + q)
  unfolding writes_from
  in_rows [] t d e = ap plus none_last
  in_rows (row ∷ f) t zero e =
      let s : t ≡ u = omega arith in
      rw s (in_row (drop 35 row) 0 q (writes_from (suc u) f) (omega arith) (rows_behind f (suc u) (omega arith))) ∙ get_or-drop 35 row q 0
  in_rows (row ∷ f) t (suc d) e =
      ap plus (other_row t (ne_eqb t u (λ k. omega arith)) (drop 35 row) 0 (writes_from (suc t) f)) ∙ in_rows f (suc t) d (omega arith)

  -- what the table holds is the last write
  pub held : (f : List (List ℕ)) → plus (last_write (writes_in f) u q) ≡ written_of f u q
  unfolding writes_in
  held f = in_rows f 0 u (omega arith)

-- ---- one place

-- an aborted place wrote nothing
pub aborted-wrote : (w : List (List ℕ)) (r code : ℕ) → code % 2 ≡ 0 → write_of w r code ≡ 0
unfolding write_of written
aborted-wrote w r code e = let a : eqb (code % 2) 1 ≡ false = ne_eqb (code % 2) 1 (λ q. omega arith) in rw a

-- a committed one what the table holds
pub committed-wrote : (w : List (List ℕ)) (r code : ℕ) → (code % 2 ≡ 0 → ⊥) → write_of w r code ≡ written_of w (code / 2) r
unfolding write_of written
committed-wrote w r code f = let a : eqb (code % 2) 1 ≡ true = eq-eqb (code % 2) 1 (omega arith) in rw a (held (code / 2) r w)

-- ---- the places from the last one back

-- places of at most ten transactions
abbrev pub Codes : List ℕ → Type 0
Codes p = (i : ℕ) → i < length p → get_or p i 0 < 20

-- the last of them, and those before it
pub codes-split : (p q : List ℕ) (c : ℕ) → p ≡ q ++ (c ∷ []) → Codes p → (c < 20) × Codes q
codes-split p q c e h = (rw (get_or-append_seam q c [] 0) at (all (length q) (omega arith)), λ i l. rw (get_or-append q (c ∷ []) 0 i l) at (all i (omega arith)))
  where
    all : (i : ℕ) → i < length q + 1 → get_or (q ++ (c ∷ [])) i 0 < 20
    all i l = rw e at (h i (rw e (omega (arith, length-append q (c ∷ [])))))

pub decode-append : (p q : List ℕ) → decode (p ++ q) ≡ decode p ++ decode q
unfolding decode
decode-append [] q = refl
decode-append (c ∷ p) q = ap (λ (l : List Place). coded c ∷ l) (decode-append p q)

pub decode-snoc : (p : List ℕ) (c : ℕ) → decode (p ++ (c ∷ [])) ≡ decode p ++ (coded c ∷ [])
unfolding decode
decode-snoc p c = decode-append p (c ∷ [])

module _ (start : ℕ → ℕ) (w : List (List ℕ)) (r : ℕ) where
  -- what r holds after places
  abbrev pub held_after : List ℕ → ℕ
  held_after p = contents start (writes_in w) (decode p) r

  one_more : (p : List ℕ) (c : ℕ) → held_after (p ++ (c ∷ [])) ≡ Option.get_or (written (writes_in w) r (coded c)) (held_after p)
  one_more p c = rw (decode-snoc p c) (contents-more start (writes_in w) (decode p) (coded c) r)

  -- a last place that wrote nothing is passed over
  pub passed_over : (p : List ℕ) (c x : ℕ) → x ≡ write_of w r c → x ≡ 0 → held_after (p ++ (c ∷ [])) ≡ held_after p
  unfolding write_of
  passed_over p c x q e = one_more p c ∙ go (written (writes_in w) r (coded c)) (sym q ∙ e)
    where
      go : (o : Option ℕ) → plus o ≡ 0 → Option.get_or o (held_after p) ≡ held_after p
      go none k = refl
      go (some y) k = absurd (omega arith)

  -- the walk ends at one that wrote
  pub ends_at : (p : List ℕ) (c x : ℕ) → x ≡ write_of w r c → (x ≡ 0 → ⊥) → x - 1 ≡ held_after (p ++ (c ∷ []))
  unfolding write_of
  ends_at p c x q f = go (written (writes_in w) r (coded c)) q ∙ sym (one_more p c)
    where
      go : (o : Option ℕ) → x ≡ plus o → x - 1 ≡ Option.get_or o (held_after p)
      go none k = absurd (f k)
      go (some y) k = omega arith

  pub before-any : held_after [] ≡ start r
  unfolding contents latest decode
  before-any = refl

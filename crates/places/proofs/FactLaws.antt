-- Laws of the rows of facts: rows and their lengths stay, one number changes; and the registers of a row that are asked about.
-- Assumes nothing.
use Prim.Native.Nat.{ℕ, ◌<◌}
use mathlib.Core.Path.{◌≡◌, refl, ◌∙◌}
use mathlib.Core.Logic.{◌≢◌}
use mathlib.Core.Bool.{Bool, true, false}
use mathlib.Core.List.{List, []}
use lib.Dec.{eqb}
use lib.ListN.{length, get_or, set, length-set}
use lib.Seq.{get_or-set_same, get_or-set_other}
use borrow.Author.Tests.{eqb-true, eqb-false}
use Rattle.lists.specs.Bits.{bit_at}
use Rattle.places.specs.Facts.{all_registers, fact, put, reads_of, reads_asked, Shaped}
use Rattle.lists.proofs.BitLaws.{and-member, member-and, bit-all}

module _ (f : List (List ℕ)) (h : Shaped f) (t k v : ℕ) (l : t < 11) where
  pub put-shaped : Shaped (put f t k v)
  put-shaped = record { rows = length-set f t _ ∙ h.rows; row = λ u m. go u m (eqb u t) refl }
    where
      go : (u : ℕ) → u < 11 → (b : Bool) → eqb u t ≡ b → length (get_or (put f t k v) u []) ≡ 72
      go u m true e = rw (eqb-true u t e, get_or-set_same f t (set (get_or f t []) k v) [] (rw h.rows l)) (length-set (get_or f t []) k v ∙ h.row t l)
      go u m false e = rw (get_or-set_other f t u (set (get_or f t []) k v) [] (eqb-false u t e)) (h.row u m)

  pub put-here : k < 72 → fact (put f t k v) t k ≡ v
  put-here m = rw (get_or-set_same f t (set (get_or f t []) k v) [] (rw h.rows l)) (get_or-set_same (get_or f t []) k v 0 (rw (h.row t l) m))

  pub put-elsewhere : (j : ℕ) → j ≢ k → fact (put f t k v) t j ≡ fact f t j
  put-elsewhere j n = rw (get_or-set_same f t (set (get_or f t []) k v) [] (rw h.rows l)) (get_or-set_other (get_or f t []) k j v 0 n)

  pub put-others : (u j : ℕ) → u ≢ t → fact (put f t k v) u j ≡ fact f u j
  put-others u j n = rw (get_or-set_other f t u (set (get_or f t []) k v) [] n)

-- where all registers are asked about, those that t reads are
module _ (f : List (List ℕ)) (t r : ℕ) where
  pub asked-reads : bit_at r (reads_asked f all_registers t) ≡ 1 → bit_at r (reads_of f t) ≡ 1
  asked-reads h = (and-member r (reads_of f t) all_registers h).0

  pub reads-asked-all : r < 32 → bit_at r (reads_of f t) ≡ 1 → bit_at r (reads_asked f all_registers t) ≡ 1
  reads-asked-all l h = member-and r (reads_of f t) all_registers h (bit-all r 32 l)

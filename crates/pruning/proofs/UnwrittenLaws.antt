-- Registers that nobody writes hold what they started with, whatever places are filled: reads of them are right everywhere or nowhere.
-- Assumes nothing.
use mathlib.Core.Path.{◌≡◌, refl, sym, ap, ◌∙◌}
use Prim.Native.Nat.{ℕ, zero, suc, ◌+◌, ◌*◌, ◌/◌, ◌%◌, ◌^◌, ◌≤◌, ◌<◌}
use native.Mathlib.Nat.{le_refl}
use native.Mathlib.Omega.{arith}
use mathlib.Core.List.{List, [], ◌∷◌, ◌++◌}
use mathlib.Core.Bool.{Bool, true, false, cond}
use mathlib.Core.Option.{some}
use lib.ListN.{length, take, get_or, length-append, get_or-append}
use lib.Seq.{get_or-append_seam, take-suc, take_all}
use lib.Bits.{bit_xor}
use lib.Dec.{eqb, ltb}
use borrow.Author.Tests.{eqb-true, eqb-false, ltb-true, lt-ltb}
use Rattle.lists.specs.Lists.{◌and◌, all}
use Rattle.event_log.specs.Starts.{start_of}
use Rattle.lists.proofs.ListLaws.{and_l, and_r, and_i, both_ways}
use Rattle.opacity.specs.Justification.{contents}
use Rattle.lists.specs.Bits.{bit_at, members}
use Rattle.places.specs.Facts.{end_row, all_registers, reads_of, reads_asked, written_of}
use Rattle.places.specs.Places.{decode, writes_in, write_of}
use Rattle.places.specs.Tree.{Constraints, Completion, asking, constraints, remove, up_from, legal_at, legal_reads, rule_next, fits_at, ends_at, first_of, try_one, try_both, from_candidates, first_completion}
use Rattle.pruning.specs.Runs.{Written, WrittenByAny, NoOther, Codes, Asked}
use Rattle.lists.proofs.BitLaws.{member-lt, and-member, member-and, member-xor, bit-all}
use Rattle.places.proofs.SetLaws.{member-passes, members-pass}
use Rattle.places.proofs.LookupLaws.{aborted-wrote, committed-wrote, before-any, passed_over}

-- what the masks say of the table
pub no_other : (F : List (List ℕ)) (m : List ℕ) (any : ℕ) → Written F m → WrittenByAny m any → NoOther F any
no_other F m any f g = record { none = λ t r low l out. go t r low l out (eqb (written_of F t r) 0) refl }
  where
    go : (t r : ℕ) → t < 10 → r < 32 → (bit_at r any ≡ 1 → ⊥) → (b : Bool) → eqb (written_of F t r) 0 ≡ b → written_of F t r ≡ 0
    go t r low l out true e = eqb-true _ _ e
    go t r low l out false e = absurd (out (g.has t r low ((f.at t low).has r l (eqb-false _ _ e))))

module _ (o : List ℕ) (F : List (List ℕ)) (any : ℕ) (other : NoOther F any) (r : ℕ) (low : r < 32) (out : bit_at r any ≡ 1 → ⊥) where
  nothing_left : (code : ℕ) → code < 20 → write_of F r code ≡ 0
  nothing_left code l = go (eqb (code % 2) 0) refl
    where
      go : (b : Bool) → eqb (code % 2) 0 ≡ b → write_of F r code ≡ 0
      go true e = aborted-wrote F r code (eqb-true _ _ e)
      go false e = committed-wrote F r code (eqb-false _ _ e) ∙ other.none (code / 2) r (omega arith) low out

  still-start : (p : List ℕ) → Codes p → (n : ℕ) → n ≤ length p → contents (start_of o) (writes_in F) (decode (take n p)) r ≡ start_of o r
  still-start p g zero l = before-any (start_of o) F r
  still-start p g (suc n) l =
      rw (take-suc p n 0 l)
      (passed_over (start_of o) F r (take n p) (get_or p n 0) 0 (sym (nothing_left _ (g n l))) refl ∙ still-start p g n (omega arith))

  holds-start : (p : List ℕ) → Codes p → contents (start_of o) (writes_in F) (decode p) r ≡ start_of o r
  holds-start p g = rw (take_all (length p) p (le_refl (length p))) at (still-start p g (length p) (omega arith))

  -- a read of it that is legal before any places is legal after these
  pub legal-after : (t : ℕ) (p : List ℕ) → Codes p → legal_at o F [] t r ≡ true → legal_at o F p t r ≡ true
  unfolding legal_at
  legal-after t p g h =
      let e : contents (start_of o) (writes_in F) (decode p) r ≡ contents (start_of o) (writes_in F) (decode []) r = holds-start p g ∙ sym (holds-start [] (λ i l. absurd (omega arith))) in
      rw e h

-- to ask t about these registers is to ask it about all
abbrev pub SameReads : List ℕ → List (List ℕ) → ℕ → ℕ → Type 0
SameReads o F asked t = (p : List ℕ) → Codes p → legal_reads (asking o F asked) p t ≡ legal_reads (constraints o F) p t

-- so that registers that nobody writes need not be asked about
module _ (o : List ℕ) (F : List (List ℕ)) (any t : ℕ) (other : NoOther F any) (few : any < 2 ^ 32) where
  pub asked-same : legal_reads (asking o F (bit_xor all_registers any)) [] t ≡ true → SameReads o F any t
  unfolding legal_reads
  asked-same h p c =
      both_ways _ _
      (λ g. members-pass _ (reads_asked F all_registers t) (λ k b.
      let m = and-member k (reads_of F t) all_registers b in
      go k m.0 (member-lt k all_registers 32 m.1 (omega arith)) g (eqb (bit_at k any) 1) refl))
      (λ g. members-pass _ (reads_asked F any t) (λ k b.
      let m = and-member k (reads_of F t) any b in
      let l = member-lt k any 32 m.1 few in
      member-passes _ (reads_asked F all_registers t) g k (omega arith) (member-and k (reads_of F t) all_registers m.0 (bit-all k 32 l))))
    where
      go : (k : ℕ) → bit_at k (reads_of F t) ≡ 1 → k < 32 → all (legal_at o F p t) (members (reads_asked F any t)) ≡ true
          → (d : Bool) → eqb (bit_at k any) 1 ≡ d → legal_at o F p t k ≡ true
      go k b l g true e = member-passes _ (reads_asked F any t) g k (omega arith) (member-and k (reads_of F t) any b (eqb-true _ _ e))
      go k b l g false e =
          legal-after o F any other k l (eqb-false _ _ e) t p c
          (member-passes _ (reads_asked F (bit_xor all_registers any) t) h k (omega arith)
          (member-and k (reads_of F t) (bit_xor all_registers any) b (member-xor k all_registers any (bit-all k 32 l) (eqb-false _ _ e))))

-- ---- the same tree

codes-more : (p : List ℕ) (t z : ℕ) → Codes p → t < 10 → z < 2 → Codes (p ++ ((t * 2 + z) ∷ []))
codes-more p t z g low two i l = go (eqb i (length p)) refl
  where
    go : (b : Bool) → eqb i (length p) ≡ b → get_or (p ++ ((t * 2 + z) ∷ [])) i 0 < 20
    go true e =
        let q : i ≡ length p = eqb-true _ _ e in
        rw (q, get_or-append_seam p (t * 2 + z) [] 0) (omega arith)
    go false e =
        let n : i ≡ length p → ⊥ = eqb-false _ _ e in
        let less : i < length p = omega (arith, length-append p ((t * 2 + z) ∷ [])) in
        rw (get_or-append p ((t * 2 + z) ∷ []) 0 i less) (g i less)

-- the transactions in the list are below ten
abbrev Low : List ℕ → Type 0
Low u = all (λ (x : ℕ). ltb x 10) u ≡ true

low-remove : (t : ℕ) (u : List ℕ) → Low u → Low (remove t u)
unfolding all ◌and◌ remove
low-remove t [] h = h
low-remove t (x ∷ u) h =
    let first = and_l (ltb x 10) (all (λ (y : ℕ). ltb y 10) u) h in
    let rest = and_r (ltb x 10) (all (λ (y : ℕ). ltb y 10) u) h in
    go (eqb x t) first rest (low-remove t u rest)
  where
    go : (b : Bool) → ltb x 10 ≡ true → Low u → Low (remove t u) → Low (cond b u (x ∷ remove t u))
    go true f r k = r
    go false f r k = and_i (ltb x 10) (all (λ (y : ℕ). ltb y 10) (remove t u)) f k

low_up : (n i : ℕ) → i + n ≤ 10 → Low (up_from i n)
unfolding all ◌and◌ up_from
low_up zero i l = refl
low_up (suc n) i l = and_i (ltb i 10) (all (λ (y : ℕ). ltb y 10) (up_from (suc i) n)) (lt-ltb i 10 (omega arith)) (low_up n (suc i) (omega arith))

module _ (D E : Constraints) (same : (p u : List ℕ) (t z : ℕ) → Codes p → t < 10 → fits_at D p u t z ≡ fits_at E p u t z)
    (same_end : (p u : List ℕ) → Codes p → ends_at D p u ≡ ends_at E p u) where
  same_first : (f g : ℕ → Completion) → ((t : ℕ) → t < 10 → f t ≡ g t) → (c : List ℕ) → Low c → first_of f c ≡ first_of g c
  unfolding first_of all ◌and◌
  same_first f g e [] h = refl
  same_first f g e (t ∷ c) h =
      let q : f t ≡ g t = e t (ltb-true t 10 (and_l (ltb t 10) (all (λ (y : ℕ). ltb y 10) c) h)) in
      let rest : first_of f c ≡ first_of g c = same_first f g e c (and_r (ltb t 10) (all (λ (y : ℕ). ltb y 10) c) h) in
      rw (q, rest)

  same-tree : (n : ℕ) (p u c : List ℕ) → Codes p → Low u → Low c → from_candidates D n p u c ≡ from_candidates E n p u c
  unfolding from_candidates try_both try_one
  same-tree zero p u c g h k = rw (same_end p u g)
  same-tree (suc n) p u c g h k =
      rw (same_end p u g)
      (ap (λ (x : Completion). cond (ends_at E p u) (some p) x) (same_first _ _ (λ t low.
      rw (
        same p u t 0 g low,
        same p u t 1 g low,
        same-tree n (p ++ ((t * 2 + 0) ∷ [])) (remove t u) (remove t u) (codes-more p t 0 g low (omega arith)) (low-remove t u h) (low-remove t u h),
        same-tree n (p ++ ((t * 2 + 1) ∷ [])) (remove t u) (remove t u) (codes-more p t 1 g low (omega arith)) (low-remove t u h) (low-remove t u h),
      )) c k))

  pub same-completion : (n : ℕ) → n ≤ 10 → first_completion D n ≡ first_completion E n
  unfolding first_completion
  same-completion n l = same-tree n [] (up_from 0 n) (up_from 0 n) (λ i m. absurd (omega arith)) (low_up n 0 (omega arith)) (low_up n 0 (omega arith))

-- to ask about fewer registers is to search the same tree
pub asked-completion : (o : List ℕ) (F : List (List ℕ)) (m : ℕ) → Asked o F m → (n : ℕ) → n ≤ 10 → first_completion (asking o F m) n ≡ first_completion (constraints o F) n
unfolding fits_at rule_next ends_at
asked-completion o F m f n l =
    same-completion (asking o F m) (constraints o F) (λ p u t z g low. rw (f.same t p (omega arith) g)) (λ p u g. rw (f.same end_row p (omega arith) g)) n l

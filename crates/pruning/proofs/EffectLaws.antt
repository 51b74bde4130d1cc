-- What the commit of a transaction does to the store reads of another.
-- Assumes nothing.
use mathlib.Core.Path.{◌≡◌, refl, sym, ap, ◌∙◌, subst}
use Prim.Native.Nat.{ℕ, ◌+◌, ◌*◌, ◌-◌, ◌/◌, ◌%◌, ◌^◌, ◌<◌}
use native.Mathlib.Omega.{arith}
use mathlib.Core.List.{List, [], ◌∷◌, ◌++◌}
use mathlib.Core.Bool.{Bool, true, false, cond}
use mathlib.Core.Option
use mathlib.Core.Option.{Option, none, some}
use lib.ListN.{length, get_or, set, replicate, get_or-replicate}
use lib.Seq.{get_or-set_same, get_or-set_other}
use lib.Bits.{bit_and, bit_or, and_le_l, and_le_r, or_add_and, or_mod}
use lib.Dec.{eqb}
use borrow.Author.Tests.{eqb-true, eqb-false, ne_eqb}
use Rattle.lists.specs.Lists.{all}
use Rattle.event_log.specs.Starts.{start_of}
use Rattle.opacity.specs.Justification.{written, contents}
use Rattle.opacity.proofs.Contents.{contents-more}
use Rattle.lists.specs.Bits.{bit_at, members}
use Rattle.places.specs.Facts.{required_of, written_of}
use Rattle.places.specs.Places.{coded, decode, plus, writes_in, write_of}
use Rattle.places.specs.Tree.{asking, legal_at, legal_reads}
use Rattle.pruning.specs.Runs.{Effect, Effects, Writes, Renewed, Stays}
use Rattle.lists.proofs.BitLaws.{member-lt, member-and, bit-with}
use Rattle.places.proofs.SetLaws.{member-passes, members-pass, fewer-pass}
use Rattle.places.proofs.LookupLaws.{committed-wrote, decode-snoc}

-- ---- what a commit leaves in a register

module _ (start : ℕ → ℕ) (F : List (List ℕ)) (p : List ℕ) (x r : ℕ) where
  wrote : plus (written (writes_in F) r (coded (x * 2 + 1))) ≡ written_of F x r
  unfolding write_of
  wrote =
      let e : (x * 2 + 1) / 2 ≡ x = omega arith in
      committed-wrote F r (x * 2 + 1) (λ q. omega arith) ∙ ap (λ (k : ℕ). written_of F k r) e

  then : contents start (writes_in F) (decode (p ++ ((x * 2 + 1) ∷ []))) r ≡ Option.get_or (written (writes_in F) r (coded (x * 2 + 1))) (contents start (writes_in F) (decode p) r)
  then = rw (decode-snoc p (x * 2 + 1)) (contents-more start (writes_in F) (decode p) (coded (x * 2 + 1)) r)

  -- what was there, if it wrote nothing
  pub as_before : written_of F x r ≡ 0 → contents start (writes_in F) (decode (p ++ ((x * 2 + 1) ∷ []))) r ≡ contents start (writes_in F) (decode p) r
  as_before e = then ∙ go (written (writes_in F) r (coded (x * 2 + 1))) (wrote ∙ e)
    where
      go : (o : Option ℕ) → plus o ≡ 0 → Option.get_or o (contents start (writes_in F) (decode p) r) ≡ contents start (writes_in F) (decode p) r
      go none q = refl
      go (some y) q = absurd (omega arith)

  -- and else what it wrote
  pub as_written : (written_of F x r ≡ 0 → ⊥) → contents start (writes_in F) (decode (p ++ ((x * 2 + 1) ∷ []))) r ≡ written_of F x r - 1
  as_written f = then ∙ go (written (writes_in F) r (coded (x * 2 + 1))) wrote
    where
      go : (o : Option ℕ) → plus o ≡ written_of F x r → Option.get_or o (contents start (writes_in F) (decode p) r) ≡ written_of F x r - 1
      go none q = absurd (f (sym q))
      go (some y) q = omega arith

-- ---- what it does to one read

module _ (F : List (List ℕ)) (x t r : ℕ) where
  -- is it legal, over these start values, after these places
  abbrev pub legal-read : List ℕ → List ℕ → Bool
  legal-read o p = legal_at o F p t r

  pub writes_nothing : written_of F x r ≡ 0 → Effect legal-read x 0
  unfolding legal_at
  writes_nothing e = record { untouched = λ z o p h. rw (as_before (start_of o) F p x r e) at h; spoilt = λ z o p h. absurd (z refl) }

  pub reads_nothing : required_of F t r ≡ 0 → Effect legal-read x 0
  unfolding legal_at
  reads_nothing e = record { untouched = λ z o p h. rw e; spoilt = λ z o p h. absurd (z refl) }

  pub helps : Effect legal-read x 4294967296
  helps = record { untouched = λ z o p h. absurd (omega arith); spoilt = λ z o p h. absurd (z refl) }

  pub spoils : (e : ℕ) → 0 < e → (written_of F x r ≡ 0 → ⊥) → (required_of F t r ≡ 0 → ⊥) → (written_of F x r ≡ required_of F t r → ⊥) → Effect legal-read x e
  unfolding legal_at
  spoils e positive f g n =
      record {
        untouched = λ z o p h. absurd (omega arith);
        spoilt = λ z o p h.
            let k : eqb (required_of F t r) 0 ≡ false = ne_eqb _ _ g in
            let q : written_of F x r - 1 ≡ required_of F t r - 1 = eqb-true _ _ (rw (k, as_written (start_of o) F p x r f) at h) in
            n (omega arith);
      }

-- ---- and to all of them

pub or-none : (a b : ℕ) → bit_or a b ≡ 0 → (a ≡ 0) × (b ≡ 0)
or-none a b e = (omega (arith, or_add_and a b, and_le_r a b), omega (arith, or_add_and a b, and_le_l a b))

-- what has registers has them from one of the two
pub or-registers : (a b : ℕ) → a % 4294967296 ≡ 0 → b % 4294967296 ≡ 0 → bit_or a b % 4294967296 ≡ 0
or-registers a b f g = or_mod a b 32 ∙ (rw (f, g))

pub all-members : (f g : ℕ → Bool) (set : ℕ) → set < 2 ^ 32 → ((k : ℕ) → bit_at k set ≡ 1 → f k ≡ true → g k ≡ true) → all f (members set) ≡ true → all g (members set) ≡ true
all-members f g set low h t = members-pass g set (λ k b. h k b (member-passes f set t k (omega (arith, member-lt k set 32 b low)) b))

-- a register that x does not write needs no asking
pub effect-among : (F : List (List ℕ)) (x t reads registers e : ℕ) → reads < 2 ^ 32 → Writes F x registers
    → Effect (λ (o p : List ℕ). all (legal_at o F p t) (members (bit_and reads registers))) x e
    → Effect (λ (o p : List ℕ). all (legal_at o F p t) (members reads)) x e
effect-among F x t reads registers e low writes f =
    record {
      untouched = λ z o p h. all-members (λ k. legal_at o F (p ++ ((x * 2 + 1) ∷ [])) t k) (λ k. legal_at o F p t k) reads low
          (λ k b g. go o p k b (member-lt k reads 32 b low) g (f.untouched z o p (part o p h)) (eqb (written_of F x k) 0) refl) h;
      spoilt = λ z o p h. f.spoilt z o p (part o p h);
    }
  where
    part : (o p : List ℕ) → all (legal_at o F (p ++ ((x * 2 + 1) ∷ [])) t) (members reads) ≡ true
        → all (legal_at o F (p ++ ((x * 2 + 1) ∷ [])) t) (members (bit_and reads registers)) ≡ true
    part o p h = fewer-pass _ reads registers low h

    go : (o p : List ℕ) (k : ℕ) → bit_at k reads ≡ 1 → k < 32 → legal_at o F (p ++ ((x * 2 + 1) ∷ [])) t k ≡ true
        → all (legal_at o F p t) (members (bit_and reads registers)) ≡ true → (d : Bool) → eqb (written_of F x k) 0 ≡ d → legal_at o F p t k ≡ true
    go o p k b l g h true q = (writes_nothing F x t k (eqb-true _ _ q)).untouched refl o p g
    go o p k b l g h false q = member-passes _ (bit_and reads registers) h k (omega arith) (member-and k reads registers b (writes.has k l (eqb-false _ _ q)))

-- one that is legal now, and was ready if it was legal before, stays ready by the effect
pub stays : (o : List ℕ) (F : List (List ℕ)) (m : ℕ) (p : List ℕ) (x ready t e : ℕ) → Effect (λ (q l : List ℕ). legal_reads (asking q F m) l t) x e
    → Renewed (legal_reads (asking o F m)) p x ready t → Stays (legal_reads (asking o F m) p t) ready t e
stays o F m p x ready t e f h =
    let after : legal_reads (asking o F m) (h.before ++ ((x * 2 + 1) ∷ [])) t ≡ true = subst (λ (l : List ℕ). legal_reads (asking o F m) l t ≡ true) h.grown h.is in
    record { is = h.is; unspoilt = go (eqb (e % 4294967296) 0) refl after; was = λ z. h.was (f.untouched z o h.before after) }
  where
    go : (b : Bool) → eqb (e % 4294967296) 0 ≡ b → legal_reads (asking o F m) (h.before ++ ((x * 2 + 1) ∷ [])) t ≡ true → e % 4294967296 ≡ 0
    go true q k = eqb-true _ _ q
    go false q k = absurd (f.spoilt (eqb-false _ _ q) o h.before k)

-- ---- the registers that each writes

-- the set has what x writes below i
pub record WritesBelow (F : List (List ℕ)) (x m i : ℕ) : Type 0 where
  pub has : (r : ℕ) → r < i → (written_of F x r ≡ 0 → ⊥) → bit_at r m ≡ 1

pub writes-on : (F : List (List ℕ)) (x m i n : ℕ) → WritesBelow F x m i → n ≡ cond (eqb (written_of F x i) 0) m (bit_or m (2 ^ i)) → WritesBelow F x n (i + 1)
writes-on F x m i n w e = record { has = λ r l f. rw e (go r l f (eqb (written_of F x i) 0) refl (eqb i r) refl) }
  where
    old : (r : ℕ) → r < i + 1 → (r ≡ i → ⊥) → (written_of F x r ≡ 0 → ⊥) → bit_at r m ≡ 1
    old r l n f = w.has r (omega arith) f

    go : (r : ℕ) → r < i + 1 → (written_of F x r ≡ 0 → ⊥) → (b : Bool) → eqb (written_of F x i) 0 ≡ b → (d : Bool) → eqb i r ≡ d
        → bit_at r (cond b m (bit_or m (2 ^ i))) ≡ 1
    go r l f true q d p = old r l (λ z. f (ap (λ (k : ℕ). written_of F x k) z ∙ eqb-true _ _ q)) f
    go r l f false q true p = bit-with r i m ∙ (rw p)
    go r l f false q false p = bit-with r i m ∙ (rw p (old r l (λ z. eqb-false _ _ p (sym z)) f))

-- ---- tables

-- one entry more is right
pub one_entry : {A : Type 0} (P : ℕ → A → Type 0) (m : List A) (d : A) (i : ℕ) (v : A) → i < length m → P i v
    → ((k : ℕ) → k < i → P k (get_or m k d)) → (k : ℕ) → k < i + 1 → P k (get_or (set m i v) k d)
one_entry P m d i v low here before k l = go (eqb k i) refl
  where
    go : (b : Bool) → eqb k i ≡ b → P k (get_or (set m i v) k d)
    go true q = let e : k ≡ i = eqb-true _ _ q in rw (e, get_or-set_same m i v d low) here
    go false q = let other : k ≡ i → ⊥ = eqb-false _ _ q in rw (get_or-set_other m i k v d other) (before k (omega arith))

-- where all may help nothing is known
pub nothing_known : (F : List (List ℕ)) (asked : ℕ) → Effects F asked (replicate 10 (replicate 10 4294967296))
nothing_known F asked =
    record {
      at = λ x t low ten.
          let row : get_or (replicate 10 (replicate 10 4294967296)) x [] ≡ replicate 10 4294967296 = get_or-replicate 10 x (replicate 10 4294967296) [] low in
          let e : get_or (get_or (replicate 10 (replicate 10 4294967296)) x []) t 0 ≡ 4294967296 = ap (λ (m : List ℕ). get_or m t 0) row
          ∙ get_or-replicate 10 t 4294967296 0 ten in
          record { untouched = λ z o p h. absurd (omega arith); spoilt = λ z o p h. absurd (z (ap (λ (k : ℕ). k % 4294967296) e)) };
    }

-- Vocabulary between crates: it need not be believed, the public contracts end in the paper's definitions.
-- A run: places that fit one after the other until the end. And the runs that a shorter search, over the committed places alone, must
-- not miss.
-- Assumes nothing.
use Rattle.std.specs.Prelude.{◌≡◌, ℕ, ◌+◌, ◌*◌, ◌-◌, ◌/◌, ◌%◌, ◌^◌, ◌<◌, List, [], ◌∷◌, ◌++◌, Bool, true, false, not, cond, length, get_or, eqb}
use Rattle.lists.specs.Lists.{◌and◌}
use Rattle.places.specs.declared.state.Search.{Search}
use Rattle.lists.specs.Bits.{bit_at, members}
use Rattle.places.specs.Facts.{end_row, after_of, allowed_of, reads_asked, required_of, written_of}
use Rattle.places.specs.Places.{content_at}
use Rattle.places.specs.State.{placed_of, Within, Keeps}
use Rattle.places.specs.Tree.{Constraints, asking, constraints, none_in, legal_at, legal_reads, fits_at, ends_at}

-- do these codes, of transactions in u, fit one after the other after the places p, and may the order end then
unfoldable pub runs : Constraints → List ℕ → ℕ → List ℕ → Bool
runs D p u [] = ends_at D p (members u)
runs D p u (c ∷ l) = eqb (bit_at (c / 2) u) 1 and fits_at D p (members u) (c / 2) (c % 2) and runs D (p ++ (c ∷ [])) (u - 2 ^ (c / 2)) l

-- what r holds after the places p
unfoldable pub holds : Constraints → List ℕ → ℕ → ℕ
holds D p r = content_at D.starts D.facts p r

-- A run of u after p, as the state s waits for it: s holds the same in each register and has placed none of u, and what s needs is of u and
-- must come before the end.
pub record Awaited (D : Constraints) (s : Search) (need u : ℕ) (p l : List ℕ) : Type 0 where
  pub few : u < 1024
  pub alike : (r : ℕ) → holds D p r ≡ holds D (placed_of s) r
  pub needed : (k : ℕ) → bit_at k need ≡ 1 → bit_at k u ≡ 1
  pub asked : (k : ℕ) → bit_at k need ≡ 1 → bit_at k (after_of D.facts end_row) ≡ 1
  pub unplaced : (k : ℕ) → bit_at k u ≡ 1 → bit_at k s.unplaced ≡ 1
  pub run : runs D p u l ≡ true

-- r is true if there is such a run
abbrev pub Hope : Constraints → Search → ℕ → Bool → Type 0
Hope D s need r = (u : ℕ) (p l : List ℕ) → Awaited D s need u p l → r ≡ true

-- r is true if there is one that begins with t committed
abbrev pub HopeBy : Constraints → Search → ℕ → ℕ → Bool → Type 0
HopeBy D s need t r = (u : ℕ) (p l : List ℕ) → Awaited D s need u p ((t * 2 + 1) ∷ l) → r ≡ true

-- ready has all unplaced of s whose store reads are legal after its places
abbrev pub Ready : Constraints → Search → ℕ → Type 0
Ready D s ready = Keeps (λ k. legal_reads D (placed_of s) k ≡ true) s.unplaced ready

-- e is what the commit of x does to reads that are legal over these start values after these places: 0 nothing, and if it has registers
-- below 2 ^ 32 they are legal no more
pub record Effect (legal : List ℕ → List ℕ → Bool) (x e : ℕ) : Type 0 where
  pub untouched : e ≡ 0 → (o p : List ℕ) → legal o (p ++ ((x * 2 + 1) ∷ [])) ≡ true → legal o p ≡ true
  pub spoilt : (e % 4294967296 ≡ 0 → ⊥) → (o p : List ℕ) → legal o (p ++ ((x * 2 + 1) ∷ [])) ≡ true → ⊥

-- the row has at t what that of x does to those of t
pub record RowEffects (f : List (List ℕ)) (asked x : ℕ) (row : List ℕ) : Type 0 where
  pub at : (t : ℕ) → t < 10 → Effect (λ (o p : List ℕ). legal_reads (asking o f asked) p t) x (get_or row t 0)

-- the table has in row x at t what that of x does to those of t
pub record Effects (f : List (List ℕ)) (asked : ℕ) (effects : List (List ℕ)) : Type 0 where
  pub at : (x t : ℕ) → x < 10 → t < 10 → Effect (λ (o p : List ℕ). legal_reads (asking o f asked) p t) x (get_or (get_or effects x []) t 0)

-- k is not one, other than t, that may commit and writes this to r
abbrev pub NoSource : List (List ℕ) → ℕ → ℕ → ℕ → ℕ → Type 0
NoSource f t r v k = (k ≡ t → ⊥) → (allowed_of f k ≡ 0 → ⊥) → written_of f k r ≡ v → ⊥

-- the read of r by t is not legal after the places of s, and nobody unplaced can make it so
pub record Lost (starts : List ℕ) (f : List (List ℕ)) (s : Search) (t r : ℕ) : Type 0 where
  pub wrong : legal_at starts f (placed_of s) t r ≡ false
  pub none : (k : ℕ) → bit_at k s.unplaced ≡ 1 → NoSource f t r (required_of f t r) k

-- a read of t from one of these registers is
pub record Orphan (starts : List ℕ) (f : List (List ℕ)) (s : Search) (t registers : ℕ) : Type 0 where
  pub register : ℕ
  pub low : register < 32
  pub is_read : bit_at register registers ≡ 1
  pub lost : Lost starts f s t register

-- a read of a needed one is
pub record Orphaned (D : Constraints) (s : Search) (need : ℕ) : Type 0 where
  pub t : ℕ
  pub needed : bit_at t need ≡ 1
  pub orphan : Orphan D.starts D.facts s t (reads_asked D.facts D.asked t)

-- registers has all that x writes, one bit each
pub record Writes (f : List (List ℕ)) (x registers : ℕ) : Type 0 where
  pub has : (r : ℕ) → r < 32 → (written_of f x r ≡ 0 → ⊥) → bit_at r registers ≡ 1

-- the table has them for each
pub record Written (f : List (List ℕ)) (registers : List ℕ) : Type 0 where
  pub at : (t : ℕ) → t < 10 → Writes f t (get_or registers t 0)

-- any has what one of them writes
pub record WrittenByAny (registers : List ℕ) (any : ℕ) : Type 0 where
  pub has : (t r : ℕ) → t < 10 → bit_at r (get_or registers t 0) ≡ 1 → bit_at r any ≡ 1

-- nobody writes another register
pub record NoOther (f : List (List ℕ)) (any : ℕ) : Type 0 where
  pub none : (t r : ℕ) → t < 10 → r < 32 → (bit_at r any ≡ 1 → ⊥) → written_of f t r ≡ 0

-- places of at most ten transactions
abbrev pub Codes : List ℕ → Type 0
Codes p = (i : ℕ) → i < length p → get_or p i 0 < 20

-- to ask about these registers is to ask about all that are read
pub record Asked (starts : List ℕ) (f : List (List ℕ)) (asked : ℕ) : Type 0 where
  pub same : (t : ℕ) (p : List ℕ) → t < 11 → Codes p → legal_reads (asking starts f asked) p t ≡ legal_reads (constraints starts f) p t

-- t is legal after the places p, the last of which is x committed, and was in ready if it was legal before
pub record Renewed (legal : List ℕ → ℕ → Bool) (p : List ℕ) (x ready t : ℕ) : Type 0 where
  pub before : List ℕ
  pub grown : p ≡ before ++ ((x * 2 + 1) ∷ [])
  pub was : legal before t ≡ true → bit_at t ready ≡ 1
  pub is : legal p t ≡ true

-- t is legal, a commit with the effect e has not spoilt it, and it was ready if that has not touched it
pub record Stays (legal : Bool) (ready t e : ℕ) : Type 0 where
  pub is : legal ≡ true
  pub unspoilt : e % 4294967296 ≡ 0
  pub was : e ≡ 0 → bit_at t ready ≡ 1

-- may t come next with another outcome than o, where no one counts but those that are needed
unfoldable pub other_than : List (List ℕ) → ℕ → ℕ → ℕ → Bool
other_than f need t o = cond (none_in (after_of f t) (members need)) (not (eqb (allowed_of f t) o)) false

-- r is what is needed still of need, when all of it that is ready and may be aborted is passed over
pub record StillNeeded (f : List (List ℕ)) (ready need r : ℕ) : Type 0 where
  pub within : Within need r
  pub stuck : (k : ℕ) → bit_at k r ≡ 1 → bit_at k ready ≡ 1 → other_than f r k 1 ≡ false

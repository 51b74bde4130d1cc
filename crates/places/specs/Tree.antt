-- Vocabulary between crates: it need not be believed, the public contracts end in the paper's definitions.
-- The tree of orders and outcomes that the search goes through, and its first leaf that meets the constraints.
-- Assumes nothing.
use Rattle.std.specs.Prelude.{◌≡◌, ℕ, zero, suc, ◌+◌, ◌*◌, ◌-◌, ◌^◌, ◌≤◌, ◌<◌, List, [], ◌∷◌, ◌++◌, Bool, true, false, cond, eqb, Option as Answer, Some, None, IfSome}
use Rattle.std.proofs.Math.Option.{Option, none, some}
use Rattle.lists.specs.Lists.{or_else, all}
use Rattle.lists.specs.Bits.{bit_at, members}
use Rattle.places.specs.Facts.{end_row, all_registers, after_of, allowed_of, reads_asked, required_of}
use Rattle.places.specs.Places.{codes_of, content_at}

-- What the search is told: the value of each register before any writer, the facts of the transactions, and the registers whose reads are
-- asked about, one bit each.
pub record Constraints : Type 0 where
  pub starts : List ℕ
  pub facts : List (List ℕ)
  pub asked : ℕ

abbrev pub asking : List ℕ → List (List ℕ) → ℕ → Constraints
asking o f m = record { starts = o; facts = f; asked = m }

-- all registers are asked about
abbrev pub constraints : List ℕ → List (List ℕ) → Constraints
constraints o f = asking o f all_registers

-- the places of all transactions, each as its transaction times 2 plus its outcome, or none
abbrev pub Completion : Type 0
Completion = Option (List ℕ)

-- the list without its first t
unfoldable pub remove : ℕ → List ℕ → List ℕ
remove t [] = []
remove t (x ∷ xs) = cond (eqb x t) xs (x ∷ remove t xs)

-- 0, 1, .., n - 1, from i
unfoldable pub up_from : ℕ → ℕ → List ℕ
up_from i zero = []
up_from i (suc n) = i ∷ up_from (suc i) n

-- is the store read of r by t, if there is one, that of what r holds after the places p
unfoldable pub legal_at : List ℕ → List (List ℕ) → List ℕ → ℕ → ℕ → Bool
legal_at starts f p t r =
    cond (eqb (required_of f t r) 0) true (eqb (content_at starts f p r) (required_of f t r - 1))

-- are those of all registers that t reads
unfoldable pub legal_reads : Constraints → List ℕ → ℕ → Bool
legal_reads D p t = all (legal_at D.starts D.facts p t) (members (reads_asked D.facts D.asked t))

-- none of the list is in the set
unfoldable pub none_in : ℕ → List ℕ → Bool
none_in set [] = true
none_in set (x ∷ xs) = cond (eqb (bit_at x set) 0) (none_in set xs) false

-- the rule by which t may come next, after the places p and before the rest of u: 0 aborted, 1 committed, 2 either, 3 not at all
unfoldable pub rule_next : Constraints → List ℕ → List ℕ → ℕ → ℕ
rule_next D p u t = cond (none_in (after_of D.facts t) u) (cond (legal_reads D p t) (allowed_of D.facts t) 3) 3

-- does a rule allow the outcome
unfoldable pub allows_outcome : ℕ → ℕ → Bool
allows_outcome rule o = cond (eqb rule o) true (eqb rule 2)

-- may t be placed next with outcome o
unfoldable pub fits_at : Constraints → List ℕ → List ℕ → ℕ → ℕ → Bool
fits_at D p u t o = allows_outcome (rule_next D p u t) o

unfoldable pub first_of : (ℕ → Completion) → List ℕ → Completion
first_of f [] = none
first_of f (t ∷ ts) = or_else (f t) (first_of f ts)

-- t placed next with outcome o, and then the rest by k
unfoldable pub try_one : Constraints → (List ℕ → List ℕ → Completion) → List ℕ → List ℕ → ℕ → ℕ → Completion
try_one D k p u t o = cond (fits_at D p u t o) (k (p ++ ((t * 2 + o) ∷ [])) (remove t u)) none

-- t placed next, aborted first, and then the rest by k
unfoldable pub try_both : Constraints → (List ℕ → List ℕ → Completion) → List ℕ → List ℕ → ℕ → Completion
try_both D k p u t = or_else (try_one D k p u t 0) (try_one D k p u t 1)

-- may an order end after the places p, before the rest of u: none of them must come before the end, and its store reads are legal
unfoldable pub ends_at : Constraints → List ℕ → List ℕ → Bool
ends_at D p u = cond (none_in (after_of D.facts end_row) u) (legal_reads D p end_row) false

-- the first completion of the places p with the n unplaced transactions u, where the next is one of c: it ends as soon as it may
unfoldable pub from_candidates : Constraints → ℕ → List ℕ → List ℕ → List ℕ → Completion
from_candidates D zero p u c = cond (ends_at D p u) (some p) none
from_candidates D (suc n) p u c =
    let on = first_of (try_both D (λ p' u'. from_candidates D n p' u' u') p u) c in
    cond (ends_at D p u) (some p) on

-- the first completion with t next, n being left after it
unfoldable pub at_transaction : Constraints → ℕ → List ℕ → List ℕ → ℕ → Completion
at_transaction D n p u t = try_both D (λ p' u'. from_candidates D n p' u' u') p u t

-- the first completion of the transactions below n
unfoldable pub first_completion : Constraints → ℕ → Completion
first_completion D n = from_candidates D n [] (up_from 0 n) (up_from 0 n)

-- All n transactions must come before the end.
abbrev pub EndAsks : List (List ℕ) → ℕ → Type 0
EndAsks f n = (k : ℕ) → k < n → bit_at k (after_of f end_row) ≡ 1

-- the first completion of the places p with the n unplaced transactions u, where the next is one of c: it ends when all are placed
unfoldable pub placing_all : Constraints → ℕ → List ℕ → List ℕ → List ℕ → Completion
placing_all D zero p u c = cond (legal_reads D p end_row) (some p) none
placing_all D (suc n) p u c = first_of (try_both D (λ p' u'. placing_all D n p' u' u') p u) c

-- the first completion that places all of the transactions below n
unfoldable pub first_whole : Constraints → ℕ → Completion
first_whole D n = placing_all D n [] (up_from 0 n) (up_from 0 n)

-- an answer with n places, or none
abbrev pub read_answer : ℕ → Answer ℕ → Completion
read_answer n None = none
read_answer n (Some a) = some (codes_of n a)

-- an answer reads as the completion x, and has no more than n places behind its leading 1
pub record Answers (n : ℕ) (a : Answer ℕ) (x : Completion) : Type 0 where
  pub completion : read_answer n a ≡ x
  pub room : IfSome a (λ order. order < 2 ^ (n * 5 + 1))

-- an answer reads as the completion x, whose places, no more than n, its leading 1 tells
pub record Answered (n : ℕ) (a : Answer ℕ) (x : Completion) : Type 0 where
  pub places : ℕ
  pub few : places ≤ n
  pub led : IfSome a (λ order. 2 ^ (places * 5) ≤ order)
  pub answers : Answers places a x

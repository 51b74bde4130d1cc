-- No lent buffer changes where a question says no (demand 1), for each public function that is lent buffers to fill: the reader's columns,
-- the writer's output, the finder's output, and the straightening's output and list, which a broken rule leaves alone too. Checker, scan,
-- counts, tally and next note are lent nothing that they can write to (the library's call of the last is lent three numbers: Calls).
-- Assumes nothing.
use Rattle.reader.specs.Reading.{reading}
use Rattle.std.specs.Prelude.{Result, Ok, Err, Some, None}
use Rattle.events.specs.declared.refusal.Refusal.{Refusal}
use Rattle.reader.specs.declared.HistoryRead.{HistoryRead}
use Prim.Native.Nat.{ℕ}
use native.Mathlib.Omega.{arith}
use mathlib.Core.Path.{◌≡◌, refl, sym, ap, ◌∙◌}
use mathlib.Core.List.{List, [], ◌∷◌}
use Rattle.event_log.specs.Columns.{Columns}
use Rattle.events.specs.Said.{Said, done, number}
use Rattle.reader.specs.Reading.{read_answer, said as read_said}
use Rattle.writer.specs.Writing.{Writing}
use Rattle.writer.specs.Writing.{written_answer, said as written_said}
use Rattle.writer.proofs.RoundTrip.{refused-unread, refused-unwritten}
use Rattle.finder.specs.Answer.{Finding}
use Rattle.finder.specs.Answer.{found_answer, said as found_said}
use Rattle.finder.proofs.Theorems.{refused-unchanged}
use Rattle.straighten.specs.Answer.{straightened_answer, said as straight_said}
use Rattle.straighten.proofs.Theorems.{untouched}

pub reader-keeps : (file : List ℕ) (c : Columns) → (number (read_said (read_answer file c).result) ≡ 0 → ⊥) → (read_answer file c).columns ≡ c
unfolding number read_said
reader-keeps file c n = go (read_answer file c).result refl n
  where
    go : (r : Result HistoryRead Refusal) → (read_answer file c).result ≡ r → (number (read_said r) ≡ 0 → ⊥) → (read_answer file c).columns ≡ c
    go (Ok k) e f = absurd (f refl)
    go (Err r) e f = (refused-unread file c r.question r.at (ap reading e)).0

-- the calls that take an edition and start values
module _ (edition : ℕ) (starts : List ℕ) where
  pub writer-keeps : (c : Columns) (count : ℕ) (output : List ℕ) → (number (written_said (written_answer edition starts c count output).result) ≡ 0 → ⊥)
      → (written_answer edition starts c count output).output ≡ output
  unfolding number written_said
  writer-keeps c count output n = go (written_answer edition starts c count output).result refl n
    where
      go : (r : Writing) → (written_answer edition starts c count output).result ≡ r → (number (written_said r) ≡ 0 → ⊥) → (written_answer edition starts c count output).output ≡ output
      go (Ok k) e f = absurd (f refl)
      go (Err r) e f = refused-unwritten edition starts c count output r e

  pub finder-keeps : (c : Columns) (count prefix : ℕ) (output : List ℕ) → (number (found_said (found_answer edition starts c count prefix output).result) ≡ 0 → ⊥)
      → (found_answer edition starts c count prefix output).output ≡ output
  unfolding number found_said
  finder-keeps c count prefix output n = go (found_answer edition starts c count prefix output).result refl n
    where
      go : (r : Finding) → (found_answer edition starts c count prefix output).result ≡ r → (number (found_said r) ≡ 0 → ⊥) → (found_answer edition starts c count prefix output).output ≡ output
      go (Ok (Some k)) e f = absurd (f refl)
      go (Ok None) e f = absurd (f refl)
      go (Err r) e f = refused-unchanged edition starts c count prefix output r e

  -- whatever the straightening says but that it is done
  pub straightening-keeps : (c : Columns) (count : ℕ) (file output list : List ℕ)
      → ((vs : List ℕ) → straight_said (straightened_answer edition starts c count file output list).result ≡ done vs → ⊥)
      → ((straightened_answer edition starts c count file output list).output ≡ output) × ((straightened_answer edition starts c count file output list).list ≡ list)
  unfolding straight_said
  straightening-keeps c count file output list n = untouched edition starts c count file output list (λ k l x. n (k ∷ l ∷ []) (ap straight_said x))

-- How far a walk over a marking file has come, and what its next step makes of that.
-- Assumes nothing.
use Prim.Native.Nat.{ℕ, zero, suc, ◌+◌, ◌≤◌, ◌<◌}
use native.Mathlib.Omega.{arith}
use mathlib.Core.Path.{◌≡◌, ap, ◌∙◌}
use mathlib.Core.List.{List}
use mathlib.Core.Option.{Option, none, some}
use lib.ListN.{length}
use Rattle.std.specs.Prelude.{Err}
use Rattle.events.specs.declared.refusal.Refusal.{Refusal}
use Rattle.events.specs.Said.{refuse}
use Rattle.event_log.specs.Checked.{Checked}
use Rattle.records.proofs.RecordLaws.{whole_in}
use Rattle.opacity.specs.Marking.{Marking}
use Rattle.marking_reader.specs.File.{Known, Asked, asked, every_pointed, Stepped, step_at, content, refused, continued, walk, opening, nothing_read, after_opening, file_read}
use Rattle.marking_reader.specs.State.{said_at}
use Rattle.marking_reader.proofs.StepLaws.{PlaceRead, PointRead}

-- a record ends behind where it begins, within the file
module _ {a : Asked} {s : List ℕ} {at x y end : ℕ} where
  pub place-ends : PlaceRead a s at x y end → (at < end) × (end ≤ length s)
  place-ends w =
      let i = whole_in s at w.whole w.there in
      (omega (arith, i.0, i.1, w.ends), omega (arith, i.0, i.1, w.ends))

  pub point-ends : PointRead a s at x y end → (at < end) × (end ≤ length s)
  point-ends w =
      let i = whole_in s at w.whole w.there in
      (omega (arith, i.0, i.1, w.ends), omega (arith, i.0, i.1, w.ends))

-- a file that is refused has no content
pub not-content : {q at : ℕ} {m : Marking} → refused q at ≡ content m → ⊥
not-content e = cc

-- what is left to walk has the answer
pub record Reached (k : Known) (s : List ℕ) (at : ℕ) (m : Marking) : Type 0 where
  pub left : ℕ
  pub same : file_read k s ≡ walk k (suc left) s at m
  pub enough : length s ≤ at + left

pub reached-first : (k : Known) (s : List ℕ) → opening s ≡ none → Reached k s 6 nothing_read
unfolding file_read
reached-first k s e = record { left = length s; same = rw e; enough = omega arith }

pub opening-refused : (k : Known) (s : List ℕ) {r : Refusal} → ◌≡◌ {A = Checked} (Err r) (said_at (opening s) 0)
    → file_read k s ≡ refused r.question r.at
unfolding file_read
opening-refused k s {r} e = go (opening s) e
  where
    go : (o : Option ℕ) → ◌≡◌ {A = Checked} (Err r) (said_at o 0) → after_opening k s o ≡ refused r.question r.at
    go none d = absurd (cc)
    go (some q) d = (let same : refuse q 0 ≡ r = cc in λ i. refused (same i).question (same i).at)

module _ (k : Known) (s : List ℕ) (at : ℕ) (m : Marking) (g : Reached k s at m) where
  pub on_step : (x : Stepped) → step_at (asked k m) (every_pointed k m) s at ≡ x → file_read k s ≡ continued (walk k g.left s) m x
  unfolding walk
  on_step x e = g.same ∙ ap (continued (walk k g.left s) m) e

  pub reached-next : (m' : Marking) (e : ℕ) → at < e → e ≤ length s → file_read k s ≡ walk k g.left s e m' → Reached k s e m'
  reached-next m' e l b q = go g.left g.enough q
    where
      go : (n : ℕ) → length s ≤ at + n → file_read k s ≡ walk k n s e m' → Reached k s e m'
      go zero c d = absurd (omega arith)
      go (suc n) c d = record { left = n; same = d; enough = omega arith }

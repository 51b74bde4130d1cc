-- What a reading without a refusal gives to the rules, and what the checker's door gives.
-- Assumes nothing.
use Prim.Native.Nat.{ℕ}
use mathlib.Core.Path.{◌≡◌, refl, sym, ap, ◌∙◌}
use mathlib.Core.Bool.{true}
use mathlib.Core.List.{List}
use Rattle.std.specs.Prelude.{Option, Result, Ok, Err, MatchResult, IsErrAnd}
use Rattle.events.specs.declared.refusal.Refusal.{Refusal}
use Rattle.event_log.specs.Checked.{Checked, answered}
use Rattle.events.specs.declared.event.Event.{Event}
use Rattle.events.specs.Questions.{readable}
use Rattle.links.specs.Writes.{Linked}
use Rattle.rules.specs.Judge.{Judgeable}
use Rattle.marking_reader.specs.File.{known, file_read}
use Rattle.marking_reader.specs.State.{Kept}
use Rattle.marking.specs.declared.check.Unchecked.{Unchecked}
use Rattle.marking.specs.declared.check.Unchecked.TheVariants.{HistoryRefused, MarkingRefused}
use Rattle.marking.specs.Answer.{Ruling, Checking, ruling, from_file, after_columns}

pub judgeable : {h : List Event} {link : List (Option ℕ)} {order outcomes gaps : List ℕ} → readable h ≡ true → Linked h link → Kept h order outcomes gaps
    → Judgeable h link order outcomes gaps
judgeable y links kept =
    record {
      readable = y;
      linked = links;
      ordered = kept.ordered;
      gaps-room = kept.gaps-room;
      pointed = λ i l. sym (kept.pointed i l);
      gaps-fit = kept.gaps-fit;
    }

-- an answer with each refusal made what f says of it
abbrev pub refused-as : {A E F : Type 0} → (E → F) → Result A E → Result A F
refused-as f (Ok v) = Ok v
refused-as f (Err e) = Err (f e)

-- that is what `map_err` gives, where what it calls gives one thing
module _ {A E F : Type 0} (f : E → F) (P : E → F → Type 0) (one : (e : E) (r : F) → P e r → r ≡ f e) where
  pub mapped : (x : Result A E) {y : Result A F} → MatchResult x (λ v. y ≡ Ok v) (λ e. IsErrAnd y (P e)) → y ≡ refused-as f x
  mapped (Ok v) m = m
  mapped (Err e) {y = Ok v} m = absurd m
  mapped (Err e) {y = Err r} m = λ i. Err (one e r m i)

-- behind the door: the refusal of the history, or what the check of its log says
module _ (start : ℕ → ℕ) (h : List Event) (file : List ℕ) (x : Checked) {j : Result Ruling Refusal}
    (same : j ≡ answered x (ruling start h (file_read (known h) file))) where
  pub refused-behind : {r : Unchecked} → refused-as HistoryRefused j ≡ Err r → ◌≡◌ {A = Checking} (Err r) (after_columns start h file x)
  refused-behind {r} e = go x (sym (ap (refused-as HistoryRefused) same) ∙ e)
    where
      go : (x : Checked) → refused-as HistoryRefused (answered x (ruling start h (file_read (known h) file))) ≡ Err r
          → ◌≡◌ {A = Checking} (Err r) (after_columns start h file x)
      go (Ok u) d = absurd (cc)
      go (Err q) d = cc

  pub ruled-behind : {v : Ruling} → refused-as HistoryRefused j ≡ Ok v → refused-as MarkingRefused v ≡ after_columns start h file x
  ruled-behind {v} e = go x (sym (ap (refused-as HistoryRefused) same) ∙ e)
    where
      told : (v : Ruling) → refused-as MarkingRefused v ≡ from_file v
      told (Ok w) = refl
      told (Err r) = refl

      go : (x : Checked) → refused-as HistoryRefused (answered x (ruling start h (file_read (known h) file))) ≡ Ok v
          → refused-as MarkingRefused v ≡ after_columns start h file x
      go (Ok u) d = (let k : v ≡ ruling start h (file_read (known h) file) = cc in told v ∙ ap from_file k)
      go (Err q) d = absurd (cc)

-- From what the parts of the code say to the answer: the bytes and the room of a marking in arrays, and the answer by what was read and
-- judged.
-- Assumes nothing.
use Prim.Native.Nat.{ℕ, ◌+◌, ◌*◌, ◌≤◌, ◌<◌}
use native.Mathlib.Omega.{arith}
use mathlib.Core.Path.{◌≡◌, sym, ap, ◌∙◌}
use mathlib.Core.Bool.{Bool, true, false}
use mathlib.Core.List.{List}
use lib.Dec.{leb}
use lib.ListN.{length, take, get_or}
use lib.Seq.{get_or-take, length-take-le}
use borrow.Author.Tests.{leb-true}
use Rattle.events.specs.declared.event.Event.{Event}
use Rattle.lists.specs.Lists.{◌and◌}
use Rattle.records.specs.Bytes.{Bytes}
use Rattle.events.specs.Events.{begins}
use Rattle.events.specs.Said.{refuse}
use Rattle.lists.proofs.ListLaws.{and_l, and_r}
use Rattle.opacity.specs.declared.verdict.Verdict.{Verdict}
use Rattle.opacity.specs.Transactions.{is_store_read, store_reads}
use Rattle.opacity.specs.Marking.{Marking, ReadableFor, marking_bytes, verdict}
use Rattle.opacity.proofs.MarkingBytes.{readable-length}
use Rattle.rules.specs.Judge.{content as in_arrays}
use Rattle.marking_reader.specs.File.{known, content, file_read}
use Rattle.marking_reader.specs.State.{Kept}
use Rattle.marking_reader.proofs.WriteBack.{content-bytes}
use Rattle.marking_writer.specs.Points.{is_gap, points_to}
use Rattle.marking_writer.specs.Whole.{points_in, bytes_in}
use Rattle.marking_writer.proofs.PointLaws.{points-are, points-same}
use Rattle.std.specs.Prelude.{Err}
use Rattle.straighten.specs.declared.Unstraightened.TheVariants.{Refused}
use Rattle.straighten.specs.Straight.{straightened, moved_events}
use Rattle.straighten.specs.Answer.{gives, after_verdict, judged, roomy, after_file}
use Rattle.straighten.specs.Tables.{Room, listed}
use Rattle.straighten.proofs.MoveLaws.{arrays-readable}

-- ---- bytes and room

module _ (log : List Event) {b : ℕ} (count : b ≡ begins log) {order outcomes gaps : List ℕ}
    (kept : Kept log order outcomes gaps) (room : length log ≤ length gaps) where
  abbrev gaps_of : List ℕ
  gaps_of = take (length log) gaps

  -- what is written is the marking in the arrays,
  pub bytes_same : bytes_in order outcomes b gaps_of ≡ marking_bytes (in_arrays log order outcomes gaps)
  unfolding marking_bytes in_arrays store_reads
  bytes_same =
      let n = length log in
      let store = is_store_read log in
      let front : (i : ℕ) → i < n → get_or gaps_of i 0 ≡ get_or gaps i 0 = λ i l. get_or-take n gaps i 0 l in
      let points : points_in gaps_of (length gaps_of) ≡ points_to store (λ i. get_or gaps i 0) n =
      ap (points_in gaps_of) (length-take-le n gaps room)
      ∙ points-same (λ i. is_gap (get_or gaps_of i 0)) store (λ i. get_or gaps_of i 0) (λ i. get_or gaps i 0) n
      (λ i l. ap is_gap (front i l) ∙ sym (kept.pointed i l)) (λ i l s. front i l) in
      rw (count, points, points-are store (λ i. get_or gaps i 0) n)

  -- for which there is room
  pub bytes_fit : {output list : ℕ} → Room log output list → length (bytes_in order outcomes b gaps_of) ≤ output
  bytes_fit room =
      let read = readable-length log (in_arrays log order outcomes gaps) (arrays-readable kept) in
      omega (arith, room.bytes, ap length bytes_same, read)

pub listed-counted : (log : List Event) (gaps : List ℕ) (moves : List Bool) → length log ≤ length gaps
    → listed moves (length (take (length log) gaps)) ≡ listed moves (length log)
listed-counted log gaps moves room = ap (listed moves) (length-take-le (length log) gaps room)

-- ---- the answer

-- what was settled by the parts is what is judged
pub after-judged : (start : ℕ → ℕ) (h : List Event) (m m' : Marking) (output list bytes moved : List ℕ) (v : Verdict) → m' ≡ straightened start h m
    → v ≡ verdict start h m' → bytes ≡ marking_bytes m' → moved ≡ moved_events start h m → after_verdict bytes moved output list v ≡ judged start h m output list
unfolding judged
after-judged start h m m' output list bytes moved v straight says eb em =
    λ i. after_verdict ((eb ∙ ap marking_bytes straight) i) (em i) output list ((says ∙ ap (verdict start h) straight) i)

-- a readable marking is as long as its head, its places and its points
pub file-size : (h : List Event) (file : List ℕ) (m : Marking) → file_read (known h) file ≡ content m → Bytes file → ReadableFor h m
    → length file ≡ 6 + 8 * begins h + 10 * length (store_reads h)
file-size h file m holds by f = ap length (content-bytes (known h) file by m holds) ∙ readable-length h m f

module _ (start : ℕ → ℕ) (h : List Event) (n : ℕ) (file output list : List ℕ) (m : Marking) (holds : file_read (known h) file ≡ content m)
    (room : Bool) (asked : room ≡ (leb (length file) (length output) and leb (length (store_reads h)) (length list))) where
  pub after-short : room ≡ false → gives (Err (Refused (refuse 15 n))) output list ≡ after_file start h n file output list (file_read (known h) file)
  unfolding roomy
  after-short z = let e : roomy h file output list ≡ false = sym asked ∙ z in rw (holds, e)

  module _ (z : room ≡ true) where
    pub after-room : judged start h m output list ≡ after_file start h n file output list (file_read (known h) file)
    unfolding roomy
    after-room = let e : roomy h file output list ≡ true = sym asked ∙ z in rw (holds, e)

    pub room-there : length file ≡ 6 + 8 * begins h + 10 * length (store_reads h) → Room h (length output) (length list)
    room-there size =
        let e = sym asked ∙ z in
        let l : length file ≤ length output = leb-true _ _ (and_l _ _ e) in
        record { bytes = omega arith; entries = leb-true _ _ (and_r _ _ e) }

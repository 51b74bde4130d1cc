-- `straighten_log` meets its contract: the questions in their order, and then the points.
-- Assumes nothing.
use Prim.Native.Nat.{ℕ, ◌+◌, ◌*◌, ◌-◌, ◌/◌, ◌≤◌}
use mathlib.Core.Path.{◌≡◌, refl, sym, ap, ◌∙◌}
use mathlib.Core.Bool.{Bool, false}
use native.Mathlib.Omega.{arith}
use lib.Dec.{leb}
use lib.ListN.{length, length-replicate}
use lib.Seq.{length-take-le}
use Rattle.lists.specs.Lists.{◌and◌}
use Rattle.records.specs.Bytes.{Bytes}
use Rattle.events.specs.Events.{begins}
use Rattle.event_log.specs.Starts.{start_of}
use Rattle.opacity.specs.Marking.{Marking}
use Rattle.opacity.specs.Transactions.{store_reads}
use Rattle.opacity.proofs.Bounds.{at-most-64}
use Rattle.links.proofs.LogLaws.{log-most}
use Rattle.rules.specs.Judge.{content as in_arrays}
use Rattle.marking_reader.specs.File.{known, content, file_read}
use Rattle.marking_reader.specs.State.{Kept}
use Rattle.marking_reader.proofs.SoundLaws.{arrays-fresh}
use Rattle.straighten.proofs.MoveLaws.{arrays-readable}
use Rattle.straighten.proofs.StraightLaws.{moved-few}
use Rattle.straighten.proofs.VerdictLaws.{file-size, after-short, after-room, room-there, bytes_same, bytes_fit, listed-counted, after-judged}
use Rattle.straighten.proofs.straighten_log.Goals as goal
use Rattle.straighten.proofs.straighten_log.Goals.{After-has_room, After-judge_moved-verdict, In_default}

-- the marking that was read, as it stands in the arrays
abbrev read : In_default → Marking
read e = in_arrays e.args.log.now e.read_marking.new.order e.read_marking.new.outcomes e.read_marking.new.gaps

kept : (e : In_default) → Kept e.args.log.now e.read_marking.new.order e.read_marking.new.outcomes e.read_marking.new.gaps
kept e = e.in_default.ensures.kept refl

holds : (e : In_default) → file_read (known e.args.log.now) e.args.file.now ≡ content (read e)
holds e = sym e.in_default.ensures.result_after

-- how long it is
size : (e : In_default) → Bytes e.args.file.now → length e.args.file.now ≡ 6 + 8 * begins e.args.log.now + 10 * length (store_reads e.args.log.now)
size e by = file-size e.args.log.now e.args.file.now (read e) (holds e) by (arrays-readable (kept e))

asked : (r : After-has_room) → length r.args.file.now ≡ 6 + 8 * begins r.args.log.now + 10 * length (store_reads r.args.log.now)
    → r.has_room.result ≡ (leb (length r.args.file.now) (length r.args.output.now) and leb (length (store_reads r.args.log.now)) (length r.args.moved.now))
asked r e =
    let points : (length r.args.file.now - (6 + 8 * r.transactions_begun-begun.result)) / 10 ≡ length (store_reads r.args.log.now) =
    omega (arith, e, r.transactions_begun-begun.ensures) in
    r.has_room.ensures
    ∙ ap (λ (p : ℕ). leb (length r.args.file.now) (length r.args.output.now) and leb p (length r.args.moved.now)) points

long : (j : After-judge_moved-verdict) → length j.args.log.now ≤ length j.judge_moved-verdict.new.gaps
long j = omega arith

pub own_writes-requires-clause-log_in_bounds : goal.own_writes-requires-clause-log_in_bounds
own_writes-requires-clause-log_in_bounds c = log-most c.args.log.now c.requires

pub read_marking-requires-clause-fresh : goal.read_marking-requires-clause-fresh
read_marking-requires-clause-fresh c = arrays-fresh 2048

pub has_room-requires : goal.has_room-requires
has_room-requires c =
    let b = c.transactions_begun-begun.ensures in (
      omega (arith, b, at-most-64 c.args.log.now c.requires),
      omega (arith, b, size (goal.at.has_room-requires c).In_default (λ i. (c.type_inv.file i).fits)),
    )

pub returns-then-not-has_room : goal.returns-then-not-has_room
returns-then-not-has_room c =
    let a = c.args in
    let e = (goal.at.returns-then-not-has_room c).In_default in
    after-short (start_of a.starts.now) a.log.now (length a.log.now) a.file.now a.output.now a.moved.now (read e) (holds e) c.has_room.result
    (asked (goal.at.returns-then-not-has_room c).After-has_room (size e (λ i. (c.type_inv.file i).fits))) c.if-not-has_room.true

pub write_moved-requires-clause-begun_bound : goal.write_moved-requires-clause-begun_bound
write_moved-requires-clause-begun_bound c =
    let j = (goal.at.write_moved-requires-clause-begun_bound c).After-judge_moved-verdict in
    let part = length-take-le (length c.args.log.now) c.judge_moved-verdict.new.gaps (long j) in
    let most = log-most c.args.log.now c.requires in (
      omega (arith, c.transactions_begun-begun.ensures, at-most-64 c.args.log.now c.requires),
      omega (arith, part, most),
      omega (arith, part, most, c.judge_moved-verdict.auto.moves, length-replicate {A = Bool} 2048 false),
    )

pub write_moved-requires-clause-gaps_in_bounds : goal.write_moved-requires-clause-gaps_in_bounds
write_moved-requires-clause-gaps_in_bounds c =
    let a = c.args in
    let at = goal.at.write_moved-requires-clause-gaps_in_bounds c in
    let e = at.In_default in
    let l = size e (λ i. (c.type_inv.file i).fits) in
    let room =
    room-there (start_of a.starts.now) a.log.now (length a.log.now) a.file.now a.output.now a.moved.now (read e) (holds e) c.has_room.result
    (asked at.After-has_room l) c.if-not-has_room.false l in
    bytes_fit a.log.now c.transactions_begun-begun.ensures c.judge_moved-verdict.ensures.moved.kept (long at.After-judge_moved-verdict) room

pub write_moved-requires-clause-gaps_in_bounds_2 : goal.write_moved-requires-clause-gaps_in_bounds_2
write_moved-requires-clause-gaps_in_bounds_2 c =
    let a = c.args in
    let at = goal.at.write_moved-requires-clause-gaps_in_bounds_2 c in
    let e = at.In_default in
    let l = size e (λ i. (c.type_inv.file i).fits) in
    let room =
    room-there (start_of a.starts.now) a.log.now (length a.log.now) a.file.now a.output.now a.moved.now (read e) (holds e) c.has_room.result
    (asked at.After-has_room l) c.if-not-has_room.false l in
    let few = moved-few (start_of a.starts.now) a.log.now (read e) (arrays-readable (kept e)) in
    let list =
    ap length (listed-counted a.log.now c.judge_moved-verdict.new.gaps c.judge_moved-verdict.new.moves (long at.After-judge_moved-verdict)
    ∙ c.judge_moved-verdict.ensures.moved.moved) in
    omega (arith, list, few, room.entries)

pub returns : goal.returns
returns c =
    let a = c.args in
    let at = goal.at.returns c in
    let e = at.In_default in
    let y = c.judge_moved-verdict.ensures.moved in
    let j = long at.After-judge_moved-verdict in
    let start = start_of a.starts.now in
    c.write_moved.ensures
    ∙ (after-judged start a.log.now (read e) _ a.output.now a.moved.now _ _ _ y.points c.judge_moved-verdict.ensures.value
    (bytes_same a.log.now c.transactions_begun-begun.ensures y.kept j)
    (listed-counted a.log.now c.judge_moved-verdict.new.gaps c.judge_moved-verdict.new.moves j ∙ y.moved)
    ∙ after-room start a.log.now (length a.log.now) a.file.now a.output.now a.moved.now (read e) (holds e) c.has_room.result
    (asked at.After-has_room (size e (λ i. (c.type_inv.file i).fits))) c.if-not-has_room.false)

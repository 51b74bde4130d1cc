-- `put_starts` meets its contract: the loop's invariant says what stands in the output so far. Assumes nothing.
use Prim.Native.Nat.{ℕ, ◌+◌, ◌≤◌, ◌<◌}
use mathlib.Core.Path.{◌≡◌, refl, sym, ap, ◌∙◌}
use mathlib.Core.List.{List}
use native.Mathlib.Omega.{arith}
use lib.ListN.{length, length-append}
use Rattle.records.specs.Bytes.{placed}
use Rattle.event_log.specs.Starts.{start_of}
use Rattle.records.proofs.BufferLaws.{placed-more, length-placed}
use Rattle.writer.specs.Writing.{start_record, starts_to}
use Rattle.writer.proofs.FileLaws.{placed-none}
use Rattle.writer.proofs.StartLaws.{starts_more, starts-longer, starts-grow}
use Rattle.writer.proofs.starts.put_starts.Goals as goal
use Rattle.writer.proofs.starts.put_starts.Goals.{Start}

-- the output is as long as it was, and has room for one record more
long : (s : Start) (r : ℕ) (out : List ℕ) → r ≤ 32 → out ≡ placed s.args.out.now 6 (starts_to s.args.starts.now r)
    → length out ≡ length s.args.out.now
long s r out l e =
    let g = starts-grow s.args.starts.now r 32 l in
    ap length e ∙ length-placed s.args.out.now 6 (starts_to s.args.starts.now r) (omega arith)

room : (s : Start) (r : ℕ) → r < 32
    → 6 + length (starts_to s.args.starts.now r) + length (start_record r (start_of s.args.starts.now r)) ≤ length s.args.out.now
room s r l = omega (arith, starts-grow s.args.starts.now _ 32 l, starts-longer s.args.starts.now r)

pub loop-r-init : goal.loop-r-init
unfolding starts_to
loop-r-init c = (refl, sym (placed-none c.args.out.now 6))

pub put_start-requires : goal.put_start-requires
unfolding start_of
put_start-requires c =
    let l = c.loop-r in
    omega (
      arith,
      l.invariant.0,
      room (goal.at.put_start-requires c).Start l.r c.loop-r-test.true,
      long (goal.at.put_start-requires c).Start
          l.r l.out (omega arith) l.invariant.1,
    )

pub loop-r-preserved : goal.loop-r-preserved
unfolding start_of
loop-r-preserved c =
    let l = c.loop-r in
    let v = c.args.starts.now in
    let m = starts_more v l.r in
    let d = start_record l.r (start_of v l.r) in
    let k = starts-grow v l.r 32 (omega arith) in (
      omega (arith, l.invariant.0, ap length m, length-append (starts_to v l.r) d, c.start_length-at.ensures.0 l.r),
      c.put_start.ensures
          ∙ (ap (λ (o : List ℕ). placed o l.at d) l.invariant.1
          ∙ (placed-more c.args.out.now 6 (starts_to v l.r) d l.at (sym l.invariant.0) (omega arith)
          ∙ ap (placed c.args.out.now 6) (sym m))),
    )

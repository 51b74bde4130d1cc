-- `starts_end` meets its contract: the loop's invariant is the length so far. Assumes nothing.
use mathlib.Core.Path.{refl}
use native.Mathlib.Omega.{arith}
use native.Mathlib.Numerals.{add-one}
use Rattle.event_log.specs.Starts.{start_of}
use Rattle.writer.specs.Writing.{starts_to}
use Rattle.writer.proofs.StartLaws.{starts-most, starts-longer}
use Rattle.writer.proofs.starts.starts_end.Goals as goal

pub loop-value-init : goal.loop-value-init
unfolding starts_to
loop-value-init c = refl

pub overflow_add-at : goal.overflow_add-at
overflow_add-at c =
    let l = c.loop-value in
    omega (arith, l.invariant, starts-most c.args.starts.now l.value-index)

pub loop-value-preserved : goal.loop-value-preserved
unfolding start_of
loop-value-preserved c =
    let l = c.loop-value in
    rw add-one (omega (arith, l.invariant, starts-longer c.args.starts.now l.value-index, c.start_length-at.ensures.0 l.value-index))

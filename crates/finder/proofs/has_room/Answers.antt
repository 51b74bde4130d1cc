-- `finder::has_room` meets its contract: no log has more store reads than events. Assumes nothing.
use mathlib.Core.Path.{sym, ◌∙◌}
use native.Mathlib.Omega.{arith}
use borrow.Author.Tests.{le-leb}
use Rattle.opacity.proofs.Bounds.{reads-low, reads-most}
use Rattle.finder.specs.Answer.{marking_size}
use Rattle.finder.proofs.has_room.Goals as goal

pub returns-then-places-log : goal.returns-then-places-log
returns-then-places-log c =
    le-leb _ c.args.room c.if-places-log.true
    ∙ sym (le-leb (marking_size c.args.log.now) c.args.room (omega (arith, reads-most c.args.log.now)))

pub overflow_mul-result : goal.overflow_mul-result
overflow_mul-result c = omega (arith, c.count_by.ensures, reads-low c.args.log.now c.requires.judged.readable)

pub overflow_add-result : goal.overflow_add-result
overflow_add-result c = omega (arith, c.count_by.ensures, reads-low c.args.log.now c.requires.judged.readable, c.requires.judged.few)

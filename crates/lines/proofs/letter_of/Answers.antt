-- `lines::letter_of` meets its contract.
-- Assumes nothing.
use Rattle.lines.proofs.letter_of.Goals as goal

pub returns-in-A : goal.returns-in-A
returns-in-A c = rw c.in-A.is

pub returns-in-B : goal.returns-in-B
returns-in-B c = rw c.in-B.is

pub returns-in-C : goal.returns-in-C
returns-in-C c = rw c.in-C.is

pub returns-in-D : goal.returns-in-D
returns-in-D c = rw c.in-D.is

pub returns-in-E : goal.returns-in-E
returns-in-E c = rw c.in-E.is

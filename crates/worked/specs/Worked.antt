-- To be believed: the worked histories, as one list with what the definitions must say of each: the starred ones of the paper ("Histories
-- to try"), histories with start values, histories with accesses outside transactions, some that catch what those do not, marking files,
-- markings with their points straightened, tallies, history files with notes, and seven of the source document 001.
-- Assumes nothing.
use Rattle.std.specs.Prelude.{ℕ, ◌+◌, true, false, List, [], ◌∷◌, ◌++◌, take, replicate}
use Rattle.events.specs.declared.event.Event.{Event}
use Rattle.events.specs.Said.{done, at_byte}
use Rattle.opacity.specs.declared.verdict.Rule.TheVariants.{A, B, C, D, E}
use Rattle.opacity.specs.declared.verdict.Verdict.TheVariants.{Accepted, Broken}
use Rattle.opacity.specs.declared.verdict.Cause.TheVariants.{Read, Commit, Abort}
use Rattle.opacity.specs.Scan.{opaque, fault}
use Rattle.opacity.specs.Justification.{Place}
use Rattle.opacity.specs.Lowest.{place}
use Rattle.opacity.specs.Marking.{Marking}
use Rattle.worked.specs.Cases.{event, begin_on, lone_read, lone_write, begin, read, write, call_read, call_commit, commit, abort, then, point, marking, says, starts_with, says_from, Case}
use Rattle.worked.specs.Cases.{scanned, lowest_is, file_is, checked, file_says, straight, runs, counted, tallied, refused_by, log_says, bare_is, next_is}

-- H0 with v at event 9
h0 : ℕ → List Event
unfolding begin write read commit then
h0 v = then (begin 0 ∷ write 0 3 7 ∷ begin 1 ∷ read 1 3 0 ∷ commit 0 ∷ read 1 3 v ∷ [])

-- T0 writes r0 := 5 and calls commit, T1 reads 5, and what follows
pending_pair : List Event → List Event
unfolding begin write read call_commit then
pending_pair more = then (begin 0 ∷ write 0 0 5 ∷ call_commit 0 ∷ begin 1 ∷ read 1 0 5 ∷ more ∷ [])

-- T0 writes r0 := 4, then r0 := 5, and commits; T1 begins and reads v
twice : ℕ → List Event
unfolding begin write read commit then
twice v = then (begin 0 ∷ write 0 0 4 ∷ write 0 0 5 ∷ commit 0 ∷ begin 1 ∷ read 1 0 v ∷ [])

-- T0 reads r0 = 0, writes r0 := 5 and commits: a reader that is a writer of the register itself
reader_writes : List Event
unfolding begin write read commit then
reader_writes = then (begin 0 ∷ read 0 0 0 ∷ write 0 0 5 ∷ commit 0 ∷ [])

-- T1 aborted, T0 committed; and the other way round
late : List Place
late = place 1 false ∷ place 0 true ∷ []

early : List Place
early = place 0 true ∷ place 1 false ∷ []

-- the points of H0's two reads
two : List Place → ℕ → ℕ → Marking
unfolding point marking
two J a b = marking J (point 5 a ∷ point 9 b ∷ [])

-- ---- marking files

head_alone : List ℕ
head_alone = 4 ∷ 0 ∷ 2 ∷ 0 ∷ 1 ∷ 0 ∷ []

-- H0's: T1 aborted and T0 committed, the points of events 5 and 9 at gap 0
places_of_h0 : List ℕ
places_of_h0 = 6 ∷ 0 ∷ 32 ∷ 0 ∷ 1 ∷ 0 ∷ 0 ∷ 0 ∷ 6 ∷ 0 ∷ 32 ∷ 0 ∷ 0 ∷ 0 ∷ 1 ∷ 0 ∷ []

points_of_h0 : List ℕ
points_of_h0 = 8 ∷ 0 ∷ 33 ∷ 0 ∷ 5 ∷ 0 ∷ 0 ∷ 0 ∷ 0 ∷ 0 ∷ 8 ∷ 0 ∷ 33 ∷ 0 ∷ 9 ∷ 0 ∷ 0 ∷ 0 ∷ 0 ∷ 0 ∷ []

-- ---- the list

-- the starred histories of the paper, in its order
starred : List Case
unfolding says h0 two point marking late early begin begin_on read write call_commit commit abort then pending_pair head_alone places_of_h0 points_of_h0
starred =
    -- head alone
    says [] (scanned opaque)
    ∷ says [] (file_is head_alone)
    ∷ says [] (checked (marking [] []) Accepted)
    ∷ says [] (file_says head_alone (done []))
    -- H0: its marking is lowest; event 9 at gap 1, and at gap 2
    ∷ says (h0 0) (scanned opaque)
    ∷ says (h0 0) (counted 10 2 2)
    ∷ says (h0 0) (lowest_is (two late 0 0))
    ∷ says (h0 0) (file_is (head_alone ++ (places_of_h0 ++ points_of_h0)))
    ∷ says (h0 0) (file_says (head_alone ++ (places_of_h0 ++ points_of_h0)) (done []))
    ∷ says (h0 0) (checked (two late 0 0) Accepted)
    ∷ says (h0 0) (checked (two late 0 1) Accepted)
    ∷ says (h0 0) (checked (two late 0 2) (Broken D 9 1))
    -- H7: T0 then T1 with both gaps 1, and with event 5 at gap 0
    ∷ says (h0 7) (scanned (fault 9 Read))
    ∷ says (h0 7) (checked (two early 1 1) (Broken E 5 1))
    ∷ says (h0 7) (checked (two early 0 1) (Broken D 5 1))
    -- each of two reads what the other writes; both commit
    ∷ says (then (begin 0 ∷ begin 1 ∷ read 0 0 0 ∷ read 1 1 0 ∷ write 0 1 1 ∷ write 1 0 1 ∷ commit 1 ∷ commit 0 ∷ [])) (scanned (fault 13 Commit))
    -- T1 reads T0's pending write; T0 is then aborted
    ∷ says (pending_pair []) (scanned opaque)
    ∷ says (pending_pair (abort 0)) (scanned (fault 7 Abort))
    -- T1 reads it before the commit is called
    ∷ says (then (begin 0 ∷ write 0 0 5 ∷ begin 1 ∷ read 1 0 5 ∷ commit 0 ∷ [])) (scanned (fault 5 Read))
    -- T0 commits, then T1 begins: T1 is placed first
    ∷ says (then (begin 0 ∷ write 0 0 1 ∷ commit 0 ∷ begin 1 ∷ read 1 0 0 ∷ [])) (checked (marking late (point 7 0 ∷ [])) (Broken B 5 1))
    -- an own read that is wrong
    ∷ says (then (begin 0 ∷ write 0 0 5 ∷ read 0 0 0 ∷ [])) (checked (marking (place 0 false ∷ []) []) (Broken C 4 0))
    ∷ []

-- T0 begins and reads register 0 as v
reads : ℕ → List Event
unfolding begin read then
reads v = then (begin 0 ∷ read 0 0 v ∷ [])

-- T0 commits r0 := 7, and T1 begins and reads register 0 as v
hides : ℕ → List Event
unfolding begin read write commit then
hides v = then (begin 0 ∷ write 0 0 7 ∷ commit 0 ∷ begin 1 ∷ read 1 0 v ∷ [])

-- histories with start values
from_starts : List Case
unfolding says says_from starts_with reads hides point marking early late begin begin_on read write commit then
from_starts =
    -- a start value read before any writer; the same read of 0
    says_from 5 0 (reads 5) (scanned opaque)
    ∷ says_from 5 0 (reads 5) (lowest_is (marking (place 0 false ∷ []) (point 2 0 ∷ [])))
    ∷ says_from 5 0 (reads 5) (checked (marking (place 0 false ∷ []) (point 2 0 ∷ [])) Accepted)
    ∷ says_from 5 0 (reads 5) (runs (place 0 false ∷ []) true)
    ∷ says_from 5 0 (reads 0) (scanned (fault 2 Read))
    ∷ says_from 5 0 (reads 0) (checked (marking (place 0 false ∷ []) (point 2 0 ∷ [])) (Broken E 2 0))
    ∷ says_from 5 0 (reads 0) (runs (place 0 false ∷ []) false)
    -- a start value hidden by a committed write
    ∷ says_from 5 0 (hides 7) (scanned opaque)
    ∷ says_from 5 0 (hides 5) (scanned (fault 7 Read))
    ∷ says_from 5 0 (hides 5) (checked (marking early (point 7 1 ∷ [])) (Broken E 7 1))
    ∷ says_from 5 0 (hides 5) (checked (marking early (point 7 0 ∷ [])) (Broken D 7 1))
    -- edition 1 with a start that is not 0, and an edition that there is not; edition 2 with none
    ∷ record { edition = 1; starts = starts_with 5 0; history = reads 5; claim = refused_by 3 3 }
    ∷ record { edition = 1; starts = starts_with 0 5; history = []; claim = refused_by 3 0 }
    ∷ record { edition = 3; starts = starts_with 0 0; history = reads 0; claim = refused_by 3 3 }
    ∷ says_from 0 0 (reads 0) (scanned opaque)
    -- a register has its own start value
    ∷ says_from 0 5 (reads 5) (scanned (fault 2 Read))
    ∷ says_from 0 5 (reads 0) (scanned opaque)
    -- a reader that begins before the writer commits reads the start value; its point behind the writer is moved
    ∷ says_from 5 0 (then (begin 0 ∷ begin 1 ∷ write 0 0 7 ∷ commit 0 ∷ read 1 0 5 ∷ [])) (lowest_is (marking late (point 7 0 ∷ [])))
    ∷ says_from 5 0 (then (begin 0 ∷ begin 1 ∷ write 0 0 7 ∷ commit 0 ∷ read 1 0 5 ∷ []))
    (straight (marking late (point 7 2 ∷ [])) (marking late (point 7 0 ∷ [])) (7 ∷ []) Accepted)
    ∷ []

-- T0 writes r0 := 5 and calls commit, a lone read gets 5, and what follows
pending_lone : List Event → List Event
unfolding begin write call_commit lone_read then
pending_lone more = then (begin 0 ∷ write 0 0 5 ∷ call_commit 0 ∷ lone_read 2 1 0 5 ∷ more ∷ [])

-- T0 reads register 0 as a, a lone write puts 7 there, and T0 reads it as b
around : ℕ → ℕ → List Event
unfolding begin read lone_write then
around a b = then (begin 0 ∷ read 0 0 a ∷ lone_write 2 1 0 7 ∷ read 0 0 b ∷ [])

-- a lone write of 7 to register 0, and then a lone read of it as v
lone_after : ℕ → List Event
unfolding lone_read lone_write then
lone_after v = then (lone_write 2 0 0 7 ∷ lone_read 2 1 0 v ∷ [])

both : List Place
both = place 0 true ∷ place 1 true ∷ []

-- accesses outside transactions, each a committed transaction of one event
alone : List Case
unfolding says says_from starts_with event begin begin_on lone_read lone_write read write call_commit commit then pending_lone around lone_after both point marking
alone =
    -- a start value read bare; the same read of 0
    says_from 5 0 (lone_read 2 0 0 5) (scanned opaque)
    ∷ says_from 5 0 (lone_read 2 0 0 5) (lowest_is (marking (place 0 true ∷ []) (point 0 0 ∷ [])))
    ∷ says_from 5 0 (lone_read 2 0 0 5) (counted 1 1 1)
    ∷ says_from 5 0 (lone_read 2 0 0 5) (tallied 1 0 0 0)
    ∷ says_from 5 0 (lone_read 2 0 0 5) (runs (place 0 true ∷ []) true)
    ∷ says_from 5 0 (lone_read 2 0 0 0) (scanned (fault 0 Read))
    -- it is recorded as committed: rule A names its event
    ∷ says_from 5 0 (lone_read 2 0 0 5) (checked (marking (place 0 false ∷ []) (point 0 0 ∷ [])) (Broken A 0 0))
    -- the value of a writer whose commit is pending; then the old value, with the commit unanswered and answered
    ∷ says_from 0 0 (pending_lone []) (scanned opaque)
    ∷ says_from 0 0 (pending_lone []) (lowest_is (marking both (point 4 1 ∷ [])))
    ∷ says_from 0 0 (pending_lone (lone_read 2 2 0 0)) (scanned (fault 5 Read))
    ∷ says_from 0 0 (pending_lone (event 22 0 0 0 ∷ lone_read 2 2 0 0)) (scanned (fault 6 Read))
    -- a lone write is read by a live transaction that began before it
    ∷ says_from 0 0 (then (begin 0 ∷ lone_write 2 1 0 7 ∷ read 0 0 7 ∷ [])) (scanned opaque)
    ∷ says_from 0 0 (then (begin 0 ∷ lone_write 2 1 0 7 ∷ read 0 0 7 ∷ [])) (lowest_is (marking (place 1 true ∷ place 0 false ∷ []) (point 3 1 ∷ [])))
    -- and one between two reads: old and then new is torn, old both times is not
    ∷ says_from 0 0 (around 0 7) (scanned (fault 5 Read))
    ∷ says_from 0 0 (around 0 0) (scanned opaque)
    ∷ says_from 0 0 (around 7 7) (scanned (fault 2 Read))
    -- a lone access begins after what ended before it: rule B names its event; its point behind a writer breaks D, a wrong value E
    ∷ says_from 0 0 (lone_after 7) (checked (marking both (point 1 1 ∷ [])) Accepted)
    ∷ says_from 0 0 (lone_after 7) (checked (marking (place 1 true ∷ place 0 true ∷ []) (point 1 0 ∷ [])) (Broken B 1 1))
    ∷ says_from 0 0 (lone_after 7) (checked (marking both (point 1 0 ∷ [])) (Broken D 1 1))
    ∷ says_from 0 0 (lone_after 7) (straight (marking both (point 1 0 ∷ [])) (marking both (point 1 1 ∷ [])) (1 ∷ []) Accepted)
    ∷ says_from 0 0 (lone_after 0) (checked (marking both (point 1 1 ∷ [])) (Broken E 1 1))
    ∷ says_from 0 0 (lone_after 0) (scanned (fault 1 Read))
    -- its thread must be free, and is free again after it; kinds 24 and 25 are edition 2's
    ∷ says_from 0 0 (begin 0 ++ lone_read 0 1 0 0) (refused_by 10 1)
    ∷ says_from 0 0 (then (lone_read 0 0 0 0 ∷ begin 1 ∷ begin_on 0 2 ∷ [])) (scanned opaque)
    ∷ says (lone_read 2 0 0 0) (refused_by 4 0)
    ∷ says (lone_write 2 0 0 0) (refused_by 4 0)
    -- it has the next number, a thread below 16 and a register below 32; what begins has no other field, and what does not no thread
    ∷ says_from 0 0 (lone_read 16 1 32 0) (refused_by 8 0)
    ∷ says_from 0 0 (lone_read 16 0 32 0) (refused_by 9 0)
    ∷ says_from 0 0 (lone_write 15 0 32 0) (refused_by 12 0)
    ∷ says_from 0 0 (lone_write 15 0 31 9) (scanned opaque)
    ∷ says (event 16 0 1 0 ∷ []) (refused_by 16 0)
    ∷ says (begin 0 ++ (record { kind = 21; transaction = 0; register = 0; value = 0; thread = 1 } ∷ [])) (refused_by 16 1)
    ∷ []

-- what the starred histories do not catch
further : List Case
unfolding says h0 two point marking late early begin begin_on read write call_commit commit abort then pending_pair twice reader_writes
further =
    -- of two writes of a committed transaction the last one counts
    says (twice 5) (scanned opaque)
    ∷ says (twice 4) (scanned (fault 9 Read))
    ∷ says (twice 5) (checked (marking early (point 9 1 ∷ [])) Accepted)
    ∷ says (twice 4) (checked (marking early (point 9 1 ∷ [])) (Broken E 9 1))
    -- an own read has no point, and a store read of another register has one
    ∷ says (then (begin 0 ∷ write 0 0 5 ∷ read 0 0 5 ∷ read 0 1 0 ∷ [])) (lowest_is (marking (place 0 false ∷ []) (point 6 0 ∷ [])))
    ∷ says (then (begin 0 ∷ write 0 0 5 ∷ read 0 0 5 ∷ read 0 1 0 ∷ [])) (counted 7 1 1)
    -- a pending commit may go either way, and aborted is lower
    ∷ says (then (begin 0 ∷ write 0 0 5 ∷ call_commit 0 ∷ begin 1 ∷ read 1 1 0 ∷ []))
    (lowest_is (marking (place 0 false ∷ place 1 false ∷ []) (point 6 1 ∷ [])))
    ∷ says (then (begin 0 ∷ write 0 0 5 ∷ call_commit 0 ∷ begin 1 ∷ read 1 1 0 ∷ [])) (checked (marking early (point 6 1 ∷ [])) Accepted)
    ∷ says (pending_pair []) (lowest_is (marking early (point 6 1 ∷ [])))
    -- a reader that is itself a committed writer, with its point before it and behind it: it is not one of the writers of D and E
    ∷ says reader_writes (checked (marking (place 0 true ∷ []) (point 2 0 ∷ [])) Accepted)
    ∷ says reader_writes (checked (marking (place 0 true ∷ []) (point 2 1 ∷ [])) Accepted)
    -- a recorded outcome is kept, and A names the transaction's last event
    ∷ says reader_writes (checked (marking (place 0 false ∷ []) (point 2 0 ∷ [])) (Broken A 6 0))
    -- A comes before D; of two broken reads the lower is named
    ∷ says (h0 0) (checked (two (place 1 true ∷ place 0 true ∷ []) 0 2) (Broken A 9 1))
    ∷ says (h0 0) (checked (two late 2 2) (Broken D 5 1))
    -- an order run one at a time: an aborted reader's reads count; an aborted writer's value is gone; the last of two writes stays; own
    -- writes are read
    ∷ says (h0 0) (runs late true)
    ∷ says (h0 0) (runs early false)
    ∷ says (h0 7) (runs early false)
    ∷ says (then (begin 0 ∷ write 0 0 5 ∷ abort 0 ∷ begin 1 ∷ read 1 0 0 ∷ [])) (runs (place 0 false ∷ place 1 false ∷ []) true)
    ∷ says (twice 5) (runs early true)
    ∷ says (then (begin 0 ∷ write 0 0 4 ∷ write 0 0 5 ∷ read 0 0 5 ∷ [])) (runs (place 0 false ∷ []) true)
    ∷ says (then (begin 0 ∷ write 0 0 5 ∷ read 0 0 0 ∷ [])) (runs (place 0 false ∷ []) false)
    ∷ []

-- marking files that are refused: a transaction has no place where the first read point comes, and at the end
files : List Case
unfolding says h0 begin begin_on read write commit then head_alone places_of_h0 points_of_h0
files =
    says (h0 0) (file_says (head_alone ++ points_of_h0) (at_byte 28 6))
    ∷ says (h0 0) (file_says (head_alone ++ (take 8 places_of_h0 ++ points_of_h0)) (at_byte 28 14))
    ∷ says (h0 0) (file_says head_alone (at_byte 28 6))
    ∷ says (h0 0) (file_says (head_alone ++ take 8 places_of_h0) (at_byte 28 14))
    -- a store read has no point; a file without a head
    ∷ says (h0 0) (file_says (head_alone ++ (places_of_h0 ++ take 10 points_of_h0)) (at_byte 29 32))
    ∷ says (h0 0) (file_says [] (at_byte 21 0))
    ∷ []

-- read points straightened
straightenings : List Case
unfolding says h0 two point marking late early begin begin_on read write call_commit commit abort then reader_writes
straightenings =
    -- H0: event 9 at gap 2 is moved to its reader; at gap 1, where no rule is broken, it stays; both at gap 2 are moved
    says (h0 0) (straight (two late 0 2) (two late 0 0) (9 ∷ []) Accepted)
    ∷ says (h0 0) (straight (two late 0 1) (two late 0 1) [] Accepted)
    ∷ says (h0 0) (straight (two late 2 2) (two late 0 0) (5 ∷ 9 ∷ []) Accepted)
    -- the points of an order that is no justification: A is broken before and after, and E stays at event 5 of H7 wherever its point is
    ∷ says (h0 0) (straight (two (place 1 true ∷ place 0 true ∷ []) 0 2) (two (place 1 true ∷ place 0 true ∷ []) 0 0) (9 ∷ []) (Broken A 9 1))
    ∷ says (h0 7) (straight (two early 1 1) (two early 1 1) (5 ∷ []) (Broken E 5 1))
    ∷ says (h0 7) (straight (two early 0 1) (two early 1 1) (5 ∷ []) (Broken E 5 1))
    -- a point behind its reader, with the reader the only writer there
    ∷ says reader_writes (straight (marking (place 0 true ∷ []) (point 2 1 ∷ [])) (marking (place 0 true ∷ []) (point 2 1 ∷ [])) [] Accepted)
    ∷ []

-- tallies: committed, aborted, pending, live
tallies : List Case
unfolding says h0 event begin begin_on read write call_read call_commit commit abort then pending_pair
tallies =
    says [] (tallied 0 0 0 0)
    -- H0: T0 is committed and T1 live
    ∷ says (h0 0) (tallied 1 0 0 1)
    -- T0's commit is called and unanswered; then T0 is aborted; or committed
    ∷ says (pending_pair []) (tallied 0 0 1 1)
    ∷ says (pending_pair (abort 0)) (tallied 0 1 0 1)
    ∷ says (pending_pair (event 22 0 0 0 ∷ [])) (tallied 1 0 0 1)
    -- T0 commits, T1 is aborted at its commit, T2 at a read, T3 by itself; T4's commit and T5's read are called and unanswered; T6 only begins
    ∷ says
    (then
    (begin 0 ∷ begin 1 ∷ begin 2 ∷ begin 3 ∷ begin 4 ∷ begin 5 ∷ begin 6 ∷ commit 0 ∷ call_commit 1 ∷ call_read 2 0 ∷ call_commit 4 ∷ call_read 5 0
    ∷ abort 1 ∷ abort 2 ∷ abort 3 ∷ []))
    (tallied 1 3 1 2)
    ∷ []

-- ---- history files with notes

head_of : ℕ → List ℕ
head_of edition = 4 ∷ 0 ∷ 1 ∷ 0 ∷ edition ∷ 0 ∷ []

-- a note of so many bytes
note : ℕ → List ℕ
note n = (n + 2) ∷ 0 ∷ 48 ∷ 0 ∷ replicate n 33

-- register 0 starts with 5; T0 begins on thread 3, reads register 0, and gets 5
start_record : List ℕ
start_record = 8 ∷ 0 ∷ 3 ∷ 0 ∷ 0 ∷ 0 ∷ 5 ∷ 0 ∷ 0 ∷ 0 ∷ []

begin_record : List ℕ
begin_record = 6 ∷ 0 ∷ 16 ∷ 0 ∷ 0 ∷ 0 ∷ 3 ∷ 0 ∷ []

read_records : List ℕ
read_records = 6 ∷ 0 ∷ 17 ∷ 0 ∷ 0 ∷ 0 ∷ 0 ∷ 0 ∷ 8 ∷ 0 ∷ 18 ∷ 0 ∷ 0 ∷ 0 ∷ 5 ∷ 0 ∷ 0 ∷ 0 ∷ []

-- the file, and the file with notes: behind the head, a start record, an event, and at the end
bare : List ℕ
unfolding head_of start_record begin_record read_records
bare = head_of 2 ++ (start_record ++ (begin_record ++ read_records))

noted : List ℕ
unfolding head_of note start_record begin_record read_records
noted = head_of 2 ++ (note 0 ++ (start_record ++ (note 64 ++ (begin_record ++ (note 2 ++ (read_records ++ note 1))))))

logs : List Case
unfolding says head_of note start_record begin_record read_records bare noted
logs =
    -- it is read as without them; a start record behind a note is not late
    says [] (log_says bare (done (3 ∷ 2 ∷ [])))
    ∷ says [] (log_says noted (done (3 ∷ 2 ∷ [])))
    ∷ says [] (bare_is noted bare)
    ∷ says [] (bare_is bare bare)
    -- each note with the events before it, its byte and its length
    ∷ says [] (next_is noted 0 (0 ∷ 10 ∷ 0 ∷ []))
    ∷ says [] (next_is noted 10 (0 ∷ 24 ∷ 64 ∷ []))
    ∷ says [] (next_is noted 88 (1 ∷ 100 ∷ 2 ∷ []))
    ∷ says [] (next_is noted 102 (3 ∷ 124 ∷ 1 ∷ []))
    ∷ says [] (next_is noted 125 [])
    ∷ says [] (next_is bare 0 [])
    -- 64 bytes and 65; a note that is cut short, with and without its bytes; one before the head; edition 1 has notes too
    ∷ says [] (log_says (head_of 1 ++ note 64) (done (0 ∷ 1 ∷ [])))
    ∷ says [] (log_says (head_of 1 ++ note 65) (at_byte 44 6))
    ∷ says [] (next_is (head_of 1 ++ note 65) 0 [])
    ∷ says [] (log_says (head_of 1 ++ take 67 (note 64)) (at_byte 2 6))
    ∷ says [] (log_says (head_of 1 ++ take 68 (note 65)) (at_byte 2 6))
    ∷ says [] (log_says (note 0 ++ head_of 1) (at_byte 3 0))
    -- a refusal has its byte in the file as it is; 43 of a start record behind an event and a note, 4 of one in edition 1
    ∷ says [] (log_says (head_of 1 ++ (note 3 ++ read_records)) (at_byte 11 13))
    ∷ says [] (log_says (head_of 2 ++ (begin_record ++ (note 3 ++ start_record))) (at_byte 43 21))
    ∷ says [] (log_says (head_of 1 ++ (note 3 ++ start_record)) (at_byte 4 13))
    ∷ []

-- worked examples of document 001, named by their place there; x is register 0. Transactions are numbered by their begins, on the threads
-- that the document gives them.
printed : List Case
unfolding says begin_on read write call_commit commit abort then
printed =
    -- Fig. 2.19, h2
    says (then (begin_on 1 0 ∷ write 0 0 2 ∷ commit 0 ∷ begin_on 1 1 ∷ begin_on 2 2 ∷ write 2 0 1 ∷ read 1 0 1 ∷ [])) (scanned (fault 10 Read))
    -- Fig. 2.19, h3
    ∷ says
    (then (begin_on 1 0 ∷ write 0 0 2 ∷ commit 0 ∷ begin_on 1 1 ∷ write 1 0 1 ∷ commit 1 ∷ begin_on 2 2 ∷ read 2 0 2 ∷ commit 2 ∷ []))
    (scanned (fault 12 Read))
    -- Fig. 4.13, h1
    ∷ says (then (begin_on 1 0 ∷ begin_on 2 1 ∷ write 0 0 1 ∷ call_commit 0 ∷ read 1 0 1 ∷ [])) (scanned opaque)
    -- Fig. 3.12
    ∷ says
    (then (begin_on 1 0 ∷ write 0 0 1 ∷ begin_on 2 1 ∷ write 1 0 1 ∷ commit 1 ∷ commit 0 ∷ begin_on 1 2 ∷ read 2 0 1 ∷ abort 2 ∷ []))
    (scanned opaque)
    -- section 3.3, its three
    ∷ says
    (then
    (begin_on 1 0 ∷ begin_on 3 1 ∷ begin_on 2 2 ∷ write 1 0 1 ∷ commit 1 ∷ read 2 0 1 ∷ write 0 0 2 ∷ commit 0 ∷ write 2 0 3 ∷ commit 2 ∷ []))
    (scanned opaque)
    ∷ says
    (then
    (begin_on 1 0 ∷ begin_on 3 1 ∷ begin_on 2 2 ∷ read 1 0 0 ∷ write 1 0 1 ∷ commit 1 ∷ read 2 0 1 ∷ read 0 0 1 ∷ write 0 0 2 ∷ commit 0
    ∷ write 2 0 3 ∷ commit 2 ∷ []))
    (scanned (fault 20 Commit))
    ∷ says
    (then (begin_on 1 0 ∷ begin_on 3 1 ∷ begin_on 2 2 ∷ write 1 0 1 ∷ write 0 0 2 ∷ commit 0 ∷ commit 1 ∷ read 2 0 1 ∷ commit 2 ∷ []))
    (scanned opaque)
    ∷ []

unfoldable pub worked : List Case
unfolding starred from_starts alone further files straightenings tallies logs printed
worked = starred ++ (from_starts ++ (alone ++ (further ++ (files ++ (straightenings ++ (tallies ++ (logs ++ printed)))))))

-- Vocabulary between crates: it need not be believed, the public contracts end in the paper's definitions.
-- H0: T0 writes 7 to register 3 and commits; T1 reads 0 from it twice and has not ended.
use Rattle.std.specs.Prelude.{◌≡◌, refl, [], ◌∷◌, replicate}
use Rattle.std.proofs.Math.Option.{some}
use Rattle.lists.specs.Lists.{◌and◌, ◌or◌, all, latest}
use Rattle.event_log.specs.Starts.{start_of}
use Rattle.events.specs.Events.{is_write, by}
use Rattle.opacity.specs.Transactions.{last_write}
use Rattle.opacity.specs.Justification.{written, contents}
use Rattle.lists.specs.Bits.{bit_at, members_in, members}
use Rattle.places.specs.Facts.{put}
use Rattle.places.specs.Places.{decode, row_from, writes_from, writes_in}
use Rattle.places.specs.Tree.{Constraints, constraints, first_completion, from_candidates, first_of, try_both, try_one, fits_at, ends_at, rule_next}
use Rattle.places.specs.Tree.{allows_outcome, none_in, legal_reads, legal_at, remove, up_from}

h0 : Constraints
h0 = constraints (replicate 32 0) (put (put (put (put (put (replicate 11 (replicate 72 0)) 0 1 1) 0 38 8) 1 2 8) 1 6 1) 10 0 3)

h0-lowest : first_completion h0 2 ≡ some (2 ∷ 1 ∷ [])
unfolding
    h0 first_completion from_candidates first_of try_both try_one fits_at ends_at rule_next allows_outcome none_in legal_reads legal_at
    contents written latest last_write by is_write ◌and◌ ◌or◌ all start_of
    decode writes_in writes_from row_from remove up_from bit_at members members_in
h0-lowest = refl

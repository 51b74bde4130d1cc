-- `search::find` meets its contract: the search starts with all transactions unplaced, as both the unplaced and the candidates.
-- Assumes nothing.
use Rattle.std.specs.Prelude.{None}
use mathlib.Core.Path.{◌≡◌, refl, sym, ap, ◌∙◌}
use Prim.Native.Nat.{ℕ, ◌-◌, ◌^◌}
use native.Mathlib.Omega.{arith}
use lib.Bits.{bit_and, and_le_l}
use lib.Pow.{pow_pos}
use Rattle.places.specs.declared.state.Search.{Search}
use Rattle.places.specs.Facts.{end_row, after_of}
use Rattle.places.specs.Places.{codes_of}
use Rattle.places.specs.State.{Sound}
use Rattle.places.specs.declared.lookup
use Rattle.places.specs.Told.{told}
use Rattle.places.specs.Tree.{asking, first_completion}
use Rattle.search.proofs.TreeLaws.{start-sound, start-answers, answered-as, answered-none}
use Rattle.places.proofs.SetLaws.{within-self}
use Rattle.pruning.proofs.EffectLaws.{nothing_known}
use Rattle.pruning.proofs.UnwrittenLaws.{asked-completion}
use Rattle.pruning.proofs.HopeLaws.{needs-of}
use Rattle.pruning.proofs.OrphanLaws.{orphaned-none}
use Rattle.search.proofs.find.Goals as goal
use Rattle.search.proofs.find.Goals.{After-bit}

-- the set of all transactions, the state in which they are unplaced, and that point where the registers asked about are known
all : (b : After-bit) → b.bit.result - 1 ≡ 2 ^ b.args.n - 1
all b = ap (λ (k : ℕ). k - 1) b.bit.ensures

sound : (b : After-bit) → Sound (record { unplaced = b.bit.result - 1; filled = 0; placed = 1 })
sound b = start-sound b.args.n (b.bit.result - 1) b.requires (all b)

pub overflow_sub-s : goal.overflow_sub-s
overflow_sub-s c = omega (arith, pow_pos c.args.n)

pub choose_transaction-requires : goal.choose_transaction-requires
choose_transaction-requires c =
    record {
      sound = sound (goal.at.choose_transaction-requires c).After-bit;
      within = within-self _;
    }

pub invariant_of-tree : goal.invariant_of-tree
invariant_of-tree c = record { known = nothing_known _ _ }

pub returns-then-n-lt-FEW : goal.returns-then-n-lt-FEW
unfolding codes_of
returns-then-n-lt-FEW c =
    answered-as c.args.n c.choose_transaction.result
    (start-answers (told c.new-all.result) c.args.n _ c.choose_transaction.result c.requires (all (goal.at.returns-then-n-lt-FEW c).After-bit)
    c.choose_transaction.ensures)
    (ap (λ (k : lookup.Constraints.Constraints). first_completion (told k) c.args.n) c.new-all.ensures)

pub stranded-requires : goal.stranded-requires
stranded-requires c =
    record {
      sound = sound (goal.at.stranded-requires c).After-bit;
      need_bound = omega (
        arith,
        (sound (goal.at.stranded-requires c).After-bit).few,
        and_le_l (c.bit.result - 1) (after_of c.args.facts.now end_row),
      );
    }

pub returns-then-stranded : goal.returns-then-stranded
unfolding codes_of
returns-then-stranded c =
    let a = c.args in
    let D = told c.new-all.result in
    let u = c.bit.result - 1 in
    let s : Search = record { unplaced = u; filled = 0; placed = 1 } in
    let same = ap (λ (k : lookup.Constraints.Constraints). bit_and u (after_of k.facts.now end_row)) (sym c.new-all.ensures) in
    let asks : c.before_end.result ≡ bit_and u (after_of D.facts end_row) = c.before_end.ensures ∙ same in
    answered-as a.n None (start-answers D a.n u None c.requires (all (goal.at.returns-then-stranded c).After-bit)
    (answered-none _ (sym (orphaned-none D s u _ (sound (goal.at.returns-then-stranded c).After-bit) refl
    (needs-of D s u _ asks (λ k h. h)) (c.stranded.ensures c.if-stranded.true)))))
    (ap (λ (k : lookup.Constraints.Constraints). first_completion (told k) a.n) c.new-all.ensures)

pub choose_transaction-requires-2 : goal.choose_transaction-requires-2
choose_transaction-requires-2 c =
    record {
      sound = sound (goal.at.choose_transaction-requires-2 c).After-bit;
      within = within-self _;
    }

-- the tree in which fewer registers are asked about is the same
pub returns : goal.returns
unfolding codes_of
returns c =
    let a = c.args in
    let m = c.registers_asked-asked.result in
    answered-as a.n c.choose_transaction-2.result
    (start-answers (asking a.starts.now a.facts.now m) a.n _ c.choose_transaction-2.result c.requires (all (goal.at.returns c).After-bit)
    c.choose_transaction-2.ensures)
    (asked-completion a.starts.now a.facts.now m c.registers_asked-asked.ensures a.n c.requires)

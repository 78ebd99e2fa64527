use Rattle.std.proofs.Common.{take, sym, subst, arith}
use Rattle.std.proofs.lemmas.List.Sorted.{IsNonDecreasingBy-from_sort}
use Rattle.std.specs.List.Sorted.{IsNonDecreasing, IsPermutation}
use Rattle.rooms.specs.Few.{items_of}
use Rattle.rooms.proofs.Holding.{front_sorted}
use Rattle.rooms.proofs.few.Few+u16+N.sort.Goals as goal

pub returns-clause-same : goal.returns-clause-same
unfolding items_of
returns-clause-same g c =
    let x = c.args.self.now in
    let same = c.sort_unstable.ensures.permutation in
    subst (IsPermutation (take x.len x.held)) (sym (front_sorted x.len x.held c.sort_unstable.new.self (omega (arith, x.few)) same)) same

pub returns-clause-rising : goal.returns-clause-rising
unfolding items_of
returns-clause-rising g c =
    let x = c.args.self.now in
    let sorted = c.sort_unstable.new.self in
    subst IsNonDecreasing (sym (front_sorted x.len x.held sorted (omega (arith, x.few)) c.sort_unstable.ensures.permutation))
    (IsNonDecreasingBy-from_sort (λ q. q) sorted c.sort_unstable.ensures.sorted)

use Rattle.std.proofs.Common.{◌+◌, length, Some, vec_items, sym, ap, ◌∙◌, subst, arith}
use Rattle.std.proofs.lemmas.Result.{err_from_is_err_and}
use Rattle.board.specs.Values.{side_of, grid_of}
use Rattle.forms.specs.Meaning.{meaning}
use Rattle.forms.proofs.Places.{of_read}
use Rattle.forms.proofs.Chains.{use_length}
use Rattle.verdict.specs.Worths.{Tells}
use Rattle.sums.proofs.Rounds.{memory_same, memory_same_on}
use Rattle.verdict.specs.Trying.{NotLarge, FirstGood}
use Rattle.verdict.proofs.Smaller.{laid_small}
use Rattle.verdict.proofs.Rounds.{tried_none, tried_all, tried_unlawful, tried_more, tried_refused, first_kept, first_found, first_answered, lost_there, wins_there}
use Rattle.verdict.proofs.tries.try_places.Goals as goal
use Rattle.verdict.proofs.tries.try_places.Goals.{then-is_some-via-then-is_some, then-is_some-via-else-is_some+then-not-has_lost}

pub loop-place-init : goal.loop-place-init
loop-place-init c =
    let m = c.args.memory.now in (
      tried_none (side_of c.args.side) (grid_of c.args.board.now) m.sums.table.forms.now,
      memory_same m,
    )

pub loop-place-preserved-in_default : goal.loop-place-preserved-in_default
loop-place-preserved-in_default c =
    (tried_unlawful (side_of c.args.side) (grid_of c.args.board.now) c.loop-place.place _ _ _ c.loop-place.invariant.0 c.in_default.ensures, c.loop-place.invariant.1)

pub found_worth-requires : goal.found_worth-requires
found_worth-requires c =
    subst NotLarge (sym c.in-Some.ensures.1) (laid_small (grid_of c.args.board.now) (side_of c.args.side) c.loop-place.place c.requires.0 c.requires.1)

pub returns-in_err-worth-clause-answer : goal.returns-in_err-worth-clause-answer
returns-in_err-worth-clause-answer c =
    let p = err_from_is_err_and c.from_residual.result c.from_residual.ensures.1 in
    rw (p.1, p.2)
    (tried_refused (side_of c.args.side) (grid_of c.args.board.now) c.loop-place.place c.args.memory.now.sums c.loop-place.memory.sums c.found_worth.new.memory.sums _ c.loop-place.invariant.0
    (grid_of c.in-Some.next) c.in-Some.ensures.1 _ c.in-Some.ensures.0 c.in_err-worth.ensures.answer)

pub loop-place-preserved-then-is_some : goal.loop-place-preserved-then-is_some
loop-place-preserved-then-is_some c =
    let s = side_of c.args.side in
    let b = grid_of c.args.board.now in
    let k = c.loop-place.place in
    let next = grid_of c.in-Some.next in
    let is = c.in-Some.ensures.1 in
    let first = c.loop-place.invariant.0.first in
    let worth = c.in_ok-worth.ensures.answer in
    let kept : FirstGood s b (k + 1) c.loop-place.first =
    elim c.then-is_some.branch [
      | then-is_some-via-then-is_some w ↦ first_kept s b k c.loop-place.first w.if-is_some.ensures first
      | then-is_some-via-else-is_some+then-not-has_lost w ↦
          first_answered s b k c.loop-place.first w.if-is_some.ensures first
          (wins_there s b k (side_of w.other.result) next w.other.ensures is (w.if-not-has_lost.ensures next (of_read (λ fs os. Tells next (meaning fs os c.in_ok-worth.worth.sum)) (sym w.in_use.ensures.forms) (sym w.in_use.ensures.options) worth.1.tells)))
    ] in (
      tried_more s b k _ _ _ c.loop-place.invariant.0 next is _ _ _ worth.0 c.in_ok-worth.worth.sum (vec_items c.in_ok-worth.worth.owns) _ worth.1 c.loop-place.first kept,
      memory_same_on c.loop-place.invariant.1 c.in_ok-worth.ensures.same,
    )

pub has_lost-requires : goal.has_lost-requires
has_lost-requires c =
    let t = c.found_worth.new.memory.sums.table in
    let worth = c.in_ok-worth.ensures.answer.1 in
    let long = ap length c.in_use.ensures.forms ∙ use_length t.forms.now t.options.now t.used worth.table in
    let k = worth.known in
    omega arith

pub loop-place-preserved : goal.loop-place-preserved
loop-place-preserved c =
    let s = side_of c.args.side in
    let b = grid_of c.args.board.now in
    let k = c.loop-place.place in
    let next = grid_of c.in-Some.next in
    let is = c.in-Some.ensures.1 in
    let worth = c.in_ok-worth.ensures.answer in
    let lost =
    lost_there s b k (side_of c.other.result) next c.other.ensures is
    (c.if-not-has_lost.ensures next (of_read (λ fs os. Tells next (meaning fs os c.in_ok-worth.worth.sum)) (sym c.in_use.ensures.forms) (sym c.in_use.ensures.options) worth.1.tells)) in (
      tried_more s b k _ _ _ c.loop-place.invariant.0 next is _ _ _ worth.0 c.in_ok-worth.worth.sum (vec_items c.in_ok-worth.worth.owns) _ worth.1 (Some k)
          (first_found s b k c.loop-place.first c.if-is_some.ensures c.loop-place.invariant.0.first c.in-Some.ensures.0 lost),
      memory_same_on c.loop-place.invariant.1 c.in_ok-worth.ensures.same,
    )

pub returns-clause-answer : goal.returns-clause-answer
returns-clause-answer c =
    let b = grid_of c.args.board.now in
    tried_all (side_of c.args.side) b c.loop-place.place (length b.cells) (let n = c.size-place-end.ensures.value in omega arith) _ _ _ c.loop-place.invariant.0

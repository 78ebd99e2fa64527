use Rattle.std.proofs.Common.{◌≡◌, None, ltb, length, sym, subst, ap, arith, rules}
use Rattle.std.specs.List.{ContainsAt as Has}
use Rattle.std.proofs.ByRecursion.{has_get_or}
use Rattle.std.proofs.lemmas.Bool.{ltb-false}
use Rattle.board.specs.Values.{grid_of}
use Rattle.board.proofs.Edges.{board_wide}
use Rattle.rooms.specs.Few.{items_of}
use Rattle.rooms.specs.Growth.{Visit, Visited, all_ways}
use Rattle.rooms.specs.Values.{squares_of, Walked}
use Rattle.rooms.proofs.Growing.{grown_start, free_small}
use Rattle.rooms.proofs.Holding.{items_few}
use Rattle.rooms.proofs.Walking.{square_at, walking_more, walk_ended}
use Rattle.rooms.proofs.find.walk.Goals as goal

pub bounds-seen-first : goal.bounds-seen-first
bounds-seen-first c = free_small c.args.board.now c.args.first c.requires.start

pub returns-in_err-visit : goal.returns-in_err-visit
unfolding Walked Visit
returns-in_err-visit c =
    let b = grid_of c.args.board.now in
    let qs = items_of c.loop-q.squares in
    let small = free_small c.args.board.now c.args.first c.requires.start in
    let found = c.in-Some.ensures.lookup in
    let here = square_at c.as_slice.result.now qs c.loop-q.at c.in-Some.q.now c.as_slice.ensures found.3.0 found.1 in
    let none : c.from_residual-in_err-visit.result ≡ None = search rules in
    subst (Walked b c.args.first c.args.seen.now c.visit.new.seen) (sym none)
    (c.in_err-visit.ensures c.args.first c.args.seen.now
    (c.loop-q.invariant.grown c.args.seen.now (grown_start b c.args.first c.args.seen.now c.requires.start c.requires.fresh (omega (arith, c.told-seen))))
    (subst (Has qs) (sym here.1) (has_get_or qs c.loop-q.at 0 here.0)))

pub loop-q-smaller : goal.loop-q-smaller
loop-q-smaller c =
    let few = items_few c.loop-q.squares in
    let long = ap length c.as_slice.ensures in
    let less = c.in-Some.ensures.lookup.3.0 in
    omega arith

pub loop-q-preserved : goal.loop-q-preserved
unfolding Visit
loop-q-preserved c =
    let b = grid_of c.args.board.now in
    let qs = items_of c.loop-q.squares in
    let found = c.in-Some.ensures.lookup in
    let here = square_at c.as_slice.result.now qs c.loop-q.at c.in-Some.q.now c.as_slice.ensures found.3.0 found.1 in
    walking_more b (board_wide c.args.board.now) c.args.first _ c.loop-q.seen c.visit.new.seen qs (items_of c.visit.new.squares) c.loop-q.at c.loop-q.invariant here.0
    (subst (λ q. Visited b q all_ways c.loop-q.seen c.visit.new.seen qs (items_of c.visit.new.squares)) here.1 c.in_ok-visit.ensures) c.visit.array_long

pub returns : goal.returns
unfolding Walked squares_of
returns c =
    let b = grid_of c.args.board.now in
    let small = free_small c.args.board.now c.args.first c.requires.start in
    let long = ap length c.as_slice.ensures in
    let done = ltb-false c.loop-q.at (length c.as_slice.result.now) (sym {b = ltb c.loop-q.at (length c.as_slice.result.now)} c.in_default.ensures.lookup.0) in
    walk_ended b (board_wide c.args.board.now) c.args.first c.args.seen.now c.loop-q.seen (items_of c.loop-q.squares) c.loop-q.at (items_of c.sort.new.self)
    c.loop-q.invariant (omega arith)
    (grown_start b c.args.first c.args.seen.now c.requires.start c.requires.fresh (omega (arith, c.told-seen))) c.sort.ensures.same c.sort.ensures.rising

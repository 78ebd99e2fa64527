use Rattle.std.proofs.Common.{◌≡◌, ◌+◌, get_or, take, set, true, None, sym, ◌∙◌, subst, arith, rules}
use Rattle.std.proofs.lemmas.List.{length-set, take_all}
use Rattle.board.specs.Values.{grid_of}
use Rattle.board.specs.declared.ways.Way.TheVariants.{Up}
use Rattle.board.proofs.Edges.{board_wide}
use Rattle.rooms.specs.Few.{items_of}
use Rattle.rooms.specs.Growth.{Visit, Visited, all_ways}
use Rattle.rooms.proofs.Growing.{visited_none, visited_seen, visited_new, visited_full, neighbour_below}
use Rattle.rooms.proofs.find.visit.Goals as goal

pub bounds-seen-q : goal.bounds-seen-q
bounds-seen-q c = neighbour_below c.args.board.now c.args.from (get_or all_ways c.loop-way.way-index Up) c.in-Some.q c.in-Some.ensures

pub loop-way-preserved-in_default : goal.loop-way-preserved-in_default
loop-way-preserved-in_default c =
    let inv = c.loop-way.invariant in
    let b = grid_of c.args.board.now in
    (inv.0, visited_none b (board_wide c.args.board.now) c.args.from c.loop-way.way-index Up c.loop-way-test.true _ _ _ _ inv.1 c.in_default.ensures)

pub loop-way-preserved-then-seen-q : goal.loop-way-preserved-then-seen-q
loop-way-preserved-then-seen-q c =
    let inv = c.loop-way.invariant in
    let b = grid_of c.args.board.now in (
      inv.0,
      visited_seen b (board_wide c.args.board.now) c.args.from c.loop-way.way-index Up c.loop-way-test.true _ _ _ _ inv.1 c.in-Some.q c.in-Some.ensures
          c.if-seen-q.true,
    )

pub returns-in_err-push : goal.returns-in_err-push
unfolding Visit
returns-in_err-push c =
    let b = grid_of c.args.board.now in
    let none : c.from_residual.result ≡ None = search rules in
    subst (Visit b c.args.from c.args.seen.now c.loop-way.seen (items_of c.args.squares.now) (items_of c.push.new.self)) (sym none)
    (visited_full b (board_wide c.args.board.now) c.args.from c.loop-way.way-index Up c.loop-way-test.true _ _ _ _ c.loop-way.invariant.1 c.in-Some.q
    c.in-Some.ensures c.if-seen-q.false c.in_err-push.ensures.0)

pub bounds-seen-q-in-loop-way : goal.bounds-seen-q-in-loop-way
bounds-seen-q-in-loop-way c = neighbour_below c.args.board.now c.args.from (get_or all_ways c.loop-way.way-index Up) c.in-Some.q c.in-Some.ensures

pub loop-way-preserved : goal.loop-way-preserved
loop-way-preserved c =
    let inv = c.loop-way.invariant in
    let b = grid_of c.args.board.now in
    let below = neighbour_below c.args.board.now c.args.from (get_or all_ways c.loop-way.way-index Up) c.in-Some.q c.in-Some.ensures in (
      length-set c.loop-way.seen _ _ ∙ inv.0,
      subst (Visited b c.args.from (take (c.loop-way.way-index + 1) all_ways) c.args.seen.now (set c.loop-way.seen c.in-Some.q true) (items_of c.args.squares.now))
          (sym c.in_ok-push.ensures)
          (visited_new b (board_wide c.args.board.now) c.args.from c.loop-way.way-index Up c.loop-way-test.true _ _ _ _ inv.1 c.in-Some.q c.in-Some.ensures
          c.if-seen-q.false (omega arith)),
    )

pub returns : goal.returns
unfolding Visit
returns c =
    subst (λ ws. Visited (grid_of c.args.board.now) c.args.from ws c.args.seen.now c.loop-way.seen (items_of c.args.squares.now) (items_of c.loop-way.squares))
    (take_all c.loop-way.way-index all_ways c.loop-way-test.false) c.loop-way.invariant.1

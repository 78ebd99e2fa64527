use Rattle.std.proofs.Common.{◌≡◌, ◌+◌, Some, [], ◌∷◌, ◌++◌, map, length, replicate, false, sym, rules, refl, ap, subst, arith}
use Rattle.std.proofs.lemmas.Bool.{both_ways, some_since}
use Rattle.std.proofs.lemmas.Result.{err_from_is_err_and}
use Rattle.board.specs.Grid.{free}
use Rattle.board.specs.Values.{grid_of}
use Rattle.board.proofs.Edges.{board_wide}
use Rattle.rooms.specs.Few.{items_of}
use Rattle.rooms.specs.Values.{squares_of, rooms_of, Walked, Found}
use Rattle.rooms.proofs.Finding.{Sofar, sofar_start, sofar_skip, sofar_single, sofar_done, found_larger, room_added}
use Rattle.rooms.proofs.Holding.{pushed}
use Rattle.rooms.proofs.find.all_rooms.Goals as goal
use Rattle.rooms.proofs.find.all_rooms.Goals.{In_ok-room}

pub loop-p-init : goal.loop-p-init
loop-p-init c =
    let b = grid_of c.args.board.now in
    (refl, subst (λ rooms. Sofar b 0 (replicate 256 false) (map squares_of rooms)) (sym c.new-rooms.ensures) (sofar_start b 256))

pub loop-p-preserved-then-not-is_free : goal.loop-p-preserved-then-not-is_free
loop-p-preserved-then-not-is_free c =
    let b = grid_of c.args.board.now in
    let inv = c.loop-p.invariant in
    (inv.0, sofar_skip b c.loop-p.p c.loop-p.seen _ inv.1 (λ f. absurd (both_ways (free b c.loop-p.p) (sym c.if-not-is_free.ensures) f)))

pub loop-p-preserved-then-seen-p : goal.loop-p-preserved-then-seen-p
loop-p-preserved-then-seen-p c =
    let inv = c.loop-p.invariant in
    (inv.0, sofar_skip (grid_of c.args.board.now) c.loop-p.p c.loop-p.seen _ inv.1 (λ f. c.if-seen-p.true))

pub returns-in_err-room : goal.returns-in_err-room
unfolding Found Walked
returns-in_err-room c =
    let larger = subst (Walked (grid_of c.args.board.now) c.loop-p.p c.loop-p.seen c.walk.new.seen) c.in_err-room.ensures.ok_part c.walk.ensures in
    let p = err_from_is_err_and c.from_residual.result c.from_residual.ensures.1 in
    rw (p.1, p.2) (
      c.loop-p.p,
      search rules,
      found_larger (grid_of c.args.board.now) c.loop-p.p c.loop-p.seen _ c.loop-p.invariant.1 (sym c.if-not-is_free.ensures) c.if-seen-p.false larger,
    )

-- the room that a walk found
walked : (c : In_ok-room) → Walked (grid_of c.args.board.now) c.loop-p.p c.loop-p.seen c.walk.new.seen (Some c.in_ok-room.room)
walked c = subst (Walked (grid_of c.args.board.now) c.loop-p.p c.loop-p.seen c.walk.new.seen) c.in_ok-room.ensures.ok_part c.walk.ensures

pub loop-p-preserved-then-squares-lt-FEWEST : goal.loop-p-preserved-then-squares-lt-FEWEST
unfolding Walked
loop-p-preserved-then-squares-lt-FEWEST c = (
  c.walk.array_long,
  sofar_single (grid_of c.args.board.now) c.loop-p.p c.loop-p.seen _ c.loop-p.invariant.1 (sym c.if-not-is_free.ensures) c.if-seen-p.false c.walk.new.seen
      (squares_of c.in_ok-room.room) (walked (goal.at.loop-p-preserved-then-squares-lt-FEWEST c).In_ok-room) (omega (arith, c.if-squares-lt-FEWEST.true, ap length c.squares.ensures)),
)

pub unwrap-requires : goal.unwrap-requires
unfolding Walked
unwrap-requires c =
    let added =
    room_added (grid_of c.args.board.now) c.loop-p.p c.loop-p.seen (items_of c.loop-p.rooms) c.loop-p.invariant.1 (sym c.if-not-is_free.ensures)
    c.if-seen-p.false c.walk.new.seen c.in_ok-room.room (walked (goal.at.unwrap-requires c).In_ok-room) (omega (arith, c.if-squares-lt-FEWEST.false, ap length c.squares.ensures))
    c.walk.array_long in
    some_since c.push.result _ _ c.push.ensures (λ full. omega (arith, full.0, added.1))

pub loop-p-preserved : goal.loop-p-preserved
unfolding Walked
loop-p-preserved c =
    let added =
    room_added (grid_of c.args.board.now) c.loop-p.p c.loop-p.seen (items_of c.loop-p.rooms) c.loop-p.invariant.1 (sym c.if-not-is_free.ensures)
    c.if-seen-p.false c.walk.new.seen c.in_ok-room.room (walked (goal.at.loop-p-preserved c).In_ok-room) (omega (arith, c.if-squares-lt-FEWEST.false, ap length c.squares.ensures))
    c.walk.array_long in
    let more : items_of c.push.new.self ≡ items_of c.loop-p.rooms ++ c.in_ok-room.room ∷ [] = pushed c.push.result c.push.ensures (λ full. omega (arith, full.0, added.1)) in
    (c.walk.array_long, subst (λ rooms. Sofar (grid_of c.args.board.now) (c.loop-p.p + 1) c.walk.new.seen (map squares_of rooms)) (sym more) added.0)

pub returns : goal.returns
unfolding Found rooms_of
returns c =
    sofar_done (grid_of c.args.board.now) c.loop-p.p c.loop-p.seen (map squares_of (items_of c.loop-p.rooms)) (board_wide c.args.board.now)
    c.loop-p.invariant.1 (omega arith)

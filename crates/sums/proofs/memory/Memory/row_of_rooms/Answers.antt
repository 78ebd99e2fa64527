use Rattle.std.proofs.Common.{◌≡◌, [], map, length, vec_items, sym, ap, ◌∙◌, subst, arith}
use Rattle.std.proofs.lemmas.List.{take_all, length-map}
use Rattle.std.proofs.lemmas.Result.{err_from_is_err_and}
use Rattle.std.proofs.ByRecursion.{All-get_or}
use Rattle.board.specs.Values.{grid_of}
use Rattle.rooms.specs.Values.{rooms_of, squares_of, SmallRooms}
use Rattle.rooms.specs.Rooms.{Room}
use Rattle.sums.specs.Counting.{InRow}
use Rattle.sums.proofs.Lining.{row_none}
use Rattle.sums.proofs.Counted.{row_formed}
use Rattle.sums.proofs.Rounds.{memory_same, memory_same_on, at_room, round_more, round_stopped}
use Rattle.sums.proofs.Gathering.{right_of}
use Rattle.sums.proofs.memory.Memory.row_of_rooms.Goals as goal

pub loop-room-init : goal.loop-room-init
loop-room-init c =
    let right = right_of c.self-inside.invariant (λ i. (c.self-inside.view_is i).0.0.table) c.self.invariant (λ i. (c.self.view_is i).sums) in
    let b = c.args.split.now.board in
    let s = c.args.self.now.sums.table in (
      (
        subst (λ owns. InRow b [] s.forms.now s.options.now s.used s.forms.now s.options.now 0 owns s.used) (sym c.new-owns.ensures.items) (row_none b s.forms.now s.options.now s.used right.table),
        right.pairs,
      ),
      memory_same c.args.self.now,
    )

pub new-moves-requires : goal.new-moves-requires
new-moves-requires c =
    let b = grid_of c.split.inside.board.now in
    let rs = rooms_of c.split.inside.rooms in
    let at = at_room c.as_slice-held.result.now rs c.as_slice-held.ensures c.loop-room.room-index c.room-item.result c.loop-room-test.true c.room-item.is in
    record { room = subst (Room b) at.1 (All-get_or (Room b) rs c.loop-room.room-index [] at.0 c.split.invariant.rooms.each) }

pub join-requires : goal.join-requires
join-requires c = c.loop-room.invariant.0.0.known

pub returns-in_err-joined-clause-answer : goal.returns-in_err-joined-clause-answer
returns-in_err-joined-clause-answer c =
    let b = c.args.split.now.board in
    let s = c.args.self.now.sums.table in
    let t = c.loop-room.self.sums.table in
    let at = at_room c.as_slice-held.result.now c.args.split.now.rooms (c.as_slice-held.ensures ∙ (λ i. (c.split.view_is i).rooms)) c.loop-room.room-index c.room-item.result c.loop-room-test.true c.room-item.is in
    let p = err_from_is_err_and c.from_residual.result c.from_residual.ensures.1 in
    rw (p.1, p.2)
    (round_stopped b c.args.split.now.rooms c.loop-room.room-index at.0 s.forms.now s.options.now s.used t.forms.now t.options.now c.loop-room.sum (vec_items c.loop-room.owns) t.used
    c.loop-room.invariant.0.0 (grid_of c.new-moves.result.board) (squares_of c.new-moves.result.room) (ap grid_of c.new-moves.ensures.board ∙ (λ i. (c.split.view_is i).board)) (at.1 ∙ ap squares_of (sym c.new-moves.ensures.room))
    c.join.new.self.sums.table.forms.now c.join.new.self.sums.table.options.now c.join.new.self.sums.table.used c.join.new.self.sums.pairs.now _ c.in_err-joined.ensures.answer)

pub loop-room-preserved : goal.loop-room-preserved
loop-room-preserved c =
    let b = c.args.split.now.board in
    let s = c.args.self.now.sums.table in
    let t = c.loop-room.self.sums.table in
    let at = at_room c.as_slice-held.result.now c.args.split.now.rooms (c.as_slice-held.ensures ∙ (λ i. (c.split.view_is i).rooms)) c.loop-room.room-index c.room-item.result c.loop-room-test.true c.room-item.is in
    let j = c.in_ok-joined.ensures.answer in (
      (
        round_more b c.args.split.now.rooms c.loop-room.room-index at.0 s.forms.now s.options.now s.used t.forms.now t.options.now c.loop-room.sum (vec_items c.loop-room.owns) t.used
            c.loop-room.invariant.0.0 (grid_of c.new-moves.result.board) (squares_of c.new-moves.result.room) (ap grid_of c.new-moves.ensures.board ∙ (λ i. (c.split.view_is i).board)) (at.1 ∙ ap squares_of (sym c.new-moves.ensures.room))
            _ _ c.in_ok-joined.joined.own c.in_ok-joined.joined.sum _ (vec_items c.push.new.self) c.in_ok-push.ensures.items j.0,
        j.1,
      ),
      memory_same_on c.loop-room.invariant.1 c.in_ok-joined.ensures.same,
    )

pub returns-clause-answer : goal.returns-clause-answer
returns-clause-answer c =
    let b = c.args.split.now.board in
    let s = c.args.self.now.sums.table in
    let t = c.loop-room.self.sums.table in
    let long : length (map squares_of c.as_slice-held.result.now) ≡ length c.args.split.now.rooms = ap length (c.as_slice-held.ensures ∙ (λ i. (c.split.view_is i).rooms)) in
    let same = length-map c.as_slice-held.result.now squares_of in (
      row_formed b c.args.split.now.rooms (subst (λ v. SmallRooms v.board v.rooms) c.split.view_is c.split.invariant) s.forms.now s.options.now s.used t.forms.now t.options.now c.loop-room.sum (vec_items c.loop-room.owns) t.used
          (subst (λ l. InRow b l s.forms.now s.options.now s.used t.forms.now t.options.now c.loop-room.sum (vec_items c.loop-room.owns) t.used)
          (take_all c.loop-room.room-index c.args.split.now.rooms (omega arith)) c.loop-room.invariant.0.0),
      c.loop-room.invariant.0.1,
    )

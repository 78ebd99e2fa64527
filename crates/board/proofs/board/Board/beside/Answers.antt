use Rattle.std.proofs.Common.{inl, inr, arith}
use Rattle.board.specs.Values.{grid_of}
use Rattle.board.proofs.Edges.{step_up, step_left, step_right, step_down, no_up, no_left, no_right, no_down}
use Rattle.board.proofs.board.Board.beside.Goals as goal
use Rattle.board.proofs.board.Board.beside.Goals.{then-square-eq0-via-then-square-eq0, then-square-eq0-via-else-square-eq0+then-square-width-2, then-square-size-via-then-square-size, then-square-size-via-else-square-size+then-square-width-3}

pub returns-then-square-width : goal.returns-then-square-width
unfolding grid_of
returns-then-square-width c = no_up (grid_of c.args.self.now) c.args.square c.args.way c.in-Up.is c.if-square-width.true

pub returns-then-square-eq0 : goal.returns-then-square-eq0
unfolding grid_of
returns-then-square-eq0 c = no_left (grid_of c.args.self.now) c.args.square c.args.way c.in-Left.is
    (elim c.then-square-eq0.branch [
      | then-square-eq0-via-then-square-eq0 w ↦ inl w.if-square-eq0.true
      | then-square-eq0-via-else-square-eq0+then-square-width-2 w ↦ inr w.if-square-width-2.true
    ])

pub returns-then-square-size : goal.returns-then-square-size
unfolding grid_of
returns-then-square-size c = no_right (grid_of c.args.self.now) c.args.square c.args.way c.in-Right.is
    (elim c.then-square-size.branch [
      | then-square-size-via-then-square-size w ↦ inl (omega (arith, w.if-square-size.true, c.size.ensures.value))
      | then-square-size-via-else-square-size+then-square-width-3 w ↦ inr w.if-square-width-3.true
    ])

pub returns-then-square-size-2 : goal.returns-then-square-size-2
returns-then-square-size-2 c = no_down (grid_of c.args.self.now) c.args.square c.args.way c.in-Down.is (omega arith)

pub returns-else-square-width : goal.returns-else-square-width
unfolding grid_of
returns-else-square-width c = step_up (grid_of c.args.self.now) c.args.square c.args.way c.in-Up.is (omega arith)

pub returns-else-square-width-2 : goal.returns-else-square-width-2
unfolding grid_of
returns-else-square-width-2 c = step_left (grid_of c.args.self.now) c.args.square c.args.way c.in-Left.is (omega arith) (omega arith)

pub returns-else-square-width-3 : goal.returns-else-square-width-3
unfolding grid_of
returns-else-square-width-3 c = step_right (grid_of c.args.self.now) c.args.square c.args.way c.in-Right.is (omega arith)

pub returns-else-square-size-2 : goal.returns-else-square-size-2
unfolding grid_of
returns-else-square-size-2 c = step_down (grid_of c.args.self.now) c.args.square c.args.way c.in-Down.is

use Rattle.std.proofs.Common.{◌*◌, false, sym, refl, ap, ◌∙◌, arith, rules}
use Rattle.std.proofs.lemmas.List.{set_past}
use Rattle.board.specs.Values.{grid_of}
use Rattle.board.proofs.Cells.{taken_step, taken_all}
use Rattle.board.proofs.board.Board.without.Goals as goal
use Rattle.board.proofs.board.Board.without.Goals.{then-at-lt256, else-at-lt256}

pub loop-q-init : goal.loop-q-init
unfolding grid_of
loop-q-init c = (search rules, refl)

pub loop-q-preserved : goal.loop-q-preserved
loop-q-preserved c =
    let inv = c.loop-q.invariant in
    let step = taken_step (c.args.self.now.width * c.args.self.now.height) c.loop-q.free c.if-at-lt256.free c.args.squares.now c.loop-q.q-index c.loop-q-test.true inv in
    elim c.if-at-lt256.branch [
      | then-at-lt256 w ↦ step w.free-is
      | else-at-lt256 w ↦ step (w.free-is ∙ sym (set_past _ _ false (omega (arith, w.if-at-lt256.false))))
    ]

pub returns : goal.returns
unfolding grid_of
returns c =
    ap (λ l. record { width = c.args.self.now.width; cells = l }) (sym (taken_all _ c.args.squares.now c.loop-q.q-index c.loop-q-test.false) ∙ c.loop-q.invariant.1)

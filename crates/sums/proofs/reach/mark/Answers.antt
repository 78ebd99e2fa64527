use Rattle.std.proofs.Common.{◌<◌, length, arith}
use Rattle.std.proofs.ByRecursion.{All-get_or}
use Rattle.sums.proofs.Marking.{marks_more, marks_all}
use Rattle.sums.proofs.reach.mark.Goals as goal

pub bounds-marks-x : goal.bounds-marks-x
bounds-marks-x c =
    let long = c.loop-x.invariant.long in
    let low = All-get_or (λ x. x < length c.args.marks.now) c.args.row.now c.loop-x.x-index 0 c.loop-x-test.true c.requires in
    omega arith

pub loop-x-preserved : goal.loop-x-preserved
loop-x-preserved c =
    let long = c.loop-x.invariant.long in
    let low = All-get_or (λ x. x < length c.args.marks.now) c.args.row.now c.loop-x.x-index 0 c.loop-x-test.true c.requires in
    marks_more c.args.marks.now c.args.row.now c.loop-x.x-index c.loop-x.marks c.loop-x-test.true (omega arith) c.loop-x.invariant

pub returns : goal.returns
returns c = marks_all c.args.marks.now c.args.row.now c.loop-x.x-index c.loop-x.marks (omega arith) c.loop-x.invariant

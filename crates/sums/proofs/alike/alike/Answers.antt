use Rattle.std.proofs.Common.{rules}
use Rattle.sums.proofs.Standing.{first_same, alike_in_play}
use Rattle.sums.proofs.alike.alike.Goals as goal

pub returns-in_err-own-clause-play : goal.returns-in_err-own-clause-play
returns-in_err-own-clause-play c = alike_in_play c.args.owns.now c.args.i _ (search rules)

pub returns : goal.returns
returns c =
    let first = first_same c.args.owns.now c.args.i c.in_ok-own.own.now c.first_place.result (search rules) (search rules) c.first_place.ensures in
    record { first = first; play = alike_in_play c.args.owns.now c.args.i _ first }

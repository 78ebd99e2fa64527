use Rattle.std.proofs.Common.{subst, arith}
use Rattle.board.specs.Values.{side_of}
use Rattle.forms.specs.Values.{IsSound, game_of}
use Rattle.verdict.proofs.Losing.{by_first}
use Rattle.verdict.proofs.lost.has_lost.Goals as goal

pub returns : goal.returns
returns c =
    by_first c.args.forms.now.forms c.args.forms.now.options (subst IsSound c.forms.view_is c.forms.invariant) (omega (arith, c.requires)) (side_of c.args.side) (game_of c.args.forms.now c.args.form) c.worse.result c.worse.ensures

use Rattle.std.proofs.Common.{ℕ, ◌<◌, length, get_or, refl, arith}
use Rattle.std.proofs.ByRecursion.{All-more, All-get_or, all-has, has_get_or}
use Rattle.board.specs.Values.{side_of}
use Rattle.games.specs.Order.{NotWorse}
use Rattle.forms.specs.Meaning.{meaning}
use Rattle.forms.proofs.Compared.{walked}
use Rattle.canonical.proofs.thin.is_dominated.Goals as goal

pub worse-requires : goal.worse-requires
worse-requires c =
    record {
      first = c.requires.first;
      second = All-get_or (λ y. y < length c.args.forms.now.forms) c.args.row.now c.loop-y.y-index 0 c.loop-y-test.true c.requires.known;
    }

pub returns-then-worse : goal.returns-then-worse
returns-then-worse c = (get_or c.args.row.now c.loop-y.y-index 0, has_get_or c.args.row.now c.loop-y.y-index 0 c.loop-y-test.true, c.if-worse.ensures)

pub loop-y-preserved : goal.loop-y-preserved
loop-y-preserved c =
    All-more (λ y. NotWorse (side_of c.args.side) (meaning c.args.forms.now.forms c.args.forms.now.options c.args.x) (meaning c.args.forms.now.forms c.args.forms.now.options y))
    c.args.row.now c.loop-y.y-index 0 c.loop-y-test.true c.loop-y.invariant c.if-worse.ensures

pub returns : goal.returns
returns c y h =
    let fs = c.args.forms.now.forms in
    let os = c.args.forms.now.options in
    let P : ℕ → Type 0 = λ y. NotWorse (side_of c.args.side) (meaning fs os c.args.x) (meaning fs os y) in
    all-has P c.args.row.now y (walked P c.args.row.now c.args.row.now refl c.loop-y.y-index (omega arith) c.loop-y.invariant) h

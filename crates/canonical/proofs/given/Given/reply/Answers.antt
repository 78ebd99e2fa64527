use Rattle.std.proofs.Common.{◌≡◌, ◌<◌, length, get_or, subst, arith}
use Rattle.std.proofs.ByRecursion.{All-more}
use Rattle.board.specs.Values.{side_of}
use Rattle.games.specs.Game.{other}
use Rattle.games.specs.Order.{NotWorse}
use Rattle.forms.specs.Rows.{row_of}
use Rattle.forms.specs.Meaning.{meaning, given}
use Rattle.forms.proofs.Places.{option_below}
use Rattle.forms.proofs.Compared.{walked, option_at}
use Rattle.forms.proofs.Meanings.{of_row}
use Rattle.canonical.proofs.given.Given.reply.Goals as goal

pub within-requires : goal.within-requires
within-requires c =
    let low = option_below c.args.self.now.forms.forms c.args.self.now.forms.options (other (side_of c.args.side)) c.args.x c.row-replies.ensures.sound c.requires _ (subst (λ t. c.row-replies.result.now ≡ row_of c.args.self.now.forms.forms c.args.self.now.forms.options t c.args.x) c.other-them.ensures c.row-replies.ensures.row) c.loop-y.y-index c.loop-y-test.true in
    let known : get_or c.row-replies.result.now c.loop-y.y-index 0 < length c.args.self.now.forms.forms = omega arith in
    known

pub returns-then-within : goal.returns-then-within
returns-then-within c =
    let fs = c.args.self.now.forms.forms in
    let os = c.args.self.now.forms.options in
    let s = other (side_of c.args.side) in (
      option_below fs os s c.args.x c.row-replies.ensures.sound c.requires _ (subst (λ t. c.row-replies.result.now ≡ row_of c.args.self.now.forms.forms c.args.self.now.forms.options t c.args.x) c.other-them.ensures c.row-replies.ensures.row) c.loop-y.y-index c.loop-y-test.true,
      option_at fs os c.row-replies.ensures.sound s c.args.x c.requires _ (subst (λ t. c.row-replies.result.now ≡ row_of c.args.self.now.forms.forms c.args.self.now.forms.options t c.args.x) c.other-them.ensures c.row-replies.ensures.row) c.loop-y.y-index c.loop-y-test.true,
      c.if-within.ensures,
    )

pub loop-y-preserved : goal.loop-y-preserved
loop-y-preserved c =
    let g = given c.args.self.now.forms.forms c.args.self.now.forms.options c.args.self.now.rows.upright.now c.args.self.now.rows.flat.now in
    All-more (λ y. NotWorse (side_of c.args.side) (meaning c.args.self.now.forms.forms c.args.self.now.forms.options y) g) c.row-replies.result.now c.loop-y.y-index 0 c.loop-y-test.true c.loop-y.invariant c.if-within.ensures

pub returns : goal.returns
returns c =
    let fs = c.args.self.now.forms.forms in
    let os = c.args.self.now.forms.options in
    let s = (side_of c.args.side) in
    let g = given fs os c.args.self.now.rows.upright.now c.args.self.now.rows.flat.now in
    of_row fs os c.row-replies.ensures.sound (λ y. NotWorse s y g) (other s) c.args.x c.requires
    (walked (λ y. NotWorse s (meaning fs os y) g) _ _ (subst (λ t. c.row-replies.result.now ≡ row_of c.args.self.now.forms.forms c.args.self.now.forms.options t c.args.x) c.other-them.ensures c.row-replies.ensures.row) c.loop-y.y-index (omega arith) c.loop-y.invariant)

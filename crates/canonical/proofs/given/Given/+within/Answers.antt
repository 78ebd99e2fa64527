use Rattle.std.proofs.Common.{◌≡◌, ◌<◌, length, get_or, sym, subst, arith}
use Rattle.std.proofs.ByRecursion.{All-more}
use Rattle.board.specs.Values.{side_of}
use Rattle.games.specs.Game.{other}
use Rattle.games.specs.Order.{Worse, NotWorse}
use Rattle.forms.specs.Rows.{row_for}
use Rattle.forms.specs.Values.{game_of}
use Rattle.canonical.specs.Compares.{game_given}
use Rattle.games.proofs.Sides.{turn_not}
use Rattle.forms.specs.Meaning.{meaning, given}
use Rattle.forms.proofs.Places.{option_below}
use Rattle.forms.proofs.Compared.{walked}
use Rattle.canonical.proofs.Withins.{known_at, not_by_own, not_by_given, within_all}
use Rattle.canonical.proofs.given.Given.+within.Goals as goal

pub within-requires : goal.within-requires
within-requires t c =
    let low = option_below c.args.self.now.forms.forms c.args.self.now.forms.options (side_of c.args.side) c.args.k c.row-own.ensures.sound c.requires _ c.row-own.ensures.row c.loop-x.x-index c.loop-x-test.true in
    let known : get_or c.row-own.result.now c.loop-x.x-index 0 < length c.args.self.now.forms.forms = omega arith in
    (omega (arith, c.decreases), known)

pub returns-then-within : goal.returns-then-within
returns-then-within t c =
    not_by_own c.args.self.now.forms.forms c.args.self.now.forms.options c.row-own.ensures.sound c.args.self.now.rows.upright.now c.args.self.now.rows.flat.now (side_of c.args.side) c.args.k c.requires
    _ c.row-own.ensures.row c.loop-x.x-index c.loop-x-test.true (subst (λ t. Worse t (game_of c.args.self.now.forms (get_or c.row-own.result.now c.loop-x.x-index 0)) (game_given c.args.self.now)) c.other-them.ensures c.if-within.ensures)

pub loop-x-preserved : goal.loop-x-preserved
loop-x-preserved t c =
    let g = given c.args.self.now.forms.forms c.args.self.now.forms.options c.args.self.now.rows.upright.now c.args.self.now.rows.flat.now in
    let x = get_or c.row-own.result.now c.loop-x.x-index 0 in
    All-more (λ x. NotWorse (side_of c.args.side) g (meaning c.args.self.now.forms.forms c.args.self.now.forms.options x)) c.row-own.result.now c.loop-x.x-index 0 c.loop-x-test.true c.loop-x.invariant
    (turn_not (side_of c.args.side) (meaning c.args.self.now.forms.forms c.args.self.now.forms.options x) g
    (subst (λ t. NotWorse t (game_of c.args.self.now.forms x) (game_given c.args.self.now)) c.other-them.ensures c.if-within.ensures))

pub worse-requires : goal.worse-requires
worse-requires t c =
    record {
      first = subst (λ f. get_or c.of-replies.result.now c.loop-y.y-index 0 < length f.forms) (λ i. (sym c.self.view_is i).forms)
          (known_at c.args.self.now.forms.forms c.args.self.now.rows.upright.now c.args.self.now.rows.flat.now c.of-replies.ensures.known (other (side_of c.args.side)) _ (subst (λ t. c.of-replies.result.now ≡ row_for t c.args.self.now.rows.upright.now c.args.self.now.rows.flat.now) c.other-them.ensures c.of-replies.ensures.row) c.loop-y.y-index c.loop-y-test.true);
      second = subst (λ f. c.args.k < length f.forms) (λ i. (sym c.self.view_is i).forms) c.requires;
    }

pub returns-then-worse : goal.returns-then-worse
returns-then-worse t c =
    not_by_given c.args.self.now.forms.forms c.args.self.now.forms.options c.row-own.ensures.sound c.args.self.now.rows.upright.now c.args.self.now.rows.flat.now (side_of c.args.side) c.args.k c.requires
    _ (subst (λ t. c.of-replies.result.now ≡ row_for t c.args.self.now.rows.upright.now c.args.self.now.rows.flat.now) c.other-them.ensures c.of-replies.ensures.row) c.loop-y.y-index c.loop-y-test.true
    (subst (λ f. Worse (side_of c.args.side) (game_of f (get_or c.of-replies.result.now c.loop-y.y-index 0)) (game_of f c.args.k)) (λ i. (c.self.view_is i).forms) c.if-worse.ensures)

pub loop-y-preserved : goal.loop-y-preserved
loop-y-preserved t c =
    All-more (λ y. NotWorse (side_of c.args.side) (meaning c.args.self.now.forms.forms c.args.self.now.forms.options y) (meaning c.args.self.now.forms.forms c.args.self.now.forms.options c.args.k))
    c.of-replies.result.now c.loop-y.y-index 0 c.loop-y-test.true c.loop-y.invariant
    (subst (λ f. NotWorse (side_of c.args.side) (game_of f (get_or c.of-replies.result.now c.loop-y.y-index 0)) (game_of f c.args.k)) (λ i. (c.self.view_is i).forms) c.if-worse.ensures)

pub returns : goal.returns
returns t c =
    let fs = c.args.self.now.forms.forms in
    let os = c.args.self.now.forms.options in
    let s = (side_of c.args.side) in
    let g = given fs os c.args.self.now.rows.upright.now c.args.self.now.rows.flat.now in
    within_all fs os c.row-own.ensures.sound c.args.self.now.rows.upright.now c.args.self.now.rows.flat.now s c.args.k c.requires
    (walked (λ x. NotWorse s g (meaning fs os x)) _ _ c.row-own.ensures.row c.loop-x.x-index (omega arith) c.loop-x.invariant)
    (walked (λ y. NotWorse s (meaning fs os y) (meaning fs os c.args.k)) _ _ (subst (λ t. c.of-replies.result.now ≡ row_for t c.args.self.now.rows.upright.now c.args.self.now.rows.flat.now) c.other-them.ensures c.of-replies.ensures.row) c.loop-y.y-index (omega arith) c.loop-y.invariant)

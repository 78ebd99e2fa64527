use Rattle.std.proofs.Common.{◌<◌, true, false, length, get_or, arith}
use Rattle.std.proofs.ByRecursion.{All-more}
use Rattle.games.specs.Order.{NotLe}
use Rattle.forms.specs.Meaning.{meaning}
use Rattle.forms.proofs.Places.{option_below}
use Rattle.forms.proofs.Compared.{walked, not_by_upright, not_by_flat, by_all}
use Rattle.forms.proofs.rows.Forms.+at_most_not_at_most.Goals as goal

pub at_most-not_at_most-requires : goal.at_most-not_at_most-requires
at_most-not_at_most-requires t c =
    let low = option_below c.args.self.now.forms c.args.self.now.options true c.args.g c.row-uprights.ensures.sound c.requires.first _ c.row-uprights.ensures.row c.loop-x.x-index c.loop-x-test.true in
    let known : get_or c.row-uprights.result.now c.loop-x.x-index 0 < length c.args.self.now.forms = omega arith in
    (omega (arith, c.decreases), (c.requires.second, known))

pub at_most-not_at_most-requires-in-loop-y : goal.at_most-not_at_most-requires-in-loop-y
at_most-not_at_most-requires-in-loop-y t c =
    let low = option_below c.args.self.now.forms c.args.self.now.options false c.args.h c.row-uprights.ensures.sound c.requires.second _ c.row-flats.ensures.row c.loop-y.y-index c.loop-y-test.true in
    let known : get_or c.row-flats.result.now c.loop-y.y-index 0 < length c.args.self.now.forms = omega arith in
    (omega (arith, c.decreases), (known, c.requires.first))

pub at_most-returns-then-not-not_at_most : goal.at_most-returns-then-not-not_at_most
at_most-returns-then-not-not_at_most t c = not_by_upright c.args.self.now.forms c.args.self.now.options c.row-uprights.ensures.sound c.args.g c.args.h c.requires.first c.requires.second _ c.row-uprights.ensures.row c.loop-x.x-index c.loop-x-test.true c.if-not-not_at_most.ensures

pub at_most-returns-then-not-not_at_most-2 : goal.at_most-returns-then-not-not_at_most-2
at_most-returns-then-not-not_at_most-2 t c = not_by_flat c.args.self.now.forms c.args.self.now.options c.row-uprights.ensures.sound c.args.g c.args.h c.requires.first c.requires.second _ c.row-flats.ensures.row c.loop-y.y-index c.loop-y-test.true c.if-not-not_at_most-2.ensures

pub at_most-loop-x-preserved : goal.at_most-loop-x-preserved
at_most-loop-x-preserved t c =
    All-more (λ x. NotLe (meaning c.args.self.now.forms c.args.self.now.options c.args.h) (meaning c.args.self.now.forms c.args.self.now.options x)) c.row-uprights.result.now c.loop-x.x-index 0 c.loop-x-test.true c.loop-x.invariant c.if-not-not_at_most.ensures

pub at_most-loop-y-preserved : goal.at_most-loop-y-preserved
at_most-loop-y-preserved t c =
    All-more (λ y. NotLe (meaning c.args.self.now.forms c.args.self.now.options y) (meaning c.args.self.now.forms c.args.self.now.options c.args.g)) c.row-flats.result.now c.loop-y.y-index 0 c.loop-y-test.true c.loop-y.invariant c.if-not-not_at_most-2.ensures

pub at_most-returns : goal.at_most-returns
at_most-returns t c =
    by_all c.args.self.now.forms c.args.self.now.options c.row-uprights.ensures.sound c.args.g c.args.h c.requires.first c.requires.second
    (walked (λ x. NotLe (meaning c.args.self.now.forms c.args.self.now.options c.args.h) (meaning c.args.self.now.forms c.args.self.now.options x)) _ _ c.row-uprights.ensures.row c.loop-x.x-index (omega arith) c.loop-x.invariant)
    (walked (λ y. NotLe (meaning c.args.self.now.forms c.args.self.now.options y) (meaning c.args.self.now.forms c.args.self.now.options c.args.g)) _ _ c.row-flats.ensures.row c.loop-y.y-index (omega arith) c.loop-y.invariant)

pub not_at_most-at_most-requires : goal.not_at_most-at_most-requires
not_at_most-at_most-requires t c =
    let low = option_below c.args.self.now.forms c.args.self.now.options true c.args.g c.row-own.ensures.sound c.requires.first _ c.row-own.ensures.row c.loop-x.x-index c.loop-x-test.true in
    let known : get_or c.row-own.result.now c.loop-x.x-index 0 < length c.args.self.now.forms = omega arith in
    (omega (arith, c.decreases), (c.requires.second, known))

pub not_at_most-at_most-requires-in-loop-y : goal.not_at_most-at_most-requires-in-loop-y
not_at_most-at_most-requires-in-loop-y t c =
    let low = option_below c.args.self.now.forms c.args.self.now.options false c.args.h c.row-own.ensures.sound c.requires.second _ c.row-replies.ensures.row c.loop-y.y-index c.loop-y-test.true in
    let known : get_or c.row-replies.result.now c.loop-y.y-index 0 < length c.args.self.now.forms = omega arith in
    (omega (arith, c.decreases), (known, c.requires.first))

pub not_at_most-returns-then-at_most : goal.not_at_most-returns-then-at_most
not_at_most-returns-then-at_most t c = not_by_upright c.args.self.now.forms c.args.self.now.options c.row-own.ensures.sound c.args.g c.args.h c.requires.first c.requires.second _ c.row-own.ensures.row c.loop-x.x-index c.loop-x-test.true c.if-at_most.ensures

pub not_at_most-returns-then-at_most-2 : goal.not_at_most-returns-then-at_most-2
not_at_most-returns-then-at_most-2 t c = not_by_flat c.args.self.now.forms c.args.self.now.options c.row-own.ensures.sound c.args.g c.args.h c.requires.first c.requires.second _ c.row-replies.ensures.row c.loop-y.y-index c.loop-y-test.true c.if-at_most-2.ensures

pub not_at_most-loop-x-preserved : goal.not_at_most-loop-x-preserved
not_at_most-loop-x-preserved t c =
    All-more (λ x. NotLe (meaning c.args.self.now.forms c.args.self.now.options c.args.h) (meaning c.args.self.now.forms c.args.self.now.options x)) c.row-own.result.now c.loop-x.x-index 0 c.loop-x-test.true c.loop-x.invariant c.if-at_most.ensures

pub not_at_most-loop-y-preserved : goal.not_at_most-loop-y-preserved
not_at_most-loop-y-preserved t c =
    All-more (λ y. NotLe (meaning c.args.self.now.forms c.args.self.now.options y) (meaning c.args.self.now.forms c.args.self.now.options c.args.g)) c.row-replies.result.now c.loop-y.y-index 0 c.loop-y-test.true c.loop-y.invariant c.if-at_most-2.ensures

pub not_at_most-returns : goal.not_at_most-returns
not_at_most-returns t c =
    by_all c.args.self.now.forms c.args.self.now.options c.row-own.ensures.sound c.args.g c.args.h c.requires.first c.requires.second
    (walked (λ x. NotLe (meaning c.args.self.now.forms c.args.self.now.options c.args.h) (meaning c.args.self.now.forms c.args.self.now.options x)) _ _ c.row-own.ensures.row c.loop-x.x-index (omega arith) c.loop-x.invariant)
    (walked (λ y. NotLe (meaning c.args.self.now.forms c.args.self.now.options y) (meaning c.args.self.now.forms c.args.self.now.options c.args.g)) _ _ c.row-replies.ensures.row c.loop-y.y-index (omega arith) c.loop-y.invariant)

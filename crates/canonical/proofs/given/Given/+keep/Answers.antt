use Rattle.std.proofs.Common.{◌<◌, length, get_or, vec_items, arith}
use Rattle.std.proofs.lemmas.Result.{IfOk-weaker}
use Rattle.board.specs.Values.{side_of}
use Rattle.forms.specs.Rows.{row_of}
use Rattle.forms.specs.Meaning.{given}
use Rattle.forms.proofs.Places.{option_below}
use Rattle.forms.proofs.Compared.{option_at}
use Rattle.canonical.specs.Reducing.{Inserted, Passed}
use Rattle.canonical.proofs.Passing.{passing_none, passing_more, passing_end, kept_in, follows, bypassed}
use Rattle.canonical.proofs.given.Given.+keep.Goals as goal

pub returns-in_default : goal.returns-in_default
returns-in_default t c =
    let fs = c.args.self.now.forms.forms in
    let os = c.args.self.now.forms.options in
    let g = given fs os c.args.self.now.rows.upright.now c.args.self.now.rows.flat.now in
    let row = vec_items c.args.chosen.now in
    let new = vec_items c.insert.new.row in
    IfOk-weaker c.insert.result (λ _. Inserted row c.args.x new) (λ _. Passed fs os (side_of c.args.side) g row c.args.x new)
    (λ _ put. kept_in fs os (side_of c.args.side) g row c.args.x new c.requires.fit c.requires.known c.requires.allowed c.in_default.ensures put) c.insert.ensures

pub loop-z-init : goal.loop-z-init
loop-z-init t c =
    passing_none c.args.self.now.forms.forms c.args.self.now.forms.options (side_of c.args.side) (given c.args.self.now.forms.forms c.args.self.now.forms.options c.args.self.now.rows.upright.now c.args.self.now.rows.flat.now) (vec_items c.args.chosen.now) c.requires.fit

pub keep-requires : goal.keep-requires
keep-requires t c =
    let fs = c.args.self.now.forms.forms in
    let os = c.args.self.now.forms.options in
    let s = (side_of c.args.side) in
    let g = given fs os c.args.self.now.rows.upright.now c.args.self.now.rows.flat.now in
    let r = c.in-Some.ensures in
    let y = c.in-Some.y in
    let z = get_or c.row-after.result.now c.loop-z.z-index 0 in
    let less = r.0 in
    let known_y : y < length fs = omega (arith, c.requires.known) in
    let low = option_below fs os s y c.row-after.ensures.sound known_y _ c.row-after.ensures.row c.loop-z.z-index c.loop-z-test.true in
    let i = option_at fs os c.row-after.ensures.sound s y known_y _ c.row-after.ensures.row c.loop-z.z-index c.loop-z-test.true in
    let known : z < length fs = omega arith in
    let falls : z < c.args.x = omega arith in
    (omega (arith, c.decreases), (known, (follows fs os s g c.row-after.ensures.sound c.args.x y known_y r.1 r.2 z i, c.loop-z.invariant.fit)))

pub loop-z-preserved : goal.loop-z-preserved
loop-z-preserved t c =
    let fs = c.args.self.now.forms.forms in
    let os = c.args.self.now.forms.options in
    let g = given fs os c.args.self.now.rows.upright.now c.args.self.now.rows.flat.now in
    passing_more fs os (side_of c.args.side) g (vec_items c.args.chosen.now) (vec_items c.loop-z.chosen) (vec_items c.keep.new.chosen) c.row-after.result.now c.loop-z.z-index
    c.loop-z-test.true c.loop-z.invariant c.in_ok-keep.ensures

pub returns : goal.returns
returns t c =
    let fs = c.args.self.now.forms.forms in
    let os = c.args.self.now.forms.options in
    let s = (side_of c.args.side) in
    let g = given fs os c.args.self.now.rows.upright.now c.args.self.now.rows.flat.now in
    let r = c.in-Some.ensures in
    let less = r.0 in
    bypassed fs os s g c.row-after.ensures.sound c.args.x c.in-Some.y (omega (arith, c.requires.known)) r.1 r.2 (vec_items c.args.chosen.now) (vec_items c.loop-z.chosen)
    (passing_end fs os s g (vec_items c.args.chosen.now) (vec_items c.loop-z.chosen) c.row-after.result.now (row_of fs os s c.in-Some.y) c.row-after.ensures.row c.loop-z.z-index (omega arith) c.loop-z.invariant)

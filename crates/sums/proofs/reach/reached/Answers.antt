use Rattle.std.proofs.Common.{true, false, vec_items, refl, ◌∙◌, subst, arith}
use Rattle.std.proofs.lemmas.Result.{IfOk-weaker}
use Rattle.forms.specs.Values.{IsSound}
use Rattle.sums.specs.Reaching.{ListsMarked, Reaches}
use Rattle.sums.proofs.Marking.{marking_start, marking_skip, marking_more, options_low, reaches}
use Rattle.sums.proofs.reach.reached.Goals as goal

pub loop-k-init : goal.loop-k-init
loop-k-init c =
    let made = c.in_ok-held.ensures in
    let long = c.as_mut_slice-marks.ensures.len in
    let far = made.len in
    marking_start c.args.forms.now.forms c.args.forms.now.options c.args.t c.as_mut_slice-marks.result.now (c.as_mut_slice-marks.ensures.value ∙ made.items_if_clones_equal (λ y e. e)) (omega arith)

pub overflow_cast-k : goal.overflow_cast-k
overflow_cast-k c = let a = c.requires.few in let b = c.requires.known in let l = c.loop-k.invariant.low in omega arith

pub bounds-marks-k : goal.bounds-marks-k
bounds-marks-k c = let l = c.loop-k.invariant.low in let m = c.loop-k.invariant.long in omega arith

pub loop-k-preserved-then-not-marks-k : goal.loop-k-preserved-then-not-marks-k
loop-k-preserved-then-not-marks-k c = marking_skip c.args.forms.now.forms c.args.forms.now.options c.args.t c.loop-k.k c.loop-k.marks c.loop-k-test.true c.if-not-marks-k.true c.loop-k.invariant

pub mark-requires : goal.mark-requires
mark-requires c =
    options_low c.args.forms.now.forms c.args.forms.now.options c.args.t (subst IsSound c.forms.view_is c.forms.invariant) c.requires.known c.loop-k.k c.loop-k.marks c.loop-k-test.true c.loop-k.invariant true c.row.result.now _ c.row.ensures.row refl

pub mark-requires-in-loop-k : goal.mark-requires-in-loop-k
mark-requires-in-loop-k c =
    options_low c.args.forms.now.forms c.args.forms.now.options c.args.t (subst IsSound c.forms.view_is c.forms.invariant) c.requires.known c.loop-k.k c.loop-k.marks c.loop-k-test.true c.loop-k.invariant false c.row-in-loop-k.result.now _ c.row-in-loop-k.ensures.row c.mark.ensures.long

pub loop-k-preserved : goal.loop-k-preserved
loop-k-preserved c =
    marking_more c.args.forms.now.forms c.args.forms.now.options c.args.t (subst IsSound c.forms.view_is c.forms.invariant) c.requires.known c.loop-k.k c.loop-k.marks c.mark.new.marks c.mark-in-loop-k.new.marks c.row.result.now c.row-in-loop-k.result.now
    c.loop-k-test.true c.if-not-marks-k.false c.row.ensures.row c.row-in-loop-k.ensures.row c.mark.ensures c.mark-in-loop-k.ensures c.loop-k.invariant

pub returns : goal.returns
returns c =
    IfOk-weaker c.marked.result (λ v. ListsMarked c.loop-k.marks (vec_items v)) (λ v. Reaches c.args.forms.now.forms c.args.forms.now.options c.args.t (vec_items v))
    (λ v l. reaches c.args.forms.now.forms c.args.forms.now.options c.args.t (subst IsSound c.forms.view_is c.forms.invariant) c.requires.known c.loop-k.k c.loop-k.marks (vec_items v) (omega arith) c.loop-k.invariant l) c.marked.ensures

use Rattle.std.proofs.Common.{◌+◌, vec_items, sym, subst, arith}
use Rattle.sums.proofs.Marking.{Listing, listing_none, listing_skip, listing_more, listing_all}
use Rattle.sums.proofs.reach.marked.Goals as goal

pub loop-i-init : goal.loop-i-init
loop-i-init c = subst (Listing c.args.marks.now 0) (sym c.new-row.ensures.items) (listing_none c.args.marks.now)

pub loop-i-preserved-then-not-mark : goal.loop-i-preserved-then-not-mark
loop-i-preserved-then-not-mark c = listing_skip c.args.marks.now c.loop-i.i (vec_items c.loop-i.row) c.if-not-mark.true c.loop-i.invariant

pub loop-i-preserved : goal.loop-i-preserved
loop-i-preserved c =
    subst (Listing c.args.marks.now (c.loop-i.i + 1)) (sym c.in_ok-push.ensures.items)
    (listing_more c.args.marks.now c.loop-i.i (vec_items c.loop-i.row) c.if-not-mark.false c.loop-i.invariant)

pub returns : goal.returns
returns c = listing_all c.args.marks.now c.loop-i.i (vec_items c.loop-i.row) (omega arith) c.loop-i.invariant

use Rattle.std.proofs.Common.{ℕ, List, [], get_or, vec_items, sym, subst, arith}
use Rattle.std.specs.List.{ContainsAt as Has}
use Rattle.std.proofs.ByRecursion.{has_get_or}
use Rattle.board.specs.Values.{side_of}
use Rattle.games.proofs.Sides.{own}
use Rattle.forms.specs.Meaning.{meaning, given}
use Rattle.forms.proofs.Givens.{in_given}
use Rattle.canonical.proofs.Withins.{known_at}
use Rattle.canonical.proofs.Passing.{Passing, fit_none, passing_none, passing_more, passing_end, all_passed}
use Rattle.canonical.proofs.given.Given.bypass.Goals as goal

pub loop-x-init : goal.loop-x-init
loop-x-init c =
    let fs = c.args.self.now.forms.forms in
    let os = c.args.self.now.forms.options in
    let g = given fs os c.args.self.now.rows.upright.now c.args.self.now.rows.flat.now in
    let none : List ℕ = [] in
    subst (λ row. Passing fs os (side_of c.args.side) g none row none) (sym c.new-chosen.ensures.items) (passing_none fs os (side_of c.args.side) g none (fit_none fs os (side_of c.args.side) g))

pub keep-requires : goal.keep-requires
keep-requires c =
    let fs = c.args.self.now.forms.forms in
    let os = c.args.self.now.forms.options in
    let us = c.args.self.now.rows.upright.now in
    let ls = c.args.self.now.rows.flat.now in
    let s = (side_of c.args.side) in
    let xs = c.of-own.result.now in
    let x = get_or xs c.loop-x.x-index 0 in
    record {
      known = known_at fs us ls c.of-own.ensures.known s xs c.of-own.ensures.row c.loop-x.x-index c.loop-x-test.true;
      allowed = own s (given fs os us ls) (meaning fs os x) (in_given fs os us ls s x (subst (λ zs. Has zs x) c.of-own.ensures.row (has_get_or xs c.loop-x.x-index 0 c.loop-x-test.true)));
      fit = c.loop-x.invariant.fit;
    }

pub loop-x-preserved : goal.loop-x-preserved
loop-x-preserved c =
    let fs = c.args.self.now.forms.forms in
    let os = c.args.self.now.forms.options in
    passing_more fs os (side_of c.args.side) (given fs os c.args.self.now.rows.upright.now c.args.self.now.rows.flat.now) [] (vec_items c.loop-x.chosen) (vec_items c.keep.new.chosen) c.of-own.result.now c.loop-x.x-index
    c.loop-x-test.true c.loop-x.invariant c.in_ok-keep.ensures

pub returns : goal.returns
returns c =
    let fs = c.args.self.now.forms.forms in
    let os = c.args.self.now.forms.options in
    let us = c.args.self.now.rows.upright.now in
    let ls = c.args.self.now.rows.flat.now in
    let s = (side_of c.args.side) in
    all_passed fs os s us ls (vec_items c.loop-x.chosen)
    (passing_end fs os s (given fs os us ls) [] (vec_items c.loop-x.chosen) _ _ c.of-own.ensures.row c.loop-x.x-index (omega arith) c.loop-x.invariant)

use Rattle.std.proofs.Common.{ℕ, ◌+◌, ◌<◌, length, get_or, vec_items, sym, subst, inl, inr, arith}
use Rattle.std.specs.List.{ContainsAt as Has}
use Rattle.std.proofs.lemmas.List.{take_rest}
use Rattle.std.proofs.ByRecursion.{All-get_or, all-has, All-drop}
use Rattle.board.specs.Values.{side_of}
use Rattle.games.specs.Order.{NotWorse}
use Rattle.forms.specs.Meaning.{meaning}
use Rattle.forms.specs.Soundness.{Known}
use Rattle.canonical.proofs.Inserting.{has_take}
use Rattle.canonical.proofs.Thinning.{Thinning, all_from_has, thinning_none, struck, stayed, thinned}
use Rattle.canonical.proofs.thin.thin.Goals as goal

pub loop-i-init : goal.loop-i-init
loop-i-init c =
    subst (λ best. Thinning c.args.forms.now.forms c.args.forms.now.options (side_of c.args.side) c.args.row.now best 0) (sym c.new-best.ensures.items)
    (thinning_none c.args.forms.now.forms c.args.forms.now.options (side_of c.args.side) c.args.row.now)

pub is_dominated-requires : goal.is_dominated-requires
is_dominated-requires c =
    let fs = c.args.forms.now.forms in
    let row = c.args.row.now in
    record {
      first = All-get_or (λ y. y < length fs) row c.loop-i.i 0 c.loop-i-test.true c.requires.known;
      known =
          subst (Known fs) (sym c.as_slice-before.ensures.value)
          (all_from_has (λ y. y < length fs) (vec_items c.loop-i.best) (λ w k. all-has (λ y. y < length fs) row w c.requires.known (has_take c.loop-i.i row w (c.loop-i.invariant.from w k))));
    }

pub is_dominated-requires-in-loop-i : goal.is_dominated-requires-in-loop-i
is_dominated-requires-in-loop-i c =
    let fs = c.args.forms.now.forms in
    let row = c.args.row.now in
    record {
      first = All-get_or (λ y. y < length fs) row c.loop-i.i 0 c.loop-i-test.true c.requires.known;
      known = subst (Known fs) (sym (take_rest row (c.loop-i.i + 1))) (All-drop (λ y. y < length fs) (c.loop-i.i + 1) row c.requires.known);
    }

pub loop-i-preserved-then-is_dominated : goal.loop-i-preserved-then-is_dominated
loop-i-preserved-then-is_dominated c =
    let d = c.if-is_dominated.ensures in
    struck c.args.forms.now.forms c.args.forms.now.options (side_of c.args.side) c.args.row.now (vec_items c.loop-i.best) c.loop-i.i c.loop-i-test.true c.loop-i.invariant
    d.0 (inl (subst (λ l. Has l d.0) c.as_slice-before.ensures.value d.1)) d.2

pub loop-i-preserved-then-is_dominated-2 : goal.loop-i-preserved-then-is_dominated-2
loop-i-preserved-then-is_dominated-2 c =
    let d = c.if-is_dominated-2.ensures in
    struck c.args.forms.now.forms c.args.forms.now.options (side_of c.args.side) c.args.row.now (vec_items c.loop-i.best) c.loop-i.i c.loop-i-test.true c.loop-i.invariant
    d.0 (inr (subst (λ l. Has l d.0) (take_rest c.args.row.now (c.loop-i.i + 1)) d.1)) d.2

pub loop-i-preserved : goal.loop-i-preserved
loop-i-preserved c =
    let fs = c.args.forms.now.forms in
    let os = c.args.forms.now.options in
    let s = (side_of c.args.side) in
    let row = c.args.row.now in
    let x = get_or row c.loop-i.i 0 in
    stayed fs os s row (vec_items c.loop-i.best) c.loop-i.i c.loop-i-test.true c.loop-i.invariant c.requires.rising
    (subst (λ l. (y : ℕ) → Has l y → NotWorse s (meaning fs os x) (meaning fs os y)) c.as_slice-before.ensures.value c.if-is_dominated.ensures)
    (subst (λ l. (y : ℕ) → Has l y → NotWorse s (meaning fs os x) (meaning fs os y)) (take_rest row (c.loop-i.i + 1)) c.if-is_dominated-2.ensures)
    (vec_items c.push.new.self) c.in_ok-push.ensures.items

pub returns : goal.returns
returns c = thinned c.args.forms.now.forms c.args.forms.now.options (side_of c.args.side) c.args.row.now (vec_items c.loop-i.best) c.loop-i.i (omega arith) c.loop-i.invariant

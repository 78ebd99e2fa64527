use Rattle.std.proofs.Common.{true, false}
use Rattle.forms.specs.Meaning.{given}
use Rattle.forms.specs.Values.{in_use, game_from}
use Rattle.forms.proofs.Places.{of_read}
use Rattle.canonical.specs.Reducing.{Reduced}
use Rattle.canonical.proofs.Reduces.{both_reduced, equal_reduced, reduction}
use Rattle.canonical.proofs.Placing.{outcome_equal}
use Rattle.canonical.proofs.canonical.canonical.Goals as goal

pub place-requires : goal.place-requires
place-requires c =
    let t = c.args.table.now in
    let fs = in_use t in
    let us = c.args.rows.upright.now in
    let ls = c.args.rows.flat.now in
    let g = game_from t c.args.rows in
    let up = of_read (λ gs ps. Reduced gs ps true (given gs ps us ls) c.in_ok-upright.upright.items) c.in_use.ensures.forms c.in_use.ensures.options c.in_ok-upright.ensures in
    let low = of_read (λ gs ps. Reduced gs ps false (given gs ps us ls) c.in_ok-flat.flat.items) c.in_use.ensures.forms c.in_use.ensures.options c.in_ok-flat.ensures in
    record {
      table = c.in_use.ensures.table;
      reduced =
          reduction fs t.options.now c.in_use.ensures.table.sound g c.as_slice.result.now c.as_slice-2.result.now
          (both_reduced fs t.options.now g c.as_slice.result.now c.as_slice-2.result.now _ _ c.as_slice.ensures.value c.as_slice-2.ensures.value up low);
    }

pub returns-clause-answer : goal.returns-clause-answer
returns-clause-answer c =
    let t = c.args.table.now in
    let fs = in_use t in
    let os = t.options.now in
    let us = c.args.rows.upright.now in
    let ls = c.args.rows.flat.now in
    let g = game_from t c.args.rows in
    let up = of_read (λ gs ps. Reduced gs ps true (given gs ps us ls) c.in_ok-upright.upright.items) c.in_use.ensures.forms c.in_use.ensures.options c.in_ok-upright.ensures in
    let low = of_read (λ gs ps. Reduced gs ps false (given gs ps us ls) c.in_ok-flat.flat.items) c.in_use.ensures.forms c.in_use.ensures.options c.in_ok-flat.ensures in
    outcome_equal t c.place.new.table g (given fs os c.as_slice.result.now c.as_slice-2.result.now)
    (equal_reduced fs os c.in_use.ensures.table.sound g c.as_slice.result.now c.as_slice-2.result.now
    (both_reduced fs os g c.as_slice.result.now c.as_slice-2.result.now _ _ c.as_slice.ensures.value c.as_slice-2.ensures.value up low)) c.place.result c.place.ensures.answer

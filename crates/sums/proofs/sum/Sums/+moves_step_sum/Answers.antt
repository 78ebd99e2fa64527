use Rattle.std.proofs.Common.{◌≡◌, ℕ, ◌<◌, true, false, List, length, slice_index, vec_items, Ok, sym, refl, ap, ◌∙◌, subst, arith}
use Rattle.std.proofs.lemmas.Result.{err_from_is_err_and}
use Rattle.board.specs.Values.{side_of}
use Rattle.forms.specs.Rows.{row_of}
use Rattle.forms.specs.Values.{in_use, game_in}
use Rattle.forms.specs.declared.rows.Form.{Form}
use Rattle.forms.specs.Meaning.{given}
use Rattle.canonical.specs.Answers.{Answered}
use Rattle.sums.specs.Pairs.{OnlyMore}
use Rattle.sums.specs.Sums.{SumAnswer}
use Rattle.sums.specs.Steps.{SumRow}
use Rattle.sums.proofs.Wider.{stopped_on}
use Rattle.sums.proofs.Gathering.{right_of, row_same, step_more, step_fails, step_all, sums_same_on}
use Rattle.sums.proofs.Summing.{BothRows, both_moves, other_fails, both_rows, later_fails, rows_known, placed, unplaced, summed}
use Rattle.sums.proofs.sum.Sums.+moves_step_sum.Goals as goal
use Rattle.sums.proofs.sum.Sums.+moves_step_sum.Goals.{step-After-option-option, sum-After-self-2}

pub moves-returns-clause-answer : goal.moves-returns-clause-answer
moves-returns-clause-answer t c =
    let s = c.args.self.now.table in
    let right = right_of c.self-inside.invariant (λ i. (c.self-inside.view_is i).table) c.self.invariant c.self.view_is in
    both_moves s.forms.now s.options.now s.used (side_of c.args.side) c.args.x c.args.y right.table c.requires.first c.requires.second
    _ _ _ _ c.in_ok-step.ensures.answer.0 _ _ _ _ _ _ _ c.new-row.ensures.items c.in_ok-step.ensures.answer.1 c.in_ok-step-2.ensures.answer

pub moves-returns-in_err-step-2-clause-answer : goal.moves-returns-in_err-step-2-clause-answer
moves-returns-in_err-step-2-clause-answer t c =
    let s = c.args.self.now.table in
    let right = right_of c.self-inside.invariant (λ i. (c.self-inside.view_is i).table) c.self.invariant c.self.view_is in
    let p = err_from_is_err_and c.from_residual-in_err-step-2.result c.from_residual-in_err-step-2.ensures.1 in
    rw (p.1, p.2)
    (other_fails s.forms.now s.options.now s.used (side_of c.args.side) c.args.x c.args.y right.table c.requires.first c.requires.second
    _ _ _ _ c.in_ok-step.ensures.answer.0 _ _ _ c.in_err-step-2.ensures.answer)

-- the option is that of the table as it was
as_it_was : (t : ℕ) (c : step-After-option-option t) →
    (c.loop-i.i < length (row_of (in_use c.args.self.now.table) c.args.self.now.table.options.now (side_of c.args.side) c.args.x))
    × (c.option-option.result ≡ slice_index (row_of (in_use c.args.self.now.table) c.args.self.now.table.options.now (side_of c.args.side) c.args.x) c.loop-i.i)
as_it_was t c =
    let s = c.args.self.now.table in
    let right = right_of c.self-inside.invariant (λ i. (c.self-inside.view_is i).table) c.self.invariant c.self.view_is in
    let same = row_same s.forms.now s.options.now s.used (side_of c.args.side) c.args.x c.args.y right.table c.requires.first c.requires.second
    _ _ _ _ c.loop-i.invariant.0.0.grows _ refl in (
      subst (λ l. c.loop-i.i < l) c.many-i-end.ensures c.loop-i-test.true,
      c.option-option.ensures ∙ ap (λ l. slice_index l c.loop-i.i) same,
    )

pub step-returns-in_err-form-clause-answer : goal.step-returns-in_err-form-clause-answer
step-returns-in_err-form-clause-answer t c =
    let s = c.args.self.now.table in
    let right = right_of c.self-inside.invariant (λ i. (c.self-inside.view_is i).table) c.self.invariant c.self.view_is in
    let at = as_it_was t (goal.at.step-returns-in_err-form-clause-answer t c).After-option-option in
    let p = err_from_is_err_and c.from_residual.result c.from_residual.ensures.1 in
    rw (p.1, p.2)
    (step_fails s.forms.now s.options.now s.used (side_of c.args.side) c.args.x c.args.y right.table c.requires.first c.requires.second
    c.loop-i.self.table.forms.now c.loop-i.self.table.options.now c.loop-i.self.table.used c.loop-i.self.pairs.now c.loop-i.i c.loop-i.invariant.0.0 at.0 c.option-option.result
    at.1 c.sum.new.self.table.forms.now c.sum.new.self.table.options.now _ c.in_err-form.ensures.answer)

pub step-loop-i-preserved : goal.step-loop-i-preserved
step-loop-i-preserved t c =
    let s = c.args.self.now.table in
    let right = right_of c.self-inside.invariant (λ i. (c.self-inside.view_is i).table) c.self.invariant c.self.view_is in
    let at = as_it_was t (goal.at.step-loop-i-preserved t c).After-option-option in (
      step_more s.forms.now s.options.now s.used (side_of c.args.side) c.args.x c.args.y right.table c.requires.first c.requires.second
          c.loop-i.self.table.forms.now c.loop-i.self.table.options.now c.loop-i.self.table.used c.loop-i.self.pairs.now c.loop-i.i c.loop-i.invariant.0.0 at.0 c.option-option.result
          at.1 c.sum.new.self.table.forms.now c.sum.new.self.table.options.now c.sum.new.self.pairs.now _ (vec_items c.loop-i.row) _ c.in_ok-form.form c.sum.new.self.table.used
          c.loop-i.invariant.0.1 c.in_ok-form.ensures.answer c.in_ok-insert.ensures,
      sums_same_on c.loop-i.invariant.1 c.in_ok-form.ensures.same,
    )

pub step-returns-clause-answer : goal.step-returns-clause-answer
step-returns-clause-answer t c =
    let s = c.args.self.now.table in
    let right = right_of c.self-inside.invariant (λ i. (c.self-inside.view_is i).table) c.self.invariant c.self.view_is in (
      c.loop-i.invariant.0.0,
      step_all s.forms.now s.options.now s.used (side_of c.args.side) c.args.x c.args.y right.table c.requires.first c.requires.second
          _ _ _ _ _ c.loop-i.i
          (let e = c.many-i-end.ensures in
          let low = c.loop-i.auto.i-end in
          let high = c.loop-i-test.false in
          omega arith)
          c.loop-i.invariant.0.1,
    )

pub sum-returns-in_err-flat-clause-answer : goal.sum-returns-in_err-flat-clause-answer
sum-returns-in_err-flat-clause-answer t c =
    let s = c.args.self.now.table in
    let right = right_of c.self-inside.invariant (λ i. (c.self-inside.view_is i).table) c.self.invariant c.self.view_is in
    let p = err_from_is_err_and c.from_residual-in_err-flat.result c.from_residual-in_err-flat.ensures.1 in
    rw (p.1, p.2)
    (later_fails s.forms.now s.options.now s.used c.args.x c.args.y right.table c.requires.first c.requires.second
    _ _ _ _ c.in_ok-upright.ensures.answer.0 _ _ _ c.in_err-flat.ensures.answer)

-- the two rows, and how the table grew
rows : (t : ℕ) (c : sum-After-self-2 t) → BothRows c.args.x c.args.y c.args.self.now (record { table = c.self-2.inside.table; pairs = c.self-2.inside.pairs }) c.as_slice.result.now c.as_slice-2.result.now
rows t c =
    let s = c.args.self.now.table in
    let right = right_of c.self-inside.invariant (λ i. (c.self-inside.view_is i).table) c.self.invariant c.self.view_is in
    subst (λ u. BothRows c.args.x c.args.y c.args.self.now u c.as_slice.result.now c.as_slice-2.result.now) (sym c.self-2.view_is)
    (let both = both_rows s.forms.now s.options.now s.used c.args.x c.args.y right.table c.requires.first c.requires.second
    _ _ _ _ c.in_ok-upright.ensures.answer.0 _ _ _ _ _ _ c.in_ok-upright.ensures.answer.1 c.in_ok-flat.ensures.answer in (
      both.0,
      subst (SumRow true (game_in s c.args.x) (game_in s c.args.y) c.moves-2.new.self.table.forms.now c.moves-2.new.self.table.options.now c.moves-2.new.self.table.used) (sym c.as_slice.ensures.value) both.1,
      subst (SumRow false (game_in s c.args.x) (game_in s c.args.y) c.moves-2.new.self.table.forms.now c.moves-2.new.self.table.options.now c.moves-2.new.self.table.used) (sym c.as_slice-2.ensures.value) both.2,
    ))

pub sum-canonical-requires : goal.sum-canonical-requires
sum-canonical-requires t c =
    let both = rows t (goal.at.sum-canonical-requires t c).After-self-2 in
    rows_known _ _ _ _ _ c.as_slice.result.now c.as_slice-2.result.now both.0.grows.table both.1 both.2

pub sum-returns-in_err-form-clause-answer : goal.sum-returns-in_err-form-clause-answer
sum-returns-in_err-form-clause-answer t c =
    let both = rows t (goal.at.sum-returns-in_err-form-clause-answer t c).After-self-2 in
    let end = c.in_err-form.ensures.answer in
    let p = err_from_is_err_and c.from_residual-in_err-form.result c.from_residual-in_err-form.ensures.1 in
    rw (p.1, p.2)
    (stopped_on _ _ _ _ _ _ _ _ _ _ both.0.grows
    (unplaced _ _ _ _ _ c.as_slice.result.now c.as_slice-2.result.now both.0.grows.table both.1 both.2
    c.canonical.new.table.forms.now c.canonical.new.table.options.now _ end.0 end.1 end.3))

-- the form of the sum, remembered
remembered : (t : ℕ) (c : sum-After-self-2 t) (gs : List Form) (qs : List ℕ) (k u : ℕ) (ts : List ℕ) → length gs ≡ length c.self-2.inside.table.forms.now →
    Answered c.self-2.inside.table.forms.now c.self-2.inside.table.options.now c.self-2.inside.table.used gs qs
    (given (in_use c.self-2.inside.table) c.self-2.inside.table.options.now c.as_slice.result.now c.as_slice-2.result.now) k u →
    OnlyMore c.self-2.inside.pairs.now c.args.x c.args.y k ts →
    SumAnswer (game_in c.args.self.now.table c.args.x) (game_in c.args.self.now.table c.args.y)
    c.args.self.now.table.forms.now c.args.self.now.table.options.now c.args.self.now.table.used gs qs u ts (Ok k)
remembered t c gs qs k u ts long answered only =
    let s = c.args.self.now.table in
    let right = right_of c.self-inside.invariant (λ i. (c.self-inside.view_is i).table) c.self.invariant c.self.view_is in
    let both = rows t c in
    summed s.forms.now s.options.now s.used c.args.x c.args.y right.table c.requires.first c.requires.second _ _ _ _ both.0 gs qs u ts k
    (placed _ _ _ _ _ c.as_slice.result.now c.as_slice-2.result.now both.0.grows.table both.1 both.2 gs qs k u long answered) only

pub sum-invariant_of-self-2 : goal.sum-invariant_of-self-2
sum-invariant_of-self-2 t c =
    (remembered t (goal.at.sum-invariant_of-self-2 t c).After-self-2 _ _ _ _ _ c.canonical.ensures.stays.rows.places c.in_ok-form.ensures.answer c.keep.ensures).3

pub sum-returns-clause-answer : goal.sum-returns-clause-answer
sum-returns-clause-answer t c =
    remembered t (goal.at.sum-returns-clause-answer t c).After-self-2 _ _ _ _ _ c.canonical.ensures.stays.rows.places c.in_ok-form.ensures.answer c.keep.ensures

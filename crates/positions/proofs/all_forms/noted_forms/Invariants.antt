use Rattle.std.proofs.Common.{vec_items}
use Rattle.positions.specs.Answers.{Listed}
use Rattle.positions.proofs.all_forms.noted_forms.Given as goal

abbrev pub invariant-loop-noted : goal.invariant-loop-noted
invariant-loop-noted l = Listed l.sets l.noted-index (vec_items l.all)

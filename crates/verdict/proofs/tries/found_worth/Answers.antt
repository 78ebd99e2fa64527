use Rattle.std.proofs.Common.{subst}
use Rattle.board.specs.Values.{grid_of}
use Rattle.verdict.specs.Worths.{WorthAnswer}
use Rattle.verdict.proofs.Smaller.{none_refused}
use Rattle.verdict.proofs.tries.found_worth.Goals as goal

pub returns : goal.returns
returns c = record {
  answer = (c.in-Ok.split.rooms, subst (λ b. WorthAnswer b c.in-Ok.split.rooms c.args.memory.now.sums c.board_worth.new.memory.sums c.board_worth.result) c.in-Ok.ensures.0 c.board_worth.ensures.answer);
  same = c.board_worth.ensures.same;
}

pub unreachable-requires : goal.unreachable-requires
unreachable-requires c = none_refused (grid_of c.args.board.now) c.in_default.field-0 c.requires c.in_default.ensures

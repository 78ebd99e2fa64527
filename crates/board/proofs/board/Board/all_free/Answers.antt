use Rattle.std.proofs.Common.{refl, rules}
use Rattle.std.proofs.lemmas.List.Recursion.{and_is}
use Rattle.board.specs.Grid.{free}
use Rattle.board.specs.Moves.{each_free}
use Rattle.board.specs.Values.{grid_of}
use Rattle.board.proofs.board.Board.all_free.Goals as goal

pub returns : goal.returns
returns c =
    let b = grid_of c.args.self.now in
    and_is (each_free b) (free b) refl (λ _ _. refl) c.args.squares.now 0 _ (search rules) (search rules)

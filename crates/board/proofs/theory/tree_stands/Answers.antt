use Rattle.board.proofs.Trees.{tree_law, tree_fuel}
use Rattle.board.proofs.theory.tree_stands.Goals as goal

pub returns : goal.returns
returns c = record { law = tree_law; fuel = tree_fuel }

-- The games of two small boards, by the computed test of order, and plays on them.
use Rattle.std.proofs.Common.{true, false, refl}
use Rattle.games.specs.Game.{empty}
use Rattle.games.specs.Order.{Computed}
use Rattle.games.proofs.Test.{computed}
use Rattle.board.specs.Moves.{may, laid}
use Rattle.board.specs.Play.{anywhere, goes, Plays}
use Rattle.board.specs.Tree.{listed, tree, two_by_two, three_by_three, BoardGames}

pub board_games : BoardGames
unfolding Computed tree listed may laid
board_games = record {
  apart = ((computed (tree 4 two_by_two) empty).1.0 refl, (computed empty (tree 4 two_by_two)).1.0 refl);
  three_as_two = (
    (computed (tree 9 three_by_three) (tree 4 two_by_two)).0.0 refl,
    (computed (tree 4 two_by_two) (tree 9 three_by_three)).0.0 refl,
  );
}

pub plays : Plays
unfolding goes anywhere may laid
plays = record { at_once = elim [ true ↦ refl | false ↦ refl ]; wanting = refl; without_answer = λ s b. refl }

use Rattle.board.proofs.Small.{board_games, plays}
use Rattle.board.proofs.theory.board_games_stand.Goals as goal

pub returns : goal.returns
returns c = record { games = board_games; plays = plays }

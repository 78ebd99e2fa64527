use Rattle.board.proofs.Plays.{play_wins}
use Rattle.board.proofs.theory.play_stands.Goals as goal

pub returns : goal.returns
returns c = play_wins

use Rattle.referee.proofs.Standing.{one_following}
use Rattle.referee.proofs.follow.following_stands.Goals as goal

pub returns : goal.returns
returns c = one_following

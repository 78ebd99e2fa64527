use Rattle.positions.proofs.Law.{positions_law}
use Rattle.positions.proofs.all_forms.positions_stand.Goals as goal

pub returns : goal.returns
returns c = positions_law

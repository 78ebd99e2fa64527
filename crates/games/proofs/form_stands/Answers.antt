use Rattle.games.proofs.Forms.{one_form, identical_equal, form_reached}
use Rattle.games.proofs.Reduce.{has_form}
use Rattle.games.proofs.form_stands.Goals as goal

pub returns : goal.returns
returns c = record { exists = has_form; one = one_form; equal = identical_equal; reached = form_reached }

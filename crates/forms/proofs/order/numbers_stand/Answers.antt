use Rattle.forms.proofs.Numbers.{one_number, first_empty}
use Rattle.forms.proofs.order.numbers_stand.Goals as goal

pub returns : goal.returns
returns c = record { one = one_number; first = first_empty }

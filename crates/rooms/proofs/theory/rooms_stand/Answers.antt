use Rattle.rooms.proofs.Beside.{rooms_law}
use Rattle.rooms.proofs.Reach.{one_list, larger_law}
use Rattle.rooms.proofs.After.{laid_rooms}
use Rattle.rooms.proofs.theory.rooms_stand.Goals as goal

pub returns : goal.returns
returns c = record { one = one_list; law = rooms_law; larger = larger_law; laid = laid_rooms }

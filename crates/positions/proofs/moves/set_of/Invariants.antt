use Rattle.positions.proofs.Making.{Sofar}
use Rattle.positions.proofs.moves.set_of.Given as goal

abbrev pub invariant-loop-q : goal.invariant-loop-q
invariant-loop-q l = Sofar l.squares l.covered l.q-index l.set

use Rattle.std.proofs.Common.{refl, arith}
use Rattle.std.proofs.lemmas.List.{length-take-le, take_more_set}
use Rattle.rooms.specs.Few.{items_of}
use Rattle.rooms.proofs.few.Few.push.Goals as goal

pub returns-then-self : goal.returns-then-self
unfolding items_of
returns-then-self g c =
    let x = c.args.self.now in
    let k = length-take-le x.len x.held (omega (arith, x.few)) in
    (omega arith, refl)

pub returns : goal.returns
unfolding items_of
returns g c = take_more_set c.args.self.now.held c.args.self.now.len c.args.item (omega arith)

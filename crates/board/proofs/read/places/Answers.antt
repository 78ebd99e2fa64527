use Rattle.std.proofs.Common.{sym, arith}
use Rattle.std.proofs.lemmas.List.{drop_all, take_rest}
use Rattle.board.specs.Reading.{places_in}
use Rattle.board.proofs.read.places.Goals as goal

pub returns-then-bytes-lt2 : goal.returns-then-bytes-lt2
unfolding places_in
returns-then-bytes-lt2 c = sym (drop_all _ c.args.bytes.now (omega arith))

pub returns-then-bytes-from : goal.returns-then-bytes-from
unfolding places_in
returns-then-bytes-from c = sym (drop_all _ c.args.bytes.now (omega arith))

pub returns : goal.returns
unfolding places_in
returns c = take_rest c.args.bytes.now _

use Rattle.std.proofs.Common.{not, rules, tests}
use Rattle.std.proofs.lemmas.Iterator.{YieldsList-from_slice}
use Rattle.std.proofs.lemmas.Iterator.Search.{position_from_yields_List}
use Rattle.board.specs.Reading.{is_square_byte}
use Rattle.board.proofs.Squares.{bad_found}
use Rattle.board.proofs.read.first_bad.Goals as goal

pub returns : goal.returns
returns c =
    bad_found c.args.squares.now _
    (position_from_yields_List (λ x. not (is_square_byte x)) _ _ _ c.position.ensures.ran (YieldsList-from_slice c.args.squares.now cc) (λ x b q k. search (rules, tests)))

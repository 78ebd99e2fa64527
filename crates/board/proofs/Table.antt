-- The table of known boards, by one test over the whole table that the checker computes.
use Rattle.std.proofs.Common.{◌≡◌, Bool, true, false, ◌&&◌, List, [], ◌∷◌, refl, arith}
use Rattle.std.proofs.lemmas.Bool.{and_parts}
use Rattle.board.specs.Grid.{free_count}
use Rattle.board.specs.Moves.{may, laid}
use Rattle.board.specs.Known.{Entry, written, table, AllRight, KnownBoards}
use Rattle.board.proofs.Outcomes.{some_below, fitting, fits_says}

abbrev right : Entry → Bool
right e =
    fitting (free_count (written e).cells) true (written e) e.upright
    && fitting (free_count (written e).cells) false (written e) e.flat

abbrev all_right : List Entry → Bool
all_right [] = true
all_right (e ∷ es) = right e && all_right es

each : (es : List Entry) → all_right es ≡ true → AllRight es
each [] t = tt
each (e ∷ es) t =
    let parts = and_parts (right e) (all_right es) t in
    let both = and_parts (fitting (free_count (written e).cells) true (written e) e.upright) _ parts.0 in (
      (
        fits_says (free_count (written e).cells) true (written e) (omega arith) e.upright both.0,
        fits_says (free_count (written e).cells) false (written e) (omega arith) e.flat both.1,
      ),
      each es parts.1,
    )

computed : all_right table ≡ true
unfolding may laid some_below free_count
computed = refl

pub known_boards : KnownBoards
unfolding KnownBoards
known_boards = each table computed

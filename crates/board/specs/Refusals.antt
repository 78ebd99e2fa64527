-- The list of refusals: the number of each, the place that it speaks of, and how it is told.
use Rattle.std.specs.Prelude.{ℕ, List, ◌++◌, codes, decimal}
use Rattle.board.specs.declared.refusal.Row.{Row}
use Rattle.board.specs.declared.refusal.Row.TheVariants.{Forms, Options, Positions, Pairs}
use Rattle.board.specs.declared.refusal.Refusal.{Refusal}
use Rattle.board.specs.declared.refusal.Refusal.TheVariants.{Width, Height, Letter, Length, Square, Lent, Plank, Room, Rooms, Count}

abbrev pub number_of : Refusal → ℕ
number_of Width = 1
number_of Height = 1
number_of Letter = 2
number_of (Length n) = 3
number_of (Square p) = 4
number_of (Lent row) = 8
number_of (Plank n) = 9
number_of (Room p) = 5
number_of (Rooms p) = 6
number_of Count = 7

abbrev pub row_number : Row → ℕ
row_number Forms = 0
row_number Options = 1
row_number Positions = 2
row_number Pairs = 3

abbrev pub place_of : Refusal → ℕ
place_of Width = 0
place_of Height = 1
place_of Letter = 2
place_of (Length n) = n
place_of (Square p) = p
place_of (Lent row) = row_number row
place_of (Plank n) = n
place_of (Room p) = p
place_of (Rooms p) = p
place_of Count = 0

-- "refused 5 at 3"
abbrev pub refused_text : Refusal → List ℕ
refused_text e = codes "refused " ++ (decimal (number_of e) ++ (codes " at " ++ decimal (place_of e)))

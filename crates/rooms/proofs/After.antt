-- The rooms of a board after a plank lie in its rooms.
use Rattle.std.proofs.Common.{◌≡◌, ℕ, true, sym, ◌∙◌}
use Rattle.std.specs.List.{ContainsAt as Has}
use Rattle.std.proofs.ByRecursion.{all-has}
use Rattle.std.proofs.lemmas.Bool.{and_parts}
use Rattle.board.specs.Grid.{Grid, Side, free, Edge, Next}
use Rattle.board.specs.Moves.{laid}
use Rattle.rooms.specs.Laid.{LaidRooms}
use Rattle.rooms.specs.Rooms.{Room}
use Rattle.rooms.specs.Walks.{Walk, stay, go}
use Rattle.rooms.proofs.Lists.{no_longer, rise_apart, all_by_has}
use Rattle.rooms.proofs.Reach.{walk_keeps, room_square}
use Rattle.rooms.proofs.Through.{covered, at_taken}

module _ (b : Grid) (s : Side) (p : ℕ) where
  -- what is free after a plank was free before
  free_before : (q : ℕ) → free (laid b s p) q ≡ true → free b q ≡ true
  unfolding laid
  free_before q e = (and_parts (free b q) _ (sym (at_taken b.cells (covered b s p) q) ∙ e)).0

  next_before : (q r : ℕ) → Next (laid b s p) q r → Next b q r
  unfolding laid Edge
  next_before q r n = n

  walk_before : {q r : ℕ} → Walk (laid b s p) q r → Walk b q r
  walk_before stay = stay
  walk_before (go {p = q} m n f w) = go m (next_before q m n) (free_before m f) (walk_before w)

pub laid_rooms : LaidRooms
unfolding LaidRooms
laid_rooms b s p rs ts before after t is =
    let room = all-has (Room (laid b s p)) ts t after.each is in
    let edge = room_square (laid b s p) t room in
    let in_one = before.whole edge.0 edge.1 (free_before b s p edge.0 edge.3) (free_before b s p edge.1 edge.4) (next_before b s p edge.0 edge.1 edge.5) in
    let whole = all-has (Room b) rs in_one.0 before.each in_one.1 in
    let inside : (q : ℕ) → Has t q → Has in_one.0 q = λ q h. walk_keeps (Has in_one.0) whole.closed (walk_before b s p (room.linked edge.0 q edge.2 h)) in_one.2 in
    (in_one.0, in_one.1, inside, no_longer t in_one.0 (rise_apart t room.rising) (all_by_has (Has in_one.0) t inside))

-- Where no room of a board is too large, none is after a plank.
use Rattle.std.proofs.Common.{◌≡◌, ℕ, ◌≤◌, true, List, length, Err, sym, ◌∙◌, arith}
use Rattle.std.proofs.ByRecursion.{all-has, All-weaker}
use Rattle.std.proofs.lemmas.Bool.{and_parts}
use Rattle.board.specs.Grid.{Grid, Side, free, Edge, Next}
use Rattle.board.specs.Moves.{laid}
use Rattle.board.specs.declared.refusal.Refusal.{Refusal}
use Rattle.rooms.specs.Rooms.{Many}
use Rattle.rooms.specs.Values.{SmallRooms, Found}
use Rattle.rooms.specs.Walks.{Walk, stay, go}
use Rattle.rooms.proofs.Reach.{many_room}
use Rattle.rooms.proofs.Through.{covered, at_taken}
use Rattle.verdict.specs.Trying.{NotLarge}

-- then no room is refused
pub none_refused : (b : Grid) (e : Refusal) → NotLarge b → Found b (Err e) → ⊥
unfolding NotLarge Found
none_refused b e small x = small x.0 x.2.large

module _ (b : Grid) (s : Side) (p : ℕ) where
  free_before : (q : ℕ) → free (laid b s p) q ≡ true → free b q ≡ true
  unfolding laid
  free_before q e = (and_parts (free b q) _ (sym (at_taken b.cells (covered b s p) q) ∙ e)).0

  next_before : (q r : ℕ) → Next (laid b s p) q r → Next b q r
  unfolding laid Edge
  next_before q r n = n

  walk_before : {q r : ℕ} → Walk (laid b s p) q r → Walk b q r
  walk_before stay = stay
  walk_before (go {p = q} m n f w) = go m (next_before q m n) (free_before m f) (walk_before w)

  pub laid_small : (rs : List (List ℕ)) → SmallRooms b rs → NotLarge (laid b s p)
  unfolding NotLarge
  laid_small rs rooms q large =
      let x = large.many in
      let many : Many 16 b q = record { squares = x.squares; more = x.more; apart = x.apart; reached = All-weaker (Walk (laid b s p) q) (Walk b q) (λ t w. walk_before w) x.squares x.reached } in
      let start = free_before q large.start in
      let r = many_room 16 b rs (omega arith) rooms.rooms.each q (λ t near f. rooms.rooms.whole q t start f near) many in
      let few = all-has (λ t. length t ≤ 16) rs r.0 rooms.small r.1 in
      let more = r.3 in
      omega arith

-- The board and its rooms beside each other.
use Rattle.std.proofs.Common.{◌≡◌, ℕ, zero, suc, ◌<◌, ◌≤◌, true, List, [], ◌∷◌, map, length, get_or, set, sym, refl, ap, ◌∙◌, subst, inl, inr, ⊎_elim, arith}
use Rattle.std.specs.List.{ContainsAt as Has, AllByRecursion as Every}
use Rattle.std.proofs.lemmas.List.{get_or-map, length-map}
use Rattle.std.proofs.ByRecursion.{all-has, All-get_or}
use Rattle.games.specs.Game.{Game, options, In, empty}
use Rattle.games.specs.Play.{Moved, this, that, First, with, Second, any}
use Rattle.games.proofs.Rows.{of_move, not_first_second}
use Rattle.board.specs.Grid.{Grid, Side, other, Next, free_count}
use Rattle.board.specs.Moves.{may, laid}
use Rattle.board.specs.Rules.{Wins, by, Loses, whatever, OneOutcome}
use Rattle.board.specs.Tree.{tree}
use Rattle.board.specs.Covering.{Linked, next, MovesLaw}
use Rattle.board.proofs.Covering.{moves_law, spread}
use Rattle.board.proofs.Outcomes.{laid_fewer, one_outcome}
use Rattle.board.proofs.Trees.{in_tree, of_tree}
use Rattle.rooms.specs.Walks.{first}
use Rattle.rooms.specs.Rooms.{Room, Rooms}
use Rattle.rooms.specs.Games.{through, games_of, RoomsLaw}
use Rattle.rooms.proofs.Lists.{has_none, has_cases, rise_place}
use Rattle.rooms.proofs.Reach.{same_room}
use Rattle.rooms.proofs.Through.{seen_fewer, covered, to_through, of_through, laid_through, through_elsewhere, covered_laid, may_laid}

-- a move in a row of games, by the place of the game that it changes
moved_at : (s : Side) (gs : List Game) (i : ℕ) (x : Game) → i < length gs → In x (options s (get_or gs i empty)) → Moved s gs (set gs i x)
moved_at s [] i x less h = absurd (omega arith)
moved_at s (g ∷ gs) zero x less h = this h
moved_at s (g ∷ gs) (suc i) x less h = that (moved_at s gs i x (omega arith) h)

of_moved :
    (s : Side) (gs : List Game) (P : List Game → Type 0) → ((i : ℕ) (x : Game) → i < length gs → In x (options s (get_or gs i empty)) → P (set gs i x)) →
    (hs : List Game) → Moved s gs hs → P hs
of_moved s [] P each hs m = elim m [ ]
of_moved s (g ∷ gs) P each hs m =
    of_move P (λ x h. each 0 x (omega arith) h) (of_moved s gs (λ rest. P (g ∷ rest)) (λ i x less h. each (suc i) x (omega arith) h)) hs m

-- a row made of a list, where one thing is made anew and the others come to the same
set_map :
    {X : Type 0} (f g : X → Game) (xs : List X) (i : ℕ) (d : X) → i < length xs →
    ((j : ℕ) → j < length xs → (j ≡ i → ⊥) → f (get_or xs j d) ≡ g (get_or xs j d)) → set (map f xs) i (g (get_or xs i d)) ≡ map g xs
set_map f g [] i d less each = absurd (omega arith)
set_map {X} f g (x ∷ xs) zero d less each = ap (λ l. g x ∷ l) (same xs (λ j h. each (suc j) (omega arith) (λ e. omega arith)))
  where
    same : (ys : List X) → ((j : ℕ) → j < length ys → f (get_or ys j d) ≡ g (get_or ys j d)) → map f ys ≡ map g ys
    same [] all = refl
    same (y ∷ ys) all = λ k. all 0 (omega arith) k ∷ same ys (λ j h. all (suc j) (omega arith)) k
set_map f g (x ∷ xs) (suc i) d less each =
    let rest = set_map f g xs i d (omega arith) (λ j h ne. each (suc j) (omega arith) (λ e. ne (omega arith))) in
    λ k. each 0 (omega arith) (λ e. omega arith) k ∷ rest k

-- lists of squares that split a board: each lawful move lies in one of them, and no square in two
record Split (b : Grid) (rs : List (List ℕ)) : Type 0 where
  one : (s : Side) (p : ℕ) → may b s p ≡ true → (i : ℕ) × (i < length rs) × Every (Has (get_or rs i [])) (covered b s p)
  no_two : (q i j : ℕ) → i < length rs → j < length rs → Has (get_or rs i []) q → Has (get_or rs j []) q → i ≡ j

split_laid : (b : Grid) (rs : List (List ℕ)) → Split b rs → (s : Side) (p : ℕ) → Split (laid b s p) rs
split_laid b rs x s p = record {
  one = λ t q m. let y = x.one t q (may_laid b s t p q m) in (y.0, y.1, subst (Every (Has (get_or rs y.0 []))) (sym (covered_laid b s t p q)) y.2);
  no_two = x.no_two;
}

-- the games of the rooms, with one fuel for all
abbrev row : ℕ → Grid → List (List ℕ) → List Game
row n b rs = map (λ r. tree n (through b r)) rs

module _ (n : ℕ) (b : Grid) (rs : List (List ℕ)) (x : Split b rs) (enough : free_count b.cells ≤ n) (s : Side) where
  -- a move in one room changes that room alone
  row_after : (i p : ℕ) → i < length rs → Every (Has (get_or rs i [])) (covered b s p) → set (row n b rs) i (tree n (laid (through b (get_or rs i [])) s p)) ≡ row n (laid b s p) rs
  unfolding laid
  row_after i p less inside =
      ap (λ c. set (row n b rs) i (tree n c)) (laid_through b (get_or rs i []) s p)
      ∙ set_map (λ r. tree n (through b r)) (λ r. tree n (through (laid b s p) r)) rs i [] less
      (λ j below apart.
      ap (tree n)
      (through_elsewhere b (covered b s p) (get_or rs j [])
      (λ q h g. apart (x.no_two q j i below less g (all-has (Has (get_or rs i [])) (covered b s p) q inside h)))))

  fuel : (r : List ℕ) → free_count (through b r).cells ≤ n
  fuel r = let k = seen_fewer 0 r b.cells in omega arith

  -- each lawful move is a move in the row, and each move in the row a lawful one
  to_row : (p : ℕ) → may b s p ≡ true → Moved s (row n b rs) (row n (laid b s p) rs)
  to_row p m =
      let y = x.one s p m in
      let r = get_or rs y.0 [] in
      subst (Moved s (row n b rs)) (row_after y.0 p y.1 y.2)
      (moved_at s (row n b rs) y.0 (tree n (laid (through b r) s p)) (omega (arith, y.1, length-map rs (λ q. tree n (through b q))))
      (subst (λ g. In (tree n (laid (through b r) s p)) (options s g)) (sym (get_or-map (λ q. tree n (through b q)) rs y.0 [] empty y.1))
      (in_tree n (through b r) s (fuel r) p (to_through b r s p m y.2))))

  of_row : (P : List Game → Type 0) → ((p : ℕ) → may b s p ≡ true → P (row n (laid b s p) rs)) → (hs : List Game) → Moved s (row n b rs) hs → P hs
  of_row P each =
      of_moved s (row n b rs) P
      (λ i g less h.
      let below : i < length rs = omega (arith, length-map rs (λ q. tree n (through b q))) in
      let r = get_or rs i [] in
      of_tree n (through b r) s (fuel r) (λ k. P (set (row n b rs) i k))
      (λ p m. let y = of_through b r s p m in subst P (sym (row_after i p below y.1)) (each p y.0)) g
      (subst (λ k. In g (options s k)) (get_or-map (λ q. tree n (through b q)) rs i [] empty below) h))

mutual
  wins_row : (n : ℕ) (rs : List (List ℕ)) {s : Side} {b : Grid} → Wins s b → Split b rs → free_count b.cells ≤ n → First s (row n b rs)
  wins_row n rs {s} {b} (by p m l) x h =
      with (row n (laid b s p) rs) (to_row n b rs x h s p m) (loses_row n rs l (split_laid b rs x s p) (let less = laid_fewer b s p m in omega arith))

  loses_row : (n : ℕ) (rs : List (List ℕ)) {s : Side} {b : Grid} → Loses s b → Split b rs → free_count b.cells ≤ n → Second s (row n b rs)
  loses_row n rs {s} {b} (whatever f) x h =
      any (of_row n b rs x h s (First (other s)) (λ p m. wins_row n rs (f p m) (split_laid b rs x s p) (let less = laid_fewer b s p m in omega arith)))

-- the second square of a move is a neighbour of its place
second_next : {b : Grid} {p q : ℕ} {rest : List ℕ} → Linked b (p ∷ []) (q ∷ rest) → Next b p q
second_next {b} {p} {q} (next r h near more) =
    subst (λ t. Next b t q) (sym (⊎_elim (λ e. e) (λ g. absurd (has_none r g)) (has_cases p [] r h))) near

-- the rooms of a board split it
rooms_split : (b : Grid) (rs : List (List ℕ)) → 0 < b.width → Rooms b rs → Split b rs
unfolding MovesLaw
rooms_split b rs wide x = record {
  one = λ s p m.
      let move = moves_law b s p wide m in
      let r = x.whole p move.second move.all.0 move.all.1.0 (second_next move.linked) in
      let room = all-has (Room b) rs r.0 x.each r.1 in
      let squares : Every (Has r.0) (p ∷ move.second ∷ move.rest) = (r.2, spread b (Has r.0) room.closed move.linked (r.2, tt) move.all.1) in
      (r.1.0, r.1.1, subst (λ t. Every (Has t) (covered b s p)) (sym (r.1.2 [])) (subst (Every (Has r.0)) (sym move.squares) squares));
  no_two = λ q i j hi hj gi gj.
      rise_place first rs i j [] x.rising hi hj
      (same_room b (get_or rs i []) (get_or rs j []) q (All-get_or (Room b) rs i [] hi x.each) (All-get_or (Room b) rs j [] hj x.each) gi gj);
}

row_games : (b : Grid) (rs : List (List ℕ)) → row (free_count b.cells) b rs ≡ games_of b rs
unfolding games_of
row_games b [] = refl
row_games b (r ∷ rs) = ap (λ l. tree (free_count b.cells) (through b r) ∷ l) (row_games b rs)

pub rooms_law : RoomsLaw
unfolding RoomsLaw OneOutcome
rooms_law s b rs wide rooms =
    let n = free_count b.cells in
    let split = rooms_split b rs wide rooms in (
      λ w. subst (First s) (row_games b rs) (wins_row n rs w split (omega arith)),
      λ f.
          elim (one_outcome s b).0 [
            | inl w ↦ w
            | inr l ↦ absurd (not_first_second f (subst (Second s) (row_games b rs) (loses_row n rs l split (omega arith))))
          ],
    )

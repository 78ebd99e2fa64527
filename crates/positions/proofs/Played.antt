-- The games of a room's positions: their options are the games of the positions after a move.
use Rattle.std.proofs.Common.{◌≡◌, ℕ, ◌-◌, ◌^◌, ◌<◌, ◌≤◌, true, List, ◌∷◌, length, get_or, Option, None, Some, MatchOption, IfSome, is_some, unwrap_or, eqb, sym, refl, ap, ◌∙◌, subst, arith}
use lib.Bits.{bit_and}
use lib.Count.{ones}
use Rattle.std.specs.List.{ContainsAt as Has}
use Rattle.std.proofs.lemmas.Bool.{both_ways, eqb-true, eq-eqb}
use Rattle.games.specs.Game.{Game, options, In}
use Rattle.board.specs.Grid.{Grid, Side, free_count}
use Rattle.board.specs.Moves.{may, laid}
use Rattle.board.specs.Tree.{tree}
use Rattle.board.proofs.Covering.{covers_from}
use Rattle.board.proofs.Trees.{in_tree, of_tree}
use Rattle.rooms.proofs.Lists.{has_here}
use Rattle.rooms.proofs.Through.{covered, seen_fewer}
use Rattle.positions.specs.Sets.{has, chosen, position, inside, Holds, Move, set_in, row_for, Ground}
use Rattle.positions.specs.Reach.{Moves, Comes, already, after, game_at, set_at, Can, Leads, stay, move}
use Rattle.positions.proofs.Bits.{has_zero, ones_left, ones_some}
use Rattle.positions.proofs.Steps.{has_covered, may_at, laid_at, place_at, inside_at, part_at}

-- the set of a move, or the empty set
module _ (b : Grid) (qs : List ℕ) (s : Side) (q : ℕ) where
  -- where it is not empty, the move lies in the room
  some_inside : (set : Option ℕ) → Move b qs s q set → (unwrap_or set 0 ≡ 0 → ⊥) → inside b qs s q ≡ true
  unfolding Move
  some_inside None h some = absurd (some refl)
  some_inside (Some m) h some = h.0

  inside_holds : (set : Option ℕ) → Move b qs s q set → inside b qs s q ≡ true → Holds qs (covered b s q) (unwrap_or set 0)
  unfolding Move
  inside_holds None h e = absurd (both_ways (inside b qs s q) h e)
  inside_holds (Some m) h e = h.1

small_or : (set : Option ℕ) → IfSome set (λ m. m < 2 ^ 16) → unwrap_or set 0 < 2 ^ 16
small_or None h = omega arith
small_or (Some m) h = h

-- a rising room of free squares, and its moves
module _ (b : Grid) (qs : List ℕ) (ms : Moves) (made : Ground b qs ms.upright ms.flat) where
  -- a move that is not empty lies in the room
  inside_some : (s : Side) (i : ℕ) → i < length qs → (set_at ms s i ≡ 0 → ⊥) → inside b qs s (get_or qs i 0) ≡ true
  inside_some s i low = some_inside b qs s (get_or qs i 0) _ (made.each s i low)

  -- the set of one that lies in the room
  holds_there : (s : Side) (i : ℕ) → i < length qs → inside b qs s (get_or qs i 0) ≡ true → Holds qs (covered b s (get_or qs i 0)) (set_at ms s i)
  holds_there s i low = inside_holds b qs s (get_or qs i 0) _ (made.each s i low)

  -- and one that lies in the room has its own square
  has_own : (s : Side) (i : ℕ) → i < length qs → inside b qs s (get_or qs i 0) ≡ true → has (set_at ms s i) i ≡ true
  has_own s i low e =
      let first = covers_from b.width (length b.cells) s (get_or qs i 0) in
      has_covered b qs made.inside s i (set_at ms s i) e (holds_there s i low e) i low (subst (λ l. Has l (get_or qs i 0)) (sym first.2) (has_here (get_or qs i 0) (first.0 ∷ first.1)))

  -- what the move at a square leaves of a set, if all that it covers is there
  pub left_of : (set : ℕ) (s : Side) (i m : ℕ) (rest : Option ℕ) → set_in (row_for s ms.upright ms.flat) i ≡ Some m → i < length qs → is_some rest ≡ eqb (bit_and set m) m → IfSome rest (λ r. r ≡ set - m) →
      MatchOption rest (Can (length qs) ms set s i → ⊥) (λ r. Can (length qs) ms set s i × (r ≡ set - set_at ms s i))
  unfolding Move
  left_of set s i m None at low all is = λ can. both_ways (eqb (bit_and set m) m) (sym all) (eq-eqb (bit_and set m) m (subst (λ x. bit_and set x ≡ x) (ap (λ x. unwrap_or x 0) at) can.part))
  left_of set s i m (Some r) at low all is =
      let same : set_at ms s i ≡ m = ap (λ x. unwrap_or x 0) at in
      let in_room = (subst (λ x. Move b qs s (get_or qs i 0) x) at (made.each s i low)).0 in (
        record {
          low = low;
          some = λ z. both_ways (has (set_at ms s i) i) (ap (λ x. has x i) z ∙ has_zero i) (has_own s i low in_room);
          part = subst (λ x. bit_and set x ≡ x) (sym same) (eqb-true (bit_and set m) m (sym all));
        },
        is ∙ ap (λ x. set - x) (sym same),
      )

  -- a move leads to the position without its squares
  pub may_there : (set : ℕ) (s : Side) (i : ℕ) → Can (length qs) ms set s i → may (position b qs set) s (get_or qs i 0) ≡ true
  may_there set s i can = let e = inside_some s i can.low can.some in may_at b qs made.inside s i (set_at ms s i) e (holds_there s i can.low e) set can.part

  pub laid_there : (set : ℕ) (s : Side) (i : ℕ) → Can (length qs) ms set s i → laid (position b qs set) s (get_or qs i 0) ≡ position b qs (set - set_at ms s i)
  laid_there set s i can = let e = inside_some s i can.low can.some in laid_at b qs made.inside s i (set_at ms s i) e (holds_there s i can.low e) set can.part

  -- and every plank that may be laid is such a move
  pub can_there : (set p : ℕ) (s : Side) → may (position b qs set) s p ≡ true → (i : ℕ) × (get_or qs i 0 ≡ p) × Can (length qs) ms set s i
  can_there set p s lawful =
      let at = place_at b qs made.rising s set p lawful in
      let i = at.number in
      let ins = inside_at b qs made.rising s set p lawful in (
        i,
        at.is,
        record {
          low = at.low;
          some = λ z. both_ways (has (set_at ms s i) i) (ap (λ x. has x i) z ∙ has_zero i) (has_own s i at.low ins);
          part = part_at b qs made.rising s set p lawful 16 (set_at ms s i) (small_or _ (made.small s i)) (holds_there s i at.low ins);
        },
      )

  -- fewer squares are left
  pub fewer_ones : (set : ℕ) → set < 2 ^ 16 → (s : Side) (i : ℕ) → Can (length qs) ms set s i → ones (set - set_at ms s i) < ones set
  fewer_ones set small s i can =
      let left = ones_left 16 set (set_at ms s i) small can.part in
      let some = ones_some i (set_at ms s i) (has_own s i can.low (inside_some s i can.low can.some)) in
      omega arith

  enough : (set : ℕ) → free_count (position b qs set).cells ≤ free_count b.cells
  unfolding position
  enough set = seen_fewer 0 (chosen qs set) b.cells

  -- the options of a position's game are the games of the positions after a move
  pub in_game : (set : ℕ) (s : Side) (i : ℕ) → Can (length qs) ms set s i → In (game_at b qs (set - set_at ms s i)) (options s (game_at b qs set))
  unfolding game_at
  in_game set s i can =
      subst (λ c. In (tree (free_count b.cells) c) (options s (tree (free_count b.cells) (position b qs set)))) (laid_there set s i can)
      (in_tree (free_count b.cells) (position b qs set) s (enough set) (get_or qs i 0) (may_there set s i can))

  pub of_game : (set : ℕ) (s : Side) (P : Game → Type 0) → ((i : ℕ) → Can (length qs) ms set s i → P (game_at b qs (set - set_at ms s i))) → (x : Game) → In x (options s (game_at b qs set)) → P x
  unfolding game_at
  of_game set s P each =
      of_tree (free_count b.cells) (position b qs set) s (enough set) P
      (λ p lawful.
      let there = can_there set p s lawful in
      subst (λ c. P (tree (free_count b.cells) c)) (sym (subst (λ q. laid (position b qs set) s q ≡ position b qs (set - set_at ms s there.0)) there.1 (laid_there set s there.0 there.2)))
      (each there.0 there.2))

  -- the boards that planks make of a position are the positions that moves lead to
  pub leads_comes : {set end : ℕ} → Leads (length qs) ms set end → Comes (position b qs set) (position b qs end)
  leads_comes stay = already
  leads_comes {set} {end} (move s i can on) = after s (get_or qs i 0) (may_there set s i can) (subst (λ c. Comes c (position b qs end)) (sym (laid_there set s i can)) (leads_comes on))

  pub comes_leads : {c d : Grid} → Comes c d → (set : ℕ) → c ≡ position b qs set → (end : ℕ) × Leads (length qs) ms set end × (d ≡ position b qs end)
  comes_leads already set e = (set, stay, e)
  comes_leads {c} {d} (after s p lawful on) set e =
      let there = can_there set p s (subst (λ x. may x s p ≡ true) e lawful) in
      let next : laid c s p ≡ position b qs (set - set_at ms s there.0) =
      (λ t. laid (e t) s p) ∙ ap (laid (position b qs set) s) (sym there.1) ∙ laid_there set s there.0 there.2 in
      let rest = comes_leads on (set - set_at ms s there.0) next in
      (rest.0, move s there.0 there.2 rest.1, rest.2)

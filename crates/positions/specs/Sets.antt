-- Positions of a room as sets of its squares, which are bits of a number.
use Rattle.std.specs.Prelude.{◌≡◌, ℕ, zero, suc, ◌/◌, ◌%◌, ◌^◌, ◌<◌, ◌≤◌, Bool, true, false, ◌&&◌, List, [], ◌∷◌, length, Option, None, MatchOption, IfSome, ◌==◌, nat_lt, slice_index, slice_index_or}
use Rattle.std.specs.Coded.{Coded-set, coded_bool, coded_ℕ, ×_prop, Π_prop, Unit-prop, le_prop}
use Rattle.std.specs.List.{ContainsAt as Has, AllByRecursion-prop}
use Rattle.std.specs.Option.{MatchOption-prop}
use Rattle.board.specs.Grid.{Grid, Side, pick, free}
use Rattle.rooms.specs.Walks.{Rise}
use Rattle.board.specs.Moves.{covers, fits}
use Rattle.rooms.specs.Games.{among, through}

-- the set has square number i of a room
unfoldable pub has : ℕ → ℕ → Bool
has set zero = (set % 2) == 1
has set (suc i) = has (set / 2) i

-- the squares of a room that are in a set
abbrev pub chosen : List ℕ → ℕ → List ℕ
chosen [] set = []
chosen (q ∷ qs) set = pick ((set % 2) == 1) (q ∷ chosen qs (set / 2)) (chosen qs (set / 2))

-- the position of a room at a set: the board seen through the squares of the set
unfoldable pub position : Grid → List ℕ → ℕ → Grid
position b qs set = through b (chosen qs set)

-- all squares of the first list are among the second
abbrev pub all_among : List ℕ → List ℕ → Bool
all_among [] qs = true
all_among (p ∷ ps) qs = among qs p && all_among ps qs

-- a set has exactly these squares of a room
abbrev pub Holds : List ℕ → List ℕ → ℕ → Type 0
Holds qs ps set = (j : ℕ) → has set j ≡ (nat_lt j (length qs) && among ps (slice_index qs j))

-- the set of these squares, or None where one of them is not in the room
abbrev pub SetOf : List ℕ → List ℕ → Option ℕ → Type 0
SetOf qs ps set = MatchOption set (all_among ps qs ≡ false) (λ m. (all_among ps qs ≡ true) × Holds qs ps m)

-- the squares that the move of a side at a square covers
abbrev pub covered : Grid → Side → ℕ → List ℕ
covered b s q = covers b.width (length b.cells) s q

-- that move lies in the room
abbrev pub inside : Grid → List ℕ → Side → ℕ → Bool
inside b qs s q = fits b.width (length b.cells) s q && all_among (covered b s q) qs

-- the set of a move, or None where the move does not lie in the room
unfoldable pub Move : Grid → List ℕ → Side → ℕ → Option ℕ → Type 0
Move b qs s q set = MatchOption set (inside b qs s q ≡ false) (λ m. (inside b qs s q ≡ true) × Holds qs (covered b s q) m)

-- of two rows that of a side
abbrev pub row_for : {A : Type 0} → Side → List A → List A → List A
row_for true us ls = us
row_for false us ls = ls

-- the set of the move at square number i in a row of them
abbrev pub set_in : List (Option ℕ) → ℕ → Option ℕ
set_in row i = slice_index_or row i None

-- a rising room of at most 16 free squares, with 16 places for the sets of each side's moves, and for each square the set of the move there
pub record Ground (b : Grid) (qs : List ℕ) (us ls : List (Option ℕ)) : Type 0 where
  pub inside : (q : ℕ) → Has qs q → free b q ≡ true
  pub rising : Rise (λ q. q) qs
  pub few : length qs ≤ 16
  pub places : (s : Side) → length (row_for s us ls) ≡ 16
  pub small : (s : Side) (i : ℕ) → IfSome (set_in (row_for s us ls) i) (λ set. set < 2 ^ 16)
  pub each : (s : Side) (i : ℕ) → i < length qs → Move b qs s (slice_index qs i) (set_in (row_for s us ls) i)

rise_prop : (qs : List ℕ) → IsProp (Rise (λ q. q) qs)
rise_prop [] = Unit-prop
rise_prop (q ∷ qs) = ×_prop (AllByRecursion-prop (λ y. q < y) (λ y. le_prop) qs) (rise_prop qs)

move_prop : (b : Grid) (qs : List ℕ) (s : Side) (q : ℕ) (set : Option ℕ) → IsProp (Move b qs s q set)
unfolding Move
move_prop b qs s q set = MatchOption-prop set _ _ (Coded-set coded_bool _ _) (λ m. ×_prop (Coded-set coded_bool _ _) (Π_prop (λ j. Coded-set coded_bool _ _)))

-- of all this there is one proof at most
pub ground_prop : (b : Grid) (qs : List ℕ) (us ls : List (Option ℕ)) → IsProp (Ground b qs us ls)
ground_prop b qs us ls x y = λ t. record {
  inside = Π_prop (λ q. Π_prop (λ h. Coded-set coded_bool _ _)) x.inside y.inside t;
  rising = rise_prop qs x.rising y.rising t;
  few = le_prop x.few y.few t;
  places = Π_prop (λ s. Coded-set coded_ℕ _ _) x.places y.places t;
  small = Π_prop (λ s. Π_prop (λ i. MatchOption-prop (set_in (row_for s us ls) i) _ _ Unit-prop (λ m. le_prop))) x.small y.small t;
  each = Π_prop (λ s. Π_prop (λ i. Π_prop (λ h. move_prop b qs s (slice_index qs i) (set_in (row_for s us ls) i)))) x.each y.each t;
}

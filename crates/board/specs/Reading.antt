-- Reading a file: the list of checks in its order, and what a file that passes them holds.
use Rattle.std.specs.Prelude.{◌≡◌, ℕ, ◌+◌, ◌-◌, ◌*◌, ◌≤◌, Bool, true, false, not, ◌&&◌, ◌||◌, List, [], ◌∷◌, ◌++◌, map, length, take, drop, Some, None, Ok, Err, Option, Result, ◌==◌, nat_le, nat_lt, slice_index}
use Rattle.std.specs.List.{position_or_len}
use Rattle.board.specs.Grid.{Grid, Side, pick}
use Rattle.board.specs.Values.{side_of, grid_of}
use Rattle.board.specs.declared.refusal.Refusal.{Refusal}
use Rattle.board.specs.declared.refusal.Refusal.TheVariants.{Width, Height, Letter, Length, Square}
use Rattle.board.specs.declared.read.Setup.{Setup}
use Rattle.board.specs.declared.side.Side.{Side as Player}
use Rattle.board.specs.declared.side.UnknownSide.{UnknownSide}

-- a width or a height: 1 to 16
abbrev pub sized : ℕ → Bool
sized n = nat_le 1 n && nat_le n 16

-- the letter u or f
abbrev pub is_letter : ℕ → Bool
is_letter c = c == 117 || c == 102

-- the side that a letter stands for, or that it stands for none
abbrev pub Named : ℕ → Result Player UnknownSide → Type 0
Named c (Ok s) = (is_letter c ≡ true) × (side_of s ≡ (c == 117))
Named c (Err e) = (is_letter c ≡ false) × (e.0 ≡ c)

-- a square is written . where it is free and # where it is taken
abbrev pub is_free : ℕ → Bool
is_free c = c == 46

abbrev pub is_square_byte : ℕ → Bool
is_square_byte c = is_free c || c == 35

-- where the first byte stands that is no square; their number if all are squares
abbrev pub bad_at : List ℕ → ℕ
bad_at cs = position_or_len (λ c. not (is_square_byte c)) cs

-- a check of a file, and the refusal where the file fails it
pub record Check : Type 0 where
  pub passed : Bool
  pub refusal : Refusal

abbrev pub or_refuse : Bool → Refusal → Check
or_refuse t e = record { passed = t; refusal = e }

-- the refusal of the first check that is failed
abbrev pub first_failed : List Check → Option Refusal
first_failed [] = None
first_failed (k ∷ ks) = pick k.passed (first_failed ks) (Some k.refusal)

-- the width, the height, the side; a file that ends before one of them is refused by its length
abbrev pub head_checks : List ℕ → List Check
head_checks bs =
    or_refuse (nat_lt 0 (length bs)) (Length (length bs)) ∷
    or_refuse (sized (slice_index bs 0)) Width ∷
    or_refuse (nat_lt 1 (length bs)) (Length (length bs)) ∷
    or_refuse (sized (slice_index bs 1)) Height ∷
    or_refuse (nat_lt 2 (length bs)) (Length (length bs)) ∷
    or_refuse (is_letter (slice_index bs 2)) Letter ∷
    []

-- how many squares a file's width and height ask for, and the bytes that stand for them
abbrev pub asked : List ℕ → ℕ
asked bs = slice_index bs 0 * slice_index bs 1

abbrev pub squares : List ℕ → List ℕ
squares bs = take (asked bs) (drop 3 bs)

abbrev pub squares_check : List ℕ → Check
squares_check bs = or_refuse (bad_at (squares bs) == length (squares bs)) (Square (3 + bad_at (squares bs)))

-- all checks, in the list's order; the length's is passed or not
abbrev pub file_checks : Bool → List ℕ → List Check
file_checks long bs = head_checks bs ++ (or_refuse long (Length (length bs)) ∷ squares_check bs ∷ [])

-- what is read of a file: its refusal; or the side to move, and the board
pub data Read : Type 0 where
  refused : Refusal → Read
  holds : Side → Grid → Read

abbrev pub outcome : Option Refusal → Read → Read
outcome None r = r
outcome (Some e) r = refused e

-- the side and the board that a file writes
abbrev pub side_in : List ℕ → Side
side_in bs = slice_index bs 2 == 117

abbrev pub grid_in : List ℕ → Grid
grid_in bs = record { width = slice_index bs 0; cells = map is_free (squares bs) }

unfoldable pub file_read : Bool → List ℕ → Read
file_read long bs = outcome (first_failed (file_checks long bs)) (holds (side_in bs) (grid_in bs))

-- a board has exactly its squares after the first three bytes; a record may go on
abbrev pub board_read : List ℕ → Read
board_read bs = file_read (length bs - 3 == asked bs) bs

abbrev pub record_read : List ℕ → Read
record_read bs = file_read (nat_le (asked bs) (length bs - 3)) bs

-- the places that follow the squares of a record
unfoldable pub places_in : List ℕ → List ℕ
places_in bs = drop (3 + asked bs) bs

-- what the program's answer says
abbrev pub told : Result Setup Refusal → Read
told (Ok x) = holds (side_of x.side) (grid_of x.board)
told (Err e) = refused e

-- the first three bytes, or the refusal of the first check that they fail
pub record Headed (bs : List ℕ) (w h : ℕ) (s : Side) : Type 0 where
  pub passed : first_failed (head_checks bs) ≡ None
  pub long : 3 ≤ length bs
  pub width : w ≡ slice_index bs 0
  pub height : h ≡ slice_index bs 1
  pub side : s ≡ side_in bs
  pub wide : (1 ≤ w) × (w ≤ 16)
  pub high : (1 ≤ h) × (h ≤ 16)

-- the side and the board of a file whose squares pass their check
pub record Set (bs : List ℕ) (s : Side) (b : Grid) : Type 0 where
  pub passed : first_failed (squares_check bs ∷ []) ≡ None
  pub side : s ≡ side_in bs
  pub board : b ≡ grid_in bs

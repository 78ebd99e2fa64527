-- A chain of test numbers, and where a game stands among them. Assumes nothing: these are definitions.
use Rattle.std.specs.Prelude.{◌≡◌, true, false, ℕ, zero, suc, ◌+◌, ◌*◌, ◌≤◌, ◌<◌}
use Rattle.games.specs.Game.{Side, Game, game, none, more, options, In, empty}
use Rattle.games.specs.Order.{Le, NotLe, Equal}

-- n spare moves for the upright player, and for the flat one
abbrev pub plus : ℕ → Game
plus zero = empty
plus (suc n) = game (more (plus n) none) none

abbrev pub minus : ℕ → Game
minus zero = empty
minus (suc n) = game none (more (minus n) none)

-- the whole numbers from d spare moves of the flat player on
abbrev pub counted : ℕ → ℕ → Game
counted zero k = plus k
counted (suc d) zero = minus (suc d)
counted (suc d) (suc k) = counted d k

-- a row of numbers with one more between each two
abbrev pub refined : (ℕ → Game) → ℕ → Game
refined f zero = f zero
refined f (suc zero) = game (more (f 0) none) (more (f 1) none)
refined f (suc (suc i)) = refined (λ k. f (suc k)) i

-- test number i stands for i - 128 eighths of a spare move
unfoldable pub test : ℕ → Game
test = refined (refined (refined (counted 16)))

-- which whole number is the option of s in another, 0 being at d
abbrev pub Whole : ℕ → Side → ℕ → ℕ → Type 0
Whole d true i j = (d ≤ j) × (i ≡ j + 1)
Whole d false i j = (i < d) × (j ≡ i + 1)

-- the neighbour of an odd place
abbrev pub neighbour : Side → ℕ → ℕ
neighbour true k = 2 * k
neighbour false k = 2 * k + 2

-- and which number is the option of s in another where one more stands between each two
pub data Halved (s : Side) (Of : ℕ → ℕ → Type 0) (i j : ℕ) : Type 0 where
  odd : (k : ℕ) → i ≡ 2 * k + 1 → j ≡ neighbour s k → Halved s Of i j
  even : (k l : ℕ) → i ≡ 2 * k → j ≡ 2 * l → Of k l → Halved s Of i j

-- test number j is the option of s in test number i
abbrev pub Beside : Side → ℕ → ℕ → Type 0
Beside s = Halved s (Halved s (Halved s (Whole 16 s)))

-- the test numbers from 0 to 256 that are at least g are those from a on, and those that are at most g are those below b
pub record Bounded (g : Game) (a b : ℕ) : Type 0 where
  pub above_cap : a ≤ 257
  pub below_cap : b ≤ 257
  pub not_above : (i : ℕ) → i < a → NotLe g (test i)
  pub above : (i : ℕ) → a ≤ i → i ≤ 256 → Le g (test i)
  pub below : (i : ℕ) → i < b → Le (test i) g
  pub not_below : (i : ℕ) → b ≤ i → i ≤ 256 → NotLe (test i) g

-- the test numbers that some upright option of g is at least are those below lo, and those that some flat option is at most are those from hi on
pub record Framed (g : Game) (lo hi : ℕ) : Type 0 where
  pub low_cap : lo ≤ 257
  pub high_cap : hi ≤ 257
  pub lows : (i : ℕ) → i < lo → (x : Game) × In x (options true g) × Le (test i) x
  pub not_lows : (i : ℕ) → lo ≤ i → i ≤ 256 → (x : Game) → In x (options true g) → NotLe (test i) x
  pub highs : (i : ℕ) → hi ≤ i → i ≤ 256 → (y : Game) × In y (options false g) × Le y (test i)
  pub not_highs : (i : ℕ) → i < hi → (y : Game) → In y (options false g) → NotLe y (test i)

-- test number s lies from lo on and below hi, and its options do not
pub record Simplest (lo hi s : ℕ) : Type 0 where
  pub low : lo ≤ s
  pub high : s < hi
  pub left : (j : ℕ) → Beside true s j → j < lo
  pub right : (j : ℕ) → Beside false s j → hi ≤ j

-- the test numbers rise
unfoldable pub NumbersRise : Type 0
NumbersRise = (i j : ℕ) → (i ≤ j → Le (test i) (test j)) × (i < j → NotLe (test j) (test i))

-- where two games stand apart among the test numbers, this decides their order
unfoldable pub BoundsDecide : Type 0
BoundsDecide =
    (g h : Game) (a b c d : ℕ) → Bounded g a b → Bounded h c d → (c < a → NotLe g h) × (d < b → NotLe g h) × (a < d → Le g h)

-- where a game stands, from where its options stand: no number lies between the options of the two players, or the simplest one there is equal to it
unfoldable pub BoundsHot : Type 0
BoundsHot = (g : Game) (lo hi : ℕ) → Framed g lo hi → hi ≤ lo → Bounded g lo hi

unfoldable pub BoundsCold : Type 0
BoundsCold = (g : Game) (lo hi s : ℕ) → Framed g lo hi → Simplest lo hi s → Equal g (test s) × Bounded g s (s + 1)

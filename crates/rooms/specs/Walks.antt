-- Squares that are reached from one another, and lists of squares.
use Rattle.std.specs.Prelude.{◌≡◌, ℕ, ◌<◌, ◌≤◌, true, List, [], ◌∷◌, count_by, nat_eq, slice_index}
use Rattle.std.specs.List.{AllByRecursion as Every}
use Rattle.board.specs.Grid.{Grid, free, Next}

-- from p to q over free neighbours
pub data Walk (b : Grid) : ℕ → ℕ → Type 0 where
  stay : {p : ℕ} → Walk b p p
  go : {p r : ℕ} (q : ℕ) → Next b p q → free b q ≡ true → Walk b q r → Walk b p r

-- f rises from each thing of a list to all that follow
abbrev pub Rise : {X : Type 0} → (X → ℕ) → List X → Type 0
Rise f [] = Unit {0}
Rise f (x ∷ xs) = Every (λ y. f x < f y) xs × Rise f xs

-- how often q stands in a list
abbrev pub times : ℕ → List ℕ → ℕ
times q qs = count_by (λ p. nat_eq p q) qs

-- no square stands twice
abbrev pub Apart : List ℕ → Type 0
Apart qs = (q : ℕ) → times q qs ≤ 1

-- the first square of a list
abbrev pub first : List ℕ → ℕ
first qs = slice_index qs 0

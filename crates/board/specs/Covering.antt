-- What may be known of the squares that a move covers, whatever its shape.
use Rattle.std.specs.Prelude.{◌≡◌, ℕ, ◌<◌, true, List, [], ◌∷◌, length}
use Rattle.std.specs.List.{ContainsAt as Has, AllByRecursion as Every}
use Rattle.board.specs.Grid.{Grid, Side, free, Next}
use Rattle.board.specs.Moves.{covers, may}

-- each square of the second list is a neighbour of one before it; those of the first list are before them all
pub data Linked (b : Grid) : List ℕ → List ℕ → Type 0 where
  done : {before : List ℕ} → Linked b before []
  next : {before after : List ℕ} {q : ℕ} (r : ℕ) → Has before r → Next b r q → Linked b (q ∷ before) after → Linked b before (q ∷ after)

-- a lawful move covers its place first, and at least one square more; each is a neighbour of one before it, and all are free
pub record Covering (b : Grid) (s : Side) (p : ℕ) : Type 0 where
  pub second : ℕ
  pub rest : List ℕ
  pub squares : covers b.width (length b.cells) s p ≡ p ∷ second ∷ rest
  pub linked : Linked b (p ∷ []) (second ∷ rest)
  pub all : Every (λ q. free b q ≡ true) (p ∷ second ∷ rest)

-- so it is on every board that is at least one square wide
unfoldable pub MovesLaw : Type 0
MovesLaw = (b : Grid) (s : Side) (p : ℕ) → 0 < b.width → may b s p ≡ true → Covering b s p

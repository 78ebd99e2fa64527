-- What a row of numbers remembers of pairs of forms. Place 2 i of it is 0 or the key of a pair, place 2 i + 1 then the form that is remembered of the pair.
use Rattle.std.specs.Prelude.{◌≡◌, ℕ, ◌+◌, ◌*◌, ◌<◌, ◌⊎◌, List, Some, None, Option, slice_index_or}

-- the key of a pair
abbrev pub key_of : ℕ → ℕ → ℕ
key_of x y = 1 + x * 16384 + y

-- form k is remembered of the pair of x and y, in this order
pub record Holds (ps : List ℕ) (x y k : ℕ) : Type 0 where
  pub slot : ℕ
  pub first : x < 16384
  pub second : y < 16384
  pub key : slice_index_or ps (2 * slot) 0 ≡ key_of x y
  pub form : slice_index_or ps (2 * slot + 1) 0 ≡ k

-- two pairs are the same, whatever the order
abbrev pub SamePair : ℕ → ℕ → ℕ → ℕ → Type 0
SamePair x y a b = ((x ≡ a) × (y ≡ b)) ⊎ ((x ≡ b) × (y ≡ a))

-- only what is remembered of a pair, in one of the two orders, is recalled of it
abbrev pub Recalled : List ℕ → ℕ → ℕ → Option ℕ → Type 0
Recalled ps x y (Some k) = Holds ps x y k ⊎ Holds ps y x k
Recalled ps x y None = Unit {0}

-- what is remembered after was so before, or is form k of the pair of x and y
abbrev pub OnlyMore : List ℕ → ℕ → ℕ → ℕ → List ℕ → Type 0
OnlyMore ps x y k rs = (a b j : ℕ) → Holds rs a b j → Holds ps a b j ⊎ (SamePair a b x y × (j ≡ k))

-- The order of games: reflexive, decided, transitive.
use mathlib.Core.Bool.{true, false}
use mathlib.Core.Logic.{◌⊎◌, inl, inr}
use Rattle.games.specs.Game.{Game, options, In}
use Rattle.games.specs.Order.{Le, le, NotLe, up, down, Order, Decided}
use Rattle.games.proofs.Induction.{ind, all_or_one, flipped}

pub le_refl : (g : Game) → Le g g
le_refl = ind (λ g. Le g g) (λ g ih. le (λ x i. up x i (ih true x i)) (λ y i. down y i (ih false y i)))

-- a game is never at most another and not at most it
mutual
  pub not_both : {g h : Game} → Le g h → NotLe g h → ⊥
  not_both (le f k) (up x i p) = both_not (f x i) p
  not_both (le f k) (down y i p) = both_not (k y i) p

  both_not : {g h : Game} → NotLe g h → Le g h → ⊥
  both_not (up x i p) (le f k) = not_both p (f x i)
  both_not (down y i p) (le f k) = not_both p (k y i)

abbrev Either : Game → Game → Type 0
Either g h = Le g h ⊎ NotLe g h

-- one game compared with another, where the comparisons of their options with them are known
decide_step :
    (g h : Game) → ((x : Game) → In x (options true g) → Either h x) → ((y : Game) → In y (options false h) → Either y g) → Either g h
decide_step g h lefts rights =
    go (all_or_one (options true g) (λ x i. flipped (lefts x i))) (all_or_one (options false h) (λ y i. flipped (rights y i)))
  where
    go :
        ((x : Game) → In x (options true g) → NotLe h x) ⊎ ((x : Game) × In x (options true g) × Le h x) →
        ((y : Game) → In y (options false h) → NotLe y g) ⊎ ((y : Game) × In y (options false h) × Le y g) → Either g h
    go (inr x) rest = inr (up x.0 x.1 x.2)
    go (inl f) (inr y) = inr (down y.0 y.1 y.2)
    go (inl f) (inl k) = inl (le f k)

-- by induction over both games, each compared with the other
pub decide : (g h : Game) → Le g h ⊎ NotLe g h
decide g h =
    (ind (λ g. (h : Game) → Either g h × Either h g)
    (λ g ihg.
    ind (λ h. Either g h × Either h g)
    (λ h ihh. (
      decide_step g h (λ x i. (ihg true x i h).1) (λ y i. (ihh false y i).1),
      decide_step h g (λ x i. (ihh true x i).0) (λ y i. (ihg false y i h).0),
    ))) g h).0

pub decided : Decided
unfolding Decided
decided g h = (decide g h, not_both)

abbrev Through : Game → Game → Game → Type 0
Through g h k = Le g h → Le h k → Le g k

-- one case of transitivity, where those that it calls for are known
through_step :
    (g h k : Game) → ((x : Game) → In x (options true g) → Through h k x) → ((y : Game) → In y (options false k) → Through y g h) → Through g h k
through_step g h k lefts rights p q = go (decide g k) p q
  where
    go : Either g k → Le g h → Le h k → Le g k
    go (inl r) p q = r
    go (inr (up x i r)) (le f f') q = absurd (not_both (lefts x i q r) (f x i))
    go (inr (down y i r)) p (le f f') = absurd (not_both (rights y i r p) (f' y i))

-- by induction over all three games, in every rotation
pub le_trans : {g h k : Game} → Le g h → Le h k → Le g k
le_trans {g} {h} {k} =
    (ind (λ g. (h k : Game) → Round g h k)
    (λ g ihg.
    ind (λ h. (k : Game) → Round g h k)
    (λ h ihh.
    ind (λ k. Round g h k)
    (λ k ihk. (
      through_step g h k (λ x i. (ihg true x i h k).1) (λ y i. (ihk false y i).2),
      through_step h k g (λ x i. (ihh true x i k).2) (λ y i. (ihg false y i h k).0),
      through_step k g h (λ x i. (ihk true x i).0) (λ y i. (ihh false y i k).1),
    )))) g h k).0
  where
    Round : Game → Game → Game → Type 0
    Round g h k = Through g h k × Through h k g × Through k g h

pub order : Order
unfolding Order
order = (le_refl, λ g h k. le_trans)

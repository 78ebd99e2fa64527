-- Induction over games, and search through their options.
use mathlib.Core.Bool.{true, false}
use mathlib.Core.Logic.{◌⊎◌, inl, inr}
use Rattle.games.specs.Game.{Side, Game, game, Games, none, more, options, In, here, there}
use Rattle.games.proofs.Lists.{in_more}

module _ (P : Game → Type 0) (step : (g : Game) → ((s : Side) (x : Game) → In x (options s g) → P x) → P g) where
  mutual
    -- what holds of a game if it holds of its options, holds of every game
    pub ind : (g : Game) → P g
    ind (game l r) = step (game l r) (λ s x i. elim s as (λ t. In x (options t (game l r)) → P x) [ true ↦ ind_all l x | false ↦ ind_all r x ] i)

    ind_all : (gs : Games) (x : Game) → In x gs → P x
    ind_all none x i = elim i [ ]
    ind_all (more g gs) x here = ind g
    ind_all (more g gs) x (there i) = ind_all gs x i

-- the same with what is known of the options' options
pub deep :
    (P : Game → Type 0) → ((g : Game) → ((s t : Side) (x y : Game) → In x (options s g) → In y (options t x) → P y) → P g) → (g : Game) → P g
deep P step g =
    (ind (λ h. P h × ((s : Side) (x : Game) → In x (options s h) → P x))
    (λ h ih. (step h (λ s t x y i j. (ih s x i).1 t y j), λ s x i. (ih s x i).0)) g).0

-- where each game of a list is P or Q, all are P or one is Q
pub all_or_one :
    {P Q : Game → Type 0} (gs : Games) → ((x : Game) → In x gs → P x ⊎ Q x) →
    ((x : Game) → In x gs → P x) ⊎ ((x : Game) × In x gs × Q x)
all_or_one none each = inl (λ x i. elim i [ ])
all_or_one {P} {Q} (more g gs) each = go (each g here) (all_or_one gs (λ x i. each x (there i)))
  where
    go :
        P g ⊎ Q g → ((x : Game) → In x gs → P x) ⊎ ((x : Game) × In x gs × Q x) →
        ((x : Game) → In x (more g gs) → P x) ⊎ ((x : Game) × In x (more g gs) × Q x)
    go (inr q) rest = inr (g, here, q)
    go (inl p) (inl ps) = inl (in_more P g gs p ps)
    go (inl p) (inr q) = inr (q.0, there q.1, q.2)

pub flipped : {A B : Type 0} → A ⊎ B → B ⊎ A
flipped (inl a) = inr a
flipped (inr b) = inl b

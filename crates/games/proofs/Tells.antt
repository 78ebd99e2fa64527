-- Who wins one game, a game beside its negative, and a row of games by its sum.
use mathlib.Core.Bool.{true, false}
use mathlib.Core.List.{List, [], ◌∷◌}
use mathlib.Core.Logic.Iff
use mathlib.Core.Logic.{◌⊎◌, ◌↔◌, inl, inr}
use Rattle.games.specs.Game.{Side, Game, empty, neg}
use Rattle.games.specs.Play.{First, with}
use Rattle.games.specs.Order.{Worse, NotWorse}
use Rattle.games.specs.Sum.{SumNeg, SumStands, SumTurns}
use Rattle.games.specs.Count.{Ahead, Summed, nothing, plus, SumTells}
use Rattle.games.proofs.Sides.{worse_refl, worse_or_not, worse_not_both}
use Rattle.games.proofs.Rows.{not_first_second}
use Rattle.games.proofs.Stand.{against}
use Rattle.games.proofs.Sums.{sum_turns, with_empty}
use Rattle.games.proofs.Beside.{sum_first, sums_stand}

-- who moves in one game makes the last move exactly if the game is, for that side, not worse than the empty game
pub ahead_first : (s : Side) (t : Game) → Ahead s t ↔ First s (t ∷ [])
ahead_first s t = Iff.trans (beside s t, λ a. go a (worse_or_not s t empty)) (sum_first t empty t (with_empty t) s [])
  where
    beside : (s : Side) (t : Game) → Ahead s t → First s (t ∷ empty ∷ [])
    beside true t q = (against t empty false).1 q
    beside false t q = (against t empty true).1 q

    go : First s (t ∷ empty ∷ []) → Worse s t empty ⊎ NotWorse s t empty → Ahead s t
    go a (inr q) = q
    go a (inl p) = absurd (not_first_second a ((against t empty s).0 p))

pub sum_neg : SumNeg
unfolding SumNeg
sum_neg g k p = (go true (worse_or_not true k empty), go false (worse_or_not false k empty))
  where
    go : (s : Side) → Worse s k empty ⊎ NotWorse s k empty → Worse s k empty
    go s (inl q) = q
    go s (inr q) = absurd (not_first_second ((sum_first g (neg g) k p s []).1 ((ahead_first s k).0 q)) ((against g g s).0 (worse_refl s g)))

-- the sum of a row stands for the row
pub summed_first : {t u : Game} {gs : List Game} → Summed t gs u → (s : Side) → First s (t ∷ gs) ↔ First s (u ∷ [])
unfolding SumStands
summed_first nothing s = (λ a. a, λ a. a)
summed_first {t} (plus {g = g} {gs = gs} k w p c e rest) s = Iff.trans (sums_stand t g k w p e s gs) (summed_first rest s)

beside_empty : (s : Side) (gs : List Game) → First s (empty ∷ gs) ↔ First s gs
unfolding SumTurns
beside_empty s [] = (λ a. absurd (worse_not_both s empty empty (worse_refl s empty) ((ahead_first s empty).1 a)), nobody)
  where
    nobody : {A : Type 0} {s : Side} → First s [] → A
    nobody (with hs m q) = elim m [ ]
beside_empty s (g ∷ gs) = sum_first empty g g (sum_turns g empty g (with_empty g)) s gs

pub sum_tells : SumTells
unfolding SumTells
sum_tells gs t row s = Iff.trans (Iff.symm (beside_empty s gs)) (Iff.trans (summed_first row s) (Iff.symm (ahead_first s t)))

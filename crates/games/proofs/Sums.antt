-- The relation of sums: every two games have one, in either order, and the empty game adds nothing.
use mathlib.Core.Bool.{true, false}
use Rattle.games.specs.Game.{Side, Game, Games, options, In, both, empty}
use Rattle.games.specs.Sum.{Sum, sum, Made, in_one, in_two, Found, found, SumExists, SumTurns}
use Rattle.games.proofs.Induction.{ind}
use Rattle.games.proofs.Lists.{of, in_of, of_of, in_first, in_last, of_both, Collected, collect}

-- the sum of two games, where the sums of their options are known
sum_step :
    (g h : Game) → ((s : Side) (x : Game) → In x (options s g) → (k : Game) × Sum x h k) →
    ((s : Side) (y : Game) → In y (options s h) → (k : Game) × Sum g y k) → (k : Game) × Sum g h k
sum_step g h in_g in-h = (of all, sum made one two)
  where
    ones : (s : Side) → Collected (λ x k. Sum x h k) (options s g)
    ones s = collect (λ x k. Sum x h k) (options s g) (in_g s)

    twos : (s : Side) → Collected (Sum g) (options s h)
    twos s = collect (Sum g) (options s h) (in-h s)

    all : Side → Games
    all s = both (ones s).list (twos s).list

    made : (s : Side) (x : Game) → In x (options s (of all)) → Made s g h x
    made s x i =
        of_both (Made s g h) (ones s).list (twos s).list (λ k j. let m = (ones s).from k j in in_one m.0 m.1 m.2)
        (λ k j. let m = (twos s).from k j in in_two m.0 m.1 m.2) x (of_of all s x i)

    one : (s : Side) (y : Game) → In y (options s g) → Found y h (options s (of all))
    one s y i = let m = (ones s).to y i in found m.0 (in_of all s m.0 (in_first (twos s).list m.1)) m.2

    two : (s : Side) (y : Game) → In y (options s h) → Found g y (options s (of all))
    two s y i = let m = (twos s).to y i in found m.0 (in_of all s m.0 (in_last (ones s).list m.1)) m.2

pub sum_exists : SumExists
unfolding SumExists
sum_exists =
    ind (λ g. (h : Game) → (k : Game) × Sum g h k)
    (λ g ihg. ind (λ h. (k : Game) × Sum g h k) (λ h ihh. sum_step g h (λ s x i. ihg s x i h) ihh))

mutual
  turned : {g h k : Game} → Sum g h k → Sum h g k
  turned (sum a b c) = sum (λ s x i. made_turned (a s x i)) (λ s y i. found_turned (c s y i)) (λ s y i. found_turned (b s y i))

  made_turned : {s : Side} {g h x : Game} → Made s g h x → Made s h g x
  made_turned (in_one y i p) = in_two y i (turned p)
  made_turned (in_two y i p) = in_one y i (turned p)

  found_turned : {g h : Game} {xs : Games} → Found g h xs → Found h g xs
  found_turned (found x i p) = found x i (turned p)

pub sum_turns : SumTurns
unfolding SumTurns
sum_turns g h k = turned

pub no_move : {A : Type 0} (s : Side) (x : Game) → In x (options s empty) → A
no_move true x i = elim i [ ]
no_move false x i = elim i [ ]

pub with_empty : (g : Game) → Sum g empty g
with_empty =
    ind (λ g. Sum g empty g)
    (λ g ih. sum (λ s x i. in_one x i (ih s x i)) (λ s y i. found y i (ih s y i)) (λ s y i. no_move s y i))

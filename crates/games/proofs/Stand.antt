-- Equal games stand for each other in play, and games that do are equal.
use mathlib.Core.Bool.{true, false}
use mathlib.Core.List.{List, [], ◌∷◌}
use mathlib.Core.Logic.{◌⊎◌, inl, inr}
use Rattle.games.specs.Game.{Side, other, Game, options, In, neg}
use Rattle.games.specs.Play.{Moved, this, that, First, with, Second, any, Same}
use Rattle.games.specs.Order.{Le, le, NotLe, up, down, Equal, Worse, NotWorse, TestRight}
use Rattle.games.proofs.Induction.{ind}
use Rattle.games.proofs.Compare.{decide}
use Rattle.games.proofs.Sides.{worse_refl, worse_own, worse_reply, not_worse_cases}
use Rattle.games.proofs.Lists.{in_neg, of_neg}
use Rattle.games.proofs.Rows.{of_move, row_ind, not_first_second, first_if}

-- where g is at most h, the upright player does not fare worse with h, nor the flat player with g
abbrev Agrees : Game → Game → List Game → Type 0
Agrees g h gs =
    (Le g h → First true (g ∷ gs) → Second true (h ∷ gs) → ⊥)
    × (Le g h → First false (h ∷ gs) → Second false (g ∷ gs) → ⊥)
    × (NotLe g h → Second true (g ∷ gs) → Second false (h ∷ gs) → ⊥)

agrees_step :
    (g h : Game) (gs : List Game) → ((s : Side) (x : Game) → In x (options s g) → Agrees h x gs) →
    ((s : Side) (y : Game) → In y (options s h) → Agrees y g gs) → ((s : Side) (hs : List Game) → Moved s gs hs → Agrees g h hs) → Agrees g h gs
agrees_step g h gs in_g in-h in-gs = (upright, flat, neither)
  where
    upright : Le g h → First true (g ∷ gs) → Second true (h ∷ gs) → ⊥
    upright (le f k) (with _ (this {h = x} i) q) r = (in_g true x i).2 (f x i) r q
    upright p (with _ (that {hs = hs} m) q) (any f) = (in-gs true hs m).1 p (f (h ∷ hs) (that m)) q

    flat : Le g h → First false (h ∷ gs) → Second false (g ∷ gs) → ⊥
    flat (le f k) (with _ (this {h = y} i) q) r = (in-h false y i).2 (k y i) q r
    flat p (with _ (that {hs = hs} m) q) (any f) = (in-gs false hs m).0 p (f (g ∷ hs) (that m)) q

    neither : NotLe g h → Second true (g ∷ gs) → Second false (h ∷ gs) → ⊥
    neither (up x i p) (any f) r = (in_g true x i).1 p (f (x ∷ gs) (this i)) r
    neither (down y i p) r (any f) = (in-h false y i).0 p (f (y ∷ gs) (this i)) r

agrees : (g h : Game) (gs : List Game) → Agrees g h gs
agrees g h gs =
    (ind (λ g. (h : Game) (gs : List Game) → Agrees g h gs × Agrees h g gs)
    (λ g ihg.
    ind (λ h. (gs : List Game) → Agrees g h gs × Agrees h g gs)
    (λ h ihh.
    row_ind (λ gs. Agrees g h gs × Agrees h g gs)
    (λ gs ih. (
      agrees_step g h gs (λ s x i. (ihg s x i h gs).1) (λ s y i. (ihh s y i gs).1) (λ s hs m. (ih s hs m).0),
      agrees_step h g gs (λ s x i. (ihh s x i gs).0) (λ s y i. (ihg s y i h gs).0) (λ s hs m. (ih s hs m).1),
    )))) g h gs).0

pub better : (s : Side) (g h : Game) → Worse s g h → (gs : List Game) → First s (g ∷ gs) → First s (h ∷ gs)
better true g h p gs a = first_if true (h ∷ gs) ((agrees g h gs).0 p a)
better false g h p gs a = first_if false (h ∷ gs) ((agrees h g gs).1 p a)

pub equal_same : (g h : Game) → Equal g h → Same g h
unfolding Same
equal_same g h e true gs = (better true g h e.0 gs, better true h g e.1 gs)
equal_same g h e false gs = (better false g h e.1 gs, better false h g e.0 gs)

-- the order of g and h tells who wins g beside h with its players exchanged
abbrev Against : Game → Game → Type 0
Against g h = (s : Side) → (Worse s g h → Second s (g ∷ neg h ∷ [])) × (NotWorse s h g → First (other s) (g ∷ neg h ∷ []))

with_other : (s : Side) {gs hs : List Game} → Moved (other s) gs hs → Second s hs → First (other s) gs
with_other true m q = with _ m q
with_other false m q = with _ m q

against_step :
    (g h : Game) → ((s : Side) (x : Game) → In x (options s g) → Against x h) → ((s : Side) (y : Game) → In y (options s h) → Against g y) → Against g h
against_step g h in_g in-h s = (second, λ q. first (not_worse_cases s h g q))
  where
    second : Worse s g h → Second s (g ∷ neg h ∷ [])
    second p =
        any (of_move (First (other s)) (λ x i. (in_g s x i s).1 (worse_own s g h p x i))
        (of_move (λ hs. First (other s) (g ∷ hs))
        (of_neg (λ z. First (other s) (g ∷ z ∷ [])) s h (λ y i. (in-h (other s) y i s).1 (worse_reply s g h p y i))) (λ hs m. elim m [ ])))

    first :
        ((x : Game) × In x (options s h) × Worse s g x) ⊎ ((y : Game) × In y (options (other s) g) × Worse s y h) → First (other s) (g ∷ neg h ∷ [])
    first (inl x) = with_other s (that (this (in_neg s h x.0 x.1))) ((in-h s x.0 x.1 s).0 x.2)
    first (inr y) = with_other s (this y.1) ((in_g (other s) y.0 y.1 s).0 y.2)

pub against : (g h : Game) → Against g h
against =
    ind (λ g. (h : Game) → Against g h)
    (λ g ihg. ind (λ h. Against g h) (λ h ihh. against_step g h (λ s x i. ihg s x i h) ihh))

same_le : (g h : Game) → Same g h → Le g h
unfolding Same
same_le g h same = go (decide g h)
  where
    go : Le g h ⊎ NotLe g h → Le g h
    go (inl p) = p
    go (inr q) = absurd (not_first_second ((same false (neg g ∷ [])).1 ((against h g true).1 q)) ((against g g false).0 (worse_refl false g)))

pub same_equal : (g h : Game) → Same g h → Equal g h
unfolding Same
same_equal g h same = (same_le g h same, same_le h g (λ s gs. ((same s gs).1, (same s gs).0)))

pub test_right : TestRight
unfolding TestRight
test_right g h = (equal_same g h, same_equal g h)

-- Sums in play: a sum stands for its parts; so it respects equality, and its parts may be grouped in any way.
use mathlib.Core.List.{List, ◌∷◌}
use mathlib.Core.Logic.Iff
use mathlib.Core.Logic.{◌↔◌}
use Rattle.games.specs.Game.{Side, Game, options, empty}
use Rattle.games.specs.Play.{Moved, this, that, First, Same}
use Rattle.games.specs.Sum.{Sum, sum, Made, in_one, in_two, Found, found, SumStands, SumEqual, SumGroups, SumEmpty}
use Rattle.games.proofs.Sides.{equal_refl}
use Rattle.games.proofs.Rows.{of_move, Matches, won_alike}
use Rattle.games.proofs.Stand.{equal_same, same_equal}
use Rattle.games.proofs.Sums.{with_empty}

-- rows that differ in a sum for its two parts
data Joint : List Game → List Game → Type 0 where
  joint : {g h k : Game} {gs : List Game} → Sum g h k → Joint (g ∷ h ∷ gs) (k ∷ gs)

joint_forth : Matches Joint
joint_forth s _ _ hs (joint {g = g} {k = k} {gs = gs} (sum a b c)) m =
    of_move Goal (λ x i. go (b s x i)) (of_move (λ hs. Goal (g ∷ hs)) (λ y i. go (c s y i)) (λ hs m. (k ∷ hs, that m, joint (sum a b c)))) hs m
  where
    Goal : List Game → Type 0
    Goal hs = (hs' : List Game) × Moved s (k ∷ gs) hs' × Joint hs hs'

    go : {x y : Game} → Found x y (options s k) → Goal (x ∷ y ∷ gs)
    go (found z i p) = (z ∷ gs, this i, joint p)

joint_back : Matches (λ gs gs'. Joint gs' gs)
joint_back s _ _ hs' (joint {g = g} {h = h} {gs = gs} (sum a b c)) m =
    of_move Goal (λ x i. go (a s x i)) (λ hs m. (g ∷ h ∷ hs, that (that m), joint (sum a b c))) hs' m
  where
    Goal : List Game → Type 0
    Goal hs' = (hs : List Game) × Moved s (g ∷ h ∷ gs) hs × Joint hs hs'

    go : {x : Game} → Made s g h x → Goal (x ∷ gs)
    go (in_one y i p) = (y ∷ h ∷ gs, this i, joint p)
    go (in_two y i p) = (g ∷ y ∷ gs, that (this i), joint p)

pub sum_first : (g h k : Game) → Sum g h k → (s : Side) (gs : List Game) → First s (g ∷ h ∷ gs) ↔ First s (k ∷ gs)
sum_first g h k p s gs = won_alike Joint joint_forth joint_back s (g ∷ h ∷ gs) (k ∷ gs) (joint p)

pub sums_stand : SumStands
unfolding SumStands Same
sums_stand g h k m p e s gs = Iff.trans (sum_first g h k p s gs) (equal_same k m e s gs)

-- rows in which two neighbours have changed places
pub data Swapped : List Game → List Game → Type 0 where
  swap : {g h : Game} {gs : List Game} → Swapped (g ∷ h ∷ gs) (h ∷ g ∷ gs)
  past : {g : Game} {gs hs : List Game} → Swapped gs hs → Swapped (g ∷ gs) (g ∷ hs)

swapped_back : {gs hs : List Game} → Swapped gs hs → Swapped hs gs
swapped_back swap = swap
swapped_back (past p) = past (swapped_back p)

swapped_forth : {s : Side} {gs gs' : List Game} → Swapped gs gs' → (hs : List Game) → Moved s gs hs → (hs' : List Game) × Moved s gs' hs' × Swapped hs hs'
swapped_forth (swap {g = g} {h = h} {gs = gs}) _ (this {h = x} i) = (h ∷ x ∷ gs, that (this i), swap)
swapped_forth (swap {g = g} {h = h} {gs = gs}) _ (that (this {h = y} i)) = (y ∷ g ∷ gs, this i, swap)
swapped_forth (swap {g = g} {h = h} {gs = gs}) _ (that (that {hs = hs} m)) = (h ∷ g ∷ hs, that (that m), swap)
swapped_forth (past {hs = gs'} p) _ (this {h = x} i) = (x ∷ gs', this i, past p)
swapped_forth (past {g = g} p) _ (that {hs = hs} m) = let r = swapped_forth p hs m in (g ∷ r.0, that r.1, past r.2)

pub swapped : (s : Side) {gs hs : List Game} → Swapped gs hs → First s gs ↔ First s hs
swapped s {gs} {hs} p =
    won_alike Swapped (λ s gs gs' hs q m. swapped_forth q hs m)
    (λ s gs gs' hs q m. let r = swapped_forth (swapped_back q) hs m in (r.0, r.1, swapped_back r.2)) s gs hs p

pub sum_equal : SumEqual
unfolding SumEqual Same
sum_equal g h k g' h' k' e f p p' =
    same_equal k k'
    (λ s gs.
    Iff.trans (Iff.symm (sum_first g h k p s gs))
    (Iff.trans (equal_same g g' e s (h ∷ gs))
    (Iff.trans (swapped s swap) (Iff.trans (equal_same h h' f s (g' ∷ gs)) (Iff.trans (swapped s swap) (sum_first g' h' k' p' s gs))))))

pub sum_groups : SumGroups
unfolding SumGroups Same
sum_groups g h i gh hi k k' p q p' q' =
    same_equal k k'
    (λ s gs.
    Iff.trans (Iff.symm (Iff.trans (sum_first g h gh p s (i ∷ gs)) (sum_first gh i k q s gs)))
    (Iff.trans (swapped s swap)
    (Iff.trans (swapped s (past swap)) (Iff.trans (sum_first h i hi p' s (g ∷ gs)) (Iff.trans (swapped s swap) (sum_first g hi k' q' s gs))))))

pub sum_empty : SumEmpty
unfolding SumEmpty SumEqual
sum_empty g = (with_empty g, λ k p. sum_equal g empty k g empty g (equal_refl g) (equal_refl empty) p (with_empty g))

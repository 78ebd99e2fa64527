-- Play in a row of games: it ends, one side wins, and rows whose moves match are won alike.
use mathlib.Core.List.{List, [], ◌∷◌}
use mathlib.Core.Logic.{◌⊎◌, ◌↔◌, inl, inr}
use Rattle.games.specs.Game.{Side, other, Game, options, In}
use Rattle.games.specs.Play.{Moved, this, that, First, with, Second, any, Outcome}
use Rattle.games.proofs.Induction.{ind, all_or_one}

-- a move is one in the first game or one in the rest
pub of_move :
    {s : Side} {g : Game} {gs : List Game} (P : List Game → Type 0) → ((x : Game) → In x (options s g) → P (x ∷ gs)) →
    ((hs : List Game) → Moved s gs hs → P (g ∷ hs)) → (hs : List Game) → Moved s (g ∷ gs) hs → P hs
of_move P first rest _ (this {h = x} i) = first x i
of_move P first rest _ (that {hs = hs} m) = rest hs m

-- every play in a row ends
data Ends : List Game → Type 0 where
  ends : {gs : List Game} → ((s : Side) (hs : List Game) → Moved s gs hs → Ends hs) → Ends gs

ends_more : (g : Game) (gs : List Game) → Ends gs → Ends (g ∷ gs)
ends_more = ind (λ g. (gs : List Game) → Ends gs → Ends (g ∷ gs)) (λ g ih. inner g ih)
  where
    inner :
        (g : Game) → ((s : Side) (x : Game) → In x (options s g) → (gs : List Game) → Ends gs → Ends (x ∷ gs)) → (gs : List Game) → Ends gs →
        Ends (g ∷ gs)
    inner g ih gs (ends f) = ends (λ s. of_move Ends (λ x i. ih s x i gs (ends f)) (λ hs m. inner g ih hs (f s hs m)))

ends_all : (gs : List Game) → Ends gs
ends_all [] = ends (λ s hs m. elim m [ ])
ends_all (g ∷ gs) = ends_more g gs (ends_all gs)

-- what holds of a row if it holds after each move, holds of every row
pub row_ind :
    (P : List Game → Type 0) → ((gs : List Game) → ((s : Side) (hs : List Game) → Moved s gs hs → P hs) → P gs) → (gs : List Game) → P gs
row_ind P step gs = go (ends_all gs)
  where
    go : {gs : List Game} → Ends gs → P gs
    go {gs} (ends f) = step gs (λ s hs m. go (f s hs m))

-- where after each move P or Q holds, P holds after all or Q after one
moves_all_or_one :
    {P Q : List Game → Type 0} (s : Side) (gs : List Game) → ((hs : List Game) → Moved s gs hs → P hs ⊎ Q hs) →
    ((hs : List Game) → Moved s gs hs → P hs) ⊎ ((hs : List Game) × Moved s gs hs × Q hs)
moves_all_or_one s [] each = inl (λ hs m. elim m [ ])
moves_all_or_one {P} {Q} s (g ∷ gs) each =
    go (all_or_one (options s g) (λ x i. each (x ∷ gs) (this i))) (moves_all_or_one s gs (λ hs m. each (g ∷ hs) (that m)))
  where
    go :
        ((x : Game) → In x (options s g) → P (x ∷ gs)) ⊎ ((x : Game) × In x (options s g) × Q (x ∷ gs)) →
        ((hs : List Game) → Moved s gs hs → P (g ∷ hs)) ⊎ ((hs : List Game) × Moved s gs hs × Q (g ∷ hs)) →
        ((hs : List Game) → Moved s (g ∷ gs) hs → P hs) ⊎ ((hs : List Game) × Moved s (g ∷ gs) hs × Q hs)
    go (inr x) rest = inr (x.0 ∷ gs, this x.1, x.2)
    go (inl p) (inr m) = inr (g ∷ m.0, that m.1, m.2)
    go (inl p) (inl q) = inl (of_move P p q)

-- the side to move makes the last move or does not
pub first_or_second : (s : Side) (gs : List Game) → First s gs ⊎ Second s gs
first_or_second s gs = row_ind (λ gs. (s : Side) → First s gs ⊎ Second s gs) (λ gs ih s. go (moves_all_or_one s gs (λ hs m. ih s hs m (other s)))) gs s
  where
    go :
        {s : Side} {gs : List Game} →
        ((hs : List Game) → Moved s gs hs → First (other s) hs) ⊎ ((hs : List Game) × Moved s gs hs × Second (other s) hs) → First s gs ⊎ Second s gs
    go (inl f) = inr (any f)
    go (inr m) = inl (with m.0 m.1 m.2)

-- never both
mutual
  pub not_first_second : {s : Side} {gs : List Game} → First s gs → Second s gs → ⊥
  not_first_second (with hs m q) (any f) = not_second_first q (f hs m)

  not_second_first : {s : Side} {gs : List Game} → Second s gs → First s gs → ⊥
  not_second_first (any f) (with hs m q) = not_first_second (f hs m) q

pub outcome : Outcome
unfolding Outcome
outcome s gs = (first_or_second s gs, not_first_second)

-- who does not come second comes first
pub first_if : (s : Side) (gs : List Game) → (Second s gs → ⊥) → First s gs
first_if s gs no_second = elim (first_or_second s gs) [ inl p ↦ p | inr q ↦ absurd (no_second q) ]

-- each move in a row has a match in every row that R relates to it
abbrev pub Matches : (List Game → List Game → Type 0) → Type 0
Matches R = (s : Side) (gs gs' hs : List Game) → R gs gs' → Moved s gs hs → (hs' : List Game) × Moved s gs' hs' × R hs hs'

module _ (R : List Game → List Game → Type 0) (forth : Matches R) (back : Matches (λ gs gs'. R gs' gs)) where
  mutual
    first_along : {s : Side} {gs : List Game} → First s gs → (gs' : List Game) → R gs gs' → First s gs'
    first_along {s} {gs} (with hs m q) gs' r = let m' = forth s gs gs' hs r m in with m'.0 m'.1 (second_along q m'.0 m'.2)

    second_along : {s : Side} {gs : List Game} → Second s gs → (gs' : List Game) → R gs gs' → Second s gs'
    second_along {s} {gs} (any f) gs' r = any (λ hs' m'. let m = back s gs' gs hs' r m' in first_along (f m.0 m.1) hs' m.2)

-- rows whose moves match, again and again, are won alike
pub won_alike :
    (R : List Game → List Game → Type 0) → Matches R → Matches (λ gs gs'. R gs' gs) → (s : Side) (gs gs' : List Game) → R gs gs' →
    First s gs ↔ First s gs'
won_alike R forth back s gs gs' r = (λ a. first_along R forth back a gs' r, λ a. first_along (λ hs hs'. R hs' hs) back forth a gs r)

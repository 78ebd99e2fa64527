-- The order as one side sees it: each law once for both sides. And the laws of equal games.
use mathlib.Core.Bool.{true, false}
use mathlib.Core.Logic.{◌⊎◌, inl, inr}
use Rattle.games.specs.Game.{Side, other, Game, options, In}
use Rattle.games.specs.Order.{Le, le, NotLe, up, down, Equal, Worse, NotWorse}
use Rattle.games.proofs.Compare.{le_refl, le_trans, decide, not_both}

pub worse_refl : (s : Side) (g : Game) → Worse s g g
worse_refl true g = le_refl g
worse_refl false g = le_refl g

pub worse_trans : (s : Side) (g h k : Game) → Worse s g h → Worse s h k → Worse s g k
worse_trans true g h k p q = le_trans p q
worse_trans false g h k p q = le_trans q p

pub worse_or_not : (s : Side) (g h : Game) → Worse s g h ⊎ NotWorse s g h
worse_or_not true g h = decide g h
worse_or_not false g h = decide h g

pub worse_not_both : (s : Side) (g h : Game) → Worse s g h → NotWorse s g h → ⊥
worse_not_both true g h = not_both
worse_not_both false g h = not_both

-- what is worse for the one side, is worse the other way round for the other
pub turn : (s : Side) (g h : Game) → Worse (other s) g h → Worse s h g
turn true g h p = p
turn false g h p = p

pub turn_not : (s : Side) (g h : Game) → NotWorse (other s) g h → NotWorse s h g
turn_not true g h p = p
turn_not false g h p = p

-- g is worse if none of its options is as good as h, and no reply in h as bad as g
pub worse_by :
    (s : Side) (g h : Game) → ((x : Game) → In x (options s g) → NotWorse s h x) →
    ((y : Game) → In y (options (other s) h) → NotWorse s y g) → Worse s g h
worse_by true g h own replies = le own replies
worse_by false g h own replies = le replies own

-- and only then
pub worse_own : (s : Side) (g h : Game) → Worse s g h → (x : Game) → In x (options s g) → NotWorse s h x
worse_own true g h (le own replies) = own
worse_own false g h (le replies own) = own

pub worse_reply : (s : Side) (g h : Game) → Worse s g h → (y : Game) → In y (options (other s) h) → NotWorse s y g
worse_reply true g h (le own replies) = replies
worse_reply false g h (le replies own) = replies

-- g is not worse if an option is as good as h
pub by_option : (s : Side) (g h x : Game) → In x (options s g) → Worse s h x → NotWorse s g h
by_option true g h x i p = up x i p
by_option false g h x i p = down x i p

-- or a reply in h as bad as g
pub by_reply : (s : Side) (g h y : Game) → In y (options (other s) h) → Worse s y g → NotWorse s g h
by_reply true g h y i p = down y i p
by_reply false g h y i p = up y i p

-- and only then
pub not_worse_cases :
    (s : Side) (g h : Game) → NotWorse s g h →
    ((x : Game) × In x (options s g) × Worse s h x) ⊎ ((y : Game) × In y (options (other s) h) × Worse s y g)
not_worse_cases true g h (up x i p) = inl (x, i, p)
not_worse_cases true g h (down y i p) = inr (y, i, p)
not_worse_cases false g h (up y i p) = inr (y, i, p)
not_worse_cases false g h (down x i p) = inl (x, i, p)

-- a game is no worse than its own options
pub own : (s : Side) (g x : Game) → In x (options s g) → NotWorse s g x
own s g x i = by_option s g x x i (worse_refl s x)

-- what is better than a game that is not worse, is not worse
pub not_worse_above : (s : Side) (g h k : Game) → Worse s g h → NotWorse s g k → NotWorse s h k
not_worse_above s g h k p q = elim (worse_or_not s h k) [ inl r ↦ absurd (worse_not_both s g k (worse_trans s g h k p r) q) | inr r ↦ r ]

pub not_worse_below : (s : Side) (g h k : Game) → NotWorse s g k → Worse s h k → NotWorse s g h
not_worse_below s g h k p q = elim (worse_or_not s g h) [ inl r ↦ absurd (worse_not_both s g k (worse_trans s g h k r q) p) | inr r ↦ r ]

pub equal_refl : (g : Game) → Equal g g
equal_refl g = (le_refl g, le_refl g)

pub equal_sym : {g h : Game} → Equal g h → Equal h g
equal_sym e = (e.1, e.0)

pub equal_trans : {g h k : Game} → Equal g h → Equal h k → Equal g k
equal_trans e f = (le_trans e.0 f.0, le_trans f.1 e.1)

pub equal_or_not : (g h : Game) → Equal g h ⊎ (Equal g h → ⊥)
equal_or_not g h = go (decide g h) (decide h g)
  where
    go : Le g h ⊎ NotLe g h → Le h g ⊎ NotLe h g → Equal g h ⊎ (Equal g h → ⊥)
    go (inl p) (inl q) = inl (p, q)
    go (inl p) (inr q) = inr (λ e. not_both e.1 q)
    go (inr p) rest = inr (λ e. not_both e.0 p)

pub equal_worse : (s : Side) (g h : Game) → Equal g h → Worse s g h
equal_worse true g h e = e.0
equal_worse false g h e = e.1

pub worse_equal : (s : Side) (g h : Game) → Worse s g h → Worse s h g → Equal g h
worse_equal true g h p q = (p, q)
worse_equal false g h p q = (q, p)

-- games are equal if neither is worse than an option of the other
pub equal_by :
    (g h : Game) → ((s : Side) (x : Game) → In x (options s g) → NotWorse s h x) →
    ((s : Side) (x : Game) → In x (options s h) → NotWorse s g x) → Equal g h
equal_by g h f k = (le (f true) (k false), le (k true) (f false))

-- and so if each option of the one has an equal in the other
pub equal_options :
    (g h : Game) → ((s : Side) (x : Game) → In x (options s g) → (y : Game) × In y (options s h) × Equal x y) →
    ((s : Side) (y : Game) → In y (options s h) → (x : Game) × In x (options s g) × Equal y x) → Equal g h
equal_options g h forth back =
    equal_by g h (λ s x i. let y = forth s x i in by_option s h x y.0 y.1 (equal_worse s x y.0 y.2))
    (λ s y i. let x = back s y i in by_option s g y x.0 x.1 (equal_worse s y x.0 x.2))

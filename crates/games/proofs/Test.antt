-- The computed test of order is right.
use mathlib.Core.Path.{◌≡◌, refl}
use mathlib.Core.Bool.{Bool, true, false, not, ◌&&◌, true≢false, false≢true}
use mathlib.Core.Logic.{◌⊎◌, ◌↔◌, inl, inr}
use Prim.Native.Nat.{ℕ, zero, suc, ◌+◌, ◌≤◌, ◌<◌}
use native.Mathlib.Omega.{arith}
use Rattle.games.specs.Game.{Side, Game, game, Games, none, more, options, In, here, there, neg}
use Rattle.games.specs.Order.{Le, le, NotLe, up, down, size, sizes, no_one, at_most_by, Computed}
use Rattle.games.specs.Sum.{SumExists, SumNeg}
use Rattle.games.specs.Examples.{one, Examples}
use Rattle.games.proofs.Compare.{not_both}
use Rattle.games.proofs.Lists.{in_more}
use Rattle.games.proofs.Sums.{sum_exists}
use Rattle.games.proofs.Tells.{sum_neg}

-- an option is smaller than its game
in_sizes : {x : Game} {gs : Games} → In x gs → size x ≤ sizes gs
in_sizes here = omega arith
in_sizes (there i) = let rest = in_sizes i in omega (arith, rest)

smaller : (s : Side) (g x : Game) → In x (options s g) → size x < size g
smaller true (game l r) x i = let part = in_sizes i in omega (arith, part)
smaller false (game l r) x i = let part = in_sizes i in omega (arith, part)

some_size : (g : Game) → 0 < size g
some_size (game l r) = omega arith

-- the answer of a test, with what it shows: A if it is true, B if it is false
data Shows (A B : Type 0) : Bool → Type 0 where
  so : A → Shows A B true
  not_so : B → Shows A B false

shows_both : {A A' B B' C D : Type 0} {b b' : Bool} → (A → A' → C) → (B ⊎ B' → D) → Shows A B b → Shows A' B' b' → Shows C D (b && b')
shows_both f k (so p) (so q) = so (f p q)
shows_both f k (so p) (not_so q) = not_so (k (inr q))
shows_both f k (not_so p) (so q) = not_so (k (inl p))
shows_both f k (not_so p) (not_so q) = not_so (k (inl p))

shows_not : {A B : Type 0} {b : Bool} → Shows A B b → Shows B A (not b)
shows_not (so p) = not_so p
shows_not (not_so p) = so p

shows_no_one :
    {A B : Game → Type 0} (p : Game → Bool) (gs : Games) → ((x : Game) → In x gs → Shows (B x) (A x) (p x)) →
    Shows ((x : Game) → In x gs → A x) ((x : Game) × In x gs × B x) (no_one p gs)
shows_no_one p none each = so (λ x i. elim i [ ])
shows_no_one {A} {B} p (more g gs) each =
    shows_both (in_more A g gs) (elim [ inl q ↦ (g, here, q) | inr q ↦ (q.0, there q.1, q.2) ]) (shows_not (each g here))
    (shows_no_one p gs (λ x i. each x (there i)))

shows_at_most : (n : ℕ) (g h : Game) → size g + size h ≤ n → Shows (Le g h) (NotLe g h) (at_most_by n g h)
shows_at_most zero g h fits = absurd (omega (arith, some_size g))
shows_at_most (suc n) g h fits =
    shows_both le (elim [ inl x ↦ up x.0 x.1 x.2 | inr y ↦ down y.0 y.1 y.2 ])
    (shows_no_one {A = λ x. NotLe h x} {B = λ x. Le h x} (λ x. at_most_by n h x) (options true g)
    (λ x i. shows_at_most n h x (omega (arith, smaller true g x i))))
    (shows_no_one {A = λ y. NotLe y g} {B = λ y. Le y g} (λ y. at_most_by n y g) (options false h)
    (λ y i. shows_at_most n y g (omega (arith, smaller false h y i))))

pub computed : Computed
unfolding Computed
computed g h = go (shows_at_most (size g + size h) g h (omega arith))
  where
    go : {b : Bool} → Shows (Le g h) (NotLe g h) b → (b ≡ true ↔ Le g h) × (b ≡ false ↔ NotLe g h)
    go (so p) = ((λ e. p, λ q. refl), (λ e. absurd (true≢false e), λ q. absurd (not_both p q)))
    go (not_so p) = ((λ e. absurd (false≢true e), λ q. absurd (not_both q p)), (λ e. p, λ q. refl))

pub examples : Examples
unfolding Computed SumExists SumNeg
examples =
    let sum = sum_exists one (neg one) in
    record {
      star_apart = ((computed _ _).1.0 refl, (computed _ _).1.0 refl);
      switch_apart = ((computed _ _).1.0 refl, (computed _ _).1.0 refl);
      one_each = (sum.0, sum.1, sum_neg one sum.0 sum.1);
      half_less = ((computed _ _).0.0 refl, (computed _ _).1.0 refl);
    }

-- Where a game stands among the test numbers: what this decides, and how it comes from its options.
use mathlib.Core.Path.{◌≡◌, sym, subst}
use mathlib.Core.Bool.{true, false}
use Prim.Native.Nat.{ℕ, ◌+◌, ◌≤◌, ◌<◌}
use native.Mathlib.Omega.{arith}
use Rattle.games.specs.Game.{Game}
use Rattle.games.specs.Order.{Le, le, NotLe, up, down, Equal}
use Rattle.games.specs.Numbers.{test, Beside, Bounded, Framed, Simplest, BoundsDecide, BoundsHot, BoundsCold}
use Rattle.games.proofs.Compare.{le_trans}
use Rattle.games.proofs.Sides.{not_worse_above, not_worse_below}
use Rattle.games.proofs.Numbers.{rise, part, test_options, lower, higher, not_past}

pub bounds_decide : BoundsDecide
unfolding BoundsDecide
bounds_decide g h a b c d p q =
    let cap = p.above_cap in
    let cap' = p.below_cap in
    let cap'' = q.below_cap in (
      λ less. not_worse_below true g h (test c) (p.not_above c less) (q.above c (omega arith) (omega arith)),
      λ less. not_worse_above true (test d) g h (p.below d less) (q.not_below d (omega arith) (omega arith)),
      λ less. le_trans (p.above a (omega arith) (omega arith)) (q.below a less),
    )

module _ (g : Game) (lo hi : ℕ) (f : Framed g lo hi) where
  -- g is at most a test number from lo on whose flat options are from hi on
  at_most_test : (i : ℕ) → lo ≤ i → i ≤ 256 → ((j : ℕ) → Beside false i j → hi ≤ j) → Le g (test i)
  at_most_test i h cap far = le (f.not_lows i h cap) (λ y m. go y (test_options false i y m))
    where
      go : (y : Game) → (j : ℕ) × Beside false i j × (y ≡ test j) → NotLe y g
      go y r =
          let k = f.highs r.0 (far r.0 r.1) (not_past i r.0 cap r.1) in
          subst (λ z. NotLe z g) (sym r.2) (down k.0 k.1 k.2)

  -- and at least one below hi whose upright options are below lo
  at_least_test : (i : ℕ) → i < hi → ((j : ℕ) → Beside true i j → j < lo) → Le (test i) g
  at_least_test i h far = le (λ x m. go x (test_options true i x m)) (f.not_highs i h)
    where
      go : (x : Game) → (j : ℕ) × Beside true i j × (x ≡ test j) → NotLe g x
      go x r = let k = f.lows r.0 (far r.0 r.1) in subst (NotLe g) (sym r.2) (up k.0 k.1 k.2)

  hot : hi ≤ lo → Bounded g lo hi
  hot meet =
      record {
        above_cap = f.low_cap;
        below_cap = f.high_cap;
        not_above = λ i h. let k = f.lows i h in up k.0 k.1 k.2;
        above = λ i h cap. at_most_test i h cap (λ j b. let less = higher i j b in omega arith);
        below = λ i h. at_least_test i h (λ j b. let less = lower i j b in omega arith);
        not_below = λ i h cap. let k = f.highs i h cap in down k.0 k.1 k.2;
      }

  cold : (s : ℕ) → Simplest lo hi s → Equal g (test s)
  cold s p =
      let low = p.low in
      let high = p.high in
      let cap = f.high_cap in
      (at_most_test s low (omega arith) p.right, at_least_test s high p.left)

-- a game equal to a test number stands where that one does
pub at_number : (g : Game) (s : ℕ) → s ≤ 256 → Equal g (test s) → Bounded g s (s + 1)
at_number g s cap e =
    record {
      above_cap = omega arith;
      below_cap = omega arith;
      not_above = λ i h. not_worse_above true (test s) g (test i) e.1 (part i s h);
      above = λ i h top. le_trans e.0 (rise s i h);
      below = λ i h. le_trans (rise i s (omega arith)) e.1;
      not_below = λ i h top. not_worse_below true (test i) g (test s) (part s i (omega arith)) e.0;
    }

pub bounds_hot : BoundsHot
unfolding BoundsHot
bounds_hot = hot

pub bounds_cold : BoundsCold
unfolding BoundsCold
bounds_cold g lo hi s f p =
    let e = cold g lo hi f s p in
    let high = p.high in
    let cap = f.high_cap in
    (e, at_number g s (omega arith) e)

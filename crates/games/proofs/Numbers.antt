-- The chain of test numbers: each is above the one before it, and what its options are.
use mathlib.Core.Path.{◌≡◌, refl, sym, subst, ◌∙◌}
use mathlib.Core.Bool.{true, false}
use Prim.Native.Nat.{ℕ, zero, suc, ◌+◌, ◌-◌, ◌*◌, ◌≤◌, ◌<◌}
use native.Mathlib.Omega.{arith}
use Rattle.games.specs.Game.{Side, Game, game, none, more, options, In, here, empty}
use Rattle.games.specs.Order.{Le, le, NotLe, up, down}
use Rattle.games.specs.Numbers.{plus, minus, counted, refined, test, Whole, Halved, odd, even, Beside, NumbersRise}
use Rattle.games.proofs.Lists.{in_more}
use Rattle.games.proofs.Compare.{le_refl, le_trans}
use Rattle.games.proofs.Sides.{not_worse_above}

-- what holds of a game, holds of every game in the list of it alone
in_one : (P : Game → Type 0) (g : Game) → P g → (x : Game) → In x (more g none) → P x
in_one P g p = in_more P g none p (λ x i. elim i [ ])

-- a row of games that rises, each between its own options
record Chain (f : ℕ → Game) : Type 0 where
  rises : (k : ℕ) → Le (f k) (f (suc k))
  parts : (k : ℕ) → NotLe (f (suc k)) (f k)
  own : (k : ℕ) (x : Game) → In x (options true (f k)) → Le x (f k)
  replies : (k : ℕ) (y : Game) → In y (options false (f k)) → Le (f k) y

shifted : (f : ℕ → Game) → Chain f → Chain (λ k. f (suc k))
shifted f c =
    record { rises = λ k. c.rises (suc k); parts = λ k. c.parts (suc k); own = λ k. c.own (suc k); replies = λ k. c.replies (suc k) }

-- the whole numbers are such a row
plus_rises : (n : ℕ) → Le (plus n) (plus (suc n))
plus_rises zero = le (λ x i. elim i [ ]) (λ y i. elim i [ ])
plus_rises (suc n) = le (in_one (λ x. NotLe (plus (suc (suc n))) x) (plus n) (up (plus (suc n)) here (plus_rises n))) (λ y i. elim i [ ])

minus_falls : (n : ℕ) → Le (minus (suc n)) (minus n)
minus_falls zero = le (λ x i. elim i [ ]) (λ y i. elim i [ ])
minus_falls (suc n) = le (λ x i. elim i [ ]) (in_one (λ y. NotLe y (minus (suc (suc n)))) (minus n) (down (minus (suc n)) here (minus_falls n)))

counted_rises : (d k : ℕ) → Le (counted d k) (counted d (suc k))
counted_rises zero k = plus_rises k
counted_rises (suc zero) zero = minus_falls 0
counted_rises (suc (suc d)) zero = minus_falls (suc d)
counted_rises (suc d) (suc k) = counted_rises d k

counted_parts : (d k : ℕ) → NotLe (counted d (suc k)) (counted d k)
counted_parts zero k = up (plus k) here (le_refl (plus k))
counted_parts (suc zero) zero = down empty here (le_refl empty)
counted_parts (suc (suc d)) zero = down (minus (suc d)) here (le_refl (minus (suc d)))
counted_parts (suc d) (suc k) = counted_parts d k

counted_own : (d k : ℕ) (x : Game) → In x (options true (counted d k)) → Le x (counted d k)
counted_own zero zero x i = elim i [ ]
counted_own zero (suc k) x i = in_one (λ x. Le x (plus (suc k))) (plus k) (plus_rises k) x i
counted_own (suc d) zero x i = elim i [ ]
counted_own (suc d) (suc k) x i = counted_own d k x i

counted_replies : (d k : ℕ) (y : Game) → In y (options false (counted d k)) → Le (counted d k) y
counted_replies zero zero y i = elim i [ ]
counted_replies zero (suc k) y i = elim i [ ]
counted_replies (suc d) zero y i = in_one (λ y. Le (minus (suc d)) y) (minus d) (minus_falls d) y i
counted_replies (suc d) (suc k) y i = counted_replies d k y i

counted_chain : (d : ℕ) → Chain (counted d)
counted_chain d = record { rises = counted_rises d; parts = counted_parts d; own = counted_own d; replies = counted_replies d }

-- and stay one with one more between each two
refined_rises : (f : ℕ → Game) → Chain f → (k : ℕ) → Le (refined f k) (refined f (suc k))
refined_rises f c zero = le (λ x i. up (f 0) here (c.own 0 x i)) (in_one (λ y. NotLe y (f 0)) (f 1) (c.parts 0))
refined_rises f c (suc zero) = le (in_one (λ x. NotLe (f 1) x) (f 0) (c.parts 0)) (λ y i. down (f 1) here (c.replies 1 y i))
refined_rises f c (suc (suc k)) = refined_rises (λ k. f (suc k)) (shifted f c) k

refined_parts : (f : ℕ → Game) → (k : ℕ) → NotLe (refined f (suc k)) (refined f k)
refined_parts f zero = up (f 0) here (le_refl (f 0))
refined_parts f (suc zero) = down (f 1) here (le_refl (f 1))
refined_parts f (suc (suc k)) = refined_parts (λ k. f (suc k)) k

refined_own : (f : ℕ → Game) → Chain f → (k : ℕ) (x : Game) → In x (options true (refined f k)) → Le x (refined f k)
refined_own f c zero x i = c.own 0 x i
refined_own f c (suc zero) x i = in_one (λ x. Le x (refined f 1)) (f 0) (refined_rises f c 0) x i
refined_own f c (suc (suc k)) x i = refined_own (λ k. f (suc k)) (shifted f c) k x i

refined_replies : (f : ℕ → Game) → Chain f → (k : ℕ) (y : Game) → In y (options false (refined f k)) → Le (refined f k) y
refined_replies f c zero y i = c.replies 0 y i
refined_replies f c (suc zero) y i = in_one (λ y. Le (refined f 1) y) (f 1) (refined_rises f c 1) y i
refined_replies f c (suc (suc k)) y i = refined_replies (λ k. f (suc k)) (shifted f c) k y i

refined_chain : (f : ℕ → Game) → Chain f → Chain (refined f)
refined_chain f c =
    record { rises = refined_rises f c; parts = refined_parts f; own = refined_own f c; replies = refined_replies f c }

test_chain : Chain test
unfolding test
test_chain = refined_chain _ (refined_chain _ (refined_chain _ (counted_chain 16)))

-- so the test numbers rise
rise_by : (n i j : ℕ) → n + i ≡ j → Le (test i) (test j)
rise_by zero i j e = let same : i ≡ j = omega arith in subst (λ k. Le (test i) (test k)) same (le_refl (test i))
rise_by (suc n) i zero e = absurd (omega arith)
rise_by (suc n) i (suc j) e = le_trans (rise_by n i j (omega arith)) (test_chain.rises j)

pub rise : (i j : ℕ) → i ≤ j → Le (test i) (test j)
rise i j h = rise_by (j - i) i j (omega arith)

pub part : (i j : ℕ) → i < j → NotLe (test j) (test i)
part i j h = not_worse_above true (test (suc i)) (test j) (test i) (rise (suc i) j (omega arith)) (test_chain.parts i)

pub numbers_rise : NumbersRise
unfolding NumbersRise
numbers_rise i j = (rise i j, part i j)

-- the options of each number of a row are others of it
abbrev OptionsOf : Side → (ℕ → Game) → (ℕ → ℕ → Type 0) → Type 0
OptionsOf s f Of = (i : ℕ) (x : Game) → In x (options s (f i)) → (j : ℕ) × Of i j × (x ≡ f j)

counted_options : (d : ℕ) (s : Side) → OptionsOf s (counted d) (Whole d s)
counted_options zero true zero x i = elim i [ ]
counted_options zero true (suc k) x i = in_one (λ x. (j : ℕ) × Whole 0 true (suc k) j × (x ≡ plus j)) (plus k) (k, (omega arith, omega arith), refl) x i
counted_options zero false zero x i = elim i [ ]
counted_options zero false (suc k) x i = elim i [ ]
counted_options (suc d) true zero x i = elim i [ ]
counted_options (suc d) false zero x i =
    in_one (λ x. (j : ℕ) × Whole (suc d) false 0 j × (x ≡ counted (suc d) j)) (minus d) (1, (omega arith, omega arith), first d) x i
  where
    first : (d : ℕ) → minus d ≡ counted d 0
    first zero = refl
    first (suc d) = refl
counted_options (suc d) true (suc k) x i = let r = counted_options d true k x i in let a = r.1.0 in let b = r.1.1 in (suc r.0, (omega arith, omega arith), r.2)
counted_options (suc d) false (suc k) x i = let r = counted_options d false k x i in let a = r.1.0 in let b = r.1.1 in (suc r.0, (omega arith, omega arith), r.2)

-- the even places of a refined row, and the odd ones
abbrev twice : ℕ → ℕ
twice zero = zero
twice (suc k) = suc (suc (twice k))

twice_is : (k : ℕ) → twice k ≡ 2 * k
twice_is zero = refl
twice_is (suc k) = let e = twice_is k in omega arith

at_twice : (f : ℕ → Game) (k : ℕ) → refined f (twice k) ≡ f k
at_twice f zero = refl
at_twice f (suc k) = at_twice (λ k. f (suc k)) k

at_even : (f : ℕ → Game) (k : ℕ) → refined f (2 * k) ≡ f k
at_even f k = subst (λ i. refined f i ≡ f k) (twice_is k) (at_twice f k)

past_twice : (f : ℕ → Game) (k : ℕ) → refined f (suc (twice k)) ≡ game (more (f k) none) (more (f (suc k)) none)
past_twice f zero = refl
past_twice f (suc k) = past_twice (λ k. f (suc k)) k

at_odd : (f : ℕ → Game) (k : ℕ) → refined f (2 * k + 1) ≡ game (more (f k) none) (more (f (suc k)) none)
at_odd f k = let e : suc (twice k) ≡ 2 * k + 1 = let t = twice_is k in omega arith in subst (λ i. refined f i ≡ game (more (f k) none) (more (f (suc k)) none)) e (past_twice f k)

data Parity (i : ℕ) : Type 0 where
  is_even : (k : ℕ) → i ≡ 2 * k → Parity i
  is_odd : (k : ℕ) → i ≡ 2 * k + 1 → Parity i

parity : (i : ℕ) → Parity i
parity zero = is_even 0 refl
parity (suc zero) = is_odd 0 refl
parity (suc (suc i)) = go (parity i)
  where
    go : Parity i → Parity (suc (suc i))
    go (is_even k e) = is_even (suc k) (omega arith)
    go (is_odd k e) = is_odd (suc k) (omega arith)

refined_options : (f : ℕ → Game) (Of : ℕ → ℕ → Type 0) (s : Side) → OptionsOf s f Of → OptionsOf s (refined f) (Halved s Of)
refined_options f Of s each i x m = go (parity i)
  where
    next : (s : Side) (k : ℕ) → i ≡ 2 * k + 1 → In x (options s (game (more (f k) none) (more (f (suc k)) none))) → (j : ℕ) × Halved s Of i j × (x ≡ refined f j)
    next true k e m = in_one (λ x. (j : ℕ) × Halved true Of i j × (x ≡ refined f j)) (f k) (2 * k, odd k e refl, sym (at_even f k)) x m
    next false k e m =
        let e' : 2 * suc k ≡ 2 * k + 2 = omega arith in
        in_one (λ x. (j : ℕ) × Halved false Of i j × (x ≡ refined f j)) (f (suc k)) (2 * suc k, odd k e e', sym (at_even f (suc k))) x m

    go : Parity i → (j : ℕ) × Halved s Of i j × (x ≡ refined f j)
    go (is_even k e) =
        let r = each k x (subst (λ g. In x (options s g)) (at_even f k) (subst (λ n. In x (options s (refined f n))) e m)) in
        (2 * r.0, even k r.0 e refl r.1, r.2 ∙ sym (at_even f r.0))
    go (is_odd k e) = next s k e (subst (λ g. In x (options s g)) (at_odd f k) (subst (λ n. In x (options s (refined f n))) e m))

pub test_options : (s : Side) (i : ℕ) (x : Game) → In x (options s (test i)) → (j : ℕ) × Beside s i j × (x ≡ test j)
unfolding test
test_options s = refined_options _ _ s (refined_options _ _ s (refined_options _ _ s (counted_options 16 s)))

-- an upright option is lower
pub lower : (i j : ℕ) → Beside true i j → j < i
lower i j (odd k e f) = omega arith
lower i j (even k l e f (odd k' e' f')) = omega arith
lower i j (even k l e f (even k' l' e' f' (odd k'' e'' f''))) = omega arith
lower i j (even k l e f (even k' l' e' f' (even k'' l'' e'' f'' w))) = let a = w.0 in let b = w.1 in omega arith

-- a flat one is higher, and none is past 256
pub higher : (i j : ℕ) → Beside false i j → i < j
higher i j (odd k e f) = omega arith
higher i j (even k l e f (odd k' e' f')) = omega arith
higher i j (even k l e f (even k' l' e' f' (odd k'' e'' f''))) = omega arith
higher i j (even k l e f (even k' l' e' f' (even k'' l'' e'' f'' w))) = let a = w.0 in let b = w.1 in omega arith

pub not_past : (i j : ℕ) → i ≤ 256 → Beside false i j → j ≤ 256
not_past i j h (odd k e f) = omega arith
not_past i j h (even k l e f (odd k' e' f')) = omega arith
not_past i j h (even k l e f (even k' l' e' f' (odd k'' e'' f''))) = omega arith
not_past i j h (even k l e f (even k' l' e' f' (even k'' l'' e'' f'' w))) = let a = w.0 in let b = w.1 in omega arith

-- A move leaves fewer free squares; so every board is won or lost, never both, and one answer fits.
use Rattle.std.proofs.Common.{◌≡◌, ℕ, zero, suc, ◌<◌, ◌≤◌, Bool, true, false, not, ◌&&◌, ◌||◌, List, [], ◌∷◌, length, get_or, set, sym, refl, ap, ◌∙◌, inl, inr, ⊎_elim, arith}
use Rattle.std.proofs.lemmas.List.{get_or_past}
use Rattle.std.proofs.lemmas.Bool.{and_parts, or_parts, or_cases, cases_Bool, cases_lt, not-true, not-false, both_ways, cases_order}
use Rattle.board.specs.Grid.{Grid, Side, other, pick, free, free_count}
use Rattle.board.specs.Moves.{fits, each_free, taken, may, laid}
use Rattle.board.specs.Rules.{Wins, by, Loses, whatever, Answer, lay, lost, Good, Says, OneAnswer, OneOutcome}
use Rattle.board.proofs.Covering.{covers_from}

-- taking a square never frees one, and taking a free one leaves one fewer
no_more : (cells : List Bool) (q : ℕ) → free_count (set cells q false) ≤ free_count cells
unfolding free_count
no_more [] q = omega arith
no_more (c ∷ cs) zero = omega arith
no_more (c ∷ cs) (suc q) = let h = no_more cs q in omega arith

fewer : (cells : List Bool) (q : ℕ) → get_or cells q false ≡ true → free_count (set cells q false) < free_count cells
unfolding free_count
fewer [] q e = absurd (both_ways false refl e)
fewer (c ∷ cs) zero e = let h : ◌≡◌ {A = ℕ} (pick c 1 0) 1 = ap (λ t. pick t 1 0) e in omega arith
fewer (c ∷ cs) (suc q) e = let h = fewer cs q e in omega arith

taken_no_more : (cells : List Bool) (qs : List ℕ) → free_count (taken cells qs) ≤ free_count cells
taken_no_more cells [] = omega arith
taken_no_more cells (q ∷ qs) = let h = no_more cells q in let k = taken_no_more (set cells q false) qs in omega arith

module _ (b : Grid) (s : Side) (p : ℕ) (m : may b s p ≡ true) where
  pub may_free : free b p ≡ true
  unfolding may
  may_free =
      let first = covers_from b.width (length b.cells) s p in
      let all : each_free b (p ∷ first.0 ∷ first.1) ≡ true = ap (each_free b) (sym first.2) ∙ (and_parts (fits b.width (length b.cells) s p) _ m).1 in
      (and_parts (free b p) _ all).0

  pub may_below : p < length b.cells
  may_below = ⊎_elim (λ h. h) (λ h. absurd (both_ways (free b p) (get_or_past b.cells p false h) may_free)) (cases_lt p (length b.cells))

  pub laid_fewer : free_count (laid b s p).cells < free_count b.cells
  unfolding laid
  laid_fewer =
      let first = covers_from b.width (length b.cells) s p in
      let same = ap (λ qs. free_count (taken b.cells qs)) first.2 in
      let less = fewer b.cells p may_free in
      let rest = taken_no_more (set b.cells p false) (first.0 ∷ first.1) in
      omega arith

-- who wins does not lose
mutual
  pub won_not_lost : {s : Side} {b : Grid} → Wins s b → Loses s b → ⊥
  won_not_lost (by p m l) (whatever f) = lost_not_won l (f p m)

  lost_not_won : {s : Side} {b : Grid} → Loses s b → Wins s b → ⊥
  lost_not_won (whatever f) (by p m l) = won_not_lost (f p m) l

-- some place below k passes the test
unfoldable pub some_below : (ℕ → Bool) → ℕ → Bool
some_below f zero = false
some_below f (suc k) = f k || some_below f k

-- a test that fails at every place below k, and one that holds at a place
below_none : (f : ℕ → Bool) (k : ℕ) → some_below f k ≡ false → (p : ℕ) → p < k → f p ≡ false
unfolding some_below
below_none f zero e p h = absurd (omega arith)
below_none f (suc k) e p h =
    let parts = or_parts (f k) (some_below f k) e in
    ⊎_elim (λ same. ap f same ∙ parts.0) (⊎_elim (λ less. below_none f k parts.1 p less) (λ more. absurd (omega arith))) (cases_order p k)

-- the first place below k at which it holds
below_first : (f : ℕ → Bool) (k : ℕ) → some_below f k ≡ true → (p : ℕ) × (p < k) × (f p ≡ true) × ((q : ℕ) → q < p → f q ≡ false)
unfolding some_below
below_first f zero e = absurd (both_ways false refl e)
below_first f (suc k) e =
    ⊎_elim
    (λ before. let r = below_first f k before in (r.0, omega (arith, r.1), r.2, r.3))
    (λ none. (k, omega arith, ⊎_elim (λ here. here) (λ clash. absurd (both_ways (some_below f k) none clash)) (or_cases (f k) (some_below f k) e), below_none f k none))
    (cases_Bool (some_below f k))

-- playing everything out, to at most n moves
abbrev good : (Side → Grid → Bool) → Side → Grid → ℕ → Bool
good wins s b p = may b s p && not (wins (other s) (laid b s p))

abbrev won : ℕ → Side → Grid → Bool
won zero s b = false
won (suc n) s b = some_below (good (won n) s b) (length b.cells)

abbrev Decided : (Side → Grid → Bool) → Side → Grid → Type 0
Decided wins s b = (wins s b ≡ true → Wins s b) × (wins s b ≡ false → Loses s b)

-- a place is good by the test if it is good by the rules, where the boards after it are decided
module _ (wins : Side → Grid → Bool) (s : Side) (b : Grid) (after : (p : ℕ) → may b s p ≡ true → Decided wins (other s) (laid b s p)) where
  good_is : (p : ℕ) → good wins s b p ≡ true → Good s b p
  good_is p e = let parts = and_parts (may b s p) _ e in (parts.0, (after p parts.0).1 (not-true (wins (other s) (laid b s p)) parts.1))

  good_not : (p : ℕ) → good wins s b p ≡ false → may b s p ≡ true → Wins (other s) (laid b s p)
  good_not p e m = (after p m).0 (not-false (wins (other s) (laid b s p)) (ap (λ t. t && not (wins (other s) (laid b s p))) (sym m) ∙ e))

  one_more : Decided (λ t c. some_below (good wins t c) (length c.cells)) s b
  one_more = (
    λ e. let r = below_first (good wins s b) (length b.cells) e in let g = good_is r.0 r.2 in by r.0 g.0 g.1,
    λ e. whatever (λ p m. good_not p (below_none (good wins s b) (length b.cells) e p (may_below b s p m)) m),
  )

pub decided : (n : ℕ) (s : Side) (b : Grid) → free_count b.cells ≤ n → Decided (won n) s b
decided zero s b h = (λ clash. absurd (both_ways false refl clash), λ _. whatever (λ p m. absurd (let k = laid_fewer b s p m in omega arith)))
decided (suc n) s b h = one_more (won n) s b (λ p m. decided n (other s) (laid b s p) (let k = laid_fewer b s p m in omega arith))

pub one_outcome : OneOutcome
unfolding OneOutcome
one_outcome s b =
    let d = decided (free_count b.cells) s b (omega arith) in
    (⊎_elim (λ e. inl (d.0 e)) (λ e. inr (d.1 e)) (cases_Bool (won (free_count b.cells) s b)), won_not_lost)

-- two answers that fit are the same
pub same_answer : (s : Side) (b : Grid) (x y : Answer) → Says s b x → Says s b y → x ≡ y
unfolding Says
same_answer s b (lay p) (lay q) x y =
    ⊎_elim (ap lay) (⊎_elim (λ less. absurd (y.1 p less x.0)) (λ more. absurd (x.1 q more y.0))) (cases_order p q)
same_answer s b (lay p) lost x y = absurd (won_not_lost (by p x.0.0 x.0.1) y)
same_answer s b lost (lay q) x y = absurd (won_not_lost (by q y.0.0 y.0.1) x)
same_answer s b lost lost x y = refl

-- a test of an answer that the checker computes
abbrev pub fitting : ℕ → Side → Grid → Answer → Bool
fitting n s b (lay p) = good (won n) s b p && not (some_below (good (won n) s b) p)
fitting n s b lost = not (some_below (good (won n) s b) (length b.cells))

-- the answer by the test, where n moves decide every board
module _ (n : ℕ) (s : Side) (b : Grid) (enough : free_count b.cells ≤ n) where
  after : (p : ℕ) → may b s p ≡ true → Decided (won n) (other s) (laid b s p)
  after p m = decided n (other s) (laid b s p) (let k = laid_fewer b s p m in omega arith)

  first_good : (p : ℕ) → good (won n) s b p ≡ true → ((q : ℕ) → q < p → good (won n) s b q ≡ false) → Says s b (lay p)
  unfolding Says
  first_good p e before = (good_is (won n) s b after p e, λ q less g. won_not_lost (good_not (won n) s b after q (before q less) g.0) g.1)

  none_good : some_below (good (won n) s b) (length b.cells) ≡ false → Says s b lost
  unfolding Says
  none_good e = (one_more (won n) s b after).1 e

  pub an_answer : (x : Answer) × Says s b x
  an_answer =
      ⊎_elim
      (λ e. let r = below_first (good (won n) s b) (length b.cells) e in (lay r.0, first_good r.0 r.2 r.3))
      (λ e. (lost, none_good e))
      (cases_Bool (some_below (good (won n) s b) (length b.cells)))

  pub fits_says : (x : Answer) → fitting n s b x ≡ true → Says s b x
  fits_says (lay p) e =
      let parts = and_parts (good (won n) s b p) (not (some_below (good (won n) s b) p)) e in
      first_good p parts.0 (below_none (good (won n) s b) p (not-true (some_below (good (won n) s b) p) parts.1))
  fits_says lost e = none_good (not-true (some_below (good (won n) s b) (length b.cells)) e)

pub one_answer : OneAnswer
unfolding OneAnswer
one_answer s b = let a = an_answer (free_count b.cells) s b (omega arith) in (a.0, a.1, λ y. same_answer s b a.0 y a.1)

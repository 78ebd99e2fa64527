-- Neighbours, and the ways to them; and how large a board is.
use Rattle.std.proofs.Common.{Bool, Option, MatchOption, ◌≡◌, ℕ, ◌+◌, ◌-◌, ◌*◌, ◌%◌, ◌<◌, ◌≤◌, true, false, ◌⊎◌, length, Some, None, sym, refl, ap, ◌∙◌, subst, inl, inr, ⊎_elim, arith}
use Rattle.std.specs.Bool.{then_some}
use Rattle.std.proofs.lemmas.List.{get_or_past, length-take}
use Rattle.std.proofs.lemmas.Bool.{both_ways, cases_lt}
use Rattle.board.specs.Grid.{Grid, free, Edge, Next}
use Rattle.board.specs.Values.{grid_of}
use Rattle.board.specs.Ways.{Toward, Lies, Neighbour, WaysLaw}
use Rattle.board.specs.declared.board.Board.{Board}
use Rattle.board.specs.declared.ways.Way.{Way}
use Rattle.board.specs.declared.ways.Way.TheVariants.{Up, Left, Right, Down}

-- a free square is on the board
pub free_below : (b : Grid) (q : ℕ) → free b q ≡ true → q < length b.cells
free_below b q e = ⊎_elim (λ h. h) (λ h. absurd (both_ways (free b q) (get_or_past b.cells q false h) e)) (cases_lt q (length b.cells))

-- a board is at least one square wide, and has at most 256 squares
pub board_wide : (b : Board) → 0 < (grid_of b).width
unfolding grid_of
board_wide b = b.wide.0

pub board_few : (b : Board) → length (grid_of b).cells ≤ 256
unfolding grid_of
board_few b = omega (arith, length-take (b.width * b.height) b.free, b.few)

pub next_sym : (b : Grid) (p q : ℕ) → Next b p q → Next b q p
next_sym b p q (inl e) = inr e
next_sym b p q (inr e) = inl e

pub next_apart : (b : Grid) (p q : ℕ) → Next b p q → p ≡ q → ⊥
unfolding Edge
next_apart b p q (inl e) same = e.1 same
next_apart b p q (inr e) same = e.1 (sym same)

pub ways_law : WaysLaw
unfolding WaysLaw Edge Toward
ways_law b p q wide = (to, λ x. from x.0 x.1)
  where
    down_right : (q ≡ p + b.width) ⊎ ((q ≡ p + 1) × (p % b.width + 1 < b.width)) → (w : Way) × Toward b w p q
    down_right (inl e) = (Down, e)
    down_right (inr e) = (Right, e)

    up_left : (p ≡ q + b.width) ⊎ ((p ≡ q + 1) × (q % b.width + 1 < b.width)) → (w : Way) × Toward b w p q
    up_left (inl e) = (Up, e)
    up_left (inr e) = (Left, e)

    to : Next b p q → (w : Way) × Toward b w p q
    to (inl e) = down_right e.0
    to (inr e) = up_left e.0

    from : (w : Way) → Toward b w p q → Next b p q
    from Up e = inr (inl e, λ same. omega arith)
    from Left e = inr (inr e, λ same. omega (arith, e.0))
    from Right e = inl (inr e, λ same. omega (arith, e.0))
    from Down e = inl (inl e, λ same. omega arith)

-- one square lies there
pub one_there : (b : Grid) (w : Way) (p q r : ℕ) → Toward b w p q → Toward b w p r → q ≡ r
unfolding Toward
one_there b Up p q r x y = omega arith
one_there b Left p q r x y = omega (arith, x.0, y.0)
one_there b Right p q r x y = omega (arith, x.0, y.0)
one_there b Down p q r x y = omega arith

-- one step in each way, from p
module _ (b : Grid) (p : ℕ) (w : Way) where
  pub step_up : w ≡ Up → b.width ≤ p → Lies b p w (Some (p - b.width))
  unfolding Lies Toward
  step_up e h = subst (λ v. Toward b v p (p - b.width)) (sym e) (omega arith)

  pub step_left : w ≡ Left → 0 < p → (p - 1) % b.width + 1 < b.width → Lies b p w (Some (p - 1))
  unfolding Lies Toward
  step_left e h inside = subst (λ v. Toward b v p (p - 1)) (sym e) (omega arith, inside)

  pub step_right : w ≡ Right → p % b.width + 1 < b.width → Lies b p w (Some (p + 1))
  unfolding Lies Toward
  step_right e inside = subst (λ v. Toward b v p (p + 1)) (sym e) (refl, inside)

  pub step_down : w ≡ Down → Lies b p w (Some (p + b.width))
  unfolding Lies Toward
  step_down e = subst (λ v. Toward b v p (p + b.width)) (sym e) refl

  -- no free square lies there
  pub no_up : w ≡ Up → p < b.width → Lies b p w None
  unfolding Lies Toward
  no_up e h = subst (λ v. (q : ℕ) → Toward b v p q → free b q ≡ true → ⊥) (sym e) (λ q t f. omega arith)

  pub no_left : w ≡ Left → (p ≡ 0) ⊎ (b.width ≤ (p - 1) % b.width + 1) → Lies b p w None
  unfolding Lies Toward
  no_left e h =
      subst (λ v. (q : ℕ) → Toward b v p q → free b q ≡ true → ⊥) (sym e)
      (λ q t f. let same : q ≡ p - 1 = omega (arith, t.0) in
      ⊎_elim (λ zero. omega (arith, t.0)) (λ far. let k = ap (λ m. m % b.width) same in omega (arith, t.1)) h)

  pub no_right : w ≡ Right → (length b.cells ≤ p) ⊎ (b.width ≤ p % b.width + 1) → Lies b p w None
  unfolding Lies Toward
  no_right e h =
      subst (λ v. (q : ℕ) → Toward b v p q → free b q ≡ true → ⊥) (sym e)
      (λ q t f. let k = free_below b q f in ⊎_elim (λ past. omega (arith, t.0)) (λ far. omega (arith, t.1)) h)

  pub no_down : w ≡ Down → length b.cells ≤ p → Lies b p w None
  unfolding Lies Toward
  no_down e h =
      subst (λ v. (q : ℕ) → Toward b v p q → free b q ≡ true → ⊥) (sym e)
      (λ q t f. let k = free_below b q f in omega arith)

  -- the square there, if it is free
  pub neighbour_if_free : (o r : Option ℕ) (Said : ℕ → Bool → Type 0) → Lies b p w o →
      MatchOption o (r ≡ None) (λ q. (t : Bool) × Said q t × (r ≡ then_some t q)) → ((q : ℕ) (t : Bool) → Said q t → t ≡ free b q) →
      Neighbour b p w r
  unfolding Lies Neighbour
  neighbour_if_free None r Said lies e means = subst (Neighbour b p w) (sym e) lies
  neighbour_if_free (Some q) r Said lies e means =
      subst (Neighbour b p w) (sym e.2)
      (elim e.0 as (λ t. t ≡ free b q → Neighbour b p w (then_some t q)) [
        | true ↦ λ is. (lies, sym is)
        | false ↦ λ is r t f. both_ways (free b q) (sym is) (ap (free b) (one_there b w p q r lies t) ∙ f)
      ] (means q e.0 e.1))

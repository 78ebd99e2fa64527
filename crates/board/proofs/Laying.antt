-- Whether a side may move, from what the move covers; and what a move leaves.
use Rattle.std.proofs.Common.{Bool, Option, Some, None, MatchOption, subst, ◌≡◌, ℕ, true, false, ◌&&◌, List, length, sym, ap, ◌∙◌}
use Rattle.std.specs.Bool.{then_some}
use Rattle.board.specs.Grid.{Grid, Side}
use Rattle.board.specs.Moves.{covers, fits, each_free, without, may, laid}
use Rattle.board.specs.Values.{Covered}

module _ (b : Grid) (s : Side) (p : ℕ) where
  -- what does not fit may not be laid
  pub may_unfit : fits b.width (length b.cells) s p ≡ false → may b s p ≡ false
  unfolding may
  may_unfit e = ap (λ t. t && each_free b (covers b.width (length b.cells) s p)) e

  -- what fits may be laid exactly if all squares that it covers are free
  pub may_fit : (qs : List ℕ) → (fits b.width (length b.cells) s p ≡ true) × (qs ≡ covers b.width (length b.cells) s p) → may b s p ≡ each_free b qs
  unfolding may
  may_fit qs e = ap (λ t. t && each_free b (covers b.width (length b.cells) s p)) e.0 ∙ ap (each_free b) (sym e.1)

  pub laid_without : (qs : List ℕ) → qs ≡ covers b.width (length b.cells) s p → without b qs ≡ laid b s p
  unfolding laid
  laid_without qs e = ap (without b) e

  -- whether it may be laid, where what it covers is known or it fits nowhere
  pub may_if_free : (o : Option (List ℕ)) (r : Bool) (Said : List ℕ → Type 0) → Covered b s p o → MatchOption o (r ≡ false) Said →
      ((qs : List ℕ) → Said qs → r ≡ each_free b qs) → r ≡ may b s p
  may_if_free None r Said covered e means = e ∙ sym (may_unfit covered)
  may_if_free (Some qs) r Said covered e means = means qs e ∙ sym (may_fit qs covered)

  -- it may be laid and covers these squares, or it may not
  abbrev MayCover : Option (List ℕ) → Type 0
  MayCover r = MatchOption r (may b s p ≡ false) (λ qs. (may b s p ≡ true) × (qs ≡ covers b.width (length b.cells) s p))

  -- the squares that it covers, if it fits and all of them are free
  pub covered_if_free : (o r : Option (List ℕ)) (Said : List ℕ → Bool → Type 0) → Covered b s p o → MatchOption o (r ≡ None) (λ qs. (t : Bool) × Said qs t × (r ≡ then_some t qs)) →
      ((qs : List ℕ) (t : Bool) → Said qs t → t ≡ each_free b qs) → MayCover r
  covered_if_free None r Said covered e means = subst MayCover (sym e) (may_unfit covered)
  covered_if_free (Some qs) r Said covered (true, said, e) means = subst MayCover (sym e) (may_fit qs covered ∙ sym (means qs true said), covered.1)
  covered_if_free (Some qs) r Said covered (false, said, e) means = subst MayCover (sym e) (may_fit qs covered ∙ sym (means qs false said))

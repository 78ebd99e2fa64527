-- The whole answer from the worth of the board and the planks of both sides.
use Rattle.std.proofs.Common.{◌≡◌, ℕ, true, false, List, length, Some, None, Ok, Err, Option, Result, sym, ◌∙◌, subst, inl, inr, ⊎_elim, arith}
use Rattle.board.specs.Grid.{Grid, Side, other}
use Rattle.board.specs.Moves.{may, laid}
use Rattle.board.specs.Rules.{Says}
use Rattle.board.proofs.Outcomes.{may_below}
use Rattle.forms.specs.declared.rows.Form.{Form}
use Rattle.sums.specs.Held.{Adding}
use Rattle.search.specs.Answers.{answer_of}
use Rattle.search.proofs.Turns.{none_found}
use Rattle.verdict.specs.Limits.{Over, IsTooMany}
use Rattle.verdict.specs.Worths.{WorthAnswer}
use Rattle.verdict.specs.Trying.{FirstGood, Tried, TriedAnswer}
use Rattle.verdict.specs.Choosing.{Chosen}
use Rattle.verdict.specs.declared.worth.Failure.{Failure}
use Rattle.verdict.specs.declared.worth.Failure.TheVariants.{Count, NoMemory}

both_sides : (P : Side → Type 0) (s : Side) → P s → P (other s) → (t : Side) → P t
both_sides P true x y true = x
both_sides P true x y false = y
both_sides P false x y true = y
both_sides P false x y false = x

module _ (s : Side) (b : Grid) where
  says_first : (x : Option ℕ) → FirstGood s b (length b.cells) x → Says s b (answer_of x)
  unfolding FirstGood
  says_first (Some p) f = f
  says_first None f = none_found s b (length b.cells) f (omega arith)

  -- the board itself is refused
  pub whole_refused : (rs : List (List ℕ)) (m k : Adding) (e : Failure) → WorthAnswer b rs m k (Err e) → Chosen s b (length m.table.forms.now) (Err e)
  unfolding IsTooMany
  whole_refused rs m k Count o = inl o
  whole_refused rs m k NoMemory o = tt

  -- a board after a plank of side t is
  pub plank_refused : (t : Side) (n : ℕ) (m k : Adding) → length m.table.forms.now ≡ n → (e : Failure) → TriedAnswer t b m k (Err e) → Chosen s b n (Err e)
  unfolding IsTooMany
  plank_refused t n m k same Count o = inr (t, o.0, o.1, subst (λ z. Over z (laid b t o.0)) same o.2)
  plank_refused t n m k same NoMemory o = tt

  -- neither
  none_over :
      (n : ℕ) → (Over n b → ⊥) → ((t : Side) (p : ℕ) → may b t p ≡ true → Over n (laid b t p) → ⊥) → IsTooMany n b → ⊥
  unfolding IsTooMany
  none_over n whole planks o = ⊎_elim whole (λ x. planks x.0 x.1 x.2 x.3) o

  no_plank :
      (t : Side) (n : ℕ) (fs gs : List Form) (x : Option ℕ) → length fs ≡ n → Tried t b (length b.cells) fs gs x →
      (p : ℕ) → may b t p ≡ true → Over n (laid b t p) → ⊥
  no_plank t n fs gs x same tried p m o = tried.within p (may_below b t p m) m (subst (λ k. Over k (laid b t p)) (sym same) o)

  pub chosen :
      (n : ℕ) → (Over n b → ⊥) → (o : Side) → o ≡ other s →
      (fs gs : List Form) (x : Option ℕ) → length fs ≡ n → Tried o b (length b.cells) fs gs x →
      (hs : List Form) (y : Option ℕ) → Tried s b (length b.cells) gs hs y → Chosen s b n (Ok y)
  chosen n whole o is fs gs x same theirs hs y own = (
    says_first y own.first,
    none_over n whole
        (both_sides (λ t. (p : ℕ) → may b t p ≡ true → Over n (laid b t p) → ⊥) s
        (no_plank s n gs hs y (theirs.long ∙ same) own)
        (subst (λ t. (p : ℕ) → may b t p ≡ true → Over n (laid b t p) → ⊥) is (no_plank o n fs gs x same theirs))),
  )

  -- the last answer is the whole one
  pub last_chosen : (n : ℕ) → (Over n b → ⊥) → (o : Side) → o ≡ other s → (m k : Adding) (x : Option ℕ) → length m.table.forms.now ≡ n → TriedAnswer o b m k (Ok x) →
      (l : Adding) (r : Result (Option ℕ) Failure) → TriedAnswer s b k l r → Chosen s b n r
  last_chosen n whole o is m k x same theirs l (Ok y) own = chosen n whole o is _ _ x same theirs _ y own
  last_chosen n whole o is m k x same theirs l (Err e) own = plank_refused s n k l (theirs.long ∙ same) e own

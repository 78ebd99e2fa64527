-- The game that is given by two rows of forms.
use Rattle.std.proofs.Common.{◌≡◌, ℕ, true, false, List, sym, refl, subst}
use Rattle.std.specs.List.{ContainsAt as Has}
use Rattle.std.proofs.ByRecursion.{all-has}
use Rattle.games.specs.Game.{Side, Game, options, In}
use Rattle.games.specs.Order.{Equal}
use Rattle.games.proofs.Sides.{equal_options}
use Rattle.forms.specs.declared.rows.Form.{Form}
use Rattle.forms.specs.Rows.{row_for}
use Rattle.forms.specs.Meaning.{listed, meaning, given}
use Rattle.forms.proofs.Meanings.{in_listed, from_listed}

module _ (fs : List Form) (os us ls : List ℕ) where
  -- its options are the forms of the rows
  pub given_options : (s : Side) → options s (given fs os us ls) ≡ listed (meaning fs os) (row_for s us ls)
  unfolding given
  given_options true = refl
  given_options false = refl

  pub in_given : (s : Side) (x : ℕ) → Has (row_for s us ls) x → In (meaning fs os x) (options s (given fs os us ls))
  in_given s x h =
      subst (In (meaning fs os x)) (sym (given_options s))
      (all-has (λ y. In (meaning fs os y) (listed (meaning fs os) (row_for s us ls))) (row_for s us ls) x (in_listed (meaning fs os) (row_for s us ls)) h)

  pub from_given : (s : Side) (y : Game) → In y (options s (given fs os us ls)) → (x : ℕ) × Has (row_for s us ls) x × (meaning fs os x ≡ y)
  from_given s y i = from_listed (meaning fs os) (row_for s us ls) y (subst (In y) (given_options s) i)

  -- what holds of the forms of the rows, holds of the options
  pub of_given : (P : Game → Type 0) (s : Side) → ((x : ℕ) → Has (row_for s us ls) x → P (meaning fs os x)) → (y : Game) → In y (options s (given fs os us ls)) → P y
  of_given P s each y i = let r = from_given s y i in subst P r.2 (each r.0 r.1)

  -- a game is equal to it if its options and the rows match
  pub equal_given :
      (g : Game) → ((s : Side) (x : Game) → In x (options s g) → (k : ℕ) × Has (row_for s us ls) k × Equal x (meaning fs os k)) →
      ((s : Side) (k : ℕ) → Has (row_for s us ls) k → (x : Game) × In x (options s g) × Equal (meaning fs os k) x) → Equal g (given fs os us ls)
  equal_given g forth back =
      equal_options g (given fs os us ls) (λ s x i. let k = forth s x i in (meaning fs os k.0, in_given s k.0 k.1, k.2))
      (λ s. of_given (λ y. (x : Game) × In x (options s g) × Equal y x) s (back s))

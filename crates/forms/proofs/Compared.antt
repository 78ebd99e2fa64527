-- Two forms compared by the options that their rows name.
use Rattle.std.proofs.Common.{◌≡◌, ℕ, ◌<◌, ◌≤◌, true, false, List, length, get_or, take, sym, subst}
use Rattle.std.specs.List.{AllByRecursion as Every}
use Rattle.std.proofs.lemmas.List.{take_all}
use Rattle.std.proofs.ByRecursion.{All-get_or}
use Rattle.games.specs.Game.{Side, options, In}
use Rattle.games.specs.Order.{Le, le, NotLe, up, down}
use Rattle.forms.specs.declared.rows.Form.{Form}
use Rattle.forms.specs.Rows.{row_of}
use Rattle.forms.specs.Meaning.{meaning}
use Rattle.forms.specs.Soundness.{Sound}
use Rattle.forms.proofs.Meanings.{of_row, in_row}

-- what is known of all numbers of a row that was walked to its end
pub walked : (P : ℕ → Type 0) (xs ys : List ℕ) → xs ≡ ys → (i : ℕ) → length xs ≤ i → Every P (take i xs) → Every P ys
walked P xs ys e i h all = subst (Every P) e (subst (Every P) (take_all i xs h) all)

module _ (fs : List Form) (os : List ℕ) (sound : Sound fs os) where
  -- a number of a row is an option
  pub option_at : (s : Side) (k : ℕ) → k < length fs → (xs : List ℕ) → xs ≡ row_of fs os s k → (i : ℕ) → i < length xs → In (meaning fs os (get_or xs i 0)) (options s (meaning fs os k))
  option_at s k h xs e i less =
      All-get_or (λ x. In (meaning fs os x) (options s (meaning fs os k))) xs i 0 less
      (subst (Every (λ x. In (meaning fs os x) (options s (meaning fs os k)))) (sym e) (in_row fs os sound s k h))

  module _ (g h : ℕ) (low : g < length fs) (low' : h < length fs) where
    pub not_by_upright : (xs : List ℕ) → xs ≡ row_of fs os true g → (i : ℕ) → i < length xs → Le (meaning fs os h) (meaning fs os (get_or xs i 0)) → NotLe (meaning fs os g) (meaning fs os h)
    not_by_upright xs e i less p = up (meaning fs os (get_or xs i 0)) (option_at true g low xs e i less) p

    pub not_by_flat : (ys : List ℕ) → ys ≡ row_of fs os false h → (i : ℕ) → i < length ys → Le (meaning fs os (get_or ys i 0)) (meaning fs os g) → NotLe (meaning fs os g) (meaning fs os h)
    not_by_flat ys e i less p = down (meaning fs os (get_or ys i 0)) (option_at false h low' ys e i less) p

    pub by_all :
        Every (λ x. NotLe (meaning fs os h) (meaning fs os x)) (row_of fs os true g) → Every (λ y. NotLe (meaning fs os y) (meaning fs os g)) (row_of fs os false h) →
        Le (meaning fs os g) (meaning fs os h)
    by_all ups downs = le (of_row fs os sound (NotLe (meaning fs os h)) true g low ups) (of_row fs os sound (λ y. NotLe y (meaning fs os g)) false h low' downs)

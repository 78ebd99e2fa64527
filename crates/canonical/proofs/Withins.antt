-- A form compared with the game that two rows give, by the options of both.
use Rattle.std.proofs.Common.{◌≡◌, ℕ, ◌<◌, List, length, get_or, sym, subst}
use Rattle.std.specs.List.{ContainsAt as Has, AllByRecursion as Every}
use Rattle.std.proofs.ByRecursion.{All-get_or, all-has, has_get_or}
use Rattle.games.specs.Game.{Side, other}
use Rattle.games.specs.Order.{Worse, NotWorse}
use Rattle.games.proofs.Sides.{turn, by_option, by_reply, worse_by}
use Rattle.forms.specs.declared.rows.Form.{Form}
use Rattle.forms.specs.Rows.{row_of, row_for}
use Rattle.forms.specs.Meaning.{meaning, given}
use Rattle.forms.specs.Soundness.{Sound, Known}
use Rattle.forms.proofs.Compared.{option_at}
use Rattle.forms.proofs.Meanings.{of_row}
use Rattle.forms.proofs.Givens.{in_given, of_given}
use Rattle.canonical.specs.Compares.{BothKnown}

-- a number of a given row is a form
pub known_at : (fs : List Form) (us ls : List ℕ) → BothKnown fs us ls → (s : Side) (xs : List ℕ) → xs ≡ row_for s us ls → (i : ℕ) → i < length xs → get_or xs i 0 < length fs
known_at fs us ls known s xs e i h = All-get_or (λ x. x < length fs) xs i 0 h (subst (Known fs) (sym e) (known s))

module _ (fs : List Form) (os : List ℕ) (sound : Sound fs os) (us ls : List ℕ) (s : Side) (k : ℕ) (low : k < length fs) where
  pub not_by_own : (xs : List ℕ) → xs ≡ row_of fs os s k → (i : ℕ) → i < length xs → Worse (other s) (meaning fs os (get_or xs i 0)) (given fs os us ls) → NotWorse s (meaning fs os k) (given fs os us ls)
  not_by_own xs e i h p =
      by_option s (meaning fs os k) (given fs os us ls) (meaning fs os (get_or xs i 0)) (option_at fs os sound s k low xs e i h) (turn s (meaning fs os (get_or xs i 0)) (given fs os us ls) p)

  pub not_by_given : (ys : List ℕ) → ys ≡ row_for (other s) us ls → (i : ℕ) → i < length ys → Worse s (meaning fs os (get_or ys i 0)) (meaning fs os k) → NotWorse s (meaning fs os k) (given fs os us ls)
  not_by_given ys e i h p =
      by_reply s (meaning fs os k) (given fs os us ls) (meaning fs os (get_or ys i 0))
      (in_given fs os us ls (other s) (get_or ys i 0) (subst (λ zs. Has zs (get_or ys i 0)) e (has_get_or ys i 0 h))) p

  pub within_all :
      Every (λ x. NotWorse s (given fs os us ls) (meaning fs os x)) (row_of fs os s k) → Every (λ y. NotWorse s (meaning fs os y) (meaning fs os k)) (row_for (other s) us ls) →
      Worse s (meaning fs os k) (given fs os us ls)
  within_all own replies =
      worse_by s (meaning fs os k) (given fs os us ls) (of_row fs os sound (NotWorse s (given fs os us ls)) s k low own)
      (of_given fs os us ls (λ y. NotWorse s y (meaning fs os k)) (other s)
      (λ y h. all-has (λ y. NotWorse s (meaning fs os y) (meaning fs os k)) (row_for (other s) us ls) y replies h))

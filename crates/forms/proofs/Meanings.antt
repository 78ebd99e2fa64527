-- The meaning of a form is its rows, and depends on nothing else.
use Rattle.std.proofs.Common.{◌≡◌, ℕ, zero, suc, ◌<◌, true, false, List, [], ◌∷◌, length, sym, refl, ap, ◌∙◌, subst, arith}
use Rattle.std.specs.List.{ContainsAt as Has, AllByRecursion as Every}
use Rattle.std.proofs.ByRecursion.{All-weaker}
use Rattle.games.specs.Game.{Side, Game, game, more, options, In, here, there}
use Rattle.forms.specs.declared.rows.Form.{Form}
use Rattle.forms.specs.Rows.{row_of}
use Rattle.forms.specs.Meaning.{listed, meant, meaning}
use Rattle.forms.specs.Soundness.{Sound}
use Rattle.forms.proofs.Risings.{has_here, has_there}

-- the games of a row
pub listed_same : (f g : ℕ → Game) (xs : List ℕ) → Every (λ x. f x ≡ g x) xs → listed f xs ≡ listed g xs
listed_same f g [] e = refl
listed_same f g (x ∷ xs) e = λ i. more (e.0 i) (listed_same f g xs e.1 i)

pub of_listed : (P : Game → Type 0) (f : ℕ → Game) (xs : List ℕ) → Every (λ x. P (f x)) xs → (y : Game) → In y (listed f xs) → P y
of_listed P f [] h y i = elim i [ ]
of_listed P f (x ∷ xs) h y here = h.0
of_listed P f (x ∷ xs) h y (there i) = of_listed P f xs h.1 y i

pub in_listed : (f : ℕ → Game) (xs : List ℕ) → Every (λ x. In (f x) (listed f xs)) xs
in_listed f [] = tt
in_listed f (x ∷ xs) = (here, All-weaker (λ y. In (f y) (listed f xs)) (λ y. In (f y) (more (f x) (listed f xs))) (λ y i. there i) xs (in_listed f xs))

pub from_listed : (f : ℕ → Game) (xs : List ℕ) (y : Game) → In y (listed f xs) → (x : ℕ) × Has xs x × (f x ≡ y)
from_listed f [] y i = elim i [ ]
from_listed f (x ∷ xs) y here = (x, has_here x xs, refl)
from_listed f (x ∷ xs) y (there i) = let r = from_listed f xs y i in (r.0, has_there x r.0 xs r.1, r.2)

-- two tables with the same rows below n
module _
    (fs : List Form) (os : List ℕ) (gs : List Form) (ps : List ℕ) (n : ℕ)
    (below : (s : Side) (k : ℕ) → k < n → Every (λ x. x < k) (row_of fs os s k))
    (same : (s : Side) (k : ℕ) → k < n → row_of gs ps s k ≡ row_of fs os s k) where
  pub meant_same : (m l k : ℕ) → k < n → k < m → k < l → meant m fs os k ≡ meant l gs ps k
  meant_same zero l k h p q = absurd (omega arith)
  meant_same (suc m) zero k h p q = absurd (omega arith)
  meant_same (suc m) (suc l) k h p q =
      let row : (s : Side) → listed (meant m fs os) (row_of fs os s k) ≡ listed (meant l gs ps) (row_of gs ps s k) =
      λ s.
      listed_same (meant m fs os) (meant l gs ps) (row_of fs os s k)
      (All-weaker (λ x. x < k) (λ x. meant m fs os x ≡ meant l gs ps x) (λ x less. meant_same m l x (omega arith) (omega arith) (omega arith)) (row_of fs os s k) (below s k h))
      ∙ ap (listed (meant l gs ps)) (sym (same s k h)) in
      λ i. game (row true i) (row false i)

  -- mean the same games there
  pub meaning_same : (k : ℕ) → k < n → meaning gs ps k ≡ meaning fs os k
  unfolding meaning
  meaning_same k h = sym (meant_same (suc k) (suc k) k h (omega arith) (omega arith))

-- sound rows
module _ (fs : List Form) (os : List ℕ) (sound : Sound fs os) where
  -- the options of a form are the forms of its row
  pub meaning_rows : (s : Side) (k : ℕ) → k < length fs → options s (meaning fs os k) ≡ listed (meaning fs os) (row_of fs os s k)
  unfolding meaning
  meaning_rows s k h = elim s as (λ t. options t (meant (suc k) fs os k) ≡ listed (meaning fs os) (row_of fs os t k)) [ true ↦ go true | false ↦ go false ]
    where
      go : (t : Side) → listed (meant k fs os) (row_of fs os t k) ≡ listed (meaning fs os) (row_of fs os t k)
      go t =
          listed_same (meant k fs os) (meaning fs os) (row_of fs os t k)
          (All-weaker (λ x. x < k) (λ x. meant k fs os x ≡ meaning fs os x)
          (λ x less. meant_same fs os fs os (length fs) sound.below (λ s k h. refl) k (suc x) x (omega arith) less (omega arith))
          (row_of fs os t k) (sound.below t k h))

  -- what holds of the forms of its row, holds of the options of a form
  pub of_row : (P : Game → Type 0) (s : Side) (k : ℕ) → k < length fs → Every (λ x. P (meaning fs os x)) (row_of fs os s k) → (y : Game) → In y (options s (meaning fs os k)) → P y
  of_row P s k h all y i = of_listed P (meaning fs os) (row_of fs os s k) all y (subst (In y) (meaning_rows s k h) i)

  -- and the forms of its row are options
  pub in_row : (s : Side) (k : ℕ) → k < length fs → Every (λ x. In (meaning fs os x) (options s (meaning fs os k))) (row_of fs os s k)
  in_row s k h =
      subst (λ gs. Every (λ x. In (meaning fs os x) gs) (row_of fs os s k)) (sym (meaning_rows s k h)) (in_listed (meaning fs os) (row_of fs os s k))

  pub from_row : (s : Side) (k : ℕ) → k < length fs → (y : Game) → In y (options s (meaning fs os k)) → (x : ℕ) × Has (row_of fs os s k) x × (meaning fs os x ≡ y)
  from_row s k h y i = from_listed (meaning fs os) (row_of fs os s k) y (subst (In y) (meaning_rows s k h) i)

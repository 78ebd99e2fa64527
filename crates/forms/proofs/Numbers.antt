-- In sound rows a form is equal to itself alone.
use Rattle.std.proofs.Common.{◌≡◌, ℕ, zero, suc, ◌+◌, ◌<◌, true, false, List, [], ◌∷◌, length, sym, refl, subst, arith}
use Rattle.std.specs.List.{ContainsAt as Has, AllByRecursion as Every}
use Rattle.std.proofs.ByRecursion.{all-has}
use Rattle.games.specs.Game.{Side, game, options, In, empty}
use Rattle.games.specs.Order.{Equal}
use Rattle.games.proofs.Sides.{equal_sym, equal_refl}
use Rattle.games.proofs.Forms.{matched}
use Rattle.forms.specs.declared.rows.Form.{Form}
use Rattle.forms.specs.Rows.{row_of}
use Rattle.forms.specs.Meaning.{listed, meaning}
use Rattle.forms.specs.Soundness.{Sound}
use Rattle.forms.specs.Laws.{OneNumber, FirstEmpty}
use Rattle.forms.proofs.Risings.{rising_same}
use Rattle.forms.proofs.Meanings.{in_row, from_row}

module _ (fs : List Form) (os : List ℕ) (sound : Sound fs os) where
  -- equal forms have the same numbers in their rows, if this is known of lower forms
  same_has :
      (j k : ℕ) → j < length fs → k < length fs → ((x y : ℕ) → x < j → y < k → Equal (meaning fs os x) (meaning fs os y) → x ≡ y) →
      Equal (meaning fs os j) (meaning fs os k) → (s : Side) (z : ℕ) → Has (row_of fs os s j) z → Has (row_of fs os s k) z
  same_has j k hj hk ih e s z h =
      let i = all-has (λ x. In (meaning fs os x) (options s (meaning fs os j))) (row_of fs os s j) z (in_row fs os sound s j hj) h in
      let m = matched s (meaning fs os j) (meaning fs os k) (sound.canonical j hj) (sound.canonical k hk) e (meaning fs os z) i in
      let r = from_row fs os sound s k hk m.0 m.1 in
      let eq = subst (λ g. Equal (meaning fs os z) g) (sym r.2) m.2 in
      let low : z < j = all-has (λ x. x < j) (row_of fs os s j) z (sound.below s j hj) h in
      let low' : r.0 < k = all-has (λ x. x < k) (row_of fs os s k) r.0 (sound.below s k hk) r.1 in
      subst (Has (row_of fs os s k)) (sym (ih z r.0 low low' eq)) r.1

  same_by : (n j k : ℕ) → j + k < n → j < length fs → k < length fs → Equal (meaning fs os j) (meaning fs os k) → j ≡ k
  same_by zero j k m hj hk e = absurd (omega arith)
  same_by (suc n) j k m hj hk e =
      sound.apart j k hj hk
      (λ s.
      rising_same (row_of fs os s j) (row_of fs os s k) (sound.rising s j hj) (sound.rising s k hk)
      (same_has j k hj hk (λ x y p q. same_by n x y (omega arith) (omega arith) (omega arith)) e s)
      (same_has k j hk hj (λ x y p q. same_by n x y (omega arith) (omega arith) (omega arith)) (equal_sym e) s))

  -- no two rows mean equal games
  pub same_number : (j k : ℕ) → j < length fs → k < length fs → Equal (meaning fs os j) (meaning fs os k) → j ≡ k
  same_number j k = same_by (suc (j + k)) j k (omega arith)

pub one_number : OneNumber
unfolding OneNumber
one_number fs os sound j k hj hk = (same_number fs os sound j k hj hk, λ e. subst (λ i. Equal (meaning fs os j) (meaning fs os i)) e (equal_refl (meaning fs os j)))

-- a row below 0 is empty
empty_row : (xs : List ℕ) → Every (λ x. x < 0) xs → xs ≡ []
empty_row [] h = refl
empty_row (x ∷ xs) h = absurd (omega (arith, h.0))

pub first_empty : FirstEmpty
unfolding FirstEmpty meaning
first_empty fs os sound h =
    λ i. game (listed (λ k. empty) (empty_row (row_of fs os true 0) (sound.below true 0 h) i)) (listed (λ k. empty) (empty_row (row_of fs os false 0) (sound.below false 0 h) i))

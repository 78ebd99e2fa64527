-- Where a row lies, and what it holds.
use Rattle.std.proofs.Common.{◌≡◌, ℕ, ◌+◌, ◌-◌, ◌<◌, ◌≤◌, true, false, List, length, get_or, take, drop, sym, ap, subst, arith}
use Rattle.std.specs.List.{AllByRecursion as Every}
use Rattle.std.proofs.ByRecursion.{All-get_or}
use Rattle.games.specs.Game.{Side}
use Rattle.forms.specs.declared.rows.Form.{Form}
use Rattle.forms.specs.Rows.{blank, many, place, row_of}
use Rattle.forms.specs.Soundness.{Sound}

-- the part of the options that a row is
pub part_is : (fs : List Form) (os : List ℕ) (s : Side) (k : ℕ) →
    take (place s k + many s (get_or fs k blank) - place s k) (drop (place s k) os) ≡ row_of fs os s k
unfolding row_of
part_is fs os s k =
    let e : place s k + many s (get_or fs k blank) - place s k ≡ many s (get_or fs k blank) = omega arith in
    ap (λ n. take n (drop (place s k) os)) e

-- it lies within them
pub part_within : (fs : List Form) (os : List ℕ) (s : Side) (k : ℕ) → Sound fs os → k < length fs → place s k + many s (get_or fs k blank) ≤ length os
part_within fs os true k sound h = omega (arith, sound.few true k h)
part_within fs os false k sound h = omega (arith, sound.few false k h)

-- the numbers of a row are below its owner
pub option_below : (fs : List Form) (os : List ℕ) (s : Side) (k : ℕ) → Sound fs os → k < length fs → (xs : List ℕ) → xs ≡ row_of fs os s k → (i : ℕ) → i < length xs → get_or xs i 0 < k
option_below fs os s k sound h xs e i less = All-get_or (λ x. x < k) xs i 0 less (subst (Every (λ x. x < k)) (sym e) (sound.below s k h))

-- what holds of forms as they are read holds of the rows that they are
pub of_read : (P : List Form → List ℕ → Type 0) {fs gs : List Form} {os ps : List ℕ} → gs ≡ fs → ps ≡ os → P gs ps → P fs os
of_read P {fs} {gs} {os} {ps} e f p = subst (P fs) f (subst (λ hs. P hs ps) e p)

-- Rows that rise.
use Rattle.std.proofs.Common.{◌≡◌, ℕ, zero, suc, ◌<◌, ◌≤◌, ◌⊎◌, List, [], ◌∷◌, length, get_or, sym, refl, inl, inr, suc-le-suc, arith}
use Rattle.std.specs.List.{ContainsAt as Has, AllByRecursion as Every}
use Rattle.std.proofs.ByRecursion.{all-has}
use Rattle.forms.specs.Rows.{Rising}

-- what a longer row has
pub has_here : (x : ℕ) (xs : List ℕ) → Has (x ∷ xs) x
has_here x xs = (0, omega arith, λ d. refl)

pub has_there : (x y : ℕ) (xs : List ℕ) → Has xs y → Has (x ∷ xs) y
has_there x y xs h = (suc h.0, suc-le-suc h.1, h.2)

pub has_cases : (x y : ℕ) (xs : List ℕ) → Has (x ∷ xs) y → (x ≡ y) ⊎ Has xs y
has_cases x y xs (k, l, e) = go k l e
  where
    go : (k : ℕ) → k < length (x ∷ xs) → ((d : ℕ) → get_or (x ∷ xs) k d ≡ y) → (x ≡ y) ⊎ Has xs y
    go zero l e = inl (e 0)
    go (suc k) l e = inr (k, omega arith, e)

pub has_none : {y : ℕ} → Has [] y → ⊥
has_none h = omega (arith, h.1)

least : (a b : ℕ) (bs : List ℕ) → Every (λ c. b < c) bs → Has (b ∷ bs) a → b ≤ a
least a b bs above h = elim (has_cases b a bs h) [ inl e ↦ omega arith | inr k ↦ (let low = all-has (λ c. b < c) bs a above k in omega arith) ]

-- rows with the same least number have the same others
rest_has : (a b : ℕ) (ks bs : List ℕ) → a ≡ b → Every (λ c. a < c) ks → ((z : ℕ) → Has (a ∷ ks) z → Has (b ∷ bs) z) → (z : ℕ) → Has ks z → Has bs z
rest_has a b ks bs e above f z h =
    let more = all-has (λ c. a < c) ks z above h in
    elim (has_cases b z bs (f z (has_there a z ks h))) [ inl same ↦ absurd (omega arith) | inr k ↦ k ]

-- two rows that rise and have the same numbers are the same
pub rising_same : (xs ys : List ℕ) → Rising xs → Rising ys → ((z : ℕ) → Has xs z → Has ys z) → ((z : ℕ) → Has ys z → Has xs z) → xs ≡ ys
rising_same [] [] p q forth back = refl
rising_same [] (y ∷ ys) p q forth back = absurd (has_none (back y (has_here y ys)))
rising_same (x ∷ xs) [] p q forth back = absurd (has_none (forth x (has_here x xs)))
rising_same (x ∷ xs) (y ∷ ys) p q forth back =
    let le = least x y ys q.0 (forth x (has_here x xs)) in
    let ge = least y x xs p.0 (back y (has_here y ys)) in
    let heads : x ≡ y = omega arith in
    let tails = rising_same xs ys p.1 q.1 (rest_has x y xs ys heads p.0 forth) (rest_has y x ys xs (sym heads) q.0 back) in
    λ i. heads i ∷ tails i

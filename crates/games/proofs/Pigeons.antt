-- Numbers below a bound: searching them, and the pigeonhole.
use mathlib.Core.Path.{◌≡◌, refl, subst}
use mathlib.Core.Logic.{◌⊎◌, inl, inr, ◌≢◌}
use Prim.Native.Nat.{ℕ, zero, suc, ◌≤◌, ◌<◌}
use native.Mathlib.Omega.{arith}
use native.Mathlib.Decide.{ℕ_discrete}

-- some number below n is P, or none is
pub one_below : (n : ℕ) (P : ℕ → Type 0) → ((i : ℕ) → P i ⊎ ¬ P i) → ((i : ℕ) × (i < n) × P i) ⊎ ((i : ℕ) → i < n → ¬ P i)
one_below zero P each = inr (λ i less p. omega arith)
one_below (suc n) P each = go (each n) (one_below n P each)
  where
    go :
        P n ⊎ ¬ P n → ((i : ℕ) × (i < n) × P i) ⊎ ((i : ℕ) → i < n → ¬ P i) → ((i : ℕ) × (i < suc n) × P i) ⊎ ((i : ℕ) → i < suc n → ¬ P i)
    go (inl p) rest = inl (n, omega arith, p)
    go (inr np) (inl i) = inl (i.0, omega (arith, i.1), i.2)
    go (inr np) (inr nps) = inr (λ i less p. elim (ℕ_discrete i n) [ yes e ↦ np (subst P e p) | no e ↦ nps i (omega arith) p ])

-- where each number below m has a partner below n, no two the same, m is at most n
pub pigeons :
    (m n : ℕ) (H : ℕ → ℕ → Type 0) → ((i : ℕ) → i < m → (j : ℕ) × (j < n) × H i j) →
    ((i i' j : ℕ) → i < m → i' < m → H i j → H i' j → i ≡ i') → m ≤ n
pigeons zero n H f one = omega arith
pigeons (suc m) zero H f one = let j = f 0 (omega arith) in omega (arith, j.1)
pigeons (suc m) (suc n) H f one = let rest = pigeons m n Others others others_one in omega (arith, rest)
  where
    last : (j : ℕ) × (j < suc n) × H m j
    last = f m (omega arith)

    -- the partner of m is left out, and the last number takes its place
    Others : ℕ → ℕ → Type 0
    Others i j = ((j ≡ last.0) × H i n) ⊎ ((j ≢ last.0) × H i j)

    alone : (i j : ℕ) → i < m → H i j → j ≢ last.0
    alone i j less h e =
        let same = one i m last.0 (omega arith) (omega arith) (subst (H i) e h) last.2 in
        omega (arith, same)

    others : (i : ℕ) → i < m → (j : ℕ) × (j < n) × Others i j
    others i less =
        let j = f i (omega arith) in
        elim (ℕ_discrete j.0 n) [
          | yes e ↦
              let h = subst (H i) e j.2 in
              let apart = alone i n less h in
              (last.0, omega (arith, apart, last.1), inl (refl, h))
          | no e ↦ (j.0, omega (arith, e, j.1), inr (alone i j.0 less j.2, j.2))
        ]

    others_one : (i i' j : ℕ) → i < m → i' < m → Others i j → Others i' j → i ≡ i'
    others_one i i' j less less' (inl h) (inl h') = one i i' n (omega arith) (omega arith) h.1 h'.1
    others_one i i' j less less' (inl h) (inr h') = absurd (h'.0 h.0)
    others_one i i' j less less' (inr h) (inl h') = absurd (h.0 h'.0)
    others_one i i' j less less' (inr h) (inr h') = one i i' j (omega arith) (omega arith) h.1 h'.1

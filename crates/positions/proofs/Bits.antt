-- The bits of numbers: of what two have in common, of all of both, of what is left, of a single one; and how many there are.
use Rattle.std.proofs.Common.{◌≡◌, ℕ, zero, suc, ◌+◌, ◌-◌, ◌/◌, ◌%◌, ◌^◌, ◌<◌, ◌≤◌, min, max, true, false, not, ◌&&◌, ◌||◌, eqb, ◌⊎◌, sym, refl, ap, ◌∙◌, inl, inr, ⊎_elim, pow-suc, arith}
use lib.Bits.{bit_and, bit_or, and_step, or_step, and_zero_r, and_le_l, or_shr}
use lib.Count.{ones, ones_step}
use Rattle.std.proofs.lemmas.Bool.{eqb-true, eqb-false, eq-eqb, ne_eqb, cases_Bool}
use Rattle.std.proofs.lemmas.Bool.Decides.{nat_tests}
use Rattle.positions.specs.Sets.{has}

-- the last bit is 0 or 1
bit : (n : ℕ) → (n % 2 ≡ 0) ⊎ (n % 2 ≡ 1)
bit n = ⊎_elim (λ e. inr (eqb-true (n % 2) 1 e)) (λ e. inl (let h = eqb-false (n % 2) 1 e in omega (arith, h))) (cases_Bool (eqb (n % 2) 1))

-- m is a part of s
module _ (s m : ℕ) (part : bit_and s m ≡ m) where
  part_half : bit_and (s / 2) (m / 2) ≡ m / 2
  part_half = let h = and_step s m in let small : min (s % 2) (m % 2) ≤ m % 2 = omega arith in omega arith

  part_last : m % 2 ≤ s % 2
  part_last = let h = and_step s m in let low : min (s % 2) (m % 2) ≤ s % 2 = omega arith in omega (arith, part_half)

  pub part_le : m ≤ s
  part_le = let h = and_le_l s m in omega arith

  left_half : (s - m) / 2 ≡ s / 2 - m / 2
  left_half = omega (arith, part_le, part_last)

  left_last : (s - m) % 2 ≡ s % 2 - m % 2
  left_last = omega (arith, part_le, part_last)

-- the empty set has nothing
pub has_zero : (i : ℕ) → has 0 i ≡ false
unfolding has
has_zero zero = refl
has_zero (suc i) = has_zero i

pub has_in : (i s m : ℕ) → bit_and s m ≡ m → has m i ≡ true → has s i ≡ true
unfolding has
has_in zero s m part e = let h = eqb-true (m % 2) 1 e in eq-eqb (s % 2) 1 (let k = part_last s m part in let b = bit s in omega arith)
has_in (suc i) s m part e = has_in i (s / 2) (m / 2) (part_half s m part) e

last_left : (x y : ℕ) → (x ≡ 0) ⊎ (x ≡ 1) → (y ≡ 0) ⊎ (y ≡ 1) → y ≤ x → eqb (x - y) 1 ≡ (eqb x 1 && not (eqb y 1))
last_left x y (inl a) (inl b) h = (λ i. eqb (a i - b i) 1) ∙ sym (λ i. eqb (a i) 1 && not (eqb (b i) 1))
last_left x y (inl a) (inr b) h = absurd (omega arith)
last_left x y (inr a) (inl b) h = (λ i. eqb (a i - b i) 1) ∙ sym (λ i. eqb (a i) 1 && not (eqb (b i) 1))
last_left x y (inr a) (inr b) h = (λ i. eqb (a i - b i) 1) ∙ sym (λ i. eqb (a i) 1 && not (eqb (b i) 1))

-- what is left when m is taken out
pub has_left : (i s m : ℕ) → bit_and s m ≡ m → has (s - m) i ≡ (has s i && not (has m i))
unfolding has
has_left zero s m part = ap (λ x. eqb x 1) (left_last s m part) ∙ last_left (s % 2) (m % 2) (bit s) (bit m) (part_last s m part)
has_left (suc i) s m part = ap (λ x. has x i) (left_half s m part) ∙ has_left i (s / 2) (m / 2) (part_half s m part)

last_or : (x y : ℕ) → (x ≡ 0) ⊎ (x ≡ 1) → (y ≡ 0) ⊎ (y ≡ 1) → eqb (max x y) 1 ≡ (eqb x 1 || eqb y 1)
last_or x y (inl a) (inl b) = (λ i. eqb (max (a i) (b i)) 1) ∙ sym (λ i. eqb (a i) 1 || eqb (b i) 1)
last_or x y (inl a) (inr b) = (λ i. eqb (max (a i) (b i)) 1) ∙ sym (λ i. eqb (a i) 1 || eqb (b i) 1)
last_or x y (inr a) (inl b) = (λ i. eqb (max (a i) (b i)) 1) ∙ sym (λ i. eqb (a i) 1 || eqb (b i) 1)
last_or x y (inr a) (inr b) = (λ i. eqb (max (a i) (b i)) 1) ∙ sym (λ i. eqb (a i) 1 || eqb (b i) 1)

or_half : (a b : ℕ) → bit_or a b / 2 ≡ bit_or (a / 2) (b / 2)
or_half a b = or_shr a b 1

or_last : (a b : ℕ) → bit_or a b % 2 ≡ max (a % 2) (b % 2)
or_last a b = let h = or_step a b in let k = or_half a b in omega arith

-- the set of all of both
pub has_or : (i a b : ℕ) → has (bit_or a b) i ≡ (has a i || has b i)
unfolding has
has_or zero a b = ap (λ x. eqb x 1) (or_last a b) ∙ last_or (a % 2) (b % 2) (bit a) (bit b)
has_or (suc i) a b = ap (λ x. has x i) (or_half a b) ∙ has_or i (a / 2) (b / 2)

eqb_suc : (i j : ℕ) → eqb i j ≡ eqb (suc i) (suc j)
eqb_suc i j = grind (arith, nat_tests)

-- a single one
pub has_pow : (i j : ℕ) → has (2 ^ i) j ≡ eqb j i
unfolding has
has_pow zero zero = refl
has_pow zero (suc j) = has_zero j ∙ sym (ne_eqb (suc j) 0 (λ e. omega arith))
has_pow (suc i) zero =
    let even : 2 ^ suc i % 2 ≡ 0 = (let p = pow-suc 2 i in omega arith) in
    ap (λ x. eqb x 1) even ∙ sym (ne_eqb 0 (suc i) (λ e. omega arith))
has_pow (suc i) (suc j) =
    let half : 2 ^ suc i / 2 ≡ 2 ^ i = (let p = pow-suc 2 i in omega arith) in
    ap (λ x. has x j) half ∙ has_pow i j ∙ eqb_suc j i

-- m is a part of s if s has all that m has
pub part_from : (n s m : ℕ) → m < 2 ^ n → ((i : ℕ) → has m i ≡ true → has s i ≡ true) → bit_and s m ≡ m
unfolding has
part_from zero s m small all = let z : m ≡ 0 = omega arith in ap (bit_and s) z ∙ and_zero_r s ∙ sym z
part_from (suc n) s m small all =
    let p = pow-suc 2 n in
    let half = part_from n (s / 2) (m / 2) (omega arith) (λ i. all (suc i)) in
    let last : m % 2 ≤ s % 2 =
    ⊎_elim (λ z. omega arith) (λ o. let t = eqb-true (s % 2) 1 (all 0 (eq-eqb (m % 2) 1 o)) in omega arith) (bit m) in
    let step = and_step s m in
    omega arith

-- how many are left
pub ones_left : (n s m : ℕ) → s < 2 ^ n → bit_and s m ≡ m → ones (s - m) + ones m ≡ ones s
unfolding ones
ones_left zero s m small part =
    let a : s ≡ 0 = omega arith in
    let b : m ≡ 0 = omega (arith, part_le s m part) in
    (λ i. ones (a i - b i) + ones (b i)) ∙ sym (ap ones a)
ones_left (suc n) s m small part =
    let p = pow-suc 2 n in
    let rec = ones_left n (s / 2) (m / 2) (omega arith) (part_half s m part) in
    let half = ap ones (left_half s m part) in
    omega (arith, left_last s m part, part_last s m part, ones_step s, ones_step m, ones_step (s - m))

pub ones_some : (i m : ℕ) → has m i ≡ true → 0 < ones m
unfolding has
ones_some zero m e = let h = eqb-true (m % 2) 1 e in let k = ones_step m in omega arith
ones_some (suc i) m e = let h = ones_some i (m / 2) e in let k = ones_step m in omega arith

-- A number put into a rising row.
use Rattle.std.proofs.Common.{◌≡◌, ℕ, zero, suc, ◌+◌, ◌<◌, ◌≤◌, ◌⊎◌, List, [], ◌∷◌, ◌++◌, length, get_or, take, drop, Result, MatchResult, sym, subst, inl, inr, arith}
use Rattle.std.specs.List.{ContainsAt as Has, AllByRecursion as Every}
use Rattle.std.specs.List.Sorted.{IsBinarySearchResult}
use Rattle.std.specs.Ordering.{nat_cmp}
use Rattle.std.proofs.lemmas.List.{take-append-drop, get_or-take, get_or-drop, length-take-le, length-drop}
use Rattle.std.proofs.lemmas.List.Sorted.{searched}
use Rattle.std.proofs.ByRecursion.{All-append, All-take, All-weaker, All-get_or, All-from_get_or, has_get_or, has_append_left, has_append_right}
use Rattle.forms.specs.Rows.{Rising}
use Rattle.forms.proofs.Risings.{has_here, has_there, has_cases}
use Rattle.canonical.specs.Reducing.{Inserted}

pub rising_append : (xs ys : List ℕ) → Rising xs → Rising ys → Every (λ x. Every (λ y. x < y) ys) xs → Rising (xs ++ ys)
rising_append [] ys p q h = q
rising_append (x ∷ xs) ys p q h = (All-append (λ y. x < y) xs ys p.0 h.0, rising_append xs ys p.1 q h.1)

pub rising_take : (n : ℕ) (xs : List ℕ) → Rising xs → Rising (take n xs)
rising_take zero xs p = tt
rising_take (suc n) [] p = tt
rising_take (suc n) (x ∷ xs) p = (All-take (λ y. x < y) n xs p.0, rising_take n xs p.1)

pub rising_drop : (n : ℕ) (xs : List ℕ) → Rising xs → Rising (drop n xs)
rising_drop zero xs p = p
rising_drop (suc n) [] p = tt
rising_drop (suc n) (x ∷ xs) p = rising_drop n xs p.1

pub has_append_cases : (xs ys : List ℕ) (w : ℕ) → Has (xs ++ ys) w → Has xs w ⊎ Has ys w
has_append_cases [] ys w h = inr h
has_append_cases (x ∷ xs) ys w h =
    elim (has_cases x w (xs ++ ys) h) [
      | inl e ↦ inl (subst (Has (x ∷ xs)) e (has_here x xs))
      | inr k ↦ elim (has_append_cases xs ys w k) [ inl i ↦ inl (has_there x w xs i) | inr i ↦ inr i ]
    ]

-- a row is its first n numbers and the others
pub has_take : (n : ℕ) (xs : List ℕ) (w : ℕ) → Has (take n xs) w → Has xs w
has_take n xs w h = subst (λ l. Has l w) (take-append-drop n xs) (has_append_left (take n xs) (drop n xs) w h)

pub has_drop : (n : ℕ) (xs : List ℕ) (w : ℕ) → Has (drop n xs) w → Has xs w
has_drop n xs w h = subst (λ l. Has l w) (take-append-drop n xs) (has_append_right (take n xs) (drop n xs) w h)

pub has_split : (n : ℕ) (xs : List ℕ) (w : ℕ) → Has xs w → Has (take n xs) w ⊎ Has (drop n xs) w
has_split n xs w h = has_append_cases (take n xs) (drop n xs) w (subst (λ l. Has l w) (sym (take-append-drop n xs)) h)

-- later numbers of a rising row are no lower
pub rising_more : (xs : List ℕ) → Rising xs → (i j : ℕ) → i ≤ j → j < length xs → get_or xs i 0 ≤ get_or xs j 0
rising_more [] up i j le h = absurd (omega arith)
rising_more (x ∷ xs) up zero zero le h = omega arith
rising_more (x ∷ xs) up zero (suc j) le h = let low = All-get_or (λ y. x < y) xs j 0 (omega arith) up.0 in omega arith
rising_more (x ∷ xs) up (suc i) zero le h = absurd (omega arith)
rising_more (x ∷ xs) up (suc i) (suc j) le h = rising_more xs up.1 i j (omega arith) (omega arith)

-- what a search in a rising row finds: where the number stands; or where it belongs, after the lower ones and before the higher ones
pub looked_up : (row held : List ℕ) (x : ℕ) (r : Result ℕ ℕ) → held ≡ row → Rising row → IsBinarySearchResult (λ y. nat_cmp y x) held r →
    MatchResult r (λ i. (i < length row) × (get_or row i 0 ≡ x)) (λ i. (i ≤ length row) × ((k : ℕ) → k < i → get_or row k 0 < x) × ((k : ℕ) → i ≤ k → k < length row → x < get_or row k 0))
looked_up row held x r same up h = searched row x r (subst (λ l. IsBinarySearchResult (λ y. nat_cmp y x) l r) same h) (rising_more row up)

-- the row has the number already
pub already : (row : List ℕ) (x i : ℕ) → Rising row → (i < length row) × (get_or row i 0 ≡ x) → Inserted row x row
already row x i up found = record { rising = up; stays = λ w k. k; has = subst (Has row) found.1 (has_get_or row i 0 found.0); only = λ w k. inl k }

-- the number goes in after i lower ones and before the higher ones
module _
    (row : List ℕ) (x i : ℕ) (up : Rising row)
    (gap : (i ≤ length row) × ((k : ℕ) → k < i → get_or row k 0 < x) × ((k : ℕ) → i ≤ k → k < length row → x < get_or row k 0)) where
  before : Every (λ y. y < x) (take i row)
  before =
      All-from_get_or (λ y. y < x) (take i row) 0
      (λ k h. let l = length-take-le i row gap.0 in subst (λ a. a < x) (sym (get_or-take i row k 0 (omega arith))) (gap.1 k (omega arith)))

  above : Every (λ y. x < y) (drop i row)
  above =
      All-from_get_or (λ y. x < y) (drop i row) 0
      (λ k h. let l = length-drop i row in subst (λ a. x < a) (sym (get_or-drop i row k 0)) (gap.2 (i + k) (omega arith) (omega arith)))

  pub put_in : (new : List ℕ) → new ≡ take i row ++ x ∷ drop i row → Inserted row x new
  put_in new e =
      subst (Inserted row x) (sym e)
      (record {
        rising =
            rising_append (take i row) (x ∷ drop i row) (rising_take i row up) (above, rising_drop i row up)
            (All-weaker (λ y. y < x) (λ y. Every (λ z. y < z) (x ∷ drop i row)) (λ y l. (l, All-weaker (λ z. x < z) (λ z. y < z) (λ z m. omega arith) (drop i row) above)) (take i row) before);
        stays =
            λ w h. elim (has_split i row w h) [
              | inl k ↦ has_append_left (take i row) (x ∷ drop i row) w k
              | inr k ↦ has_append_right (take i row) (x ∷ drop i row) w (has_there x w (drop i row) k)
            ];
        has = has_append_right (take i row) (x ∷ drop i row) x (has_here x (drop i row));
        only =
            λ w h. elim (has_append_cases (take i row) (x ∷ drop i row) w h) [
              | inl k ↦ inl (has_take i row w k)
              | inr k ↦ elim (has_cases x w (drop i row) k) [ inl e ↦ inr (sym e) | inr j ↦ inl (has_drop i row w j) ]
            ];
      })

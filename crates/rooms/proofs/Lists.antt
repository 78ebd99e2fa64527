-- Lists: what they have, lists that rise, and how often a number stands in one.
use Rattle.std.proofs.Common.{◌≡◌, ℕ, zero, suc, ◌+◌, ◌<◌, ◌≤◌, cond, eqb, ◌⊎◌, List, [], ◌∷◌, ◌++◌, length, get_or, sym, refl, ap, ◌∙◌, subst, inl, inr, ⊎_elim, arith}
use Rattle.std.specs.List.{ContainsAt as Has, AllByRecursion as Every}
use Rattle.std.specs.List.Sorted.{IsNonDecreasing}
use Rattle.std.proofs.ByRecursion.{all-has, All-push, has_get_or, All-get_or}
use Rattle.std.proofs.lemmas.List.Sums.{sum_by-cons, sum_by_push}
use Rattle.std.proofs.lemmas.Bool.{eq-eqb, ne_eqb, cases_eq, cases_order}
use Rattle.games.proofs.Pigeons.{pigeons}
use Rattle.rooms.specs.Walks.{Rise, times, Apart}

pub has_none : {X : Type 0} (y : X) → Has [] y → ⊥
has_none y h = omega (arith, h.1)

pub has_here : {X : Type 0} (x : X) (xs : List X) → Has (x ∷ xs) x
has_here x xs = (0, omega arith, λ d. refl)

pub has_there : {X : Type 0} (x : X) (xs : List X) (y : X) → Has xs y → Has (x ∷ xs) y
has_there x xs y h = (suc h.0, omega (arith, h.1), h.2)

pub has_cases : {X : Type 0} (x : X) (xs : List X) (y : X) → Has (x ∷ xs) y → (x ≡ y) ⊎ Has xs y
has_cases {X} x xs y h = go h.0 h.1 h.2
  where
    go : (k : ℕ) → k < suc (length xs) → ((d : X) → get_or (x ∷ xs) k d ≡ y) → (x ≡ y) ⊎ Has xs y
    go zero l e = inl (e x)
    go (suc k) l e = inr (k, omega arith, e)

pub all_by_has : {X : Type 0} (P : X → Type 0) (xs : List X) → ((x : X) → Has xs x → P x) → Every P xs
all_by_has P [] each = tt
all_by_has P (x ∷ xs) each = (each x (has_here x xs), all_by_has P xs (λ y h. each y (has_there x xs y h)))

-- what stands later in a rising list is greater
pub rise_at : {X : Type 0} (f : X → ℕ) (xs : List X) (i j : ℕ) (d : X) → Rise f xs → i < j → j < length xs → f (get_or xs i d) < f (get_or xs j d)
rise_at f [] i j d up less below = absurd (omega arith)
rise_at f (x ∷ xs) zero zero d up less below = absurd (omega arith)
rise_at f (x ∷ xs) zero (suc j) d up less below = All-get_or (λ y. f x < f y) xs j d (omega arith) up.0
rise_at f (x ∷ xs) (suc i) zero d up less below = absurd (omega arith)
rise_at f (x ∷ xs) (suc i) (suc j) d up less below = rise_at f xs i j d up.1 (omega arith) (omega arith)

pub rise_place : {X : Type 0} (f : X → ℕ) (xs : List X) (i j : ℕ) (d : X) → Rise f xs → i < length xs → j < length xs → get_or xs i d ≡ get_or xs j d → i ≡ j
rise_place f xs i j d up hi hj e =
    let same = ap f e in
    ⊎_elim (λ eq. eq)
    (⊎_elim (λ less. absurd (let k = rise_at f xs i j d up less hj in omega arith)) (λ less. absurd (let k = rise_at f xs j i d up less hi in omega arith)))
    (cases_order i j)

pub rise_push : {X : Type 0} (f : X → ℕ) (xs : List X) (y : X) → Rise f xs → Every (λ x. f x < f y) xs → Rise f (xs ++ y ∷ [])
rise_push f [] y up below = (tt, tt)
rise_push f (x ∷ xs) y up below = (All-push (λ z. f x < f z) xs y up.0 below.0, rise_push f xs y up.1 below.1)

-- two rising lists that have the same things are the same
pub rise_same :
    {X : Type 0} (f : X → ℕ) (xs ys : List X) → Rise f xs → Rise f ys → ((x : X) → Has xs x → Has ys x) → ((y : X) → Has ys y → Has xs y) → xs ≡ ys
rise_same f [] [] rx ry to from = refl
rise_same f [] (y ∷ ys) rx ry to from = absurd (has_none y (from y (has_here y ys)))
rise_same f (x ∷ xs) [] rx ry to from = absurd (has_none x (to x (has_here x xs)))
rise_same {X} f (x ∷ xs) (y ∷ ys) rx ry to from =
    let rest = rise_same f xs ys rx.1 ry.1
    (λ z h. ⊎_elim (λ e. absurd (let k = all-has (λ w. f x < f w) xs z rx.0 h in let l = ap f (same ∙ e) in omega arith)) (λ g. g) (has_cases y ys z (to z (has_there x xs z h))))
    (λ z h. ⊎_elim (λ e. absurd (let k = all-has (λ w. f y < f w) ys z ry.0 h in let l = ap f (sym same ∙ e) in omega arith)) (λ g. g) (has_cases x xs z (from z (has_there y ys z h)))) in
    λ i. same i ∷ rest i
  where
    same : x ≡ y
    same =
        ⊎_elim (λ e. e)
        (λ h. ⊎_elim (λ e. sym e) (λ g. absurd (let k = all-has (λ w. f x < f w) xs y rx.0 h in let l = all-has (λ w. f y < f w) ys x ry.0 g in omega arith)) (has_cases y ys x (to x (has_here x xs))))
        (has_cases x xs y (from y (has_here y ys)))

-- how often a number stands in a list
times_cons : (q p : ℕ) (ps : List ℕ) → times q (p ∷ ps) ≡ cond (eqb p q) 1 0 + times q ps
times_cons q p ps = sum_by-cons (λ r. cond (eqb r q) 1 0) p ps

once : (p q : ℕ) → p ≡ q → ◌≡◌ {A = ℕ} (cond (eqb p q) 1 0) 1
once p q e = ap (λ t. cond t 1 0) (eq-eqb p q e)

never : (p q : ℕ) → (p ≡ q → ⊥) → ◌≡◌ {A = ℕ} (cond (eqb p q) 1 0) 0
never p q e = ap (λ t. cond t 1 0) (ne_eqb p q e)

at_most_once : (p q : ℕ) → cond (eqb p q) 1 0 ≤ 1
at_most_once p q = ⊎_elim (λ e. let k = once p q e in omega arith) (λ e. let k = never p q e in omega arith) (cases_eq p q)

pub times_none : (q : ℕ) (ps : List ℕ) → (Has ps q → ⊥) → times q ps ≡ 0
times_none q [] out = refl
times_none q (p ∷ ps) out =
    let k = times_cons q p ps in
    let l = never p q (λ e. out (subst (Has (p ∷ ps)) e (has_here p ps))) in
    let m = times_none q ps (λ h. out (has_there p ps q h)) in
    omega arith

pub times_some : (q : ℕ) (ps : List ℕ) → Has ps q → 1 ≤ times q ps
times_some q [] h = absurd (has_none q h)
times_some q (p ∷ ps) h =
    let k = times_cons q p ps in
    ⊎_elim (λ e. let l = once p q e in omega arith) (λ g. let l = times_some q ps g in omega arith) (has_cases p ps q h)

-- a number that is not there yet is added
pub apart_push : (ps : List ℕ) (y : ℕ) → Apart ps → (Has ps y → ⊥) → Apart (ps ++ y ∷ [])
apart_push ps y apart out q =
    let k = sum_by_push (λ r. cond (eqb r q) 1 0) ps y in
    ⊎_elim
    (λ e. let l = once y q e in let m = times_none q ps (λ h. out (subst (Has ps) (sym e) h)) in omega arith)
    (λ e. let l = never y q e in let m = apart q in omega arith) (cases_eq y q)

apart_rest : (p : ℕ) (ps : List ℕ) → Apart (p ∷ ps) → Apart ps
apart_rest p ps apart q = let k = times_cons q p ps in let l = apart q in omega arith

pub apart_first : (p : ℕ) (ps : List ℕ) → Apart (p ∷ ps) → Has ps p → ⊥
apart_first p ps apart h = let k = times_cons p p ps in let l = apart p in let m = once p p refl in let n = times_some p ps h in omega arith

-- at two places stand two numbers
apart_places : (ps : List ℕ) → Apart ps → (i j : ℕ) → i < length ps → j < length ps → get_or ps i 0 ≡ get_or ps j 0 → i ≡ j
apart_places [] apart i j hi hj e = absurd (omega arith)
apart_places (p ∷ ps) apart zero zero hi hj e = refl
apart_places (p ∷ ps) apart zero (suc j) hi hj e = absurd (apart_first p ps apart (subst (Has ps) (sym e) (has_get_or ps j 0 (omega arith))))
apart_places (p ∷ ps) apart (suc i) zero hi hj e = absurd (apart_first p ps apart (subst (Has ps) e (has_get_or ps i 0 (omega arith))))
apart_places (p ∷ ps) apart (suc i) (suc j) hi hj e = ap suc (apart_places ps (apart_rest p ps apart) i j (omega arith) (omega arith) e)

-- a list without repetition whose numbers another list has is no longer than that
pub no_longer : (ps qs : List ℕ) → Apart ps → Every (Has qs) ps → length ps ≤ length qs
no_longer ps qs apart each =
    pigeons (length ps) (length qs) (λ i j. get_or ps i 0 ≡ get_or qs j 0)
    (λ i less. let h = all-has (Has qs) ps (get_or ps i 0) each (has_get_or ps i 0 less) in (h.0, h.1, sym (h.2 0)))
    (λ i j k li lj e e'. apart_places ps apart i j li lj (e ∙ sym e'))

-- a rising list has no repetition
pub rise_apart : (ps : List ℕ) → Rise (λ q. q) ps → Apart ps
rise_apart [] up q = omega arith
rise_apart (p ∷ ps) up q =
    let k = times_cons q p ps in
    let l = rise_apart ps up.1 q in
    ⊎_elim
    (λ e. let m = times_none q ps (λ h. let n = all-has (λ r. p < r) ps q up.0 h in omega arith) in let o = at_most_once p q in omega arith)
    (λ ne. let m = never p q ne in omega arith) (cases_eq p q)

-- a sorted list without repetition rises
pub rise_sorted : (ps : List ℕ) → IsNonDecreasing ps → Apart ps → Rise (λ q. q) ps
rise_sorted [] up apart = tt
rise_sorted (p ∷ ps) up apart = (
  all_by_has (λ q. p < q) ps
      (λ q h.
      let le = up 0 (suc h.0) 0 (omega arith) (omega (arith, h.1)) in
      let at = h.2 0 in
      let ne : p ≡ q → ⊥ = λ e. apart_first p ps apart (subst (Has ps) (sym e) h) in
      omega arith),
  rise_sorted ps (λ i j d less below. up (suc i) (suc j) d (omega arith) (omega arith)) (apart_rest p ps apart),
)

-- The squares of a room that are in a set.
use Rattle.std.proofs.Common.{◌≡◌, ℕ, zero, suc, ◌/◌, ◌%◌, ◌<◌, true, false, eqb, List, [], ◌∷◌, length, get_or, sym, refl, ap, subst, ⊎_elim, arith}
use Rattle.std.specs.List.{ContainsAt as Has}
use Rattle.std.proofs.ByRecursion.{all-has, has_get_or}
use Rattle.std.proofs.lemmas.Bool.{cases_Bool}
use Rattle.board.specs.Grid.{pick}
use Rattle.rooms.specs.Walks.{Rise}
use Rattle.rooms.proofs.Lists.{has_none, has_here, has_there, has_cases}
use Rattle.positions.specs.Sets.{has, chosen}

-- square p is number i of the room and in the set
pub record At (qs : List ℕ) (set p : ℕ) : Type 0 where
  pub number : ℕ
  pub low : number < length qs
  pub is : get_or qs number 0 ≡ p
  pub member : has set number ≡ true

pub chosen_has : (qs : List ℕ) (set i : ℕ) → i < length qs → has set i ≡ true → Has (chosen qs set) (get_or qs i 0)
unfolding has
chosen_has [] set i h e = absurd (omega arith)
chosen_has (q ∷ qs) set zero h e = subst (λ t. Has (pick t (q ∷ chosen qs (set / 2)) (chosen qs (set / 2))) q) (sym e) (has_here q (chosen qs (set / 2)))
chosen_has (q ∷ qs) set (suc i) h e =
    let rest = chosen_has qs (set / 2) i (omega arith) e in
    elim (eqb (set % 2) 1) as (λ t. Has (pick t (q ∷ chosen qs (set / 2)) (chosen qs (set / 2))) (get_or qs i 0))
    [ true ↦ has_there q (chosen qs (set / 2)) (get_or qs i 0) rest | false ↦ rest ]

pub has_chosen : (qs : List ℕ) (set p : ℕ) → Has (chosen qs set) p → At qs set p
unfolding has
has_chosen [] set p h = absurd (has_none p h)
has_chosen (q ∷ qs) set p h =
    let onward : Has (chosen qs (set / 2)) p → At (q ∷ qs) set p = λ later.
    let r = has_chosen qs (set / 2) p later in
    record { number = suc r.number; low = omega (arith, r.low); is = r.is; member = r.member } in
    ⊎_elim
    (λ e. ⊎_elim
    (λ same. record { number = 0; low = omega arith; is = same; member = e })
    onward
    (has_cases q (chosen qs (set / 2)) p (subst (λ t. Has (pick t (q ∷ chosen qs (set / 2)) (chosen qs (set / 2))) p) e h)))
    (λ e. onward (subst (λ t. Has (pick t (q ∷ chosen qs (set / 2)) (chosen qs (set / 2))) p) e h))
    (cases_Bool (eqb (set % 2) 1))

-- in a rising room a square has one number
pub one_number : (qs : List ℕ) → Rise (λ q. q) qs → (i j : ℕ) → i < length qs → j < length qs → get_or qs i 0 ≡ get_or qs j 0 → i ≡ j
one_number [] rise i j h k e = absurd (omega arith)
one_number (q ∷ qs) rise zero zero h k e = refl
one_number (q ∷ qs) rise zero (suc j) h k e = absurd (let l = all-has (λ y. q < y) qs (get_or qs j 0) rise.0 (has_get_or qs j 0 (omega arith)) in omega arith)
one_number (q ∷ qs) rise (suc i) zero h k e = absurd (let l = all-has (λ y. q < y) qs (get_or qs i 0) rise.0 (has_get_or qs i 0 (omega arith)) in omega arith)
one_number (q ∷ qs) rise (suc i) (suc j) h k e = ap suc (one_number qs rise.1 i j (omega arith) (omega arith) e)

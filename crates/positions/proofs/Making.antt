-- Making the set of some squares, one by one.
use Rattle.std.proofs.Common.{◌≡◌, ℕ, zero, suc, ◌+◌, ◌^◌, ◌<◌, ◌≤◌, Bool, true, false, ◌&&◌, ◌||◌, eqb, ltb, List, [], ◌∷◌, ◌++◌, length, get_or, slice_index_or, take, drop, Option, None, Some, MatchOption, sym, refl, ap, ◌∙◌, subst, ⊎_elim, arith}
use lib.Bits.{bit_or}
use Rattle.std.specs.Fn.{Mut, Called}
use Rattle.std.specs.Array.{IsFromFnResultFrom}
use Rattle.std.specs.List.{ContainsAt as Has, position, position_or_len}
use Rattle.std.proofs.lemmas.List.{at_drop_more, take_more}
use Rattle.std.proofs.lemmas.List.Quantifiers.{position-Some}
use Rattle.std.proofs.lemmas.List.Sums.{fails_before_first}
use Rattle.std.proofs.lemmas.Grind.{common_steps}
use Rattle.std.proofs.lemmas.Bool.{cases_Bool, cases_lt, both_ways, eqb-true, eq-eqb, lt-ltb, ltb-true}
use Rattle.std.proofs.ByRecursion.{has_get_or}
use Rattle.rooms.specs.Games.{among}
use Rattle.rooms.specs.Walks.{Rise}
use Rattle.rooms.proofs.Through.{among_has, has_among}
use Rattle.positions.specs.Sets.{has, all_among, Holds, SetOf, covered, inside, Move}
use Rattle.board.specs.Grid.{Grid, Side}
use Rattle.board.specs.Moves.{fits}
use Rattle.positions.proofs.Bits.{has_zero, has_or, has_pow}
use Rattle.positions.proofs.Choices.{one_number}

-- where a square first stands in a room
pub found_at : (qs : List ℕ) (q : ℕ) (at : Option ℕ) → at ≡ position (λ x. eqb x q) qs → MatchOption at (among qs q ≡ false) (λ i. (i < length qs) × (get_or qs i 0 ≡ q))
found_at qs q (Some i) e = let there = position-Some (λ x. eqb x q) qs i 0 (sym e) in (there.0, eqb-true (get_or qs i 0) q there.1)
found_at qs q None e =
    let past : length qs ≤ position_or_len (λ x. eqb x q) qs = grind (arith, common_steps) in
    ⊎_elim
    (λ t.
    let there = among_has qs q t in
    absurd (both_ways (eqb (get_or qs there.0 0) q) (fails_before_first (λ x. eqb x q) qs there.0 0 (omega (arith, there.1))) (eq-eqb (get_or qs there.0 0) q (there.2 0))))
    (λ f. f) (cases_Bool (among qs q))

among_push : (ps : List ℕ) (p q : ℕ) → among (ps ++ p ∷ []) q ≡ (among ps q || eqb p q)
among_push [] p q = or_false (eqb p q)
  where
    or_false : (x : Bool) → (x || false) ≡ x
    or_false true = refl
    or_false false = refl
among_push (r ∷ ps) p q = ap (λ x. eqb r q || x) (among_push ps p q) ∙ regroup (eqb r q) (among ps q) (eqb p q)
  where
    regroup : (x y z : Bool) → (x || (y || z)) ≡ ((x || y) || z)
    regroup true y z = refl
    regroup false y z = refl

-- k of the squares are in the set, and whether the others are in the room is yet to be seen
abbrev pub Sofar : List ℕ → List ℕ → ℕ → ℕ → Type 0
Sofar qs ps k set = (all_among (drop k ps) qs ≡ all_among ps qs) × Holds qs (take k ps) set

pub none_yet : (qs ps : List ℕ) → Sofar qs ps 0 0
none_yet qs ps = (refl, λ j. has_zero j ∙ sym (and_false (ltb j (length qs))))
  where
    and_false : (x : Bool) → (x && false) ≡ false
    and_false true = refl
    and_false false = refl

glue : (l a e f : Bool) → (e ≡ true → l ≡ true) → (e ≡ true → f ≡ true) → (l ≡ true → f ≡ true → e ≡ true) → ((l && a) || e) ≡ (l && (a || f))
glue true true e f low to from = refl
glue true false true true low to from = refl
glue true false true false low to from = sym (to refl)
glue true false false true low to from = from refl refl
glue true false false false low to from = refl
glue false a true f low to from = sym (low refl)
glue false a false f low to from = refl

module _ (qs ps : List ℕ) (k set : ℕ) (sofar : Sofar qs ps k set) where
  next : k < length ps → all_among ps qs ≡ (among qs (get_or ps k 0) && all_among (drop (k + 1) ps) qs)
  next h = sym sofar.0 ∙ at_drop_more (λ l. all_among l qs) ps k 0 h

  -- one of them is not in the room
  pub outside : (out : Option ℕ) → out ≡ None → k < length ps → None ≡ position (λ x. eqb x (get_or ps k 0)) qs → SetOf qs ps out
  outside out no-set h at = subst (SetOf qs ps) (sym no-set) (next h ∙ ap (λ t. t && all_among (drop (k + 1) ps) qs) (found_at qs (get_or ps k 0) None at))

  -- one more is
  pub one_more : Rise (λ q. q) qs → k < length ps → (i bit : ℕ) → Some i ≡ position (λ x. eqb x (get_or ps k 0)) qs → bit ≡ 2 ^ i → Sofar qs ps (k + 1) (bit_or set bit)
  one_more rise h i bit at e = let there = found_at qs (get_or ps k 0) (Some i) at in let low = there.0 in let is = there.1 in (
    sym (next h ∙ ap (λ t. t && all_among (drop (k + 1) ps) qs) (has_among qs (get_or ps k 0) (subst (Has qs) is (has_get_or qs i 0 low)))),
    λ j.
        has_or j set bit ∙ (λ t. sofar.1 j t || (ap (λ x. has x j) e ∙ has_pow i j) t)
        ∙ glue (ltb j (length qs)) (among (take k ps) (get_or qs j 0)) (eqb j i) (eqb (get_or ps k 0) (get_or qs j 0))
        (λ e. let same = eqb-true j i e in lt-ltb j (length qs) (omega arith))
        (λ e. eq-eqb (get_or ps k 0) (get_or qs j 0) (sym is ∙ ap (λ n. get_or qs n 0) (sym (eqb-true j i e))))
        (λ l e. eq-eqb j i (one_number qs rise j i (ltb-true j (length qs) l) low (sym (eqb-true (get_or ps k 0) (get_or qs j 0) e) ∙ sym is)))
        ∙ ap (λ x. ltb j (length qs) && x) (sym (ap (λ l. among l (get_or qs j 0)) (take_more ps k 0 h) ∙ among_push (take k ps) (get_or ps k 0) (get_or qs j 0))),
  )

-- the set of a move, from what it covers
module _ (b : Grid) (qs : List ℕ) (s : Side) (q : ℕ) where
  pub move_unfit : (set : Option ℕ) → set ≡ None → fits b.width (length b.cells) s q ≡ false → Move b qs s q set
  unfolding Move
  move_unfit set no-set e = subst (λ t. MatchOption t (inside b qs s q ≡ false) (λ m. (inside b qs s q ≡ true) × Holds qs (covered b s q) m)) (sym no-set) (ap (λ t. t && all_among (covered b s q) qs) e)

  pub move_fit : (ps : List ℕ) (set : Option ℕ) → (fits b.width (length b.cells) s q ≡ true) × (ps ≡ covered b s q) → SetOf qs ps set → Move b qs s q set
  unfolding Move
  move_fit ps set e h =
      subst (λ t. MatchOption set (t ≡ false) (λ m. (t ≡ true) × Holds qs (covered b s q) m)) (sym (ap (λ t. t && all_among (covered b s q) qs) e.0))
      (subst (λ l. MatchOption set (all_among l qs ≡ false) (λ m. (all_among l qs ≡ true) × Holds qs l m)) e.1 h)

-- what holds of each call holds of each thing that calls with the numbers from i on gave, if they leave the function as it is
module _ {F B : Type 0} (g : Mut F (ℕ × Unit {0}) B) (f : F) (P : ℕ → B → Type 0) (one : (i : ℕ) (y : B) (q : F) → Called g f (i, tt) y q → P i y × (q ≡ f)) where
  pub each_called : (ys : List B) (i n : ℕ) → IsFromFnResultFrom g f ys i n → (k : ℕ) (d : B) → i ≤ k → k < i + n → P k (slice_index_or ys k d)
  each_called ys i zero all k d low high = absurd (omega arith)
  each_called ys i (suc n) all k d low high =
      let this = one i all.1 all.0 all.3 in
      ⊎_elim
      (λ later. each_called ys (i + 1) n (subst (λ p. IsFromFnResultFrom g p ys (i + 1) n) this.1 all.4) k d (omega arith) (omega arith))
      (λ here. let same : i ≡ k = omega arith in subst (λ j. P j (slice_index_or ys j d)) same (subst (P i) (sym (all.2.1 d)) this.0))
      (cases_lt i k)

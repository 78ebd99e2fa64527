-- A walk along the bytes of a file that stand for squares.
use Rattle.std.proofs.Common.{◌≡◌, ℕ, not, ltb, position, MatchOption, Option, subst, refl, ◌+◌, ◌-◌, ◌*◌, ◌<◌, ◌≤◌, Bool, List, [], ◌∷◌, ◌++◌, map, length, get_or, take, drop, set, Some, None, sym, ap, ◌∙◌, mul-le-mul, arith}
use Rattle.std.proofs.lemmas.List.Sums.{prefix_len-le-length}
use Rattle.std.proofs.lemmas.List.{take_more_set, map_more, take_all, length-take, length-drop}
use Rattle.std.proofs.lemmas.Bool.{eq-eqb, cond_both, ltb-true, ltb-false}
use Rattle.board.specs.declared.refusal.Refusal.TheVariants.{Square}
use Rattle.board.specs.Grid.{Grid, pick}
use Rattle.board.specs.Reading.{is_free, is_square_byte, bad_at, first_failed, squares_check, squares, asked, grid_in}

-- the first byte that is no square, as it is found
pub bad_found : (cs : List ℕ) (r : Option ℕ) → r ≡ position (λ c. not (is_square_byte c)) cs →
    MatchOption r (bad_at cs ≡ length cs) (λ i. (i ≡ bad_at cs) × (i < length cs))
bad_found cs r e =
    let P : Option ℕ → Type 0 = λ o. MatchOption o (bad_at cs ≡ length cs) (λ i. (i ≡ bad_at cs) × (i < length cs)) in
    subst P (sym e) (cond_both (ltb (bad_at cs) (length cs)) (Some (bad_at cs)) None P
    (λ t. (refl, ltb-true (bad_at cs) (length cs) t))
    (λ f. let h = ltb-false (bad_at cs) (length cs) f in let k = prefix_len-le-length (λ c. not (not (is_square_byte c))) cs in omega arith))

-- one square more is written
pub cells_more : (cs : List ℕ) (i : ℕ) (free : List Bool) → i < length cs → i < length free → take i free ≡ map is_free (take i cs) →
    take (i + 1) (set free i (is_free (get_or cs i 0))) ≡ map is_free (take (i + 1) cs)
cells_more cs i free h k e =
    take_more_set free i (is_free (get_or cs i 0)) k ∙ ap (λ l. l ++ is_free (get_or cs i 0) ∷ []) e ∙ sym (map_more is_free cs i 0 h)

pub cells_all : (cs : List ℕ) (i : ℕ) (free : List Bool) → i ≡ length cs → take i free ≡ map is_free (take i cs) → take (length cs) free ≡ map is_free cs
cells_all cs i free h e = ap (λ n. take n free) (sym h) ∙ e ∙ ap (map is_free) (take_all i cs (omega arith))

-- the part of a file that its squares are
module _ (bs : List ℕ) (w h : ℕ) (wide : w ≡ get_or bs 0 0) (high : h ≡ get_or bs 1 0) where
  pub asked_is : w * h ≡ asked bs
  asked_is = λ i. wide i * high i

  -- as many as n
  module _ (n : ℕ) (size : n ≡ w * h) where
    pub part_is : take (3 + n - 3) (drop 3 bs) ≡ squares bs
    part_is = let e : 3 + n - 3 ≡ n = omega arith in ap (λ m. take m (drop 3 bs)) (e ∙ size ∙ asked_is)

    -- they are all squares
    pub all_squares : bad_at (take (3 + n - 3) (drop 3 bs)) ≡ length (take (3 + n - 3) (drop 3 bs)) → first_failed (squares_check bs ∷ []) ≡ None
    all_squares e =
        ap (λ t. pick t None (Some (Square (3 + bad_at (squares bs)))))
        (eq-eqb (bad_at (squares bs)) (length (squares bs)) (ap bad_at (sym part_is) ∙ e ∙ ap length part_is))

    -- and the array has them
    pub grid_read : (free : List Bool) → asked bs + 3 ≤ length bs → take (length (take (3 + n - 3) (drop 3 bs))) free ≡ map is_free (take (3 + n - 3) (drop 3 bs)) →
        ◌≡◌ {A = Grid} (record { width = w; cells = take (w * h) free }) (grid_in bs)
    grid_read free long e =
        let same = asked_is in
        let k : w * h ≡ length (take (3 + n - 3) (drop 3 bs)) = simp (length-take, length-drop) (omega arith) in
        λ i. record { width = wide i; cells = (ap (λ m. take m free) k ∙ e ∙ ap (map is_free) part_is) i }

-- at most 16 by 16 squares
pub few : (w h : ℕ) → w ≤ 16 → h ≤ 16 → w * h ≤ 256
few w h a b = mul-le-mul a b

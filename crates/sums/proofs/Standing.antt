-- Rooms with the same form may stand for each other, and others are told apart.
use Rattle.std.proofs.Common.{◌≡◌, ℕ, ◌<◌, ◌≤◌, true, false, ◌⊎◌, List, [], ◌∷◌, length, get_or, take, Some, None, Option, eqb, sym, ◌∙◌, subst, inl, inr, arith}
use Rattle.std.specs.List.{position, position_or_len}
use Rattle.std.proofs.lemmas.Grind.{common_steps}
use Rattle.std.proofs.lemmas.Bool.{both_ways, eqb-true, eq-eqb}
use Rattle.std.proofs.lemmas.List.{length-take, get_or-take}
use Rattle.std.proofs.lemmas.List.Quantifiers.{position-Some}
use Rattle.std.proofs.lemmas.List.Sums.{fails_before_first}
use Rattle.games.specs.Game.{Game, neg}
use Rattle.games.specs.Order.{Le, NotLe, Equal}
use Rattle.games.specs.Play.{Same}
use Rattle.games.proofs.Compare.{decide}
use Rattle.games.proofs.Sides.{worse_refl, equal_sym, equal_trans}
use Rattle.games.proofs.Stand.{against, equal_same}
use Rattle.board.specs.Grid.{Grid}
use Rattle.forms.specs.declared.rows.Form.{Form}
use Rattle.forms.specs.Meaning.{meaning}
use Rattle.forms.specs.Links.{Table}
use Rattle.sums.specs.Rows.{room_game}
use Rattle.sums.specs.Counting.{Owns}
use Rattle.sums.specs.Likeness.{FirstSame, ToldApart, AlikeInPlay}
use Rattle.sums.proofs.Counted.{form_apart}

-- games that are not equal are told apart by one of them with the players exchanged
told_apart : (g h : Game) → (Equal g h → ⊥) → ToldApart g h
told_apart g h other = go (decide g h) (decide h g)
  where
    go : Le g h ⊎ NotLe g h → Le h g ⊎ NotLe h g → ToldApart g h
    go (inl p) (inl q) = absurd (other (p, q))
    go (inl p) (inr q) = (false, neg h ∷ [], inl ((against g h true).1 q, (against h h false).0 (worse_refl false h)))
    go (inr p) q = (false, neg g ∷ [], inr ((against g g false).0 (worse_refl false g), (against h g true).1 p))

module _ (b : Grid) (rs : List (List ℕ)) (fs : List Form) (os : List ℕ) (n : ℕ) (t : Table fs os n) (owns : List ℕ) (own : Owns b rs fs os n owns) (k i : ℕ) (low : k < length rs) (high : i < length rs) where
  same_form : get_or owns k 0 ≡ get_or owns i 0 → Same (room_game b (get_or rs k [])) (room_game b (get_or rs i []))
  same_form e =
      equal_same (room_game b (get_or rs k [])) (room_game b (get_or rs i []))
      (equal_trans (equal_sym (own.worth k low)) (subst (λ x. Equal (meaning (take n fs) os x) (room_game b (get_or rs i []))) (sym e) (own.worth i high)))

  other_form : (get_or owns k 0 ≡ get_or owns i 0 → ⊥) → ToldApart (room_game b (get_or rs k [])) (room_game b (get_or rs i []))
  other_form ne =
      told_apart (room_game b (get_or rs k [])) (room_game b (get_or rs i []))
      (λ e. ne (form_apart fs os n t (get_or owns k 0) (get_or owns i 0) (own.known k low) (own.known i high) (equal_trans (own.worth k low) (equal_trans e (equal_sym (own.worth i high))))))

pub alike_in_play : (owns : List ℕ) (i : ℕ) (r : Option ℕ) → FirstSame owns i r → AlikeInPlay owns i r
unfolding AlikeInPlay
alike_in_play owns i (Some j) f b rs fs os n t own h =
    let less = f.0 in
    (f.0, same_form b rs fs os n t owns own j i (omega arith) h f.2, λ k l. other_form b rs fs os n t owns own k i (omega arith) h (f.3 k l))
alike_in_play owns i None f b rs fs os n t own h =
    λ k l. other_form b rs fs os n t owns own k i (omega arith) h (f (let e = own.long in omega arith) k l)

-- where the number at place i first stands among those before it
pub first_same : (owns : List ℕ) (i own : ℕ) (r : Option ℕ) → i < length owns → own ≡ get_or owns i 0 → r ≡ position (λ x. eqb x own) (take i owns) → FirstSame owns i r
first_same owns i own (Some j) h is e =
    let there = position-Some (λ x. eqb x own) (take i owns) j 0 (sym e) in
    let low : j < i = (let f = there.0 in let l = length-take i owns in omega arith) in (
      low,
      h,
      sym (get_or-take i owns j 0 low) ∙ eqb-true (get_or (take i owns) j 0) own there.1 ∙ is,
      λ k l same. both_ways (eqb (get_or (take i owns) k 0) own) (there.2 k l) (eq-eqb (get_or (take i owns) k 0) own (get_or-take i owns k 0 (omega arith) ∙ same ∙ sym is)),
    )
first_same owns i own None h is e = λ g k l same.
    let past : length (take i owns) ≤ position_or_len (λ x. eqb x own) (take i owns) = grind (arith, common_steps) in
    both_ways (eqb (get_or (take i owns) k 0) own) (fails_before_first (λ x. eqb x own) (take i owns) k 0 (let t = length-take i owns in omega arith))
    (eq-eqb (get_or (take i owns) k 0) own (get_or-take i owns k 0 l ∙ same ∙ sym is))

-- The list of checks, in parts: which refusal comes first, and what is read where all are passed.
use Rattle.std.proofs.Common.{IsErrAnd, ◌≡◌, ℕ, Bool, true, false, List, [], ◌∷◌, ◌++◌, length, Some, None, Ok, Err, Result, sym, refl, ap, ◌∙◌, arith, MatchResult}
use Rattle.std.proofs.lemmas.Result.{err_from_is_err_and}
use Rattle.board.specs.Grid.{pick}
use Rattle.board.specs.Values.{side_of, grid_of}
use Rattle.board.specs.Reading.{Check, or_refuse, first_failed, head_checks, squares_check, refused, holds, outcome, side_in, grid_in, file_read, told, Set}
use Rattle.board.specs.declared.read.Setup.{Setup}
use Rattle.board.specs.declared.refusal.Refusal.{Refusal}
use Rattle.board.specs.declared.refusal.Refusal.TheVariants.{Length}

-- one list of checks after another: the refusal of the first list, or, where that is passed, of the second
failed_before : (ks ls : List Check) (e : Refusal) → first_failed ks ≡ Some e → first_failed (ks ++ ls) ≡ Some e
failed_before [] ls e h = absurd (let z : ◌≡◌ {A = ℕ} 0 1 = cc in omega arith)
failed_before (k ∷ ks) ls e h =
    elim k.passed as (λ t. pick t (first_failed ks) (Some k.refusal) ≡ Some e → pick t (first_failed (ks ++ ls)) (Some k.refusal) ≡ Some e)
    [ true ↦ failed_before ks ls e | false ↦ λ same. same ] h

failed_after : (ks ls : List Check) → first_failed ks ≡ None → first_failed (ks ++ ls) ≡ first_failed ls
failed_after [] ls h = refl
failed_after (k ∷ ks) ls h =
    elim k.passed as (λ t. pick t (first_failed ks) (Some k.refusal) ≡ None → pick t (first_failed (ks ++ ls)) (Some k.refusal) ≡ first_failed ls)
    [ true ↦ failed_after ks ls | false ↦ λ clash. absurd (let z : ◌≡◌ {A = ℕ} 0 1 = cc in omega arith) ] h

-- a file, whose length is right or not
module _ (long : Bool) (bs : List ℕ) where
  pub head_refused : (r : Result Setup Refusal) (e : Refusal) → first_failed (head_checks bs) ≡ Some e → IsErrAnd r (λ y. y ≡ e) → told r ≡ file_read long bs
  unfolding file_read
  head_refused r e h is =
      let p = err_from_is_err_and r is in
      ap told p.1 ∙ ap refused p.2
      ∙ sym (ap (λ o. outcome o (holds (side_in bs) (grid_in bs))) (failed_before (head_checks bs) (or_refuse long (Length (length bs)) ∷ squares_check bs ∷ []) e h))

  past_head : first_failed (head_checks bs) ≡ None → file_read long bs ≡ outcome (first_failed (or_refuse long (Length (length bs)) ∷ squares_check bs ∷ [])) (holds (side_in bs) (grid_in bs))
  unfolding file_read
  past_head h = ap (λ o. outcome o (holds (side_in bs) (grid_in bs))) (failed_after (head_checks bs) (or_refuse long (Length (length bs)) ∷ squares_check bs ∷ []) h)

  pub length_refused : first_failed (head_checks bs) ≡ None → long ≡ false → refused (Length (length bs)) ≡ file_read long bs
  length_refused h e =
      sym (past_head h ∙ ap (λ t. outcome (pick t (first_failed (squares_check bs ∷ [])) (Some (Length (length bs)))) (holds (side_in bs) (grid_in bs))) e)

  pub squares_told : first_failed (head_checks bs) ≡ None → long ≡ true → (r : Result Setup Refusal) →
      MatchResult r (λ x. Set bs (side_of x.side) (grid_of x.board)) (λ e. first_failed (squares_check bs ∷ []) ≡ Some e) → told r ≡ file_read long bs
  squares_told h e r said =
      inner r said
      ∙ sym (past_head h ∙ ap (λ t. outcome (pick t (first_failed (squares_check bs ∷ [])) (Some (Length (length bs)))) (holds (side_in bs) (grid_in bs))) e)
    where
      inner : (r : Result Setup Refusal) → MatchResult r (λ x. Set bs (side_of x.side) (grid_of x.board)) (λ e. first_failed (squares_check bs ∷ []) ≡ Some e) → told r ≡ outcome (first_failed (squares_check bs ∷ [])) (holds (side_in bs) (grid_in bs))
      inner (Ok x) is = (λ i. holds (is.side i) (is.board i)) ∙ sym (ap (λ o. outcome o (holds (side_in bs) (grid_in bs))) is.passed)
      inner (Err e) is = sym (ap (λ o. outcome o (holds (side_in bs) (grid_in bs))) is)

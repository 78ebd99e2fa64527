-- A record's planks laid one by one.
use Rattle.std.proofs.Common.{Bool, MatchBool, ◌≡◌, ℕ, ◌+◌, ◌<◌, ◌≤◌, true, false, List, Option, Some, None, IfOk, length, get_or, drop, sym, ap, ◌∙◌, arith}
use Rattle.std.proofs.lemmas.List.{at_drop_more, at_drop_all}
use Rattle.std.specs.Option.{ok_or}
use Rattle.std.specs.List.{list_any, range_with_len}
use Rattle.std.proofs.lemmas.List.Folds.{Any-from_list_any, list_any_at}
use Rattle.std.proofs.lemmas.List.FromFn.{get_or-range_with_len, length-range_with_len}
use Rattle.std.proofs.lemmas.Bool.{both_ways}
use Rattle.board.specs.Grid.{Grid, Side, other, pick}
use Rattle.board.specs.Moves.{may, laid}
use Rattle.board.specs.Rules.{Stuck}
use Rattle.board.specs.declared.board.Board.{Board}
use Rattle.board.specs.declared.refusal.Refusal.{Refusal}
use Rattle.board.specs.declared.refusal.Refusal.TheVariants.{Plank}
use Rattle.board.specs.Values.{LaidAt}
use Rattle.board.proofs.Outcomes.{may_below}
use Rattle.referee.specs.Following.{Played, stopped, ends, played}

-- i planks of ps have been laid, s is to move on b, and all is where the whole row leads
module _ (ps : List ℕ) (i : ℕ) (s : Side) (b : Grid) (all : Played) (sofar : played i s b (drop i ps) ≡ all) where
  next : i < length ps → all ≡ pick (may b s (get_or ps i 0)) (played (i + 1) (other s) (laid b s (get_or ps i 0)) (drop (i + 1) ps)) (stopped (Plank i))
  next h = sym sofar ∙ at_drop_more (played i s b) ps i 0 h

  pub play_goes : i < length ps → (t : Side) (c : Grid) → may b s (get_or ps i 0) ≡ true → t ≡ other s → c ≡ laid b s (get_or ps i 0) → played (i + 1) t c (drop (i + 1) ps) ≡ all
  play_goes h t c e turn on =
      (λ j. played (i + 1) (turn j) (on j) (drop (i + 1) ps))
      ∙ sym (next h ∙ ap (λ t. pick t (played (i + 1) (other s) (laid b s (get_or ps i 0)) (drop (i + 1) ps)) (stopped (Plank i))) e)

  pub play_ends : length ps ≤ i → ends s b ≡ all
  play_ends h = sym (at_drop_all (played i s b) ps i h) ∙ sofar

-- the board after a plank, where one may be laid
pub laid_ok : (b : Grid) (s : Side) (p : ℕ) (o : Option Board) (e : Refusal) → LaidAt b s p o → IfOk (ok_or o e) (λ next. LaidAt b s p (Some next))
laid_ok b s p (Some next) e laid = laid
laid_ok b s p None e laid = tt

-- some place of the board may be laid at, or none may
pub laid_somewhere :
    (s : Side) (b : Grid) (n : ℕ) (r : Bool) → n ≡ length b.cells → r ≡ list_any (may b s) (range_with_len 0 n) → MatchBool r (Stuck s b → ⊥) (Stuck s b)
laid_somewhere s b n r long e =
    elim r as (λ t. t ≡ list_any (may b s) (range_with_len 0 n) → MatchBool t (Stuck s b → ⊥) (Stuck s b)) [
      | true ↦ λ some stuck. let at = Any-from_list_any (may b s) (range_with_len 0 n) (sym some) in stuck at.1 at.4
      | false ↦ λ none p m.
          let low = may_below b s p m in
          let here = get_or-range_with_len 0 n p 0 (omega arith) in
          both_ways (list_any (may b s) (range_with_len 0 n)) (sym none)
          (list_any_at (may b s) (range_with_len 0 n) p 0 (let k = length-range_with_len 0 n in omega arith) (ap (may b s) (let h : get_or (range_with_len 0 n) p 0 ≡ p = omega arith in h) ∙ m))
    ] e

-- One place after another is tried.
use Rattle.std.proofs.Common.{◌≡◌, ℕ, ◌+◌, ◌≤◌, true, false, List, length, is_some, Some, None, Err, Option, sym, refl, subst, arith, below_more}
use Rattle.std.proofs.lemmas.Bool.{both_ways}
use Rattle.board.specs.Grid.{Grid, Side, other}
use Rattle.board.specs.Moves.{may, laid}
use Rattle.board.specs.Rules.{Wins, Loses}
use Rattle.forms.specs.declared.rows.Form.{Form}
use Rattle.search.proofs.Turns.{unlawful, answered, found}
use Rattle.sums.specs.Held.{Adding}
use Rattle.verdict.specs.Limits.{Over}
use Rattle.verdict.specs.Worths.{Worth}
use Rattle.verdict.specs.Trying.{FirstGood, FoundWorth, Tried, TriedAnswer}
use Rattle.verdict.specs.declared.worth.Failure.{Failure}
use Rattle.verdict.specs.declared.worth.Failure.TheVariants.{Count, NoMemory}

module _ (s : Side) (b : Grid) where
  pub tried_none : (fs : List Form) → Tried s b 0 fs fs None
  unfolding FirstGood
  tried_none fs = record { long = refl; within = λ p less. absurd (omega arith); first = λ p less. absurd (omega arith) }

  -- all places are those of the board
  pub tried_all :
      (k n : ℕ) → n ≤ k → (fs gs : List Form) (x : Option ℕ) → Tried s b k fs gs x → Tried s b n fs gs x
  unfolding FirstGood
  tried_all k n less fs gs x t =
      record { long = t.long; within = λ p h. t.within p (omega arith); first = fewer x t.first }
    where
      fewer : (x : Option ℕ) → FirstGood s b k x → FirstGood s b n x
      fewer (Some p) f = f
      fewer None f = λ p h. f p (omega arith)

  module _ (k : ℕ) where
    -- the first good place: found before, found now, or not yet
    pub first_kept : (x : Option ℕ) → true ≡ is_some x → FirstGood s b k x → FirstGood s b (k + 1) x
    unfolding FirstGood
    first_kept (Some p) e f = f
    first_kept None e f = absurd (both_ways false refl (sym e))

    pub first_found : (x : Option ℕ) → false ≡ is_some x → FirstGood s b k x → may b s k ≡ true → Loses (other s) (laid b s k) → FirstGood s b (k + 1) (Some k)
    unfolding FirstGood
    first_found (Some p) e f m l = absurd (both_ways true (sym e) refl)
    first_found None e f m l = found s b k f m l

    pub first_answered : (x : Option ℕ) → false ≡ is_some x → FirstGood s b k x → Wins (other s) (laid b s k) → FirstGood s b (k + 1) x
    unfolding FirstGood
    first_answered (Some p) e f w = absurd (both_ways true (sym e) refl)
    first_answered None e f w = answered s b k f w

    first_unlawful : (x : Option ℕ) → may b s k ≡ false → FirstGood s b k x → FirstGood s b (k + 1) x
    unfolding FirstGood
    first_unlawful (Some p) e f = f
    first_unlawful None e f = unlawful s b k f e

    module _ (fs gs : List Form) (x : Option ℕ) (t : Tried s b k fs gs x) where
      -- no plank may be laid here
      pub tried_unlawful : may b s k ≡ false → Tried s b (k + 1) fs gs x
      tried_unlawful e =
          record {
            long = t.long;
            within = below_more (λ p. may b s p ≡ true → Over (length fs) (laid b s p) → ⊥) k t.within (λ m. absurd (both_ways (may b s k) e m));
            first = first_unlawful x e t.first;
          }

      module _ (c : Grid) (is : c ≡ laid b s k) (hs : List Form) (os rs : List ℕ) where
        -- the board after the plank has a worth
        pub tried_more :
            (rooms : List (List ℕ)) (sum : ℕ) (owns : List ℕ) (v : ℕ) → Worth c rooms gs hs os rs sum owns v → (y : Option ℕ) → FirstGood s b (k + 1) y →
            Tried s b (k + 1) fs hs y
        tried_more rooms sum owns v w y f =
            record {
              long = let l = w.long in let m = t.long in omega arith;
              within =
                  below_more (λ p. may b s p ≡ true → Over (length fs) (laid b s p) → ⊥) k t.within
                  (λ _ o. w.within (subst (Over (length gs)) (sym is) (subst (λ n. Over n (laid b s k)) (sym t.long) o)));
              first = f;
            }

  -- what is said of the other side on the board after a plank
  pub lost_there : (k : ℕ) (o : Side) (c : Grid) → o ≡ other s → c ≡ laid b s k → Loses o c → Loses (other s) (laid b s k)
  lost_there k o c e f l = subst (λ z. Loses z (laid b s k)) e (subst (Loses o) f l)

  pub wins_there : (k : ℕ) (o : Side) (c : Grid) → o ≡ other s → c ≡ laid b s k → Wins o c → Wins (other s) (laid b s k)
  wins_there k o c e f w = subst (λ z. Wins z (laid b s k)) e (subst (Wins o) f w)

-- the board after the plank at k has no worth
pub tried_refused : (s : Side) (b : Grid) (k : ℕ) (m l n : Adding) (x : Option ℕ) → Tried s b k m.table.forms.now l.table.forms.now x →
    (c : Grid) → c ≡ laid b s k → (e : Failure) → may b s k ≡ true → FoundWorth c l n (Err e) → TriedAnswer s b m n (Err e)
tried_refused s b k m l n x t c is Count can o = (k, can, subst (Over (length m.table.forms.now)) is (subst (λ z. Over z c) t.long o.1))
tried_refused s b k m l n x t c is NoMemory can o = tt

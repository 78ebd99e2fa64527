-- Forms kept in a row, or what serves for them.
use Rattle.std.proofs.Common.{◌≡◌, ℕ, ◌+◌, ◌<◌, ◌≤◌, List, [], length, get_or, take, sym, ◌∙◌, subst, inl, inr}
use Rattle.std.specs.List.{ContainsAt as Has, AllByRecursion as Every}
use Rattle.std.proofs.lemmas.List.{take_all}
use Rattle.std.proofs.ByRecursion.{All-more, All-weaker, all-has}
use Rattle.games.specs.Game.{Side, other, Game, options, In}
use Rattle.games.specs.Order.{Worse, NotWorse}
use Rattle.games.proofs.Sides.{worse_own, worse_by, by_reply, not_worse_below}
use Rattle.forms.specs.declared.rows.Form.{Form}
use Rattle.forms.specs.Rows.{row_of, row_for}
use Rattle.forms.specs.Meaning.{meaning, given}
use Rattle.forms.specs.Soundness.{Sound}
use Rattle.forms.proofs.Risings.{has_none}
use Rattle.forms.proofs.Meanings.{of_row}
use Rattle.forms.proofs.Givens.{of_given}
use Rattle.canonical.specs.Reducing.{Inserted, Fit, Serves, Passed, Bypassed}

-- a row with all of another serves as well
pub serves_more : (fs : List Form) (os : List ℕ) (s : Side) (g : Game) (row new : List ℕ) → ((w : ℕ) → Has row w → Has new w) → (x : Game) → Serves fs os s g row x → Serves fs os s g new x
serves_more fs os s g row new stays x serves k others has = serves k others (λ w h. has w (stays w h))

-- a row of which some forms xs have been passed
pub record Passing (fs : List Form) (os : List ℕ) (s : Side) (g : Game) (row new xs : List ℕ) : Type 0 where
  pub fit : Fit fs os s g new
  pub stays : (w : ℕ) → Has row w → Has new w
  pub serves : Every (λ x. Serves fs os s g new (meaning fs os x)) xs

module _ (fs : List Form) (os : List ℕ) (s : Side) (g : Game) where
  pub fit_none : Fit fs os s g []
  fit_none = record { rising = tt; known = λ w h. absurd (has_none h); allowed = λ w h. absurd (has_none h); firm = λ w h. absurd (has_none h) }

  pub passing_none : (row : List ℕ) → Fit fs os s g row → Passing fs os s g row row []
  passing_none row fit = record { fit = fit; stays = λ w h. h; serves = tt }

  -- one form more has been passed
  pub passing_more : (row now new xs : List ℕ) (i : ℕ) → i < length xs → Passing fs os s g row now (take i xs) → Passed fs os s g now (get_or xs i 0) new → Passing fs os s g row new (take (i + 1) xs)
  passing_more row now new xs i h p q =
      record {
        fit = q.fit;
        stays = λ w k. q.stays w (p.stays w k);
        serves =
            All-more (λ x. Serves fs os s g new (meaning fs os x)) xs i 0 h
            (All-weaker (λ x. Serves fs os s g now (meaning fs os x)) (λ x. Serves fs os s g new (meaning fs os x)) (λ x. serves_more fs os s g now new q.stays (meaning fs os x)) (take i xs) p.serves) q.serves;
      }

  -- a row of forms has been passed to its end
  pub passing_end : (row new xs ys : List ℕ) → xs ≡ ys → (i : ℕ) → length xs ≤ i → Passing fs os s g row new (take i xs) → Passing fs os s g row new ys
  passing_end row new xs ys e i h p = subst (Passing fs os s g row new) (take_all i xs h ∙ e) p

  -- a form that is not reversible is put in
  pub kept_in : (row : List ℕ) (x : ℕ) (new : List ℕ) → Fit fs os s g row → x < length fs → NotWorse s g (meaning fs os x) →
      ((y : Game) → In y (options (other s) (meaning fs os x)) → NotWorse s y g) → Inserted row x new → Passed fs os s g row x new
  kept_in row x new fit known allowed firm put =
      record {
        fit =
            record {
              rising = put.rising;
              known = each (λ w. w < length fs) fit.known known;
              allowed = each (λ w. NotWorse s g (meaning fs os w)) fit.allowed allowed;
              firm = each (λ w. (y : Game) → In y (options (other s) (meaning fs os w)) → NotWorse s y g) fit.firm firm;
            };
        stays = put.stays;
        serves = λ k others has. has x put.has;
      }
    where
      each : (P : ℕ → Type 0) → ((w : ℕ) → Has row w → P w) → P x → (w : ℕ) → Has new w → P w
      each P old here w h = elim (put.only w h) [ inl k ↦ old w k | inr e ↦ subst P (sym e) here ]

  module _ (sound : Sound fs os) (x y : ℕ) (low : y < length fs) (i : In (meaning fs os y) (options (other s) (meaning fs os x))) (p : Worse s (meaning fs os y) g) where
    -- what follows a reply that is no better than g, is allowed
    pub follows : (z : ℕ) → In (meaning fs os z) (options s (meaning fs os y)) → NotWorse s g (meaning fs os z)
    follows z j = worse_own s (meaning fs os y) g p (meaning fs os z) j

    -- and serves for what is reversed
    pub bypassed : (row new : List ℕ) → Passing fs os s g row new (row_of fs os s y) → Passed fs os s g row x new
    bypassed row new passing =
        record {
          fit = passing.fit;
          stays = passing.stays;
          serves =
              λ k others has.
              by_reply s k (meaning fs os x) (meaning fs os y) i
              (worse_by s (meaning fs os y) k
              (of_row fs os sound (NotWorse s k) s y low
              (All-weaker (λ z. Serves fs os s g new (meaning fs os z)) (λ z. NotWorse s k (meaning fs os z)) (λ z serves. serves k others has) (row_of fs os s y) passing.serves))
              (λ r j. not_worse_below s r (meaning fs os y) g (others r j) p));
        }

-- all options of a side have been passed
pub all_passed : (fs : List Form) (os : List ℕ) (s : Side) (us ls new : List ℕ) → Passing fs os s (given fs os us ls) [] new (row_for s us ls) → Bypassed fs os s (given fs os us ls) new
all_passed fs os s us ls new p =
    record {
      fit = p.fit;
      serves = of_given fs os us ls (Serves fs os s (given fs os us ls) new) s (λ x h. all-has (λ x. Serves fs os s (given fs os us ls) new (meaning fs os x)) (row_for s us ls) x p.serves h);
    }

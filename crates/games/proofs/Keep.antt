-- Bypassing: what is kept of a game's options when the reversible ones are replaced, again and again.
use mathlib.Core.Logic.{◌⊎◌, inl, inr}
use Rattle.games.specs.Game.{Side, other, Game, Games, none, more, options, In, here, there, both}
use Rattle.games.specs.Order.{Worse, NotWorse}
use Rattle.games.specs.Canonical.{Canonical}
use Rattle.games.proofs.Induction.{deep, all_or_one, flipped}
use Rattle.games.proofs.Sides.{worse_or_not, worse_by, worse_own, by_reply, not_worse_below}
use Rattle.games.proofs.Lists.{in_first, in_last, of_both, in_more}
use Rattle.games.proofs.Forms.{options_canonical}

-- w is fit to be an option of side s in a game equal to g: canonical, not as good as g, and not reversible
pub record Fit (s : Side) (g w : Game) : Type 0 where
  pub form : Canonical w
  pub allowed : NotWorse s g w
  pub firm : (y : Game) → In y (options (other s) w) → NotWorse s y g

-- what is kept of some options of side s in g: it is fit, and serves for them in every game whose options for the other side are not as good as g
pub record Kept (s : Side) (g : Game) (Serves : Game → Type 0) : Type 0 where
  pub list : Games
  pub fit : (w : Game) → In w list → Fit s g w
  pub serves : (k : Game) → ((r : Game) → In r (options (other s) k) → NotWorse s r g) → ((w : Game) → In w list → NotWorse s k w) → Serves k

module _ (s : Side) (g : Game) where
  abbrev Keeps : Game → Type 0
  Keeps x = Kept s g (λ k. NotWorse s k x)

  pub keep_all : (xs : Games) → ((x : Game) → In x xs → Keeps x) → Kept s g (λ k. (x : Game) → In x xs → NotWorse s k x)
  keep_all none each = record { list = none; fit = λ w i. elim i [ ]; serves = λ k others has x i. elim i [ ] }
  keep_all (more x xs) each =
      let one = each x here in
      let rest = keep_all xs (λ y i. each y (there i)) in
      record {
        list = both one.list rest.list;
        fit = of_both (Fit s g) one.list rest.list one.fit rest.fit;
        serves =
            λ k others has.
            in_more (NotWorse s k) x xs (one.serves k others (λ w i. has w (in_first rest.list i)))
            (rest.serves k others (λ w i. has w (in_last one.list i)));
      }

  -- an option that is not reversible is kept; for one that is, what follows the reply is kept
  pub keep : (x : Game) → Canonical x → NotWorse s g x → Keeps x
  keep =
      deep (λ x. Canonical x → NotWorse s g x → Keeps x)
      (λ x ih c p. go x ih c p (all_or_one (options (other s) x) (λ y i. flipped (worse_or_not s y g))))
    where
      go :
          (x : Game) → ((s' t : Side) (y z : Game) → In y (options s' x) → In z (options t y) → Canonical z → NotWorse s g z → Keeps z) →
          Canonical x → NotWorse s g x →
          ((y : Game) → In y (options (other s) x) → NotWorse s y g) ⊎ ((y : Game) × In y (options (other s) x) × Worse s y g) → Keeps x
      go x ih c p (inl firm) =
          record {
            list = more x none;
            fit = in_more (Fit s g) x none (record { form = c; allowed = p; firm = firm }) (λ w i. elim i [ ]);
            serves = λ k others has. has x here;
          }
      go x ih c p (inr y) =
          let after : (z : Game) → In z (options s y.0) → Canonical z = options_canonical (options_canonical c (other s) y.0 y.1) s in
          let rest = keep_all (options s y.0) (λ z i. ih (other s) s y.0 z y.1 i (after z i) (worse_own s y.0 g y.2 z i)) in
          record {
            list = rest.list;
            fit = rest.fit;
            serves =
                λ k others has.
                by_reply s k x y.0 y.1
                (worse_by s y.0 k (rest.serves k others has) (λ r i. not_worse_below s r y.0 g (others r i) y.2));
          }

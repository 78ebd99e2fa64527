-- Every game is equal to a canonical one: bypass what is reversible, then strike what is dominated.
use mathlib.Core.Path.{◌≡◌}
use Rattle.games.specs.Game.{Side, other, Game, Games, options, In}
use Rattle.games.specs.Order.{Equal, Worse, NotWorse}
use Rattle.games.specs.Canonical.{Canonical, canonical, HasForm}
use Rattle.games.proofs.Induction.{ind}
use Rattle.games.proofs.Sides.{turn_not, by_option, own, not_worse_below, equal_sym, equal_trans, equal_worse, equal_by, equal_options}
use Rattle.games.proofs.Lists.{of, in_of, of_of, Collected, collect}
use Rattle.games.proofs.Keep.{Fit, Kept, keep, keep_all}
use Rattle.games.proofs.Thin.{Thinned, thin}

-- a game whose options are canonical is equal to a canonical one
reduced : (g : Game) → ((s : Side) (x : Game) → In x (options s g) → Canonical x) → (f : Game) × Canonical f × Equal g f
reduced g c = (f, canonical (λ s x i. (fit s x i).form) apart firm, equal)
  where
    kept : (s : Side) → Kept s g (λ k. (x : Game) → In x (options s g) → NotWorse s k x)
    kept s = keep_all s g (options s g) (λ x i. keep s g x (c s x i) (own s g x i))

    thinned : (s : Side) → Thinned s (kept s).list
    thinned s = thin s (kept s).list

    lists : Side → Games
    lists s = (thinned s).list

    f : Game
    f = of lists

    fit : (s : Side) (w : Game) → In w (options s f) → Fit s g w
    fit s w i = (kept s).fit w ((thinned s).from w (of_of lists s w i))

    serves : (s : Side) (x : Game) → In x (options s g) → NotWorse s f x
    serves s =
        (kept s).serves f (λ r i. turn_not s g r (fit (other s) r i).allowed)
        (λ w i. let v = (thinned s).cover w i in by_option s f w v.0 (in_of lists s v.0 v.1) v.2)

    equal : Equal g f
    equal = equal_by g f serves (λ s w i. (fit s w i).allowed)

    apart : (s : Side) (x y : Game) → In x (options s f) → In y (options s f) → Worse s x y → x ≡ y
    apart s x y i j p = (thinned s).apart x y (of_of lists s x i) (of_of lists s y j) p

    firm : (s : Side) (x y : Game) → In x (options s f) → In y (options (other s) x) → NotWorse s y f
    firm s x y i j = not_worse_below s y f g ((fit s x i).firm y j) (equal_worse s f g (equal_sym equal))

-- first make the options canonical, then reduce
form_step : (g : Game) → ((s : Side) (x : Game) → In x (options s g) → (f : Game) × Canonical f × Equal x f) → (f : Game) × Canonical f × Equal g f
form_step g ih = let f = reduced (of lists) canonicals in (f.0, f.1, equal_trans equal f.2)
  where
    forms : (s : Side) → Collected (λ x f. Canonical f × Equal x f) (options s g)
    forms s = collect (λ x f. Canonical f × Equal x f) (options s g) (λ x i. let f = ih s x i in (f.0, (f.1, f.2)))

    lists : Side → Games
    lists s = (forms s).list

    canonicals : (s : Side) (f : Game) → In f (options s (of lists)) → Canonical f
    canonicals s f i = ((forms s).from f (of_of lists s f i)).2.0

    equal : Equal g (of lists)
    equal =
        equal_options g (of lists) (λ s x i. let f = (forms s).to x i in (f.0, in_of lists s f.0 f.1, f.2.1))
        (λ s f i. let x = (forms s).from f (of_of lists s f i) in (x.0, x.1, equal_sym x.2.1))

pub has_form : HasForm
unfolding HasForm
has_form = ind (λ g. (f : Game) × Canonical f × Equal g f) form_step

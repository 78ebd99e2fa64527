-- The canonical forms of a row of games can be listed.
use mathlib.Core.Path.{◌≡◌, refl, sym, subst}
use mathlib.Core.Bool.{true, false}
use mathlib.Core.List.{List, [], ◌∷◌}
use mathlib.Core.Logic.{◌⊎◌, inl, inr}
use Rattle.games.specs.Game.{Side, Game, options, In, empty, Reached, itself, onward}
use Rattle.games.specs.Order.{Equal}
use Rattle.games.specs.Canonical.{Canonical}
use Rattle.games.specs.Count.{Met, at_start, at_game, further, Between}
use Rattle.games.proofs.Induction.{ind}
use Rattle.games.proofs.Sides.{equal_refl, equal_sym}
use Rattle.games.proofs.Along.{FormOf, form_of, adds_equal, adds_one, met_from, empty_canonical}
use Rattle.games.proofs.Listed.{Listed, as_listed, one_listed, either_listed, each_listed, all_listed}

-- the games reached from g: itself, and those reached from its options
reached_listed : (g : Game) → Listed (Reached g)
reached_listed = ind (λ g. Listed (Reached g)) step
  where
    Parts : Game → Game → Type 0
    Parts g f = (f ≡ g) ⊎ (((x : Game) × In x (options true g) × Reached x f) ⊎ ((x : Game) × In x (options false g) × Reached x f))

    to : (g f : Game) → Parts g f → Reached g f
    to g f (inl e) = subst (λ h. Reached g h) (sym e) itself
    to g f (inr (inl x)) = onward true x.1 x.2
    to g f (inr (inr x)) = onward false x.1 x.2

    from : {g f : Game} → Reached g f → Parts g f
    from itself = inl refl
    from (onward {h = x} true i r) = inr (inl (x, i, r))
    from (onward {h = x} false i r) = inr (inr (x, i, r))

    step : (g : Game) → ((s : Side) (x : Game) → In x (options s g) → Listed (Reached x)) → Listed (Reached g)
    step g ih =
        as_listed (to g) (λ f r. (f, from r, equal_refl f))
        (either_listed (one_listed {P = λ f. f ≡ g} g refl (λ f e. subst (λ h. Equal f h) e (equal_refl f)))
        (either_listed (each_listed {Q = Reached} (options true g) (ih true)) (each_listed {Q = Reached} (options false g) (ih false))))

-- a form for each game reached from u and each reached from g
between_listed : (u g : Game) → Listed (λ f. Canonical f × Between u g f)
between_listed u g =
    as_listed {P = λ f. (x : Game) × Reached u x × Beside x f} {Q = λ f. Canonical f × Between u g f}
    (λ f q.
    let y = q.2 in
    (y.2.0, (q.0, y.0, y.2.1.0, q.1, y.1, y.2.1.1, y.2.1.2)))
    (λ f q. let b = q.1 in (f, (b.0, b.3, (b.1, b.4, (q.0, (b.2, b.5, b.6)))), equal_refl f))
    (all_listed {P = Reached u} {Q = Beside}
    (λ x x' f e q. (q.0, q.1, (q.2.0, adds_equal e (equal_refl q.0) q.2.1)))
    (reached_listed u)
    (λ x.
    all_listed {P = Reached g} {Q = FormOf x} (λ y y' f e q. (q.0, adds_equal (equal_refl x) e q.1)) (reached_listed g)
    (λ y. let f = form_of x y in one_listed {P = FormOf x y} f.0 f.1 (λ h q. adds_one q.1 f.1.1))))
  where
    Beside : Game → Game → Type 0
    Beside x f = (y : Game) × Reached g y × FormOf x y f

start_listed : Listed (λ f. Canonical f × Equal empty f)
start_listed = one_listed {P = λ f. Canonical f × Equal empty f} empty (empty_canonical, equal_refl empty) (λ f p. equal_sym p.1)

-- each form met is the empty game, lies between the sum so far and the next game, or is met further on
pub met_listed : (gs : List Game) (t : Game) → Listed (λ f. Canonical f × Met t gs f)
met_listed [] t =
    as_listed {P = λ f. Canonical f × Equal empty f} {Q = λ f. Canonical f × Met t [] f} (λ f p. (p.0, at_start p.1))
    (λ f q. (f, (q.0, from q.1), equal_refl f)) start_listed
  where
    from : {t f : Game} → Met t [] f → Equal empty f
    from (at_start e) = e
met_listed (g ∷ gs) t = go (form_of t g) (met_listed gs)
  where
    go : (f : Game) × FormOf t g f → ((u : Game) → Listed (λ f. Canonical f × Met u gs f)) → Listed (λ f. Canonical f × Met t (g ∷ gs) f)
    go w rest = as_listed {P = Parts} to (λ f q. (f, from q.0 q.1, equal_refl f)) (either_listed start_listed (either_listed (between_listed t g) (rest w.0)))
      where
        Parts : Game → Type 0
        Parts f = (Canonical f × Equal empty f) ⊎ ((Canonical f × Between t g f) ⊎ (Canonical f × Met w.0 gs f))

        to : (f : Game) → Parts f → Canonical f × Met t (g ∷ gs) f
        to f (inl p) = (p.0, at_start p.1)
        to f (inr (inl p)) = let b = p.1 in (p.0, at_game b.0 b.1 b.2 b.3 b.4 b.5 b.6)
        to f (inr (inr p)) = let a = w.1.1 in (p.0, further a.0 w.0 a.1 w.1.0 a.2 p.1)

        from : {f : Game} → Canonical f → Met t (g ∷ gs) f → Parts f
        from c (at_start e) = inl (c, e)
        from c (at_game x y k r q p e) = inr (inl (c, (x, y, k, r, q, p, e)))
        from c (further k u p d e m) = inr (inr (c, met_from d (adds_one w.1.1 (k, p, e)) m))

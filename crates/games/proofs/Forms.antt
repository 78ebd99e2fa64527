-- Canonical games: equal ones are identical, and what is reached from one is equal to something reached from whatever it is equal to.
use mathlib.Core.Path.{◌≡◌, sym, subst}
use mathlib.Core.Logic.{◌⊎◌, inl, inr}
use Rattle.games.specs.Game.{Side, other, Game, Games, options, In, Reached, itself, onward}
use Rattle.games.specs.Order.{Equal, Worse, NotWorse}
use Rattle.games.specs.Canonical.{Canonical, canonical, Identical, identical, Among, among, OneForm, IdenticalEqual, FormReached}
use Rattle.games.proofs.Induction.{ind, deep}
use Rattle.games.proofs.Sides.{worse_trans, worse_not_both, worse_own, worse_reply, not_worse_cases, equal_sym, equal_worse, worse_equal, equal_options}

pub options_canonical : {g : Game} → Canonical g → (s : Side) (x : Game) → In x (options s g) → Canonical x
options_canonical (canonical a b c) = a

pub undominated : {g : Game} → Canonical g → (s : Side) (x y : Game) → In x (options s g) → In y (options s g) → Worse s x y → x ≡ y
undominated (canonical a b c) = b

pub irreversible : {g : Game} → Canonical g → (s : Side) (x y : Game) → In x (options s g) → In y (options (other s) x) → NotWorse s y g
irreversible (canonical a b c) = c

-- an option of a canonical game is no better than some option of an equal game
pub covered :
    (s : Side) (g h : Game) → Canonical g → Equal g h → (x : Game) → In x (options s g) → (y : Game) × In y (options s h) × Worse s x y
covered s g h c e x i = go (not_worse_cases s h x (worse_own s g h (equal_worse s g h e) x i))
  where
    go :
        ((y : Game) × In y (options s h) × Worse s x y) ⊎ ((y : Game) × In y (options (other s) x) × Worse s y h) →
        (y : Game) × In y (options s h) × Worse s x y
    go (inl y) = y
    go (inr y) =
        absurd (worse_not_both s y.0 g (worse_trans s y.0 h g y.2 (equal_worse s h g (equal_sym e))) (irreversible c s x y.0 i y.1))

-- an option of a canonical game that is no better than a game no better than one of its options, is equal to that game
pub squeezed :
    (s : Side) (f h x h' : Game) → Canonical f → In h (options s f) → In h' (options s f) → Worse s h x → Worse s x h' → Equal h x
squeezed s f h x h' c i i' p q =
    worse_equal s h x p (subst (λ k. Worse s x k) (sym (undominated c s h h' i i' (worse_trans s h x h' p q))) q)

-- canonical games that are equal have equal options
pub matched :
    (s : Side) (g h : Game) → Canonical g → Canonical h → Equal g h → (x : Game) → In x (options s g) → (y : Game) × In y (options s h) × Equal x y
matched s g h c d e x i =
    let y = covered s g h c e x i in
    let z = covered s h g d (equal_sym e) y.0 y.1 in
    (y.0, y.1, squeezed s g x y.0 z.0 c i z.1 y.2 z.2)

identical_both : (g h : Game) → Canonical g → Canonical h → Equal g h → Identical g h × Identical h g
identical_both =
    ind (λ g. (h : Game) → Canonical g → Canonical h → Equal g h → Identical g h × Identical h g)
    (λ g ih h c d e.
    let forth : (s : Side) (x : Game) → In x (options s g) → Among x (options s h) =
    λ s x i.
    let y = matched s g h c d e x i in
    among y.0 y.1 (ih s x i y.0 (options_canonical c s x i) (options_canonical d s y.0 y.1) y.2).0 in
    let back : (s : Side) (y : Game) → In y (options s h) → Among y (options s g) =
    λ s y j.
    let x = matched s h g d c (equal_sym e) y j in
    among x.0 x.1 (ih s x.0 x.1 y (options_canonical c s x.0 x.1) (options_canonical d s y j) (equal_sym x.2)).1 in
    (identical forth back, identical back forth))

pub one_form : OneForm
unfolding OneForm
one_form g h c d e = (identical_both g h c d e).0

mutual
  same_options : {g h : Game} → Identical g h → Equal g h
  same_options {g} {h} (identical forth back) = equal_options g h (λ s x i. same_among (forth s x i)) (λ s y i. same_among (back s y i))

  same_among : {x : Game} {ys : Games} → Among x ys → (y : Game) × In y ys × Equal x y
  same_among (among y i p) = (y, i, same_options p)

pub identical_equal : IdenticalEqual
unfolding IdenticalEqual
identical_equal g h = same_options

pub reached_trans : {g h k : Game} → Reached g h → Reached h k → Reached g k
reached_trans itself r = r
reached_trans (onward s i q) r = onward s i (reached_trans q r)

-- below a game that is as good as an option h of f, and not as good as f, there is one equal to h
descends :
    (s : Side) (f h : Game) → Canonical f → In h (options s f) → (x : Game) → Worse s h x → NotWorse s f x → (y : Game) × Reached x y × Equal h y
descends s f h c i =
    deep (λ x. Worse s h x → NotWorse s f x → (y : Game) × Reached x y × Equal h y) (λ x ih p q. go x ih p (not_worse_cases s f x q))
  where
    Goal : Game → Type 0
    Goal x = (y : Game) × Reached x y × Equal h y

    go :
        (x : Game) → ((s' t : Side) (y z : Game) → In y (options s' x) → In z (options t y) → Worse s h z → NotWorse s f z → Goal z) → Worse s h x →
        ((h' : Game) × In h' (options s f) × Worse s x h') ⊎ ((y : Game) × In y (options (other s) x) × Worse s y f) → Goal x
    go x ih p (inl h') = (x, itself, squeezed s f h x h'.0 c i h'.1 p h'.2)
    go x ih p (inr y) = below (not_worse_cases s y.0 h (worse_reply s h x p y.0 y.1))
      where
        below : ((z : Game) × In z (options s y.0) × Worse s h z) ⊎ ((w : Game) × In w (options (other s) h) × Worse s w y.0) → Goal x
        below (inl z) =
            let r = ih (other s) s y.0 z.0 y.1 z.1 z.2 (worse_own s y.0 f y.2 z.0 z.1) in
            (r.0, onward (other s) y.1 (onward s z.1 r.1), r.2)
        below (inr w) = absurd (worse_not_both s w.0 f (worse_trans s w.0 y.0 f w.2 y.2) (irreversible c s h w.0 i w.1))

form_step : (s : Side) (g f h : Game) → Canonical f → Equal g f → In h (options s f) → (y : Game) × Reached g y × Equal h y
form_step s g f h c e i =
    let x = covered s f g c (equal_sym e) h i in
    let y = descends s f h c i x.0 x.2 (worse_own s g f (equal_worse s g f e) x.0 x.1) in
    (y.0, onward s x.1 y.1, y.2)

reaches : {f x : Game} → Reached f x → (g : Game) → Canonical f → Equal g f → (y : Game) × Reached g y × Equal x y
reaches itself g c e = (g, itself, equal_sym e)
reaches {f} (onward {h = h} s i r) g c e =
    let step = form_step s g f h c e i in
    let rest = reaches r step.0 (options_canonical c s h i) (equal_sym step.2) in
    (rest.0, reached_trans step.1 rest.1, rest.2)

pub form_reached : FormReached
unfolding FormReached
form_reached g f c e x r = reaches r g c e

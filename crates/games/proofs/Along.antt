-- Along a row of games: its one canonical sum, what is met on the way, and what one more game brings.
use mathlib.Core.List.{List, [], ◌∷◌, ◌++◌}
use mathlib.Core.Logic.{◌⊎◌, inl, inr}
use Rattle.games.specs.Game.{Game, empty}
use Rattle.games.specs.Order.{Equal}
use Rattle.games.specs.Sum.{Sum, SumExists, SumEqual}
use Rattle.games.specs.Canonical.{Canonical, canonical, HasForm, FormReached}
use Rattle.games.specs.Count.{Met, at_start, at_game, further, Summed, nothing, plus, Between, OneSum, OneMore, BetweenForms}
use Rattle.games.proofs.Sides.{equal_refl, equal_sym, equal_trans}
use Rattle.games.proofs.Sums.{sum_exists, no_move}
use Rattle.games.proofs.Beside.{sum_equal}
use Rattle.games.proofs.Forms.{form_reached, reached_trans}
use Rattle.games.proofs.Reduce.{has_form}

-- f is equal to the sum of x and y
abbrev pub Adds : Game → Game → Game → Type 0
Adds x y f = (k : Game) × Sum x y k × Equal k f

pub adds_equal : {x y x' y' f : Game} → Equal x x' → Equal y y' → Adds x y f → Adds x' y' f
unfolding SumExists SumEqual
adds_equal {x} {y} {x'} {y'} {f} e e' a =
    let k = sum_exists x' y' in
    (k.0, k.1, equal_trans (sum_equal x' y' k.0 x y a.0 (equal_sym e) (equal_sym e') k.1 a.1) a.2)

-- two games that are equal to one sum are equal
pub adds_one : {x y f f' : Game} → Adds x y f → Adds x y f' → Equal f f'
unfolding SumEqual
adds_one {x} {y} {f} {f'} a b =
    equal_trans (equal_sym a.2) (equal_trans (sum_equal x y a.0 x y b.0 (equal_refl x) (equal_refl y) a.1 b.1) b.2)

-- f is the canonical form of the sum of x and y
abbrev pub FormOf : Game → Game → Game → Type 0
FormOf x y f = Canonical f × Adds x y f

pub form_of : (x y : Game) → (f : Game) × FormOf x y f
unfolding SumExists HasForm
form_of x y =
    let k = sum_exists x y in
    let f = has_form k.0 in
    (f.0, (f.1, (k.0, k.1, f.2)))

-- a row has a canonical sum
sums : (gs : List Game) (t : Game) → Canonical t → (u : Game) × Canonical u × Summed t gs u
sums [] t c = (t, c, nothing)
sums (g ∷ gs) t c =
    let w = form_of t g in
    let a = w.1.1 in
    let u = sums gs w.0 w.1.0 in
    (u.0, u.1, plus a.0 w.0 a.1 w.1.0 a.2 u.2)

-- and one only
summed_equal : {t t' u u' : Game} {gs : List Game} → Equal t t' → Summed t gs u → Summed t' gs u' → Equal u u'
summed_equal e nothing nothing = e
summed_equal e (plus {g = g} k w p c f rest) (plus k' w' p' c' f' rest') =
    summed_equal (adds_one (adds_equal e (equal_refl g) (k, p, f)) (k', p', f')) rest rest'

pub empty_canonical : Canonical empty
empty_canonical = canonical (λ s x i. no_move s x i) (λ s x y i. no_move s x i) (λ s x y i. no_move s x i)

pub one_sum : OneSum
unfolding OneSum
one_sum gs =
    let u = sums gs empty empty_canonical in
    (u.0, u.1, u.2, λ v r. summed_equal (equal_refl empty) u.2 r)

pub between_forms : BetweenForms
unfolding BetweenForms FormReached
between_forms u g y h f r c e b =
    let z = form_reached y h c e b.1 b.4 in
    let k = adds_equal (equal_refl b.0) z.2 (b.2, b.5, b.6) in
    (b.0, z.0, k.0, b.3, reached_trans r z.1, k.1, k.2)

-- a sum so far may be replaced by a game that it is the canonical form of
pub met_from : {w w' f : Game} {gs : List Game} → Canonical w' → Equal w w' → Met w' gs f → Met w gs f
unfolding FormReached
met_from c e (at_start p) = at_start p
met_from {w} {w'} c e (at_game x y k r q p e') =
    let z = form_reached w w' c e x r in
    let a = adds_equal z.2 (equal_refl y) (k, p, e') in
    at_game z.0 y a.0 z.1 q a.1 a.2
met_from c e (further {g = g} k u p d e' m) = let a = adds_equal (equal_sym e) (equal_refl g) (k, p, e') in further a.0 u a.1 d a.2 m

more_forth : {t u : Game} {gs : List Game} → Summed t gs u → (g f : Game) → Met t (gs ++ g ∷ []) f → Met t gs f ⊎ Between u g f
more_forth nothing g f (at_start e) = inl (at_start e)
more_forth nothing g f (at_game x y k r q p e) = inr (x, y, k, r, q, p, e)
more_forth nothing g f (further k u p c e (at_start e')) = inl (at_start e')
more_forth (plus k w p c e rest) g f (at_start e') = inl (at_start e')
more_forth (plus k w p c e rest) g f (at_game x y k' r q p' e') = inl (at_game x y k' r q p' e')
more_forth (plus k w p c e rest) g f (further k' w' p' c' e' m) =
    elim (more_forth rest g f (met_from c' (adds_one (k, p, e) (k', p', e')) m)) [ inl m' ↦ inl (further k w p c e m') | inr b ↦ inr b ]

more_old : {t f : Game} {gs : List Game} → Met t gs f → (g : Game) → Met t (gs ++ g ∷ []) f
more_old (at_start e) g = at_start e
more_old (at_game x y k r q p e) g = at_game x y k r q p e
more_old (further k u p c e m) g = further k u p c e (more_old m g)

more_new : {t u : Game} {gs : List Game} → Summed t gs u → (g f : Game) → Between u g f → Met t (gs ++ g ∷ []) f
more_new nothing g f b = at_game b.0 b.1 b.2 b.3 b.4 b.5 b.6
more_new (plus k w p c e rest) g f b = further k w p c e (more_new rest g f b)

pub one_more : OneMore
unfolding OneMore
one_more gs g u f sm = (more_forth sm g f, elim [ inl m ↦ more_old m g | inr b ↦ more_new sm g f b ])

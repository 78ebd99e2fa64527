-- Lists of games: what is in them, and lists made from others.
use mathlib.Core.Bool.{true, false}
use Rattle.games.specs.Game.{Side, other, Game, game, Games, none, more, options, In, here, there, both, neg, negs}

-- the game with the given options for each side
abbrev pub of : (Side → Games) → Game
of f = game (f true) (f false)

-- its options are those
pub in_of : (f : Side → Games) (s : Side) (x : Game) → In x (f s) → In x (options s (of f))
in_of f true x i = i
in_of f false x i = i

pub of_of : (f : Side → Games) (s : Side) (x : Game) → In x (options s (of f)) → In x (f s)
of_of f true x i = i
of_of f false x i = i

-- a game of either list is in both together
pub in_first : (hs : Games) {gs : Games} {x : Game} → In x gs → In x (both gs hs)
in_first hs here = here
in_first hs (there i) = there (in_first hs i)

pub in_last : (gs : Games) {hs : Games} {x : Game} → In x hs → In x (both gs hs)
in_last none i = i
in_last (more g gs) i = there (in_last gs i)

-- what holds in two lists, holds in both together
pub of_both :
    (P : Game → Type 0) (gs hs : Games) → ((x : Game) → In x gs → P x) → ((x : Game) → In x hs → P x) → (x : Game) → In x (both gs hs) → P x
of_both P none hs p q x i = q x i
of_both P (more g gs) hs p q x here = p g here
of_both P (more g gs) hs p q x (there i) = of_both P gs hs (λ y j. p y (there j)) q x i

-- what holds of a game and of a list, holds of both together
pub in_more : (P : Game → Type 0) (g : Game) (gs : Games) → P g → ((x : Game) → In x gs → P x) → (x : Game) → In x (more g gs) → P x
in_more P g gs p q x here = p
in_more P g gs p q x (there i) = q x i

-- exchanged games
pub in_negs : {x : Game} {gs : Games} → In x gs → In (neg x) (negs gs)
in_negs here = here
in_negs (there i) = there (in_negs i)

pub of_negs : (P : Game → Type 0) (gs : Games) → ((x : Game) → In x gs → P (neg x)) → (x : Game) → In x (negs gs) → P x
of_negs P none p x i = elim i [ ]
of_negs P (more g gs) p x here = p g here
of_negs P (more g gs) p x (there i) = of_negs P gs (λ y j. p y (there j)) x i

-- the options of an exchanged game are those of the other side, exchanged
pub in_neg : (s : Side) (g x : Game) → In x (options s g) → In (neg x) (options (other s) (neg g))
in_neg true (game l r) x i = in_negs i
in_neg false (game l r) x i = in_negs i

pub of_neg :
    (P : Game → Type 0) (s : Side) (g : Game) → ((x : Game) → In x (options (other s) g) → P (neg x)) →
    (x : Game) → In x (options s (neg g)) → P x
of_neg P true (game l r) p = of_negs P r p
of_neg P false (game l r) p = of_negs P l p

-- a list with a game for each game of another list
pub record Collected (R : Game → Game → Type 0) (gs : Games) : Type 0 where
  pub list : Games
  pub to : (x : Game) → In x gs → (k : Game) × In k list × R x k
  pub from : (k : Game) → In k list → (x : Game) × In x gs × R x k

pub collect : (R : Game → Game → Type 0) (gs : Games) → ((x : Game) → In x gs → (k : Game) × R x k) → Collected R gs
collect R none each = record { list = none; to = λ x i. elim i [ ]; from = λ k i. elim i [ ] }
collect R (more g gs) each =
    let k = each g here in
    let rest = collect R gs (λ x i. each x (there i)) in
    let ks = more k.0 rest.list in
    record {
      list = ks;
      to = in_more (λ x. (k : Game) × In k ks × R x k) g gs (k.0, here, k.1) (λ x i. let r = rest.to x i in (r.0, there r.1, r.2));
      from =
          in_more (λ k. (x : Game) × In x (more g gs) × R x k) k.0 rest.list (g, here, k.1)
          (λ k i. let r = rest.from k i in (r.0, there r.1, r.2));
    }

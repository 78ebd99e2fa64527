-- Options that do not matter: dominated ones may be struck, reversible ones bypassed.
use mathlib.Core.Bool.{true, false}
use Rattle.games.specs.Game.{Side, other, Game, game, Games, more, options, In, there, both}
use Rattle.games.specs.Order.{Equal, Worse, NotWorse}
use Rattle.games.specs.Canonical.{Strike, Bypass}
use Rattle.games.proofs.Sides.{worse_by, worse_own, worse_reply, by_option, by_reply, own, equal_by}
use Rattle.games.proofs.Lists.{in_first, in_last, of_both, in_more}

-- the game with the options xs for side s, and ys for the other
abbrev sided : Side → Games → Games → Game
sided true xs ys = game xs ys
sided false xs ys = game ys xs

in_sided : (s : Side) (xs ys : Games) (x : Game) → In x xs → In x (options s (sided s xs ys))
in_sided true xs ys x i = i
in_sided false xs ys x i = i

in_others : (s : Side) (xs xs' ys : Games) (r : Game) → In r (options (other s) (sided s xs ys)) → In r (options (other s) (sided s xs' ys))
in_others true xs xs' ys r i = i
in_others false xs xs' ys r i = i

own_sided : (s : Side) (xs ys : Games) (x : Game) → In x xs → NotWorse s (sided s xs ys) x
own_sided s xs ys x i = own s (sided s xs ys) x (in_sided s xs ys x i)

-- games with the same options for the other side are equal if neither is worse for s than an option of the other
equal_sided :
    (s : Side) (xs xs' ys : Games) → ((x : Game) → In x xs → NotWorse s (sided s xs' ys) x) →
    ((x : Game) → In x xs' → NotWorse s (sided s xs ys) x) → Equal (sided s xs ys) (sided s xs' ys)
equal_sided true xs xs' ys f k =
    let g = game xs ys in
    let h = game xs' ys in
    equal_by g h (elim [ true ↦ f | false ↦ own false h ]) (elim [ true ↦ k | false ↦ own false g ])
equal_sided false xs xs' ys f k =
    let g = game ys xs in
    let h = game ys xs' in
    equal_by g h (elim [ true ↦ own true h | false ↦ f ]) (elim [ true ↦ own true g | false ↦ k ])

strike_sided : (s : Side) (x y : Game) (xs ys : Games) → In y xs → Worse s x y → Equal (sided s (more x xs) ys) (sided s xs ys)
strike_sided s x y xs ys j p =
    let h = sided s xs ys in
    equal_sided s (more x xs) xs ys (in_more (NotWorse s h) x xs (by_option s h x y (in_sided s xs ys y j) p) (own_sided s xs ys))
    (λ z i. own_sided s (more x xs) ys z (there i))

pub strike : Strike
unfolding Strike
strike x y ls rs = (strike_sided true x y ls rs, strike_sided false x y rs ls)

bypass_sided :
    (s : Side) (x y : Game) (xs ys : Games) → In y (options (other s) x) → Worse s y (sided s (more x xs) ys) →
    Equal (sided s (more x xs) ys) (sided s (both (options s y) xs) ys)
bypass_sided s x y xs ys i p =
    let old = more x xs in
    let new = both (options s y) xs in
    let g = sided s old ys in
    let h = sided s new ys in
    let no_better : Worse s y h =
    worse_by s y h (λ z j. own_sided s new ys z (in_first xs j)) (λ r j. worse_reply s y g p r (in_others s new old ys r j)) in
    equal_sided s old new ys (in_more (NotWorse s h) x xs (by_reply s h x y i no_better) (λ z j. own_sided s new ys z (in_last (options s y) j)))
    (of_both (NotWorse s g) (options s y) xs (worse_own s y g p) (λ z j. own_sided s old ys z (there j)))

pub bypass : Bypass
unfolding Bypass
bypass x y ls rs = (bypass_sided true x y ls rs, bypass_sided false x y rs ls)

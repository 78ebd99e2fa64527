-- What one room more brings.
use Rattle.std.proofs.Common.{◌≡◌, ℕ, ◌<◌, ◌≤◌, true, false, List, take, Ok, Err, sym, refl, subst, arith}
use Rattle.std.specs.List.{AllByRecursion as Every}
use Rattle.games.specs.Game.{Side, Game, game, none, more, options, In, here, empty, Reached, itself, onward}
use Rattle.games.specs.Order.{Equal}
use Rattle.games.specs.Sum.{SumTurns}
use Rattle.games.specs.Canonical.{Canonical}
use Rattle.games.specs.Count.{Between, BetweenForms}
use Rattle.games.proofs.Induction.{ind}
use Rattle.games.proofs.Sides.{equal_refl, equal_sym}
use Rattle.games.proofs.Sums.{sum_turns, with_empty}
use Rattle.games.proofs.Forms.{reached_trans}
use Rattle.games.proofs.Along.{adds_equal, adds_one, between_forms}
use Rattle.board.specs.Grid.{Grid, free_count}
use Rattle.board.specs.Tree.{tree}
use Rattle.rooms.specs.Games.{through}
use Rattle.rooms.proofs.Through.{seen_fewer}
use Rattle.forms.specs.declared.rows.Form.{Form}
use Rattle.forms.specs.Held.{Lent}
use Rattle.forms.specs.Meaning.{meaning}
use Rattle.forms.specs.Links.{Table}
use Rattle.forms.proofs.Chains.{use_length}
use Rattle.canonical.specs.declared.canonical.Refusal.{Refusal}
use Rattle.canonical.specs.declared.canonical.Refusal.TheVariants.{Full, Wide, NoMemory}
use Rattle.canonical.proofs.Thinning.{all_from_has}
use Rattle.positions.specs.Growing.{Grows}
use Rattle.positions.specs.Reach.{Comes}
use Rattle.positions.specs.Answers.{PositionOf, FormedRoom, RoomAnswer, PositionsLaw}
use Rattle.positions.proofs.Growth.{grows_as, grows_on, grows_far, grows_meaning}
use Rattle.positions.proofs.Law.{positions_law}
use Rattle.sums.specs.Sums.{HoldsRight, SummedUp, Stopped}
use Rattle.sums.specs.Pairing.{OfPairs, BesideRows, SumsAll}
use Rattle.sums.specs.Reaching.{Reaches}
use Rattle.sums.specs.Rows.{room_game, Joined}
use Rattle.sums.proofs.Wider.{stopped_as, stopped_on}

-- every game reaches the empty game
pub reach_empty : (g : Game) → Reached g empty
reach_empty = ind (λ g. Reached g empty) go
  where
    go : (g : Game) → ((s : Side) (x : Game) → In x (options s g) → Reached x empty) → Reached g empty
    go (game none none) ih = itself
    go (game none (more x r)) ih = onward false here (ih false x here)
    go (game (more x l) r) ih = onward true here (ih true x here)

-- what lies between something reached and a game lies between the whole and it
between_reached : {t x h f : Game} → Reached t x → Between x h f → Between t h f
between_reached r b = (b.0, b.1, b.2, reached_trans r b.3, b.4, b.5, b.6)

-- a position of a room is reached from its game
position_reached : (b : Grid) (r : List ℕ) (c : Grid) → Comes (through b r) c → Reached (room_game b r) (tree (free_count b.cells) c)
unfolding PositionsLaw
position_reached b r c on = (positions_law (through b r) (free_count b.cells) (seen_fewer 0 r b.cells)).0 c on

-- the form of a position lies between whatever game and the room
pub position_between : (t : Game) (b : Grid) (r : List ℕ) (f : Game) → PositionOf b r f → Between t (room_game b r) f
unfolding SumTurns
position_between t b r f p =
    let y = tree (free_count b.cells) p.0 in
    (empty, y, y, reach_empty t, position_reached b r p.0 p.1, sum_turns y empty y (with_empty y), equal_sym p.2)

-- and so does what lies between something reached and that form
position_forms : (t x : Game) (b : Grid) (r : List ℕ) (h f : Game) → Reached t x → Canonical h → PositionOf b r h → Between x h f → Between t (room_game b r) f
unfolding BetweenForms
position_forms t x b r h f on c p between =
    between_reached on (between_forms x (room_game b r) (tree (free_count b.cells) p.0) h f (position_reached b r p.0 p.1) c (equal_sym p.2) between)

-- a form of a table is canonical
pub form_canonical : (fs : List Form) (os : List ℕ) (n : ℕ) → Table fs os n → (k : ℕ) → k < n → Canonical (meaning (take n fs) os k)
form_canonical fs os n t k h = t.sound.canonical k (let e = use_length fs os n t in omega arith)

-- the forms of a list are in the table
pub reach_known : (gs : List Form) (ps : List ℕ) (u t : ℕ) (xs ys : List ℕ) → ys ≡ xs → Table gs ps u → Reaches (take u gs) ps t xs → Every (λ x. x < u) ys
reach_known gs ps u t xs ys e table reach = subst (Every (λ x. x < u)) (sym e) (all_from_has (λ x. x < u) xs (λ w h. let low = (reach.right w h).0 in let long = use_length gs ps u table in omega arith))

pub forms_known : (b : Grid) (r : List ℕ) (fs : List Form) (os : List ℕ) (n : ℕ) (gs : List Form) (ps : List ℕ) (own : ℕ) (all ys : List ℕ) (u : ℕ) → ys ≡ all → FormedRoom b r fs os n gs ps own all u → Every (λ y. y < u) ys
forms_known b r fs os n gs ps own all ys u e formed = subst (Every (λ y. y < u)) (sym e) (all_from_has (λ y. y < u) all (λ w h. (formed.right w h).0))

-- no room has been joined yet where its forms are not found
pub unformed : (g : Game) (b : Grid) (r : List ℕ) (t u : Lent) (e : Refusal) → RoomAnswer b r t u (Err e) → Stopped (Between g (room_game b r)) t.forms.now t.options.now t.used u.forms.now u.options.now e
unformed g b r t u e a =
    stopped_as (PositionOf b r) (Between g (room_game b r)) (position_between g b r) t.forms.now t.options.now t.used u.forms.now u.options.now e (stopped e a)
  where
    stopped : (e : Refusal) → RoomAnswer b r t u (Err e) → Stopped (PositionOf b r) t.forms.now t.options.now t.used u.forms.now u.options.now e
    stopped Full o = o
    stopped Wide w = w
    stopped NoMemory m = m

module _ (b : Grid) (r : List ℕ) (fs : List Form) (os : List ℕ) (n : ℕ) (table : Table fs os n) (t : ℕ) (known : t < n)
    (gs : List Form) (ps : List ℕ) (own : ℕ) (all : List ℕ) (u : ℕ) (formed : FormedRoom b r fs os n gs ps own all u) (xs : List ℕ) (reach : Reaches (take u gs) ps t xs) where
  -- the sum so far, and the room
  abbrev T : Game
  T = meaning (take n fs) os t

  same_T : meaning (take u gs) ps t ≡ T
  same_T = grows_meaning (PositionOf b r) fs os n gs ps u table formed.grows t known

  -- what lies between two forms of the rows lies between the sum so far and the room
  pairs_between : (f : Game) → OfPairs (BesideRows gs ps u xs all) f → Between T (room_game b r) f
  pairs_between f p =
      let x = p.2.0 in
      let y = p.2.2.0 in
      let right = formed.right y p.2.2.1 in
      let on = subst (λ z. Reached z (meaning (take u gs) ps x)) same_T (reach.right x p.2.1).1 in
      position_forms T p.0 b r p.1 f (subst (Reached T) (sym p.2.2.2) on)
      (subst Canonical (sym p.2.2.3) (form_canonical gs ps u formed.grows.table y right.0))
      (subst (PositionOf b r) (sym p.2.2.3) right.1) p.3

  formed_grows : Grows (Between T (room_game b r)) fs os n gs ps u
  formed_grows = grows_as (PositionOf b r) (Between T (room_game b r)) (position_between T b r) fs os n gs ps u formed.grows

  pub unpaired : (hs : List Form) (qs : List ℕ) (e : Refusal) → Stopped (OfPairs (BesideRows gs ps u xs all)) gs ps u hs qs e → Stopped (Between T (room_game b r)) fs os n hs qs e
  unpaired hs qs e s =
      stopped_on (Between T (room_game b r)) fs os n gs ps u hs qs e formed_grows (stopped_as (OfPairs (BesideRows gs ps u xs all)) (Between T (room_game b r)) pairs_between gs ps u hs qs e s)

  module _ (hs : List Form) (qs : List ℕ) (v : ℕ) (sums : SumsAll (BesideRows gs ps u xs all) gs ps u hs qs v) where
    paired_grows : Grows (Between T (room_game b r)) fs os n hs qs v
    paired_grows = grows_on (Between T (room_game b r)) fs os n gs ps u hs qs v formed_grows (grows_as (OfPairs (BesideRows gs ps u xs all)) (Between T (room_game b r)) pairs_between gs ps u hs qs v sums.grows)

    now_T : meaning (take v hs) qs t ≡ T
    now_T = grows_meaning (Between T (room_game b r)) fs os n hs qs v table paired_grows t known

    now_own : meaning (take v hs) qs own ≡ meaning (take u gs) ps own
    now_own = grows_meaning (OfPairs (BesideRows gs ps u xs all)) gs ps u hs qs v formed.grows.table sums.grows own formed.known

    own_equal : Equal (meaning (take v hs) qs own) (room_game b r)
    own_equal = subst (λ g. Equal g (room_game b r)) (sym now_own) formed.worth

    own_between : (f : Game) → Between (meaning (take v hs) qs t) (meaning (take v hs) qs own) f → Between T (room_game b r) f
    unfolding BetweenForms
    own_between f between =
        between_forms T (room_game b r) (room_game b r) (meaning (take v hs) qs own) f itself
        (form_canonical hs qs v sums.grows.table own (let far = grows_far (OfPairs (BesideRows gs ps u xs all)) gs ps u hs qs v formed.grows.table sums.grows in let low = formed.known in omega arith))
        (equal_sym own_equal) (subst (λ g. Between g (meaning (take v hs) qs own) f) now_T between)

    pub unsummed : (is : List Form) (ks : List ℕ) (e : Refusal) → Stopped (Between (meaning (take v hs) qs t) (meaning (take v hs) qs own)) hs qs v is ks e → Stopped (Between T (room_game b r)) fs os n is ks e
    unsummed is ks e s =
        stopped_on (Between T (room_game b r)) fs os n hs qs v is ks e paired_grows
        (stopped_as (Between (meaning (take v hs) qs t) (meaning (take v hs) qs own)) (Between T (room_game b r)) own_between hs qs v is ks e s)

    -- all that lies between the sum so far and the room is found
    all_found : (f : Game) → Between T (room_game b r) f → (k : ℕ) × (k < v) × Equal f (meaning (take v hs) qs k)
    unfolding PositionsLaw
    all_found f w =
        let x = reach.whole w.0 (subst (λ g. Reached g w.0) (sym same_T) w.3) in
        let c = (positions_law (through b r) (free_count b.cells) (seen_fewer 0 r b.cells)).1 w.1 w.4 in
        let y = formed.whole c.0 c.1 in
        let k = sums.whole w.0 (meaning (take u gs) ps y.0) (x.0, x.1, (y.0, y.1, sym x.2, refl)) in
        let near : Equal (meaning (take u gs) ps y.0) w.1 = subst (Equal (meaning (take u gs) ps y.0)) (sym c.2) y.2 in
        (k.0, k.1, adds_one (w.2, w.5, w.6) (adds_equal (equal_refl w.0) near k.2))

    pub joined : (is : List Form) (ks : List ℕ) (w : ℕ) (rs : List ℕ) (a : ℕ) → SummedUp hs qs v t own is ks w rs (Ok a) → Joined T b r fs os n is ks own a w × HoldsRight is ks w rs
    joined is ks w rs a s = (
      record {
        grows = grows_on (Between T (room_game b r)) fs os n hs qs v is ks w paired_grows more_grows;
        known = let far = last_far in let low = formed.known in let mid = grows_far (OfPairs (BesideRows gs ps u xs all)) gs ps u hs qs v formed.grows.table sums.grows in omega arith;
        worth = subst (λ g. Equal g (room_game b r)) (sym (last_same own (let low = formed.known in let mid = grows_far (OfPairs (BesideRows gs ps u xs all)) gs ps u hs qs v formed.grows.table sums.grows in omega arith))) own_equal;
        low = s.1;
        adds = adds_equal (subst (λ g. Equal (meaning (take v hs) qs t) g) now_T (equal_refl (meaning (take v hs) qs t))) own_equal s.2;
        whole = λ f between.
            let k = all_found f between in
            let low = k.1 in
            let far = last_far in
            (k.0, omega arith, subst (Equal f) (sym (last_same k.0 k.1)) k.2);
      },
      s.3,
    )
      where
        more_grows : Grows (Between T (room_game b r)) hs qs v is ks w
        more_grows = grows_as (Between (meaning (take v hs) qs t) (meaning (take v hs) qs own)) (Between T (room_game b r)) own_between hs qs v is ks w s.0

        last_far : v ≤ w
        last_far = grows_far (Between T (room_game b r)) hs qs v is ks w sums.grows.table more_grows

        last_same : (k : ℕ) → k < v → meaning (take w is) ks k ≡ meaning (take v hs) qs k
        last_same = grows_meaning (Between T (room_game b r)) hs qs v is ks w sums.grows.table more_grows

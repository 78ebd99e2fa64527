-- The rooms found so far, square after square.
use Rattle.std.proofs.Common.{◌≡◌, ℕ, ◌+◌, ◌<◌, ◌≤◌, Bool, true, false, List, [], ◌∷◌, ◌++◌, map, length, get_or, replicate, sym, ap, ◌∙◌, subst, ⊎_elim, arith}
use Rattle.std.specs.List.{ContainsAt as Has, AllByRecursion as Every}
use Rattle.std.proofs.lemmas.List.{get_or-replicate, get_or_past, length_push, length-replicate, length-map, map_push, get_or-map}
use Rattle.std.proofs.ByRecursion.{all-has, All-push, All-weaker, has_append_left, has_push, has_get_or}
use Rattle.std.proofs.lemmas.Bool.{both_ways, cases_lt, cases_order}
use Rattle.board.specs.Grid.{Grid, pick, free, Next, free_count}
use Rattle.board.proofs.Edges.{next_sym, next_apart, free_below}
use Rattle.rooms.specs.Walks.{Walk, Rise, first}
use Rattle.rooms.specs.Rooms.{Room, Rooms, Many}
use Rattle.rooms.specs.Games.{RoomsLaw}
use Rattle.rooms.specs.Growth.{marked, Grown, Ended}
use Rattle.rooms.specs.Values.{squares_of, SmallRooms, FirstLarger}
use Rattle.rooms.specs.declared.room.Room.{Room as OneRoom}
use Rattle.rooms.proofs.Holding.{items_few}
use Rattle.rooms.proofs.Lists.{rise_push}
use Rattle.rooms.proofs.Reach.{walk_trans, walk_back, walk_keeps, many_room, first_least}
use Rattle.rooms.proofs.Beside.{rooms_law}

-- the squares below p were looked at: the marked squares are closed under free neighbours, and rs are the rooms among them
pub record Sofar (b : Grid) (p : ℕ) (seen : List Bool) (rs : List (List ℕ)) : Type 0 where
  pub each : Every (Room b) rs
  pub small : Every (λ r. length r ≤ 16) rs
  pub rising : Rise first rs
  pub before : Every (λ r. first r < p) rs
  pub closed : (q r : ℕ) → marked seen q ≡ true → Next b q r → free b r ≡ true → marked seen r ≡ true
  pub below : (q : ℕ) → q < p → free b q ≡ true → marked seen q ≡ true
  pub covered : (q r : ℕ) → marked seen q ≡ true → Next b q r → free b r ≡ true → (m : List ℕ) × Has rs m × Has m q
  pub counted : length rs + length rs ≤ free_count seen

no_marks : (n q : ℕ) → marked (replicate n false) q ≡ false
no_marks n q =
    ⊎_elim (λ h. get_or-replicate n q false false h) (λ h. get_or_past (replicate n false) q false (let k = length-replicate n false in omega arith)) (cases_lt q n)

pub sofar_start : (b : Grid) (n : ℕ) → Sofar b 0 (replicate n false) []
sofar_start b n = record {
  each = tt;
  small = tt;
  rising = tt;
  before = tt;
  closed = λ q r e near f. absurd (both_ways (marked (replicate n false) q) (no_marks n q) e);
  below = λ q less f. absurd (omega arith);
  covered = λ q r e near f. absurd (both_ways (marked (replicate n false) q) (no_marks n q) e);
  counted = omega arith;
}

-- as many marks as squares at most
pub few_marks : (seen : List Bool) → free_count seen ≤ length seen
unfolding free_count
few_marks [] = omega arith
few_marks (c ∷ cs) = let rest = few_marks cs in let one = at_most c in omega arith
  where
    at_most : (c : Bool) → pick c 1 0 ≤ 1
    at_most true = omega arith
    at_most false = omega arith

module _ (b : Grid) (p : ℕ) (old : List Bool) (rs : List (List ℕ)) (x : Sofar b p old rs) where
  -- nothing is found at p
  pub sofar_skip : (free b p ≡ true → marked old p ≡ true) → Sofar b (p + 1) old rs
  sofar_skip known = record {
    each = x.each;
    small = x.small;
    rising = x.rising;
    before = All-weaker (λ r. first r < p) (λ r. first r < p + 1) (λ r h. omega arith) rs x.before;
    closed = x.closed;
    below = λ q less f.
        ⊎_elim (λ same. subst (λ t. marked old t ≡ true) (sym same) (known (subst (λ t. free b t ≡ true) same f)))
        (⊎_elim (λ earlier. x.below q earlier f) (λ later. absurd (omega arith))) (cases_order q p);
    covered = x.covered;
    counted = x.counted;
  }

  module _ (start : free b p ≡ true) (fresh : marked old p ≡ false) where
    -- p is the first square that is reached from it
    least : (q : ℕ) → Walk b p q → p ≤ q
    least q walk =
        ⊎_elim
        (λ less.
        let open-q = walk_keeps (λ t. free b t ≡ true) (λ t u f near g. g) walk start in
        absurd (both_ways (marked old p) fresh (walk_keeps (λ t. marked old t ≡ true) x.closed (walk_back start walk) (x.below q less open-q))))
        (λ more. more) (cases_lt q p)

    -- and where more than 16 are, p is the first square of the first room that is too large
    pub found_larger : Many 16 b p → FirstLarger b p
    found_larger many = record {
      large = record { start = start; least = least; many = many };
      none_before = λ q less large.
          let r = many_room 16 b rs (omega arith) x.each q (λ t near f. x.covered q t (x.below q less large.start) near f) large.many in
          let few = all-has (λ t. length t ≤ 16) rs r.0 x.small r.1 in
          omega (arith, r.3);
    }

    module _ (seen : List Bool) (qs : List ℕ) (e : Ended b p old seen qs) where
      grown : Grown b p old seen qs
      grown = e.grown

      -- what was found is closed
      closed_in : (q r : ℕ) → Has qs q → Next b q r → free b r ≡ true → Has qs r
      closed_in q r h near f =
          ⊎_elim
          (λ was.
          absurd
          (both_ways (marked old q) (all-has (λ t. marked old t ≡ false) qs q grown.fresh h)
          (x.closed r q was (next_sym b q r near) (all-has (λ t. free b t ≡ true) qs q grown.open_squares h))))
          (λ now-in. now-in) (grown.marks r (e.settled q r h near f))

      new_closed : (q r : ℕ) → marked seen q ≡ true → Next b q r → free b r ≡ true → marked seen r ≡ true
      new_closed q r m near f = ⊎_elim (λ was. grown.kept r (x.closed q r was near f)) (λ h. e.settled q r h near f) (grown.marks q m)

      new_below : (q : ℕ) → q < p + 1 → free b q ≡ true → marked seen q ≡ true
      new_below q less f =
          ⊎_elim (λ same. subst (λ t. marked seen t ≡ true) (sym same) (all-has (λ t. marked seen t ≡ true) qs p grown.shown grown.start))
          (⊎_elim (λ earlier. grown.kept q (x.below q earlier f)) (λ later. absurd (omega arith))) (cases_order q p)

      -- what was found begins at p
      first_is : first qs ≡ p
      first_is =
          let at = grown.start.1 in
          let low = least (first qs) (all-has (Walk b p) qs (first qs) grown.reached (has_get_or qs 0 0 (omega arith))) in
          let high = first_least qs e.rising p grown.start in
          omega arith

      -- a square alone is no room, and changes nothing
      pub sofar_single : length qs < 2 → Sofar b (p + 1) seen rs
      sofar_single alone = record {
        each = x.each;
        small = x.small;
        rising = x.rising;
        before = All-weaker (λ r. first r < p) (λ r. first r < p + 1) (λ r h. omega arith) rs x.before;
        closed = new_closed;
        below = new_below;
        covered = λ q r m near f.
            ⊎_elim (λ was. x.covered q r was near f)
            (λ h.
            let g = closed_in q r h near f in
            let hk = h.1 in
            let gk = g.1 in
            let same : h.0 ≡ g.0 = omega arith in
            absurd (next_apart b q r near (sym (h.2 0) ∙ ap (λ k. get_or qs k 0) same ∙ g.2 0))) (grown.marks q m);
        counted = let k = grown.counted in let l = x.counted in omega arith;
      }

      new_room : 2 ≤ length qs → Room b qs
      new_room two = record {
        rising = e.rising;
        two = two;
        inside = λ q h. all-has (λ t. free b t ≡ true) qs q grown.open_squares h;
        linked = λ q r h g. walk_trans (walk_back start (all-has (Walk b p) qs q grown.reached h)) (all-has (Walk b p) qs r grown.reached g);
        closed = closed_in;
      }

      -- a room is found
      pub sofar_room : 2 ≤ length qs → length qs ≤ 16 → Sofar b (p + 1) seen (rs ++ qs ∷ [])
      sofar_room two few = record {
        each = All-push (Room b) rs qs x.each (new_room two);
        small = All-push (λ r. length r ≤ 16) rs qs x.small few;
        rising = rise_push first rs qs x.rising (All-weaker (λ r. first r < p) (λ r. first r < first qs) (λ r h. let k = first_is in omega arith) rs x.before);
        before =
            All-push (λ r. first r < p + 1) rs qs (All-weaker (λ r. first r < p) (λ r. first r < p + 1) (λ r h. omega arith) rs x.before)
            (let k = first_is in omega arith);
        closed = new_closed;
        below = new_below;
        covered = λ q r m near f.
            ⊎_elim (λ was. let y = x.covered q r was near f in (y.0, has_append_left rs (qs ∷ []) y.0 y.1, y.2))
            (λ h. (qs, has_push rs qs, h)) (grown.marks q m);
        counted = let k = grown.counted in let l = x.counted in let n = length_push rs qs in omega arith;
      }

-- all squares were looked at
pub sofar_done : (b : Grid) (p : ℕ) (seen : List Bool) (rs : List (List ℕ)) → 0 < b.width → Sofar b p seen rs → length b.cells ≤ p → SmallRooms b rs
unfolding RoomsLaw
sofar_done b p seen rs wide x all =
    let rooms : Rooms b rs = record {
      each = x.each;
      whole = λ q r fq fr near. x.covered q r (x.below q (let k = free_below b q fq in omega arith) fq) near fr;
      rising = x.rising;
    } in
    record { rooms = rooms; small = x.small; law = λ s. rooms_law s b rs wide rooms }

-- a room of the program has at most 16 squares
pub squares_few : (r : OneRoom) → length (squares_of r) ≤ 16
unfolding squares_of
squares_few r = items_few r.squares

-- a room of the program is found, and there is a place for it, since each has two marks
pub room_added :
    (b : Grid) (p : ℕ) (old : List Bool) (rooms : List OneRoom) → Sofar b p old (map squares_of rooms) → free b p ≡ true → marked old p ≡ false →
    (seen : List Bool) (r : OneRoom) → Ended b p old seen (squares_of r) → 2 ≤ length (squares_of r) → length seen ≡ 256 →
    Sofar b (p + 1) seen (map squares_of (rooms ++ r ∷ [])) × (length rooms < 128)
room_added b p old rooms x start fresh seen r e two long =
    let rs = map squares_of rooms in
    let y = sofar_room b p old rs x start fresh seen (squares_of r) e two (squares_few r) in
    let k = length_push rs (squares_of r) in
    let l = length-map rooms squares_of in
    let m = few_marks seen in
    let n = y.counted in
    (subst (Sofar b (p + 1) seen) (sym (map_push squares_of rooms r)) y, omega arith)

-- a slice of all rooms: how many they are, and one of them
pub slice_long : (slice : List OneRoom) (rs : List (List ℕ)) → map squares_of slice ≡ rs → length slice ≡ length rs
slice_long slice rs e = sym (length-map slice squares_of) ∙ ap length e

pub slice_at : (slice : List OneRoom) (rs : List (List ℕ)) (i : ℕ) (r : OneRoom) → map squares_of slice ≡ rs → i < length slice → r ≡ get_or slice i r → squares_of r ≡ get_or rs i []
slice_at slice rs i r e less at = ap squares_of at ∙ sym (get_or-map squares_of slice i r [] less) ∙ ap (λ qs. get_or qs i []) e

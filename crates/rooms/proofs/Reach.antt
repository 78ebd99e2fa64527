-- Walks over free neighbours, and rooms: two rooms that share a square are the same, and a board has one list of them.
use Rattle.std.proofs.Common.{◌≡◌, ℕ, ◌<◌, ◌≤◌, true, ◌⊎◌, List, [], ◌∷◌, length, get_or, sym, refl, ap, ◌∙◌, subst, inl, inr, ⊎_elim, arith}
use Rattle.std.specs.List.{ContainsAt as Has, AllByRecursion as Every}
use Rattle.std.proofs.ByRecursion.{all-has, All-weaker, has_get_or}
use Rattle.std.proofs.lemmas.Bool.{cases_order}
use Rattle.board.specs.Grid.{Grid, free, Next}
use Rattle.board.proofs.Edges.{next_sym}
use Rattle.rooms.specs.Walks.{Walk, stay, go, Rise, Apart, first}
use Rattle.rooms.specs.Rooms.{Room, Rooms, OneList, Many, Larger, LargerLaw}
use Rattle.rooms.proofs.Lists.{has_here, has_there, all_by_has, rise_at, rise_same, rise_apart, apart_first, no_longer}

pub walk_trans : {b : Grid} {p q r : ℕ} → Walk b p q → Walk b q r → Walk b p r
walk_trans stay w = w
walk_trans (go q n f v) w = go q n f (walk_trans v w)

pub walk_back : {b : Grid} {p q : ℕ} → free b p ≡ true → Walk b p q → Walk b q p
walk_back f stay = stay
walk_back {b} {p} f (go q n fq w) = walk_trans (walk_back fq w) (go p (next_sym b p q n) f stay)

-- what spreads to free neighbours is kept along a walk
pub walk_keeps : {b : Grid} (P : ℕ → Type 0) → ((p q : ℕ) → P p → Next b p q → free b q ≡ true → P q) → {p q : ℕ} → Walk b p q → P p → P q
walk_keeps P step stay h = h
walk_keeps P step (go {p = p} q n f w) h = walk_keeps P step w (step p q h n f)

-- rooms that share a square are the same
pub same_room : (b : Grid) (r s : List ℕ) (p : ℕ) → Room b r → Room b s → Has r p → Has s p → r ≡ s
same_room b r s p x y hr hs =
    rise_same (λ q. q) r s x.rising y.rising
    (λ q h. walk_keeps (Has s) y.closed (x.linked p q hr h) hs) (λ q h. walk_keeps (Has r) x.closed (y.linked p q hs h) hr)

-- a room has a square with a free neighbour
pub room_square : (b : Grid) (r : List ℕ) → Room b r → (p : ℕ) × (q : ℕ) × Has r p × (free b p ≡ true) × (free b q ≡ true) × Next b p q
room_square b [] x = absurd (omega (arith, x.two))
room_square b (p ∷ []) x = absurd (omega (arith, x.two))
room_square b (p ∷ q ∷ rest) x = step (x.linked p q (has_here p (q ∷ rest)) (has_there p (q ∷ rest) q (has_here q rest))) x.rising.0.0
  where
    step : {t : ℕ} → Walk b p t → p < t → (a : ℕ) × (c : ℕ) × Has (p ∷ q ∷ rest) a × (free b a ≡ true) × (free b c ≡ true) × Next b a c
    step stay less = absurd (omega arith)
    step (go c n f w) less = (p, c, has_here p (q ∷ rest), x.inside p (has_here p (q ∷ rest)), f, n)

-- every room of a board is in a list of its rooms
pub room_listed : (b : Grid) (rs : List (List ℕ)) → Rooms b rs → (r : List ℕ) → Room b r → Has rs r
room_listed b rs all r x =
    let at = room_square b r x in
    let in_one = all.whole at.0 at.1 at.3 at.4 at.5 in
    subst (Has rs) (same_room b in_one.0 r at.0 (all-has (Room b) rs in_one.0 all.each in_one.1) x in_one.2 at.2) in_one.1

pub one_list : OneList
unfolding OneList
one_list b rs qs x y =
    rise_same first rs qs x.rising y.rising (λ r h. room_listed b qs y r (all-has (Room b) rs r x.each h))
    (λ r h. room_listed b rs x r (all-has (Room b) qs r y.each h))

-- a walk to another square begins with a free neighbour
alone_or_near : {b : Grid} {p q : ℕ} → Walk b p q → (p ≡ q) ⊎ ((r : ℕ) × Next b p r × (free b r ≡ true))
alone_or_near stay = inl refl
alone_or_near (go r n f w) = inr (r, n, f)

-- more than n squares are reached from p, and where p has a free neighbour it lies in a room of rs: that room has more than n squares
pub many_room :
    (n : ℕ) (b : Grid) (rs : List (List ℕ)) → 1 ≤ n → Every (Room b) rs → (p : ℕ) →
    ((q : ℕ) → Next b p q → free b q ≡ true → (r : List ℕ) × Has rs r × Has r p) → Many n b p → (r : List ℕ) × Has rs r × Has r p × (n < length r)
many_room n b rs some each p near x = step x.squares x.apart x.reached x.more
  where
    inner : (q : ℕ) → Next b p q → free b q ≡ true → (qs : List ℕ) → Apart qs → Every (Walk b p) qs → n < length qs → (r : List ℕ) × Has rs r × Has r p × (n < length r)
    inner q nq fq qs apart reached more =
        let r = near q nq fq in
        let room = all-has (Room b) rs r.0 each r.1 in
        let k = no_longer qs r.0 apart (All-weaker (Walk b p) (Has r.0) (λ t w. walk_keeps (Has r.0) room.closed w r.2) qs reached) in
        (r.0, r.1, r.2, omega arith)

    -- of two squares one is another than p
    step : (qs : List ℕ) → Apart qs → Every (Walk b p) qs → n < length qs → (r : List ℕ) × Has rs r × Has r p × (n < length r)
    step [] apart reached more = absurd (omega arith)
    step (t ∷ []) apart reached more = absurd (omega arith)
    step (t ∷ u ∷ qs) apart reached more =
        ⊎_elim
        (λ e.
        ⊎_elim (λ f. absurd (apart_first t (u ∷ qs) apart (subst (Has (u ∷ qs)) (sym f ∙ e) (has_here u qs))))
        (λ r. inner r.0 r.1 r.2 (t ∷ u ∷ qs) apart reached more) (alone_or_near reached.1.0))
        (λ r. inner r.0 r.1 r.2 (t ∷ u ∷ qs) apart reached more) (alone_or_near reached.0)

-- the first square of a rising list is the least
pub first_least : (qs : List ℕ) → Rise (λ q. q) qs → (q : ℕ) → Has qs q → first qs ≤ q
first_least qs up q h =
    let value = h.2 0 in
    ⊎_elim (λ zero-place. let e = ap (λ k. get_or qs k 0) zero-place in omega arith)
    (⊎_elim (λ later. let k = rise_at (λ t. t) qs 0 h.0 0 up later h.1 in omega arith) (λ never. absurd (omega arith))) (cases_order 0 h.0)

pub larger_law : LargerLaw
unfolding LargerLaw
larger_law n b rs some x p = (to, λ r. subst (Larger n b) r.3 (from r.0 r.1 r.2))
  where
    to : Larger n b p → (r : List ℕ) × Has rs r × (n < length r) × (first r ≡ p)
    to large =
        let r = many_room n b rs some x.each p (λ q near f. x.whole p q large.start f near) large.many in
        let room = all-has (Room b) rs r.0 x.each r.1 in
        let low = first_least r.0 room.rising p r.2 in
        let high = large.least (first r.0) (room.linked p (first r.0) r.2 (has_get_or r.0 0 0 (omega (arith, room.two)))) in
        (r.0, r.1, r.3, omega arith)

    from : (r : List ℕ) → Has rs r → n < length r → Larger n b (first r)
    from r h more =
        let room = all-has (Room b) rs r x.each h in
        let here = has_get_or r 0 0 (omega (arith, room.two)) in
        record {
          start = room.inside (first r) here;
          least = λ q walk. first_least r room.rising q (walk_keeps (Has r) room.closed walk here);
          many = record { squares = r; more = more; apart = rise_apart r room.rising; reached = all_by_has (Walk b (first r)) r (λ q g. room.linked (first r) q here g) };
        }

-- The moves of a room at a position: which there are, and where they lead.
use Rattle.std.proofs.Common.{◌≡◌, ℕ, ◌-◌, ◌^◌, ◌<◌, Bool, true, false, not, ◌&&◌, ltb, List, [], ◌∷◌, length, get_or, sym, refl, ap, ◌∙◌, subst, ⊎_elim}
use lib.Bits.{bit_and}
use Rattle.std.specs.List.{ContainsAt as Has, AllByRecursion as Every}
use Rattle.std.proofs.ByRecursion.{all-has, has_get_or}
use Rattle.std.proofs.lemmas.Bool.{both_ways, cases_Bool, and_parts, and_from, not-true, lt-ltb, ltb-true}
use Rattle.std.proofs.lemmas.Bool.Decides.{same_from_decides}
use Rattle.board.specs.Grid.{Grid, Side, free}
use Rattle.board.specs.Moves.{covers, fits, each_free, may, laid}
use Rattle.board.proofs.Covering.{covers_from}
use Rattle.rooms.specs.Games.{among, through}
use Rattle.rooms.specs.Walks.{Rise}
use Rattle.rooms.proofs.Lists.{all_by_has}
use Rattle.rooms.proofs.Through.{among_has, has_among, free_through, covered, to_through, of_through, laid_through, same_grid, at_taken, length_seen, length_taken}
use Rattle.positions.specs.Sets.{has, chosen, position, all_among, inside, Holds}
use Rattle.positions.proofs.Bits.{has_in, has_left, part_from}
use Rattle.positions.proofs.Choices.{At, chosen_has, has_chosen, one_number}

-- squares that are all among others
of_all_among : (ps qs : List ℕ) → all_among ps qs ≡ true → (p : ℕ) → Has ps p → Has qs p
of_all_among ps qs e p h = all-has (Has qs) ps p (each ps e) h
  where
    each : (ps : List ℕ) → all_among ps qs ≡ true → Every (Has qs) ps
    each [] e = tt
    each (p ∷ ps) e = let parts = and_parts (among qs p) (all_among ps qs) e in (among_has qs p parts.0, each ps parts.1)

to_all_among : (ps qs : List ℕ) → Every (Has qs) ps → all_among ps qs ≡ true
to_all_among [] qs h = refl
to_all_among (p ∷ ps) qs h = and_from (among qs p) (all_among ps qs) (has_among qs p h.0) (to_all_among ps qs h.1)

all_free_from : (b : Grid) (ps : List ℕ) → Every (λ p. free b p ≡ true) ps → each_free b ps ≡ true
all_free_from b [] h = refl
all_free_from b (p ∷ ps) h = and_from (free b p) (each_free b ps) h.0 (all_free_from b ps h.1)

-- a room of free squares, and the set of a move in it
module _ (b : Grid) (qs : List ℕ) (room : (q : ℕ) → Has qs q → free b q ≡ true) (s : Side) (i m : ℕ) (in_room : inside b qs s (get_or qs i 0) ≡ true) (covers_is : Holds qs (covered b s (get_or qs i 0)) m) where
  -- the set has the squares that are covered
  pub has_covered : (j : ℕ) → j < length qs → Has (covered b s (get_or qs i 0)) (get_or qs j 0) → has m j ≡ true
  has_covered j h c = covers_is j ∙ and_from (ltb j (length qs)) (among (covered b s (get_or qs i 0)) (get_or qs j 0)) (lt-ltb j (length qs) h) (has_among (covered b s (get_or qs i 0)) (get_or qs j 0) c)

  -- and no others
  pub covered_has : (j : ℕ) → has m j ≡ true → (j < length qs) × Has (covered b s (get_or qs i 0)) (get_or qs j 0)
  covered_has j e =
      let parts = and_parts (ltb j (length qs)) (among (covered b s (get_or qs i 0)) (get_or qs j 0)) (sym (covers_is j) ∙ e) in
      (ltb-true j (length qs) parts.0, among_has (covered b s (get_or qs i 0)) (get_or qs j 0) parts.1)

  -- where all of them are in a position, the move may be made there
  pub may_at : (set : ℕ) → bit_and set m ≡ m → may (position b qs set) s (get_or qs i 0) ≡ true
  unfolding position may
  may_at set part =
      let parts = and_parts (fits b.width (length b.cells) s (get_or qs i 0)) (all_among (covered b s (get_or qs i 0)) qs) in_room in
      let in-qs = of_all_among (covered b s (get_or qs i 0)) qs parts.1 in
      to_through b (chosen qs set) s (get_or qs i 0)
      (and_from (fits b.width (length b.cells) s (get_or qs i 0)) (each_free b (covered b s (get_or qs i 0))) parts.0
      (all_free_from b (covered b s (get_or qs i 0)) (all_by_has (λ p. free b p ≡ true) (covered b s (get_or qs i 0)) (λ p h. room p (in-qs p h)))))
      (all_by_has (Has (chosen qs set)) (covered b s (get_or qs i 0)) (λ p h. in_set p h (in-qs p h)))
    where
      in_set : (p : ℕ) → Has (covered b s (get_or qs i 0)) p → Has qs p → Has (chosen qs set) p
      in_set p h k =
          subst (Has (chosen qs set)) (k.2 0)
          (chosen_has qs set k.0 k.1 (has_in k.0 set m part (has_covered k.0 k.1 (subst (Has (covered b s (get_or qs i 0))) (sym (k.2 0)) h))))

  -- what is left of the position when they are taken
  left : (set : ℕ) → bit_and set m ≡ m → (q : ℕ) → among (chosen qs (set - m)) q ≡ (not (among (covered b s (get_or qs i 0)) q) && among (chosen qs set) q)
  left set part q =
      same_from_decides (among (chosen qs (set - m)) q) (not (among (covered b s (get_or qs i 0)) q) && among (chosen qs set) q)
      (λ e. e, λ e. e) (to, from)
    where
      to : (not (among (covered b s (get_or qs i 0)) q) && among (chosen qs set) q) ≡ true → among (chosen qs (set - m)) q ≡ true
      to e =
          let parts = and_parts (not (among (covered b s (get_or qs i 0)) q)) (among (chosen qs set) q) e in
          let at = has_chosen qs set q (among_has (chosen qs set) q parts.1) in
          let out : has m at.number ≡ false =
          ⊎_elim
          (λ t. absurd (both_ways (among (covered b s (get_or qs i 0)) q) (not-true (among (covered b s (get_or qs i 0)) q) parts.0) (has_among (covered b s (get_or qs i 0)) q (subst (Has (covered b s (get_or qs i 0))) at.is (covered_has at.number t).1))))
          (λ f. f) (cases_Bool (has m at.number)) in
          let stays : has (set - m) at.number ≡ true = has_left at.number set m part ∙ and_from (has set at.number) (not (has m at.number)) at.member (ap not out) in
          has_among (chosen qs (set - m)) q (subst (Has (chosen qs (set - m))) at.is (chosen_has qs (set - m) at.number at.low stays))

      from : among (chosen qs (set - m)) q ≡ true → (not (among (covered b s (get_or qs i 0)) q) && among (chosen qs set) q) ≡ true
      from e =
          let at = has_chosen qs (set - m) q (among_has (chosen qs (set - m)) q e) in
          let parts = and_parts (has set at.number) (not (has m at.number)) (sym (has_left at.number set m part) ∙ at.member) in
          and_from (not (among (covered b s (get_or qs i 0)) q)) (among (chosen qs set) q)
          (⊎_elim
          (λ t. absurd (both_ways (has m at.number) (not-true (has m at.number) parts.1) (has_covered at.number at.low (subst (Has (covered b s (get_or qs i 0))) (sym at.is) (among_has (covered b s (get_or qs i 0)) q t)))))
          (λ f. ap not f) (cases_Bool (among (covered b s (get_or qs i 0)) q)))
          (has_among (chosen qs set) q (subst (Has (chosen qs set)) at.is (chosen_has qs set at.number at.low parts.0)))

  -- the move leads to the position without them
  pub laid_at : (set : ℕ) → bit_and set m ≡ m → laid (position b qs set) s (get_or qs i 0) ≡ position b qs (set - m)
  unfolding position laid
  laid_at set part =
      laid_through b (chosen qs set) s (get_or qs i 0)
      ∙ same_grid b.width (through (laid b s (get_or qs i 0)) (chosen qs set)).cells (through b (chosen qs (set - m))).cells
      (length_seen 0 (chosen qs set) (laid b s (get_or qs i 0)).cells ∙ length_taken b.cells (covered b s (get_or qs i 0)) ∙ sym (length_seen 0 (chosen qs (set - m)) b.cells))
      (λ q.
      free_through (laid b s (get_or qs i 0)) (chosen qs set) q ∙ ap (λ x. x && among (chosen qs set) q) (at_taken b.cells (covered b s (get_or qs i 0)) q)
      ∙ regroup (get_or b.cells q false) (not (among (covered b s (get_or qs i 0)) q)) (among (chosen qs set) q)
      ∙ sym (free_through b (chosen qs (set - m)) q ∙ ap (λ x. get_or b.cells q false && x) (left set part q)))
    where
      regroup : (x y z : Bool) → ((x && y) && z) ≡ (x && (y && z))
      regroup true y z = refl
      regroup false y z = refl

-- and every move that may be made at a position is one of these
module _ (b : Grid) (qs : List ℕ) (rise : Rise (λ q. q) qs) (s : Side) (set p : ℕ) (lawful : may (position b qs set) s p ≡ true) where
  held : (may b s p ≡ true) × Every (Has (chosen qs set)) (covered b s p)
  unfolding position
  held = of_through b (chosen qs set) s p lawful

  -- its place is a square of the room
  pub place_at : At qs set p
  place_at =
      let first = covers_from b.width (length b.cells) s p in
      has_chosen qs set p (subst (Every (Has (chosen qs set))) first.2 held.1).0

  pub inside_at : inside b qs s (get_or qs place_at.number 0) ≡ true
  unfolding may
  inside_at =
      subst (λ q. (fits b.width (length b.cells) s q && all_among (covers b.width (length b.cells) s q) qs) ≡ true) (sym place_at.is)
      (and_from (fits b.width (length b.cells) s p) (all_among (covered b s p) qs)
      (and_parts (fits b.width (length b.cells) s p) (each_free b (covered b s p)) held.0).0
      (to_all_among (covered b s p) qs (all_by_has (Has qs) (covered b s p) (λ q h. in_room q (all-has (Has (chosen qs set)) (covered b s p) q held.1 h)))))
    where
      in_room : (q : ℕ) → Has (chosen qs set) q → Has qs q
      in_room q h = let at = has_chosen qs set q h in subst (Has qs) at.is (has_get_or qs at.number 0 at.low)

  -- and all that it covers is in the position
  pub part_at : (n m : ℕ) → m < 2 ^ n → Holds qs (covered b s (get_or qs place_at.number 0)) m → bit_and set m ≡ m
  part_at n m small covers_is =
      part_from n set m small
      (λ j e.
      let parts = and_parts (ltb j (length qs)) (among (covered b s (get_or qs place_at.number 0)) (get_or qs j 0)) (sym (covers_is j) ∙ e) in
      let low = ltb-true j (length qs) parts.0 in
      let at = has_chosen qs set (get_or qs j 0) (all-has (Has (chosen qs set)) (covered b s p) (get_or qs j 0) held.1 (subst (λ q. Has (covered b s q) (get_or qs j 0)) place_at.is (among_has (covered b s (get_or qs place_at.number 0)) (get_or qs j 0) parts.1))) in
      subst (λ k. has set k ≡ true) (one_number qs rise at.number j at.low low at.is) at.member)

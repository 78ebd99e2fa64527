-- The board seen through some squares: what is free on it, what may be laid on it, and the board after that.
use Rattle.std.proofs.Common.{◌≡◌, ℕ, zero, suc, ◌+◌, ◌≤◌, Bool, true, false, not, ◌&&◌, ◌||◌, eqb, List, [], ◌∷◌, length, get_or, set, sym, refl, ap, ◌∙◌, subst, ⊎_elim, arith}
use Rattle.std.specs.List.{ContainsAt as Has, AllByRecursion as Every}
use Rattle.std.proofs.lemmas.List.{length-set, get_or-set_same, get_or-set_other, get_or_past, set_past, ext_get_or}
use Rattle.std.proofs.lemmas.Bool.{and_parts, and_from, or_cases, or_left, or_right, eqb-true, eq-eqb, ne_eqb, cases_eq, cases_lt, both_ways}
use Rattle.board.specs.Grid.{Grid, Side, pick, free, free_count}
use Rattle.board.specs.Moves.{covers, fits, each_free, taken, without, may, laid}
use Rattle.rooms.specs.Games.{among, seen_from, through}
use Rattle.rooms.proofs.Lists.{has_none, has_here, has_there, has_cases}

pub among_has : (qs : List ℕ) (q : ℕ) → among qs q ≡ true → Has qs q
among_has [] q e = absurd (both_ways false refl e)
among_has (p ∷ ps) q e =
    ⊎_elim (λ here. subst (Has (p ∷ ps)) (eqb-true p q here) (has_here p ps)) (λ later. has_there p ps q (among_has ps q later)) (or_cases (eqb p q) (among ps q) e)

pub has_among : (qs : List ℕ) (q : ℕ) → Has qs q → among qs q ≡ true
has_among [] q h = absurd (has_none q h)
has_among (p ∷ ps) q h =
    ⊎_elim (λ e. or_left (eqb p q) (among ps q) (eq-eqb p q e)) (λ g. or_right (eqb p q) (among ps q) (has_among ps q g)) (has_cases p ps q h)

-- the squares that stay free
pub length_seen : (k : ℕ) (qs : List ℕ) (cs : List Bool) → length (seen_from k qs cs) ≡ length cs
unfolding seen_from
length_seen k qs [] = refl
length_seen k qs (c ∷ cs) = ap suc (length_seen (suc k) qs cs)

at_seen : (k : ℕ) (qs : List ℕ) (cs : List Bool) (i j : ℕ) → k + i ≡ j → get_or (seen_from k qs cs) i false ≡ (get_or cs i false && among qs j)
unfolding seen_from
at_seen k qs [] i j e = refl
at_seen k qs (c ∷ cs) zero j e = let same : k ≡ j = omega arith in ap (λ m. c && among qs m) same
at_seen k qs (c ∷ cs) (suc i) j e = at_seen (suc k) qs cs i j (omega arith)

pub seen_fewer : (k : ℕ) (qs : List ℕ) (cs : List Bool) → free_count (seen_from k qs cs) ≤ free_count cs
unfolding seen_from free_count
seen_fewer k qs [] = omega arith
seen_fewer k qs (c ∷ cs) = let rest = seen_fewer (suc k) qs cs in let one = less c (among qs k) in omega arith
  where
    less : (c m : Bool) → pick (c && m) 1 0 ≤ pick c 1 0
    less true true = omega arith
    less true false = omega arith
    less false m = omega arith

pub free_through : (b : Grid) (qs : List ℕ) (q : ℕ) → free (through b qs) q ≡ (free b q && among qs q)
free_through b qs q = at_seen 0 qs b.cells q q (omega arith)

-- the squares that are taken
pub length_taken : (cs : List Bool) (ps : List ℕ) → length (taken cs ps) ≡ length cs
length_taken cs [] = refl
length_taken cs (p ∷ ps) = length_taken (set cs p false) ps ∙ length-set cs p false

at_set : (cs : List Bool) (p i : ℕ) → get_or (set cs p false) i false ≡ (get_or cs i false && not (eqb p i))
at_set cs p i =
    ⊎_elim
    (λ e. ap (λ k. get_or (set cs p false) k false) (sym e) ∙ gone ∙ sym (ap (λ t. get_or cs i false && not t) (eq-eqb p i e) ∙ never (get_or cs i false)))
    (λ ne. get_or-set_other cs p i false false (λ e. ne (sym e)) ∙ sym (ap (λ t. get_or cs i false && not t) (ne_eqb p i ne) ∙ always (get_or cs i false)))
    (cases_eq p i)
  where
    never : (x : Bool) → (x && false) ≡ false
    never true = refl
    never false = refl

    always : (x : Bool) → (x && true) ≡ x
    always true = refl
    always false = refl

    gone : get_or (set cs p false) p false ≡ false
    gone =
        ⊎_elim (λ h. get_or-set_same cs p false false h) (λ h. ap (λ l. get_or l p false) (set_past cs p false h) ∙ get_or_past cs p false h) (cases_lt p (length cs))

pub at_taken : (cs : List Bool) (ps : List ℕ) (i : ℕ) → get_or (taken cs ps) i false ≡ (get_or cs i false && not (among ps i))
at_taken cs [] i = sym (all (get_or cs i false))
  where
    all : (x : Bool) → (x && true) ≡ x
    all true = refl
    all false = refl
at_taken cs (p ∷ ps) i =
    at_taken (set cs p false) ps i ∙ ap (λ x. x && not (among ps i)) (at_set cs p i) ∙ join (get_or cs i false) (eqb p i) (among ps i)
  where
    join : (x y z : Bool) → ((x && not y) && not z) ≡ (x && not (y || z))
    join true true z = refl
    join true false z = refl
    join false y z = refl

-- boards of one width with the same free squares are the same
pub same_grid : (w : ℕ) (cs ds : List Bool) → length cs ≡ length ds → ((i : ℕ) → get_or cs i false ≡ get_or ds i false) →
    ◌≡◌ {A = Grid} (record { width = w; cells = cs }) (record { width = w; cells = ds })
same_grid w cs ds long each = ap (λ l. record { width = w; cells = l }) (ext_get_or false cs ds long (λ i h. each i))

-- taking squares and looking through some is the same in either order
pub through_without : (b : Grid) (ps qs : List ℕ) → without (through b qs) ps ≡ through (without b ps) qs
through_without b ps qs =
    same_grid b.width (taken (seen_from 0 qs b.cells) ps) (seen_from 0 qs (taken b.cells ps))
    (length_taken (seen_from 0 qs b.cells) ps ∙ length_seen 0 qs b.cells ∙ sym (length_seen 0 qs (taken b.cells ps) ∙ length_taken b.cells ps))
    (λ i.
    at_taken (seen_from 0 qs b.cells) ps i ∙ ap (λ x. x && not (among ps i)) (at_seen 0 qs b.cells i i (omega arith))
    ∙ swap (get_or b.cells i false) (among qs i) (not (among ps i))
    ∙ sym (at_seen 0 qs (taken b.cells ps) i i (omega arith) ∙ ap (λ x. x && among qs i) (at_taken b.cells ps i)))
  where
    swap : (x y z : Bool) → ((x && y) && z) ≡ ((x && z) && y)
    swap true true true = refl
    swap true true false = refl
    swap true false true = refl
    swap true false false = refl
    swap false y z = refl

-- taking squares elsewhere changes nothing that is seen
pub through_elsewhere : (b : Grid) (ps qs : List ℕ) → ((q : ℕ) → Has ps q → Has qs q → ⊥) → through b qs ≡ through (without b ps) qs
through_elsewhere b ps qs apart =
    same_grid b.width (seen_from 0 qs b.cells) (seen_from 0 qs (taken b.cells ps))
    (length_seen 0 qs b.cells ∙ sym (length_seen 0 qs (taken b.cells ps) ∙ length_taken b.cells ps))
    (λ i.
    at_seen 0 qs b.cells i i (omega arith)
    ∙ drop (get_or b.cells i false) (among ps i) (among qs i) (λ x y. apart i (among_has ps i x) (among_has qs i y))
    ∙ sym (at_seen 0 qs (taken b.cells ps) i i (omega arith) ∙ ap (λ x. x && among qs i) (at_taken b.cells ps i)))
  where
    drop : (x y z : Bool) → (y ≡ true → z ≡ true → ⊥) → (x && z) ≡ ((x && not y) && z)
    drop true true true h = absurd (h refl refl)
    drop true true false h = refl
    drop true false z h = refl
    drop false y z h = refl

-- the squares that a side's move at p covers on a board
abbrev pub covered : Grid → Side → ℕ → List ℕ
covered b s p = covers b.width (length b.cells) s p

-- a move that may be made on the board and lies among the squares may be made on what is seen through them, and only such
module _ (b : Grid) (qs : List ℕ) where
  to_all_free : (ps : List ℕ) → each_free b ps ≡ true → Every (Has qs) ps → each_free (through b qs) ps ≡ true
  to_all_free [] e h = refl
  to_all_free (p ∷ ps) e h =
      let parts = and_parts (free b p) (each_free b ps) e in
      and_from (free (through b qs) p) (each_free (through b qs) ps)
      (free_through b qs p ∙ and_from (free b p) (among qs p) parts.0 (has_among qs p h.0)) (to_all_free ps parts.1 h.1)

  of_all_free : (ps : List ℕ) → each_free (through b qs) ps ≡ true → (each_free b ps ≡ true) × Every (Has qs) ps
  of_all_free [] e = (refl, tt)
  of_all_free (p ∷ ps) e =
      let parts = and_parts (free (through b qs) p) (each_free (through b qs) ps) e in
      let both = and_parts (free b p) (among qs p) (sym (free_through b qs p) ∙ parts.0) in
      let rest = of_all_free ps parts.1 in
      (and_from (free b p) (each_free b ps) both.0 rest.0, (among_has qs p both.1, rest.1))

  pub to_through : (s : Side) (p : ℕ) → may b s p ≡ true → Every (Has qs) (covered b s p) → may (through b qs) s p ≡ true
  unfolding may
  to_through s p e h =
      let parts = and_parts (fits b.width (length b.cells) s p) (each_free b (covered b s p)) e in
      ap (λ n. fits b.width n s p && each_free (through b qs) (covers b.width n s p)) (length_seen 0 qs b.cells)
      ∙ and_from (fits b.width (length b.cells) s p) (each_free (through b qs) (covered b s p)) parts.0 (to_all_free (covered b s p) parts.1 h)

  pub of_through : (s : Side) (p : ℕ) → may (through b qs) s p ≡ true → (may b s p ≡ true) × Every (Has qs) (covered b s p)
  unfolding may
  of_through s p e =
      let same = ap (λ n. fits b.width n s p && each_free (through b qs) (covers b.width n s p)) (length_seen 0 qs b.cells) in
      let parts = and_parts (fits b.width (length b.cells) s p) (each_free (through b qs) (covered b s p)) (sym same ∙ e) in
      let rest = of_all_free (covered b s p) parts.1 in
      (and_from (fits b.width (length b.cells) s p) (each_free b (covered b s p)) parts.0 rest.0, rest.1)

  -- the board after it, seen through the same squares
  pub laid_through : (s : Side) (p : ℕ) → laid (through b qs) s p ≡ through (laid b s p) qs
  unfolding laid
  laid_through s p =
      ap (λ n. without (through b qs) (covers b.width n s p)) (length_seen 0 qs b.cells) ∙ through_without b (covered b s p) qs

-- after a move nothing new may be laid, and the same squares would be covered
pub covered_laid : (b : Grid) (s t : Side) (p q : ℕ) → covered (laid b s p) t q ≡ covered b t q
unfolding laid
covered_laid b s t p q = ap (λ n. covers b.width n t q) (length_taken b.cells (covered b s p))

pub may_laid : (b : Grid) (s t : Side) (p q : ℕ) → may (laid b s p) t q ≡ true → may b t q ≡ true
unfolding may laid
may_laid b s t p q e =
    let same = ap (λ n. fits b.width n t q && each_free (without b (covered b s p)) (covers b.width n t q)) (length_taken b.cells (covered b s p)) in
    let parts = and_parts (fits b.width (length b.cells) t q) (each_free (without b (covered b s p)) (covered b t q)) (sym same ∙ e) in
    and_from (fits b.width (length b.cells) t q) (each_free b (covered b t q)) parts.0 (inner (covered b t q) parts.1)
  where
    inner : (ps : List ℕ) → each_free (without b (covered b s p)) ps ≡ true → each_free b ps ≡ true
    inner [] e = refl
    inner (r ∷ rs) e =
        let parts = and_parts (free (without b (covered b s p)) r) (each_free (without b (covered b s p)) rs) e in
        let both = and_parts (free b r) (not (among (covered b s p) r)) (sym (at_taken b.cells (covered b s p) r) ∙ parts.0) in
        and_from (free b r) (each_free b rs) both.0 (inner rs parts.1)

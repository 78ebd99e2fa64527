-- What a move covers. Only this file and the contract of the function that gives the squares look at a move's shape.
use Rattle.std.proofs.Common.{◌≡◌, ℕ, ◌+◌, ◌%◌, ◌<◌, true, false, ltb, List, [], ◌∷◌, length, sym, refl, ap, ◌∙◌, inl, inr, arith}
use Rattle.std.specs.List.{AllByRecursion as Every}
use Rattle.std.proofs.ByRecursion.{all-has}
use Rattle.std.proofs.lemmas.Bool.{and_parts, ltb-true}
use Rattle.board.specs.Grid.{Grid, Side, free, Edge, Next}
use Rattle.board.specs.Moves.{covers, fits, each_free, may}
use Rattle.board.specs.Covering.{Linked, done, next, MovesLaw}

-- a move covers its place first, and at least one square more
pub covers_from : (w n : ℕ) (s : Side) (p : ℕ) → (q : ℕ) × (qs : List ℕ) × (covers w n s p ≡ p ∷ q ∷ qs)
covers_from w n true p = (p + w, [], refl)
covers_from w n false p = (p + 1, [], refl)

-- where it fits, each square is a neighbour of one before it
covers_linked :
    (b : Grid) (s : Side) (p : ℕ) → 0 < b.width → fits b.width (length b.cells) s p ≡ true →
    let more = covers_from b.width (length b.cells) s p in Linked b (p ∷ []) (more.0 ∷ more.1)
unfolding covers_from Edge
covers_linked b true p wide e = next p (0, omega arith, λ d. refl) (inl (inl refl, λ same. omega arith)) done
covers_linked b false p wide e =
    let inside = ltb-true (p % b.width + 1) b.width (and_parts (ltb (p % b.width + 1) b.width) _ e).0 in
    next p (0, omega arith, λ d. refl) (inl (inr (refl, inside), λ same. omega arith)) done

pub all_are_free : (b : Grid) (qs : List ℕ) → each_free b qs ≡ true → Every (λ q. free b q ≡ true) qs
all_are_free b [] e = tt
all_are_free b (q ∷ qs) e = let parts = and_parts (free b q) (each_free b qs) e in (parts.0, all_are_free b qs parts.1)

pub moves_law : MovesLaw
unfolding MovesLaw may
moves_law b s p wide m =
    let parts = and_parts (fits b.width (length b.cells) s p) _ m in
    let more = covers_from b.width (length b.cells) s p in
    record {
      second = more.0;
      rest = more.1;
      squares = more.2;
      linked = covers_linked b s p wide parts.0;
      all = all_are_free b (p ∷ more.0 ∷ more.1) (ap (each_free b) (sym more.2) ∙ parts.1);
    }

-- what spreads from a square to its free neighbours, spreads over linked squares
pub spread :
    (b : Grid) (P : ℕ → Type 0) → ((q r : ℕ) → P q → Next b q r → free b r ≡ true → P r) →
    {before after : List ℕ} → Linked b before after → Every P before → Every (λ q. free b q ≡ true) after → Every P after
spread b P step done known open_squares = tt
spread b P step (next {before = before} {q = q} r i near rest) known open_squares =
    let here = step r q (all-has P before r known i) near open_squares.0 in
    (here, spread b P step rest (here, known) open_squares.1)

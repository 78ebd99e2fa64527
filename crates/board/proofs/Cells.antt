-- Lists of squares: the part of an array that is a board, its squares one by one, and how many are free.
use Rattle.std.proofs.Common.{cond, count_by, ◌≡◌, ℕ, zero, suc, ◌+◌, ◌*◌, ◌<◌, ◌≤◌, Bool, true, false, ltb, List, [], ◌∷◌, length, get_or, take, drop, set, sym, refl, ap, ◌∙◌, arith}
use Rattle.std.specs.List.{range_with_len}
use Rattle.std.proofs.lemmas.List.Sums.{sum_by-cons}
use Rattle.std.proofs.lemmas.List.{get_or-take, get_or_past, length-take, length-set, at_drop_more, at_drop_all}
use Rattle.std.proofs.lemmas.Bool.{le-ltb}
use Rattle.board.specs.Grid.{free, pick, free_count}
use Rattle.board.specs.Moves.{taken}
use Rattle.board.specs.Values.{grid_of}
use Rattle.board.specs.declared.board.Board.{Board}

-- a board's squares are the first of its array
pub within : (b : Board) (m q : ℕ) → m ≡ length (grid_of b).cells → q < m → get_or b.free q false ≡ free (grid_of b) q
unfolding grid_of
within b m q e h = sym (get_or-take _ b.free q false (omega (arith, length-take (b.width * b.height) b.free)))

-- past them none is free
pub past : (b : Board) (m q : ℕ) → m ≡ length (grid_of b).cells → m ≤ q → ltb q m ≡ free (grid_of b) q
past b m q e h = le-ltb q m h ∙ sym (get_or_past (grid_of b).cells q false (omega arith))

pub take_set : (n : ℕ) (xs : List Bool) (q : ℕ) (c : Bool) → take n (set xs q c) ≡ set (take n xs) q c
take_set zero xs q c = refl
take_set (suc n) [] q c = refl
take_set (suc n) (x ∷ xs) zero c = refl
take_set (suc n) (x ∷ xs) (suc q) c = ap (λ l. x ∷ l) (take_set n xs q c)

-- one square more is taken; ys is the array after it
pub taken_step : (n : ℕ) (xs ys : List Bool) (qs : List ℕ) (i : ℕ) {k : ℕ} {all : List Bool} → i < length qs →
    (length xs ≡ k) × (taken (take n xs) (drop i qs) ≡ all) → ys ≡ set xs (get_or qs i 0) false →
    (length ys ≡ k) × (taken (take n ys) (drop (i + 1) qs) ≡ all)
taken_step n xs ys qs i h inv e = (
  ap length e ∙ length-set xs (get_or qs i 0) false ∙ inv.0,
  ap (λ l. taken l (drop (i + 1) qs)) (ap (take n) e ∙ take_set n xs (get_or qs i 0) false) ∙ sym (at_drop_more (taken (take n xs)) qs i 0 h) ∙ inv.1,
)

pub taken_all : (cells : List Bool) (qs : List ℕ) (i : ℕ) → length qs ≤ i → taken cells (drop i qs) ≡ cells
taken_all cells qs i h = at_drop_all (taken cells) qs i h

-- the free squares from i on, counted by their places
counted_from : (cells : List Bool) (i n : ℕ) → i + n ≡ length cells → count_by (λ p. get_or cells p false) (range_with_len i n) ≡ free_count (drop i cells)
unfolding free_count
counted_from cells i zero e = sym (at_drop_all free_count cells i (omega arith))
counted_from cells i (suc n) e =
    sum_by-cons (λ p. cond (get_or cells p false) 1 0) i (range_with_len (i + 1) n)
    ∙ (λ j. pick_cond (get_or cells i false) j + counted_from cells (i + 1) n (omega arith) j)
    ∙ sym (at_drop_more free_count cells i false (omega arith))
  where
    pick_cond : (t : Bool) → ◌≡◌ {A = ℕ} (cond t 1 0) (pick t 1 0)
    pick_cond true = refl
    pick_cond false = refl

pub counted : (cells : List Bool) (n : ℕ) → n ≡ length cells → count_by (λ p. get_or cells p false) (range_with_len 0 n) ≡ free_count cells
counted cells n e = counted_from cells 0 n (omega arith)

-- The game of a board: its options, and who wins it.
use Rattle.std.proofs.Common.{◌≡◌, ℕ, zero, suc, ◌<◌, ◌≤◌, Bool, true, false, [], ◌∷◌, length, sym, refl, ap, ◌∙◌, subst, inl, inr, ⊎_elim, arith}
use Rattle.std.proofs.lemmas.Bool.{both_ways, cases_Bool, cases_order}
use Rattle.games.specs.Game.{Game, game, Games, none, more, options, In, here, there, empty}
use Rattle.games.specs.Play.{this, First, with, Second, any}
use Rattle.games.proofs.Lists.{of, in_of, of_of, in_more}
use Rattle.games.proofs.Rows.{of_move, not_first_second}
use Rattle.board.specs.Grid.{Grid, Side, other, pick, free_count}
use Rattle.board.specs.Moves.{may, laid}
use Rattle.board.specs.Rules.{Wins, by, Loses, whatever, OneOutcome}
use Rattle.board.specs.Tree.{listed, tree, TreeLaw, TreeFuel}
use Rattle.board.proofs.Outcomes.{may_below, laid_fewer, one_outcome}

-- one place more is listed, or not
in_pick : (c : Bool) (y : Game) (gs : Games) {x : Game} → In x gs → In x (pick c (more y gs) gs)
in_pick true y gs i = there i
in_pick false y gs i = i

in_picked : (c : Bool) (y : Game) (gs : Games) → c ≡ true → In y (pick c (more y gs) gs)
in_picked true y gs e = here
in_picked false y gs e = absurd (both_ways false refl e)

of_pick : (P : Game → Type 0) (c : Bool) (y : Game) (gs : Games) → (c ≡ true → P y) → ((x : Game) → In x gs → P x) → (x : Game) → In x (pick c (more y gs) gs) → P x
of_pick P true y gs p q = in_more P y gs (p refl) q
of_pick P false y gs p q = q

-- what is listed, and only that
in_listed : (f : ℕ → Bool) (g : ℕ → Game) (k p : ℕ) → p < k → f p ≡ true → In (g p) (listed f g k)
unfolding listed
in_listed f g zero p h e = absurd (omega arith)
in_listed f g (suc k) p h e =
    ⊎_elim (λ same. subst (λ m. In (g m) (pick (f k) (more (g k) (listed f g k)) (listed f g k))) (sym same) (in_picked (f k) (g k) (listed f g k) (ap f (sym same) ∙ e)))
    (⊎_elim (λ less. in_pick (f k) (g k) (listed f g k) (in_listed f g k p less e)) (λ more. absurd (omega arith))) (cases_order p k)

of_listed : (P : Game → Type 0) (f : ℕ → Bool) (g : ℕ → Game) (k : ℕ) → ((p : ℕ) → f p ≡ true → P (g p)) → (x : Game) → In x (listed f g k) → P x
unfolding listed
of_listed P f g zero each x i = elim i [ ]
of_listed P f g (suc k) each x i = of_pick P (f k) (g k) (listed f g k) (each k) (of_listed P f g k each) x i

-- games that are the same at every place that passes make the same list
listed_same : (f : ℕ → Bool) (g h : ℕ → Game) (k : ℕ) → ((p : ℕ) → f p ≡ true → g p ≡ h p) → listed f g k ≡ listed f h k
unfolding listed
listed_same f g h zero each = refl
listed_same f g h (suc k) each = go (f k) (each k) (listed_same f g h k each)
  where
    go : (c : Bool) {x y : Game} {gs hs : Games} → (c ≡ true → x ≡ y) → gs ≡ hs → pick c (more x gs) gs ≡ pick c (more y hs) hs
    go true p e = λ i. more (p refl i) (e i)
    go false p e = e

listed_none : (f : ℕ → Bool) (g : ℕ → Game) (k : ℕ) → ((p : ℕ) → f p ≡ true → ⊥) → none ≡ listed f g k
unfolding listed
listed_none f g zero never = refl
listed_none f g (suc k) never =
    ⊎_elim (λ e. absurd (never k e)) (λ e. listed_none f g k never ∙ sym (ap (λ c. pick c (more (g k) (listed f g k)) (listed f g k)) e)) (cases_Bool (f k))

-- what a side may make of a board, each to at most n more moves
abbrev after : ℕ → Grid → Side → Games
after n b s = listed (may b s) (λ p. tree n (laid b s p)) (length b.cells)

same_of : (f g : Side → Games) → ((s : Side) → f s ≡ g s) → of f ≡ of g
same_of f g each = λ i. game (each true i) (each false i)

no_moves : (n : ℕ) (b : Grid) → free_count b.cells ≤ 0 → (s : Side) → none ≡ after n b s
no_moves n b h s = listed_none (may b s) (λ p. tree n (laid b s p)) (length b.cells) (λ p e. let less = laid_fewer b s p e in omega arith)

pub tree_same : (n m : ℕ) (b : Grid) → free_count b.cells ≤ n → free_count b.cells ≤ m → tree n b ≡ tree m b
unfolding tree
tree_same zero zero b h k = refl
tree_same zero (suc m) b h k = same_of (λ s. none) (after m b) (no_moves m b h)
tree_same (suc n) zero b h k = sym (same_of (λ s. none) (after n b) (no_moves n b k))
tree_same (suc n) (suc m) b h k =
    same_of (after n b) (after m b)
    (λ s.
    listed_same (may b s) (λ p. tree n (laid b s p)) (λ p. tree m (laid b s p)) (length b.cells)
    (λ p e. let less = laid_fewer b s p e in tree_same n m (laid b s p) (omega arith) (omega arith)))

pub tree_fuel : TreeFuel
unfolding TreeFuel
tree_fuel b n m = tree_same n m b

-- the options of a board's game are the games of the boards after a move, with the same fuel
pub in_tree : (n : ℕ) (b : Grid) (s : Side) → free_count b.cells ≤ n → (p : ℕ) → may b s p ≡ true → In (tree n (laid b s p)) (options s (tree n b))
unfolding tree
in_tree zero b s enough p e = absurd (let less = laid_fewer b s p e in omega arith)
in_tree (suc n) b s enough p e =
    let less = laid_fewer b s p e in
    in_of (after n b) s (tree (suc n) (laid b s p))
    (subst (λ g. In g (after n b s)) (tree_same n (suc n) (laid b s p) (omega arith) (omega arith))
    (in_listed (may b s) (λ q. tree n (laid b s q)) (length b.cells) p (may_below b s p e) e))

pub of_tree :
    (n : ℕ) (b : Grid) (s : Side) → free_count b.cells ≤ n → (P : Game → Type 0) → ((p : ℕ) → may b s p ≡ true → P (tree n (laid b s p))) →
    (x : Game) → In x (options s (tree n b)) → P x
unfolding tree
of_tree zero b s enough P each x i = absurd (no_option s x i)
  where
    no_option : (s : Side) (x : Game) → In x (options s empty) → ⊥
    no_option true x i = elim i [ ]
    no_option false x i = elim i [ ]
of_tree (suc n) b s enough P each x i =
    of_listed P (may b s) (λ q. tree n (laid b s q)) (length b.cells)
    (λ p e. let less = laid_fewer b s p e in subst P (tree_same (suc n) n (laid b s p) (omega arith) (omega arith)) (each p e)) x
    (of_of (after n b) s x i)

-- who wins the board wins its game
mutual
  wins_first : (n : ℕ) {s : Side} {b : Grid} → Wins s b → free_count b.cells ≤ n → First s (tree n b ∷ [])
  wins_first n {s} {b} (by p m l) h =
      with (tree n (laid b s p) ∷ []) (this (in_tree n b s h p m)) (loses_second n l (let less = laid_fewer b s p m in omega arith))

  loses_second : (n : ℕ) {s : Side} {b : Grid} → Loses s b → free_count b.cells ≤ n → Second s (tree n b ∷ [])
  loses_second n {s} {b} (whatever f) h =
      any (of_move (First (other s)) (of_tree n b s h (λ x. First (other s) (x ∷ [])) (λ p m. wins_first n (f p m) (let less = laid_fewer b s p m in omega arith)))
      (λ hs m. elim m [ ]))

pub tree_law : TreeLaw
unfolding TreeLaw OneOutcome
tree_law s b n h = (
  λ w. wins_first n w h,
  λ f. elim (one_outcome s b).0 [ inl w ↦ w | inr l ↦ absurd (not_first_second f (loses_second n l h)) ],
)

-- One turn of the search: what is known of the places that it has passed.
use Rattle.std.proofs.Common.{◌≡◌, ℕ, ◌+◌, ◌<◌, ◌≤◌, true, false, length, is_some, Some, None, Option, refl, subst, arith, below_more}
use Rattle.std.proofs.lemmas.Bool.{both_ways}
use Rattle.search.specs.Answers.{answer_of}
use Rattle.board.specs.Grid.{Grid, Side, other}
use Rattle.board.specs.Moves.{may, laid}
use Rattle.board.specs.Rules.{Wins, by, Loses, whatever, lay, lost, Says}
use Rattle.board.proofs.Outcomes.{may_below, won_not_lost}

-- no place below k is good: whatever s lays there, the other side wins
abbrev pub NoneGood : Side → Grid → ℕ → Type 0
NoneGood s b k = (p : ℕ) → p < k → may b s p ≡ true → Wins (other s) (laid b s p)

-- what the search said of the board after a move, in the words of the rules
pub reply : (s : Side) (b : Grid) (k : ℕ) (t : Side) (c : Grid) (r : Option ℕ) → t ≡ other s → c ≡ laid b s k → Says t c (answer_of r) →
    (is_some r ≡ false → Loses (other s) (laid b s k)) × (is_some r ≡ true → Wins (other s) (laid b s k))
unfolding Says
reply s b k t c None e f says = (λ _. subst (λ x. Loses x (laid b s k)) e (subst (Loses t) f says), λ clash. absurd (both_ways false refl clash))
reply s b k t c (Some q) e f says = (
  λ clash. absurd (both_ways true clash refl),
  λ _. subst (λ x. Wins x (laid b s k)) e (subst (Wins t) f (by q says.0.0 says.0.1)),
)

module _ (s : Side) (b : Grid) (k : ℕ) (sofar : NoneGood s b k) where
  -- the next place may not be laid at, or the other side wins after it
  pub unlawful : may b s k ≡ false → NoneGood s b (k + 1)
  unlawful e = below_more _ k sofar (λ m. absurd (both_ways (may b s k) e m))

  pub answered : Wins (other s) (laid b s k) → NoneGood s b (k + 1)
  answered w = below_more _ k sofar (λ _. w)

  -- the next place is good
  pub found : may b s k ≡ true → Loses (other s) (laid b s k) → Says s b (lay k)
  unfolding Says
  found m l = ((m, l), λ q less g. won_not_lost (sofar q less g.0) g.1)

  -- no place is
  pub none_found : length b.cells ≤ k → Says s b lost
  unfolding Says
  none_found h = whatever (λ p m. sofar p (let low = may_below b s p m in omega arith) m)

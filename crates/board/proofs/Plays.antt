-- Who lays as a right judge tells, from a board that it wins, makes the last move.
use Rattle.std.proofs.Common.{◌≡◌, ℕ, Bool, true, false, ◌⊎◌, List, [], ◌∷◌, length, sym, refl, subst, inl, inr}
use Rattle.board.specs.Grid.{Grid, Side, other, pick}
use Rattle.board.specs.Moves.{may, laid}
use Rattle.board.specs.Rules.{Wins, by, Loses, whatever, lay, lost, Says}
use Rattle.board.specs.Play.{Told, told, refused, Judge, Right, anywhere, End, last, unjudged, short, closing, heard, goes, PlayWins}
use Rattle.board.proofs.Outcomes.{won_not_lost}

-- how a play that s wins may end
abbrev Fine : Side → End → Type 0
Fine s e = (e ≡ short → ⊥) → (e ≡ last s) ⊎ (e ≡ unjudged)

fine_closing : (s : Side) (b : Grid) → Fine s (closing s b)
fine_closing s b = go (anywhere b (other s) (length b.cells))
  where
    go : (c : Bool) → Fine s (pick c short (last s))
    go true ended = absurd (ended refl)
    go false ended = inl refl

-- a choice between two ends is fine if both are
fine_pick : (s : Side) (c : Bool) (d e : End) → (c ≡ true → Fine s d) → Fine s e → Fine s (pick c d e)
fine_pick s true d e p q = p refl
fine_pick s false d e p q = q

twice : (s : Side) → other (other s) ≡ s
twice true = refl
twice false = refl

-- after the reply s is to move again, and wins
won_again : (s : Side) (c : Grid) (r : ℕ) → Loses (other s) c → may c (other s) r ≡ true → Wins s (laid c (other s) r)
won_again s c r (whatever f) m = subst (λ t. Wins t (laid c (other s) r)) (twice s) (f r m)

module _ (j : Judge) (right : Right j) (s : Side) where
  -- on a board that s wins it is told a place that leaves the other side lost, or the board is refused
  fine_heard :
      (b : Grid) (on : Grid → End) → Wins s b → ((p : ℕ) → Loses (other s) (laid b s p) → Fine s (on (laid b s p))) → Fine s (heard (j s b) s b on)
  unfolding Right Says
  fine_heard b on won each = go (j s b) refl
    where
      go : (t : Told) → j s b ≡ t → Fine s (heard t s b on)
      go refused e = λ ended. inr refl
      go (told lost) e = λ ended. absurd (won_not_lost won (right s b lost e))
      go (told (lay p)) e =
          let good = (right s b (lay p) e).0 in
          subst (λ c. Fine s (pick c (on (laid b s p)) (last (other s)))) (sym good.0) (each p good.1)

  fine_goes : (rs : List ℕ) (b : Grid) → Wins s b → Fine s (goes j s rs b)
  unfolding goes
  fine_goes [] b won = fine_heard b (λ c. closing s c) won (λ p l. fine_closing s (laid b s p))
  fine_goes (r ∷ rs) b won =
      fine_heard b (λ c. pick (may c (other s) r) (goes j s rs (laid c (other s) r)) (closing s c)) won
      (λ p l.
      let c = laid b s p in
      fine_pick s (may c (other s) r) (goes j s rs (laid c (other s) r)) (closing s c)
      (λ m. fine_goes rs (laid c (other s) r) (won_again s c r l m)) (fine_closing s c))

pub play_wins : PlayWins
unfolding PlayWins Right Says
play_wins j right s b p e rs = let good = (right s b (lay p) e).0 in fine_goes j right s rs b (by p good.0 good.1)

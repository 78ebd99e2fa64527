-- A whole play in which one side lays as it is told.
use Rattle.std.specs.Prelude.{◌≡◌, ℕ, zero, suc, Bool, true, false, ◌||◌, ◌⊎◌, List, [], ◌∷◌, length, ◌≢◌}
use Rattle.board.specs.Grid.{Grid, Side, other, pick}
use Rattle.board.specs.Moves.{may, laid}
use Rattle.board.specs.Rules.{Answer, lay, lost, Says}
use Rattle.board.specs.Tree.{two_by_two, three_by_three}

-- what is heard of a judge: an answer, or that the board is refused
pub data Told : Type 0 where
  told : Answer → Told
  refused : Told

-- a judge tells each side on each board something
abbrev pub Judge : Type 0
Judge = Side → Grid → Told

-- each answer is the verdict that the rules give
unfoldable pub Right : Judge → Type 0
Right j = (s : Side) (b : Grid) (x : Answer) → j s b ≡ told x → Says s b x

-- may side s lay at some place below k
unfoldable pub anywhere : Grid → Side → ℕ → Bool
anywhere b s zero = false
anywhere b s (suc k) = may b s k || anywhere b s k

-- how a play ends: who made the last lawful move; with a board that is refused; or short of its end, since a reply is wanting or may not be laid
pub data End : Type 0 where
  last : Side → End
  unjudged : End
  short : End

-- s has laid, and no lawful reply is at hand: the play is at its end if there is none
abbrev pub closing : Side → Grid → End
closing s b = pick (anywhere b (other s) (length b.cells)) short (last s)

-- s lays as told, and then the play goes on; told that it has lost, or a place where it may not lay, s leaves the last move to the other side
abbrev pub heard : Told → Side → Grid → (Grid → End) → End
heard refused s b on = unjudged
heard (told lost) s b on = last (other s)
heard (told (lay p)) s b on = pick (may b s p) (on (laid b s p)) (last (other s))

-- side s, to move, lays as the judge tells it, and the other side replies by the places of a list
unfoldable pub goes : Judge → Side → List ℕ → Grid → End
goes j s [] b = heard (j s b) s b (λ c. closing s c)
goes j s (r ∷ rs) b = heard (j s b) s b (λ c. pick (may c (other s) r) (goes j s rs (laid c (other s) r)) (closing s c))

-- who is told a place and goes on as told makes the last lawful move, whatever the replies to the end of the play, unless a board on the way is refused
unfoldable pub PlayWins : Type 0
PlayWins =
    (j : Judge) → Right j → (s : Side) (b : Grid) (p : ℕ) → j s b ≡ told (lay p) →
    (rs : List ℕ) → (goes j s rs b ≢ short) → (goes j s rs b ≡ last s) ⊎ (goes j s rs b ≡ unjudged)

-- how plays may end: on two by two whoever lays first makes the last move; on three by three a reply is wanting; a board is refused
pub record Plays : Type 0 where
  pub at_once : (s : Side) → goes (λ t b. told (lay 0)) s [] two_by_two ≡ last s
  pub wanting : goes (λ t b. told (lay 1)) true [] three_by_three ≡ short
  pub without_answer : (s : Side) (b : Grid) → goes (λ t c. refused) s [] b ≡ unjudged

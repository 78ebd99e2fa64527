-- A form that tells of a board, compared with form 0, says who has lost on it.
use Rattle.std.proofs.Common.{ℕ, ◌<◌, Bool, true, false, List, length, MatchBool, subst, ⊎_elim}
use Rattle.games.specs.Game.{Game, empty}
use Rattle.games.specs.Order.{Worse, NotWorse}
use Rattle.games.specs.Count.{Ahead}
use Rattle.games.proofs.Sides.{worse_not_both}
use Rattle.board.specs.Grid.{Side}
use Rattle.board.specs.Rules.{OneOutcome}
use Rattle.board.proofs.Outcomes.{one_outcome}
use Rattle.forms.specs.declared.rows.Form.{Form}
use Rattle.forms.specs.Meaning.{meaning}
use Rattle.forms.specs.Soundness.{Sound}
use Rattle.forms.specs.Laws.{FirstEmpty}
use Rattle.forms.proofs.Numbers.{first_empty}
use Rattle.verdict.specs.Worths.{LostAnswer}

-- by comparing with the empty game
pub lost_or_wins : (s : Side) (t : Game) (r : Bool) → MatchBool r (Worse s t empty) (Ahead s t) → LostAnswer s t r
unfolding OneOutcome
lost_or_wins s t true w b tells = ⊎_elim (λ win. absurd (worse_not_both s t empty w ((tells s).0 win))) (λ l. l) (one_outcome s b).0
lost_or_wins s t false a b tells = (tells s).1 a

-- by comparing with form 0
pub by_first : (fs : List Form) (os : List ℕ) → Sound fs os → 0 < length fs → (s : Side) (t : Game) (r : Bool) →
    MatchBool r (Worse s t (meaning fs os 0)) (NotWorse s t (meaning fs os 0)) → LostAnswer s t r
unfolding FirstEmpty
by_first fs os sound some s t r w = lost_or_wins s t r (subst (λ z. MatchBool r (Worse s t z) (NotWorse s t z)) (first_empty fs os sound some) w)

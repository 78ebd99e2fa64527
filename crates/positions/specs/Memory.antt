-- What is remembered of the positions of a room: for each set 0, or one more than the number of its form.
use Rattle.std.specs.Prelude.{◌≡◌, ℕ, suc, ◌-◌, ◌<◌, List, take, slice_index}
use Rattle.games.specs.Game.{Side, Game, options, In}
use Rattle.games.specs.Order.{Equal}
use Rattle.forms.specs.declared.rows.Form.{Form}
use Rattle.forms.specs.Meaning.{meaning}
use Rattle.forms.specs.Rows.{Rising}
use Rattle.std.specs.List.{ContainsAt as Has}
use Rattle.positions.specs.Reach.{Moves, set_at, Can, Leads}

-- games of sets of squares: the options of each are the games of what the moves leave of it
pub record Family (n : ℕ) (ms : Moves) (game : ℕ → Game) : Type 0 where
  pub to : (set : ℕ) (s : Side) (i : ℕ) → Can n ms set s i → In (game (set - set_at ms s i)) (options s (game set))
  pub from : (set : ℕ) (s : Side) (x : Game) → In x (options s (game set)) → (i : ℕ) × Can n ms set s i × (x ≡ game (set - set_at ms s i))

-- a game is equal to that of a set to which moves lead from the full one
abbrev pub OfSet : ℕ → Moves → (ℕ → Game) → ℕ → Game → Type 0
OfSet n ms game full f = (set : ℕ) × Leads n ms full set × Equal f (game set)

-- something is remembered of a set
abbrev pub Noted : List ℕ → ℕ → Type 0
Noted ps set = slice_index ps set ≡ 0 → ⊥

-- what is remembered is right, and with a set all that a move makes of it is remembered
pub record Remembers (n : ℕ) (ms : Moves) (game : ℕ → Game) (full : ℕ) (fs : List Form) (os : List ℕ) (used : ℕ) (ps : List ℕ) : Type 0 where
  pub known : (set k : ℕ) → slice_index ps set ≡ suc k → k < used
  pub reached : (set : ℕ) → Noted ps set → Leads n ms full set
  pub right : (set k : ℕ) → slice_index ps set ≡ suc k → Equal (meaning (take used fs) os k) (game set)
  pub closed : (set : ℕ) → Noted ps set → (s : Side) (i : ℕ) → Can n ms set s i → Noted ps (set - set_at ms s i)

-- the forms of what a side's moves at the first squares make of a set
pub record Row (n : ℕ) (ms : Moves) (game : ℕ → Game) (set : ℕ) (s : Side) (k : ℕ) (fs : List Form) (os : List ℕ) (used : ℕ) (ps row : List ℕ) : Type 0 where
  pub rising : Rising row
  pub known : (w : ℕ) → Has row w → w < used
  pub right : (w : ℕ) → Has row w → (i : ℕ) × Can n ms set s i × Equal (meaning (take used fs) os w) (game (set - set_at ms s i))
  pub all : (i : ℕ) → i < k → Can n ms set s i → Noted ps (set - set_at ms s i) × ((w : ℕ) × Has row w × Equal (meaning (take used fs) os w) (game (set - set_at ms s i)))

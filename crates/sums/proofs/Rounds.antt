-- One round of the walk along the rooms of a board.
use Rattle.sums.specs.Sums.{Stopped, HoldsRight}
use Rattle.sums.specs.Values.{SameMemory}
use Rattle.sums.specs.Held.{Adding}
use Rattle.sums.specs.declared.memory.Memory.{Memory}
use Rattle.std.proofs.Common.{◌≡◌, ℕ, ◌+◌, ◌<◌, List, [], ◌∷◌, ◌++◌, map, length, get_or, take, Err, sym, refl, ap, ◌∙◌, subst, arith}
use Rattle.std.proofs.lemmas.List.{take_more, length-map, get_or-map}
use Rattle.games.specs.Game.{Game, empty}
use Rattle.games.specs.Count.{Met, Between}
use Rattle.board.specs.Grid.{Grid}
use Rattle.rooms.specs.Games.{games_of}
use Rattle.rooms.specs.Values.{squares_of}
use Rattle.rooms.specs.declared.room.Room.{Room as OneRoom}
use Rattle.forms.specs.declared.rows.Form.{Form}
use Rattle.forms.specs.Meaning.{meaning}
use Rattle.canonical.specs.declared.canonical.Refusal.{Refusal}
use Rattle.sums.specs.Rows.{room_game, Joined}
use Rattle.sums.specs.Counting.{InRow, RoomsAnswer}
use Rattle.sums.proofs.Gathering.{sums_same, sums_same_on}
use Rattle.sums.proofs.Wider.{stopped_as}
use Rattle.sums.proofs.Lining.{row_more, row_stopped, met_all}
use Rattle.sums.proofs.Counted.{row_refused}

-- the room at hand is that of the list
pub at_room : (rooms : List OneRoom) (rs : List (List ℕ)) → map squares_of rooms ≡ rs → (i : ℕ) (x : OneRoom) → i < length rooms → x ≡ get_or rooms i x → (i < length rs) × (get_or rs i [] ≡ squares_of x)
at_room rooms rs e i x h is =
    let long : length (map squares_of rooms) ≡ length rs = ap length e in
    let same = length-map rooms squares_of in
    (omega arith, ap (λ l. get_or l i []) (sym e) ∙ get_or-map squares_of rooms i x [] h ∙ ap squares_of (sym is))

module _ (b : Grid) (rs : List (List ℕ)) (i : ℕ) (low : i < length rs) (fs : List Form) (os : List ℕ) (n : ℕ) (gs : List Form) (ps : List ℕ) (sum : ℕ) (owns : List ℕ) (u : ℕ)
    (before : InRow b (take i rs) fs os n gs ps sum owns u) (c : Grid) (q : List ℕ) (board : c ≡ b) (room : get_or rs i [] ≡ q) where
  -- the sum so far
  abbrev T : Game
  T = meaning (take u gs) ps sum

  next_rooms : take (i + 1) rs ≡ take i rs ++ q ∷ []
  next_rooms = take_more rs i [] low ∙ ap (λ r. take i rs ++ r ∷ []) room

  pub round_more : (hs : List Form) (qs : List ℕ) (own next v : ℕ) (items : List ℕ) → items ≡ owns ++ own ∷ [] → Joined T c q gs ps u hs qs own next v → InRow b (take (i + 1) rs) fs os n hs qs next items v
  round_more hs qs own next v items same j =
      subst (λ l. InRow b l fs os n hs qs next items v) (sym next_rooms)
      (subst (λ l. InRow b (take i rs ++ q ∷ []) fs os n hs qs next l v) (sym same)
      (row_more b (take i rs) fs os n gs ps sum owns u before q hs qs own next v (subst (λ d. Joined T d q gs ps u hs qs own next v) board j)))

  pub round_stopped : (hs : List Form) (qs : List ℕ) (v : ℕ) (is : List ℕ) (e : Refusal) → Stopped (Between T (room_game c q)) gs ps u hs qs e → RoomsAnswer b rs fs os n hs qs v is (Err e)
  round_stopped hs qs v is e s =
      row_refused b rs fs os n hs qs v is e
      (stopped_as (Met empty (games_of b (take (i + 1) rs))) (Met empty (games_of b rs)) (met_all b (i + 1) rs) fs os n hs qs e
      (subst (λ l. Stopped (Met empty (games_of b l)) fs os n hs qs e) (sym next_rooms)
      (row_stopped b (take i rs) fs os n gs ps sum owns u before q hs qs e (subst (λ d. Stopped (Between T (room_game d q)) gs ps u hs qs e) board s))))

-- the rooms so far stand in a row, and what is remembered of pairs is right
abbrev pub RowSoFar : Grid → List (List ℕ) → Adding → Adding → ℕ → List ℕ → Type 0
RowSoFar b rs s t sum owns =
    InRow b rs s.table.forms.now s.table.options.now s.table.used t.table.forms.now t.table.options.now sum owns t.table.used
    × HoldsRight t.table.forms.now t.table.options.now t.table.used t.pairs.now

-- memory that stays in its rows, and stays in them
pub memory_same : (m : Memory) → SameMemory m m
memory_same m = record { sums = sums_same m.sums; positions = refl; sets = refl }

pub memory_same_on : {m k l : Memory} → SameMemory m k → SameMemory k l → SameMemory m l
memory_same_on a b = record { sums = sums_same_on a.sums b.sums; positions = b.positions ∙ a.positions; sets = b.sets ∙ a.sets }

-- The worth of a board from its row of rooms, and boards that are past the limits.
use Rattle.std.proofs.Common.{◌≡◌, ℕ, ◌<◌, List, length, Err, ◌∙◌, subst, inl, inr, ⊎_elim, arith}
use Rattle.games.specs.Game.{Game}
use Rattle.games.specs.Count.{Member, Count, Wide, OneCount}
use Rattle.games.proofs.Counting.{one_count}
use Rattle.board.specs.Grid.{Grid}
use Rattle.rooms.specs.Games.{games_of}
use Rattle.rooms.specs.Rooms.{Rooms, OneList}
use Rattle.rooms.proofs.Reach.{one_list}
use Rattle.forms.specs.declared.rows.Form.{Form}
use Rattle.canonical.specs.declared.canonical.Refusal.{Refusal}
use Rattle.canonical.specs.declared.canonical.Refusal.TheVariants.{Full, Wide as TooWide, NoMemory}
use Rattle.sums.specs.Counting.{RowIsFormed, RoomsAnswer}
use Rattle.sums.specs.Sums.{HoldsRight}
use Rattle.sums.specs.Held.{Adding}
use Rattle.verdict.specs.Limits.{Over}
use Rattle.verdict.specs.Worths.{Worth, WorthAnswer, failure_of}

module _ (b : Grid) (rs : List (List ℕ)) (rooms : Rooms b rs) where
  -- a form that is too wide
  pub over_wide : (n : ℕ) → (f : Game) × Member (games_of b rs) f × Wide 16 f → Over n b
  unfolding Over
  over_wide n w = (rs, rooms, inr w)

  -- every count is above the limit
  pub over_count : (n : ℕ) → ((m : ℕ) → Count (games_of b rs) m → n < m) → Over n b
  unfolding Over OneCount
  over_count n above = let c = one_count (games_of b rs) in (rs, rooms, inl (c.0, c.1, above c.0 c.1))

  -- neither
  pub not_over :
      (n : ℕ) → ((m : ℕ) → Count (games_of b rs) m → n < m → ⊥) → ((f : Game) → Member (games_of b rs) f → Wide 16 f → ⊥) → Over n b → ⊥
  unfolding Over OneList
  not_over n most narrow o =
      let same = one_list b o.0 rs o.1 rooms in
      ⊎_elim
      (λ x. most x.0 (subst (λ l. Count (games_of b l) x.0) same x.1) x.2)
      (λ x. narrow x.0 (subst (λ l. Member (games_of b l) x.0) same x.1) x.2)
      o.2

  module _ (fs : List Form) (os : List ℕ) (n : ℕ) (gs : List Form) (ps : List ℕ) where
    -- the row of rooms was formed, in a table of as many places
    pub worth_formed :
        (es : List Form) → length fs ≡ length es → (qs : List ℕ) (sum : ℕ) (owns : List ℕ) (u : ℕ) → RowIsFormed b rs fs os n gs ps sum owns u × HoldsRight gs ps u qs →
        Worth b rs es gs ps qs sum owns u
    worth_formed es same qs sum owns u x =
        let row = x.0.row in
        let grows = row.grows in
        record {
          table = grows.table;
          long = grows.long ∙ same;
          pairs = x.1;
          known = row.known;
          tells = x.0.tells;
          own = row.own;
          within = not_over (length es) (λ m c h. let k = x.0.most m c in let w = grows.table.within in let l = grows.long in omega arith) x.0.narrow;
        }

    -- it was not, though the table was new
    pub worth_refused :
        (m k : Adding) → length fs ≡ length m.table.forms.now → n ≡ 1 → (u : ℕ) (qs : List ℕ) (e : Refusal) → RoomsAnswer b rs fs os n gs ps u qs (Err e) →
        WorthAnswer b rs m k (Err (failure_of e))
    worth_refused m k same one u qs Full x = over_count (length m.table.forms.now) (λ c h. let above = x.above one c h in omega arith)
    worth_refused m k same one u qs TooWide x = over_wide (length m.table.forms.now) x
    worth_refused m k same one u qs NoMemory x = tt

    -- it was not, since a form is too wide
    pub worth_wide : (m u : ℕ) (qs : List ℕ) (e : Refusal) → e ≡ TooWide → RoomsAnswer b rs fs os n gs ps u qs (Err e) → Over m b
    worth_wide m u qs e is x = over_wide m (subst (λ r. RoomsAnswer b rs fs os n gs ps u qs (Err r)) is x)

-- Tables that grew by one kind of games grew by every wider one; and so it is where the growth was stopped.
use Rattle.std.proofs.Common.{ℕ, ◌<◌, List, length, take, subst}
use Rattle.games.specs.Game.{Side, Game, options, In, onward}
use Rattle.games.specs.Sum.{SumTurns}
use Rattle.games.specs.Count.{Between}
use Rattle.games.proofs.Sums.{sum_turns}
use Rattle.forms.specs.declared.rows.Form.{Form}
use Rattle.forms.specs.Meaning.{meaning}
use Rattle.forms.specs.Links.{Table}
use Rattle.canonical.specs.declared.canonical.Refusal.{Refusal}
use Rattle.canonical.specs.declared.canonical.Refusal.TheVariants.{Full, Wide, NoMemory}
use Rattle.positions.specs.Growing.{Grows}
use Rattle.positions.proofs.Growth.{grows_on, overfull_on, grows_as, grows_meaning}
use Rattle.sums.specs.Sums.{Stopped}
use Rattle.sums.specs.Steps.{Grew}

-- what lies between an option of g and h, lies between g and h
pub between_one : (s : Side) (g h y : Game) → In y (options s g) → (f : Game) → Between y h f → Between g h f
between_one s g h y i f b = (b.0, b.1, b.2, onward s i b.3, b.4, b.5, b.6)

-- and the order of the two does not matter
pub between_turned : (g h f : Game) → Between h g f → Between g h f
unfolding SumTurns
between_turned g h f b = (b.1, b.0, b.2, b.4, b.3, sum_turns b.0 b.1 b.2 b.5, b.6)

-- why growth by one kind was stopped is why growth by a wider one was
pub stopped_as : (A B : Game → Type 0) → ((f : Game) → A f → B f) → (fs : List Form) (os : List ℕ) (n : ℕ) (gs : List Form) (ps : List ℕ) (e : Refusal) →
    Stopped A fs os n gs ps e → Stopped B fs os n gs ps e
stopped_as A B wider fs os n gs ps Full o =
    record { grows = grows_as A B wider fs os n gs ps (length fs) o.grows; game = o.game; kind = wider o.game o.kind; apart = o.apart }
stopped_as A B wider fs os n gs ps Wide w = record { form = w.form; canonical = w.canonical; kind = wider w.form w.kind; wide = w.wide }
stopped_as A B wider fs os n gs ps NoMemory u = u

-- growth, and then a stop
pub stopped_on : (B : Game → Type 0) (fs : List Form) (os : List ℕ) (n : ℕ) (gs : List Form) (qs : List ℕ) (u : ℕ) (hs : List Form) (ps : List ℕ) (e : Refusal) →
    Grows B fs os n gs qs u → Stopped B gs qs u hs ps e → Stopped B fs os n hs ps e
stopped_on B fs os n gs qs u hs ps Full g o = overfull_on B fs os n gs qs u hs ps g o
stopped_on B fs os n gs qs u hs ps Wide g w = w
stopped_on B fs os n gs qs u hs ps NoMemory g u' = u'

pub grew_as : (A B : Game → Type 0) → ((f : Game) → A f → B f) → (fs : List Form) (os : List ℕ) (n : ℕ) (gs : List Form) (qs : List ℕ) (u : ℕ) (rs : List ℕ) →
    Grew A fs os n gs qs u rs → Grew B fs os n gs qs u rs
grew_as A B wider fs os n gs qs u rs a = record { grows = grows_as A B wider fs os n gs qs u a.grows; holds = a.holds }

module _ (B : Game → Type 0) (fs : List Form) (os : List ℕ) (n : ℕ) (gs : List Form) (qs : List ℕ) (u : ℕ) where
  pub grew_on : (rs : List ℕ) (hs : List Form) (ws : List ℕ) (v : ℕ) (ts : List ℕ) → Grew B fs os n gs qs u rs → Grew B gs qs u hs ws v ts → Grew B fs os n hs ws v ts
  grew_on rs hs ws v ts a b = record { grows = grows_on B fs os n gs qs u hs ws v a.grows b.grows; holds = b.holds }

  -- what holds of the games of two old forms, holds of what they were
  pub as_before : (P : Game → Game → Type 0) (x y : ℕ) → Table fs os n → Grows B fs os n gs qs u → x < n → y < n →
      P (meaning (take u gs) qs x) (meaning (take u gs) qs y) → P (meaning (take n fs) os x) (meaning (take n fs) os y)
  as_before P x y table grows p q h =
      subst (λ k. P (meaning (take n fs) os x) k) (grows_meaning B fs os n gs qs u table grows y q)
      (subst (λ k. P k (meaning (take u gs) qs y)) (grows_meaning B fs os n gs qs u table grows x p) h)

-- Rows of sums, grown form by form.
use Rattle.std.proofs.Common.{◌≡◌, ℕ, ◌+◌, ◌<◌, ◌⊎◌, List, length, get_or, take, Ok, sym, refl, ap, ◌∙◌, subst, inl, inr, ⊎_elim, arith, below_more}
use Rattle.std.specs.List.{ContainsAt as Has}
use Rattle.games.specs.Game.{Side, Game, options, In}
use Rattle.games.specs.Count.{Between}
use Rattle.forms.specs.declared.rows.Form.{Form}
use Rattle.forms.specs.Rows.{row_of}
use Rattle.forms.specs.Meaning.{meaning}
use Rattle.forms.specs.Links.{Table}
use Rattle.forms.proofs.Chains.{use_length}
use Rattle.forms.proofs.Compared.{option_at}
use Rattle.forms.proofs.Meanings.{from_row}
use Rattle.forms.proofs.Places.{option_below}
use Rattle.canonical.specs.Reducing.{Inserted}
use Rattle.canonical.specs.declared.canonical.Refusal.{Refusal}
use Rattle.positions.specs.Growing.{Grows}
use Rattle.positions.proofs.Growth.{grows_as, grows_far, grows_meaning, grows_on}
use Rattle.forms.specs.Held.{Lent}
use Rattle.forms.specs.Values.{IsTable, in_use, game_in}
use Rattle.forms.proofs.Growing.{same_on}
use Rattle.sums.specs.Held.{Adding}
use Rattle.sums.specs.Values.{SameSums}
use Rattle.sums.specs.Sums.{Adds, Stopped, SumAnswer, SummedUp, HoldsRight}
use Rattle.sums.specs.Steps.{RowKnown, Grew, MovesIn}
use Rattle.sums.proofs.Wider.{between_one, stopped_on, as_before, stopped_as}

-- the game of option number i of form x for a side
abbrev pub option_of : List Form → List ℕ → Side → ℕ → ℕ → Game
option_of fs os s x i = meaning fs os (get_or (row_of fs os s x) i 0)

-- a row after the forms of the sums of the first k of some games with h were put in
pub record Gathered (games : ℕ → Game) (k : ℕ) (h : Game) (fs : List Form) (os : List ℕ) (n : ℕ) (row new : List ℕ) : Type 0 where
  pub sound : RowKnown n new
  pub stays : (w : ℕ) → Has row w → Has new w
  pub right : (w : ℕ) → Has new w → Has row w ⊎ ((i : ℕ) × (i < k) × Adds (games i) h (meaning (take n fs) os w))
  pub all : (i : ℕ) → i < k → (w : ℕ) × Has new w × Adds (games i) h (meaning (take n fs) os w)

module _ (games : ℕ → Game) (h : Game) where
  pub gathered_none : (fs : List Form) (os : List ℕ) (n : ℕ) (row : List ℕ) → RowKnown n row → Gathered games 0 h fs os n row row
  gathered_none fs os n row known = record { sound = known; stays = λ w has. has; right = λ w has. inl has; all = λ i low. absurd (omega arith) }

  -- a row stays right while the table grows
  gathered_kept : (B : Game → Type 0) (k : ℕ) (fs : List Form) (os : List ℕ) (n : ℕ) (gs : List Form) (qs : List ℕ) (u : ℕ) (row new : List ℕ) →
      Table fs os n → Grows B fs os n gs qs u → Gathered games k h fs os n row new → Gathered games k h gs qs u row new
  gathered_kept B k fs os n gs qs u row new table grows j = record {
    sound = record { rising = j.sound.rising; known = λ w has. let far = grows_far B fs os n gs qs u table grows in let low = j.sound.known w has in omega arith };
    stays = j.stays;
    right = λ w has. ⊎_elim (λ old. inl old) (λ a. inr (a.0, a.1, later w has a.0 a.2)) (j.right w has);
    all = λ i low. let a = j.all i low in (a.0, a.1, later a.0 a.1 i a.2);
  }
    where
      later : (w : ℕ) → Has new w → (i : ℕ) → Adds (games i) h (meaning (take n fs) os w) → Adds (games i) h (meaning (take u gs) qs w)
      later w has i a = subst (λ f. Adds (games i) h f) (sym (grows_meaning B fs os n gs qs u table grows w (j.sound.known w has))) a

  -- one more form in the row
  gathered_more : (k : ℕ) (fs : List Form) (os : List ℕ) (n : ℕ) (row new newer : List ℕ) (x : ℕ) → x < n → Adds (games k) h (meaning (take n fs) os x) →
      Gathered games k h fs os n row new → Inserted new x newer → Gathered games (k + 1) h fs os n row newer
  gathered_more k fs os n row new newer x low adds j ins = record {
    sound = record { rising = ins.rising; known = λ w has. ⊎_elim (λ old. j.sound.known w old) (λ same. omega arith) (ins.only w has) };
    stays = λ w has. ins.stays w (j.stays w has);
    right = λ w has.
        ⊎_elim
        (λ old. ⊎_elim (λ first. inl first) (λ a. inr (a.0, (let l = a.1 in omega arith), a.2)) (j.right w old))
        (λ same. inr (k, omega arith, subst (λ v. Adds (games k) h (meaning (take n fs) os v)) (sym same) adds))
        (ins.only w has);
    all = below_more (λ i. (w : ℕ) × Has newer w × Adds (games i) h (meaning (take n fs) os w)) k
        (λ i l. let a = j.all i l in (a.0, ins.stays a.0 a.1, a.2)) (x, ins.has, adds);
  }

-- the options of form x for a side, each with form y
module _ (fs : List Form) (os : List ℕ) (n : ℕ) (s : Side) (x y : ℕ) (table : Table fs os n) (first : x < n) (second : y < n) where
  within : x < length (take n fs)
  within = let l = use_length fs os n table in omega arith

  -- an option is below its form
  pub below : (i : ℕ) → i < length (row_of (take n fs) os s x) → get_or (row_of (take n fs) os s x) i 0 < x
  below i less = option_below (take n fs) os s x table.sound within (row_of (take n fs) os s x) refl i less

  -- its row stays while the table grows
  pub row_same : (B : Game → Type 0) (gs : List Form) (qs : List ℕ) (u : ℕ) → Grows B fs os n gs qs u → (xs : List ℕ) → xs ≡ row_of (take u gs) qs s x →
      xs ≡ row_of (take n fs) os s x
  row_same B gs qs u grows xs e = e ∙ grows.kept.rows s x within

  module _ (gs : List Form) (qs : List ℕ) (u : ℕ) (rs : List ℕ) (i : ℕ)
      (grew : Grew (Between (meaning (take n fs) os x) (meaning (take n fs) os y)) fs os n gs qs u rs) (less : i < length (row_of (take n fs) os s x))
      (o : ℕ) (at : o ≡ get_or (row_of (take n fs) os s x) i 0) (hs : List Form) (ws : List ℕ) where
    abbrev B : Game → Type 0
    B = Between (meaning (take n fs) os x) (meaning (take n fs) os y)

    wider : (f : Game) → Between (meaning (take n fs) os o) (meaning (take n fs) os y) f → B f
    wider =
        between_one s (meaning (take n fs) os x) (meaning (take n fs) os y) (meaning (take n fs) os o)
        (subst (λ k. In (meaning (take n fs) os k) (options s (meaning (take n fs) os x))) (sym at)
        (option_at (take n fs) os table.sound s x within (row_of (take n fs) os s x) refl i less))

    low : o < n
    low = let b = below i less in omega arith

    -- one more option joins
    pub step_more : (ts row new newer : List ℕ) (a v : ℕ) → Gathered (option_of (take n fs) os s x) i (meaning (take n fs) os y) gs qs u row new →
        SummedUp gs qs u o y hs ws v ts (Ok a) → Inserted new a newer →
        Grew B fs os n hs ws v ts × Gathered (option_of (take n fs) os s x) (i + 1) (meaning (take n fs) os y) hs ws v row newer
    step_more ts row new newer a v gathered summed ins = (
      record { grows = grows_on B fs os n gs qs u hs ws v grew.grows grown; holds = found.3 },
      gathered_more (option_of (take n fs) os s x) (meaning (take n fs) os y) i hs ws v row new newer a found.1
          (subst (λ k. Adds (meaning (take n fs) os k) (meaning (take n fs) os y) (meaning (take v hs) ws a)) at found.2)
          (gathered_kept (option_of (take n fs) os s x) (meaning (take n fs) os y) B i gs qs u hs ws v row new grew.grows.table grown gathered) ins,
    )
      where
        found : SumAnswer (meaning (take n fs) os o) (meaning (take n fs) os y) gs qs u hs ws v ts (Ok a)
        found = as_before B fs os n gs qs u (λ g h. SumAnswer g h gs qs u hs ws v ts (Ok a)) o y table grew.grows low second summed

        grown : Grows B gs qs u hs ws v
        grown = grows_as (Between (meaning (take n fs) os o) (meaning (take n fs) os y)) B wider gs qs u hs ws v found.0

    -- or has no sum
    pub step_fails : (e : Refusal) → Stopped (Between (meaning (take u gs) qs o) (meaning (take u gs) qs y)) gs qs u hs ws e → Stopped B fs os n hs ws e
    step_fails e failed =
        stopped_on B fs os n gs qs u hs ws e grew.grows
        (stopped_as (Between (meaning (take n fs) os o) (meaning (take n fs) os y)) B wider gs qs u hs ws e
        (as_before B fs os n gs qs u (λ g h. Stopped (Between g h) gs qs u hs ws e) o y table grew.grows low second failed))

  -- when all have gathered, all moves in x are there
  pub step_all : (gs : List Form) (qs : List ℕ) (u : ℕ) (row new : List ℕ) (k : ℕ) → k ≡ length (row_of (take n fs) os s x) →
      Gathered (option_of (take n fs) os s x) k (meaning (take n fs) os y) gs qs u row new → MovesIn s (meaning (take n fs) os x) (meaning (take n fs) os y) gs qs u row new
  step_all gs qs u row new k end j = record {
    sound = j.sound;
    stays = j.stays;
    right = λ w has.
        ⊎_elim (λ old. inl old)
        (λ a. inr (
          option_of (take n fs) os s x a.0,
          option_at (take n fs) os table.sound s x within (row_of (take n fs) os s x) refl a.0 (let l = a.1 in omega arith),
          a.2,
        ))
        (j.right w has);
    all = λ z i.
        let o = from_row (take n fs) os table.sound s x within z i in
        let a = j.all o.1.0 (let l = o.1.1 in omega arith) in
        (a.0, a.1, subst (λ f. Adds f (meaning (take n fs) os y) (meaning (take u gs) qs a.0)) (ap (meaning (take n fs) os) (o.1.2 0) ∙ o.2) a.2);
  }

-- the moves of a side at the first options of x have been made beside y
abbrev pub Stepping : Side → ℕ → ℕ → Adding → List ℕ → ℕ → Adding → List ℕ → Type 0
Stepping side x y s row i t new =
    Grew (Between (game_in s.table x) (game_in s.table y)) s.table.forms.now s.table.options.now s.table.used t.table.forms.now t.table.options.now t.table.used t.pairs.now
    × Gathered (option_of (in_use s.table) s.table.options.now side x) i (game_in s.table y) t.table.forms.now t.table.options.now t.table.used row new

pub sums_same : (s : Adding) → SameSums s s
sums_same s = record { table = record { forms = refl; options = refl; places = refl; space = refl }; pairs = refl; slots = refl }

-- sums that stay in their rows, and stay in them
pub sums_same_on : {s t u : Adding} → SameSums s t → SameSums t u → SameSums s u
sums_same_on a b = record { table = same_on a.table b.table; pairs = b.pairs ∙ a.pairs; slots = b.slots ∙ a.slots }

-- what the types keep: the lent rows are a table, and what is remembered of pairs is right in it
pub record AreRight (s : Adding) : Type 0 where
  pub table : IsTable s.table
  pub pairs : HoldsRight s.table.forms.now s.table.options.now s.table.used s.pairs.now

-- it holds of a value whose parts were seen
pub right_of : {s : Adding} {t : Lent} {u : Adding} → IsTable t → t ≡ s.table → HoldsRight s.table.forms.now s.table.options.now s.table.used s.pairs.now → s ≡ u → AreRight u
right_of {s} {t} table view holds same = subst AreRight same (record { table = subst IsTable view table; pairs = holds })

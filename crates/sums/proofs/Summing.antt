-- The sum of two forms from the rows of the moves in them.
use Rattle.std.proofs.Common.{◌≡◌, ℕ, ◌<◌, ◌≤◌, true, false, ◌⊎◌, List, [], length, take, Ok, sym, subst, inl, inr, ⊎_elim, arith}
use Rattle.std.specs.List.{ContainsAt as Has}
use Rattle.games.specs.Game.{Side, Game, options, In, itself}
use Rattle.games.specs.Order.{Equal}
use Rattle.games.specs.Sum.{Sum, sum, Made, in_one, in_two, Found, found, SumExists}
use Rattle.games.specs.Count.{Between}
use Rattle.games.proofs.Sides.{equal_refl, equal_sym, equal_trans}
use Rattle.games.proofs.Sums.{sum_exists}
use Rattle.games.proofs.Along.{adds_one}
use Rattle.forms.specs.declared.rows.Form.{Form}
use Rattle.forms.specs.Rows.{row_for}
use Rattle.forms.specs.Meaning.{meaning, given}
use Rattle.forms.specs.Soundness.{Known}
use Rattle.forms.specs.Links.{Table}
use Rattle.forms.proofs.Chains.{use_length}
use Rattle.forms.proofs.Givens.{equal_given}
use Rattle.forms.proofs.Risings.{has_none}
use Rattle.rooms.proofs.Lists.{all_by_has}
use Rattle.canonical.specs.Answers.{Answered, Refused}
use Rattle.canonical.specs.declared.canonical.Refusal.{Refusal}
use Rattle.canonical.specs.declared.canonical.Refusal.TheVariants.{Full, Wide, NoMemory}
use Rattle.positions.specs.Growing.{Grows, Overfull}
use Rattle.positions.proofs.Growth.{grows_none, grows_far, grows_meaning, grows_on}
use Rattle.forms.specs.Values.{game_in}
use Rattle.sums.specs.Held.{Adding}
use Rattle.sums.specs.Pairs.{OnlyMore}
use Rattle.sums.specs.Sums.{Adds, Stopped, SumAnswer}
use Rattle.sums.specs.Steps.{Grew, Moved, MovesIn, SumRow, StepAnswer}
use Rattle.sums.proofs.Wider.{between_turned, grew_on, stopped_on, as_before, grew_as, stopped_as}
use Rattle.sums.proofs.Holding.{adds_turned, holds_kept, holds_more}

-- a row stays right while the table grows
pub row_kept : (B : Game → Type 0) (s : Side) (g h : Game) (fs : List Form) (os : List ℕ) (n : ℕ) (gs : List Form) (qs : List ℕ) (u : ℕ) (row : List ℕ) →
    Table fs os n → Grows B fs os n gs qs u → SumRow s g h fs os n row → SumRow s g h gs qs u row
row_kept B s g h fs os n gs qs u row table grows r = record {
  sound = record { rising = r.sound.rising; known = λ w has. let far = grows_far B fs os n gs qs u table grows in let low = r.sound.known w has in omega arith };
  right = λ w has. subst (λ f. Moved s g h f ⊎ Moved s h g f) (later w has) (r.right w has);
  one = λ y i. let a = r.one y i in (a.0, a.1, subst (λ f. Adds y h f) (later a.0 a.1) a.2);
  two = λ y i. let a = r.two y i in (a.0, a.1, subst (λ f. Adds y g f) (later a.0 a.1) a.2);
}
  where
    later : (w : ℕ) → Has row w → meaning (take n fs) os w ≡ meaning (take u gs) qs w
    later w has = sym (grows_meaning B fs os n gs qs u table grows w (r.sound.known w has))

-- the moves in the one form and then those in the other
module _ (fs : List Form) (os : List ℕ) (n : ℕ) (s : Side) (x y : ℕ) (table : Table fs os n) (first : x < n) (second : y < n)
    (gs : List Form) (qs : List ℕ) (u : ℕ) (rs : List ℕ) (grew : Grew (Between (meaning (take n fs) os x) (meaning (take n fs) os y)) fs os n gs qs u rs)
    (hs : List Form) (ws : List ℕ) where
  abbrev B : Game → Type 0
  B = Between (meaning (take n fs) os x) (meaning (take n fs) os y)

  abbrev C : Game → Type 0
  C = Between (meaning (take n fs) os y) (meaning (take n fs) os x)

  pub both_moves : (ts none row new : List ℕ) (v : ℕ) → none ≡ [] → MovesIn s (meaning (take n fs) os x) (meaning (take n fs) os y) gs qs u none row →
      StepAnswer s (meaning (take u gs) qs y) (meaning (take u gs) qs x) gs qs u row hs ws v ts new (Ok tt) →
      Grew B fs os n hs ws v ts × SumRow s (meaning (take n fs) os x) (meaning (take n fs) os y) hs ws v new
  both_moves ts none row new v start one other = (
    grew_on B fs os n gs qs u rs hs ws v ts grew on,
    record {
      sound = two.1.sound;
      right = λ w has. ⊎_elim (λ old. inl (⊎_elim (λ e. absurd (has_none (subst (λ l. Has l w) start e))) (λ m. (m.0, m.1, later w old m.0 m.2)) (one.right w old))) (λ m. inr m) (two.1.right w has);
      one = λ z i. let a = one.all z i in (a.0, two.1.stays a.0 a.1, later a.0 a.1 z a.2);
      two = two.1.all;
    },
  )
    where
      two : StepAnswer s (meaning (take n fs) os y) (meaning (take n fs) os x) gs qs u row hs ws v ts new (Ok tt)
      two = as_before B fs os n gs qs u (λ g h. StepAnswer s g h gs qs u row hs ws v ts new (Ok tt)) y x table grew.grows second first other

      on : Grew B gs qs u hs ws v ts
      on = grew_as C B (between_turned (meaning (take n fs) os x) (meaning (take n fs) os y)) gs qs u hs ws v ts two.0

      later : (w : ℕ) → Has row w → (z : Game) → Adds z (meaning (take n fs) os y) (meaning (take u gs) qs w) → Adds z (meaning (take n fs) os y) (meaning (take v hs) ws w)
      later w has z a = subst (λ f. Adds z (meaning (take n fs) os y) f) (sym (grows_meaning B gs qs u hs ws v grew.grows.table on.grows w (one.sound.known w has))) a

  pub other_fails : (e : Refusal) → Stopped (Between (meaning (take u gs) qs y) (meaning (take u gs) qs x)) gs qs u hs ws e → Stopped B fs os n hs ws e
  other_fails e other =
      stopped_on B fs os n gs qs u hs ws e grew.grows
      (stopped_as C B (between_turned (meaning (take n fs) os x) (meaning (take n fs) os y)) gs qs u hs ws e
      (as_before B fs os n gs qs u (λ g h. Stopped (Between g h) gs qs u hs ws e) y x table grew.grows second first other))

-- the rows of what both players' moves make of the sum of forms x and y, found while a table grew
abbrev pub BothRows : ℕ → ℕ → Adding → Adding → List ℕ → List ℕ → Type 0
BothRows x y s t us ls =
    Grew (Between (game_in s.table x) (game_in s.table y)) s.table.forms.now s.table.options.now s.table.used t.table.forms.now t.table.options.now t.table.used t.pairs.now
    × SumRow true (game_in s.table x) (game_in s.table y) t.table.forms.now t.table.options.now t.table.used us
    × SumRow false (game_in s.table x) (game_in s.table y) t.table.forms.now t.table.options.now t.table.used ls

-- the moves of the one player and then those of the other
module _ (fs : List Form) (os : List ℕ) (n x y : ℕ) (table : Table fs os n) (first : x < n) (second : y < n)
    (gs : List Form) (qs : List ℕ) (u : ℕ) (rs : List ℕ) (grew : Grew (Between (meaning (take n fs) os x) (meaning (take n fs) os y)) fs os n gs qs u rs)
    (hs : List Form) (ws : List ℕ) where
  pub both_rows : (ts us ls : List ℕ) (v : ℕ) → SumRow true (meaning (take n fs) os x) (meaning (take n fs) os y) gs qs u us →
      Grew (Between (meaning (take u gs) qs x) (meaning (take u gs) qs y)) gs qs u hs ws v ts × SumRow false (meaning (take u gs) qs x) (meaning (take u gs) qs y) hs ws v ls →
      Grew (Between (meaning (take n fs) os x) (meaning (take n fs) os y)) fs os n hs ws v ts
      × SumRow true (meaning (take n fs) os x) (meaning (take n fs) os y) hs ws v us
      × SumRow false (meaning (take n fs) os x) (meaning (take n fs) os y) hs ws v ls
  both_rows ts us ls v up other =
      let two =
      as_before (Between (meaning (take n fs) os x) (meaning (take n fs) os y)) fs os n gs qs u (λ g h. Grew (Between g h) gs qs u hs ws v ts × SumRow false g h hs ws v ls)
      x y table grew.grows first second other in (
        grew_on (Between (meaning (take n fs) os x) (meaning (take n fs) os y)) fs os n gs qs u rs hs ws v ts grew two.0,
        row_kept (Between (meaning (take n fs) os x) (meaning (take n fs) os y)) true (meaning (take n fs) os x) (meaning (take n fs) os y) gs qs u hs ws v us grew.grows.table two.0.grows up,
        two.1,
      )

  pub later_fails : (e : Refusal) → Stopped (Between (meaning (take u gs) qs x) (meaning (take u gs) qs y)) gs qs u hs ws e →
      Stopped (Between (meaning (take n fs) os x) (meaning (take n fs) os y)) fs os n hs ws e
  later_fails e other =
      stopped_on (Between (meaning (take n fs) os x) (meaning (take n fs) os y)) fs os n gs qs u hs ws e grew.grows
      (as_before (Between (meaning (take n fs) os x) (meaning (take n fs) os y)) fs os n gs qs u (λ g h. Stopped (Between g h) gs qs u hs ws e) x y table grew.grows first second other)

-- the two rows of a sum
module _ (g h : Game) (fs : List Form) (os : List ℕ) (n : ℕ) (us ls : List ℕ) (table : Table fs os n)
    (up : SumRow true g h fs os n us) (down : SumRow false g h fs os n ls) where
  pub rows_known : (s : Side) → Known (take n fs) (row_for s us ls)
  rows_known true = all_by_has (λ x. x < length (take n fs)) us (λ x has. let low = up.sound.known x has in let long = use_length fs os n table in omega arith)
  rows_known false = all_by_has (λ x. x < length (take n fs)) ls (λ x has. let low = down.sound.known x has in let long = use_length fs os n table in omega arith)

  side_row : (s : Side) → SumRow s g h fs os n (row_for s us ls)
  side_row true = up
  side_row false = down

  -- they are those of the sum
  rows_sum : (k : Game) → Sum g h k → Equal k (given (take n fs) os us ls)
  rows_sum k (sum made one two) = equal_given (take n fs) os us ls k (λ s x i. forth s x (made s x i)) (λ s w has. back s w ((side_row s).right w has))
    where
      forth : (s : Side) (x : Game) → Made s g h x → (w : ℕ) × Has (row_for s us ls) w × Equal x (meaning (take n fs) os w)
      forth s x (in_one y i p) = let a = (side_row s).one y i in (a.0, a.1, adds_one (x, p, equal_refl x) a.2)
      forth s x (in_two y i p) = let a = (side_row s).two y i in (a.0, a.1, adds_one (x, p, equal_refl x) (adds_turned a.2))

      is_one : (s : Side) (w : ℕ) (y : Game) → Adds y h (meaning (take n fs) os w) → Found y h (options s k) → (x : Game) × In x (options s k) × Equal (meaning (take n fs) os w) x
      is_one s w y a (found x i p) = (x, i, adds_one a (x, p, equal_refl x))

      is_two : (s : Side) (w : ℕ) (y : Game) → Adds g y (meaning (take n fs) os w) → Found g y (options s k) → (x : Game) × In x (options s k) × Equal (meaning (take n fs) os w) x
      is_two s w y a (found x i p) = (x, i, adds_one a (x, p, equal_refl x))

      back : (s : Side) (w : ℕ) → Moved s g h (meaning (take n fs) os w) ⊎ Moved s h g (meaning (take n fs) os w) → (x : Game) × In x (options s k) × Equal (meaning (take n fs) os w) x
      back s w (inl m) = is_one s w m.0 m.2 (one s m.0 m.1)
      back s w (inr m) = is_two s w m.0 (adds_turned m.2) (two s m.0 m.1)

  whole : (k : Game) × Sum g h k
  unfolding SumExists
  whole = sum_exists g h

  same : Equal whole.0 (given (take n fs) os us ls)
  same = rows_sum whole.0 whole.1

  -- their canonical form is the sum's
  pub placed : (gs : List Form) (qs : List ℕ) (k u : ℕ) → length gs ≡ length fs → Answered fs os n gs qs (given (take n fs) os us ls) k u →
      Grows (Between g h) fs os n gs qs u × (k < u) × Adds g h (meaning (take u gs) qs k)
  placed gs qs k u long a = (
    record {
      table = a.table;
      long = long;
      kept = a.kept;
      new = λ j low high. ⊎_elim (λ e. absurd (let z = e.0 in omega arith))
          (λ e. let z : k ≡ j = (let p = e.0 in let q = e.1 in omega arith) in (g, h, whole.0, itself, itself, whole.1, subst (λ i. Equal whole.0 (meaning (take u gs) qs i)) z equal)) a.new;
    },
    a.known,
    (whole.0, whole.1, equal),
  )
    where
      equal : Equal whole.0 (meaning (take u gs) qs k)
      equal = equal_trans same (equal_sym a.equal)

  -- or there is none
  pub unplaced : (gs : List Form) (qs : List ℕ) (e : Refusal) → gs ≡ fs → qs ≡ os → Refused fs os n (given (take n fs) os us ls) e → Stopped (Between g h) fs os n gs qs e
  unplaced gs qs Full f o no-form = subst (λ x. Overfull (Between g h) fs os n x qs) (sym f) (subst (λ x. Overfull (Between g h) fs os n fs x) (sym o) full)
    where
      full : Overfull (Between g h) fs os n fs os
      full = record {
        grows = subst (Grows (Between g h) fs os n fs os) no-form.0 (grows_none (Between g h) fs os n table);
        game = whole.0;
        kind = (g, h, whole.0, itself, itself, whole.1, equal_refl whole.0);
        apart = subst (λ m. (k : ℕ) → k < m → Equal whole.0 (meaning (take m fs) os k) → ⊥) no-form.0
            (λ k low eq. no-form.1 k low (equal_trans (equal_sym eq) same));
      }
  unplaced gs qs Wide f o wide = record { form = wide.0; canonical = wide.1; kind = (g, h, whole.0, itself, itself, whole.1, equal_trans same wide.2); wide = wide.3 }
  unplaced gs qs NoMemory f o wide = tt

-- the form of the sum is remembered
pub summed : (fs : List Form) (os : List ℕ) (n : ℕ) (x y : ℕ) → Table fs os n → x < n → y < n →
    (gs : List Form) (qs : List ℕ) (u : ℕ) (rs : List ℕ) → Grew (Between (meaning (take n fs) os x) (meaning (take n fs) os y)) fs os n gs qs u rs →
    (hs : List Form) (ws : List ℕ) (v : ℕ) (ts : List ℕ) (a : ℕ) →
    Grows (Between (meaning (take n fs) os x) (meaning (take n fs) os y)) gs qs u hs ws v × (a < v) × Adds (meaning (take n fs) os x) (meaning (take n fs) os y) (meaning (take v hs) ws a) →
    OnlyMore rs x y a ts → SumAnswer (meaning (take n fs) os x) (meaning (take n fs) os y) fs os n hs ws v ts (Ok a)
summed fs os n x y table first second gs qs u rs grew hs ws v ts a got only = (
  grown,
  got.1,
  got.2,
  holds_more hs ws v rs (holds_kept gs qs u hs ws v rs grew.grows.table got.0.table got.0.kept grew.holds) x y a ts only (let f = far in omega arith) (let f = far in omega arith) got.1
      (subst (λ k. Adds (meaning (take v hs) ws x) k (meaning (take v hs) ws a)) (sym (grows_meaning (Between (meaning (take n fs) os x) (meaning (take n fs) os y)) fs os n hs ws v table grown y second))
      (subst (λ k. Adds k (meaning (take n fs) os y) (meaning (take v hs) ws a)) (sym (grows_meaning (Between (meaning (take n fs) os x) (meaning (take n fs) os y)) fs os n hs ws v table grown x first)) got.2)),
)
  where
    grown : Grows (Between (meaning (take n fs) os x) (meaning (take n fs) os y)) fs os n hs ws v
    grown = grows_on (Between (meaning (take n fs) os x) (meaning (take n fs) os y)) fs os n gs qs u hs ws v grew.grows got.0

    far : n ≤ v
    far = grows_far (Between (meaning (take n fs) os x) (meaning (take n fs) os y)) fs os n hs ws v table grown

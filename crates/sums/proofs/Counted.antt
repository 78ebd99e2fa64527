-- What the row of rooms tells: who wins, the count, and how wide forms are.
use Rattle.sums.specs.Sums.{Stopped}
use Rattle.std.proofs.Common.{◌≡◌, ℕ, zero, suc, ◌<◌, ◌≤◌, List, length, get_or, take, drop, Err, sym, refl, ap, ◌∙◌, subst, arith}
use Rattle.std.proofs.lemmas.List.{length-take}
use Rattle.games.specs.Game.{Side, Game, empty}
use Rattle.games.specs.Order.{Equal}
use Rattle.games.specs.Canonical.{Canonical, HasForm}
use Rattle.games.specs.Count.{Met, at_start, at_game, further, Member, Count, Wide, SumTells, NotWide, CountLeast, CountMost}
use Rattle.games.proofs.Sides.{equal_refl, equal_sym, equal_trans}
use Rattle.games.proofs.Reduce.{has_form}
use Rattle.games.proofs.Tells.{sum_tells}
use Rattle.games.proofs.Counting.{count_least, count_most, not_wide}
use Rattle.board.specs.Grid.{Grid}
use Rattle.rooms.specs.Games.{games_of}
use Rattle.rooms.specs.Values.{SmallRooms}
use Rattle.forms.specs.declared.rows.Form.{Form}
use Rattle.forms.specs.Rows.{blank, many, place, row_of}
use Rattle.forms.specs.Meaning.{meaning}
use Rattle.forms.specs.Soundness.{Sound}
use Rattle.forms.specs.Links.{Table}
use Rattle.forms.proofs.Chains.{use_length}
use Rattle.forms.proofs.Meanings.{from_row}
use Rattle.forms.proofs.Numbers.{same_number}
use Rattle.canonical.specs.declared.canonical.Refusal.{Refusal}
use Rattle.canonical.specs.declared.canonical.Refusal.TheVariants.{Full, Wide as TooWide, NoMemory}
use Rattle.positions.specs.Growing.{Grows, Overfull}
use Rattle.sums.specs.Counting.{InRow, RowIsFormed, RoomsAnswer}
use Rattle.sums.proofs.Meeting.{form_canonical}
use Rattle.sums.proofs.Lining.{form_empty}

-- a game equal to one that is met is met
met_equal : {t f f' : Game} {gs : List Game} → Met t gs f → Equal f f' → Met t gs f'
met_equal (at_start e) e' = at_start (equal_trans e e')
met_equal (at_game x y k r q p e) e' = at_game x y k r q p (equal_trans e e')
met_equal (further k u p c e m) e' = further k u p c e (met_equal m e')

-- equal forms of a table have one number
pub form_apart : (fs : List Form) (os : List ℕ) (n : ℕ) → Table fs os n → (j k : ℕ) → j < n → k < n → Equal (meaning (take n fs) os j) (meaning (take n fs) os k) → j ≡ k
form_apart fs os n t j k h l e =
    let long = use_length fs os n t in
    same_number (take n fs) os t.sound j k (omega arith) (omega arith) e

few_options : (fs : List Form) (os : List ℕ) (s : Side) (k : ℕ) → Sound fs os → k < length fs → length (row_of fs os s k) ≤ 16
unfolding row_of
few_options fs os s k sound h =
    let e = length-take (many s (get_or fs k blank)) (drop (place s k) os) in
    let few = sound.few s k h in
    omega arith

-- no canonical game that is equal to a form of a table is too wide
form_narrow : (fs : List Form) (os : List ℕ) (n : ℕ) → Table fs os n → (k : ℕ) → k < n → (f : Game) → Canonical f → Equal f (meaning (take n fs) os k) → Wide 16 f → ⊥
unfolding NotWide
form_narrow fs os n t k h f c e =
    not_wide 16 f (meaning (take n fs) os k) c (form_canonical fs os n t k h) e
    (λ s. (
      length (row_of (take n fs) os s k),
      (λ i. meaning (take n fs) os (get_or (row_of (take n fs) os s k) i 0)),
      few_options (take n fs) os s k t.sound low,
      λ x i.
          let r = from_row (take n fs) os t.sound s k low x i in
          (r.1.0, r.1.1, sym r.2 ∙ ap (meaning (take n fs) os) (sym (r.1.2 0))),
    ))
  where
    low : k < length (take n fs)
    low = let long = use_length fs os n t in omega arith

-- all forms of a table that began with one and grew along a row are met along it
all_met : (gs : List Game) (fs : List Form) (os : List ℕ) (n : ℕ) (hs : List Form) (qs : List ℕ) (u : ℕ) → n ≡ 1 → Grows (Met empty gs) fs os n hs qs u → (k : ℕ) → k < u → Met empty gs (meaning (take u hs) qs k)
all_met gs fs os n hs qs u e grows zero h = at_start (subst (Equal empty) (sym (form_empty hs qs u grows.table)) (equal_refl empty))
all_met gs fs os n hs qs u e grows (suc k) h = grows.new (suc k) (omega arith) h

pub row_formed : (b : Grid) (rs : List (List ℕ)) → SmallRooms b rs → (fs : List Form) (os : List ℕ) (n : ℕ) (gs : List Form) (ps : List ℕ) (sum : ℕ) (owns : List ℕ) (u : ℕ) →
    InRow b rs fs os n gs ps sum owns u → RowIsFormed b rs fs os n gs ps sum owns u
unfolding SumTells Member CountMost
row_formed b rs rooms fs os n gs ps sum owns u row = record {
  row = row;
  tells = λ s.
      let first = sum_tells (games_of b rs) (meaning (take u gs) ps sum) row.summed s in
      let law = rooms.law s in
      (λ w. first.0 (law.0 w), λ a. law.1 (first.1 a));
  narrow = λ f m wide. let k = row.whole f m.1 in form_narrow gs ps u row.grows.table k.0 k.1 f m.0 k.2 wide;
  most = λ m c. count_most (games_of b rs) m u (meaning (take u gs) ps) c (λ f x. row.whole f x.1);
  counted = λ e. record {
    row = meaning (take u gs) ps;
    within = λ i h. (form_canonical gs ps u row.grows.table i h, all_met (games_of b rs) fs os n gs ps u e row.grows i h);
    apart = form_apart gs ps u row.grows.table;
    whole = λ f m. row.whole f m.1;
  };
}

-- a row of games with one more in front
abbrev in_front : Game → (ℕ → Game) → ℕ → Game
in_front f row zero = f
in_front f row (suc i) = row i

full_above : (gs : List Game) (fs : List Form) (os : List ℕ) (n : ℕ) (hs : List Form) (qs : List ℕ) → Overfull (Met empty gs) fs os n hs qs → n ≡ 1 → (m : ℕ) → Count gs m → length fs < m
unfolding CountLeast HasForm Member
full_above gs fs os n hs qs full e m c =
    let least = count_least gs m (suc (length fs)) (in_front form.0 forms) c within apart in omega arith
  where
    form : (f : Game) × Canonical f × Equal full.game f
    form = has_form full.game

    forms : ℕ → Game
    forms = meaning (take (length fs) hs) qs

    within : (i : ℕ) → i < suc (length fs) → Member gs (in_front form.0 forms i)
    within zero h = (form.1, met_equal full.kind form.2)
    within (suc i) h = (form_canonical hs qs (length fs) full.grows.table i (omega arith), all_met gs fs os n hs qs (length fs) e full.grows i (omega arith))

    apart : (i j : ℕ) → i < suc (length fs) → j < suc (length fs) → Equal (in_front form.0 forms i) (in_front form.0 forms j) → i ≡ j
    apart zero zero h l q = refl
    apart zero (suc j) h l q = absurd (full.apart j (omega arith) (equal_trans form.2 q))
    apart (suc i) zero h l q = absurd (full.apart i (omega arith) (equal_trans form.2 (equal_sym q)))
    apart (suc i) (suc j) h l q = ap suc (form_apart hs qs (length fs) full.grows.table i j (omega arith) (omega arith) q)

pub row_refused : (b : Grid) (rs : List (List ℕ)) (fs : List Form) (os : List ℕ) (n : ℕ) (hs : List Form) (qs : List ℕ) (v : ℕ) (is : List ℕ) (e : Refusal) → Stopped (Met empty (games_of b rs)) fs os n hs qs e → RoomsAnswer b rs fs os n hs qs v is (Err e)
unfolding Member
row_refused b rs fs os n hs qs v is Full o = record { full = o; above = full_above (games_of b rs) fs os n hs qs o }
row_refused b rs fs os n hs qs v is TooWide w = (w.form, (w.canonical, w.kind), w.wide)
row_refused b rs fs os n hs qs v is NoMemory u = u

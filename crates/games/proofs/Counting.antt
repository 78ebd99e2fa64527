-- The canonical forms of a row of games have a count, and one only.
use mathlib.Core.Path.{◌≡◌, refl, ap, subst}
use mathlib.Core.List.{List}
use mathlib.Core.Logic.{inl, inr}
use Prim.Native.Nat.{ℕ, zero, suc, ◌≤◌, ◌<◌}
use native.Mathlib.Omega.{arith}
use Rattle.games.specs.Game.{Game, Games, none, more, In, here, there, empty}
use Rattle.games.specs.Order.{Equal}
use Rattle.games.specs.Count.{Member, Count, OneCount, CountLeast, CountMost, Wide, NotWide}
use Rattle.games.proofs.Sides.{equal_refl, equal_sym, equal_trans, equal_or_not}
use Rattle.games.proofs.Lists.{in_more}
use Rattle.games.proofs.Forms.{matched}
use Rattle.games.proofs.Members.{met_listed}
use Rattle.games.proofs.Pigeons.{one_below, pigeons}

-- a list without repetition up to equality, as a numbered row
record Numbered (fs : Games) : Type 0 where
  count : ℕ
  row : ℕ → Game
  within : (i : ℕ) → i < count → In (row i) fs
  apart : (i j : ℕ) → i < count → j < count → Equal (row i) (row j) → i ≡ j
  whole : (f : Game) → In f fs → (i : ℕ) × (i < count) × Equal f (row i)

-- a row with one more game in front
abbrev in_front : Game → (ℕ → Game) → ℕ → Game
in_front f row zero = f
in_front f row (suc i) = row i

numbered : (fs : Games) → Numbered fs
numbered none =
    record {
      count = 0;
      row = λ i. empty;
      within = λ i less. absurd (omega arith);
      apart = λ i j less. absurd (omega arith);
      whole = λ f i. elim i [ ];
    }
numbered (more f fs) = go (numbered fs)
  where
    old : (rest : Numbered fs) → (i : ℕ) × (i < rest.count) × Equal f (rest.row i) → Numbered (more f fs)
    old rest i =
        record {
          count = rest.count;
          row = rest.row;
          within = λ j less. there (rest.within j less);
          apart = rest.apart;
          whole = in_more (λ h. (i : ℕ) × (i < rest.count) × Equal h (rest.row i)) f fs i rest.whole;
        }

    new : (rest : Numbered fs) → ((i : ℕ) → i < rest.count → ¬ Equal f (rest.row i)) → Numbered (more f fs)
    new rest fresh =
        record {
          count = suc rest.count;
          row = row;
          within = within;
          apart = apart;
          whole =
              in_more (λ h. (i : ℕ) × (i < suc rest.count) × Equal h (row i)) f fs (0, omega arith, equal_refl f)
              (λ h i. let j = rest.whole h i in (suc j.0, omega (arith, j.1), j.2));
        }
      where
        row : ℕ → Game
        row = in_front f rest.row

        within : (i : ℕ) → i < suc rest.count → In (row i) (more f fs)
        within zero less = here
        within (suc i) less = there (rest.within i (omega arith))

        apart : (i j : ℕ) → i < suc rest.count → j < suc rest.count → Equal (row i) (row j) → i ≡ j
        apart zero zero less less' e = refl
        apart zero (suc j) less less' e = absurd (fresh j (omega arith) e)
        apart (suc i) zero less less' e = absurd (fresh i (omega arith) (equal_sym e))
        apart (suc i) (suc j) less less' e = ap suc (rest.apart i j (omega arith) (omega arith) e)

    go : Numbered fs → Numbered (more f fs)
    go rest = elim (one_below rest.count (λ i. Equal f (rest.row i)) (λ i. equal_or_not f (rest.row i))) [ inl i ↦ old rest i | inr fresh ↦ new rest fresh ]

-- the members, listed and numbered
counted : (gs : List Game) → (n : ℕ) × Count gs n
unfolding Member
counted gs =
    let l = met_listed gs empty in
    let t = numbered l.list in (
      t.count,
      record {
        row = t.row;
        within = λ i less. l.sound (t.row i) (t.within i less);
        apart = t.apart;
        whole =
            λ f m.
            let h = l.found f m in
            let i = t.whole h.0 h.1 in
            (i.0, i.1, equal_trans h.2 i.2);
      },
    )

-- a row of unequal games each of which is equal to one of another row, is no longer
pub no_longer :
    (m n : ℕ) (row row' : ℕ → Game) → ((i j : ℕ) → i < m → j < m → Equal (row i) (row j) → i ≡ j) →
    ((i : ℕ) → i < m → (j : ℕ) × (j < n) × Equal (row i) (row' j)) → m ≤ n
no_longer m n row row' apart into =
    pigeons m n (λ i j. Equal (row i) (row' j)) into (λ i i' j less less' e e'. apart i i' less less' (equal_trans e (equal_sym e')))

pub count_least : CountLeast
unfolding CountLeast
count_least gs n m row c members apart = no_longer m n row c.row apart (λ i less. c.whole (row i) (members i less))

pub count_most : CountMost
unfolding CountMost
count_most gs n m row c found = no_longer n m c.row row c.apart (λ i less. found (c.row i) (c.within i less))

pub one_count : OneCount
unfolding OneCount CountLeast
one_count gs =
    let c = counted gs in (
      c.0,
      c.1,
      λ m d.
          let least = count_least gs m c.0 c.1.row d c.1.within c.1.apart in
          let most = count_least gs c.0 m d.row c.1 d.within d.apart in
          omega (arith, least, most),
    )

pub not_wide : NotWide
unfolding NotWide Wide
not_wide n f h c d e narrow w =
    let t = narrow w.0 in
    let long =
    no_longer (suc n) t.0 w.1 t.1 (λ i j less less'. w.3 i j (omega arith) (omega arith))
    (λ i less.
    let y = matched w.0 f h c d e (w.1 i) (w.2 i (omega arith)) in
    let j = t.3 y.0 y.1 in
    (j.0, j.1, subst (λ x. Equal (w.1 i) x) j.2 y.2)) in
    omega (arith, long, t.2)

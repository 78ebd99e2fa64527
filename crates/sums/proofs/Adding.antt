-- The sums of pairs, step by step.
use Rattle.std.proofs.Common.{◌≡◌, ℕ, ◌+◌, ◌<◌, ◌⊎◌, List, length, get_or, take, Ok, sym, refl, ap, ◌∙◌, subst, inl, inr, ⊎_elim, arith}
use Rattle.std.specs.List.{ContainsAt as Has, AllByRecursion as Every}
use Rattle.std.proofs.ByRecursion.{All-get_or, all-has}
use Rattle.games.specs.Game.{Game}
use Rattle.games.specs.Count.{Between}
use Rattle.forms.specs.declared.rows.Form.{Form}
use Rattle.forms.specs.Meaning.{meaning}
use Rattle.forms.specs.Links.{Table}
use Rattle.canonical.specs.declared.canonical.Refusal.{Refusal}
use Rattle.canonical.proofs.Inserting.{has_take}
use Rattle.positions.proofs.Growth.{grows_as, grows_none, grows_on, grows_far, grows_meaning}
use Rattle.sums.specs.Sums.{Adds, SummedUp, Stopped}
use Rattle.sums.specs.Pairing.{OfPairs, BesideRow, BesideRows, SumsAll, SumsAnswer}
use Rattle.sums.proofs.Wider.{stopped_as, stopped_on}
use Rattle.sums.proofs.Marking.{has_more, has_last, has_more_cases}

-- pairs of one kind are wanted among those of another
as_pairs : (A C : Game → Game → Type 0) → ((x y : Game) → A x y → C x y) → (f : Game) → OfPairs A f → OfPairs C f
as_pairs A C to f p = (p.0, p.1, to p.0 p.1 p.2, p.3)

-- the pair of two games alone
abbrev pub OnePair : Game → Game → Game → Game → Type 0
OnePair g h x y = (x ≡ g) × (y ≡ h)

-- what adding two forms answers, as the answer for one pair
pub as_answer : (fs : List Form) (os : List ℕ) (n x y : ℕ) (gs : List Form) (qs : List ℕ) (u : ℕ) (rs : List ℕ) (k : ℕ) → SummedUp fs os n x y gs qs u rs (Ok k) →
    SumsAnswer (OnePair (meaning (take n fs) os x) (meaning (take n fs) os y)) fs os n gs qs u rs (Ok tt)
as_answer fs os n x y gs qs u rs k s = (
  record {
    grows = grows_as (Between (meaning (take n fs) os x) (meaning (take n fs) os y)) (OfPairs (OnePair (meaning (take n fs) os x) (meaning (take n fs) os y)))
        (λ f b. (meaning (take n fs) os x, meaning (take n fs) os y, (refl, refl), b)) fs os n gs qs u s.0;
    whole = λ v w e. (k, s.1, subst (λ z. Adds z w (meaning (take u gs) qs k)) (sym e.0) (subst (λ z. Adds (meaning (take n fs) os x) z (meaning (take u gs) qs k)) (sym e.1) s.2));
  },
  s.3,
)

-- so also where there is no answer
pub as_refusal : (fs : List Form) (os : List ℕ) (n x y : ℕ) (gs : List Form) (qs : List ℕ) (e : Refusal) → Stopped (Between (meaning (take n fs) os x) (meaning (take n fs) os y)) fs os n gs qs e →
    Stopped (OfPairs (OnePair (meaning (take n fs) os x) (meaning (take n fs) os y))) fs os n gs qs e
as_refusal fs os n x y gs qs e s =
    stopped_as (Between (meaning (take n fs) os x) (meaning (take n fs) os y)) (OfPairs (OnePair (meaning (take n fs) os x) (meaning (take n fs) os y)))
    (λ f b. (meaning (take n fs) os x, meaning (take n fs) os y, (refl, refl), b)) fs os n gs qs e s

-- the wanted pairs of C are those of A, which are found, and those of B
module _ (A B C : Game → Game → Type 0) (first : (x y : Game) → A x y → C x y) (second : (x y : Game) → B x y → C x y)
    (fs : List Form) (os : List ℕ) (n : ℕ) (gs : List Form) (qs : List ℕ) (u : ℕ) (before : SumsAll A fs os n gs qs u) where
  pub sums_on : ((x y : Game) → C x y → A x y ⊎ B x y) → (hs : List Form) (ps : List ℕ) (v : ℕ) → SumsAll B gs qs u hs ps v → SumsAll C fs os n hs ps v
  sums_on either hs ps v more = record {
    grows = grows_on (OfPairs C) fs os n gs qs u hs ps v (grows_as (OfPairs A) (OfPairs C) (as_pairs A C first) fs os n gs qs u before.grows) (grows_as (OfPairs B) (OfPairs C) (as_pairs B C second) gs qs u hs ps v more.grows);
    whole = λ x y w. ⊎_elim (λ a. old x y (before.whole x y a)) (λ b. more.whole x y b) (either x y w);
  }
    where
      old : (x y : Game) → (k : ℕ) × (k < u) × Adds x y (meaning (take u gs) qs k) → (k : ℕ) × (k < v) × Adds x y (meaning (take v hs) ps k)
      old x y k =
          let far = grows_far (OfPairs B) gs qs u hs ps v before.grows.table more.grows in
          let low = k.1 in
          (k.0, omega arith, subst (Adds x y) (sym (grows_meaning (OfPairs B) gs qs u hs ps v before.grows.table more.grows k.0 k.1)) k.2)

  pub sums_fail : (hs : List Form) (ps : List ℕ) (e : Refusal) → Stopped (OfPairs B) gs qs u hs ps e → Stopped (OfPairs C) fs os n hs ps e
  sums_fail hs ps e s =
      stopped_on (OfPairs C) fs os n gs qs u hs ps e (grows_as (OfPairs A) (OfPairs C) (as_pairs A C first) fs os n gs qs u before.grows) (stopped_as (OfPairs B) (OfPairs C) (as_pairs B C second) gs qs u hs ps e s)

pub sums_none : (W : Game → Game → Type 0) → ((x y : Game) → W x y → ⊥) → (fs : List Form) (os : List ℕ) (n : ℕ) → Table fs os n → SumsAll W fs os n fs os n
sums_none W none fs os n t = record { grows = grows_none (OfPairs W) fs os n t; whole = λ x y w. absurd (none x y w) }

-- a row walked through
module _ (fs : List Form) (os : List ℕ) (n : ℕ) (t : Table fs os n) (gs : List Form) (qs : List ℕ) (u i : ℕ) where
  module _ (x : ℕ) (low : x < n) (row : List ℕ) (known : Every (λ y. y < n) row) (h : i < length row) (before : SumsAll (BesideRow fs os n x (take i row)) fs os n gs qs u) where
    same : (k : ℕ) → k < n → meaning (take u gs) qs k ≡ meaning (take n fs) os k
    same = grows_meaning (OfPairs (BesideRow fs os n x (take i row))) fs os n gs qs u t before.grows

    abbrev y : ℕ
    y = get_or row i 0

    abbrev Pair : Game → Game → Type 0
    Pair = OnePair (meaning (take u gs) qs x) (meaning (take u gs) qs y)

    abbrev Next : Game → Game → Type 0
    Next = BesideRow fs os n x (take (i + 1) row)

    first : (g k : Game) → BesideRow fs os n x (take i row) g k → Next g k
    first g k p = (p.0, has_more row i p.0 h p.1, p.2, p.3)

    second : (g k : Game) → Pair g k → Next g k
    second g k p = (y, has_last row i h, p.0 ∙ same x low, p.1 ∙ same y (All-get_or (λ z. z < n) row i 0 h known))

    either : (g k : Game) → Next g k → BesideRow fs os n x (take i row) g k ⊎ Pair g k
    either g k p =
        ⊎_elim (λ old. inl (p.0, old, p.2, p.3))
        (λ last. inr (p.2 ∙ sym (same x low), p.3 ∙ ap (meaning (take n fs) os) (sym last) ∙ sym (same y (All-get_or (λ z. z < n) row i 0 h known))))
        (has_more_cases row i p.0 h p.1)

    pub row_more : (hs : List Form) (ps : List ℕ) (v : ℕ) (rs : List ℕ) (k : ℕ) → SummedUp gs qs u x (get_or row i 0) hs ps v rs (Ok k) → SumsAnswer (BesideRow fs os n x (take (i + 1) row)) fs os n hs ps v rs (Ok tt)
    row_more hs ps v rs k s =
        let one = as_answer gs qs u x y hs ps v rs k s in
        (sums_on (BesideRow fs os n x (take i row)) Pair Next first second fs os n gs qs u before either hs ps v one.0, one.1)

    -- what is wanted of a part of the row is wanted of the row
    part : (g k : Game) → Next g k → BesideRow fs os n x row g k
    part g k p = (p.0, has_take (i + 1) row p.0 p.1, p.2, p.3)

    pub row_fail : (hs : List Form) (ps : List ℕ) (e : Refusal) → Stopped (Between (meaning (take u gs) qs x) (meaning (take u gs) qs y)) gs qs u hs ps e → Stopped (OfPairs (BesideRow fs os n x row)) fs os n hs ps e
    row_fail hs ps e s =
        sums_fail (BesideRow fs os n x (take i row)) Pair (BesideRow fs os n x row) (λ g k p. part g k (first g k p)) (λ g k p. part g k (second g k p)) fs os n gs qs u before hs ps e (as_refusal gs qs u x y hs ps e s)

-- one row walked through beside all of another
module _ (fs : List Form) (os : List ℕ) (n : ℕ) (t : Table fs os n) (gs : List Form) (qs : List ℕ) (u i : ℕ)
    (row ys : List ℕ) (known : Every (λ x. x < n) row) (known-too : Every (λ y. y < n) ys) (h : i < length row)
    (before : SumsAll (BesideRows fs os n (take i row) ys) fs os n gs qs u) where
  same_row : (k : ℕ) → k < n → meaning (take u gs) qs k ≡ meaning (take n fs) os k
  same_row = grows_meaning (OfPairs (BesideRows fs os n (take i row) ys)) fs os n gs qs u t before.grows

  abbrev x : ℕ
  x = get_or row i 0

  same_first : meaning (take u gs) qs x ≡ meaning (take n fs) os x
  same_first = same_row x (All-get_or (λ z. z < n) row i 0 h known)

  same_second : (y : ℕ) → Has ys y → meaning (take u gs) qs y ≡ meaning (take n fs) os y
  same_second y has = same_row y (all-has (λ z. z < n) ys y known-too has)

  earlier : (g k : Game) → BesideRows fs os n (take i row) ys g k → BesideRows fs os n (take (i + 1) row) ys g k
  earlier g k p = (p.0, has_more row i p.0 h p.1, p.2)

  newer : (g k : Game) → BesideRow gs qs u x ys g k → BesideRows fs os n (take (i + 1) row) ys g k
  newer g k p = (x, has_last row i h, (p.0, p.1, p.2 ∙ same_first, p.3 ∙ same_second p.0 p.1))

  one_of : (g k : Game) → BesideRows fs os n (take (i + 1) row) ys g k → BesideRows fs os n (take i row) ys g k ⊎ BesideRow gs qs u x ys g k
  one_of g k p =
      ⊎_elim (λ old. inl (p.0, old, p.2))
      (λ last. inr (p.2.0, p.2.1, p.2.2 ∙ ap (meaning (take n fs) os) (sym last) ∙ sym same_first, p.2.3 ∙ sym (same_second p.2.0 p.2.1)))
      (has_more_cases row i p.0 h p.1)

  whole_row : (g k : Game) → BesideRows fs os n (take (i + 1) row) ys g k → BesideRows fs os n row ys g k
  whole_row g k p = (p.0, has_take (i + 1) row p.0 p.1, p.2)

  pub rows_more : (hs : List Form) (ps : List ℕ) (v : ℕ) (rs : List ℕ) → SumsAnswer (BesideRow gs qs u (get_or row i 0) ys) gs qs u hs ps v rs (Ok tt) → SumsAnswer (BesideRows fs os n (take (i + 1) row) ys) fs os n hs ps v rs (Ok tt)
  rows_more hs ps v rs s =
      (sums_on (BesideRows fs os n (take i row) ys) (BesideRow gs qs u x ys) (BesideRows fs os n (take (i + 1) row) ys) earlier newer fs os n gs qs u before one_of hs ps v s.0, s.1)

  pub rows_fail : (hs : List Form) (ps : List ℕ) (e : Refusal) → Stopped (OfPairs (BesideRow gs qs u (get_or row i 0) ys)) gs qs u hs ps e → Stopped (OfPairs (BesideRows fs os n row ys)) fs os n hs ps e
  rows_fail hs ps e s =
      sums_fail (BesideRows fs os n (take i row) ys) (BesideRow gs qs u x ys) (BesideRows fs os n row ys) (λ g k p. whole_row g k (earlier g k p)) (λ g k p. whole_row g k (newer g k p)) fs os n gs qs u before hs ps e s

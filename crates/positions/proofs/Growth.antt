-- Tables that grow, one step after another.
use Rattle.std.proofs.Common.{◌≡◌, ℕ, ◌<◌, ◌≤◌, List, length, take, sym, refl, ◌∙◌, subst, ⊎_elim, arith}
use Rattle.std.proofs.lemmas.Bool.{cases_lt}
use Rattle.games.specs.Game.{Game}
use Rattle.games.specs.Order.{Equal}
use Rattle.forms.specs.declared.rows.Form.{Form}
use Rattle.forms.specs.Meaning.{meaning}
use Rattle.forms.specs.Links.{Table}
use Rattle.forms.proofs.Chains.{use_length}
use Rattle.forms.proofs.Growing.{kept_refl, kept_trans}
use Rattle.positions.specs.Growing.{Grows, Overfull}

module _ (B : Game → Type 0) where
  pub grows_none : (fs : List Form) (os : List ℕ) (n : ℕ) → Table fs os n → Grows B fs os n fs os n
  grows_none fs os n t = record { table = t; long = refl; kept = kept_refl (take n fs) os; new = λ k low high. absurd (omega arith) }

  -- how far it grew
  pub grows_far : (fs : List Form) (os : List ℕ) (n : ℕ) (gs : List Form) (ps : List ℕ) (u : ℕ) → Table fs os n → Grows B fs os n gs ps u → n ≤ u
  grows_far fs os n gs ps u t g =
      let x = g.kept.longer in let y = use_length fs os n t in let z = use_length gs ps u g.table in omega arith

  -- the old forms mean what they meant
  pub grows_meaning : (fs : List Form) (os : List ℕ) (n : ℕ) (gs : List Form) (ps : List ℕ) (u : ℕ) → Table fs os n → Grows B fs os n gs ps u →
      (k : ℕ) → k < n → meaning (take u gs) ps k ≡ meaning (take n fs) os k
  grows_meaning fs os n gs ps u t g k h = g.kept.games k (let y = use_length fs os n t in omega arith)

  pub grows_on : (fs : List Form) (os : List ℕ) (n : ℕ) (gs : List Form) (ps : List ℕ) (u : ℕ) (hs : List Form) (qs : List ℕ) (v : ℕ) →
      Grows B fs os n gs ps u → Grows B gs ps u hs qs v → Grows B fs os n hs qs v
  grows_on fs os n gs ps u hs qs v a b = record {
    table = b.table;
    long = b.long ∙ a.long;
    kept = kept_trans (take n fs) os (take u gs) ps (take v hs) qs a.kept b.kept;
    new = λ k low high.
        ⊎_elim
        (λ old. subst B (sym (grows_meaning gs ps u hs qs v a.table b k old)) (a.new k low old))
        (λ late. b.new k late high)
        (cases_lt k u);
  }

  pub overfull_on : (fs : List Form) (os : List ℕ) (n : ℕ) (gs : List Form) (ps : List ℕ) (u : ℕ) (hs : List Form) (qs : List ℕ) →
      Grows B fs os n gs ps u → Overfull B gs ps u hs qs → Overfull B fs os n hs qs
  overfull_on fs os n gs ps u hs qs a b =
      subst (λ m. (grows : Grows B fs os n hs qs m) → ((k : ℕ) → k < m → Equal b.game (meaning (take m hs) qs k) → ⊥) → Overfull B fs os n hs qs)
      (sym a.long) (λ grows apart. record { grows = grows; game = b.game; kind = b.kind; apart = apart }) (grows_on fs os n gs ps u hs qs (length gs) a b.grows) b.apart

-- what grows by one kind grows by every wider one
pub grows_as : (A B : Game → Type 0) → ((f : Game) → A f → B f) → (fs : List Form) (os : List ℕ) (n : ℕ) (gs : List Form) (ps : List ℕ) (u : ℕ) → Grows A fs os n gs ps u → Grows B fs os n gs ps u
grows_as A B wider fs os n gs ps u g = record { table = g.table; long = g.long; kept = g.kept; new = λ k low high. wider (meaning (take u gs) ps k) (g.new k low high) }

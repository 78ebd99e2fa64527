-- What a row of numbers remembers of pairs of forms: after one is written into it, and while the table grows.
use Rattle.std.proofs.Common.{◌≡◌, ℕ, ◌+◌, ◌*◌, ◌<◌, ◌⊎◌, List, length, get_or, take, set, sym, ap, ◌∙◌, subst, inl, inr, ⊎_elim, arith}
use Rattle.std.proofs.lemmas.List.{get_or-set_same, get_or-set_other, length-set}
use Rattle.std.proofs.lemmas.Bool.{cases_eq}
use Rattle.games.specs.Game.{Game}
use Rattle.games.specs.Sum.{SumTurns}
use Rattle.games.proofs.Sums.{sum_turns}
use Rattle.forms.specs.declared.rows.Form.{Form}
use Rattle.forms.specs.Meaning.{meaning}
use Rattle.forms.specs.Links.{Table}
use Rattle.forms.specs.Held.{Lent}
use Rattle.forms.specs.Values.{Stays}
use Rattle.forms.specs.Growth.{Kept}
use Rattle.forms.proofs.Chains.{use_length}
use Rattle.sums.specs.Sums.{Adds, HoldsRight}
use Rattle.sums.specs.Pairs.{key_of, Holds, SamePair, OnlyMore}

-- a key is that of one pair only
pub one_pair : (a b x y n : ℕ) → a < 16384 → b < 16384 → x < 16384 → y < 16384 → n ≡ key_of a b → (n ≡ key_of x y) ⊎ (n ≡ key_of y x) → SamePair a b x y
one_pair a b x y n p q r t e (inl f) = inl (omega arith, omega arith)
one_pair a b x y n p q r t e (inr f) = inr (omega arith, omega arith)

pub written :
    (ps : List ℕ) (x y k i n : ℕ) → 2 * i + 1 < length ps → x < 16384 → y < 16384 → (n ≡ key_of x y) ⊎ (n ≡ key_of y x) →
    OnlyMore ps x y k (set (set ps (2 * i) n) (2 * i + 1) k)
written ps x y k i n long p q e a b j h =
    ⊎_elim
    (λ same. inr (one_pair a b x y n h.first h.second p q (sym (key_here same) ∙ h.key) e, sym h.form ∙ form_here same))
    (λ apart. inl (record { slot = h.slot; first = h.first; second = h.second; key = sym (key_there apart) ∙ h.key; form = sym (form_there apart) ∙ h.form }))
    (cases_eq h.slot i)
  where
    rs : List ℕ
    rs = set (set ps (2 * i) n) (2 * i + 1) k

    key_here : h.slot ≡ i → get_or rs (2 * h.slot) 0 ≡ n
    key_here s =
        ap (λ m. get_or rs (2 * m) 0) s
        ∙ (get_or-set_other (set ps (2 * i) n) (2 * i + 1) (2 * i) k 0 (λ z. omega arith) ∙ get_or-set_same ps (2 * i) n 0 (omega arith))

    form_here : h.slot ≡ i → get_or rs (2 * h.slot + 1) 0 ≡ k
    form_here s =
        ap (λ m. get_or rs (2 * m + 1) 0) s
        ∙ get_or-set_same (set ps (2 * i) n) (2 * i + 1) k 0 (let l = length-set ps (2 * i) n in omega arith)

    key_there : (h.slot ≡ i → ⊥) → get_or rs (2 * h.slot) 0 ≡ get_or ps (2 * h.slot) 0
    key_there ne =
        get_or-set_other (set ps (2 * i) n) (2 * i + 1) (2 * h.slot) k 0 (λ z. omega arith)
        ∙ get_or-set_other ps (2 * i) (2 * h.slot) n 0 (λ z. ne (omega arith))

    form_there : (h.slot ≡ i → ⊥) → get_or rs (2 * h.slot + 1) 0 ≡ get_or ps (2 * h.slot + 1) 0
    form_there ne =
        get_or-set_other (set ps (2 * i) n) (2 * i + 1) (2 * h.slot + 1) k 0 (λ z. ne (omega arith))
        ∙ get_or-set_other ps (2 * i) (2 * h.slot + 1) n 0 (λ z. omega arith)

-- all-zero memory remembers nothing
pub holds_none : (fs : List Form) (os : List ℕ) (n : ℕ) (ps : List ℕ) → ((i : ℕ) → get_or ps i 0 ≡ 0) → HoldsRight fs os n ps
holds_none fs os n ps zeros = record { right = λ x y k h. let z = zeros (2 * h.slot) in let e = h.key in absurd (omega arith) }

-- what is remembered stays right while what was in use is kept
pub holds_kept : (fs : List Form) (os : List ℕ) (n : ℕ) (gs : List Form) (qs : List ℕ) (u : ℕ) (ps : List ℕ) →
    Table fs os n → Table gs qs u → Kept (take n fs) os (take u gs) qs → HoldsRight fs os n ps → HoldsRight gs qs u ps
holds_kept fs os n gs qs u ps before after kept held = record {
  right = λ x y k h.
      let old = held.right x y k h in
      let far = kept.longer in
      let long = use_length fs os n before in
      let longer = use_length gs qs u after in
      let p = old.0 in let q = old.1 in let r = old.2 in (
        omega arith,
        omega arith,
        omega arith,
        subst (λ f. Adds (meaning (take u gs) qs x) (meaning (take u gs) qs y) f) (sym (kept.games k (omega arith)))
            (subst (λ f. Adds (meaning (take u gs) qs x) f (meaning (take n fs) os k)) (sym (kept.games y (omega arith)))
            (subst (λ f. Adds f (meaning (take n fs) os y) (meaning (take n fs) os k)) (sym (kept.games x (omega arith))) old.3)),
      );
}

pub holds_stays : {t u : Lent} (ps : List ℕ) → Stays t u → HoldsRight t.forms.now t.options.now t.used ps → HoldsRight u.forms.now u.options.now u.used ps
holds_stays {t} {u} ps stays = holds_kept t.forms.now t.options.now t.used u.forms.now u.options.now u.used ps stays.before stays.after stays.kept

pub adds_turned : {g h f : Game} → Adds g h f → Adds h g f
unfolding SumTurns
adds_turned {g} {h} a = (a.0, sum_turns g h a.0 a.1, a.2)

module _ (fs : List Form) (os : List ℕ) (n : ℕ) (ps : List ℕ) (held : HoldsRight fs os n ps) where
  -- what is recalled is the form of the sum
  pub recalled : (x y k : ℕ) → Holds ps x y k ⊎ Holds ps y x k → (k < n) × Adds (meaning (take n fs) os x) (meaning (take n fs) os y) (meaning (take n fs) os k)
  recalled x y k (inl h) = let r = held.right x y k h in (r.2, r.3)
  recalled x y k (inr h) = let r = held.right y x k h in (r.2, adds_turned r.3)

  -- the form of one more sum is remembered
  pub holds_more : (x y k : ℕ) (rs : List ℕ) → OnlyMore ps x y k rs → x < n → y < n → k < n →
      Adds (meaning (take n fs) os x) (meaning (take n fs) os y) (meaning (take n fs) os k) → HoldsRight fs os n rs
  holds_more x y k rs only p q r adds = record { right = λ a b j h. ⊎_elim (λ old. held.right a b j old) (λ new. go a b j new.0 new.1) (only a b j h) }
    where
      Right : ℕ → ℕ → ℕ → Type 0
      Right a b j = (a < n) × (b < n) × (j < n) × Adds (meaning (take n fs) os a) (meaning (take n fs) os b) (meaning (take n fs) os j)

      go : (a b j : ℕ) → SamePair a b x y → j ≡ k → Right a b j
      go a b j (inl e) f = subst (Right a b) (sym f) (subst (λ z. Right a z k) (sym e.1) (subst (λ z. Right z y k) (sym e.0) (p, q, r, adds)))
      go a b j (inr e) f = subst (Right a b) (sym f) (subst (λ z. Right a z k) (sym e.1) (subst (λ z. Right z x k) (sym e.0) (q, p, r, adds_turned adds)))

-- Looking a row up along the links of its bucket.
use Rattle.std.proofs.Common.{◌≡◌, ℕ, suc, ◌+◌, ◌*◌, ◌%◌, ◌<◌, ◌≤◌, true, false, List, [], ◌∷◌, ◌++◌, length, take, refl, sym, ◌∙◌, subst, arith}
use Rattle.std.proofs.lemmas.List.{length-take-le}
use Rattle.forms.specs.declared.rows.Form.{Form}
use Rattle.forms.specs.Rows.{row_of}
use Rattle.forms.specs.Links.{mixed, bucket_of, head_of, next_at, Leads, here, on, Table}
use Rattle.forms.specs.Growth.{IsRow}

-- one entry more is mixed in
pub mixed_push : (start : ℕ) (xs : List ℕ) (x : ℕ) → mixed start (xs ++ x ∷ []) ≡ (mixed start xs * 40503 + x + 1) % 65521
mixed_push start [] x = refl
mixed_push start (y ∷ ys) x = mixed_push ((start * 40503 + y + 1) % 65521) ys x

-- how many forms are in use
pub use_length : (fs : List Form) (os : List ℕ) (n : ℕ) → Table fs os n → length (take n fs) ≡ n
use_length fs os n t = length-take-le n fs t.within

-- a link that leads to another form than the one it names, leads there from the next
pub leads_on : {fs : List Form} {j k : ℕ} → Leads fs j (suc k) → (k ≡ j → ⊥) → Leads fs j (next_at fs k)
leads_on here other = absurd (other refl)
leads_on (on k rest) other = rest

-- no link leads nowhere
pub leads_none : {fs : List Form} {j a : ℕ} → Leads fs j a → a ≤ 0 → ⊥
leads_none here h = omega arith
leads_none (on i rest) h = omega arith

module _ (fs : List Form) (os : List ℕ) (n : ℕ) (t : Table fs os n) (us ls : List ℕ) where
  -- a form with these rows is linked from their bucket
  pub from_bucket : (b : ℕ) → b ≡ bucket_of (length fs) us ls → (k : ℕ) → k < length (take n fs) → IsRow (take n fs) os us ls k → Leads fs k (head_of fs b)
  from_bucket b e k h is =
      let low : k < n = subst (λ m. k < m) (use_length fs os n t) h in
      let same : bucket_of (length fs) (row_of (take n fs) os true k) (row_of (take n fs) os false k) ≡ b = (λ i. bucket_of (length fs) (is true i) (is false i)) ∙ sym e in
      subst (λ c. Leads fs k (head_of fs c)) same (t.linked k low)

  -- the walk goes on past a form that does not have them
  pub past : (j : ℕ) → ((k : ℕ) → k < length (take n fs) → IsRow (take n fs) os us ls k → Leads fs k (suc j)) → (IsRow (take n fs) os us ls j → ⊥) →
      (k : ℕ) → k < length (take n fs) → IsRow (take n fs) os us ls k → Leads fs k (next_at fs j)
  past j leads other k h is = leads_on (leads k h is) (λ e. other (subst (IsRow (take n fs) os us ls) (sym e) is))

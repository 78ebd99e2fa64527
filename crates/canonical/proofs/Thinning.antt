-- Dominated forms struck from a row, one after the other.
use Rattle.std.proofs.Common.{◌≡◌, ℕ, zero, suc, ◌+◌, ◌<◌, ◌≤◌, ◌⊎◌, List, [], ◌∷◌, ◌++◌, length, get_or, take, drop, sym, ◌∙◌, subst, inl, inr, arith}
use Rattle.std.specs.List.{ContainsAt as Has, AllByRecursion as Every}
use Rattle.std.proofs.lemmas.List.{drop_more, drop_all, take_more}
use Rattle.std.proofs.ByRecursion.{all-has, All-from_get_or, has_get_or, has_push, has_append_left, has_push_cases}
use Rattle.games.specs.Game.{Side}
use Rattle.games.specs.Order.{Worse, NotWorse}
use Rattle.games.proofs.Sides.{worse_refl, worse_trans, worse_not_both}
use Rattle.forms.specs.declared.rows.Form.{Form}
use Rattle.forms.specs.Rows.{Rising}
use Rattle.forms.specs.Meaning.{meaning}
use Rattle.forms.proofs.Risings.{has_here, has_there, has_cases, has_none}
use Rattle.canonical.specs.Reducing.{Thinned}
use Rattle.canonical.proofs.Inserting.{rising_append, has_take}

-- what holds of each number that a row has, holds of all
pub all_from_has : (P : ℕ → Type 0) (xs : List ℕ) → ((w : ℕ) → Has xs w → P w) → Every P xs
all_from_has P xs each = All-from_get_or P xs 0 (λ i h. each (get_or xs i 0) (has_get_or xs i 0 h))

-- the numbers before a place of a rising row are lower
pub before_lower : (i : ℕ) (xs : List ℕ) → Rising xs → i < length xs → Every (λ w. w < get_or xs i 0) (take i xs)
before_lower zero xs up h = tt
before_lower (suc i) [] up h = tt
before_lower (suc i) (x ∷ xs) up h =
    let k : i < length xs = omega arith in
    (all-has (λ y. x < y) xs (get_or xs i 0) up.0 (has_get_or xs i 0 k), before_lower i xs up.1 k)

-- i forms of a row have been looked at, and best is what stays of them
pub record Thinning (fs : List Form) (os : List ℕ) (s : Side) (row best : List ℕ) (i : ℕ) : Type 0 where
  pub rising : Rising best
  pub from : (w : ℕ) → Has best w → Has (take i row) w
  pub cover : (w : ℕ) → Has row w → (v : ℕ) × (Has best v ⊎ Has (drop i row) v) × Worse s (meaning fs os w) (meaning fs os v)
  pub apart : (x y : ℕ) → Has best x → Has best y ⊎ Has (drop i row) y → Worse s (meaning fs os x) (meaning fs os y) → x ≡ y

module _ (fs : List Form) (os : List ℕ) (s : Side) (row : List ℕ) where
  pub thinning_none : Thinning fs os s row [] 0
  thinning_none = record { rising = tt; from = λ w h. absurd (has_none h); cover = λ w h. (w, inr h, worse_refl s (meaning fs os w)); apart = λ x y h. absurd (has_none h) }

  module _ (best : List ℕ) (i : ℕ) (h : i < length row) (t : Thinning fs os s row best i) where
    abbrev x : ℕ
    x = get_or row i 0

    -- the next form, or one after it
    next : (w : ℕ) → Has (drop i row) w → (x ≡ w) ⊎ Has (drop (i + 1) row) w
    next w k = has_cases x w (drop (i + 1) row) (subst (λ l. Has l w) (drop_more row i 0 h) k)

    later : (w : ℕ) → Has (drop (i + 1) row) w → Has (drop i row) w
    later w k = subst (λ l. Has l w) (sym (drop_more row i 0 h)) (has_there x w (drop (i + 1) row) k)

    this : Has (drop i row) x
    this = subst (λ l. Has l x) (sym (drop_more row i 0 h)) (has_here x (drop (i + 1) row))

    taken : (w : ℕ) → Has (take i row) w → Has (take (i + 1) row) w
    taken w k = subst (λ l. Has l w) (sym (take_more row i 0 h)) (has_append_left (take i row) (x ∷ []) w k)

    -- it is dominated, and struck
    pub struck : (y : ℕ) → Has best y ⊎ Has (drop (i + 1) row) y → Worse s (meaning fs os x) (meaning fs os y) → Thinning fs os s row best (i + 1)
    struck y in-y p =
        record {
          rising = t.rising;
          from = λ w k. taken w (t.from w k);
          cover = λ w k. covers w (t.cover w k);
          apart = λ a b ka kb. t.apart a b ka (elim kb [ inl k ↦ inl k | inr k ↦ inr (later b k) ]);
        }
      where
        Goal : ℕ → Type 0
        Goal w = (v : ℕ) × (Has best v ⊎ Has (drop (i + 1) row) v) × Worse s (meaning fs os w) (meaning fs os v)

        covers : (w : ℕ) → (v : ℕ) × (Has best v ⊎ Has (drop i row) v) × Worse s (meaning fs os w) (meaning fs os v) → (v : ℕ) × (Has best v ⊎ Has (drop (i + 1) row) v) × Worse s (meaning fs os w) (meaning fs os v)
        covers w (v, inl k, q) = (v, inl k, q)
        covers w (v, inr k, q) =
            elim (next v k) [
              | inl e ↦ (y, in-y, worse_trans s (meaning fs os w) (meaning fs os v) (meaning fs os y) q (subst (λ u. Worse s (meaning fs os u) (meaning fs os y)) e p))
              | inr j ↦ (v, inr j, q)
            ]

    -- it is not, and stays
    pub stayed : Rising row → ((y : ℕ) → Has best y → NotWorse s (meaning fs os x) (meaning fs os y)) → ((y : ℕ) → Has (drop (i + 1) row) y → NotWorse s (meaning fs os x) (meaning fs os y)) →
        (new : List ℕ) → new ≡ best ++ x ∷ [] → Thinning fs os s row new (i + 1)
    stayed up over-best over-rest new e =
        subst (λ l. Thinning fs os s row l (i + 1)) (sym e)
        (record { rising = rises; from = from; cover = λ w k. covers w (t.cover w k); apart = apart })
      where
        rises : Rising (best ++ x ∷ [])
        rises =
            rising_append best (x ∷ []) t.rising (tt, tt)
            (all_from_has (λ w. Every (λ y. w < y) (x ∷ [])) best (λ w k. (all-has (λ w. w < x) (take i row) w (before_lower i row up h) (t.from w k), tt)))

        from : (w : ℕ) → Has (best ++ x ∷ []) w → Has (take (i + 1) row) w
        from w k =
            elim (has_push_cases best x w k) [
              | inl j ↦ taken w (t.from w j)
              | inr same ↦ subst (λ l. Has l w) (sym (take_more row i 0 h)) (subst (Has (take i row ++ x ∷ [])) same (has_push (take i row) x))
            ]

        covers : (w : ℕ) → (v : ℕ) × (Has best v ⊎ Has (drop i row) v) × Worse s (meaning fs os w) (meaning fs os v) → (v : ℕ) × (Has (best ++ x ∷ []) v ⊎ Has (drop (i + 1) row) v) × Worse s (meaning fs os w) (meaning fs os v)
        covers w (v, inl k, q) = (v, inl (has_append_left best (x ∷ []) v k), q)
        covers w (v, inr k, q) = elim (next v k) [ inl same ↦ (v, inl (subst (Has (best ++ x ∷ [])) same (has_push best x)), q) | inr j ↦ (v, inr j, q) ]

        apart : (a b : ℕ) → Has (best ++ x ∷ []) a → Has (best ++ x ∷ []) b ⊎ Has (drop (i + 1) row) b → Worse s (meaning fs os a) (meaning fs os b) → a ≡ b
        apart a b ka kb p = go (has_push_cases best x a ka) (elim kb [ inl k ↦ inl (has_push_cases best x b k) | inr k ↦ inr k ])
          where
            go : Has best a ⊎ (x ≡ a) → (Has best b ⊎ (x ≡ b)) ⊎ Has (drop (i + 1) row) b → a ≡ b
            go (inl j) (inl (inl k)) = t.apart a b j (inl k) p
            go (inl j) (inl (inr same)) = t.apart a b j (inr (subst (Has (drop i row)) same this)) p
            go (inl j) (inr k) = t.apart a b j (inr (later b k)) p
            go (inr same) (inl (inl k)) = absurd (worse_not_both s (meaning fs os a) (meaning fs os b) p (subst (λ u. NotWorse s (meaning fs os u) (meaning fs os b)) same (over-best b k)))
            go (inr same) (inl (inr other)) = sym same ∙ other
            go (inr same) (inr k) = absurd (worse_not_both s (meaning fs os a) (meaning fs os b) p (subst (λ u. NotWorse s (meaning fs os u) (meaning fs os b)) same (over-rest b k)))

  -- all have been looked at
  pub thinned : (best : List ℕ) (i : ℕ) → length row ≤ i → Thinning fs os s row best i → Thinned fs os s row best
  thinned best i h t =
      record {
        rising = t.rising;
        from = λ w k. has_take i row w (t.from w k);
        cover = λ w k. covers w (t.cover w k);
        apart = λ x y j k. t.apart x y j (inl k);
      }
    where
      covers : (w : ℕ) → (v : ℕ) × (Has best v ⊎ Has (drop i row) v) × Worse s (meaning fs os w) (meaning fs os v) → (v : ℕ) × Has best v × Worse s (meaning fs os w) (meaning fs os v)
      covers w (v, inl k, q) = (v, k, q)
      covers w (v, inr k, q) = absurd (has_none (subst (λ l. Has l v) (drop_all i row h) k))

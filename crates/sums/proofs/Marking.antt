-- Marking numbers, and all that is reached from a form.
use Rattle.std.proofs.Common.{◌≡◌, ℕ, zero, suc, ◌+◌, ◌-◌, ◌<◌, ◌≤◌, Bool, true, false, ◌⊎◌, List, [], ◌∷◌, ◌++◌, length, get_or, take, set, replicate, sym, refl, ◌∙◌, subst, inl, inr, ⊎_elim, arith}
use Rattle.std.specs.List.{ContainsAt as Has, AllByRecursion as Every}
use Rattle.std.proofs.lemmas.List.{get_or-set_same, get_or-set_other, get_or_past, take_more, take_all, length-set}
use Rattle.std.proofs.ByRecursion.{has_push, has_push_cases, has_append_left, all-has, All-weaker}
use Rattle.std.proofs.lemmas.Bool.{cases_lt, cases_eq, both_ways}
use Rattle.games.specs.Game.{Side, Game, options, In, Reached, itself, onward}
use Rattle.games.proofs.Forms.{reached_trans}
use Rattle.forms.specs.declared.rows.Form.{Form}
use Rattle.forms.specs.Rows.{row_of, Rising}
use Rattle.forms.specs.Meaning.{meaning}
use Rattle.forms.specs.Soundness.{Sound}
use Rattle.forms.proofs.Risings.{has_none}
use Rattle.forms.proofs.Meanings.{in_row, from_row}
use Rattle.canonical.proofs.Inserting.{rising_append}
use Rattle.canonical.proofs.Thinning.{all_from_has}
use Rattle.sums.specs.Reaching.{Marked, MarksRow, ListsMarked, Reaches}

-- the numbers of one place more of a row
pub has_more : (xs : List ℕ) (i w : ℕ) → i < length xs → Has (take i xs) w → Has (take (i + 1) xs) w
has_more xs i w h k = subst (λ l. Has l w) (sym (take_more xs i 0 h)) (has_append_left (take i xs) (get_or xs i 0 ∷ []) w k)

pub has_last : (xs : List ℕ) (i : ℕ) → i < length xs → Has (take (i + 1) xs) (get_or xs i 0)
has_last xs i h = subst (λ l. Has l (get_or xs i 0)) (sym (take_more xs i 0 h)) (has_push (take i xs) (get_or xs i 0))

pub has_more_cases : (xs : List ℕ) (i w : ℕ) → i < length xs → Has (take (i + 1) xs) w → Has (take i xs) w ⊎ (get_or xs i 0 ≡ w)
has_more_cases xs i w h k = has_push_cases (take i xs) (get_or xs i 0) w (subst (λ l. Has l w) (take_more xs i 0 h) k)

pub marks_none : (old : List Bool) → MarksRow old [] old
marks_none old = record { long = refl; stays = λ w m. m; has = λ w h. absurd (has_none h); only = λ w m. inl m }

pub marks_more : (old : List Bool) (row : List ℕ) (i : ℕ) (now : List Bool) → i < length row → get_or row i 0 < length now →
    MarksRow old (take i row) now → MarksRow old (take (i + 1) row) (set now (get_or row i 0) true)
marks_more old row i now h low m = record {
  long = length-set now (get_or row i 0) true ∙ m.long;
  stays = λ w k. stays w (m.stays w k);
  has = λ w k. ⊎_elim (λ before. stays w (m.has w before)) (λ same. subst (Marked (set now (get_or row i 0) true)) same (get_or-set_same now (get_or row i 0) true false low)) (has_more_cases row i w h k);
  only = λ w k.
      ⊎_elim
      (λ same. inr (subst (Has (take (i + 1) row)) (sym same) (has_last row i h)))
      (λ other. ⊎_elim (λ before. inl before) (λ y. inr (has_more row i w h y)) (m.only w (sym (get_or-set_other now (get_or row i 0) w true false other) ∙ k)))
      (cases_eq w (get_or row i 0));
}
  where
    stays : (w : ℕ) → Marked now w → Marked (set now (get_or row i 0) true) w
    stays w k =
        ⊎_elim
        (λ same. subst (Marked (set now (get_or row i 0) true)) (sym same) (get_or-set_same now (get_or row i 0) true false low))
        (λ other. get_or-set_other now (get_or row i 0) w true false other ∙ k)
        (cases_eq w (get_or row i 0))

pub marks_all : (old : List Bool) (row : List ℕ) (i : ℕ) (now : List Bool) → length row ≤ i → MarksRow old (take i row) now → MarksRow old row now
marks_all old row i now h m = subst (λ l. MarksRow old l now) (take_all i row h) m

-- the marked numbers below k are listed
pub record Listing (marks : List Bool) (k : ℕ) (row : List ℕ) : Type 0 where
  pub rising : Rising row
  pub right : (w : ℕ) → Has row w → (w < k) × Marked marks w
  pub whole : (w : ℕ) → w < k → Marked marks w → Has row w

pub listing_none : (marks : List Bool) → Listing marks 0 []
listing_none marks = record { rising = tt; right = λ w h. absurd (has_none h); whole = λ w h. absurd (omega arith) }

pub listing_skip : (marks : List Bool) (k : ℕ) (row : List ℕ) → get_or marks k false ≡ false → Listing marks k row → Listing marks (k + 1) row
listing_skip marks k row e l = record {
  rising = l.rising;
  right = λ w h. let r = l.right w h in (let x = r.0 in omega arith, r.1);
  whole = λ w h m.
      ⊎_elim (λ low. l.whole w low m) (λ high. let same : w ≡ k = omega arith in absurd (both_ways (get_or marks k false) e (subst (Marked marks) same m))) (cases_lt w k);
}

pub listing_more : (marks : List Bool) (k : ℕ) (row : List ℕ) → get_or marks k false ≡ true → Listing marks k row → Listing marks (k + 1) (row ++ k ∷ [])
listing_more marks k row e l = record {
  rising = rising_append row (k ∷ []) l.rising (tt, tt) (all_from_has (λ x. Every (λ y. x < y) (k ∷ [])) row (λ w h. ((l.right w h).0, tt)));
  right = λ w h.
      ⊎_elim (λ old. let r = l.right w old in (let x = r.0 in omega arith, r.1)) (λ same. (omega arith, subst (Marked marks) same e)) (has_push_cases row k w h);
  whole = λ w h m.
      ⊎_elim (λ low. has_append_left row (k ∷ []) w (l.whole w low m)) (λ high. let same : k ≡ w = omega arith in subst (Has (row ++ k ∷ [])) same (has_push row k)) (cases_lt w k);
}

pub listing_all : (marks : List Bool) (k : ℕ) (row : List ℕ) → length marks ≤ k → Listing marks k row → ListsMarked marks row
listing_all marks k row h l = record {
  rising = l.rising;
  whole = λ w. (λ y. (l.right w y).1, λ m. l.whole w (below w m) m);
}
  where
    below : (w : ℕ) → Marked marks w → w < k
    below w m = ⊎_elim (λ low. low) (λ high. absurd (both_ways (get_or marks w false) (get_or_past marks w false (omega arith)) m)) (cases_lt w k)

-- form t is marked, and from it marks have come down to k
pub record Marking (fs : List Form) (os : List ℕ) (t k : ℕ) (marks : List Bool) : Type 0 where
  pub low : k ≤ t + 1
  pub long : length marks ≡ t + 1
  pub start : Marked marks t
  pub right : (w : ℕ) → Marked marks w → (w ≤ t) × Reached (meaning fs os t) (meaning fs os w)
  pub closed : (w : ℕ) → k ≤ w → Marked marks w → (s : Side) (x : ℕ) → Has (row_of fs os s w) x → Marked marks x

none_marked : (n w : ℕ) → get_or (replicate n false) w false ≡ false
none_marked zero w = refl
none_marked (suc n) zero = refl
none_marked (suc n) (suc w) = none_marked n w

module _ (fs : List Form) (os : List ℕ) (t : ℕ) where
  pub marking_start : (marks : List Bool) → marks ≡ replicate (t + 1) false → length marks ≡ t + 1 → Marking fs os t (t + 1) (set marks t true)
  marking_start marks e long = record {
    low = omega arith;
    long = length-set marks t true ∙ long;
    start = get_or-set_same marks t true false (omega arith);
    right = λ w m. let same = only w m in (omega arith, subst (λ x. Reached (meaning fs os t) (meaning fs os x)) (sym same) itself);
    closed = λ w h m. let same = only w m in absurd (omega arith);
  }
    where
      only : (w : ℕ) → Marked (set marks t true) w → w ≡ t
      only w m =
          ⊎_elim (λ same. same)
          (λ other. absurd (both_ways (get_or marks w false) (subst (λ l. get_or l w false ≡ false) (sym e) (none_marked (t + 1) w)) (sym (get_or-set_other marks t w true false other) ∙ m)))
          (cases_eq w t)

  pub marking_skip : (k : ℕ) (marks : List Bool) → 0 < k → get_or marks (k - 1) false ≡ false → Marking fs os t k marks → Marking fs os t (k - 1) marks
  marking_skip k marks pos e m = record {
    low = let x = m.low in omega arith;
    long = m.long;
    start = m.start;
    right = m.right;
    closed = λ w h y.
        ⊎_elim (λ low. let same : w ≡ k - 1 = omega arith in absurd (both_ways (get_or marks (k - 1) false) e (subst (Marked marks) same y))) (λ high. m.closed w high y) (cases_lt w k);
  }

  pub marking_more : Sound fs os → t < length fs → (k : ℕ) (marks ups downs : List Bool) (us ls : List ℕ) → 0 < k → get_or marks (k - 1) false ≡ true →
      us ≡ row_of fs os true (k - 1) → ls ≡ row_of fs os false (k - 1) → MarksRow marks us ups → MarksRow ups ls downs → Marking fs os t k marks → Marking fs os t (k - 1) downs
  marking_more sound known k marks ups downs us ls pos e ue le a b m = record {
    low = let x = m.low in omega arith;
    long = b.long ∙ a.long ∙ m.long;
    start = b.stays t (a.stays t m.start);
    right = λ w y. ⊎_elim (λ z. ⊎_elim (m.right w) (λ h. new true w (subst (λ l. Has l w) ue h)) (a.only w z)) (λ h. new false w (subst (λ l. Has l w) le h)) (b.only w y);
    closed = λ w h y s x i.
        ⊎_elim
        (λ low. let same : w ≡ k - 1 = omega arith in row_marked s x (subst (λ j. Has (row_of fs os s j) x) same i))
        (λ high. b.stays x (a.stays x (m.closed w high (old w high y) s x i)))
        (cases_lt w k);
  }
    where
      low : k - 1 < length fs
      low = let x = (m.right (k - 1) e).0 in omega arith

      less : (s : Side) (w : ℕ) → Has (row_of fs os s (k - 1)) w → w < k - 1
      less s w h = all-has (λ x. x < k - 1) (row_of fs os s (k - 1)) w (sound.below s (k - 1) low) h

      row_marked : (s : Side) (x : ℕ) → Has (row_of fs os s (k - 1)) x → Marked downs x
      row_marked true x h = b.stays x (a.has x (subst (λ l. Has l x) (sym ue) h))
      row_marked false x h = b.has x (subst (λ l. Has l x) (sym le) h)

      old : (w : ℕ) → k ≤ w → Marked downs w → Marked marks w
      old w high y =
          ⊎_elim (λ z. ⊎_elim (λ o. o) (λ h. let x = less true w (subst (λ l. Has l w) ue h) in absurd (omega arith)) (a.only w z))
          (λ h. let x = less false w (subst (λ l. Has l w) le h) in absurd (omega arith)) (b.only w y)

      new : (s : Side) (w : ℕ) → Has (row_of fs os s (k - 1)) w → (w ≤ t) × Reached (meaning fs os t) (meaning fs os w)
      new s w h =
          let r = m.right (k - 1) e in
          (let x = r.0 in let y = less s w h in omega arith, reached_trans r.1 (onward s (all-has (λ x. In (meaning fs os x) (options s (meaning fs os (k - 1)))) (row_of fs os s (k - 1)) w (in_row fs os sound s (k - 1) low) h) itself))

  -- the options of the next form have marks of their own
  pub options_low : Sound fs os → t < length fs → (k : ℕ) (marks : List Bool) → 0 < k → Marking fs os t k marks → (s : Side) (row : List ℕ) (n : ℕ) → row ≡ row_of fs os s (k - 1) → n ≡ length marks → Every (λ x. x < n) row
  options_low sound known k marks pos m s row n e same =
      let low = m.low in
      let long = m.long in
      subst (Every (λ x. x < n)) (sym e) (All-weaker (λ x. x < k - 1) (λ x. x < n) (λ x h. omega arith) (row_of fs os s (k - 1)) (sound.below s (k - 1) (omega arith)))

  -- all that is reached from a marked form is marked
  all_marked : Sound fs os → t < length fs → (marks : List Bool) → Marking fs os t 0 marks → {g h : Game} → Reached g h → (w : ℕ) → Marked marks w → meaning fs os w ≡ g → (x : ℕ) × Marked marks x × (meaning fs os x ≡ h)
  all_marked sound known marks m itself w y e = (w, y, e)
  all_marked sound known marks m (onward {h = h} s i r) w y e =
      let x = from_row fs os sound s w (let l = (m.right w y).0 in omega arith) h (subst (λ z. In h (options s z)) (sym e) i) in
      all_marked sound known marks m r x.0 (m.closed w (omega arith) y s x.0 x.1) x.2

  pub reaches : Sound fs os → t < length fs → (k : ℕ) (marks : List Bool) (row : List ℕ) → k ≤ 0 → Marking fs os t k marks → ListsMarked marks row → Reaches fs os t row
  reaches sound known k marks row none m l = record {
    rising = l.rising;
    right = λ w h. let r = m.right w ((l.whole w).0 h) in (let x = r.0 in omega arith, r.1);
    whole = λ g r. let x = all_marked sound known marks end r t m.start refl in (x.0, (l.whole x.0).1 x.1, x.2);
  }
    where
      end : Marking fs os t 0 marks
      end = let same : k ≡ 0 = omega arith in subst (λ j. Marking fs os t j marks) same m

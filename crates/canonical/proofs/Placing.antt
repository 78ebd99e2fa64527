-- The form of a canonical game that is given by its rows: found, added, or refused.
use Rattle.std.proofs.Common.{◌≡◌, ℕ, ◌+◌, ◌<◌, ◌≤◌, true, false, ◌⊎◌, List, length, get_or, take, Ok, Err, Result, sym, refl, ap, ◌∙◌, subst, inl, inr, arith}
use Rattle.std.specs.List.{ContainsAt as Has}
use Rattle.std.proofs.lemmas.List.{get_or-take, length-take-le}
use Rattle.std.proofs.ByRecursion.{All-get_or, all-has, All-weaker, has_get_or}
use Rattle.std.proofs.lemmas.Bool.{cases_order}
use Rattle.games.specs.Game.{Side, Game, game, options, In}
use Rattle.games.specs.Order.{Equal}
use Rattle.games.specs.Count.{Wide, NotWide}
use Rattle.games.proofs.Sides.{equal_refl, equal_sym, equal_trans}
use Rattle.games.proofs.Forms.{matched}
use Rattle.games.proofs.Counting.{not_wide}
use Rattle.forms.specs.declared.rows.Form.{Form}
use Rattle.forms.specs.Held.{Lent}
use Rattle.forms.specs.Rows.{Rising, row_of, row_for}
use Rattle.forms.specs.Meaning.{listed, meaning, given}
use Rattle.forms.specs.Soundness.{Sound, Known}
use Rattle.forms.specs.Links.{Table}
use Rattle.forms.specs.Growth.{IsRow, Absent, Fresh, Kept}
use Rattle.forms.specs.Values.{IsTable, in_use, game_in}
use Rattle.forms.proofs.Risings.{rising_same}
use Rattle.forms.proofs.Meanings.{listed_same, meaning_rows, in_row, from_row}
use Rattle.forms.proofs.Numbers.{same_number}
use Rattle.forms.proofs.Chains.{use_length}
use Rattle.forms.proofs.Growing.{kept_refl}
use Rattle.forms.proofs.Givens.{given_options, in_given, from_given}
use Rattle.canonical.specs.declared.canonical.Refusal.{Refusal}
use Rattle.canonical.specs.declared.canonical.Refusal.TheVariants.{Full, Wide as TooWide, NoMemory}
use Rattle.canonical.specs.Reducing.{Reduction}
use Rattle.canonical.specs.Answers.{IsTooWide, Answered, Refused, Outcome}
use Rattle.canonical.proofs.Thinning.{before_lower}

-- a rising row has no number twice
rising_less : (xs : List ℕ) → Rising xs → (i j : ℕ) → i < j → j < length xs → get_or xs i 0 < get_or xs j 0
rising_less xs up i j less h =
    let long : length (take j xs) ≡ j = length-take-le j xs (omega arith) in
    subst (λ a. a < get_or xs j 0) (get_or-take j xs i 0 less) (All-get_or (λ a. a < get_or xs j 0) (take j xs) i 0 (omega arith) (before_lower j xs up h))

rising_index : (xs : List ℕ) → Rising xs → (i j : ℕ) → i < length xs → j < length xs → get_or xs i 0 ≡ get_or xs j 0 → i ≡ j
rising_index xs up i j hi hj e =
    elim (cases_order i j) [
      | inl same ↦ same
      | inr (inl less) ↦ (let l = rising_less xs up i j less hj in absurd (omega arith))
      | inr (inr more) ↦ (let l = rising_less xs up j i more hi in absurd (omega arith))
    ]

-- a game is what each side may make of it
split : (g : Game) → game (options true g) (options false g) ≡ g
split (game l r) = refl

same_options : (g h : Game) → ((s : Side) → options s g ≡ options s h) → g ≡ h
same_options g h e = sym (split g) ∙ (λ i. game (e true i) (e false i)) ∙ split h

module _ (fs : List Form) (os : List ℕ) (sound : Sound fs os) (us ls : List ℕ) where
  -- a form with these rows means the game that they give
  pub is_given : (k : ℕ) → k < length fs → IsRow fs os us ls k → meaning fs os k ≡ given fs os us ls
  is_given k h is = same_options (meaning fs os k) (given fs os us ls) (λ s. meaning_rows fs os sound s k h ∙ ap (listed (meaning fs os)) (is s) ∙ sym (given_options fs os us ls s))

  module _ (red : Reduction fs os us ls) where
    -- a form equal to that game has these rows
    pub has_rows : (k : ℕ) → k < length fs → Equal (meaning fs os k) (given fs os us ls) → IsRow fs os us ls k
    has_rows k h e s = rising_same (row_of fs os s k) (row_for s us ls) (sound.rising s k h) (red.rising s) forth back
      where
        known : (z : ℕ) → Has (row_for s us ls) z → z < length fs
        known z i = all-has (λ x. x < length fs) (row_for s us ls) z (red.known s) i

        known' : (z : ℕ) → Has (row_of fs os s k) z → z < length fs
        known' z i = let low = all-has (λ x. x < k) (row_of fs os s k) z (sound.below s k h) i in omega arith

        forth : (z : ℕ) → Has (row_of fs os s k) z → Has (row_for s us ls) z
        forth z i =
            let at = all-has (λ x. In (meaning fs os x) (options s (meaning fs os k))) (row_of fs os s k) z (in_row fs os sound s k h) i in
            let m = matched s (meaning fs os k) (given fs os us ls) (sound.canonical k h) red.canonical e (meaning fs os z) at in
            let r = from_given fs os us ls s m.0 m.1 in
            let eq = subst (Equal (meaning fs os z)) (sym r.2) m.2 in
            subst (Has (row_for s us ls)) (sym (same_number fs os sound z r.0 (known' z i) (known r.0 r.1) eq)) r.1

        back : (z : ℕ) → Has (row_for s us ls) z → Has (row_of fs os s k) z
        back z i =
            let m = matched s (given fs os us ls) (meaning fs os k) red.canonical (sound.canonical k h) (equal_sym e) (meaning fs os z) (in_given fs os us ls s z i) in
            let r = from_row fs os sound s k h m.0 m.1 in
            let eq = subst (Equal (meaning fs os z)) (sym r.2) m.2 in
            subst (Has (row_of fs os s k)) (sym (same_number fs os sound z r.0 (known z i) (known' r.0 r.1) eq)) r.1

    -- more than 16 options of a side
    pub wide : (s : Side) → 16 < length (row_for s us ls) → IsTooWide (given fs os us ls)
    unfolding Wide
    wide s h =
        let row = row_for s us ls in
        let within : (i : ℕ) → i ≤ 16 → i < length row = λ i le. omega arith in
        let low : (i : ℕ) → i ≤ 16 → get_or row i 0 < length fs = λ i le. All-get_or (λ x. x < length fs) row i 0 (within i le) (red.known s) in (
          given fs os us ls,
          red.canonical,
          equal_refl (given fs os us ls),
          (
            s,
            λ i. meaning fs os (get_or row i 0),
            λ i le. in_given fs os us ls s (get_or row i 0) (has_get_or row i 0 (within i le)),
            λ i j hi hj e. rising_index row (red.rising s) i j (within i hi) (within j hj) (same_number fs os sound (get_or row i 0) (get_or row j 0) (low i hi) (low j hj) e),
          ),
        )

    -- at most 16 for each
    pub narrow : ((s : Side) → length (row_for s us ls) ≤ 16) → IsTooWide (given fs os us ls) → ⊥
    unfolding NotWide
    narrow few (f, c, e, w) =
        not_wide 16 f (given fs os us ls) c red.canonical (equal_sym e)
        (λ s. (
          length (row_for s us ls),
          λ i. meaning fs os (get_or (row_for s us ls) i 0),
          few s,
          λ x i. let r = from_given fs os us ls s x i in (r.1.0, r.1.1, sym r.2 ∙ ap (meaning fs os) (sym (r.1.2 0))),
        )) w

-- the rows give the same game after the table has grown
pub given_kept : (fs : List Form) (os : List ℕ) (gs : List Form) (ps us ls : List ℕ) → Kept fs os gs ps → ((s : Side) → Known fs (row_for s us ls)) → given gs ps us ls ≡ given fs os us ls
given_kept fs os gs ps us ls kept known =
    same_options (given gs ps us ls) (given fs os us ls)
    (λ s.
    given_options gs ps us ls s
    ∙ listed_same (meaning gs ps) (meaning fs os) (row_for s us ls) (All-weaker (λ x. x < length fs) (λ x. meaning gs ps x ≡ meaning fs os x) kept.games (row_for s us ls) (known s))
    ∙ sym (given_options fs os us ls s))

-- what is answered for a game is answered for an equal one
pub outcome_equal : (t u : Lent) (g h : Game) → Equal g h → (r : Result ℕ Refusal) → Outcome t u h r → Outcome t u g r
outcome_equal t u g h e (Ok k) o =
    record {
      table = o.table;
      known = o.known;
      equal = equal_trans o.equal (equal_sym e);
      kept = o.kept;
      new = o.new;
      narrow = λ (f, c, q, w). o.narrow (f, c, equal_trans (equal_sym e) q, w);
    }
outcome_equal t u g h e (Err Full) o = (o.0, o.1, o.2, (o.3.0, λ k l q. o.3.1 k l (equal_trans q e), λ w. o.3.2 (w.0, w.1, equal_trans (equal_sym e) w.2, w.3)))
outcome_equal t u g h e (Err TooWide) o = (o.0, o.1, o.2, (o.3.0, o.3.1, equal_trans e o.3.2, o.3.3))
outcome_equal t u g h e (Err NoMemory) o = o

-- a bound of both rows
pub few_both : (us ls : List ℕ) → length us ≤ 16 → length ls ≤ 16 → (s : Side) → length (row_for s us ls) ≤ 16
few_both us ls p q true = p
few_both us ls p q false = q

module _ (fs : List Form) (os : List ℕ) (n : ℕ) (t : Table fs os n) (us ls : List ℕ) (red : Reduction (take n fs) os us ls) where
  pub placed_wide : (16 < length us) ⊎ ((length us ≤ 16) × (16 < length ls)) → IsTooWide (given (take n fs) os us ls)
  placed_wide (inl h) = wide (take n fs) os t.sound us ls red true h
  placed_wide (inr h) = wide (take n fs) os t.sound us ls red false h.1

  module _ (few : (s : Side) → length (row_for s us ls) ≤ 16) where
    pub placed_found : (k : ℕ) → (k < length (take n fs)) × IsRow (take n fs) os us ls k → Answered fs os n fs os (given (take n fs) os us ls) k n
    placed_found k found =
        record {
          table = t;
          known = subst (λ m. k < m) (use_length fs os n t) found.0;
          equal = subst (Equal (meaning (take n fs) os k)) (is_given (take n fs) os t.sound us ls k found.0 found.1) (equal_refl (meaning (take n fs) os k));
          kept = kept_refl (take n fs) os;
          new = inl (refl, refl, refl);
          narrow = narrow (take n fs) os t.sound us ls red few;
        }

    module _ (absent : Absent (take n fs) os us ls) where
      pub placed_full : n ≡ length fs → Refused fs os n (given (take n fs) os us ls) Full
      placed_full full = (
        full,
        λ k h e. let low = subst (λ m. k < m) (sym (use_length fs os n t)) h in absent k low (has_rows (take n fs) os t.sound us ls red k low e),
        narrow (take n fs) os t.sound us ls red few,
      )

      pub fresh : Fresh (take n fs) os us ls
      fresh = record { few = few; known = red.known; rising = red.rising; canonical = red.canonical; absent = absent }

    pub placed_new : (u : Lent) (k : ℕ) → k ≡ n → u.used ≡ n + 1 → IsTable u → Kept (take n fs) os (in_use u) u.options.now → IsRow (in_use u) u.options.now us ls k →
        Answered fs os n u.forms.now u.options.now (given (take n fs) os us ls) k u.used
    placed_new u k at more table kept is =
        let below : k < u.used = omega arith in
        let low : k < length (in_use u) = subst (λ m. k < m) (sym (use_length u.forms.now u.options.now u.used table)) below in
        let same = is_given (in_use u) u.options.now table.sound us ls k low is ∙ given_kept (take n fs) os (in_use u) u.options.now us ls kept red.known in
        record {
          table = table;
          known = below;
          equal = subst (Equal (game_in u k)) same (equal_refl (game_in u k));
          kept = kept;
          new = inr (more, at);
          narrow = narrow (take n fs) os t.sound us ls red few;
        }

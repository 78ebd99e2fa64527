-- Sound rows with one form more are sound, and the older forms are as they were.
use Rattle.std.proofs.Common.{◌≡◌, ℕ, suc, ◌+◌, ◌*◌, ◌<◌, ◌≤◌, true, false, ◌⊎◌, List, length, get_or, sym, refl, ap, ◌∙◌, subst, inl, inr, arith, below_more}
use Rattle.std.specs.List.{AllByRecursion as Every}
use Rattle.std.proofs.ByRecursion.{All-weaker}
use Rattle.std.proofs.lemmas.Bool.{cases_lt}
use Rattle.games.specs.Game.{Side, game}
use Rattle.games.specs.Canonical.{Canonical}
use Rattle.forms.specs.declared.rows.Form.{Form}
use Rattle.forms.specs.Held.{Lent}
use Rattle.forms.specs.Values.{IsTable, SameRows, Stays, in_use}
use Rattle.forms.specs.Rows.{blank, many, row_of, row_for, Rising}
use Rattle.forms.specs.Meaning.{listed, meant, meaning, given}
use Rattle.forms.specs.Soundness.{Sound}
use Rattle.forms.specs.Growth.{IsRow, Fresh, Kept}
use Rattle.forms.proofs.Meanings.{listed_same, meant_same, meaning_same}

-- a table keeps its own forms, and what is kept twice is kept
pub kept_refl : (fs : List Form) (os : List ℕ) → Kept fs os fs os
kept_refl fs os = record { longer = omega arith; rows = λ s k h. refl; games = λ k h. refl }

pub kept_trans :
    (fs : List Form) (os : List ℕ) (gs : List Form) (ps : List ℕ) (hs : List Form) (qs : List ℕ) → Kept fs os gs ps → Kept gs ps hs qs → Kept fs os hs qs
kept_trans fs os gs ps hs qs p q =
    let a = p.longer in
    let b = q.longer in
    record {
      longer = omega arith;
      rows = λ s k h. q.rows s k (omega arith) ∙ p.rows s k h;
      games = λ k h. q.games k (omega arith) ∙ p.games k h;
    }

module _
    (fs : List Form) (os : List ℕ) (gs : List Form) (ps us ls : List ℕ) (sound : Sound fs os) (fresh : Fresh fs os us ls) (long : length gs ≡ length fs + 1)
    (older : (s : Side) (k : ℕ) → k < length fs → row_of gs ps s k ≡ row_of fs os s k) (new : IsRow gs ps us ls (length fs)) where
  -- what holds of the older forms and of the new one, holds of all
  each : (P : ℕ → Type 0) → ((k : ℕ) → k < length fs → P k) → P (length fs) → (k : ℕ) → k < length gs → P k
  each P below here k h = below_more P (length fs) below here k (subst (λ n. k < n) long h)

  pub kept_more : Kept fs os gs ps
  kept_more = record { longer = omega arith; rows = older; games = meaning_same fs os gs ps (length fs) sound.below older }

  -- the new form means the game that the rows give
  pub meaning_new : meaning gs ps (length fs) ≡ given fs os us ls
  unfolding meaning given
  meaning_new =
      let row : (s : Side) → listed (meant (length fs) gs ps) (row_of gs ps s (length fs)) ≡ listed (meaning fs os) (row_for s us ls) =
      λ s.
      ap (listed (meant (length fs) gs ps)) (new s)
      ∙ listed_same (meant (length fs) gs ps) (meaning fs os) (row_for s us ls)
      (All-weaker (λ x. x < length fs) (λ x. meant (length fs) gs ps x ≡ meaning fs os x)
      (λ x less. sym (meant_same fs os gs ps (length fs) sound.below older (suc x) (length fs) x less (omega arith) less)) (row_for s us ls) (fresh.known s)) in
      λ i. game (row true i) (row false i)

  apart_more : (j k : ℕ) → j < length gs → k < length gs → ((s : Side) → row_of gs ps s j ≡ row_of gs ps s k) → j ≡ k
  apart_more j k hj hk same = go (cases_lt j (length fs)) (cases_lt k (length fs))
    where
      -- an older form does not have the new rows
      clash : (i m : ℕ) → i < length fs → m ≡ length fs → ((s : Side) → row_of gs ps s i ≡ row_of gs ps s m) → ⊥
      clash i m low e is = fresh.absent i low (λ s. sym (older s i low) ∙ is s ∙ ap (row_of gs ps s) e ∙ new s)

      go : (j < length fs) ⊎ (length fs ≤ j) → (k < length fs) ⊎ (length fs ≤ k) → j ≡ k
      go (inl p) (inl q) = sound.apart j k p q (λ s. sym (older s j p) ∙ same s ∙ older s k q)
      go (inl p) (inr q) = absurd (clash j k p (omega arith) same)
      go (inr p) (inl q) = absurd (clash k j q (omega arith) (λ s. sym (same s)))
      go (inr p) (inr q) = omega arith

  pub sound_more : 32 * length gs ≤ length ps → ((s : Side) (k : ℕ) → k < length gs → many s (get_or gs k blank) ≤ 16) → Sound gs ps
  sound_more room few =
      record {
        room = room;
        few = few;
        below =
            λ s.
            each (λ k. Every (λ x. x < k) (row_of gs ps s k)) (λ k h. subst (Every (λ x. x < k)) (sym (older s k h)) (sound.below s k h))
            (subst (Every (λ x. x < length fs)) (sym (new s)) (fresh.known s));
        rising = λ s. each (λ k. Rising (row_of gs ps s k)) (λ k h. subst Rising (sym (older s k h)) (sound.rising s k h)) (subst Rising (sym (new s)) (fresh.rising s));
        canonical = each (λ k. Canonical (meaning gs ps k)) (λ k h. subst Canonical (sym (kept_more.games k h)) (sound.canonical k h)) (subst Canonical (sym meaning_new) fresh.canonical);
        apart = apart_more;
      }

-- a table that stays in its rows, and stays in them
pub same_on : {t u v : Lent} → SameRows t u → SameRows u v → SameRows t v
same_on a b = record { forms = b.forms ∙ a.forms; options = b.options ∙ a.options; places = b.places ∙ a.places; space = b.space ∙ a.space }

-- and keeps what was in use
pub stays_same : (t : Lent) → IsTable t → Stays t t
stays_same t table = record { before = table; after = table; rows = record { forms = refl; options = refl; places = refl; space = refl }; kept = kept_refl (in_use t) t.options.now }

pub stays_on : {t u v : Lent} → Stays t u → Stays u v → Stays t v
stays_on {t} {u} {v} a b = record { before = a.before; after = b.after; rows = same_on a.rows b.rows; kept = kept_trans (in_use t) t.options.now (in_use u) u.options.now (in_use v) v.options.now a.kept b.kept }

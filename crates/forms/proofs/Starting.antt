-- A table of one form, the empty game.
use Rattle.std.proofs.Common.{◌≡◌, ℕ, ◌*◌, ◌<◌, ◌≤◌, true, false, List, [], length, get_or, take, drop, replicate, sym, refl, ap, ◌∙◌, subst, inl, inr, arith}
use Rattle.std.specs.List.{AllByRecursion as Every}
use Rattle.std.proofs.lemmas.List.{get_or-set_same, get_or-set_other, get_or-take, get_or-replicate, get_or_past, length-replicate, length-set, length-take-le}
use Rattle.std.proofs.lemmas.Bool.{cases_eq, cases_lt}
use Rattle.games.specs.Game.{Side, other, game, options, In, empty}
use Rattle.games.specs.Order.{Worse, NotWorse}
use Rattle.games.specs.Canonical.{Canonical, canonical}
use Rattle.forms.specs.declared.rows.Form.{Form}
use Rattle.forms.specs.Rows.{blank, many, place, row_of, Rising}
use Rattle.forms.specs.Meaning.{listed, meaning}
use Rattle.forms.specs.Soundness.{Sound}
use Rattle.forms.specs.Links.{bucket_of, link_number, head_of, next_at, Leads, here, Table}
use Rattle.forms.proofs.Linking.{set_keeps, marked}

empty_canonical : Canonical empty
empty_canonical =
    canonical (λ s x i. elim s as (λ t. In x (options t empty) → Canonical x) [ true ↦ λ j. elim j [ ] | false ↦ λ j. elim j [ ] ] i)
    (λ s x y i. elim s as (λ t. In x (options t empty) → In y (options t empty) → Worse t x y → x ≡ y) [ true ↦ λ j. elim j [ ] | false ↦ λ j. elim j [ ] ] i)
    (λ s x y i. elim s as (λ t. In x (options t empty) → In y (options (other t) x) → NotWorse t y empty) [ true ↦ λ j. elim j [ ] | false ↦ λ j. elim j [ ] ] i)

-- every place of a row of blank forms is blank, and every place past it
pub all_blank : (fs : List Form) (n : ℕ) → fs ≡ replicate n blank → (k : ℕ) → get_or fs k blank ≡ blank
all_blank fs n e k =
    ap (λ l. get_or l k blank) e
    ∙ elim (cases_lt k n) [
      | inl h ↦ get_or-replicate n k blank blank h
      | inr h ↦ get_or_past (replicate n blank) k blank (subst (λ m. m ≤ k) (sym (length-replicate n blank)) h)
    ]

-- what holds of form 0, holds of each of one form
only : (P : ℕ → Type 0) → P 0 → (k : ℕ) → k < 1 → P k
only P p k h = subst P (let e : 0 ≡ k = omega arith in e) p

module _
    (fs : List Form) (os : List ℕ) (cleared : (k : ℕ) → get_or fs k blank ≡ blank) (some : 0 < length fs) (few : length fs ≤ 16384) (space : 32 * length fs ≤ length os)
    (b : ℕ) (low : b < length fs) (is-bucket : b ≡ bucket_of (length fs) [] []) where
  abbrev gs : List Form
  gs = marked fs b 0

  long : length gs ≡ length fs
  long = length-set fs b _

  in_use : length (take 1 gs) ≡ 1
  in_use = length-take-le 1 gs (let l = long in omega arith)

  -- a property of form 0 is one of all forms in use
  all_in_use : (P : ℕ → Type 0) → P 0 → (k : ℕ) → k < length (take 1 gs) → P k
  all_in_use P p k h = only P p k (subst (λ m. k < m) in_use h)

  no_options : (s : Side) → many s (get_or (take 1 gs) 0 blank) ≡ 0
  no_options s = ap (many s) (get_or-take 1 gs 0 blank (omega arith)) ∙ go s
    where
      go : (s : Side) → many s (get_or gs 0 blank) ≡ 0
      go true = set_keeps (λ f. f.upright) fs b _ low refl 0 ∙ ap (λ (f : Form). f.upright) (cleared 0)
      go false = set_keeps (λ f. f.flat) fs b _ low refl 0 ∙ ap (λ (f : Form). f.flat) (cleared 0)

  no_row : (s : Side) → row_of (take 1 gs) os s 0 ≡ []
  unfolding row_of
  no_row s = ap (λ m. take m (drop (place s 0) os)) (no_options s)

  first_is_empty : meaning (take 1 gs) os 0 ≡ empty
  unfolding meaning
  first_is_empty = λ i. game (listed (λ k. empty) (no_row true i)) (listed (λ k. empty) (no_row false i))

  sound_start : Sound (take 1 gs) os
  sound_start =
      record {
        room = let l = in_use in omega arith;
        few = λ s. all_in_use (λ k. many s (get_or (take 1 gs) k blank) ≤ 16) (subst (λ m. m ≤ 16) (sym (no_options s)) (omega arith));
        below = λ s. all_in_use (λ k. Every (λ x. x < k) (row_of (take 1 gs) os s k)) (subst (Every (λ x. x < 0)) (sym (no_row s)) tt);
        rising = λ s. all_in_use (λ k. Rising (row_of (take 1 gs) os s k)) (subst Rising (sym (no_row s)) tt);
        canonical = all_in_use (λ k. Canonical (meaning (take 1 gs) os k)) (subst Canonical (sym first_is_empty) empty_canonical);
        apart = λ j k hj hk same. let l = in_use in omega arith;
      }

  head_at : head_of gs b ≡ 1
  head_at = ap (λ (f : Form). link_number f.head) (get_or-set_same fs b _ blank low)

  pub table_start : Table gs os 1
  table_start =
      record {
        started = omega arith;
        within = let l = long in omega arith;
        size = subst (λ m. m ≤ 16384) (sym long) few;
        space = let l = long in omega arith;
        sound = sound_start;
        heads =
            λ c h.
            elim (cases_eq c b) [
              | inl same ↦ (let e : head_of gs c ≡ 1 = ap (head_of gs) same ∙ head_at in omega arith)
              | inr other ↦ (let e : head_of gs c ≡ 0 = ap (λ (f : Form). link_number f.head) (get_or-set_other fs b c _ blank other) ∙ ap (λ (f : Form). link_number f.head) (cleared c) in omega arith)
            ];
        falls = λ k h. let e : next_at gs k ≡ 0 = set_keeps (λ f. link_number f.next) fs b _ low refl k ∙ ap (λ (f : Form). link_number f.next) (cleared k) in omega arith;
        linked =
            only (λ k. Leads gs k (head_of gs (bucket_of (length gs) (row_of (take 1 gs) os true k) (row_of (take 1 gs) os false k))))
            (let same : bucket_of (length gs) (row_of (take 1 gs) os true 0) (row_of (take 1 gs) os false 0) ≡ b = (λ i. bucket_of (long i) (no_row true i) (no_row false i)) ∙ sym is-bucket in
            subst (λ c. Leads gs 0 (head_of gs c)) (sym same) (subst (Leads gs 0) (sym head_at) here));
      }

-- The table after a form is added: its links, and with them the whole table.
use Rattle.std.proofs.Common.{◌≡◌, ℕ, suc, ◌+◌, ◌*◌, ◌<◌, ◌≤◌, true, false, ◌⊎◌, List, Some, length, get_or, take, drop, set, sym, refl, ap, ◌∙◌, subst, inl, inr, mod-lt, add-one, arith, below_more}
use Rattle.std.proofs.lemmas.List.{get_or-set_same, get_or-set_other, get_or-take, length-set, length-take-le}
use Rattle.std.proofs.lemmas.Bool.{cases_eq}
use Rattle.games.specs.Game.{Side}
use Rattle.forms.specs.declared.rows.Form.{Form}
use Rattle.forms.specs.Rows.{blank, many, place, row_of, row_for}
use Rattle.forms.specs.Soundness.{Sound}
use Rattle.forms.specs.Links.{bucket_of, link_number, head_of, next_at, Leads, here, on, Table}
use Rattle.forms.specs.Growth.{IsRow, Fresh, Kept}
use Rattle.forms.proofs.Windows.{window_same}
use Rattle.forms.proofs.Growing.{kept_more, sound_more}

-- a form is written that agrees with the one before it
pub set_keeps : (q : Form → ℕ) (fs : List Form) (b : ℕ) (f : Form) → b < length fs → q f ≡ q (get_or fs b blank) → (k : ℕ) → q (get_or (set fs b f) k blank) ≡ q (get_or fs k blank)
set_keeps q fs b f h e k =
    elim (cases_eq k b) [
      | inl same ↦ ap (λ i. q (get_or (set fs b f) i blank)) same ∙ ap q (get_or-set_same fs b f blank h) ∙ e ∙ ap (λ i. q (get_or fs i blank)) (sym same)
      | inr other ↦ ap q (get_or-set_other fs b k f blank other)
    ]

-- the same links below n lead to the same forms
leads_same : (fs gs : List Form) (n : ℕ) → ((k : ℕ) → k < n → next_at gs k ≡ next_at fs k) → ((k : ℕ) → k < n → next_at fs k ≤ k) → {j a : ℕ} → Leads fs j a → a ≤ n → Leads gs j a
leads_same fs gs n same falls here h = here
leads_same fs gs n same falls {j} (on i rest) h =
    let low = falls i (omega arith) in
    on i (subst (Leads gs j) (sym (same i (omega arith))) (leads_same fs gs n same falls rest (omega arith)))

-- the row of an older form after the row at n was written
row_older : (fs gs : List Form) (os ps : List ℕ) (n k : ℕ) (s : Side) → k < n → take (32 * n) ps ≡ take (32 * n) os → many s (get_or gs k blank) ≡ many s (get_or fs k blank) → many s (get_or fs k blank) ≤ 16 →
    row_of gs ps s k ≡ row_of fs os s k
unfolding row_of
row_older fs gs os ps n k true h e same few = ap (λ m. take m (drop (32 * k) ps)) same ∙ window_same (32 * n) (32 * k) (get_or fs k blank).upright ps os e (omega arith)
row_older fs gs os ps n k false h e same few = ap (λ m. take m (drop (32 * k + 16) ps)) same ∙ window_same (32 * n) (32 * k + 16) (get_or fs k blank).flat ps os e (omega arith)

pub bucket_below : (size : ℕ) (us ls : List ℕ) → 0 < size → bucket_of size us ls < size
unfolding bucket_of
bucket_below size us ls h = mod-lt _ h

-- the bucket's link set to the new form n, and the new form's own entry
abbrev pub marked : List Form → ℕ → ℕ → List Form
marked fs b n = set fs b (record { upright = (get_or fs b blank).upright; flat = (get_or fs b blank).flat; head = Some n; next = (get_or fs b blank).next })

abbrev pub grown : List Form → ℕ → ℕ → List ℕ → List ℕ → List Form
grown fs b n us ls = set (marked fs b n) n (record { upright = length us; flat = length ls; head = (get_or (marked fs b n) n blank).head; next = (get_or fs b blank).head })

module _
    (fs : List Form) (os : List ℕ) (n : ℕ) (us ls : List ℕ) (t : Table fs os n) (room : n < length fs) (fresh : Fresh (take n fs) os us ls)
    (b : ℕ) (low : b < length fs) (is-bucket : b ≡ bucket_of (length fs) us ls)
    (ps : List ℕ) (same_length : length ps ≡ length os) (before : take (32 * n) ps ≡ take (32 * n) os)
    (written : (s : Side) → take (length (row_for s us ls)) (drop (place s n) ps) ≡ row_for s us ls) where
  abbrev mid : List Form
  mid = marked fs b n

  abbrev gs : List Form
  gs = grown fs b n us ls

  long_mid : length mid ≡ length fs
  long_mid = length-set fs b _

  long : length gs ≡ length fs
  long = length-set mid n _ ∙ long_mid

  room_mid : n < length mid
  room_mid = subst (λ m. n < m) (sym long_mid) room

  -- numbers of options and links of all forms but the new one
  many_other : (s : Side) (k : ℕ) → (k ≡ n → ⊥) → many s (get_or gs k blank) ≡ many s (get_or fs k blank)
  many_other true k other = ap (λ (f : Form). f.upright) (get_or-set_other mid n k _ blank other) ∙ set_keeps (λ f. f.upright) fs b _ low refl k
  many_other false k other = ap (λ (f : Form). f.flat) (get_or-set_other mid n k _ blank other) ∙ set_keeps (λ f. f.flat) fs b _ low refl k

  next_other : (k : ℕ) → (k ≡ n → ⊥) → next_at gs k ≡ next_at fs k
  next_other k other = ap (λ (f : Form). link_number f.next) (get_or-set_other mid n k _ blank other) ∙ set_keeps (λ f. link_number f.next) fs b _ low refl k

  -- and of the new one
  many_new : (s : Side) → many s (get_or gs n blank) ≡ length (row_for s us ls)
  many_new true = ap (λ (f : Form). f.upright) (get_or-set_same mid n _ blank room_mid)
  many_new false = ap (λ (f : Form). f.flat) (get_or-set_same mid n _ blank room_mid)

  next_new : next_at gs n ≡ head_of fs b
  next_new = ap (λ (f : Form). link_number f.next) (get_or-set_same mid n _ blank room_mid)

  -- the links of the buckets
  head_bucket : head_of gs b ≡ n + 1
  head_bucket = set_keeps (λ f. link_number f.head) mid n _ room_mid refl b ∙ ap (λ (f : Form). link_number f.head) (get_or-set_same fs b _ blank low) ∙ sym (add-one n)

  head_other : (c : ℕ) → (c ≡ b → ⊥) → head_of gs c ≡ head_of fs c
  head_other c other = set_keeps (λ f. link_number f.head) mid n _ room_mid refl c ∙ ap (λ (f : Form). link_number f.head) (get_or-set_other fs b c _ blank other)

  -- the forms in use, before and after
  use_old : length (take n fs) ≡ n
  use_old = length-take-le n fs t.within

  use_new : length (take (n + 1) gs) ≡ n + 1
  use_new = length-take-le (n + 1) gs (let l = long in omega arith)

  older : (s : Side) (k : ℕ) → k < length (take n fs) → row_of (take (n + 1) gs) ps s k ≡ row_of (take n fs) os s k
  older s k h =
      let less : k < n = subst (λ m. k < m) use_old h in
      let less' : k < n + 1 = omega arith in
      row_older (take n fs) (take (n + 1) gs) os ps n k s less before
      (ap (many s) (get_or-take (n + 1) gs k blank less') ∙ many_other s k (λ e. omega arith) ∙ sym (ap (many s) (get_or-take n fs k blank less)))
      (t.sound.few s k h)

  pub new_row : IsRow (take (n + 1) gs) ps us ls n
  unfolding row_of
  new_row s = ap (λ m. take m (drop (place s n) ps)) (ap (many s) (get_or-take (n + 1) gs n blank (omega arith)) ∙ many_new s) ∙ written s

  few_all : (s : Side) (k : ℕ) → k < length (take (n + 1) gs) → many s (get_or (take (n + 1) gs) k blank) ≤ 16
  few_all s k h = below_more (λ k. many s (get_or (take (n + 1) gs) k blank) ≤ 16) n was now k (subst (λ m. k < m) use_new h)
    where
      was : (k : ℕ) → k < n → many s (get_or (take (n + 1) gs) k blank) ≤ 16
      was k less =
          let less' : k < n + 1 = omega arith in
          let h' : k < length (take n fs) = subst (λ m. k < m) (sym use_old) less in
          subst (λ m. m ≤ 16) (sym (ap (many s) (get_or-take (n + 1) gs k blank less') ∙ many_other s k (λ e. omega arith) ∙ sym (ap (many s) (get_or-take n fs k blank less)))) (t.sound.few s k h')

      now : many s (get_or (take (n + 1) gs) n blank) ≤ 16
      now = subst (λ m. m ≤ 16) (sym (ap (many s) (get_or-take (n + 1) gs n blank (omega arith)) ∙ many_new s)) (fresh.few s)

  -- the new row at the number that the older forms leave
  new_at : IsRow (take (n + 1) gs) ps us ls (length (take n fs))
  new_at = subst (IsRow (take (n + 1) gs) ps us ls) (sym use_old) new_row

  pub kept_after : Kept (take n fs) os (take (n + 1) gs) ps
  kept_after = kept_more (take n fs) os (take (n + 1) gs) ps us ls t.sound fresh (use_new ∙ ap (λ m. m + 1) (sym use_old)) older new_at

  sound_after : Sound (take (n + 1) gs) ps
  sound_after =
      sound_more (take n fs) os (take (n + 1) gs) ps us ls t.sound fresh (use_new ∙ ap (λ m. m + 1) (sym use_old)) older new_at
      (let l = use_new in let m = t.space in omega arith) few_all

  moved : (k a : ℕ) → Leads fs k a → a ≤ n → Leads gs k a
  moved k a = leads_same fs gs n (λ k h. next_other k (λ e. omega arith)) t.falls

  -- every form is linked from its bucket
  linked_at : (k c : ℕ) → k < n → c < length fs → Leads fs k (head_of fs c) → Leads gs k (head_of gs c)
  linked_at k c h lc leads = go (cases_eq c b)
    where
      go : (c ≡ b) ⊎ (c ≡ b → ⊥) → Leads gs k (head_of gs c)
      go (inl same) =
          let old : Leads gs k (head_of fs b) = moved k (head_of fs b) (subst (λ d. Leads fs k (head_of fs d)) same leads) (t.heads b low) in
          let link : head_of gs c ≡ suc n = ap (head_of gs) same ∙ head_bucket ∙ add-one n in
          subst (Leads gs k) (sym link) (on n (subst (Leads gs k) (sym next_new) old))
      go (inr other) = subst (Leads gs k) (sym (head_other c other)) (moved k (head_of fs c) leads (t.heads c lc))

  linked_after : (k : ℕ) → k < n + 1 → Leads gs k (head_of gs (bucket_of (length gs) (row_of (take (n + 1) gs) ps true k) (row_of (take (n + 1) gs) ps false k)))
  linked_after = below_more (λ k. Leads gs k (head_of gs (bucket_of (length gs) (row_of (take (n + 1) gs) ps true k) (row_of (take (n + 1) gs) ps false k)))) n was now
    where
      was : (k : ℕ) → k < n → Leads gs k (head_of gs (bucket_of (length gs) (row_of (take (n + 1) gs) ps true k) (row_of (take (n + 1) gs) ps false k)))
      was k h =
          let h' : k < length (take n fs) = subst (λ m. k < m) (sym use_old) h in
          let same : bucket_of (length gs) (row_of (take (n + 1) gs) ps true k) (row_of (take (n + 1) gs) ps false k) ≡ bucket_of (length fs) (row_of (take n fs) os true k) (row_of (take n fs) os false k) =
          λ i. bucket_of (long i) (older true k h' i) (older false k h' i) in
          subst (λ c. Leads gs k (head_of gs c)) (sym same)
          (linked_at k (bucket_of (length fs) (row_of (take n fs) os true k) (row_of (take n fs) os false k)) h (bucket_below (length fs) (row_of (take n fs) os true k) (row_of (take n fs) os false k) (omega arith)) (t.linked k h))

      now : Leads gs n (head_of gs (bucket_of (length gs) (row_of (take (n + 1) gs) ps true n) (row_of (take (n + 1) gs) ps false n)))
      now =
          let same : bucket_of (length gs) (row_of (take (n + 1) gs) ps true n) (row_of (take (n + 1) gs) ps false n) ≡ b = (λ i. bucket_of (long i) (new_row true i) (new_row false i)) ∙ sym is-bucket in
          subst (λ c. Leads gs n (head_of gs c)) (sym same) (subst (Leads gs n) (sym (head_bucket ∙ add-one n)) here)

  pub table_after : Table gs ps (n + 1)
  table_after =
      record {
        started = omega arith;
        within = let l = long in omega arith;
        size = subst (λ m. m ≤ 16384) (sym long) t.size;
        space = let l = long in let m = t.space in omega arith;
        sound = sound_after;
        heads =
            λ c h.
            elim (cases_eq c b) [
              | inl same ↦ (let e : head_of gs c ≡ n + 1 = ap (head_of gs) same ∙ head_bucket in omega arith)
              | inr other ↦ (let e = head_other c other in let m = t.heads c (subst (λ m. c < m) long h) in omega arith)
            ];
        falls =
            below_more (λ k. next_at gs k ≤ k) n (λ k h. subst (λ m. m ≤ k) (sym (next_other k (λ e. omega arith))) (t.falls k h))
            (subst (λ m. m ≤ n) (sym next_new) (t.heads b low));
        linked = linked_after;
      }

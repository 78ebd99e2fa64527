-- One turn of finding a position's form, in the terms of the program's room.
use Rattle.std.proofs.Common.{◌≡◌, ℕ, suc, ◌+◌, ◌-◌, ◌<◌, ◌≤◌, true, false, List, length, get_or, take, set, sym, refl, ap, ◌∙◌, subst, ⊎_elim, arith}
use Rattle.games.specs.Game.{Side}
use Rattle.games.specs.Order.{Equal}
use Rattle.games.proofs.Sides.{equal_refl, equal_sym, equal_trans}
use Rattle.std.proofs.lemmas.List.{get_or-set_same, get_or-set_other}
use Rattle.std.proofs.lemmas.Bool.{cases_eq, cases_lt}
use Rattle.forms.specs.declared.rows.Form.{Form}
use Rattle.forms.specs.Held.{Lent}
use Rattle.forms.specs.Rows.{row_for}
use Rattle.forms.specs.Meaning.{meaning, given}
use Rattle.forms.specs.Links.{Table}
use Rattle.forms.specs.Soundness.{Known}
use Rattle.forms.proofs.Chains.{use_length}
use Rattle.rooms.proofs.Lists.{all_by_has}
use Rattle.board.specs.Values.{grid_of}
use Rattle.canonical.specs.Answers.{Answered, Refused}
use Rattle.canonical.specs.Reducing.{Inserted}
use Rattle.canonical.specs.declared.canonical.Refusal.{Refusal}
use Rattle.canonical.specs.declared.canonical.Refusal.TheVariants.{Full, Wide, NoMemory}
use Rattle.positions.specs.Growing.{Grows, Overfull}
use Rattle.positions.specs.Memory.{Family}
use Rattle.positions.specs.Values.{room_squares, moves_of, GroundOf, move_set, CanOf, full_of, game_of_set}
use Rattle.positions.specs.Forming.{LeadsTo, KindOf, MemoryOf, RowOf, Went, Failed}
use Rattle.positions.specs.declared.room.RoomMoves.{RoomMoves}
use Rattle.positions.proofs.Growth.{grows_none, grows_on, overfull_on}
use Rattle.positions.proofs.Played.{in_game, of_game}
use Rattle.positions.proofs.Forming.{remembers_kept, remembers_more, row_kept, row_more, set_game, children_noted}

-- the games of a room's positions are a family
pub family_of : (r : RoomMoves) → GroundOf r → Family (length (room_squares r)) (moves_of r) (game_of_set r)
family_of r ground = record {
  to = in_game (grid_of r.board) (room_squares r) (moves_of r) ground;
  from = λ at s. of_game (grid_of r.board) (room_squares r) (moves_of r) ground at s (λ x. (i : ℕ) × CanOf r at s i × (x ≡ game_of_set r (at - move_set r s i))) (λ i can. (i, can, refl));
}

-- the forms of what all moves of a side make of a set
abbrev pub RowIn : RoomMoves → ℕ → Side → Lent → List ℕ → List ℕ → Type 0
RowIn r at s t ps row = RowOf r at s (length (room_squares r)) t.forms.now t.options.now t.used ps row

-- those of its moves at the first k squares, found while a table grew
abbrev pub RowSoFar : RoomMoves → ℕ → Side → ℕ → Lent → List ℕ → Lent → List ℕ → List ℕ → Type 0
RowSoFar r at s k t ps u rs row = Went r t.forms.now t.options.now t.used ps u.forms.now u.options.now u.used rs × RowOf r at s k u.forms.now u.options.now u.used rs row

module _ (r : RoomMoves) where
  pub went_on : (fs : List Form) (os : List ℕ) (n : ℕ) (ps : List ℕ) (gs : List Form) (qs : List ℕ) (u : ℕ) (rs : List ℕ) (hs : List Form) (ws : List ℕ) (v : ℕ) (ts : List ℕ) →
      Went r fs os n ps gs qs u rs → Went r gs qs u rs hs ws v ts → Went r fs os n ps hs ws v ts
  went_on fs os n ps gs qs u rs hs ws v ts a b = record {
    grows = grows_on (KindOf r) fs os n gs qs u hs ws v a.grows b.grows;
    memory = b.memory;
    stays = λ x h. b.stays x (a.stays x h);
  }

  -- a failure after some growth is one of the whole
  pub failed_on : (fs : List Form) (os : List ℕ) (n : ℕ) (ps : List ℕ) (gs : List Form) (qs : List ℕ) (u : ℕ) (rs : List ℕ) (hs : List Form) (ws : List ℕ) →
      Went r fs os n ps gs qs u rs → (e : Refusal) → Failed r gs qs u hs ws e → Failed r fs os n hs ws e
  failed_on fs os n ps gs qs u rs hs ws a Full f = overfull_on (KindOf r) fs os n gs qs u hs ws a.grows f
  failed_on fs os n ps gs qs u rs hs ws a Wide f = f
  failed_on fs os n ps gs qs u rs hs ws a NoMemory f = tt

  -- a row stays right while the table grows
  pub row_on : (at : ℕ) (s : Side) (k : ℕ) (fs : List Form) (os : List ℕ) (n : ℕ) (ps : List ℕ) (gs : List Form) (qs : List ℕ) (u : ℕ) (rs row : List ℕ) →
      Table fs os n → Went r fs os n ps gs qs u rs → RowOf r at s k fs os n ps row → RowOf r at s k gs qs u rs row
  row_on at s k fs os n ps gs qs u rs row t a h = row_kept (length (room_squares r)) (moves_of r) (game_of_set r) (full_of r) at s (KindOf r) k fs os n ps gs qs u rs row t a.grows a.stays h

  -- the form of what one more move leaves joins the row
  pub row_one_more : (at : ℕ) (s : Side) (k : ℕ) (fs : List Form) (os : List ℕ) (n : ℕ) (ps : List ℕ) (gs : List Form) (qs : List ℕ) (u : ℕ) (rs : List ℕ) (hs : List Form) (ws : List ℕ) (v : ℕ) (ts row new : List ℕ) (rest x : ℕ) →
      Went r fs os n ps gs qs u rs × RowOf r at s k gs qs u rs row → CanOf r at s k → rest ≡ at - move_set r s k → Went r gs qs u rs hs ws v ts × (get_or ts rest 0 ≡ suc x) → Inserted row x new →
      Went r fs os n ps hs ws v ts × RowOf r at s (k + 1) hs ws v ts new
  row_one_more at s k fs os n ps gs qs u rs hs ws v ts row new rest x sofar can left found ins = (
    went_on fs os n ps gs qs u rs hs ws v ts sofar.0 found.0,
    row_more (length (room_squares r)) (moves_of r) (game_of_set r) (full_of r) at s k hs ws v ts row new x can found.0.memory (ap (λ a. get_or ts a 0) (sym left) ∙ found.1)
        (row_on at s k gs qs u rs hs ws v ts row sofar.0.grows.table found.0 sofar.1) ins,
  )

  -- the two rows of a set
  module _ (at : ℕ) (fs : List Form) (os : List ℕ) (n : ℕ) (ps us ls : List ℕ) (table : Table fs os n) (memory : MemoryOf r fs os n ps)
      (up : RowOf r at true (length (room_squares r)) fs os n ps us) (down : RowOf r at false (length (room_squares r)) fs os n ps ls) where
    pub rows_known : (s : Side) → Known (take n fs) (row_for s us ls)
    rows_known true = all_by_has (λ x. x < length (take n fs)) us (λ x h. let low = up.known x h in let long = use_length fs os n table in omega arith)
    rows_known false = all_by_has (λ x. x < length (take n fs)) ls (λ x h. let low = down.known x h in let long = use_length fs os n table in omega arith)

    module _ (ground : GroundOf r) (leads : LeadsTo r at) where
      the_game : Equal (game_of_set r at) (given (take n fs) os us ls)
      the_game = set_game (length (room_squares r)) (moves_of r) (game_of_set r) (full_of r) at fs os n ps us ls (family_of r ground) up down

      -- their canonical form is that of the set
      pub placed : (gs : List Form) (qs : List ℕ) (k u : ℕ) → length gs ≡ length fs → at < length ps → Answered fs os n gs qs (given (take n fs) os us ls) k u →
          Went r fs os n ps gs qs u (set ps at (k + 1)) × (get_or (set ps at (k + 1)) at 0 ≡ suc k)
      placed gs qs k u long low a = (
        record {
          grows = grown;
          memory = remembers_more (length (room_squares r)) (moves_of r) (game_of_set r) (full_of r) gs qs u ps at k low
              (remembers_kept (length (room_squares r)) (moves_of r) (game_of_set r) (full_of r) (KindOf r) fs os n gs qs u ps table grown memory)
              a.known leads same (children_noted (length (room_squares r)) (moves_of r) (game_of_set r) (full_of r) at fs os n ps us ls up down);
          stays = λ x h z. ⊎_elim (λ e. let y = ap (λ b. get_or (set ps at (k + 1)) b 0) e ∙ get_or-set_same ps at (k + 1) 0 low in omega arith) (λ ne. h (sym (get_or-set_other ps at x (k + 1) 0 ne) ∙ z)) (cases_eq x at);
        },
        get_or-set_same ps at (k + 1) 0 low ∙ (let e : k + 1 ≡ suc k = omega arith in e),
      )
        where
          same : Equal (meaning (take u gs) qs k) (game_of_set r at)
          same = equal_trans a.equal (equal_sym the_game)

          grown : Grows (KindOf r) fs os n gs qs u
          grown = record {
            table = a.table;
            long = long;
            kept = a.kept;
            new = λ j low high. ⊎_elim (λ e. absurd (let x = e.0 in omega arith)) (λ e. let x : k ≡ j = (let y = e.0 in let z = e.1 in omega arith) in (at, leads, subst (λ i. Equal (meaning (take u gs) qs i) (game_of_set r at)) x same)) a.new;
          }

      -- or there is none
      pub unplaced : (gs : List Form) (qs : List ℕ) (e : Refusal) → gs ≡ fs → qs ≡ os → Refused fs os n (given (take n fs) os us ls) e → Failed r fs os n gs qs e
      unplaced gs qs Full f o no-form = subst (λ x. Overfull (KindOf r) fs os n x qs) (sym f) (subst (λ x. Overfull (KindOf r) fs os n fs x) (sym o) full)
        where
          full : Overfull (KindOf r) fs os n fs os
          full = record {
            grows = subst (Grows (KindOf r) fs os n fs os) no-form.0 (grows_none (KindOf r) fs os n table);
            game = game_of_set r at;
            kind = (at, leads, equal_refl (game_of_set r at));
            apart = subst (λ m. (k : ℕ) → k < m → Equal (game_of_set r at) (meaning (take m fs) os k) → ⊥) no-form.0
                (λ k h eq. no-form.1 k h (equal_trans (equal_sym eq) the_game));
          }
      unplaced gs qs Wide f o wide = record { form = wide.0; canonical = wide.1; kind = (at, leads, equal_trans (equal_sym wide.2) (equal_sym the_game)); wide = wide.3 }
      unplaced gs qs NoMemory f o wide = tt

-- what is noted fits: a table has at most 16,384 forms
pub noted_fits : (r : RoomMoves) (fs : List Form) (os : List ℕ) (u : ℕ) (ps : List ℕ) → MemoryOf r fs os u ps → u ≤ length fs → length fs ≤ 16384 → (k : ℕ) → get_or ps k 0 ≤ 65536
noted_fits r fs os u ps m within size k =
    ⊎_elim (λ some. let low = m.known k (get_or ps k 0 - 1) (omega arith) in omega arith) (λ none. omega arith) (cases_lt 0 (get_or ps k 0))

-- What the game of a board reaches; and the whole answer for a room.
use Rattle.std.proofs.Common.{◌≡◌, ℕ, suc, ◌+◌, ◌-◌, ◌/◌, ◌%◌, ◌^◌, ◌<◌, ◌≤◌, true, List, [], ◌∷◌, length, get_or, take, replicate, Err, sym, refl, ap, ◌∙◌, subst, ⊎_elim, pow-suc, arith, pow_pos}
use Rattle.std.specs.List.{ContainsAt as Has}
use Rattle.std.proofs.lemmas.List.{get_or-replicate, get_or_past, length-replicate, length-take}
use Rattle.std.proofs.lemmas.Bool.{cases_lt, eq-eqb}
use Rattle.games.specs.Game.{Game, options, In, Reached, itself, onward}
use Rattle.games.specs.Order.{Equal}
use Rattle.board.specs.Grid.{Grid, pick, free_count}
use Rattle.board.specs.Moves.{may, laid}
use Rattle.board.specs.Tree.{tree}
use Rattle.board.specs.Values.{grid_of}
use Rattle.board.proofs.Outcomes.{laid_fewer}
use Rattle.board.proofs.Trees.{in_tree, of_tree}
use Rattle.rooms.specs.Games.{through}
use Rattle.positions.specs.Answers.{Listed, PositionOf, FormedRoom, RoomAnswer, PositionsLaw}
use Rattle.positions.specs.Reach.{Comes, already, after, game_at}
use Rattle.positions.specs.Sets.{chosen, position}
use Rattle.positions.specs.Values.{room_squares, moves_of, GroundOf, full_of, game_of_set}
use Rattle.positions.specs.Forming.{LeadsTo, KindOf, MemoryOf, Went, Failed}
use Rattle.positions.specs.declared.room.RoomMoves.{RoomMoves}
use Rattle.positions.proofs.Played.{leads_comes, comes_leads}
use Rattle.positions.proofs.Growth.{grows_as}
use Rattle.positions.proofs.Forming.{noted_form, noted_on}
use Rattle.forms.specs.declared.rows.Form.{Form}
use Rattle.forms.specs.Held.{Lent}
use Rattle.forms.specs.Meaning.{meaning}
use Rattle.forms.proofs.Risings.{has_none}
use Rattle.canonical.specs.Reducing.{Inserted}
use Rattle.canonical.specs.declared.canonical.Refusal.{Refusal}
use Rattle.canonical.specs.declared.canonical.Refusal.TheVariants.{Full, Wide, NoMemory}

comes_reached : (n : ℕ) {b c : Grid} → Comes b c → free_count b.cells ≤ n → Reached (tree n b) (tree n c)
comes_reached n already h = itself
comes_reached n {b} {c} (after s p m on) h = onward s (in_tree n b s h p m) (comes_reached n on (let less = laid_fewer b s p m in omega arith))

reached_comes : (n : ℕ) {g x : Game} → Reached g x → (b : Grid) → free_count b.cells ≤ n → g ≡ tree n b → (c : Grid) × Comes b c × (x ≡ tree n c)
reached_comes n itself b h e = (b, already, e)
reached_comes n {g} {x} (onward {h = y} s i on) b h e =
    let step = of_tree n b s h (λ z. (p : ℕ) × (may b s p ≡ true) × (z ≡ tree n (laid b s p))) (λ p m. (p, m, refl)) y (subst (λ k. In y (options s k)) e i) in
    let rest = reached_comes n on (laid b s step.0) (let less = laid_fewer b s step.0 step.1 in omega arith) step.2 in
    (rest.0, after s step.0 step.1 rest.1, rest.2)

pub positions_law : PositionsLaw
unfolding PositionsLaw
positions_law b n h = (λ c on. comes_reached n on h, λ x on. reached_comes n on b h refl)

-- the set of all squares is the room
chosen_full : (qs : List ℕ) → chosen qs (2 ^ length qs - 1) ≡ qs
chosen_full [] = refl
chosen_full (q ∷ qs) =
    let p = pow-suc 2 (length qs) in
    let some = pow_pos (length qs) in
    let odd : (2 ^ suc (length qs) - 1) % 2 ≡ 1 = omega arith in
    let half : (2 ^ suc (length qs) - 1) / 2 ≡ 2 ^ length qs - 1 = omega arith in
    ap (λ t. pick t (q ∷ chosen qs ((2 ^ suc (length qs) - 1) / 2)) (chosen qs ((2 ^ suc (length qs) - 1) / 2))) (eq-eqb _ 1 odd)
    ∙ ap (λ n. q ∷ chosen qs n) half ∙ ap (λ l. q ∷ l) (chosen_full qs)

pub position_full : (b : Grid) (qs : List ℕ) → position b qs (2 ^ length qs - 1) ≡ through b qs
unfolding position
position_full b qs = ap (through b) (chosen_full qs)

-- the kinds of games that the two ways to speak of positions name are the same
module _ (r : RoomMoves) (ground : GroundOf r) where
  pub leads_position : (set : ℕ) → LeadsTo r set → Comes (through (grid_of r.board) (room_squares r)) (position (grid_of r.board) (room_squares r) set)
  leads_position set on =
      subst (λ c. Comes c (position (grid_of r.board) (room_squares r) set)) (position_full (grid_of r.board) (room_squares r))
      (leads_comes (grid_of r.board) (room_squares r) (moves_of r) ground on)

  pub position_leads : (c : Grid) → Comes (through (grid_of r.board) (room_squares r)) c → (set : ℕ) × LeadsTo r set × (c ≡ position (grid_of r.board) (room_squares r) set)
  position_leads c on = comes_leads (grid_of r.board) (room_squares r) (moves_of r) ground on (full_of r) (sym (position_full (grid_of r.board) (room_squares r)))

  pub kind_position : (f : Game) → KindOf r f → PositionOf (grid_of r.board) (room_squares r) f
  unfolding game_at
  kind_position f k = (position (grid_of r.board) (room_squares r) k.0, leads_position k.0 k.1, k.2)

-- cleared memory is all zeros
pub zeros : (n : ℕ) (ps : List ℕ) → ps ≡ replicate n 0 → (k : ℕ) → get_or ps k 0 ≡ 0
zeros n ps e k =
    subst (λ l. ◌≡◌ {A = ℕ} (get_or l k 0) 0) (sym e)
    (⊎_elim (λ low. get_or-replicate n k 0 0 low) (λ high. get_or_past (replicate n 0) k 0 (let long = length-replicate {A = ℕ} n 0 in omega arith)) (cases_lt k n))

-- nothing is remembered yet
pub forgets : (r : RoomMoves) (fs : List Form) (os : List ℕ) (n : ℕ) (ps : List ℕ) → ((k : ℕ) → get_or ps k 0 ≡ 0) → MemoryOf r fs os n ps
forgets r fs os n ps none = record {
  known = λ at k e. absurd (let z = none at in omega arith);
  reached = λ at h. absurd (h (none at));
  right = λ at k e. absurd (let z = none at in omega arith);
  closed = λ at h. absurd (h (none at));
}

pub listed_none : (ps : List ℕ) → Listed ps 0 []
listed_none ps = record { rising = tt; from = λ w h. absurd (has_none h); all = λ at w h. absurd (omega arith) }

pub listed_skip : (ps : List ℕ) (k : ℕ) (row : List ℕ) → get_or ps k 0 ≡ 0 → Listed ps k row → Listed ps (k + 1) row
listed_skip ps k row z l = record {
  rising = l.rising;
  from = l.from;
  all = λ at w h e. ⊎_elim (λ low. l.all at w low e) (λ high. absurd (let same : at ≡ k = omega arith in let x = ap (λ i. get_or ps i 0) same in omega arith)) (cases_lt at k);
}

pub listed_more : (ps : List ℕ) (k x : ℕ) (row new : List ℕ) → get_or ps k 0 ≡ suc x → Listed ps k row → Inserted row x new → Listed ps (k + 1) new
listed_more ps k x row new e l ins = record {
  rising = ins.rising;
  from = λ w h. ⊎_elim (λ old. l.from w old) (λ same. (k, e ∙ ap suc (sym same))) (ins.only w h);
  all = λ at w h f.
      ⊎_elim (λ low. ins.stays w (l.all at w low f))
      (λ high. let same : at ≡ k = omega arith in let y = ap (λ i. get_or ps i 0) same in let z : x ≡ w = omega arith in subst (Has new) z ins.has)
      (cases_lt at k);
}

-- the whole answer for a room
module _ (r : RoomMoves) (ground : GroundOf r) (fs : List Form) (os : List ℕ) (n : ℕ) (gs : List Form) (qs ps rs : List ℕ) (own u k : ℕ) (row : List ℕ) where
  pub formed_room : Went r fs os n ps gs qs u rs × (get_or rs (full_of r) 0 ≡ suc own) → length rs ≤ k → Listed rs k row → FormedRoom (grid_of r.board) (room_squares r) fs os n gs qs own row u
  unfolding game_at
  formed_room found long l =
      let memory = found.0.memory in
      record {
        grows = grows_as (KindOf r) (PositionOf (grid_of r.board) (room_squares r)) (kind_position r ground) fs os n gs qs u found.0.grows;
        known = memory.known (full_of r) own found.1;
        worth = subst (λ c. Equal (meaning (take u gs) qs own) (tree (free_count (grid_of r.board).cells) c)) (position_full (grid_of r.board) (room_squares r)) (memory.right (full_of r) own found.1);
        rising = l.rising;
        right = λ w h.
            let at = l.from w h in
            (memory.known at.0 w at.1, kind_position r ground (meaning (take u gs) qs w) (at.0, memory.reached at.0 (λ z. let x = at.1 in omega arith), memory.right at.0 w at.1));
        whole = λ c on.
            let at = position_leads r ground c on in
            let noted = noted_on (length (room_squares r)) (moves_of r) (game_of_set r) (full_of r) gs qs u rs memory at.1 (λ z. let x = found.1 in omega arith) in
            let w = noted_form (length (room_squares r)) (moves_of r) (game_of_set r) (full_of r) rs at.0 noted in (
              w.0,
              l.all at.0 w.0 (⊎_elim (λ low. omega arith) (λ high. absurd (noted (get_or_past rs at.0 0 high))) (cases_lt at.0 (length rs))) w.1,
              subst (λ x. Equal (meaning (take u gs) qs w.0) (tree (free_count (grid_of r.board).cells) x)) (sym at.2) (memory.right at.0 w.0 w.1),
            );
      }

-- or why there is none
pub not_formed : (r : RoomMoves) → GroundOf r → (t u : Lent) (e : Refusal) → Failed r t.forms.now t.options.now t.used u.forms.now u.options.now e → RoomAnswer (grid_of r.board) (room_squares r) t u (Err e)
not_formed r ground t u Full f = record {
  grows = grows_as (KindOf r) (PositionOf (grid_of r.board) (room_squares r)) (kind_position r ground) t.forms.now t.options.now t.used u.forms.now u.options.now (length t.forms.now) f.grows;
  game = f.game;
  kind = kind_position r ground f.game f.kind;
  apart = f.apart;
}
not_formed r ground t u Wide f = record { form = f.form; canonical = f.canonical; kind = kind_position r ground f.form f.kind; wide = f.wide }
not_formed r ground t u NoMemory f = tt

-- the part of the row that is for the sets of the room
pub sets_long : (ps part : List ℕ) (f full : ℕ) → length part ≡ length (take (f + 1) ps) → f ≡ full → full < length ps → full < length part
sets_long ps part f full kept same enough = let long = length-take (f + 1) ps in omega arith

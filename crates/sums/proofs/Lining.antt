-- Rooms in a row, one after another.
use Rattle.sums.specs.Sums.{Stopped}
use Rattle.std.proofs.Common.{◌≡◌, ℕ, ◌+◌, ◌<◌, ◌≤◌, List, [], ◌∷◌, ◌++◌, length, get_or, take, drop, sym, refl, ap, ◌∙◌, subst, inr, ⊎_elim, arith}
use Rattle.std.proofs.lemmas.List.{take-append-drop, length_push, get_or_push, get_or_append_left}
use Rattle.std.proofs.lemmas.Bool.{cases_lt}
use Rattle.games.specs.Game.{Game, empty}
use Rattle.games.specs.Order.{Equal}
use Rattle.games.specs.Sum.{Sum}
use Rattle.games.specs.Canonical.{Canonical}
use Rattle.games.specs.Count.{Met, at_start, at_game, further, Summed, nothing, plus, Between, OneMore}
use Rattle.games.proofs.Sides.{equal_sym}
use Rattle.games.proofs.Along.{one_more}
use Rattle.board.specs.Grid.{Grid}
use Rattle.rooms.specs.Games.{games_of}
use Rattle.forms.specs.declared.rows.Form.{Form}
use Rattle.forms.specs.Meaning.{meaning}
use Rattle.forms.specs.Laws.{FirstEmpty}
use Rattle.forms.specs.Links.{Table}
use Rattle.forms.proofs.Chains.{use_length}
use Rattle.forms.proofs.Numbers.{first_empty}
use Rattle.canonical.specs.declared.canonical.Refusal.{Refusal}
use Rattle.positions.proofs.Growth.{grows_as, grows_none, grows_on, grows_far, grows_meaning}
use Rattle.sums.specs.Rows.{room_game, Joined}
use Rattle.sums.specs.Counting.{Owns, InRow}
use Rattle.sums.proofs.Wider.{stopped_as, stopped_on}
use Rattle.sums.proofs.Meeting.{form_canonical}

-- what is met along a row is met along a longer one
pub met_more : {t f : Game} {gs : List Game} → Met t gs f → (hs : List Game) → Met t (gs ++ hs) f
met_more (at_start e) hs = at_start e
met_more (at_game x y k r q p e) hs = at_game x y k r q p e
met_more (further k u p c e m) hs = further k u p c e (met_more m hs)

-- the canonical sum with one game more
summed_more : {t u g k w : Game} {gs : List Game} → Summed t gs u → Sum u g k → Canonical w → Equal k w → Summed t (gs ++ g ∷ []) w
summed_more {k = k} {w = w} nothing p c e = plus k w p c e nothing
summed_more (plus k w p c e rest) p' c' e' = plus k w p c e (summed_more rest p' c' e')

-- the games of rooms after rooms
games_after : (b : Grid) (rs qs : List (List ℕ)) → games_of b (rs ++ qs) ≡ games_of b rs ++ games_of b qs
unfolding games_of
games_after b [] qs = refl
games_after b (r ∷ rs) qs = ap (λ gs. room_game b r ∷ gs) (games_after b rs qs)

games_one : (b : Grid) (r : List ℕ) → games_of b (r ∷ []) ≡ room_game b r ∷ []
unfolding games_of
games_one b r = refl

games_more : (b : Grid) (rs : List (List ℕ)) (r : List ℕ) → games_of b (rs ++ r ∷ []) ≡ games_of b rs ++ room_game b r ∷ []
games_more b rs r = games_after b rs (r ∷ []) ∙ ap (λ gs. games_of b rs ++ gs) (games_one b r)

no_games : (b : Grid) → games_of b [] ≡ []
unfolding games_of
no_games b = refl

-- what is met along the first rooms is met along all
pub met_all : (b : Grid) (i : ℕ) (rs : List (List ℕ)) (f : Game) → Met empty (games_of b (take i rs)) f → Met empty (games_of b rs) f
met_all b i rs f m =
    subst (λ l. Met empty (games_of b l) f) (take-append-drop i rs)
    (subst (λ gs. Met empty gs f) (sym (games_after b (take i rs) (drop i rs))) (met_more m (games_of b (drop i rs))))

-- form 0 is the empty game
pub form_empty : (fs : List Form) (os : List ℕ) (n : ℕ) → Table fs os n → meaning (take n fs) os 0 ≡ empty
unfolding FirstEmpty
form_empty fs os n t = first_empty (take n fs) os t.sound (let e = use_length fs os n t in let p = t.started in omega arith)

-- no room yet
pub row_none : (b : Grid) (fs : List Form) (os : List ℕ) (n : ℕ) → Table fs os n → InRow b [] fs os n fs os 0 [] n
row_none b fs os n t = record {
  grows = grows_none (Met empty (games_of b [])) fs os n t;
  known = t.started;
  summed = subst (λ gs. Summed empty gs (meaning (take n fs) os 0)) (sym (no_games b)) (subst (Summed empty []) (sym (form_empty fs os n t)) nothing);
  whole = λ f m. (0, t.started, subst (Equal f) (sym (form_empty fs os n t)) (equal_sym (start (subst (λ gs. Met empty gs f) (no_games b) m))));
  own = record { long = refl; known = λ i h. absurd (omega arith); worth = λ i h. absurd (omega arith) };
}
  where
    start : {f : Game} → Met empty [] f → Equal empty f
    start (at_start e) = e

module _ (b : Grid) (rs : List (List ℕ)) (fs : List Form) (os : List ℕ) (n : ℕ) (gs : List Form) (ps : List ℕ) (sum : ℕ) (owns : List ℕ) (u : ℕ) (before : InRow b rs fs os n gs ps sum owns u) (r : List ℕ) where
  -- the sum so far
  abbrev T : Game
  T = meaning (take u gs) ps sum

  old_met : (f : Game) → Met empty (games_of b rs) f → Met empty (games_of b (rs ++ r ∷ [])) f
  old_met f m = subst (λ l. Met empty l f) (sym (games_more b rs r)) (met_more m (room_game b r ∷ []))

  new_met : (f : Game) → Between T (room_game b r) f → Met empty (games_of b (rs ++ r ∷ [])) f
  unfolding OneMore
  new_met f w = subst (λ l. Met empty l f) (sym (games_more b rs r)) ((one_more (games_of b rs) (room_game b r) T f before.summed).1 (inr w))

  pub row_stopped : (hs : List Form) (qs : List ℕ) (e : Refusal) → Stopped (Between T (room_game b r)) gs ps u hs qs e → Stopped (Met empty (games_of b (rs ++ r ∷ []))) fs os n hs qs e
  row_stopped hs qs e s =
      stopped_on (Met empty (games_of b (rs ++ r ∷ []))) fs os n gs ps u hs qs e (grows_as (Met empty (games_of b rs)) (Met empty (games_of b (rs ++ r ∷ []))) old_met fs os n gs ps u before.grows)
      (stopped_as (Between T (room_game b r)) (Met empty (games_of b (rs ++ r ∷ []))) new_met gs ps u hs qs e s)

  module _ (hs : List Form) (qs : List ℕ) (own next v : ℕ) (j : Joined T b r gs ps u hs qs own next v) where
    far : u ≤ v
    far = grows_far (Between T (room_game b r)) gs ps u hs qs v before.grows.table j.grows

    same : (k : ℕ) → k < u → meaning (take v hs) qs k ≡ meaning (take u gs) ps k
    same = grows_meaning (Between T (room_game b r)) gs ps u hs qs v before.grows.table j.grows

    owns_more : Owns b (rs ++ r ∷ []) hs qs v (owns ++ own ∷ [])
    owns_more = record {
      long = length_push owns own ∙ ap (λ k. k + 1) before.own.long ∙ sym (length_push rs r);
      known = λ i h. ⊎_elim (λ low. subst (λ k. k < v) (sym (old i low)) (let a = far in let c = before.own.known i low in omega arith)) (λ high. subst (λ k. k < v) (sym (new i h high)) j.known) (cases_lt i (length rs));
      worth = λ i h.
          ⊎_elim
          (λ low.
          subst (λ k. Equal (meaning (take v hs) qs k) (room_game b (get_or (rs ++ r ∷ []) i []))) (sym (old i low))
          (subst (λ q. Equal (meaning (take v hs) qs (get_or owns i 0)) (room_game b q)) (sym (get_or_append_left rs (r ∷ []) [] i low))
          (subst (λ g. Equal g (room_game b (get_or rs i []))) (sym (same (get_or owns i 0) (before.own.known i low))) (before.own.worth i low))))
          (λ high.
          subst (λ k. Equal (meaning (take v hs) qs k) (room_game b (get_or (rs ++ r ∷ []) i []))) (sym (new i h high))
          (subst (λ q. Equal (meaning (take v hs) qs own) (room_game b q)) (sym (get_or_push rs r [] i (last i h high))) j.worth))
          (cases_lt i (length rs));
    }
      where
        last : (i : ℕ) → i < length (rs ++ r ∷ []) → length rs ≤ i → length rs ≡ i
        last i h high = let e = length_push rs r in omega arith

        old : (i : ℕ) → i < length rs → get_or (owns ++ own ∷ []) i 0 ≡ get_or owns i 0
        old i low = get_or_append_left owns (own ∷ []) 0 i (let e = before.own.long in omega arith)

        new : (i : ℕ) → i < length (rs ++ r ∷ []) → length rs ≤ i → get_or (owns ++ own ∷ []) i 0 ≡ own
        new i h high = get_or_push owns own 0 i (before.own.long ∙ last i h high)

    pub row_more : InRow b (rs ++ r ∷ []) fs os n hs qs next (owns ++ own ∷ []) v
    unfolding OneMore
    row_more = record {
      grows =
          grows_on (Met empty (games_of b (rs ++ r ∷ []))) fs os n gs ps u hs qs v (grows_as (Met empty (games_of b rs)) (Met empty (games_of b (rs ++ r ∷ []))) old_met fs os n gs ps u before.grows)
          (grows_as (Between T (room_game b r)) (Met empty (games_of b (rs ++ r ∷ []))) new_met gs ps u hs qs v j.grows);
      known = j.low;
      summed =
          subst (λ l. Summed empty l (meaning (take v hs) qs next)) (sym (games_more b rs r))
          (summed_more before.summed j.adds.1 (form_canonical hs qs v j.grows.table next j.low) j.adds.2);
      whole = λ f m.
          ⊎_elim
          (λ old. let k = before.whole f old in let a = far in let c = k.1 in (k.0, omega arith, subst (Equal f) (sym (same k.0 k.1)) k.2))
          (λ new. j.whole f new)
          ((one_more (games_of b rs) (room_game b r) T f before.summed).0 (subst (λ l. Met empty l f) (games_more b rs r) m));
      own = owns_more;
    }

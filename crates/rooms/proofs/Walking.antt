-- A walk: its squares are its own queue, and it ends when each was visited.
use Rattle.std.proofs.Common.{◌≡◌, ℕ, ◌+◌, ◌<◌, ◌≤◌, Bool, true, false, cond, eqb, List, [], ◌∷◌, length, get_or, set, sym, refl, ap, ◌∙◌, subst, inl, inr, ⊎_elim, arith}
use Rattle.std.specs.List.{ContainsAt as Has}
use Rattle.std.specs.List.Sorted.{IsNonDecreasing, IsPermutation}
use Rattle.std.proofs.lemmas.List.{get_or_default}
use Rattle.std.proofs.ByRecursion.{all-has, has_get_or, all_shuffled, has_shuffled}
use Rattle.std.proofs.lemmas.List.Sorted.{IsPermutation-sym, length_permutation, sum_by-IsPermutation}
use Rattle.std.proofs.lemmas.Bool.{cases_order}
use Rattle.board.specs.Grid.{Grid, free, Next}
use Rattle.board.specs.Ways.{Toward, WaysLaw}
use Rattle.board.specs.declared.ways.Way.{Way}
use Rattle.board.specs.declared.ways.Way.TheVariants.{Up, Left, Right, Down}
use Rattle.board.proofs.Edges.{ways_law}
use Rattle.rooms.specs.Walks.{Walk, Apart}
use Rattle.rooms.specs.Growth.{marked, Grown, Visited, all_ways, Ended}
use Rattle.rooms.proofs.Lists.{rise_sorted}

-- qs were found from p, where the walk began with the marks start, and the first at of them were visited
pub record Walking (b : Grid) (p : ℕ) (start seen : List Bool) (qs : List ℕ) (at : ℕ) : Type 0 where
  pub marks_long : length seen ≡ 256
  pub some : at ≤ length qs
  pub grown : (old : List Bool) → Grown b p old start (p ∷ []) → Grown b p old seen qs
  pub settled : (k q : ℕ) → k < at → Next b (get_or qs k 0) q → free b q ≡ true → marked seen q ≡ true

-- a square that was read from the list
pub square_at : (slice qs : List ℕ) (i q : ℕ) → slice ≡ qs → i < length slice → q ≡ get_or slice i q → (i < length qs) × (q ≡ get_or qs i 0)
square_at slice qs i q e less at = (subst (λ l. i < length l) e less, at ∙ get_or_default slice i q 0 less ∙ ap (λ l. get_or l i 0) e)

way_listed : (w : Way) → Has all_ways w
way_listed Up = (0, omega arith, λ d. refl)
way_listed Left = (1, omega arith, λ d. refl)
way_listed Right = (2, omega arith, λ d. refl)
way_listed Down = (3, omega arith, λ d. refl)

module _ (b : Grid) (wide : 0 < b.width) (p : ℕ) where
  -- one square more is visited
  pub walking_more :
      (start seen seen' : List Bool) (qs qs' : List ℕ) (at : ℕ) → Walking b p start seen qs at → at < length qs →
      Visited b (get_or qs at 0) all_ways seen seen' qs qs' → length seen' ≡ 256 → Walking b p start seen' qs' (at + 1)
  unfolding WaysLaw
  walking_more start seen seen' qs qs' at x less v marks_long =
      let longer = v.longer in
      record {
        marks_long = marks_long;
        some = omega arith;
        grown = λ old g. v.grown p old (x.grown old g) (has_get_or qs at 0 less);
        settled = λ k q below near f.
            let near-old = subst (λ t. Next b t q) (v.same k (omega arith)) near in
            ⊎_elim
            (λ last.
            let way = (ways_law b (get_or qs at 0) q wide).0 (subst (λ t. Next b (get_or qs t 0) q) last near-old) in
            all-has (λ w. (r : ℕ) → Toward b w (get_or qs at 0) r → free b r ≡ true → marked seen' r ≡ true) all_ways way.0 v.settled (way_listed way.0) q way.1 f)
            (⊎_elim (λ earlier. v.kept q (x.settled k q earlier near-old f)) (λ later. absurd (omega arith))) (cases_order k at);
      }

  -- every square was visited, and the squares are sorted
  pub walk_ended :
      (old seen : List Bool) (qs : List ℕ) (at : ℕ) (sorted : List ℕ) → Walking b p (set old p true) seen qs at → length qs ≤ at →
      Grown b p old (set old p true) (p ∷ []) → IsPermutation qs sorted → IsNonDecreasing sorted → Ended b p old seen sorted
  walk_ended old seen qs at sorted x done first shuffled up =
      let g = x.grown old first in
      let apart : Apart sorted = λ q. let k = sum_by-IsPermutation (λ r. cond (eqb r q) 1 0) qs sorted shuffled in let l = g.apart q in omega arith in
      record {
        grown = record {
          start = has_shuffled qs sorted p shuffled g.start;
          apart = apart;
          open_squares = all_shuffled (λ q. free b q ≡ true) qs sorted shuffled g.open_squares;
          reached = all_shuffled (Walk b p) qs sorted shuffled g.reached;
          fresh = all_shuffled (λ q. marked old q ≡ false) qs sorted shuffled g.fresh;
          shown = all_shuffled (λ q. marked seen q ≡ true) qs sorted shuffled g.shown;
          marks = λ q e. ⊎_elim inl (λ h. inr (has_shuffled qs sorted q shuffled h)) (g.marks q e);
          kept = g.kept;
          counted = let k = length_permutation qs sorted shuffled in let l = g.counted in omega arith;
        };
        rising = rise_sorted sorted up apart;
        settled = λ q r h near f.
            let place = has_shuffled sorted qs q (IsPermutation-sym qs sorted shuffled) h in
            let below = place.1 in
            x.settled place.0 r (omega arith) (subst (λ t. Next b t r) (sym (place.2 0)) near) f;
      }

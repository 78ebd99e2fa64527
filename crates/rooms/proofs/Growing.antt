-- A walk goes on: a visit to a square's neighbours, way after way.
use Rattle.std.proofs.Common.{◌≡◌, ℕ, zero, suc, ◌+◌, ◌<◌, ◌≤◌, Bool, true, false, List, [], ◌∷◌, ◌++◌, length, get_or, take, set, Some, None, sym, refl, ap, ◌∙◌, subst, inl, inr, ⊎_elim, arith}
use Rattle.std.specs.List.{ContainsAt as Has, AllByRecursion as Every}
use Rattle.std.proofs.lemmas.List.{get_or-set_same, get_or-set_other, get_or_append_left, length_push, take_more}
use Rattle.std.proofs.ByRecursion.{all-has, All-push, All-weaker, has_append_left, has_push, has_get_or}
use Rattle.std.proofs.lemmas.Bool.{both_ways, cases_Bool, cases_eq}
use Rattle.board.specs.Grid.{Grid, pick, free, Next, free_count}
use Rattle.board.specs.Ways.{Toward, Neighbour, WaysLaw}
use Rattle.board.specs.Values.{grid_of}
use Rattle.board.specs.declared.board.Board.{Board}
use Rattle.board.specs.declared.ways.Way.{Way}
use Rattle.board.proofs.Edges.{ways_law, one_there, free_below, board_few}
use Rattle.rooms.specs.Walks.{Walk, stay, go}
use Rattle.rooms.specs.Rooms.{Many}
use Rattle.rooms.specs.Growth.{marked, Grown, Visited, all_ways}
use Rattle.rooms.proofs.Lists.{apart_push}
use Rattle.rooms.proofs.Reach.{walk_trans}

-- a free square, and so a neighbour, is one of at most 256
pub free_small : (b : Board) (q : ℕ) → free (grid_of b) q ≡ true → q < 256
free_small b q f = let k = free_below (grid_of b) q f in let l = board_few b in omega arith

pub neighbour_below : (b : Board) (p : ℕ) (w : Way) (q : ℕ) → Neighbour (grid_of b) p w (Some q) → q < 256
unfolding Neighbour
neighbour_below b p w q near = free_small b q near.1

-- a mark more
count_mark : (seen : List Bool) (q : ℕ) → q < length seen → marked seen q ≡ false → free_count (set seen q true) ≡ free_count seen + 1
unfolding free_count
count_mark [] q less e = absurd (omega arith)
count_mark (c ∷ cs) zero less e = let k : ◌≡◌ {A = ℕ} (pick c 1 0) 0 = ap (λ t. pick t 1 0) e in omega arith
count_mark (c ∷ cs) (suc q) less e = let rest = count_mark cs q (omega arith) e in omega arith

-- what is marked stays so
pub mark_keeps : (seen : List Bool) (q r : ℕ) → q < length seen → marked seen r ≡ true → marked (set seen q true) r ≡ true
mark_keeps seen q r less e =
    ⊎_elim (λ same. subst (λ t. marked (set seen q true) t ≡ true) (sym same) (get_or-set_same seen q true false less))
    (λ other. get_or-set_other seen q r true false other ∙ e) (cases_eq r q)

-- one square more is found
pub grow :
    (b : Grid) (p : ℕ) (old seen : List Bool) (qs : List ℕ) (q : ℕ) → Grown b p old seen qs → Walk b p q → free b q ≡ true → marked seen q ≡ false →
    q < length seen → Grown b p old (set seen q true) (qs ++ q ∷ [])
grow b p old seen qs q x walk open-q new less = record {
  start = has_append_left qs (q ∷ []) p x.start;
  apart = apart_push qs q x.apart (λ h. both_ways (marked seen q) new (all-has (λ r. marked seen r ≡ true) qs q x.shown h));
  open_squares = All-push (λ r. free b r ≡ true) qs q x.open_squares open-q;
  reached = All-push (Walk b p) qs q x.reached walk;
  fresh =
      All-push (λ r. marked old r ≡ false) qs q x.fresh
      (⊎_elim (λ e. absurd (both_ways (marked seen q) new (x.kept q e))) (λ e. e) (cases_Bool (marked old q)));
  shown =
      All-push (λ r. marked (set seen q true) r ≡ true) qs q
      (All-weaker (λ r. marked seen r ≡ true) (λ r. marked (set seen q true) r ≡ true) (λ r e. mark_keeps seen q r less e) qs x.shown)
      (get_or-set_same seen q true false less);
  marks = λ r e.
      ⊎_elim (λ same. inr (subst (Has (qs ++ q ∷ [])) (sym same) (has_push qs q)))
      (λ other. ⊎_elim inl (λ h. inr (has_append_left qs (q ∷ []) r h)) (x.marks r (sym (get_or-set_other seen q r true false other) ∙ e))) (cases_eq r q);
  kept = λ r e. mark_keeps seen q r less (x.kept r e);
  counted = let k = count_mark seen q less new in let l = length_push qs q in let m = x.counted in omega arith;
}

-- a walk begins
pub grown_start :
    (b : Grid) (p : ℕ) (old : List Bool) → free b p ≡ true → marked old p ≡ false → p < length old → Grown b p old (set old p true) (p ∷ [])
grown_start b p old open-p new less = record {
  start = (0, omega arith, λ d. refl);
  apart = apart_push [] p (λ q. omega arith) (λ h. omega (arith, h.1));
  open_squares = (open-p, tt);
  reached = (stay, tt);
  fresh = (new, tt);
  shown = (get_or-set_same old p true false less, tt);
  marks = λ r e.
      ⊎_elim (λ same. inr (0, omega arith, λ d. sym same)) (λ other. inl (sym (get_or-set_other old p r true false other) ∙ e)) (cases_eq r p);
  kept = λ r e. mark_keeps old p r less e;
  counted = count_mark old p less new;
}

module _ (b : Grid) (wide : 0 < b.width) (from : ℕ) where
  -- what was found stays found
  found_still : (qs qs' : List ℕ) → length qs ≤ length qs' → ((k : ℕ) → k < length qs → get_or qs' k 0 ≡ get_or qs k 0) → (q : ℕ) → Has qs q → Has qs' q
  found_still qs qs' longer same q h =
      let e = same h.0 h.1 ∙ h.2 0 in
      subst (Has qs') e (has_get_or qs' h.0 0 (omega (arith, h.1)))

  toward_next : (w : Way) (q : ℕ) → Toward b w from q → Next b from q
  unfolding WaysLaw
  toward_next w q t = (ways_law b from q wide).1 (w, t)

  module _ (i : ℕ) (d : Way) (less : i < 4) (seen seen' : List Bool) (qs qs' : List ℕ) (x : Visited b from (take i all_ways) seen seen' qs qs') where
    -- one way more, where nothing new lies
    pass : ((q : ℕ) → Toward b (get_or all_ways i d) from q → free b q ≡ true → marked seen' q ≡ true) → Visited b from (take (i + 1) all_ways) seen seen' qs qs'
    pass known = record {
      longer = x.longer;
      same = x.same;
      kept = x.kept;
      settled =
          subst (Every (λ w. (q : ℕ) → Toward b w from q → free b q ≡ true → marked seen' q ≡ true)) (sym (take_more all_ways i d less))
          (All-push (λ w. (q : ℕ) → Toward b w from q → free b q ≡ true → marked seen' q ≡ true) (take i all_ways) (get_or all_ways i d) x.settled known);
      grown = x.grown;
    }

    pub visited_none : Neighbour b from (get_or all_ways i d) None → Visited b from (take (i + 1) all_ways) seen seen' qs qs'
    unfolding Neighbour
    visited_none none = pass (λ q t f. absurd (none q t f))

    pub visited_seen : (q : ℕ) → Neighbour b from (get_or all_ways i d) (Some q) → marked seen' q ≡ true → Visited b from (take (i + 1) all_ways) seen seen' qs qs'
    unfolding Neighbour
    visited_seen q near e =
        pass (λ r t f. subst (λ u. marked seen' u ≡ true) (one_there b (get_or all_ways i d) from q r near.0 t) e)

    -- a new square
    reached_new : (q : ℕ) → Neighbour b from (get_or all_ways i d) (Some q) → (p : ℕ) (old : List Bool) → Grown b p old seen qs → Has qs from → Walk b p q
    unfolding Neighbour
    reached_new q near p old g h =
        let now-grown = x.grown p old g h in
        walk_trans (all-has (Walk b p) qs' from now-grown.reached (found_still qs qs' x.longer x.same from h))
        (go q (toward_next (get_or all_ways i d) q near.0) near.1 stay)

    pub visited_new :
        (q : ℕ) → Neighbour b from (get_or all_ways i d) (Some q) → marked seen' q ≡ false → q < length seen' →
        Visited b from (take (i + 1) all_ways) seen (set seen' q true) qs (qs' ++ q ∷ [])
    unfolding Neighbour
    visited_new q near new below = record {
      longer = let k = length_push qs' q in let l = x.longer in omega arith;
      same = λ k h. get_or_append_left qs' (q ∷ []) 0 k (let l = x.longer in omega arith) ∙ x.same k h;
      kept = λ r e. mark_keeps seen' q r below (x.kept r e);
      settled =
          subst (Every (λ w. (r : ℕ) → Toward b w from r → free b r ≡ true → marked (set seen' q true) r ≡ true)) (sym (take_more all_ways i d less))
          (All-push (λ w. (r : ℕ) → Toward b w from r → free b r ≡ true → marked (set seen' q true) r ≡ true) (take i all_ways) (get_or all_ways i d)
          (All-weaker (λ w. (r : ℕ) → Toward b w from r → free b r ≡ true → marked seen' r ≡ true)
          (λ w. (r : ℕ) → Toward b w from r → free b r ≡ true → marked (set seen' q true) r ≡ true) (λ w known r t f. mark_keeps seen' q r below (known r t f))
          (take i all_ways) x.settled)
          (λ r t f.
          subst (λ u. marked (set seen' q true) u ≡ true) (one_there b (get_or all_ways i d) from q r near.0 t) (get_or-set_same seen' q true false below)));
      grown = λ p old g h. grow b p old seen' qs' q (x.grown p old g h) (reached_new q near p old g h) near.1 new below;
    }

    -- no place is left for it
    pub visited_full :
        (q : ℕ) → Neighbour b from (get_or all_ways i d) (Some q) → marked seen' q ≡ false → 16 ≤ length qs' →
        (p : ℕ) (old : List Bool) → Grown b p old seen qs → Has qs from → Many 16 b p
    visited_full q near new full p old g h =
        let now-grown = x.grown p old g h in
        record {
          squares = qs' ++ q ∷ [];
          more = let k = length_push qs' q in omega arith;
          apart =
              apart_push qs' q now-grown.apart (λ k. both_ways (marked seen' q) new (all-has (λ r. marked seen' r ≡ true) qs' q now-grown.shown k));
          reached = All-push (Walk b p) qs' q now-grown.reached (reached_new q near p old g h);
        }

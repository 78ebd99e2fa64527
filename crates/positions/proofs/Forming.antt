-- One step of finding the forms of positions: what is remembered, the rows of a set, and its form.
use Rattle.std.proofs.Common.{◌≡◌, ℕ, zero, suc, ◌+◌, ◌-◌, ◌<◌, ◌≤◌, true, false, List, [], length, get_or, take, set, sym, refl, ap, ◌∙◌, subst, ⊎_elim, arith, below_more}
use Rattle.std.specs.List.{ContainsAt as Has}
use Rattle.std.proofs.lemmas.List.{get_or-set_same, get_or-set_other}
use Rattle.std.proofs.lemmas.Bool.{cases_eq}
use Rattle.games.specs.Game.{Side, Game}
use Rattle.games.specs.Order.{Equal}
use Rattle.games.proofs.Sides.{equal_sym}
use Rattle.forms.specs.declared.rows.Form.{Form}
use Rattle.forms.specs.Rows.{row_for}
use Rattle.forms.specs.Meaning.{meaning, given}
use Rattle.forms.specs.Links.{Table}
use Rattle.forms.proofs.Givens.{equal_given}
use Rattle.forms.proofs.Risings.{has_none}
use Rattle.canonical.specs.Reducing.{Inserted}
use Rattle.positions.specs.Growing.{Grows}
use Rattle.positions.specs.Memory.{Family, Noted, Remembers, Row}
use Rattle.positions.specs.Reach.{Moves, set_at, Can, Leads, stay, move}
use Rattle.positions.proofs.Growth.{grows_far, grows_meaning}

module _ (n : ℕ) (ms : Moves) where
  -- moves after moves
  pub leads_on : {a b c : ℕ} → Leads n ms a b → Leads n ms b c → Leads n ms a c
  leads_on stay m = m
  leads_on (move s i can on) m = move s i can (leads_on on m)

  -- they only take squares out
  pub leads_le : {a b : ℕ} → Leads n ms a b → b ≤ a
  leads_le stay = omega arith
  leads_le {a} {b} (move s i can on) = let h = leads_le on in omega arith

  pub leads_one : {a b : ℕ} (s : Side) (i : ℕ) → Leads n ms a b → Can n ms b s i → Leads n ms a (b - set_at ms s i)
  leads_one s i m can = leads_on m (move s i can stay)

module _ (n : ℕ) (ms : Moves) (game : ℕ → Game) (full : ℕ) where
  -- where something is noted, it is the number of a form
  pub noted_form : (ps : List ℕ) (at : ℕ) → Noted ps at → (k : ℕ) × (get_or ps at 0 ≡ suc k)
  noted_form ps at h = go (get_or ps at 0) refl
    where
      go : (x : ℕ) → get_or ps at 0 ≡ x → (k : ℕ) × (get_or ps at 0 ≡ suc k)
      go zero e = absurd (h e)
      go (suc k) e = (k, e)

  -- what is remembered stays right while the table grows
  pub remembers_kept : (B : Game → Type 0) (fs : List Form) (os : List ℕ) (u : ℕ) (gs : List Form) (qs : List ℕ) (v : ℕ) (ps : List ℕ) →
      Table fs os u → Grows B fs os u gs qs v → Remembers n ms game full fs os u ps → Remembers n ms game full gs qs v ps
  remembers_kept B fs os u gs qs v ps t g r = record {
    known = λ at k e. let far = grows_far B fs os u gs qs v t g in let low = r.known at k e in omega arith;
    reached = r.reached;
    right = λ at k e. subst (λ m. Equal m (game at)) (sym (grows_meaning B fs os u gs qs v t g k (r.known at k e))) (r.right at k e);
    closed = r.closed;
  }

  -- the form of one more set is noted
  pub remembers_more : (fs : List Form) (os : List ℕ) (u : ℕ) (ps : List ℕ) (at k : ℕ) → at < length ps → Remembers n ms game full fs os u ps → k < u → Leads n ms full at →
      Equal (meaning (take u fs) os k) (game at) → ((s : Side) (i : ℕ) → Can n ms at s i → Noted ps (at - set_at ms s i)) →
      Remembers n ms game full fs os u (set ps at (k + 1))
  remembers_more fs os u ps at k long r low leads right children = record {
    known = λ a j e. ⊎_elim (λ same. let x = here a same in omega arith) (λ other. r.known a j (sym (there a other) ∙ e)) (cases_eq a at);
    reached = λ a h. ⊎_elim (λ same. subst (Leads n ms full) (sym same) leads) (λ other. r.reached a (λ z. h (there a other ∙ z))) (cases_eq a at);
    right = λ a j e.
        ⊎_elim
        (λ same. let x = here a same in let y : j ≡ k = omega arith in subst (λ b. Equal (meaning (take u fs) os j) (game b)) (sym same) (subst (λ i. Equal (meaning (take u fs) os i) (game at)) (sym y) right))
        (λ other. r.right a j (sym (there a other) ∙ e))
        (cases_eq a at);
    closed = λ a h s i can.
        ⊎_elim
        (λ same. stays (a - set_at ms s i) (subst (λ b. Noted ps (b - set_at ms s i)) (sym same) (children s i (subst (λ b. Can n ms b s i) same can))))
        (λ other. stays (a - set_at ms s i) (r.closed a (λ z. h (there a other ∙ z)) s i can))
        (cases_eq a at);
  }
    where
      here : (a : ℕ) → a ≡ at → get_or (set ps at (k + 1)) a 0 ≡ k + 1
      here a e = ap (λ b. get_or (set ps at (k + 1)) b 0) e ∙ get_or-set_same ps at (k + 1) 0 long

      there : (a : ℕ) → (a ≡ at → ⊥) → get_or (set ps at (k + 1)) a 0 ≡ get_or ps a 0
      there a ne = get_or-set_other ps at a (k + 1) 0 ne

      stays : (a : ℕ) → Noted ps a → Noted (set ps at (k + 1)) a
      stays a h z = ⊎_elim (λ same. let x = here a same in omega arith) (λ other. h (sym (there a other) ∙ z)) (cases_eq a at)

  -- the rows of a set
  module _ (at : ℕ) (s : Side) where
    pub row_none : (fs : List Form) (os : List ℕ) (u : ℕ) (ps : List ℕ) → Row n ms game at s 0 fs os u ps []
    row_none fs os u ps = record { rising = tt; known = λ w h. absurd (has_none h); right = λ w h. absurd (has_none h); all = λ i h. absurd (omega arith) }

    -- a square at which there is no move
    pub row_skip : (k : ℕ) (fs : List Form) (os : List ℕ) (u : ℕ) (ps row : List ℕ) → (Can n ms at s k → ⊥) → Row n ms game at s k fs os u ps row → Row n ms game at s (k + 1) fs os u ps row
    row_skip k fs os u ps row cannot r = record {
      rising = r.rising;
      known = r.known;
      right = r.right;
      all = below_more (λ i. Can n ms at s i → Noted ps (at - set_at ms s i) × ((w : ℕ) × Has row w × Equal (meaning (take u fs) os w) (game (at - set_at ms s i)))) k r.all (λ can. absurd (cannot can));
    }

    pub row_kept : (B : Game → Type 0) (k : ℕ) (fs : List Form) (os : List ℕ) (u : ℕ) (ps : List ℕ) (gs : List Form) (qs : List ℕ) (v : ℕ) (rs row : List ℕ) →
        Table fs os u → Grows B fs os u gs qs v → ((a : ℕ) → Noted ps a → Noted rs a) → Row n ms game at s k fs os u ps row → Row n ms game at s k gs qs v rs row
    row_kept B k fs os u ps gs qs v rs row t g notes r = record {
      rising = r.rising;
      known = λ w h. let far = grows_far B fs os u gs qs v t g in let low = r.known w h in omega arith;
      right = λ w h. let x = r.right w h in (x.0, x.1, subst (λ m. Equal m (game (at - set_at ms s x.0))) (sym (grows_meaning B fs os u gs qs v t g w (r.known w h))) x.2);
      all = λ i h can.
          let x = r.all i h can in
          let w = x.1.0 in
          (notes (at - set_at ms s i) x.0, (w, x.1.1, subst (λ m. Equal m (game (at - set_at ms s i))) (sym (grows_meaning B fs os u gs qs v t g w (r.known w x.1.1))) x.1.2));
    }

    -- one more form in the row
    pub row_more : (k : ℕ) (fs : List Form) (os : List ℕ) (u : ℕ) (ps row : List ℕ) (new : List ℕ) (x : ℕ) → Can n ms at s k → Remembers n ms game full fs os u ps →
        get_or ps (at - set_at ms s k) 0 ≡ suc x → Row n ms game at s k fs os u ps row → Inserted row x new → Row n ms game at s (k + 1) fs os u ps new
    row_more k fs os u ps row new x can rem noted r ins = record {
      rising = ins.rising;
      known = λ w h. ⊎_elim (λ old. r.known w old) (λ same. let low = rem.known (at - set_at ms s k) x noted in omega arith) (ins.only w h);
      right = λ w h.
          ⊎_elim (λ old. r.right w old)
          (λ same. (k, can, subst (λ y. Equal (meaning (take u fs) os y) (game (at - set_at ms s k))) (sym same) (rem.right (at - set_at ms s k) x noted)))
          (ins.only w h);
      all = below_more (λ i. Can n ms at s i → Noted ps (at - set_at ms s i) × ((w : ℕ) × Has new w × Equal (meaning (take u fs) os w) (game (at - set_at ms s i)))) k
          (λ i h c. let y = r.all i h c in (y.0, (y.1.0, ins.stays y.1.0 y.1.1, y.1.2)))
          (λ c. (λ z. omega arith, (x, ins.has, rem.right (at - set_at ms s k) x noted)));
    }

  -- the game of a set is that of its two rows
  pub set_game : (at : ℕ) (fs : List Form) (os : List ℕ) (u : ℕ) (ps us ls : List ℕ) → Family n ms game → Row n ms game at true n fs os u ps us → Row n ms game at false n fs os u ps ls →
      Equal (game at) (given (take u fs) os us ls)
  set_game at fs os u ps us ls family up down =
      equal_given (take u fs) os us ls (game at)
      (λ s x i.
      let f = family.from at s x i in
      let w = ((row s).all f.0 f.1.low f.1).1 in
      (w.0, w.1, subst (λ y. Equal y (meaning (take u fs) os w.0)) (sym f.2) (equal_sym w.2)))
      (λ s k h. let w = (row s).right k h in (game (at - set_at ms s w.0), family.to at s w.0 w.1, w.2))
    where
      row : (s : Side) → Row n ms game at s n fs os u ps (row_for s us ls)
      row true = up
      row false = down

  -- and all that moves make of it is noted
  pub children_noted : (at : ℕ) (fs : List Form) (os : List ℕ) (u : ℕ) (ps us ls : List ℕ) → Row n ms game at true n fs os u ps us → Row n ms game at false n fs os u ps ls →
      (s : Side) (i : ℕ) → Can n ms at s i → Noted ps (at - set_at ms s i)
  children_noted at fs os u ps us ls up down true i can = (up.all i can.low can).0
  children_noted at fs os u ps us ls up down false i can = (down.all i can.low can).0

  -- what is noted of a set is noted of all that moves lead to
  pub noted_on : (fs : List Form) (os : List ℕ) (u : ℕ) (ps : List ℕ) → Remembers n ms game full fs os u ps → {a b : ℕ} → Leads n ms a b → Noted ps a → Noted ps b
  noted_on fs os u ps r stay h = h
  noted_on fs os u ps r {a} (move s i can on) h = noted_on fs os u ps r on (r.closed a h s i can)

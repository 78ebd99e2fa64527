-- Lists of all games of a kind, up to equality, made from others.
use mathlib.Core.Logic.{◌⊎◌, inl, inr}
use Rattle.games.specs.Game.{Game, Games, none, more, In, here, there, both}
use Rattle.games.specs.Order.{Equal}
use Rattle.games.proofs.Sides.{equal_refl, equal_trans}
use Rattle.games.proofs.Lists.{in_first, in_last, of_both, in_more}

-- a list of games that are P, in which each game that is P has an equal
pub record Listed (P : Game → Type 0) : Type 0 where
  pub list : Games
  pub sound : (f : Game) → In f list → P f
  pub found : (f : Game) → P f → (h : Game) × In h list × Equal f h

-- games that are P are Q, and games that are Q are equal to games that are P
pub as_listed : {P Q : Game → Type 0} → ((f : Game) → P f → Q f) → ((f : Game) → Q f → (h : Game) × P h × Equal f h) → Listed P → Listed Q
as_listed to from l =
    record {
      list = l.list;
      sound = λ f i. to f (l.sound f i);
      found =
          λ f q.
          let p = from f q in
          let h = l.found p.0 p.1 in
          (h.0, h.1, equal_trans p.2 h.2);
    }

pub one_listed : {P : Game → Type 0} (g : Game) → P g → ((f : Game) → P f → Equal f g) → Listed P
one_listed {P} g p only = record { list = more g none; sound = in_more P g none p (λ f i. elim i [ ]); found = λ f q. (g, here, only f q) }

pub either_listed : {P Q : Game → Type 0} → Listed P → Listed Q → Listed (λ f. P f ⊎ Q f)
either_listed {P} {Q} l m =
    record {
      list = both l.list m.list;
      sound = of_both (λ f. P f ⊎ Q f) l.list m.list (λ f i. inl (l.sound f i)) (λ f i. inr (m.sound f i));
      found =
          λ f. elim [
            | inl p ↦
                let h = l.found f p in
                (h.0, in_first m.list h.1, h.2)
            | inr q ↦
                let h = m.found f q in
                (h.0, in_last l.list h.1, h.2)
          ];
    }

-- what is listed for each game of a list
pub each_listed : {Q : Game → Game → Type 0} (gs : Games) → ((x : Game) → In x gs → Listed (Q x)) → Listed (λ f. (x : Game) × In x gs × Q x f)
each_listed none each = record { list = none; sound = λ f i. elim i [ ]; found = λ f q. elim q.1 [ ] }
each_listed {Q} (more g gs) each =
    as_listed (λ f. elim [ inl q ↦ (g, here, q) | inr q ↦ (q.0, there q.1, q.2) ]) (λ f q. (f, split f q.0 q.1 q.2, equal_refl f))
    (either_listed (each g here) (each_listed gs (λ x i. each x (there i))))
  where
    split : (f x : Game) → In x (more g gs) → Q x f → Q g f ⊎ ((x : Game) × In x gs × Q x f)
    split f x here q = inl q
    split f x (there i) q = inr (x, i, q)

-- what is listed for each game that is P, if equal games list the same
pub all_listed :
    {P : Game → Type 0} {Q : Game → Game → Type 0} → ((x h f : Game) → Equal x h → Q x f → Q h f) → Listed P → ((x : Game) → Listed (Q x)) →
    Listed (λ f. (x : Game) × P x × Q x f)
all_listed respects l each =
    as_listed (λ f q. (q.0, l.sound q.0 q.1, q.2))
    (λ f q.
    let h = l.found q.0 q.1 in
    (f, (h.0, h.1, respects q.0 h.0 f h.2 q.2), equal_refl f)) (each_listed l.list (λ x i. each x))

-- Striking: a list of games without its dominated ones.
use mathlib.Core.Path.{◌≡◌, refl}
use mathlib.Core.Logic.{◌⊎◌, inl, inr}
use Rattle.games.specs.Game.{Side, Game, Games, none, more, In, here, there}
use Rattle.games.specs.Order.{Worse, NotWorse}
use Rattle.games.proofs.Induction.{all_or_one, flipped}
use Rattle.games.proofs.Sides.{worse_refl, worse_trans, worse_or_not, worse_not_both}
use Rattle.games.proofs.Lists.{in_more}

-- the games of a list that are B, where each is A or B
record Sifted (A B : Game → Type 0) (vs : Games) : Type 0 where
  list : Games
  from : (u : Game) → In u list → In u vs × B u
  whole : (v : Game) → In v vs → In v list ⊎ A v

sift : (A B : Game → Type 0) (vs : Games) → ((v : Game) → A v ⊎ B v) → Sifted A B vs
sift A B none each = record { list = none; from = λ u i. elim i [ ]; whole = λ v i. elim i [ ] }
sift A B (more v vs) each = go (each v) (sift A B vs each)
  where
    go : A v ⊎ B v → Sifted A B vs → Sifted A B (more v vs)
    go (inl a) rest =
        record {
          list = rest.list;
          from = λ u i. let r = rest.from u i in (there r.0, r.1);
          whole = in_more (λ w. In w rest.list ⊎ A w) v vs (inr a) rest.whole;
        }
    go (inr b) rest =
        let us = more v rest.list in
        record {
          list = us;
          from = in_more (λ u. In u (more v vs) × B u) v rest.list (here, b) (λ u i. let r = rest.from u i in (there r.0, r.1));
          whole = in_more (λ w. In w us ⊎ A w) v vs (inl here) (λ w i. elim (rest.whole w i) [ inl j ↦ inl (there j) | inr a ↦ inr a ]);
        }

-- some games of a list, none of which dominates another, and which dominate all the others
pub record Thinned (s : Side) (ws : Games) : Type 0 where
  pub list : Games
  pub from : (v : Game) → In v list → In v ws
  pub cover : (w : Game) → In w ws → (v : Game) × In v list × Worse s w v
  pub apart : (x y : Game) → In x list → In y list → Worse s x y → x ≡ y

pub thin : (s : Side) (ws : Games) → Thinned s ws
thin s none = record { list = none; from = λ v i. elim i [ ]; cover = λ w i. elim i [ ]; apart = λ x y i. elim i [ ] }
thin s (more w ws) = go (thin s ws)
  where
    struck : (rest : Thinned s ws) → (v : Game) × In v rest.list × Worse s w v → Thinned s (more w ws)
    struck rest v =
        record {
          list = rest.list;
          from = λ u i. there (rest.from u i);
          cover = in_more (λ u. (v : Game) × In v rest.list × Worse s u v) w ws v rest.cover;
          apart = rest.apart;
        }

    kept : (rest : Thinned s ws) → ((v : Game) → In v rest.list → NotWorse s w v) → Thinned s (more w ws)
    kept rest alone =
        record {
          list = all;
          from = in_more (λ u. In u (more w ws)) w left.list here (λ u i. there (rest.from u (left.from u i).0));
          cover = in_more (λ u. (v : Game) × In v all × Worse s u v) w ws (w, here, worse_refl s w) (λ u i. covers u (rest.cover u i));
          apart = apart;
        }
      where
        left : Sifted (λ v. Worse s v w) (λ v. NotWorse s v w) rest.list
        left = sift (λ v. Worse s v w) (λ v. NotWorse s v w) rest.list (λ v. worse_or_not s v w)

        all : Games
        all = more w left.list

        covers : (u : Game) → (v : Game) × In v rest.list × Worse s u v → (v : Game) × In v all × Worse s u v
        covers u v =
            elim (left.whole v.0 v.1) [ inl i ↦ (v.0, there i, v.2) | inr p ↦ (w, here, worse_trans s u v.0 w v.2 p) ]

        apart : (x y : Game) → In x all → In y all → Worse s x y → x ≡ y
        apart x y here here p = refl
        apart x y here (there j) p = absurd (worse_not_both s x y p (alone y (left.from y j).0))
        apart x y (there i) here p = absurd (worse_not_both s x y p (left.from x i).1)
        apart x y (there i) (there j) p = rest.apart x y (left.from x i).0 (left.from y j).0 p

    go : Thinned s ws → Thinned s (more w ws)
    go rest =
        elim (all_or_one {P = λ v. NotWorse s w v} {Q = λ v. Worse s w v} rest.list (λ v i. flipped (worse_or_not s w v)))
        [ inl alone ↦ kept rest alone | inr v ↦ struck rest v ]

-- The rows that are left make a canonical game equal to the one that the rows give.
use Rattle.std.proofs.Common.{◌≡◌, ℕ, ◌<◌, true, false, List, length, sym, ap, ◌∙◌, subst}
use Rattle.games.specs.Game.{Side, other, Game, options, In}
use Rattle.games.specs.Order.{Equal, Worse, NotWorse}
use Rattle.games.specs.Canonical.{Canonical, canonical}
use Rattle.games.proofs.Sides.{turn_not, own, not_worse_below, equal_sym, equal_worse, equal_by}
use Rattle.forms.specs.declared.rows.Form.{Form}
use Rattle.forms.specs.Rows.{row_for}
use Rattle.forms.specs.Meaning.{meaning, given}
use Rattle.forms.specs.Soundness.{Sound}
use Rattle.forms.proofs.Givens.{in_given, from_given, of_given}
use Rattle.canonical.specs.Reducing.{Bypassed, Thinned, Reduced, Reduction}
use Rattle.canonical.proofs.Thinning.{all_from_has}

-- dominated forms struck from a row that serves
pub reduced : (fs : List Form) (os : List ℕ) (s : Side) (g : Game) (row new : List ℕ) → Bypassed fs os s g row → Thinned fs os s row new → Reduced fs os s g new
reduced fs os s g row new b t =
    record {
      fit =
          record {
            rising = t.rising;
            known = λ w h. b.fit.known w (t.from w h);
            allowed = λ w h. b.fit.allowed w (t.from w h);
            firm = λ w h. b.fit.firm w (t.from w h);
          };
      serves =
          λ x i k others has.
          b.serves x i k others (λ w h. let v = t.cover w h in not_worse_below s k (meaning fs os w) (meaning fs os v.0) (has v.0 v.1) v.2);
      apart = t.apart;
    }

-- the rows of both sides
pub both_reduced : (fs : List Form) (os : List ℕ) (g : Game) (us ls vs ks : List ℕ) → us ≡ vs → ls ≡ ks → Reduced fs os true g vs → Reduced fs os false g ks → (s : Side) → Reduced fs os s g (row_for s us ls)
both_reduced fs os g us ls vs ks e f p q true = subst (Reduced fs os true g) (sym e) p
both_reduced fs os g us ls vs ks e f p q false = subst (Reduced fs os false g) (sym f) q

module _ (fs : List Form) (os : List ℕ) (sound : Sound fs os) (g : Game) (us ls : List ℕ) (red : (s : Side) → Reduced fs os s g (row_for s us ls)) where
  serves : (s : Side) (x : Game) → In x (options s g) → NotWorse s (given fs os us ls) x
  serves s x i =
      (red s).serves x i (given fs os us ls)
      (of_given fs os us ls (λ r. NotWorse s r g) (other s) (λ r h. turn_not s g (meaning fs os r) ((red (other s)).fit.allowed r h)))
      (λ w h. own s (given fs os us ls) (meaning fs os w) (in_given fs os us ls s w h))

  pub equal_reduced : Equal g (given fs os us ls)
  equal_reduced = equal_by g (given fs os us ls) serves (λ s. of_given fs os us ls (NotWorse s g) s (red s).fit.allowed)

  apart : (s : Side) (x y : Game) → In x (options s (given fs os us ls)) → In y (options s (given fs os us ls)) → Worse s x y → x ≡ y
  apart s x y i j p =
      let a = from_given fs os us ls s x i in
      let b = from_given fs os us ls s y j in
      let q = subst (λ u. Worse s u (meaning fs os b.0)) (sym a.2) (subst (Worse s x) (sym b.2) p) in
      sym a.2 ∙ ap (meaning fs os) ((red s).apart a.0 b.0 a.1 b.1 q) ∙ b.2

  canonical_reduced : Canonical (given fs os us ls)
  canonical_reduced =
      canonical (λ s. of_given fs os us ls Canonical s (λ w h. sound.canonical w ((red s).fit.known w h))) apart
      (λ s x y i j.
      not_worse_below s y (given fs os us ls) g
      (of_given fs os us ls (λ x. (y : Game) → In y (options (other s) x) → NotWorse s y g) s (red s).fit.firm x i y j)
      (equal_worse s (given fs os us ls) g (equal_sym equal_reduced)))

  pub reduction : Reduction fs os us ls
  reduction =
      record {
        known = λ s. all_from_has (λ w. w < length fs) (row_for s us ls) (red s).fit.known;
        rising = λ s. (red s).fit.rising;
        canonical = canonical_reduced;
      }

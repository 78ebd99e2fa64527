-- The whole answer of the referee from its parts, and that no other fits.
use Rattle.std.proofs.Common.{IsErrAnd, ◌≡◌, ℕ, List, Ok, Err, Result, sym, ap, ◌∙◌, subst}
use Rattle.std.proofs.lemmas.Result.{err_from_is_err_and}
use Rattle.board.specs.Grid.{Grid, Side}
use Rattle.board.specs.Reading.{Read, refused, holds, record_read, places_in}
use Rattle.board.specs.declared.refusal.Refusal.{Refusal}
use Rattle.verdict.proofs.Answers.{same_side, one_judgement}
use Rattle.board.specs.Rules.{Stuck}
use Rattle.verdict.specs.Judging.{Judged, OneJudgement}
use Rattle.referee.specs.Following.{Played, stopped, ends, played, Ended, AfterPlay, AfterRead, Followed, OneFollowing}
use Rattle.referee.specs.declared.outcome.Outcome.{Outcome}
use Rattle.referee.specs.declared.outcome.Outcome.TheVariants.{LastMove, Open}

-- a file that is refused
pub not_read : (bs : List ℕ) (e : Refusal) (r : Result Outcome Refusal) → refused e ≡ record_read bs → IsErrAnd r (λ f. f ≡ e) → Followed bs r
unfolding Followed
not_read bs e r h is = let f = err_from_is_err_and r is in subst (λ x. AfterRead x (places_in bs) r) h (f.1 ∙ ap Err f.2)

-- a file that is read, and whose planks lead to x
pub is_read : (bs ps : List ℕ) (s : Side) (b : Grid) (x : Played) (r : Result Outcome Refusal) → holds s b ≡ record_read bs → ps ≡ places_in bs → x ≡ played 0 s b ps → AfterPlay x r → Followed bs r
unfolding Followed
is_read bs ps s b x r h places e after =
    subst (λ y. AfterRead y (places_in bs) r) h (subst (λ y. AfterPlay y r) (e ∙ ap (played 0 s b) places) after)

-- the board that the planks lead to is refused
pub not_judged : (s : Side) (b : Grid) (e : Refusal) (r : Result Outcome Refusal) → (Stuck s b → ⊥) → Judged s b (Err e) → IsErrAnd r (λ f. f ≡ e) → Ended s b r
not_judged s b e r free h is = let f = err_from_is_err_and r is in subst (Ended s b) (sym (f.1 ∙ ap Err f.2)) (free, h)

same_standing : (s : Side) (b : Grid) (x y : Result Outcome Refusal) → Ended s b x → Ended s b y → x ≡ y
unfolding OneJudgement
same_standing s b (Ok (LastMove t)) (Ok (LastMove u)) x y = ap (λ p. Ok (LastMove p)) (same_side t u (x.1 ∙ sym y.1))
same_standing s b (Ok (LastMove t)) (Ok (Open v)) x y = absurd (y.0 x.0)
same_standing s b (Ok (LastMove t)) (Err e) x y = absurd (y.0 x.0)
same_standing s b (Ok (Open v)) (Ok (LastMove u)) x y = absurd (x.0 y.0)
same_standing s b (Ok (Open v)) (Ok (Open w)) x y =
    let c = one_judgement s b (Ok (record { rooms = x.1.0; said = v })) (Ok (record { rooms = y.1.0; said = w })) x.1.1 y.1.1 in cc
same_standing s b (Ok (Open v)) (Err e) x y = let c = one_judgement s b (Ok (record { rooms = x.1.0; said = v })) (Err e) x.1.1 y.1 in cc
same_standing s b (Err d) (Ok (LastMove u)) x y = absurd (x.0 y.0)
same_standing s b (Err d) (Ok (Open w)) x y = let c = one_judgement s b (Err d) (Ok (record { rooms = y.1.0; said = w })) x.1 y.1.1 in cc
same_standing s b (Err d) (Err e) x y = let c = one_judgement s b (Err d) (Err e) x.1 y.1 in cc

after_play : (p : Played) (x y : Result Outcome Refusal) → AfterPlay p x → AfterPlay p y → x ≡ y
after_play (stopped e) x y a b = a ∙ sym b
after_play (ends s c) x y a b = same_standing s c x y a b

after_read : (f : Read) (ps : List ℕ) (x y : Result Outcome Refusal) → AfterRead f ps x → AfterRead f ps y → x ≡ y
after_read (refused e) ps x y a b = a ∙ sym b
after_read (holds s c) ps x y a b = after_play (played 0 s c ps) x y a b

pub one_following : OneFollowing
unfolding OneFollowing Followed
one_following bs x y a b = after_read (record_read bs) (places_in bs) x y a b

-- The judge's whole answer from its parts, and that no other fits.
use Rattle.std.proofs.Common.{IsErrAnd, ◌≡◌, ℕ, ◌<◌, true, List, Ok, Err, Result, sym, refl, ap, ◌∙◌, subst, inl, inr, ⊎_elim, arith}
use Rattle.std.proofs.lemmas.Result.{err_from_is_err_and}
use Rattle.std.proofs.lemmas.Bool.{both_ways}
use Rattle.board.specs.Grid.{Grid, Side, free_count}
use Rattle.board.specs.Reading.{Read, refused, holds, board_read}
use Rattle.board.specs.Values.{side_of}
use Rattle.board.proofs.Outcomes.{same_answer}
use Rattle.board.specs.declared.refusal.Refusal.{Refusal}
use Rattle.board.specs.declared.refusal.Refusal.TheVariants.{Count}
use Rattle.board.specs.declared.side.Side.{Side as Player}
use Rattle.board.specs.declared.side.Side.TheVariants.{Upright, Flat}
use Rattle.rooms.specs.Values.{rooms_of, told, Judged as RoomsJudged, OneJudged}
use Rattle.rooms.specs.declared.list.Rooms.{Rooms}
use Rattle.rooms.proofs.Answering.{one_judged}
use Rattle.verdict.specs.declared.judge.Judgement.{Judgement}
use Rattle.verdict.specs.declared.verdict.Said.{Said}
use Rattle.verdict.specs.declared.verdict.Verdict.{Verdict}
use Rattle.verdict.specs.declared.verdict.Verdict.TheVariants.{WinsAt, Lost}
use Rattle.verdict.specs.Judging.{answer_of, Right, Judged, judged, turned_away, heard, AfterRead, JudgedFile, OneJudgement, OneFileJudgement}

-- the parts of an answer
pub is_judged : (s : Side) (b : Grid) (x : Judgement) → RoomsJudged b (Ok x.rooms) → Right s b x.said → Judged s b (Ok x)
unfolding Judged
is_judged s b x rooms right = (rooms, right)

pub rooms_refused : (s : Side) (b : Grid) (e : Refusal) (r : Result Judgement Refusal) → RoomsJudged b (Err e) → IsErrAnd r (λ f. f ≡ e) → Judged s b r
unfolding Judged
rooms_refused s b e r h is = let f = err_from_is_err_and r is in subst (Judged s b) (sym (f.1 ∙ ap Err f.2)) (inl h)

pub count_refused : (s : Side) (b : Grid) (rs : Rooms) → RoomsJudged b (Ok rs) → 20 < free_count b.cells → Judged s b (Err Count)
unfolding Judged
count_refused s b rs h many = inr (rs, h, many, refl)

-- a file that is refused, and one that is read
pub not_read : (bs : List ℕ) (e : Refusal) (r : Result Judgement Refusal) → refused e ≡ board_read bs → IsErrAnd r (λ f. f ≡ e) → JudgedFile bs r
unfolding JudgedFile
not_read bs e r h is = let f = err_from_is_err_and r is in subst (λ x. AfterRead x r) h (f.1 ∙ ap Err f.2)

pub is_read : (bs : List ℕ) (s : Side) (b : Grid) (r : Result Judgement Refusal) → holds s b ≡ board_read bs → Judged s b r → JudgedFile bs r
unfolding JudgedFile
is_read bs s b r h told = subst (λ x. AfterRead x r) h told

same_verdict : (v w : Verdict) → answer_of v ≡ answer_of w → v ≡ w
same_verdict (WinsAt p) (WinsAt q) e = cc
same_verdict (WinsAt p) Lost e = cc
same_verdict Lost (WinsAt q) e = cc
same_verdict Lost Lost e = refl

pub same_side : (t u : Player) → side_of t ≡ side_of u → t ≡ u
same_side Upright Upright e = refl
same_side Upright Flat e = absurd (both_ways true e refl)
same_side Flat Upright e = absurd (both_ways true (sym e) refl)
same_side Flat Flat e = refl

same_said : (s : Side) (b : Grid) (v w : Said) → Right s b v → Right s b w → v ≡ w
same_said s b v w x y =
    let side = same_side v.side w.side (x.side ∙ sym y.side) in
    let verdict = same_verdict v.verdict w.verdict (same_answer s b (answer_of v.verdict) (answer_of w.verdict) x.says y.says) in
    λ i. record { side = side i; verdict = verdict i }

-- rooms that are fine are not refused
fine : (b : Grid) (rs : Rooms) (e : Refusal) → RoomsJudged b (Ok rs) → RoomsJudged b (Err e) → ⊥
unfolding OneJudged
fine b rs e x y = let t = one_judged b (Ok rs) (Err e) x y in let z : ◌≡◌ {A = ℕ} 0 1 = cc in omega arith

pub one_judgement : OneJudgement
unfolding OneJudgement Judged OneJudged
one_judgement s b (Ok v) (Ok w) x y =
    let rooms : rooms_of v.rooms ≡ rooms_of w.rooms = (let t = one_judged b (Ok v.rooms) (Ok w.rooms) x.0 y.0 in cc) in
    let said = same_said s b v.said w.said x.1 y.1 in
    λ i. judged (rooms i) (said i)
one_judgement s b (Ok v) (Err e) x y = absurd (⊎_elim (fine b v.rooms e x.0) (λ h. let few = x.1.few in let many = h.2 in omega arith) y)
one_judgement s b (Err d) (Ok w) x y = absurd (⊎_elim (fine b w.rooms d y.0) (λ h. let few = y.1.few in let many = h.2 in omega arith) x)
one_judgement s b (Err d) (Err e) x y =
    ⊎_elim
    (λ h. ⊎_elim (λ k. let t = one_judged b (Err d) (Err e) h k in cc) (λ k. absurd (fine b k.0 d k.1 h)) y)
    (λ h. ⊎_elim (λ k. absurd (fine b h.0 e h.1 k)) (λ k. ap turned_away (h.3 ∙ sym k.3)) y)
    x

after_read : (f : Read) (x y : Result Judgement Refusal) → AfterRead f x → AfterRead f y → heard x ≡ heard y
unfolding OneJudgement
after_read (refused e) x y a b = ap heard (a ∙ sym b)
after_read (holds s c) x y a b = one_judgement s c x y a b

pub one_file_judgement : OneFileJudgement
unfolding OneFileJudgement JudgedFile
one_file_judgement bs x y a b = after_read (board_read bs) x y a b

use Rattle.std.proofs.Common.{◌≡◌, Ok, Err, length, sym, refl, ap, ◌∙◌, subst, arith}
use Rattle.std.proofs.lemmas.Result.{err_from_is_err_and}
use Rattle.board.specs.Values.{grid_of}
use Rattle.positions.specs.Values.{room_squares}
use Rattle.positions.specs.Answers.{PositionOf, FormedRoom, RoomAnswer}
use Rattle.forms.specs.Values.{IsTable, in_use, game_in}
use Rattle.forms.proofs.Places.{of_read}
use Rattle.forms.proofs.Chains.{use_length}
use Rattle.positions.proofs.Growth.{grows_far}
use Rattle.sums.specs.Reaching.{Reaches}
use Rattle.sums.proofs.Holding.{holds_stays}
use Rattle.sums.proofs.Meeting.{reach_known, forms_known, unformed, unpaired, unsummed, joined}
use Rattle.sums.proofs.memory.Memory.join.Goals as goal
use Rattle.sums.proofs.memory.Memory.join.Goals.{After-as_slice-2}

pub invariant_of-self : goal.invariant_of-self
invariant_of-self c = holds_stays _ c.room_forms.ensures.stays c.self.invariant

pub invariant_of-self-in_err-reach : goal.invariant_of-self-in_err-reach
invariant_of-self-in_err-reach c = holds_stays _ c.room_forms.ensures.stays c.self.invariant

pub invariant_of-self-2 : goal.invariant_of-self-2
invariant_of-self-2 c = holds_stays _ c.room_forms.ensures.stays c.self.invariant

pub returns-in_err-found-clause-answer : goal.returns-in_err-found-clause-answer
returns-in_err-found-clause-answer c =
    let s = c.args.self.now.sums.table in
    let p = err_from_is_err_and c.from_residual.result c.from_residual.ensures.1 in
    rw (p.1, p.2) (unformed (game_in s c.args.t) (grid_of c.args.room.now.board) (room_squares c.args.room.now) s c.room_forms.new.table _
    (subst (λ v. RoomAnswer (grid_of c.args.room.now.board) (room_squares c.args.room.now) v.table c.room_forms.new.table (Err c.in_err-found.field-0.0)) (λ i. (c.self.view_is i).sums)
    c.in_err-found.ensures.answer))

pub reached-requires : goal.reached-requires
reached-requires c =
    let s = c.args.self.now.sums.table in
    let t = c.room_forms.new.table in
    let formed = (subst (λ v. RoomAnswer (grid_of c.args.room.now.board) (room_squares c.args.room.now) v.table t (Ok c.in_ok-found.found))
    (λ i. (c.self.view_is i).sums) c.in_ok-found.ensures.answer) in
    let far = grows_far (PositionOf (grid_of c.args.room.now.board) (room_squares c.args.room.now)) s.forms.now s.options.now s.used t.forms.now t.options.now t.used (subst (λ s. IsTable s.table) (λ i. (c.self.view_is i).sums) c.room_forms.ensures.stays.before) formed.grows in
    let long : length c.in_use.result.forms ≡ t.used = ap length c.in_use.ensures.forms ∙ use_length t.forms.now t.options.now t.used formed.grows.table in
    record { few = (let a = formed.grows.table.within in let b = formed.grows.table.size in omega arith); known = omega (arith, c.requires) }

-- the room's forms, and what is reached from the sum so far, as they are added
found : (c : After-as_slice-2) →
    FormedRoom (grid_of c.args.room.now.board) (room_squares c.args.room.now) c.args.self.now.sums.table.forms.now c.args.self.now.sums.table.options.now c.args.self.now.sums.table.used
    c.room_forms.new.table.forms.now c.room_forms.new.table.options.now c.in_ok-found.found.own c.as_slice-2.result.now c.room_forms.new.table.used
    × Reaches (in_use c.room_forms.new.table) c.room_forms.new.table.options.now c.args.t c.as_slice.result.now
found c =
    let s = c.args.self.now.sums.table in
    let t = c.room_forms.new.table in (
      subst (λ l. FormedRoom (grid_of c.args.room.now.board) (room_squares c.args.room.now) s.forms.now s.options.now s.used t.forms.now t.options.now c.in_ok-found.found.own l t.used)
          (sym c.as_slice-2.ensures.value)
          (subst (λ v. RoomAnswer (grid_of c.args.room.now.board) (room_squares c.args.room.now) v.table t (Ok c.in_ok-found.found))
          (λ i. (c.self.view_is i).sums) c.in_ok-found.ensures.answer),
      subst (Reaches (in_use t) t.options.now c.args.t) (sym c.as_slice.ensures.value)
          (of_read (λ gs ps. Reaches gs ps c.args.t c.in_ok-reach.reach.items) c.in_use.ensures.forms c.in_use.ensures.options c.in_ok-reach.ensures),
    )

pub all_sums-requires : goal.all_sums-requires
all_sums-requires c =
    let s = c.args.self.now.sums.table in
    let t = c.room_forms.new.table in
    let b = grid_of c.args.room.now.board in
    let r = room_squares c.args.room.now in
    let has = found c in
    record {
      first = reach_known t.forms.now t.options.now t.used c.args.t c.as_slice.result.now c.as_slice.result.now refl has.0.grows.table has.1;
      second = forms_known b r s.forms.now s.options.now s.used t.forms.now t.options.now c.in_ok-found.found.own c.as_slice-2.result.now c.as_slice-2.result.now t.used refl has.0;
    }

pub returns-in_err-all_sums-clause-answer : goal.returns-in_err-all_sums-clause-answer
returns-in_err-all_sums-clause-answer c =
    let s = c.args.self.now.sums.table in
    let t = c.room_forms.new.table in
    let has = found (goal.at.returns-in_err-all_sums-clause-answer c).After-as_slice-2 in
    let p = err_from_is_err_and c.from_residual-in_err-all_sums.result c.from_residual-in_err-all_sums.ensures.1 in
    rw (p.1, p.2)
    (unpaired (grid_of c.args.room.now.board) (room_squares c.args.room.now) s.forms.now s.options.now s.used (subst (λ s. IsTable s.table) (λ i. (c.self.view_is i).sums) c.room_forms.ensures.stays.before) c.args.t c.requires
    t.forms.now t.options.now c.in_ok-found.found.own c.as_slice-2.result.now t.used has.0 c.as_slice.result.now has.1 _ _ _ c.in_err-all_sums.ensures.answer)

pub sum-requires : goal.sum-requires
sum-requires c =
    let s = c.args.self.now.sums.table in
    let t = c.room_forms.new.table in
    let u = c.all_sums.new.self.table in
    let has = found (goal.at.sum-requires c).After-as_slice-2 in
    let added = c.in_ok-all_sums.ensures.answer in
    let far = grows_far (PositionOf (grid_of c.args.room.now.board) (room_squares c.args.room.now)) s.forms.now s.options.now s.used t.forms.now t.options.now t.used (subst (λ s. IsTable s.table) (λ i. (c.self.view_is i).sums) c.room_forms.ensures.stays.before) has.0.grows in
    let more = grows_far _ t.forms.now t.options.now t.used u.forms.now u.options.now u.used has.0.grows.table added.0.grows in
    let low = has.0.known in
    record { first = omega (arith, c.requires); second = omega arith }

pub returns-in_err-sum-clause-answer : goal.returns-in_err-sum-clause-answer
returns-in_err-sum-clause-answer c =
    let s = c.args.self.now.sums.table in
    let t = c.room_forms.new.table in
    let u = c.all_sums.new.self.table in
    let has = found (goal.at.returns-in_err-sum-clause-answer c).After-as_slice-2 in
    let p = err_from_is_err_and c.from_residual-in_err-sum.result c.from_residual-in_err-sum.ensures.1 in
    rw (p.1, p.2)
    (unsummed (grid_of c.args.room.now.board) (room_squares c.args.room.now) s.forms.now s.options.now s.used (subst (λ s. IsTable s.table) (λ i. (c.self.view_is i).sums) c.room_forms.ensures.stays.before) c.args.t c.requires
    t.forms.now t.options.now c.in_ok-found.found.own c.as_slice-2.result.now t.used has.0 c.as_slice.result.now has.1 u.forms.now u.options.now u.used c.in_ok-all_sums.ensures.answer.0
    _ _ _ c.in_err-sum.ensures.answer)

pub returns-clause-answer : goal.returns-clause-answer
returns-clause-answer c =
    let s = c.args.self.now.sums.table in
    let t = c.room_forms.new.table in
    let u = c.all_sums.new.self.table in
    let has = found (goal.at.returns-clause-answer c).After-as_slice-2 in
    joined (grid_of c.args.room.now.board) (room_squares c.args.room.now) s.forms.now s.options.now s.used (subst (λ s. IsTable s.table) (λ i. (c.self.view_is i).sums) c.room_forms.ensures.stays.before) c.args.t c.requires
    t.forms.now t.options.now c.in_ok-found.found.own c.as_slice-2.result.now t.used has.0 c.as_slice.result.now has.1 u.forms.now u.options.now u.used c.in_ok-all_sums.ensures.answer.0
    _ _ _ _ c.in_ok-sum.sum c.in_ok-sum.ensures.answer

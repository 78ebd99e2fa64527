use Rattle.std.proofs.Common.{rules, ◌^◌, ◌<◌, length, None, IfSome, slice_index, sym, subst, ⊎_elim, arith}
use Rattle.std.proofs.lemmas.List.{get_or_past}
use Rattle.std.proofs.lemmas.Bool.{cases_lt}
use Rattle.board.specs.Values.{side_of, grid_of}
use Rattle.positions.specs.Sets.{Move}
use Rattle.positions.proofs.Making.{each_called}
use Rattle.positions.proofs.moves.row_of.Goals as goal

pub returns : goal.returns
returns c =
    let all = c.from_fn.ensures.items in
    record {
      each = λ i low.
          each_called _ _ (λ k set. k < length c.args.squares.now → Move (grid_of c.args.board.now) c.args.squares.now (side_of c.args.side) (slice_index c.args.squares.now k) set)
          (λ k y q h. (λ less. search rules, search rules)) _ 0 16 all.each i None (omega arith) (let few = c.requires.few in omega arith) low;
      small = λ i.
          ⊎_elim (λ low. each_called _ _ (λ k set. IfSome set (λ m. m < 2 ^ 16)) (λ k y q h. (search rules, search rules)) _ 0 16 all.each i None (omega arith) low)
          (λ high. subst (λ o. IfSome o (λ m. m < 2 ^ 16)) (sym (get_or_past c.from_fn.result i None (let long = all.long in omega arith))) tt) (cases_lt i 16);
    }

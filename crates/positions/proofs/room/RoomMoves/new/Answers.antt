use Rattle.std.proofs.Common.{rules, ◌≡◌, ℕ, ◌<◌, true, false, length, slice_index, IfSome, ap, subst, arith}
use Rattle.board.specs.Values.{grid_of}
use Rattle.rooms.specs.Values.{squares_of}
use Rattle.positions.specs.Sets.{Move, row_for, set_in}
use Rattle.rooms.proofs.Finding.{squares_few}
use Rattle.positions.proofs.room.RoomMoves.new.Goals as goal

pub row_of-requires-clause-few : goal.row_of-requires-clause-few
row_of-requires-clause-few c = let few = squares_few c.args.room.now in let long = ap length c.squares-squares.ensures in omega arith

pub row_of-requires-2-clause-few : goal.row_of-requires-2-clause-few
row_of-requires-2-clause-few c = let few = squares_few c.args.room.now in let long = ap length c.squares-squares.ensures in omega arith

pub invariant_of-result : goal.invariant_of-result
invariant_of-result c =
    let few = squares_few c.args.room.now in
    let same = c.squares-squares.ensures in
    record {
      ground = record {
        inside = c.requires.room.inside;
        rising = c.requires.room.rising;
        few = few;
        places = λ s. elim s as (λ t. length (row_for t c.row_of.result c.row_of-2.result) ≡ 16) [ true ↦ search rules | false ↦ search rules ];
        small = λ s. elim s as (λ t. (i : ℕ) → IfSome (set_in (row_for t c.row_of.result c.row_of-2.result) i) (λ m. m < 65536)) [ true ↦ c.row_of.ensures.small | false ↦ c.row_of-2.ensures.small ];
        each = λ s. elim s as (λ t. (i : ℕ) → i < length (squares_of c.args.room.now) → Move (grid_of c.args.board.now) (squares_of c.args.room.now) t (slice_index (squares_of c.args.room.now) i) (set_in (row_for t c.row_of.result c.row_of-2.result) i)) [
          | true ↦ subst (λ l. (i : ℕ) → i < length l → Move (grid_of c.args.board.now) l true (slice_index l i) (set_in c.row_of.result i)) same c.row_of.ensures.each
          | false ↦ subst (λ l. (i : ℕ) → i < length l → Move (grid_of c.args.board.now) l false (slice_index l i) (set_in c.row_of-2.result i)) same c.row_of-2.ensures.each
        ];
      };
    }

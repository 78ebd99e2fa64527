use Rattle.std.proofs.Common.{Ok, Err}
use Rattle.canonical.proofs.Inserting.{looked_up, already, put_in}
use Rattle.canonical.proofs.rising.insert.Goals as goal

pub returns-in_ok-insert : goal.returns-in_ok-insert
returns-in_ok-insert c =
    let row = c.args.row.now.items in
    put_in row c.args.x c.in-Err.at c.requires.rising (looked_up row _ c.args.x (Err c.in-Err.at) c.as_slice.ensures.value c.requires.rising c.in-Err.ensures.position)
    c.insert.new.self.items c.in_ok-insert.ensures.items

pub returns-in_default : goal.returns-in_default
returns-in_default c =
    let row = c.args.row.now.items in
    let at = c.in_default.field-0 in
    already row c.args.x at c.requires.rising (looked_up row _ c.args.x (Ok at) c.as_slice.ensures.value c.requires.rising c.in_default.ensures.position)

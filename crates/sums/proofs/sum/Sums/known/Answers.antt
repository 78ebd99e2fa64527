use Rattle.std.proofs.Common.{ℕ, Option, Some, None, MatchOption, Ok, subst, arith}
use Rattle.sums.specs.Held.{Adding}
use Rattle.sums.specs.Pairs.{Recalled}
use Rattle.sums.specs.Values.{SumOf}
use Rattle.positions.proofs.Growth.{grows_none}
use Rattle.sums.proofs.Holding.{recalled}
use Rattle.sums.proofs.Gathering.{AreRight, right_of}
use Rattle.sums.proofs.sum.Sums.known.Goals as goal

pub recall-requires-clause-first : goal.recall-requires-clause-first
recall-requires-clause-first c =
    let right = right_of c.self-inside.invariant (λ i. (c.self-inside.view_is i).table) c.self.invariant c.self.view_is in
    omega (arith, c.requires.first, right.table.within, right.table.size)

pub recall-requires-clause-second : goal.recall-requires-clause-second
recall-requires-clause-second c =
    let right = right_of c.self-inside.invariant (λ i. (c.self-inside.view_is i).table) c.self.invariant c.self.view_is in
    omega (arith, c.requires.second, right.table.within, right.table.size)

known_of : (s : Adding) (x y : ℕ) → AreRight s → (o : Option ℕ) → Recalled s.pairs.now x y o → MatchOption o Unit (λ form. SumOf s x y s (Ok form))
known_of s x y right None r = tt
known_of s x y right (Some k) r =
    let a = recalled s.table.forms.now s.table.options.now s.table.used s.pairs.now right.pairs x y k r in
    (grows_none _ s.table.forms.now s.table.options.now s.table.used right.table, a.0, a.1, right.pairs)

pub returns : goal.returns
returns c =
    let right = right_of c.self-inside.invariant (λ i. (c.self-inside.view_is i).table) c.self.invariant c.self.view_is in
    known_of c.args.self.now c.args.x c.args.y right c.recall.result
    (subst (λ s. Recalled s.pairs.now c.args.x c.args.y c.recall.result) c.self.view_is
    (subst (λ ps. Recalled ps.now c.args.x c.args.y c.recall.result) (λ i. (c.self-inside.view_is i).pairs) c.recall.ensures))

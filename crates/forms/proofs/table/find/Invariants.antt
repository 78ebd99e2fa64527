use Rattle.std.proofs.Common.{ℕ, ◌<◌, ◌≤◌, length, take}
use Rattle.forms.specs.Growth.{IsRow}
use Rattle.forms.specs.Links.{link_number, Leads}
use Rattle.forms.proofs.table.find.Given as goal

abbrev pub invariant-loop-link : goal.invariant-loop-link
invariant-loop-link l =
    (link_number l.link ≤ l.used)
    × ((k : ℕ) → k < length (take l.used l.forms) → IsRow (take l.used l.forms) l.options l.rows.upright.now l.rows.flat.now k → Leads l.forms k (link_number l.link))

abbrev pub decreases-loop-link : goal.decreases-loop-link
decreases-loop-link l = link_number l.link

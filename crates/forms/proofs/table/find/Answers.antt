use Rattle.std.proofs.Common.{◌<◌, ap, subst, arith}
use Rattle.std.proofs.lemmas.Bool.{both_ways}
use Rattle.forms.specs.Links.{link_number, Leads}
use Rattle.forms.proofs.Chains.{leads_none, from_bucket, past}
use Rattle.forms.proofs.table.find.Goals as goal

pub loop-link-init : goal.loop-link-init
loop-link-init c = (
  c.requires.heads c.bucket.result c.bucket.ensures.bound,
  from_bucket c.args.forms.now c.args.options.now c.args.used c.requires c.args.rows.upright.now c.args.rows.flat.now c.bucket.result c.bucket.ensures.value,
)

pub loop-link-preserved : goal.loop-link-preserved
loop-link-preserved c =
    let at = ap link_number c.in-Some.is in
    let low : c.in-Some.k < c.args.used = omega (arith, c.loop-link.invariant.0) in (
      omega (arith, c.requires.falls c.in-Some.k low),
      past c.args.forms.now c.args.options.now c.args.used c.requires c.args.rows.upright.now c.args.rows.flat.now c.in-Some.k
          (λ k h is. subst (Leads c.args.forms.now k) at (c.loop-link.invariant.1 k h is))
          (λ is. both_ways c.is_row.result c.if-is_row.false (c.is_row.ensures.1 is)),
    )

pub returns : goal.returns
returns c k h is = leads_none (c.loop-link.invariant.1 k h is) (let at = ap link_number c.in_default.is in omega arith)

use Rattle.std.proofs.Common.{◌<◌, length, IfOk, vec_items, sym, subst}
use Rattle.std.proofs.lemmas.Result.{IfOk-weaker}
use Rattle.board.specs.Values.{side_of}
use Rattle.forms.specs.Rows.{Rising}
use Rattle.forms.specs.Meaning.{given}
use Rattle.forms.specs.Soundness.{Known}
use Rattle.canonical.specs.Reducing.{Thinned, Reduced}
use Rattle.canonical.proofs.Thinning.{all_from_has}
use Rattle.canonical.proofs.Reduces.{reduced}
use Rattle.canonical.proofs.given.Given.reduce.Goals as goal

pub thin-requires : goal.thin-requires
thin-requires c =
    let b = c.in_ok-firm.ensures in
    let same = sym c.as_slice.ensures.value in
    record {
      known = subst (λ f. Known f.forms c.as_slice.result.now) (λ i. (sym c.self.view_is i).forms)
          (subst (Known c.args.self.now.forms.forms) same (all_from_has (λ w. w < length c.args.self.now.forms.forms) _ b.fit.known));
      rising = subst Rising same b.fit.rising;
    }

pub returns : goal.returns
returns c =
    let fs = c.args.self.now.forms.forms in
    let os = c.args.self.now.forms.options in
    let s = (side_of c.args.side) in
    let g = given fs os c.args.self.now.rows.upright.now c.args.self.now.rows.flat.now in
    let row = vec_items c.in_ok-firm.firm in
    IfOk-weaker c.thin.result (λ v. Thinned fs os s c.as_slice.result.now (vec_items v)) (λ v. Reduced fs os s g (vec_items v))
    (λ v t. reduced fs os s g row (vec_items v) c.in_ok-firm.ensures (subst (λ l. Thinned fs os s l (vec_items v)) c.as_slice.ensures.value t))
    (subst (λ f. IfOk c.thin.result (λ v. Thinned f.forms f.options s c.as_slice.result.now (vec_items v))) (λ i. (c.self.view_is i).forms) c.thin.ensures)

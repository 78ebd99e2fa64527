use Rattle.std.proofs.Common.{rules, ◌≡◌, ◌+◌, ◌*◌, ◌%◌, ◌<◌, refl, sym, ap, ◌∙◌, subst, arith}
use Rattle.std.proofs.lemmas.Fn.{fold_over, serves_by, slice_gives, fronts}
use Rattle.std.proofs.lemmas.Nat.{mod_below}
use Rattle.forms.specs.Links.{mixed}
use Rattle.forms.proofs.Chains.{mixed_push}
use Rattle.forms.proofs.table.mix.Goals as goal

pub fold-requires-clause-callable : goal.fold-requires-clause-callable
fold-requires-clause-callable c = serves_by _ (λ xs q. q.1 < 65521) (λ xs q x v j r. search rules) _ _ _ _ c.requires (λ xs t q x u y e j. search rules)

pub returns : goal.returns
returns c =
    let start = c.args.start in
    let sum = subst (λ l. (c.fold.result < 65521) × (c.fold.result ≡ mixed start l)) c.iter.ensures.rest
    (fold_over fronts (λ y. y.now) _ (λ ys n. (n < 65521) × (n ≡ mixed start ys)) _
    (λ ys a x b f' j k.
    let is : b ≡ (a * 40503 + x.now + 1) % 65521 = search rules in
    ((subst (λ n. n < 65521) (sym is) (mod_below (a * 40503 + x.now + 1) 65521 (omega arith)), is ∙ ap (λ n. (n * 40503 + x.now + 1) % 65521) j.1 ∙ sym (mixed_push start ys x.now)), refl))
    _ _ _ _ (slice_gives c.iter.result) (c.requires, refl) c.fold.ensures.ran) in
    record { value = sum.1; bound = sum.0 }

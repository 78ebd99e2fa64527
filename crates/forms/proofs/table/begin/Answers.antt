use Rattle.std.proofs.Common.{◌*◌, ◌≤◌, length, refl, subst, arith}
use Rattle.std.proofs.lemmas.List.{length-set}
use Rattle.forms.proofs.Starting.{table_start, all_blank}
use Rattle.forms.proofs.table.begin.Goals as goal

pub returns : goal.returns
returns c =
    let long = c.fill.ensures.len in (
      refl,
      λ os space.
          table_start c.fill.new.self os (all_blank _ _ (c.fill.ensures.after (λ y h. h))) (omega (arith, c.requires.some)) (omega (arith, c.requires.few))
          (subst (λ m. 32 * m ≤ length os) (length-set _ _ _) space) c.bucket-bucket.result c.bucket-bucket.ensures.bound c.bucket-bucket.ensures.value,
    )

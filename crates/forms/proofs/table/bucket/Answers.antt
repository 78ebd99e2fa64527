use Rattle.std.proofs.Common.{◌%◌, ap, ◌∙◌, mod-lt}
use Rattle.forms.specs.Links.{bucket_of, mixed}
use Rattle.forms.proofs.table.bucket.Goals as goal

pub returns : goal.returns
unfolding bucket_of
returns c =
    record {
      value = ap (λ h. h % c.args.size) (c.mix-2.ensures.value ∙ ap (λ h. mixed h c.args.rows.flat.now) c.mix.ensures.value);
      bound = mod-lt _ c.requires;
    }

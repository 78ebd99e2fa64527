use Rattle.forms.proofs.Windows.{wrote_upright, wrote_flat}
use Rattle.forms.proofs.table.write_row.Goals as goal

pub returns : goal.returns
returns c =
    record {
      upright = wrote_upright c.args.rows.upright.now c.args.rows.flat.now c.args.place.now c.requires.long c.requires.few_upright c.requires.few_flat _ _ c.copy_from_slice.ensures.after;
      flat = wrote_flat c.args.rows.upright.now c.args.rows.flat.now c.args.place.now c.requires.long c.requires.few_upright c.requires.few_flat _ _ c.copy_from_slice.ensures.after c.copy_from_slice-2.ensures.after;
    }

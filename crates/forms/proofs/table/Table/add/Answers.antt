use Rattle.std.proofs.Common.{◌≡◌, ◌+◌, ◌*◌, ◌<◌, ◌≤◌, true, false, length, sym, refl, ◌∙◌, subst, arith}
use Rattle.std.proofs.lemmas.List.{length-set}
use Rattle.forms.specs.Growth.{Fresh}
use Rattle.forms.specs.Values.{in_use}
use Rattle.forms.proofs.Windows.{part_long, length_put, before_put, row_put}
use Rattle.forms.proofs.Linking.{table_after, kept_after, new_row}
use Rattle.forms.proofs.table.Table.add.Goals as goal

pub write_row-requires : goal.write_row-requires
write_row-requires c =
    let s = c.self.inside in
    let room : s.used < length s.forms.now = subst (λ v. v.used < length v.forms.now) (sym c.self.view_is) c.requires.room in
    record {
      long = part_long s.used s.options.now (let h = c.self.invariant.space in omega (arith, room));
      few_upright = c.requires.fresh.few true;
      few_flat = c.requires.fresh.few false;
    }

pub overflow_cast-self : goal.overflow_cast-self
overflow_cast-self c = omega (arith, c.requires.fresh.few true)

pub overflow_cast-self-2 : goal.overflow_cast-self-2
overflow_cast-self-2 c = omega (arith, c.requires.fresh.few false)

pub invariant_of-self : goal.invariant_of-self
invariant_of-self c =
    let s = c.self.inside in
    let t = c.self.invariant in
    let us = c.args.rows.upright.now in
    let ls = c.args.rows.flat.now in
    let room : s.used < length s.forms.now = subst (λ v. v.used < length v.forms.now) (sym c.self.view_is) c.requires.room in
    let fresh = subst (λ v. Fresh (in_use v) v.options.now us ls) (sym c.self.view_is) c.requires.fresh in
    let space : 32 * s.used + 32 ≤ length s.options.now = let h = t.space in omega (arith, room) in
    let long : length c.write_row.new.place ≡ 32 = c.write_row.auto.place ∙ part_long s.used s.options.now space in
    table_after s.forms.now s.options.now s.used us ls t room fresh c.bucket-bucket.result c.bucket-bucket.ensures.bound c.bucket-bucket.ensures.value _
    (length_put s.used s.options.now c.write_row.new.place space long) (before_put s.used s.options.now c.write_row.new.place space long)
    (row_put s.used s.options.now c.write_row.new.place space long us ls (fresh.few true) (fresh.few false) c.write_row.ensures.upright c.write_row.ensures.flat)

pub returns : goal.returns
returns c =
    let s = c.self.inside in
    let t = c.self.invariant in
    let us = c.args.rows.upright.now in
    let ls = c.args.rows.flat.now in
    let room : s.used < length s.forms.now = subst (λ v. v.used < length v.forms.now) (sym c.self.view_is) c.requires.room in
    let fresh = subst (λ v. Fresh (in_use v) v.options.now us ls) (sym c.self.view_is) c.requires.fresh in
    let space : 32 * s.used + 32 ≤ length s.options.now = let h = t.space in omega (arith, room) in
    let long : length c.write_row.new.place ≡ 32 = c.write_row.auto.place ∙ part_long s.used s.options.now space in
    let same = length_put s.used s.options.now c.write_row.new.place space long in
    let before = before_put s.used s.options.now c.write_row.new.place space long in
    let written = row_put s.used s.options.now c.write_row.new.place space long us ls (fresh.few true) (fresh.few false) c.write_row.ensures.upright c.write_row.ensures.flat in
    let bound = c.bucket-bucket.ensures.bound in
    let value = c.bucket-bucket.ensures.value in
    rw (← c.self.view_is)
    (record {
      number = refl;
      used = refl;
      row = new_row s.forms.now s.options.now s.used us ls t room fresh c.bucket-bucket.result bound value _ same before written;
      stays = record {
        before = t;
        after = table_after s.forms.now s.options.now s.used us ls t room fresh c.bucket-bucket.result bound value _ same before written;
        rows = record { forms = refl; options = refl; places = length-set _ s.used _ ∙ length-set s.forms.now c.bucket-bucket.result _; space = same };
        kept = kept_after s.forms.now s.options.now s.used us ls t room fresh c.bucket-bucket.result bound value _ same before written;
      };
    })

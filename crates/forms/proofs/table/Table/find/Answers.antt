use Rattle.forms.proofs.table.Table.find.Goals as goal

pub returns : goal.returns
returns c = rw (← c.self.view_is) c.find.ensures

use Rattle.std.proofs.Common.{◌∙◌, sym}
use Rattle.clr_types.proofs.NameLists.{name_number-position}
use Rattle.clr_types.proofs.names.Names.search.Goals as goal

pub returns-clause-value : goal.returns-clause-value
returns-clause-value c = rw (← c.self.view_is)
    (c.get_index_of.ensures.index ∙ sym (name_number-position c.args.name.now c.self.inside.set.keys))

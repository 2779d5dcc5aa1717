use Rattle.std.proofs.Common.{◌∙◌}
use Rattle.clr_mem.proofs.Padding.{read-word}
use Rattle.clr_mem.proofs.lazy.LazyBytes.word.Goals as goal

pub returns : goal.returns
returns c =
    let m = c.self.inside in
    rw (← c.self.view_is) (c.load_word.ensures ∙ read-word m.size m.stored.items c.args.at)

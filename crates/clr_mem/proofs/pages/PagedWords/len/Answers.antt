use Rattle.std.proofs.Common.{ap, sym, ◌∙◌, length}
use Rattle.clr_mem.proofs.Paging.{length-paged}
use Rattle.clr_mem.proofs.pages.PagedWords.len.Goals as goal

pub returns : goal.returns
returns c =
    let m = c.self.inside in
    sym (length-paged m.len m.numbers.items m.stored.items) ∙ ap length c.self.view_is

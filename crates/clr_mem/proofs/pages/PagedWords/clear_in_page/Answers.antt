use Rattle.std.proofs.Common.{sym, ◌∙◌, arith}
use Rattle.clr_mem.proofs.Paging.{lacking-cleared, length-paged, length-pages, seen-cleared}
use Rattle.clr_mem.proofs.pages.PagedWords.clear_in_page.Goals as goal

pub returns-in-Some-clause-items : goal.returns-in-Some-clause-items
returns-in-Some-clause-items c =
    let m = c.self.inside in
    let long = length-pages m.len m.numbers.items m.stored.items _ c.self.view_is in
    let inside = c.requires.inside in
    seen-cleared m.len m.numbers.items m.stored.items _ c.self.view_is _ _ c.self.invariant c.args.at c.in-Some.begin
    c.args.n c.clear_words.new.words.items (sym c.in-Some.ensures) c.requires.page (omega (arith, inside, long))
    c.clear_words.ensures.items

pub returns-in-Some-clause-len : goal.returns-in-Some-clause-len
returns-in-Some-clause-len c =
    let m = c.self.inside in
    length-paged m.len m.numbers.items c.clear_words.new.words.items
    ∙ sym (length-pages m.len m.numbers.items m.stored.items _ c.self.view_is)

pub returns-in_default-clause-items : goal.returns-in_default-clause-items
returns-in_default-clause-items c =
    let m = c.self.inside in
    let long = length-pages m.len m.numbers.items m.stored.items _ c.self.view_is in
    let inside = c.requires.inside in
    lacking-cleared m.len m.numbers.items m.stored.items _ c.self.view_is _ _ c.self.invariant c.args.at c.args.n
    (sym c.in_default.ensures) c.requires.page (omega (arith, inside, long))

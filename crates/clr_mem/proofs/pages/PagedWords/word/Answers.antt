use Rattle.std.proofs.Common.{sym, ◌∙◌, arith}
use Rattle.std.proofs.lemmas.List.{get_or_past, get_or_read}
use Rattle.clr_mem.proofs.Paging.{length-pages, page-inside, read-lacking, read-stored}
use Rattle.clr_mem.proofs.pages.PagedWords.word.Goals as goal

pub returns-then-self-i : goal.returns-then-self-i
returns-then-self-i c =
    let m = c.self.inside in
    let long = length-pages m.len m.numbers.items m.stored.items _ c.self.view_is in
    sym (get_or_past c.args.self.now c.args.i 0 (omega arith))

pub returns-in-Some : goal.returns-in-Some
returns-in-Some c =
    let m = c.self.inside in
    let b = sym c.in-Some.ensures in
    let room = page-inside m.len m.numbers.items m.stored.items _ _ c.self.invariant _ c.in-Some.begin b in
    get_or_read m.stored.items _ _ (omega arith) c.index.ensures 0
    ∙ read-stored m.len m.numbers.items m.stored.items _ c.self.view_is c.args.i c.in-Some.begin (omega arith) b

pub returns-in-None : goal.returns-in-None
returns-in-None c =
    let m = c.self.inside in
    sym (read-lacking m.len m.numbers.items m.stored.items _ c.self.view_is c.args.i (omega arith)
    (sym c.in-None.ensures))

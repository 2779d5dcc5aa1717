use Rattle.std.proofs.Common.{◌+◌, ◌-◌, ◌%◌, length, ap, sym, ◌∙◌, arith}
use Rattle.clr_mem.specs.Words.{is_between}
use Rattle.clr_mem.proofs.Between.{between-zero}
use Rattle.clr_mem.proofs.Paging.{length-pages, page-inside, part-inside, part-lacking, part-most, read-part}
use Rattle.clr_mem.proofs.pages.PagedWords.first_in_page.Goals as goal

pub returns-in-Some-clause-before : goal.returns-in-Some-clause-before
returns-in-Some-clause-before c = λ j l.
    let m = c.self.inside in
    let long = length-pages m.len m.numbers.items m.stored.items _ c.self.view_is in
    let inside = c.requires.inside in
    let at = c.in-Some.begin + c.args.i % 512 in
    let most = part-most c.deref.result.now at (at + c.args.n - at) c.args.n _ c.first_number_between.ensures.most
    (omega arith) in
    ap (is_between c.args.low c.args.high)
    (sym (read-part m.len m.numbers.items m.stored.items _ c.self.view_is c.args.i c.in-Some.begin c.args.n j
    (sym c.in-Some.ensures) c.requires.page (omega (arith, inside, long)) (omega (arith, l, most))
    c.deref.result.now c.deref.ensures.value _ (omega arith)))
    ∙ c.first_number_between.ensures.before j l

pub returns-in-Some-clause-found : goal.returns-in-Some-clause-found
returns-in-Some-clause-found c = λ l.
    let m = c.self.inside in
    let long = length-pages m.len m.numbers.items m.stored.items _ c.self.view_is in
    let inside = c.requires.inside in
    let at = c.in-Some.begin + c.args.i % 512 in
    let room = page-inside m.len m.numbers.items m.stored.items _ _ c.self.invariant _ c.in-Some.begin
    (sym c.in-Some.ensures) in
    let page = c.requires.page in
    let size = ap length c.deref.ensures.value in
    let j = c.first_number_between.result in
    ap (is_between c.args.low c.args.high)
    (sym (read-part m.len m.numbers.items m.stored.items _ c.self.view_is c.args.i c.in-Some.begin c.args.n j
    (sym c.in-Some.ensures) c.requires.page (omega (arith, inside, long)) l c.deref.result.now c.deref.ensures.value
    _ (omega arith)))
    ∙ c.first_number_between.ensures.found
    (part-inside c.deref.result.now at _ c.args.n j l (omega arith) (omega (arith, room, page, size)))

pub returns-in-None-clause-before : goal.returns-in-None-clause-before
returns-in-None-clause-before c = λ j l.
    let m = c.self.inside in
    let long = length-pages m.len m.numbers.items m.stored.items _ c.self.view_is in
    let inside = c.requires.inside in
    between-zero c.args.low c.args.high _ c.requires.above
    (part-lacking m.len m.numbers.items m.stored.items _ c.self.view_is c.args.i c.args.n j (sym c.in-None.ensures)
    c.requires.page (omega (arith, inside, long)) l)

use Rattle.std.proofs.Common.{◌/◌, ap, sym, ◌∙◌, arith}
use Rattle.clr_mem.specs.Words.{overwrite}
use Rattle.clr_mem.proofs.Paging.{lacking-part, length-paged, length-pages, page-inside, seen-moved, still-paged}
use Rattle.clr_mem.proofs.pages.PagedWords.slide_front.Goals as goal

pub move_words-requires-clause-from_in : goal.move_words-requires-clause-from_in
move_words-requires-clause-from_in c =
    let m = c.self.inside in
    let long = length-pages m.len m.numbers.items m.stored.items _ c.self.view_is in
    let reached = c.reach_page.ensures in
    let is = reached.paged m.len (omega arith) c.self.invariant in
    let room = page-inside m.len c.reach_page.new.numbers.items c.reach_page.new.stored.items _ _ is
    (c.args.start / 512) c.in-Some.begin (reached.kept (c.args.start / 512) c.in-Some.begin (sym c.in-Some.ensures)) in
    omega arith

pub invariant_of-self : goal.invariant_of-self
invariant_of-self c =
    let m = c.self.inside in
    let long = length-pages m.len m.numbers.items m.stored.items _ c.self.view_is in
    let is = c.reach_page.ensures.paged m.len (omega arith) c.self.invariant in
    still-paged m.len c.reach_page.new.numbers.items _ _ _ _ _ is c.move_words.ensures.len (omega arith)

pub returns-in-Some-clause-items : goal.returns-in-Some-clause-items
returns-in-Some-clause-items c =
    let m = c.self.inside in
    let long = length-pages m.len m.numbers.items m.stored.items _ c.self.view_is in
    let reached = c.reach_page.ensures in
    let is = reached.paged m.len (omega arith) c.self.invariant in
    seen-moved m.len c.reach_page.new.numbers.items c.reach_page.new.stored.items _
    (reached.words m.len ∙ c.self.view_is) _ _ is c.args.start c.in-Some.begin c.args.at c.reach_page.result
    c.min-count.result c.move_words.new.words.items
    (reached.kept (c.args.start / 512) c.in-Some.begin (sym c.in-Some.ensures)) reached.begin
    (omega arith) (omega arith) (omega arith) (omega arith) c.move_words.ensures.items

pub returns-in-Some-clause-len : goal.returns-in-Some-clause-len
returns-in-Some-clause-len c =
    let m = c.self.inside in
    length-paged m.len c.reach_page.new.numbers.items c.move_words.new.words.items
    ∙ sym (length-pages m.len m.numbers.items m.stored.items _ c.self.view_is)

pub returns-in-None-clause-items : goal.returns-in-None-clause-items
returns-in-None-clause-items c =
    let m = c.self.inside in
    let long = length-pages m.len m.numbers.items m.stored.items _ c.self.view_is in
    c.clear_in_page.ensures.items
    ∙ ap (overwrite c.args.self.now c.args.at)
    (sym (lacking-part m.len m.numbers.items m.stored.items _ c.self.view_is _ _ c.self.invariant c.args.start
    c.min-count.result (sym c.in-None.ensures) (omega arith) (omega arith)))

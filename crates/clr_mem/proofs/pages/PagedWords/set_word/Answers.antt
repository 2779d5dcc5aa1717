use Rattle.std.proofs.Common.{◌+◌, ◌%◌, ◌/◌, set, ap, refl, sym, ◌∙◌, arith, length-set}
use Rattle.std.proofs.lemmas.List.{set-get_or}
use Rattle.clr_mem.proofs.Paging.{length-pages, page-inside, read-lacking, seen-set, still-paged}
use Rattle.clr_mem.proofs.pages.PagedWords.set_word.Goals as goal

pub add_page-begin-requires-clause-paged : goal.add_page-begin-requires-clause-paged
add_page-begin-requires-clause-paged c =
    let m = c.self.inside in
    let long = length-pages m.len m.numbers.items m.stored.items _ c.self.view_is in
    (m.len, c.self.invariant, omega arith)

pub index_mut-requires-then-v-ne0 : goal.index_mut-requires-then-v-ne0
index_mut-requires-then-v-ne0 c =
    let m = c.self.inside in
    let long = length-pages m.len m.numbers.items m.stored.items _ c.self.view_is in
    let added = c.add_page-begin.ensures in
    let is = added.paged m.len (omega arith) c.self.invariant in
    let room = page-inside m.len c.add_page-begin.new.numbers.items c.add_page-begin.new.stored.items _ _ is
    (c.args.i / 512) c.add_page-begin.result added.begin in
    omega arith

pub invariant_of-self-then-v-ne0 : goal.invariant_of-self-then-v-ne0
invariant_of-self-then-v-ne0 c =
    let m = c.self.inside in
    let long = length-pages m.len m.numbers.items m.stored.items _ c.self.view_is in
    let is = c.add_page-begin.ensures.paged m.len (omega arith) c.self.invariant in
    still-paged m.len c.add_page-begin.new.numbers.items _ _ _ _ _ is
    (length-set c.add_page-begin.new.stored.items (c.add_page-begin.result + c.args.i % 512) c.args.v) (omega arith)

pub returns-in-Some : goal.returns-in-Some
returns-in-Some c =
    let m = c.self.inside in
    let long = length-pages m.len m.numbers.items m.stored.items _ c.self.view_is in
    seen-set m.len m.numbers.items m.stored.items _ c.self.view_is _ _ c.self.invariant c.args.i c.in-Some.begin
    c.args.v _ (sym c.in-Some.ensures) (omega arith) refl

pub returns-then-v-ne0 : goal.returns-then-v-ne0
returns-then-v-ne0 c =
    let m = c.self.inside in
    let long = length-pages m.len m.numbers.items m.stored.items _ c.self.view_is in
    let added = c.add_page-begin.ensures in
    let is = added.paged m.len (omega arith) c.self.invariant in
    seen-set m.len c.add_page-begin.new.numbers.items c.add_page-begin.new.stored.items _
    (added.words m.len ∙ c.self.view_is) _ _ is c.args.i c.add_page-begin.result c.args.v _ added.begin
    (omega arith) refl

pub returns-else-v-ne0 : goal.returns-else-v-ne0
returns-else-v-ne0 c =
    let m = c.self.inside in
    let long = length-pages m.len m.numbers.items m.stored.items _ c.self.view_is in
    let lacks = read-lacking m.len m.numbers.items m.stored.items _ c.self.view_is c.args.i (omega arith)
    (sym c.in-None.ensures) in
    sym (set-get_or c.args.self.now c.args.i 0) ∙ ap (set c.args.self.now c.args.i) (omega (arith, lacks))

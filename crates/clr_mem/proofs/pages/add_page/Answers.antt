use Rattle.std.proofs.Common.{◌≡◌, ◌+◌, ◌/◌, length, set, ap, arith}
use Rattle.clr_mem.proofs.Paging.{added-paged, added-words, room-left}
use Rattle.clr_mem.proofs.pages.add_page.Goals as goal

pub store_page-requires : goal.store_page-requires
store_page-requires c =
    let len = c.requires.paged.0 in
    let is = c.requires.paged.1 in
    let there = c.requires.paged.2 in
    let room = room-left len c.args.numbers.now.items c.args.stored.now.items _ _ is c.args.page there
    c.requires.lacks in
    let fit = is.words_fit in
    omega arith

pub returns-clause-paged : goal.returns-clause-paged
returns-clause-paged c = λ len there is.
    let grown = c.reach_number.ensures in
    let few = is.few in
    let whole = is.whole in
    let within = grown.few (len / 512) (omega (arith, few)) (omega (arith, there, whole)) in
    let begin : c.len-begin.result ≡ length c.args.stored.now.items = omega arith in
    added-paged len c.args.numbers.now.items c.args.stored.now.items _ _ is c.args.page there c.requires.lacks
    c.reach_number.new.numbers.items _ c.store_page.new.stored.items grown.items grown.there
    (ap (λ n. set c.reach_number.new.numbers.items c.args.page (n / 512 + 1)) begin)
    c.store_page.ensures.items _ _ (omega (arith, within, whole)) grown.room c.store_page.ensures.room

pub returns-clause-words : goal.returns-clause-words
returns-clause-words c =
    let grown = c.reach_number.ensures in
    let begin : c.len-begin.result ≡ length c.args.stored.now.items = omega arith in
    added-words c.requires.paged.0 c.args.numbers.now.items c.args.stored.now.items _ _ c.requires.paged.1 c.args.page
    c.requires.paged.2 c.requires.lacks c.reach_number.new.numbers.items _ c.store_page.new.stored.items grown.items
    grown.there (ap (λ n. set c.reach_number.new.numbers.items c.args.page (n / 512 + 1)) begin)
    c.store_page.ensures.items

-- No answer is asked for.
use Rattle.std.proofs.Common.{ℕ, false, rules}
use Rattle.std.proofs.lemmas.Result.{IfOk-weaker}
use Rattle.clr_heap.specs.View.{heap_items}
use Rattle.clr_sos.proofs.ListingTexts.{any-text}
use Rattle.clr_sos.proofs.listing.listing_of_all.Goals as goal

pub returns-clause-text : goal.returns-clause-text
returns-clause-text c =
    let none = λ (n : ℕ). false in
    IfOk-weaker c.listing_where.result _ _ (λ text told live.
    any-text c.args.mode c.args.view.now.types.now c.args.wanted.now none live
    (heap_items c.args.view.now.types.now c.args.view.now.heap.now) text.items c.requires.any
    (told none (λ i is some answer a. search rules)))
    c.listing_where.ensures.text

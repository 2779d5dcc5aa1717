-- The listing of the heap is that of the machine that the view shows.
use Rattle.clr_model.specs.Instructions.{options_of}
use Rattle.std.proofs.Common.{◌≡◌, ◌⊎◌, ◌∙◌, inl, inr, sym}
use Rattle.std.specs.Prelude.{◌≢◌}
use Rattle.clr_model.specs.declared.Life.{Life}
use Rattle.clr_model.specs.declared.Life.TheVariants as life
use Rattle.clr_model.specs.Reach.{Live}
use Rattle.clr_sos.proofs.ListingTexts.{listing-text, tests-life}
use Rattle.clr_sos.proofs.listing.dumpheap.Goals as goal

pub returns-in_ok-text-in-Any-clause-text : goal.returns-in_ok-text-in-Any-clause-text
returns-in_ok-text-in-Any-clause-text c = λ m is live tests.
    listing-text m c.args.view.now.types.now c.args.view.now.heap.now
    (options_of c.args.filter.now) c.in-Some.wanted live
    c.in_ok-text-in-Any.text.items c.listing_of_all.ensures.heap c.requires.held is.types is.objects is.layout
    (c.in-Some.ensures.tests live) (c.in_ok-text-in-Any.ensures.text live)

-- where an option on life is given, any life isn't what was asked for
not_any : (given : Life) → (given ≡ life.Live) ⊎ (given ≡ life.Dead) → given ≢ life.Any
not_any given (inl is) any = let e : life.Live ≡ life.Any = sym is ∙ any in absurd cc
not_any given (inr is) any = let e : life.Dead ≡ life.Any = sym is ∙ any in absurd cc

pub listing_by_life-requires : goal.listing_by_life-requires
listing_by_life-requires c = record {
  shown = c.requires.shown (not_any c.args.filter.now.life c.in-Live.is);
}

pub returns-in_ok-text-in-Live-clause-text : goal.returns-in_ok-text-in-Live-clause-text
returns-in_ok-text-in-Live-clause-text c = λ m is live tests.
    let shown = c.requires.shown (not_any c.args.filter.now.life c.in-Live.is) in
    listing-text m c.args.view.now.types.now c.args.view.now.heap.now
    (options_of c.args.filter.now) c.in-Some.wanted live
    c.in_ok-text-in-Live.text.items shown.heap c.requires.held is.types is.objects is.layout
    (c.in-Some.ensures.tests live)
    (c.in_ok-text-in-Live.ensures m is live (tests-life c.args.filter.now.life live (Live m) c.in-Live.is tests))

use Rattle.std.proofs.Common.{◌≡◌, ◌+◌, ◌-◌, Some, refl, ap, sym, ◌∙◌, subst, arith}
use Rattle.std.specs.List.{AllByRecursion}
use Rattle.clr_types.specs.Ranges.{Piece}
use Rattle.clr_heap.specs.Parts.{item_piece}
use Rattle.clr_heap.specs.View.{listing}
use Rattle.clr_items.proofs.FoundItems.{all_within, EndsWithin, first_found, walk_stops}
use Rattle.clr_items.proofs.searching.first_free.Goals as goal

pub loop-found-init : goal.loop-found-init
loop-found-init c =
    let h = c.args.heap.now in
    let walked : c.into_iter-found-iterator.result ≡ listing c.args.types.now h c.args.k =
    c.into_iter-found-iterator.ensures.into_iter_gives ∙ c.walk-found-items.ensures.items in (
      refl,
      subst (AllByRecursion EndsWithin) (sym walked)
          (all_within c.args.types.now h c.args.k c.walk-found-items.ensures.heap c.requires.held c.requires.in_range),
    )

pub returns-then-fits_in : goal.returns-then-fits_in
returns-then-fits_in c =
    let i = c.in-Some.found in
    let walked : c.into_iter-found-iterator.result ≡ listing c.args.types.now c.args.heap.now c.args.k =
    c.into_iter-found-iterator.ensures.into_iter_gives ∙ c.walk-found-items.ensures.items in
    let size : i.place + i.size - i.place ≡ i.size = omega arith in
    let made : c.between.result ≡ item_piece i = c.between.ensures ∙ (λ j. record { place = i.place; size = size j }) in
    ap (λ (p : Piece). Some p) made
    ∙ sym (walk_stops c.args.from c.args.size i c.loop-found.found-iterator c.next.new.self c.in-Some.ensures.steps
    c.if-found-eq0.true c.if-found-from.true (sym c.fits_in.ensures ∙ c.if-fits_in.true))
    ∙ c.loop-found.invariant.0
    ∙ ap (first_found c.args.from c.args.size) walked

pub returns : goal.returns
returns c =
    let walked : c.into_iter-found-iterator.result ≡ listing c.args.types.now c.args.heap.now c.args.k =
    c.into_iter-found-iterator.ensures.into_iter_gives ∙ c.walk-found-items.ensures.items in
    sym (ap (first_found c.args.from c.args.size) c.in-None.ensures.steps.0)
    ∙ c.loop-found.invariant.0
    ∙ ap (first_found c.args.from c.args.size) walked

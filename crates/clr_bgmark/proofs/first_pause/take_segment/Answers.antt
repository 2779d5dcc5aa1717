use Rattle.std.proofs.Common.{set, get_or, refl, ap, sym, subst, ◌∙◌, arith}
use Rattle.std.proofs.lemmas.List.{get_or_default}
use Rattle.clr_heap.specs.View.{listing}
use Rattle.clr_bgmark.specs.FirstParts.{IsFresh, no_part, no_shade}
use Rattle.clr_bgmark.specs.Pauses.{taken_in}
use Rattle.clr_bgmark.specs.Shades.{ShadeView}
use Rattle.clr_bgmark.proofs.FirstTaken.{items_at, shade_shape, shade_there, shape, taken_at}
use Rattle.clr_bgmark.proofs.first_pause.take_segment.Goals as goal

pub take_items-requires-clause-shape : goal.take_items-requires-clause-shape
take_items-requires-clause-shape c =
    ap shape c.index_mut-shade.ensures.value
    ∙ shade_shape c.args.heap.now c.requires.heap c.args.shades.now.items c.requires.shapes c.args.k
    c.requires.in_range c.index_mut-shade.result.now

pub returns-clause-taken : goal.returns-clause-taken
returns-clause-taken c =
    let h = c.args.heap.now in
    let rows = c.args.types.now in
    let ss = c.args.shades.now.items in
    let k = c.args.k in
    let items = listing rows h k in
    ap (λ (s : ShadeView). set ss k s)
    (c.take_items.ensures.taken ∙ ap (λ (s : ShadeView). taken_in h s items) c.index_mut-shade.ensures.value)
    ∙ taken_at h items ss k c.index_mut-shade.result.now
    (shade_there h c.requires.heap ss c.requires.shapes k c.requires.in_range)
    (items_at h c.requires.heap ss c.requires.shapes k c.requires.in_range rows c.requires.walkable c.requires.apart)

pub take_items-requires-clause-fresh : goal.take_items-requires-clause-fresh
take_items-requires-clause-fresh c =
    let k = c.args.k in
    let count = c.requires.count in
    let inside = c.requires.in_range in
    let there = shade_there c.args.heap.now c.requires.heap c.args.shades.now.items c.requires.shapes k inside in
    subst (λ s. IsFresh s c.index_mut-part.result.now)
    (get_or_default c.args.shades.now.items k no_shade c.index_mut-shade.result.now there
    ∙ sym c.index_mut-shade.ensures.value)
    (subst (λ p. IsFresh (get_or c.args.shades.now.items k no_shade) p)
    (get_or_default c.args.parts.now.items k no_part c.index_mut-part.result.now (omega (arith, count, inside))
    ∙ sym c.index_mut-part.ensures.value)
    c.requires.fresh)

pub returns-clause-told : goal.returns-clause-told
returns-clause-told c = record {
  shade = c.take_items.new.shade;
  part = c.take_items.new.part;
  shades = refl;
  parts = refl;
  told = c.take_items.ensures.told;
}

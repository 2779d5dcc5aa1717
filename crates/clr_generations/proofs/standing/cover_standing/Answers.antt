use Rattle.std.proofs.Common.{◌∙◌}
use Rattle.clr_generations.proofs.EnteredSegments.{cards-told}
use Rattle.clr_generations.proofs.standing.cover_standing.Goals as goal

pub returns : goal.returns
returns c = record {
  cards = c.set_cards.ensures.spans ∙ c.in_ok-cover_segments.ensures.cards;
  bricks = c.enter_objects.ensures.spans ∙ c.in_ok-cover_segments.ensures.bricks;
  card_law = cards-told c.args.types.now c.args.heap.now c.lawful.ensures c.requires.held c.set_cards.new.cards
      c.set_cards.ensures.set;
  brick_law = c.enter_objects.ensures.law;
}

use Rattle.std.proofs.Common.{◌≡◌, ℕ, ◌/◌, true, sym, ap, ◌∙◌, subst}
use Rattle.clr_bricks.specs.Bricks.{entry_at}
use Rattle.clr_covers.specs.Covers.{is_covered}
use Rattle.clr_heap.specs.View.{frame}
use Rattle.clr_generations.specs.Born.{with_place}
use Rattle.clr_generations.proofs.BeforeBirth.{heap-before}
use Rattle.clr_generations.proofs.BirthFacts.{bricks-born, cards-born, IsBornIn, newborn-covered}
use Rattle.clr_generations.proofs.births.allocate.Goals as goal
use Rattle.clr_generations.proofs.births.allocate.Goals.{After-enter_newborn}

pub enter_newborn-requires : goal.enter_newborn-requires
enter_newborn-requires c =
    let f : IsBornIn c.args.types.now c.args.heap.now c.allocate-place.new.heap c.args.thread c.args.t.0 c.args.len =
    record {
      before = heap-before c.args.types.now c.args.heap.now c.allocate-place.new.heap c.args.thread c.args.t.0
          c.args.len
          c.allocate-place.ensures.born.heap c.allocate-place.ensures.words;
      held = c.requires.held;
      positive = c.requires.positive;
      few = c.requires.few;
      room = c.requires.room;
      born = c.allocate-place.ensures.born;
    } in
    subst (λ (a : ℕ). is_covered c.args.bricks.now (a / 4096) ≡ true) (sym c.allocate-place.ensures.place)
    (newborn-covered c.args.types.now c.args.heap.now c.allocate-place.new.heap c.args.thread c.args.t.0 c.args.len f
    c.args.bricks.now c.requires.bricks)

-- the heap before the birth and after it
birth : (c : After-enter_newborn) → IsBornIn c.args.types.now c.args.heap.now c.allocate-place.new.heap c.args.thread
    c.args.t.0 c.args.len
birth c = record {
  before = heap-before c.args.types.now c.args.heap.now c.allocate-place.new.heap c.args.thread c.args.t.0 c.args.len
      c.allocate-place.ensures.born.heap c.allocate-place.ensures.words;
  held = c.requires.held;
  positive = c.requires.positive;
  few = c.requires.few;
  room = c.requires.room;
  born = c.allocate-place.ensures.born;
}

pub returns-clause-bricks : goal.returns-clause-bricks
returns-clause-bricks c = λ order law.
    bricks-born c.args.types.now c.args.heap.now c.allocate-place.new.heap c.args.thread c.args.t.0 c.args.len (birth c)
    order c.args.bricks.now c.enter_newborn.new.bricks
    (λ i. c.enter_newborn.ensures.entries i
    ∙ ap (λ (a : ℕ). with_place (frame c.allocate-place.new.heap) (entry_at c.args.bricks.now) a i)
    c.allocate-place.ensures.place) law

pub returns-clause-cards : goal.returns-clause-cards
returns-clause-cards c = λ closed.
    cards-born c.args.types.now c.args.heap.now c.allocate-place.new.heap c.args.thread c.args.t.0 c.args.len (birth c)
    closed

use Rattle.std.proofs.Common.{◌≡◌, ℕ, ◌+◌, ◌-◌, ◌<◌, ◌∷◌, ◌++◌, [], length, List, ap, sym, ◌∙◌, subst, append-nil, append_assoc}
use Rattle.clr_types.specs.declared.item.Item.{Item}
use Rattle.clr_bricks.specs.Bricks.{entry_at}
use Rattle.clr_heap.specs.View.{frame, listing, listings, word_of}
use Rattle.clr_view.specs.View.{objects_among}
use Rattle.clr_generations.specs.Laws.{BrickLaw}
use Rattle.clr_generations.proofs.EnteredSegments.{cut-in, item-covered, item-fits, item-some, listed-in, listings-more}
use Rattle.clr_generations.proofs.standing.enter_segment.Goals as goal

pub enter-requires-clause-some : goal.enter-requires-clause-some
enter-requires-clause-some c =
    let walked =
    ap (λ rest. c.loop-item.yielded ++ rest) (sym c.in-Some.ensures.steps) ∙ c.loop-item.invariant.walked
    ∙ c.into_iter-item-iterator.ensures.into_iter_gives ∙ c.walk-item-items.ensures.items in
    item-some c.args.types.now c.args.heap.now c.walk-item-items.ensures.heap c.requires.held c.in-Some.item
    (listed-in c.args.types.now c.args.heap.now c.args.k c.requires.in_range c.loop-item.yielded c.in-Some.item
    c.next.new.self walked)

pub enter-requires-clause-fits : goal.enter-requires-clause-fits
enter-requires-clause-fits c =
    let walked =
    ap (λ rest. c.loop-item.yielded ++ rest) (sym c.in-Some.ensures.steps) ∙ c.loop-item.invariant.walked
    ∙ c.into_iter-item-iterator.ensures.into_iter_gives ∙ c.walk-item-items.ensures.items in
    item-fits c.args.types.now c.args.heap.now c.walk-item-items.ensures.heap c.requires.held c.in-Some.item
    (listed-in c.args.types.now c.args.heap.now c.args.k c.requires.in_range c.loop-item.yielded c.in-Some.item
    c.next.new.self walked)

pub enter-requires-clause-covered : goal.enter-requires-clause-covered
enter-requires-clause-covered c =
    let walked =
    ap (λ rest. c.loop-item.yielded ++ rest) (sym c.in-Some.ensures.steps) ∙ c.loop-item.invariant.walked
    ∙ c.into_iter-item-iterator.ensures.into_iter_gives ∙ c.walk-item-items.ensures.items in
    item-covered c.args.types.now c.args.heap.now c.walk-item-items.ensures.heap c.requires.held c.in-Some.item
    (listed-in c.args.types.now c.args.heap.now c.args.k c.requires.in_range c.loop-item.yielded c.in-Some.item
    c.next.new.self walked) c.args.bricks.now c.loop-item.bricks c.requires.bricks c.loop-item.invariant.spans

pub loop-item-preserved : goal.loop-item-preserved
loop-item-preserved c =
    let rows = c.args.types.now in
    let h = c.args.heap.now in
    let k = c.args.k in
    let rest = listings rows h (k + 1) (length h.segments - (k + 1)) in
    let walked =
    ap (λ rest. c.loop-item.yielded ++ rest) (sym c.in-Some.ensures.steps) ∙ c.loop-item.invariant.walked
    ∙ c.into_iter-item-iterator.ensures.into_iter_gives ∙ c.walk-item-items.ensures.items in
    record {
      walked =
          append_assoc c.loop-item.yielded (c.in-Some.item ∷ []) c.next.new.self
          ∙ ap (λ rest. c.loop-item.yielded ++ rest) (sym c.in-Some.ensures.steps) ∙ c.loop-item.invariant.walked;
      law =
          subst (λ (xs : List Item). BrickLaw rows (frame h) (objects_among rows (word_of h) xs)
          (entry_at c.enter.new.bricks))
          (append_assoc (listings rows h 0 k) c.loop-item.yielded (c.in-Some.item ∷ []))
          (c.enter.ensures.law rows (listings rows h 0 k ++ c.loop-item.yielded) (c.next.new.self ++ rest)
          c.requires.held
          (cut-in rows h k c.requires.in_range c.loop-item.yielded c.in-Some.item c.next.new.self walked)
          c.loop-item.invariant.law);
      spans = c.enter.ensures.spans ∙ c.loop-item.invariant.spans;
    }

pub returns-clause-law : goal.returns-clause-law
returns-clause-law c =
    let rows = c.args.types.now in
    let h = c.args.heap.now in
    let k = c.args.k in
    let all : c.loop-item.yielded ≡ listing rows h k =
    sym (append-nil c.loop-item.yielded) ∙ ap (λ rest. c.loop-item.yielded ++ rest) (sym c.in-None.ensures.steps.0)
    ∙ c.loop-item.invariant.walked ∙ c.into_iter-item-iterator.ensures.into_iter_gives
    ∙ c.walk-item-items.ensures.items in
    subst (λ (xs : List Item). BrickLaw rows (frame h) (objects_among rows (word_of h) xs) (entry_at c.loop-item.bricks))
    (ap (λ (xs : List Item). listings rows h 0 k ++ xs) all ∙ listings-more rows h k) c.loop-item.invariant.law

use Rattle.std.proofs.Common.{◌≡◌, Some, None, sym, ◌∙◌, subst, arith}
use Rattle.clr_heap.specs.View.{last_of}
use Rattle.clr_view.specs.View.{layout_in}
use Rattle.clr_large.specs.Places.{address_of}
use Rattle.clr_large.specs.Searches.{first_of_kind, IsFirstTail}
use Rattle.clr_large.proofs.LowestPlace.{item_place, lower_place, lowest, no_place, tail_place}
use Rattle.clr_large.proofs.items.KindItems.lowest_place.Goals as goal

pub returns-in-Some-Some-clause-some : goal.returns-in-Some-Some-clause-some
returns-in-Some-Some-clause-some c =
    let rows = c.args.types.now in
    let h = c.args.heap.now in
    let item = c.in-Some-Some.item in
    let k = c.in-Some-Some.k in
    let first : Some item ≡ first_of_kind c.args.kind (layout_in rows h) c.args.size = sym c.in-Some-Some.is-0
    ∙ c.first_fit-item.ensures in
    let tail = subst (IsFirstTail c.args.kind h c.args.size) c.in-Some-Some.is-1 c.first_tail-tail.ensures.first in
    let is = c.lower.ensures in (
      lower_place c.args.kind rows h c.args.size item k c.lower.result first tail is,
      lowest c.args.kind rows h c.args.size c.first_tail-tail.ensures.heap c.requires.held (Some item) (Some k) first
          tail (address_of h c.lower.result) (is.1, is.2),
    )

pub returns-in-Some-None-clause-some : goal.returns-in-Some-None-clause-some
returns-in-Some-None-clause-some c =
    let rows = c.args.types.now in
    let h = c.args.heap.now in
    let item = c.in-Some-None.item in
    let first : Some item ≡ first_of_kind c.args.kind (layout_in rows h) c.args.size = sym c.in-Some-None.is-0
    ∙ c.first_fit-item.ensures in
    let tail = subst (IsFirstTail c.args.kind h c.args.size) c.in-Some-None.is-1 c.first_tail-tail.ensures.first in (
      item_place c.args.kind rows h c.args.size item first,
      lowest c.args.kind rows h c.args.size c.first_tail-tail.ensures.heap c.requires.held (Some item) None first tail
          item.place (omega arith, tt),
    )

pub returns-in-None-Some-clause-some : goal.returns-in-None-Some-clause-some
returns-in-None-Some-clause-some c =
    let rows = c.args.types.now in
    let h = c.args.heap.now in
    let k = c.in-None-Some.k in
    let first : None ≡ first_of_kind c.args.kind (layout_in rows h) c.args.size = sym c.in-None-Some.is-0
    ∙ c.first_fit-item.ensures in
    let tail = subst (IsFirstTail c.args.kind h c.args.size) c.in-None-Some.is-1 c.first_tail-tail.ensures.first in (
      tail_place c.args.kind rows h c.args.size k tail,
      lowest c.args.kind rows h c.args.size c.first_tail-tail.ensures.heap c.requires.held None (Some k) first tail
          (last_of h k) (tt, omega arith),
    )

pub returns-in-None-None-clause-none : goal.returns-in-None-None-clause-none
returns-in-None-None-clause-none c =
    let rows = c.args.types.now in
    let h = c.args.heap.now in
    λ _. no_place c.args.kind rows h c.args.size c.first_tail-tail.ensures.heap c.requires.held
    c.first_fit-item.result c.first_tail-tail.result c.first_fit-item.ensures c.first_tail-tail.ensures.first
    c.in-None-None.is-0 c.in-None-None.is-1

use Rattle.std.proofs.Common.{◌≡◌, ℕ, ◌<◌, ◌≤◌, max, min, sym, ap, ap₂, subst, ◌∙◌, arith}
use Rattle.clr_types.specs.Segments.{first_place}
use Rattle.clr_types.specs.declared.segment.SegInfo.{SegInfo}
use Rattle.clr_heap.specs.View.{first_of, last_of, listing}
use Rattle.clr_model.specs.Fitting.{lowest_item}
use Rattle.clr_generations.specs.Renewing.{CanBegin}
use Rattle.clr_evacuate.specs.Searching.{free_between, older_end}
use Rattle.clr_evacuate.proofs.FirstBetween.{none_between}
use Rattle.clr_evacuate.proofs.Searches.{bounded, search_begins}
use Rattle.clr_evacuate.proofs.searching.find_in.Goals as goal

pub first_between-requires-clause-begins : goal.first_between-requires-clause-begins
first_between-requires-clause-begins c =
    let rows = c.args.types.now in
    let h = c.args.heap.now in
    let k = c.args.k in
    let end = c.min-end.ensures in
    let older = c.older_end.ensures in
    let test = c.if-from-end.true in
    let below : c.args.from < older_end h k = omega (arith, end, older, test) in
    let first = ap (λ (s : SegInfo). first_place s) c.info-segment.ensures.value in
    let start : c.max-start.result ≡ max c.args.from (first_of h k) =
    c.max-start.ensures ∙ ap (max c.args.from) (c.first_place.ensures ∙ first) in
    λ inside. subst (CanBegin rows h k) (sym start)
    (search_begins rows h c.requires.held k c.requires.in_range c.args.from c.requires.begins below)

pub first_between-requires-clause-within : goal.first_between-requires-clause-within
first_between-requires-clause-within c =
    let last = ap (λ (s : SegInfo). s.end) c.info-segment.ensures.value in
    let end = c.min-end.ensures in
    omega (arith, end, last)

pub returns-then-from-end : goal.returns-then-from-end
returns-then-from-end c =
    let rows = c.args.types.now in
    let h = c.args.heap.now in
    let k = c.args.k in
    let first = ap (λ (s : SegInfo). first_place s) c.info-segment.ensures.value in
    let last = ap (λ (s : SegInfo). s.end) c.info-segment.ensures.value in
    let start : c.max-start.result ≡ max c.args.from (first_of h k) =
    c.max-start.ensures ∙ ap (max c.args.from) (c.first_place.ensures ∙ first) in
    let end : c.min-end.result ≡ min (older_end h k) (last_of h k) =
    c.min-end.ensures ∙ ap₂ min c.older_end.ensures last in
    c.first_between.ensures
    ∙ ap₂ (λ (low high : ℕ). lowest_item c.args.size (free_between low high (listing rows h k))) start end
    ∙ sym (ap (lowest_item c.args.size)
    (bounded rows h c.requires.held k c.requires.in_range c.args.from (older_end h k)))

pub returns-else-from-end : goal.returns-else-from-end
returns-else-from-end c =
    let rows = c.args.types.now in
    let h = c.args.heap.now in
    let k = c.args.k in
    let last = ap (λ (s : SegInfo). s.end) c.info-segment.ensures.value in
    let end : c.min-end.result ≡ min (older_end h k) (last_of h k) =
    c.min-end.ensures ∙ ap₂ min c.older_end.ensures last in
    let test = c.if-from-end.false in
    let crossed : min (older_end h k) (last_of h k) ≤ max c.args.from (first_of h k) = omega (arith, end, test) in
    sym (ap (lowest_item c.args.size)
    (bounded rows h c.requires.held k c.requires.in_range c.args.from (older_end h k)
    ∙ none_between (max c.args.from (first_of h k)) (min (older_end h k) (last_of h k)) (listing rows h k) crossed))

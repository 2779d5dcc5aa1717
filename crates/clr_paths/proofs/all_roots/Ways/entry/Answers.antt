-- The mark of its number tells the entry.
use Rattle.std.proofs.Common.{◌≡◌, ◌-◌, ◌<◌, ℕ, arith, subst, sym, ◌∙◌}
use Rattle.std.proofs.lemmas.List.{get_or_read}
use Rattle.clr_sos.proofs.Seen.{numbered}
use Rattle.clr_paths.specs.AllRoots.{count_of, mark_of, node_at}
use Rattle.clr_paths.proofs.WaysBack.{entry-none, entry-some}
use Rattle.clr_paths.proofs.all_roots.Ways.entry.Goals as goal

pub segment_of-requires : goal.segment_of-requires
segment_of-requires c = (numbered c.args.view.now c.requires.sound c.args.place c.requires.stands).word

pub returns-then-mark-eq0-clause-none : goal.returns-then-mark-eq0-clause-none
returns-then-mark-eq0-clause-none c =
    let n = c.number-number.result in
    let below = c.number-number.ensures.below in
    let count = c.requires.marks.count in
    let read = get_or_read c.args.self.now.at.items n c.index.result.now (omega (arith, below, count))
    c.index.ensures 0 in
    entry-none c.args.view.now c.args.numbers.now.places.items c.requires.numbers c.args.self.now c.requires.marks n
    c.args.place below c.number-number.ensures.is (sym read ∙ c.if-mark-eq0.true)

pub returns : goal.returns
returns c =
    let n = c.number-number.result in
    let below = c.number-number.ensures.below in
    let count = c.requires.marks.count in
    let ways = c.args.self.now in
    let places = c.args.numbers.now.places.items in
    let read : c.index.result.now ≡ mark_of ways n =
    get_or_read ways.at.items n c.index.result.now (omega (arith, below, count)) c.index.ensures 0 in
    let found = entry-some c.args.view.now places c.requires.numbers ways c.requires.marks n c.args.place
    c.number-number.ensures.is (λ none. c.if-mark-eq0.false (read ∙ none)) in
    record {
      some = subst (λ (k : ℕ). (k - 1 < count_of ways) × (node_at places ways (k - 1) ≡ c.args.place)) (sym read)
          found;
      none = tt;
    }

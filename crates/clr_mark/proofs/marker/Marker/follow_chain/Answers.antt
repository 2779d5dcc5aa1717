use Rattle.std.proofs.Common.{ℕ, [], ◌∷◌, ap, sym, ◌∙◌, subst}
use Rattle.clr_types.specs.Rising.{first}
use Rattle.clr_heap.specs.View.{word_of}
use Rattle.clr_view.specs.Marks.{has_mark}
use Rattle.clr_mark.specs.Markings.{with_target}
use Rattle.clr_mark.proofs.Chains.{chain_at, chain_followed, chain_grayed, chain_next, chain_starts}
use Rattle.clr_mark.proofs.Chains.{fewer_links, IsChained, unmarked_bare}
use Rattle.clr_mark.proofs.Meeting.{all_met, closed_on}
use Rattle.clr_mark.proofs.marker.Marker.follow_chain.Goals as goal

pub only_reference-requires-clause-run : goal.only_reference-requires-clause-run
only_reference-requires-clause-run c =
    c.requires.known.run (word_of c.args.heap.now) c.args.obj c.requires.word

pub loop-link-init : goal.loop-link-init
loop-link-init c = chain_starts c.args.types.now c.args.heap.now c.args.self.now c.args.obj
    (with_target [] c.only_reference.result) c.requires.marked c.only_reference.ensures.only
    c.only_reference.ensures.all

pub mark_link-link-requires : goal.mark_link-link-requires
mark_link-link-requires c =
    let rows = c.args.types.now in
    let h = c.args.heap.now in
    let t = c.loop-link.link.target in
    let s = chain_at rows h c.loop-link.heap c.args.self.now c.loop-link.self c.args.obj t c.loop-link-test.true
    c.loop-link.invariant in
    let word = c.requires.word in
    record {
      closed = closed_on rows h c.loop-link.heap c.args.self.now c.loop-link.self (t ∷ []) c.requires.closed s.met;
      named = all_met rows h c.loop-link.heap c.args.self.now c.loop-link.self (t ∷ []) c.requires.closed s.met t first;
      known = c.requires.known;
      single = c.requires.single;
      bare = ap has_mark (sym word) ∙ unmarked_bare (word_of h c.args.obj);
    }

pub loop-link-preserved : goal.loop-link-preserved
loop-link-preserved c =
    let s = chain_at c.args.types.now c.args.heap.now c.loop-link.heap c.args.self.now c.loop-link.self c.args.obj
    c.loop-link.link.target c.loop-link-test.true c.loop-link.invariant in
    chain_next c.args.types.now c.args.heap.now c.loop-link.heap c.mark_link-link.new.heap c.args.self.now
    c.loop-link.self c.args.obj c.loop-link.link.target c.requires.closed s
    c.mark_link-link.ensures.met.marked.remarked c.mark_link-link.ensures.marked c.mark_link-link.new.self
    (with_target [] c.mark_link-link.result.target) c.mark_link-link.ensures.met

pub loop-link-smaller : goal.loop-link-smaller
loop-link-smaller c =
    fewer_links c.args.types.now c.loop-link.heap c.mark_link-link.new.heap c.loop-link.self c.mark_link-link.new.self
    c.loop-link.link.target c.mark_link-link.result.target c.loop-link-test.true c.mark_link-link.ensures.met.spent
    c.mark_link-link.ensures.stack c.mark_link-link.ensures.fewer

-- no target is left
ended : (c : goal.After-loop-link) → IsChained c.args.types.now c.args.heap.now c.loop-link.heap c.args.self.now
    c.loop-link.self c.args.obj []
ended c =
    let P : ℕ → Type 0 = λ t. IsChained c.args.types.now c.args.heap.now c.loop-link.heap c.args.self.now
    c.loop-link.self c.args.obj (with_target [] t) in
    subst P c.loop-link-test.false c.loop-link.invariant

pub returns : goal.returns
returns c = record {
  grayed = chain_grayed c.args.types.now c.args.heap.now c.loop-link.heap c.args.self.now c.loop-link.self c.args.obj
      c.requires.closed (ended c);
  followed = chain_followed c.args.types.now c.args.heap.now c.loop-link.heap c.args.self.now c.loop-link.self
      c.args.obj c.requires.closed (ended c);
}

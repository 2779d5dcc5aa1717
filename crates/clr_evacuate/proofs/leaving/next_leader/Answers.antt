use Rattle.std.proofs.Common.{ℕ, ◌+◌, ◌*◌, ◌/◌, min, ap, ◌∙◌, subst, MatchOption}
use Rattle.clr_generations.specs.Renewing.{IsFirstFrom, NoneCounted}
use Rattle.clr_evacuate.specs.Left.{is_any}
use Rattle.clr_evacuate.proofs.NextLeader.{can_begin}
use Rattle.clr_evacuate.proofs.leaving.next_leader.Goals as goal

pub first_object-requires-clause-begins : goal.first_object-requires-clause-begins
first_object-requires-clause-begins c = λ below. can_begin c.args.types.now c.args.heap.now c.args.place
    c.requires.heap c.requires.held c.requires.item c.args.k c.requires.in_range c.requires.segment

pub returns : goal.returns
returns c =
    let past = c.min.ensures
    ∙ ap (λ (b : ℕ × ℕ). min b.1 (4096 * (c.args.place / 4096) + 4096)) c.boundaries-start0.ensures in
    subst (λ p. MatchOption c.first_object.result (NoneCounted c.args.types.now c.args.heap.now is_any c.args.place p)
    (IsFirstFrom c.args.types.now c.args.heap.now is_any c.args.place p)) past c.first_object.ensures

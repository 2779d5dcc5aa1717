use Rattle.std.proofs.Common.{◌≡◌, ℕ, ◌+◌, ◌-◌, ap, sym, ◌∙◌, subst, set}
use Rattle.clr_types.specs.Segments.{ended_at}
use Rattle.clr_heap.specs.Memories.{clears, InOne}
use Rattle.clr_heap.specs.View.{last_of, rest_between, segment_at, word_of}
use Rattle.clr_view.proofs.Tails.{IsEphemeral}
use Rattle.clr_ctx.proofs.Steps.{extended_cells, extended_step}
use Rattle.clr_ctx.proofs.ranges.open_behind.Goals as goal

pub clear_cells-requires : goal.clear_cells-requires
clear_cells-requires c =
    let h = c.args.heap.now in
    let k = c.ephemeral-k.result in
    let e : IsEphemeral h k =
    record { in_range = c.ephemeral-k.ensures.in_range; is = c.ephemeral-k.ensures.segment } in
    let at : c.info-low.result.end ≡ last_of h k = ap (λ s. s.end) c.info-low.ensures.value in
    subst (λ a. InOne h.memories (a - 8) c.args.taken) (sym at)
    (extended_cells c.args.types.now h c.args.t c.ephemeral-k.ensures.heap c.requires.held c.requires.positive
    c.requires.few k c.args.taken e c.requires.none c.requires.held.young c.requires.least c.requires.aligned
    c.requires.within)

pub returns-clause-relaid : goal.returns-clause-relaid
returns-clause-relaid c =
    let h = c.args.heap.now in
    let k = c.ephemeral-k.result in
    let e : IsEphemeral h k =
    record { in_range = c.ephemeral-k.ensures.in_range; is = c.ephemeral-k.ensures.segment } in
    let at : c.info-low.result.end ≡ last_of h k = ap (λ s. s.end) c.info-low.ensures.value in
    (extended_step c.args.types.now h c.args.t c.ephemeral-k.ensures.heap c.requires.held c.requires.positive
    c.requires.few k c.args.taken e c.requires.none c.requires.held.young c.requires.least c.requires.aligned
    c.requires.within
    c.clear_cells.new.self c.set_hole.new.self c.set_end.new.self c.clear_cells.ensures.shape
    (λ b z. c.clear_cells.ensures.words b z ∙ ap (λ (a : ℕ). clears (a - 8) c.args.taken (word_of h) b) at)
    (c.set_hole.ensures
    ∙ ap (λ (a : ℕ).
    record c.clear_cells.new.self {
      rests = set c.clear_cells.new.self.rests (c.args.t - 1)
          (rest_between a (a + c.args.taken));
    }) at)
    (c.set_end.ensures
    ∙ ap (λ (a : ℕ).
    record c.set_hole.new.self {
      segments = set c.set_hole.new.self.segments k
          (ended_at (a + c.args.taken) (segment_at c.set_hole.new.self k));
    }) at)).0

pub returns-clause-young : goal.returns-clause-young
returns-clause-young c =
    let h = c.args.heap.now in
    let k = c.ephemeral-k.result in
    let e : IsEphemeral h k =
    record { in_range = c.ephemeral-k.ensures.in_range; is = c.ephemeral-k.ensures.segment } in
    let at : c.info-low.result.end ≡ last_of h k = ap (λ s. s.end) c.info-low.ensures.value in
    (extended_step c.args.types.now h c.args.t c.ephemeral-k.ensures.heap c.requires.held c.requires.positive
    c.requires.few k c.args.taken e c.requires.none c.requires.held.young c.requires.least c.requires.aligned
    c.requires.within
    c.clear_cells.new.self c.set_hole.new.self c.set_end.new.self c.clear_cells.ensures.shape
    (λ b z. c.clear_cells.ensures.words b z ∙ ap (λ (a : ℕ). clears (a - 8) c.args.taken (word_of h) b) at)
    (c.set_hole.ensures
    ∙ ap (λ (a : ℕ).
    record c.clear_cells.new.self {
      rests = set c.clear_cells.new.self.rests (c.args.t - 1)
          (rest_between a (a + c.args.taken));
    }) at)
    (c.set_end.ensures
    ∙ ap (λ (a : ℕ).
    record c.set_hole.new.self {
      segments = set c.set_hole.new.self.segments k
          (ended_at (a + c.args.taken) (segment_at c.set_hole.new.self k));
    }) at)).1

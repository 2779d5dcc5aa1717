use Rattle.std.proofs.Common.{ℕ, ◌+◌, ◌/◌, ◌≤◌, List, ℤ, ap, sym, ◌∙◌, subst, arith}
use Rattle.std.specs.Int.{w64}
use Rattle.std.proofs.lemmas.Int.{to_z-of_z}
use Rattle.clr_plugs.specs.declared.words.PlugInfo.{PlugInfo}
use Rattle.clr_types.specs.Rising.{IsIn}
use Rattle.clr_plugs.specs.Builders.{BuilderView}
use Rattle.clr_plugs.specs.Planning.{IsPassedBy, IsWriting, with_plug, WriterView}
use Rattle.clr_plugs.specs.Plans.{IsPlaceIn, PlannedPart, plug_starts}
use Rattle.clr_plugs.proofs.Starts.{all_from, in_brick}
use Rattle.clr_plugs.proofs.Writing.{place_info, writing_plug}
use Rattle.clr_plugs.proofs.Keeping.{lies-same}
use Rattle.clr_plugs.proofs.writer.PlanWriter.add.Goals as goal

-- the place of a plug is passed by its own brick
passed : (part : PlannedPart) (start : ℕ) → IsPlaceIn part start → IsPassedBy part (start / 4096)
passed part start p = let high = p.high in omega (arith, high)

pub put_info-requires : goal.put_info-requires
put_info-requires c =
    let r = c.requires in
    place_info c.advance.new.heap r.part c.args.start c.advance.ensures.heap
    (lies-same c.args.heap.now c.advance.new.heap r.part c.advance.ensures.shape r.writing.planning.plan.lies)
    r.place

pub add-requires-clause-above : goal.add-requires-clause-above
add-requires-clause-above c =
    let r = c.requires in
    let P : WriterView → Type 0 = λ w. IsWriting c.args.heap.now c.args.bricks.now r.part w in
    let w = c.advance.ensures.writing r.part (subst P (sym c.self.view_is) r.writing)
    (passed r.part c.args.start r.place) in
    all_from (λ p. p + 24 ≤ c.args.start) c.advance.new.builder.plugs
    (λ x i. r.above x
    (in_brick c.advance.new.builder.brick (plug_starts r.part.plugs) x
    (let Q : List ℕ → Type 0 = λ xs. IsIn x xs in subst Q w.planning.held i)).0)

pub returns-clause-writing : goal.returns-clause-writing
returns-clause-writing c part writing place above =
    let P : WriterView → Type 0 = λ w. IsWriting c.args.heap.now c.args.bricks.now part w in
    let w = c.advance.ensures.writing part (subst P (sym c.self.view_is) writing) (passed part c.args.start place) in
    let done = writing_plug c.advance.new.heap c.advance.new.bricks part c.advance.new.builder c.self.inside.last w
    c.put_info.new.heap c.args.start (record { gap = c.args.gap; distance = c.args.distance; left = 0; right = 0 })
    (sym c.advance.ensures.brick) place above
    (c.put_info.ensures.told
    ∙ ap (λ (d : ℤ). let i : PlugInfo = record { gap = c.args.gap; distance = d; left = 0; right = 0 } in i)
    (to_z-of_z w64 c.args.distance c.ranges.distance)) c.put_info.ensures.words c.put_info.ensures.shape in
    let B : BuilderView → Type 0 =
    λ v. IsWriting c.put_info.new.heap c.advance.new.bricks (with_plug part c.args.start c.args.gap c.args.distance)
    (record { builder = v; last = c.args.start }) in
    subst B (sym c.add.ensures) done

use Rattle.std.proofs.Common.{ℕ, ◌+◌, ◌-◌, ◌/◌, [], refl, ap, subst, arith, get_or, ℤ, pos, to_z, of_z, w64, List, inl}
use Rattle.std.proofs.Common.{inr}
use Rattle.clr_covers.proofs.Spans.{HasAll-covered}
use Rattle.clr_types.specs.Rising.{IsIn}
use Rattle.clr_types.specs.declared.segment.SegInfo.{SegInfo}
use Rattle.clr_plugs.specs.BrickEntries.{IsCovered}
use Rattle.clr_plugs.specs.Planning.{with_plug, WriterView}
use Rattle.clr_plugs.specs.Plans.{IsBrickOf, IsPart, IsPlaceIn, PlannedPart, PlannedPlug, plug_starts}
use Rattle.clr_plugs.proofs.Keeping.{in_pushed}
use Rattle.clr_plugs.proofs.Planning.{starts-with}
use Rattle.clr_heap_tests.proofs.plugs.lay.Goals as goal

-- the part without plugs
part_of : ℕ → ℕ → PlannedPart
part_of low high = record { segment = 0; low = low; high = high; plugs = [] }

pub new-writer-requires-clause-covered : goal.new-writer-requires-clause-covered
new-writer-requires-clause-covered g c =
    HasAll-covered c.args.bricks.now 65536 65600 (c.args.low / 4096 - 1) c.requires (omega arith) (omega arith)

pub loop-start-init : goal.loop-start-init
unfolding part_of
loop-start-init g c =
    let h = c.args.heap.now in
    let low = c.args.low in
    let high = c.args.high in
    let base = ap (λ (s : SegInfo). s.base) c.info-segment.ensures.value in
    let all = ap (λ (s : SegInfo). s.base + s.reserved) c.info-segment.ensures.value in
    let part = part_of low high in
    let lies : IsPart h part =
    record {
      segment = omega arith;
      low = omega (arith, base);
      high = omega (arith, all);
      spaced = tt;
      places = λ x i. elim i [ ];
    } in
    let covered : (brick : ℕ) → IsBrickOf part brick → IsCovered c.args.bricks.now brick =
    λ brick near. (let up = near.0 in let down = near.1 in
    HasAll-covered c.args.bricks.now 65536 65600 brick c.requires (omega (arith, up)) (omega (arith, down))) in
    let value = c.new-writer.ensures.value in
    record {
      part = part;
      starts = refl;
      ends = refl;
      writing = c.new-writer.ensures.writing h part lies refl refl covered;
      above = λ x i. elim i [ ];
      low_free = omega arith;
      brick = let at = ap (λ (w : WriterView). w.builder.brick) value in omega (arith, at);
      within = let at = ap (λ (w : WriterView). w.builder.brick) value in omega (arith, at);
    }

pub add-requires : goal.add-requires
add-requires g c =
    let i = c.loop-start.invariant in
    let starts = i.starts in
    let ends = i.ends in
    let low = i.low_free in
    let brick = i.brick in
    record {
      part = i.part;
      writing = i.writing;
      place = record { low = omega (arith, starts, low); high = omega (arith, ends); aligned = omega arith };
      above = λ x j. (let up = i.above x j in omega (arith, up));
      up = omega (arith, brick);
    }

pub loop-start-preserved : goal.loop-start-preserved
loop-start-preserved g c =
    let i = c.loop-start.invariant in
    let starts = i.starts in
    let ends = i.ends in
    let low = i.low_free in
    let case : ℕ × ℕ × ℤ = get_or c.args.plugs.now c.loop-start.start-index (0, 0, pos 0) in
    let distance : ℤ = to_z w64 (of_z w64 case.2) in
    let p : PlannedPlug = record { start = case.0; gap = case.1; distance = distance } in
    let place : IsPlaceIn i.part case.0 =
    record { low = omega (arith, starts, low); high = omega (arith, ends); aligned = omega arith } in
    let at = c.add.ensures.brick in
    record {
      part = with_plug i.part case.0 case.1 distance;
      starts = i.starts;
      ends = i.ends;
      writing = c.add.ensures.writing i.part i.writing place (λ x j. (let up = i.above x j in omega (arith, up)));
      above = λ x j. (let P : List ℕ → Type 0 = λ xs. IsIn x xs in
          elim (in_pushed (plug_starts i.part.plugs) case.0 x (subst P (starts-with i.part.plugs p) j))
          [ inl old ↦ let up = i.above x old in omega (arith, up) | inr new ↦ omega (arith, new) ]);
      low_free = omega (arith, low);
      brick = omega (arith, at);
      within = omega (arith, at);
    }

pub finish-requires-clause-can : goal.finish-requires-clause-can
finish-requires-clause-can g c =
    let i = c.loop-start.invariant in
    let ends = i.ends in
    let within = i.within in
    record {
      part = i.part;
      writing = i.writing;
      passed = omega (arith, ends);
      up = omega (arith, within);
    }

pub returns : goal.returns
returns g c =
    let i = c.loop-start.invariant in
    record {
      part = i.part;
      starts = i.starts;
      ends = i.ends;
      planned = c.finish.ensures.planned i.part i.writing i.ends;
    }

-- Item by item.
use Rattle.std.proofs.Common.{◌≡◌, ℕ, sym, ◌∙◌, ap, subst, arith}
use Rattle.clr_types.specs.declared.item.Item.{Item}
use Rattle.clr_load.specs.FoundItems.{IsLeft, IsThere}
use Rattle.clr_load.proofs.FoundItems.{known_there}
use Rattle.clr_load.proofs.ReferenceSteps.{all_passed, at_next, left_start, next_fails, next_passes}
use Rattle.clr_load.proofs.ReferenceSteps.{sized_there, there_next}
use Rattle.clr_load.proofs.references.segment_fault.Goals as goal

pub loop-place-init : goal.loop-place-init
loop-place-init c =
    let base = c.requires.scan.base in
    let low = c.requires.scan.low in
    let at = c.first_place-place.ensures in
    record {
      aligned = omega (arith, at, base);
      low = omega (arith, at);
      high = omega (arith, at, low);
      left = λ here r.
          subst (λ (p : ℕ). IsLeft c.args.scan.now r.rules c.args.starts.now here p) (sym at)
          (left_start c.args.scan.now c.args.starts.now here r low);
    }

pub item_there-item-requires-clause-found : goal.item_there-item-requires-clause-found
item_there-item-requires-clause-found c =
    let read = c.requires.read in
    let left = c.loop-place.invariant.left read.0 read.1 in
    let n = at_next c.args.scan.now c.args.starts.now read.0 read.1 c.loop-place.place left c.loop-place-test.true in (
      n.item,
      there_next c.args.scan.now c.args.starts.now read.0 read.1 c.loop-place.place left c.loop-place-test.true,
    )

pub item_fault-requires-clause-place : goal.item_fault-requires-clause-place
item_fault-requires-clause-place c =
    let read = c.requires.read in
    let left = c.loop-place.invariant.left read.0 read.1 in
    let there =
    there_next c.args.scan.now c.args.starts.now read.0 read.1 c.loop-place.place left c.loop-place-test.true in
    let e = c.item_there-item.ensures _ there in
    let at : c.item_there-item.result.place ≡ c.loop-place.place =
    ap (λ (j : Item). j.place) e ∙ (known_there c.args.scan.now c.loop-place.place _ there).at in
    let z = c.loop-place.invariant.aligned in
    let low = c.loop-place.invariant.low in
    let less = c.loop-place-test.true in
    record { aligned = omega (arith, at, z); low = omega (arith, at, low); high = omega (arith, at, less) }

pub item_fault-requires-clause-there : goal.item_fault-requires-clause-there
item_fault-requires-clause-there c =
    let read = c.requires.read in
    let left = c.loop-place.invariant.left read.0 read.1 in
    let there =
    there_next c.args.scan.now c.args.starts.now read.0 read.1 c.loop-place.place left c.loop-place-test.true in
    let e = c.item_there-item.ensures _ there in
    let at : c.item_there-item.result.place ≡ c.loop-place.place =
    ap (λ (j : Item). j.place) e ∙ (known_there c.args.scan.now c.loop-place.place _ there).at in
    subst (λ (p : ℕ). IsThere c.args.scan.now p c.item_there-item.result) (sym at)
    (subst (λ (j : Item). IsThere c.args.scan.now c.loop-place.place j) (sym e) there)

pub returns-in-Some : goal.returns-in-Some
returns-in-Some c here r items st =
    let left = c.loop-place.invariant.left here r in
    let less = c.loop-place-test.true in
    let e =
    c.item_there-item.ensures _ (there_next c.args.scan.now c.args.starts.now here r c.loop-place.place left less) in
    sym (next_fails c.args.scan.now c.args.starts.now here r c.loop-place.place left less c.item_there-item.result e
    c.in-Some.o items st (sym (c.in-Some.ensures items st)))

pub overflow_add-place : goal.overflow_add-place
overflow_add-place c =
    let read = c.requires.read in
    let left = c.loop-place.invariant.left read.0 read.1 in
    let there =
    there_next c.args.scan.now c.args.starts.now read.0 read.1 c.loop-place.place left c.loop-place-test.true in
    let e = ap (λ (j : Item). j.size) (c.item_there-item.ensures _ there) in
    let inside = (sized_there c.args.scan.now c.loop-place.place _ there).2 in
    let high = c.requires.scan.high in
    let highest = c.requires.scan.highest in
    omega (arith, e, inside, high, highest)

pub loop-place-smaller : goal.loop-place-smaller
loop-place-smaller c =
    let read = c.requires.read in
    let left = c.loop-place.invariant.left read.0 read.1 in
    let there =
    there_next c.args.scan.now c.args.starts.now read.0 read.1 c.loop-place.place left c.loop-place-test.true in
    let e = ap (λ (j : Item). j.size) (c.item_there-item.ensures _ there) in
    let least = (sized_there c.args.scan.now c.loop-place.place _ there).0 in
    let test = c.loop-place-test.true in
    omega (arith, e, least, test)

pub loop-place-preserved : goal.loop-place-preserved
loop-place-preserved c =
    let read = c.requires.read in
    let left = c.loop-place.invariant.left read.0 read.1 in
    let less = c.loop-place-test.true in
    let there = there_next c.args.scan.now c.args.starts.now read.0 read.1 c.loop-place.place left less in
    let e = ap (λ (j : Item). j.size) (c.item_there-item.ensures _ there) in
    let sized = sized_there c.args.scan.now c.loop-place.place _ there in
    let whole = sized.1 in
    let inside = sized.2 in
    let z = c.loop-place.invariant.aligned in
    let low = c.loop-place.invariant.low in
    record {
      aligned = omega (arith, e, whole, z);
      low = omega (arith, low);
      high = omega (arith, e, inside);
      left = λ here r.
          let l = c.loop-place.invariant.left here r in
          let is =
          c.item_there-item.ensures _ (there_next c.args.scan.now c.args.starts.now here r c.loop-place.place l less) in
          next_passes c.args.scan.now c.args.starts.now here r c.loop-place.place l less c.item_there-item.result is
          (λ items st. sym (c.in_default.ensures items st));
    }

pub returns : goal.returns
returns c here r items st =
    sym (all_passed c.args.scan.now c.args.starts.now here r c.loop-place.place (c.loop-place.invariant.left here r)
    c.loop-place-test.false items st)

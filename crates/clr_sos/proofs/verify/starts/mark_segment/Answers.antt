use Rattle.std.proofs.Common.{◌≡◌, ◌+◌, ◌*◌, ◌<◌, ◌∷◌, ◌++◌, ◌||◌, [], length, ap, sym, ◌∙◌, append-nil, append_assoc}
use Rattle.std.proofs.Common.{arith, List, Bool, ◌≤◌, ◌⊎◌, inl, inr}
use Rattle.clr_types.specs.declared.item.Item.{Item}
use Rattle.clr_types.specs.declared.segment.SegInfo.{SegInfo}
use Rattle.clr_heap.specs.View.{first_of, last_of, listing, segment_at}
use Rattle.clr_sos.specs.Faults.{stands}
use Rattle.clr_sos.specs.Windows.{bit_of}
use Rattle.clr_sos.proofs.WalkedItems.{bits_more, in_middle, walked_is}
use Rattle.clr_sos.proofs.StartBits.{or_false, stands-one}
use Rattle.clr_sos.proofs.JudgedNames.{none_outside}
use Rattle.clr_sos.proofs.verify.starts.mark_segment.Goals as goal

pub mark_item-requires-clause-place : goal.mark_item-requires-clause-place
mark_item-requires-clause-place c =
    let walked =
    ap (λ rest. c.loop-item.yielded ++ rest) (sym c.in-Some.ensures.steps) ∙ c.loop-item.invariant.walked
    ∙ c.into_iter-item-iterator.ensures.into_iter_gives ∙ c.walk-item-items.ensures.items in
    (walked_is c.args.types.now c.args.heap.now c.args.k c.in-Some.item c.requires.walkable c.requires.in_range
    (in_middle c.loop-item.yielded c.in-Some.item c.next.new.self
    (listing c.args.types.now c.args.heap.now c.args.k) walked)).aligned

pub loop-item-preserved : goal.loop-item-preserved
loop-item-preserved c = record {
  walked =
      append_assoc c.loop-item.yielded (c.in-Some.item ∷ []) c.next.new.self
      ∙ ap (λ rest. c.loop-item.yielded ++ rest) (sym c.in-Some.ensures.steps) ∙ c.loop-item.invariant.walked;
  bits = λ j l.
      let same = c.loop-item.auto.bits in
      let small : j < 64 * length c.loop-item.bits = omega (arith, l, same) in
      bits_more (bit_of c.loop-item.bits j) (bit_of c.args.bits.now j)
      (bit_of c.mark_item.new.bits j) c.loop-item.yielded c.in-Some.item (c.args.window.start + 8 * j)
      (c.loop-item.invariant.bits j l)
      (c.mark_item.ensures j small
      ∙ ap (λ (d : Bool). bit_of c.loop-item.bits j || d)
      (sym (stands-one c.in-Some.item (c.args.window.start + 8 * j))));
}

pub returns : goal.returns
returns c j l =
    let all =
    sym (append-nil c.loop-item.yielded) ∙ ap (λ rest. c.loop-item.yielded ++ rest) (sym c.in-None.ensures.steps.0)
    ∙ c.loop-item.invariant.walked ∙ c.into_iter-item-iterator.ensures.into_iter_gives
    ∙ c.walk-item-items.ensures.items in
    c.loop-item.invariant.bits j l
    ∙ ap (λ (items : List Item). bit_of c.args.bits.now j || stands items (c.args.window.start + 8 * j)) all

pub returns-then-is_apart : goal.returns-then-is_apart
returns-then-is_apart c j l =
    let h = c.args.heap.now in
    let k = c.args.k in
    let x = c.args.window.start + 8 * j in
    let base : c.info.result.base ≡ (segment_at h k).base = ap (λ (s : SegInfo). s.base) c.info.ensures.value in
    let end : c.info.result.end ≡ last_of h k = ap (λ (s : SegInfo). s.end) c.info.ensures.value in
    let bit = bit_of c.args.bits.now j in
    let out : (last_of h k ≤ x) ⊎ (x < first_of h k) =
    elim (c.is_apart.ensures c.if-is_apart.true)
    [ inl low ↦ inl (omega (arith, low, end)) | inr high ↦ inr (omega (arith, high, base, l)) ] in
    sym (ap (λ (b : Bool). bit || b) (none_outside c.args.types.now h k x c.requires.walkable c.requires.in_range out)
    ∙ or_false bit)

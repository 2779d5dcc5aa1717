use Rattle.std.proofs.Common.{◌≡◌, ℕ, ◌+◌, ◌^◌, ◌<◌, Bool, List, [], ◌∷◌, ◌++◌, if◌then◌else◌, filter, map, ap, sym}
use Rattle.std.proofs.Common.{refl, ◌∙◌, append-nil, append_assoc, arith}
use Rattle.std.proofs.lemmas.List.{map-append}
use Rattle.clr_types.specs.Descriptors.{reference_offsets}
use Rattle.clr_types.specs.Types.{form_at}
use Rattle.clr_heap.specs.View.{heap_items, word_of}
use Rattle.clr_sos.specs.Faults.{lower, lowest}
use Rattle.clr_sos.specs.Windows.{is_bad_by, is_bad_in}
use Rattle.clr_sos.proofs.JudgedNames.{bad_is, judged-more, judged-one, lowest-none}
use Rattle.clr_sos.proofs.CellPlaces.{in_middle_of, IsSlotOf, listed_facts, offset_facts}
use Rattle.clr_sos.proofs.verify.references.judge_slots.Goals as goal

pub slots-offset-items-requires-clause-known : goal.slots-offset-items-requires-clause-known
slots-offset-items-requires-clause-known c =
    (listed_facts c.args.judge.now.types.now c.args.judge.now.heap.now c.args.k c.args.item c.requires.judging.heap
    c.requires.judging.walkable c.requires.in_range c.requires.listed).known

pub slots-offset-items-requires-clause-size : goal.slots-offset-items-requires-clause-size
slots-offset-items-requires-clause-size c =
    (listed_facts c.args.judge.now.types.now c.args.judge.now.heap.now c.args.k c.args.item c.requires.judging.heap
    c.requires.judging.walkable c.requires.in_range c.requires.listed).small

pub loop-offset-init : goal.loop-offset-init
loop-offset-init c = record { walked = refl; low = sym (lowest-none c.args.low) }

-- the slot at the next offset
slot_at : (c : goal.After-struct_known-1)
    → IsSlotOf c.args.judge.now.heap.now c.args.k (c.args.item.place + c.in-Some.offset)
slot_at c =
    let walked =
    ap (λ rest. c.loop-offset.yielded ++ rest) (sym c.in-Some.ensures.steps) ∙ c.loop-offset.invariant.walked
    ∙ c.into_iter-offset-iterator.ensures.into_iter_gives ∙ c.slots-offset-items.ensures in
    offset_facts c.args.judge.now.types.now c.args.judge.now.heap.now c.args.k c.args.item c.in-Some.offset
    c.requires.judging.heap c.requires.judging.walkable c.requires.in_range c.requires.listed
    (in_middle_of c.loop-offset.yielded c.in-Some.offset c.next.new.self
    (reference_offsets (form_at c.args.judge.now.types.now c.args.item.type_id.0) c.args.item.len) walked)

pub overflow_add-a : goal.overflow_add-a
overflow_add-a c =
    let s = slot_at c in let low : c.args.item.place + c.in-Some.offset < 2 ^ 63 = s.low in omega (arith, low)

pub word_at-requires-clause-word : goal.word_at-requires-clause-word
word_at-requires-clause-word c = (slot_at c).word

pub word_at-requires-clause-segment : goal.word_at-requires-clause-segment
word_at-requires-clause-segment c = (slot_at c).segment

pub loop-offset-preserved : goal.loop-offset-preserved
loop-offset-preserved c =
    let rows = c.args.judge.now.types.now in
    let h = c.args.judge.now.heap.now in
    let a = c.args.item.place + c.in-Some.offset in
    let f : ℕ → ℕ = λ offset. c.args.item.place + offset in
    let t : ℕ → Bool = λ b. is_bad_in (heap_items rows h) c.args.judge.now.window (word_of h b) in
    let bad : c.is_bad.result ≡ t a =
    c.is_bad.ensures ∙ ap (is_bad_by c.args.judge.now.window c.args.judge.now.bits.now) c.word_at.ensures
    ∙ bad_is rows h c.args.judge.now.window c.args.judge.now.bits.now c.requires.judging (word_of h a) in
    let next : c.lower_if-low.result ≡ lowest c.loop-offset.low (filter t (a ∷ [])) =
    c.lower_if-low.ensures ∙ ap (λ (b : Bool). if b then lower c.loop-offset.low a else c.loop-offset.low) bad
    ∙ judged-one t c.loop-offset.low a in
    record {
      walked =
          append_assoc c.loop-offset.yielded (c.in-Some.offset ∷ []) c.next.new.self
          ∙ ap (λ rest. c.loop-offset.yielded ++ rest) (sym c.in-Some.ensures.steps) ∙ c.loop-offset.invariant.walked;
      low =
          judged-more t c.args.low c.loop-offset.low c.lower_if-low.result (map f c.loop-offset.yielded)
          (a ∷ []) c.loop-offset.invariant.low next
          ∙ ap (λ (as_ : List ℕ). lowest c.args.low (filter t as_))
          (sym (map-append f c.loop-offset.yielded (c.in-Some.offset ∷ [])));
    }

pub returns : goal.returns
returns c =
    let rows = c.args.judge.now.types.now in
    let h = c.args.judge.now.heap.now in
    let f : ℕ → ℕ = λ offset. c.args.item.place + offset in
    let t : ℕ → Bool = λ b. is_bad_in (heap_items rows h) c.args.judge.now.window (word_of h b) in
    let all =
    sym (append-nil c.loop-offset.yielded) ∙ ap (λ rest. c.loop-offset.yielded ++ rest) (sym c.in-None.ensures.steps.0)
    ∙ c.loop-offset.invariant.walked ∙ c.into_iter-offset-iterator.ensures.into_iter_gives
    ∙ c.slots-offset-items.ensures in
    c.loop-offset.invariant.low ∙ ap (λ (offsets : List ℕ). lowest c.args.low (filter t (map f offsets))) all

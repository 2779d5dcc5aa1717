use Rattle.std.proofs.Common.{ℕ, Bool, List, [], ◌∷◌, ◌++◌, filter, ap, sym, refl, ◌∙◌, append-nil, append_assoc}
use Rattle.std.proofs.lemmas.List.Concat.{flat_map-append}
use Rattle.clr_types.specs.declared.item.Item.{Item}
use Rattle.clr_heap.specs.View.{heap_items, listing, word_of}
use Rattle.clr_sos.specs.Faults.{item_addresses, addresses, lowest}
use Rattle.clr_sos.specs.Windows.{is_bad_in}
use Rattle.clr_sos.proofs.JudgedNames.{addresses-one, judged-more, lowest-none}
use Rattle.clr_sos.proofs.WalkedItems.{in_middle}
use Rattle.clr_sos.proofs.verify.references.judge_segment.Goals as goal

pub loop-item-init : goal.loop-item-init
loop-item-init c = record { walked = refl; low = sym (lowest-none c.args.low) }

pub judge_item-low-requires-clause-listed : goal.judge_item-low-requires-clause-listed
judge_item-low-requires-clause-listed c =
    let walked =
    ap (λ rest. c.loop-item.yielded ++ rest) (sym c.in-Some.ensures.steps) ∙ c.loop-item.invariant.walked
    ∙ c.into_iter-item-iterator.ensures.into_iter_gives ∙ c.walk-item-items.ensures.items in
    in_middle c.loop-item.yielded c.in-Some.item c.next.new.self
    (listing c.args.judge.now.types.now c.args.judge.now.heap.now c.args.k) walked

pub loop-item-preserved : goal.loop-item-preserved
loop-item-preserved c =
    let rows = c.args.judge.now.types.now in
    let h = c.args.judge.now.heap.now in
    let t : ℕ → Bool = λ a. is_bad_in (heap_items rows h) c.args.judge.now.window (word_of h a) in
    let more =
    flat_map-append (item_addresses rows) c.loop-item.yielded (c.in-Some.item ∷ [])
    ∙ ap (λ (as_ : List ℕ). addresses rows c.loop-item.yielded ++ as_) (addresses-one rows c.in-Some.item) in
    record {
      walked =
          append_assoc c.loop-item.yielded (c.in-Some.item ∷ []) c.next.new.self
          ∙ ap (λ rest. c.loop-item.yielded ++ rest) (sym c.in-Some.ensures.steps) ∙ c.loop-item.invariant.walked;
      low =
          judged-more t c.args.low c.loop-item.low c.judge_item-low.result (addresses rows c.loop-item.yielded)
          (item_addresses rows c.in-Some.item) c.loop-item.invariant.low c.judge_item-low.ensures
          ∙ ap (λ (as_ : List ℕ). lowest c.args.low (filter t as_)) (sym more);
    }

pub returns : goal.returns
returns c =
    let rows = c.args.judge.now.types.now in
    let h = c.args.judge.now.heap.now in
    let t : ℕ → Bool = λ a. is_bad_in (heap_items rows h) c.args.judge.now.window (word_of h a) in
    let all =
    sym (append-nil c.loop-item.yielded) ∙ ap (λ rest. c.loop-item.yielded ++ rest) (sym c.in-None.ensures.steps.0)
    ∙ c.loop-item.invariant.walked ∙ c.into_iter-item-iterator.ensures.into_iter_gives
    ∙ c.walk-item-items.ensures.items in
    c.loop-item.invariant.low ∙ ap (λ (items : List Item). lowest c.args.low (filter t (addresses rows items))) all

use Rattle.std.proofs.Common.{ℕ, Bool, List, filter, ap, sym, ◌∙◌}
use Rattle.std.proofs.lemmas.List.Concat.{flat_map-append}
use Rattle.clr_heap.specs.View.{heap_items, listing, listings, word_of}
use Rattle.clr_view.proofs.Walked.{walked-on}
use Rattle.clr_sos.specs.Faults.{item_addresses, addresses, lowest}
use Rattle.clr_sos.specs.Windows.{is_bad_in}
use Rattle.clr_sos.proofs.JudgedNames.{judged-more, lowest-none}
use Rattle.clr_sos.proofs.verify.references.judge_heap.Goals as goal

pub loop-k-init : goal.loop-k-init
loop-k-init c = sym (lowest-none c.args.low)

pub loop-k-preserved : goal.loop-k-preserved
loop-k-preserved c =
    let rows = c.args.judge.now.types.now in
    let h = c.args.judge.now.heap.now in
    let k = c.loop-k.k in
    let t : ℕ → Bool = λ a. is_bad_in (heap_items rows h) c.args.judge.now.window (word_of h a) in
    let more =
    ap (addresses rows) (walked-on rows h k)
    ∙ flat_map-append (item_addresses rows) (listings rows h 0 k) (listing rows h k) in
    judged-more t c.args.low c.loop-k.low c.judge_segment-low.result (addresses rows (listings rows h 0 k))
    (addresses rows (listing rows h k)) c.loop-k.invariant c.judge_segment-low.ensures
    ∙ ap (λ (as_ : List ℕ). lowest c.args.low (filter t as_)) (sym more)

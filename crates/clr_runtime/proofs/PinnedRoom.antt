-- Room for the words that a compaction saves, as handles come and go.
use Rattle.std.proofs.Common.{◌≡◌, ℕ, ◌+◌, ◌<◌, ◌≤◌, refl, sym, ap, subst, ◌∙◌, [], inl, inr, arith, Option, Some, None}
use Rattle.std.specs.FinMap as finmap
use Rattle.std.specs.FinMap.{FinMap}
use Rattle.std.specs.Ordering.{nat_cmp}
use Rattle.std.specs.Prelude.{◌↔◌, Result, Ok, Err}
use Rattle.std.proofs.lemmas.Bool.{cases_eq, cases_lt}
use Rattle.clr_handles.specs.declared.fault.CreateFault.{CreateFault}
use Rattle.clr_handles.specs.declared.fault.CreateFault.TheVariants as fault
use Rattle.clr_types.specs.declared.handle.Handle.{Handle}
use Rattle.clr_types.proofs.MapValues.{map_values-same}
use Rattle.clr_handles.specs.Tops.{pinned_in}
use Rattle.clr_pinq.specs.Queue.{QueueView}
use Rattle.clr_survivors.specs.Moving.{IsReadyFor}
use Rattle.clr_handles.proofs.Lookups.{get-insert_other, get-remove_other, get-removed, len-inserted}
use Rattle.clr_handles.proofs.PinnedCounts.{pinned-empty, pinned-freed, pinned-le-len}
use Rattle.clr_runtime.proofs.HandleLines.{removed-none}

-- after a handle was freed the queue is ready
pub ready_freed : (old new : FinMap nat_cmp Handle) (h : ℕ) (pins : QueueView) → new ≡ finmap.remove old h
    → IsReadyFor old pins → IsReadyFor new pins
ready_freed old new h pins freed ready = record { empty = ready.empty; room = go (finmap.get old h) refl }
  where
    go : (o : Option Handle) → finmap.get old h ≡ o → pinned_in new + 4 ≤ pins.spare
    go None none =
        let same = ap pinned_in (freed ∙ removed-none old h none) in
        let room = ready.room in
        omega (arith, same, room)
    go (Some row) here =
        let less = pinned-freed old new h row (pinned_in old) _ here freed refl refl in
        let room = ready.room in
        omega (arith, less, room)

-- where as many handles are pinned, the same queue is ready
pub ready_on : (old new : FinMap nat_cmp Handle) (pins after : QueueView) → after ≡ pins
    → pinned_in new ≡ pinned_in old → IsReadyFor old pins → IsReadyFor new after
ready_on old new pins after same pinned ready =
    subst (IsReadyFor new) (sym same)
    (record { empty = ready.empty; room = subst (λ n. n + 4 ≤ pins.spare) (sym pinned) ready.room })

-- without handles none is pinned
pub ready_empty : (table : FinMap nat_cmp Handle) (pins : QueueView) → table ≡ finmap.empty → pins.entries ≡ []
    → 4 ≤ pins.spare → IsReadyFor table pins
ready_empty table pins none empty room =
    let same = ap pinned_in none in
    let zero = pinned-empty in
    record { empty = empty; room = omega (arith, same, zero, room) }

-- few are pinned after one was made
pub few-made : (old new : FinMap nat_cmp Handle) (h : ℕ) (row : Handle) → finmap.get old h ≡ None
    → new ≡ finmap.insert old h row → finmap.len old < 65536 → pinned_in new ≤ 65536
few-made old new h row none made few =
    let more = len-inserted old h row none in
    let same = ap finmap.len made in
    let most = pinned-le-len new in
    omega (arith, more, same, most, few)

-- where a handle could be made, the table isn't full
pub not_full : (r : Result ℕ CreateFault) (h count : ℕ) → r ≡ Ok h
    → (r ≡ Err fault.TooManyHandles) ↔ (65536 ≤ count) → count < 65536
not_full r h count is told = elim (cases_lt count 65536) [
  | inl low ↦ low
  | inr full ↦ absurd (other (sym is ∙ told.1 full))
]
  where
    other : Ok h ≡ Err fault.TooManyHandles → ⊥
    other e = cc

-- a handle that was made and freed again
pub undone : (old made new : FinMap nat_cmp Handle) (h : ℕ) (row : Handle) → finmap.get old h ≡ None
    → made ≡ finmap.insert old h row → new ≡ finmap.remove made h → new ≡ old
undone old made new h row none is freed =
    freed ∙ ap (λ (m : FinMap nat_cmp Handle). finmap.remove m h) is
    ∙ map_values-same (finmap.remove (finmap.insert old h row) h) old (λ q. elim (cases_eq q h) [
      | inl same ↦
          ap (finmap.get (finmap.remove (finmap.insert old h row) h)) same ∙ get-removed (finmap.insert old h row) h
          ∙ sym none ∙ ap (finmap.get old) (sym same)
      | inr other ↦
          get-remove_other (finmap.insert old h row) h q other ∙ get-insert_other old h q row other
    ])

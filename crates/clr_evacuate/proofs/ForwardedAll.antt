-- What can be forwarded still can once references were, and what is marked stays so while forwards are taken away.
use Rattle.std.proofs.Common.{◌≡◌, inl, inr, ℕ, List, ap, sym, ◌∙◌, subst, arith}
use Rattle.std.specs.FinMap.{FinMap}
use Rattle.std.specs.Ordering.{nat_cmp}
use Rattle.clr_types.specs.Rising.{IsIn}
use Rattle.clr_types.specs.Types.{TypeRow}
use Rattle.clr_types.specs.declared.handle.Handle.{Handle}
use Rattle.clr_types.specs.declared.item.Item.{Item}
use Rattle.clr_final.specs.Queues.{Queues}
use Rattle.clr_heap.specs.View.{HeapView, IsHeap, word_of}
use Rattle.clr_model.specs.Machine.{Object}
use Rattle.clr_view.specs.Marks.{has_mark}
use Rattle.clr_view.specs.Memory.{is_marked}
use Rattle.clr_view.specs.View.{IsHeld, KeepsObjects, objects_in}
use Rattle.clr_view.proofs.Standing.{standing}
use Rattle.clr_view.proofs.Unmarked.{stands-kept}
use Rattle.clr_survivors.proofs.ItemsOf.{item-of}
use Rattle.clr_evacuate.specs.Forwarding.{CanForward, HaveStayed, LeadsBy, NamesCanForward}
use Rattle.clr_evacuate.specs.Forwards.{HasForwards}

module _ (rows : List TypeRow) (old mid : HeapView) (stayed : HaveStayed rows old mid) where
  -- what can be forwarded can be where all items stay
  pub can_forward_on : (x : ℕ) → CanForward rows old x → CanForward rows mid x
  can_forward_on x (inl null) = inl null
  can_forward_on x (inr (inl stands)) = inr (inl (stands-kept rows old mid stayed.items x stands))
  can_forward_on x (inr (inr free)) =
      inr (inr (record {
        item = free.item;
        listed = subst (λ (is : List Item). IsIn free.item is) (sym stayed.items) free.listed;
        free = free.free;
        at = free.at;
      }))

  -- and so can all names from outside
  pub names_on : (locals : List ℕ) (table : FinMap nat_cmp Handle) (queues : Queues)
      → NamesCanForward rows old locals table queues → NamesCanForward rows mid locals table queues
  names_on locals table queues can = record {
    locals_can = λ x i. can_forward_on x (can.locals_can x i);
    targets = λ k row here. can_forward_on row.target (can.targets k row here);
    seconds = λ k row here. can_forward_on row.second (can.seconds k row here);
    entries_can = λ x i. can_forward_on x (can.entries_can x i);
    ready_can = λ x i. can_forward_on x (can.ready_can x i);
  }

  -- the same objects are marked, also after a change that keeps the cells of objects
  pub marks_on : (new : HeapView) → IsHeap old → IsHeld rows old → KeepsObjects rows mid new → (o : Object)
      → IsIn o (objects_in rows old) → is_marked new o ≡ is_marked old o
  marks_on new heap held keeps o n =
      let k = item-of rows old o n in
      let s = standing rows old heap held k.item k.listed in
      let least = s.least in
      let cell : word_of new k.item.place ≡ word_of mid k.item.place =
      keeps k.item k.item.place (subst (λ (is : List Item). IsIn k.item is) (sym stayed.items) k.listed) k.object
      s.aligned (omega arith) (omega (arith, least)) in
      ap (λ (p : ℕ). has_mark (word_of new p)) k.at
      ∙ ap has_mark (cell ∙ (stayed.heads k.item k.listed).1)
      ∙ sym (ap (λ (p : ℕ). has_mark (word_of old p)) k.at)

-- where it leads is told of the heap after the step, too
pub leads_on : (rows : List TypeRow) (old mid : HeapView) (go : ℕ → ℕ)
    → LeadsBy rows old go → HasForwards rows mid go → LeadsBy rows mid go
leads_on rows old mid go leads forwards = record { forwards = forwards; to_null = leads.to_null }

-- What the last pause has to follow.
use Rattle.std.proofs.Common.{◌≡◌, ℕ, ◌⊎◌, inl, inr, subst, sym, arith, Bool, Some}
use Rattle.std.specs.Prelude.{slice_get, IsTrue}
use Rattle.clr_types.specs.Rising.{IsIn}
use Rattle.clr_model.specs.Machine.{ref, Machine, Marking}
use Rattle.clr_model.specs.Reach.{Reach, starts, follows, Edge, SlotNames, StartOfBackground}
use Rattle.clr_background.specs.Log.{IsNullOrMarked, Rescans, slot_address, StrictLogLaw}
use Rattle.clr_background.specs.Laws.{RescanIsEnoughLaw}
use Rattle.clr_background.proofs.Members.{member_read, read_member, stands_or_not}

module _ (m : Machine) (k : Marking) (is_logged : ℕ → Bool) where
  rescan_edge : (x y : ℕ) → Rescans m k is_logged x y → Edge m x y
  rescan_edge x y (inl (inl (e, white))) = inl e
  rescan_edge x y (inl (inr e)) = inl (record {
    object = e.object;
    present = e.present;
    named = e.named;
    slot = read_member e.object.slots e.index (ref y) e.slot;
    not_null = e.not_null;
  })
  rescan_edge x y (inr e) = inr e

  back : (x : ℕ) → Reach (Rescans m k is_logged) (StartOfBackground m k) x → Reach (Edge m) (StartOfBackground m k) x
  back x (starts s) = starts s
  back y (follows {x = x} r e) = follows (back x r) (rescan_edge x y e)

  module _ (law : StrictLogLaw m k is_logged) where
    abbrev Found : ℕ → Type 0
    Found = Reach (Rescans m k is_logged) (StartOfBackground m k)

    -- what a slot of a black object names is found
    black_named : (x y : ℕ) → Found x → IsIn x k.black → SlotNames m.objects x y → Found y
    black_named x y r black e =
        let (i, at) = member_read e.object.slots (ref y) e.slot in
        go i at (law e.object i y e.present (subst (λ z. IsIn z k.black) (sym e.named) black) at)
      where
        go : (i : ℕ) → slice_get e.object.slots i ≡ Some (ref y)
            → IsNullOrMarked k y ⊎ IsTrue (is_logged (slot_address m e.object i)) → Found y
        go i at (inl (inl null)) = let some = e.not_null in absurd (omega arith)
        go i at (inl (inr marked)) = starts (inr marked)
        go i at (inr l) = follows r (inl (inr (record {
          object = e.object;
          present = e.present;
          named = e.named;
          black = black;
          index = i;
          slot = at;
          logged = l;
          not_null = e.not_null;
        })))

    forth : (x : ℕ) → Reach (Edge m) (StartOfBackground m k) x → Found x
    forth x (starts s) = starts s
    forth y (follows {x = x} r (inr e)) = follows (forth x r) (inr e)
    forth y (follows {x = x} r (inl e)) = go (stands_or_not x k.black) (forth x r)
      where
        go : IsIn x k.black ⊎ (IsIn x k.black → ⊥) → Found x → Found y
        go (inl black) found = black_named x y found black e
        go (inr other) found = follows found (inl (inl (e, other)))

pub rescan_is_enough : RescanIsEnoughLaw
rescan_is_enough m k is_logged law x = (forth m k is_logged law x, back m k is_logged x)

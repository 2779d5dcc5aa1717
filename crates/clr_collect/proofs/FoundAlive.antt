-- The heap after its contexts were given up, and after what the last pause of a background collection finds alive was
-- marked: what is reached from roots, and from what is gray or black.
use Rattle.std.proofs.Common.{◌≡◌, ◌↔◌, ◌⊎◌, inl, inr, ℕ, List, true, subst, sym, ◌∙◌}
use Rattle.std.proofs.lemmas.Bool.{both_ways, le-leb}
use Rattle.std.specs.FinMap.{FinMap}
use Rattle.std.specs.Ordering.{nat_cmp}
use Rattle.clr_types.specs.Rising.{IsIn, Tests}
use Rattle.clr_types.specs.Segments.{generation}
use Rattle.clr_types.specs.declared.handle.Handle.{Handle}
use Rattle.clr_heap.specs.View.{frame, HeapView, IsHeap}
use Rattle.clr_model.specs.Collection.{begun}
use Rattle.clr_model.specs.Lawful.{IsPlaceNamed}
use Rattle.clr_model.specs.Machine.{Machine, Marking}
use Rattle.clr_model.specs.Reach.{Edge, HeldBy, IsAlive, Reach, StartOfBackground}
use Rattle.clr_model.proofs.LawfulSurvivors.{generation-least}
use Rattle.clr_view.specs.Marks.{IsUnmarked, Marked}
use Rattle.clr_view.specs.Memory.{is_left_name}
use Rattle.clr_view.specs.View.{HasGivenUp, IsHeld, objects_in}
use Rattle.clr_view.specs.World.{IsWorldOf, World}
use Rattle.clr_view.proofs.LeftNames.{marked-left}
use Rattle.clr_mark.specs.Marks.{is_condemned_place, IsRemarked}
use Rattle.clr_mark.specs.Ties.{IsStart, Joins}
use Rattle.clr_mark.proofs.Graying.{reach_on}
use Rattle.clr_bgmark.specs.Pauses.{IsFound}
use Rattle.clr_bgmark.specs.Scanning.{AreObjects, marking_in}
use Rattle.clr_bgmark.specs.Shades.{ShadeView}
use Rattle.clr_bgmark.proofs.FoundMarked.{found_is_marked}
use Rattle.clr_collect.specs.Collecting.{HasMarkedAlive, LastPauseStart}
use Rattle.clr_survivors.proofs.LeftGoes.{condemned-is}
use Rattle.clr_collect.proofs.LeftCases.{left-cases}
use Rattle.clr_collect.proofs.ReachedMarks.{edge-here, edge-there, marked_alive, stands-given}

-- a collection of all generations condemns every place
pub all_condemned : (h : HeapView) (x : ℕ) → is_condemned_place h 2 x ≡ true
all_condemned h x =
    condemned-is h 2 x ∙ le-leb (generation (frame h) x) 2 (generation-least (frame h) x)

module _ (w : World) (mid : HeapView) (heap : IsHeap w.heap) (held : IsHeld w.rows w.heap)
    (clear : IsUnmarked w.rows w.heap) (given : HasGivenUp w.rows w.heap mid) (ss : List ShadeView)
    (known : AreObjects w.rows w.heap ss) where
  -- what was taken still stands
  pub given_known : AreObjects w.rows mid ss
  given_known = record {
    taken = λ a z on. stands-given w mid heap held clear given a (known.taken a z on);
    marked = λ a z on. stands-given w mid heap held clear given a (known.marked a z on);
    scanned = λ a z on. stands-given w mid heap held clear given a (known.scanned a z on);
    black = known.black;
  }

  abbrev marking : Marking
  marking = marking_in (objects_in w.rows w.heap) ss

  -- where the marking begins
  abbrev begin : ℕ → Type 0
  begin y = IsStart w.handles w.locals w.ready y ⊎ IsFound ss y

  module _ (m : Machine) (is : IsWorldOf w m) where
    begin-there : (x : ℕ) → StartOfBackground (begun m) marking x → begin x
    begin-there x (inl (some, inl (inl i))) =
        inl (inl (inl (record { listed = subst (λ (ls : List ℕ). IsIn x ls) is.locals i; not_null = some })))
    begin-there x (inl (some, inl (inr h))) =
        inl (inr (record { held = subst (λ (hs : FinMap nat_cmp Handle). HeldBy hs x) is.handles h; not_null = some }))
    begin-there x (inl (some, inr i)) =
        inl (inl (inr (record { listed = subst (λ (ls : List ℕ). IsIn x ls) is.ready i; not_null = some })))
    begin-there x (inr marked) = inr ((found_is_marked w.rows w.heap heap held ss known x).1 marked)

    begin-here : (x : ℕ) → begin x → StartOfBackground (begun m) marking x
    begin-here x (inl (inl (inl r))) =
        inl (r.not_null, inl (inl (subst (λ (ls : List ℕ). IsIn x ls) (sym is.locals) r.listed)))
    begin-here x (inl (inl (inr r))) =
        inl (r.not_null, inr (subst (λ (ls : List ℕ). IsIn x ls) (sym is.ready) r.listed))
    begin-here x (inl (inr t)) =
        inl (t.not_null, inl (inr (subst (λ (hs : FinMap nat_cmp Handle). HeldBy hs x) (sym is.handles) t.held)))
    begin-here x (inr found) = inr ((found_is_marked w.rows w.heap heap held ss known x).0 found)

  -- ---- what was marked

  module _ (new : HeapView) (mid_heap : IsHeap mid) (words : IsRemarked w.rows mid new) (now : IsHeap new)
      (now_held : IsHeld w.rows new)
      (marked : (x : ℕ) → Marked w.rows new x ↔ Reach (Joins w.rows mid w.handles) begin x) where
    -- what is left is what is alive
    tests-alive : (m : Machine) → IsWorldOf w m → IsPlaceNamed m
        → Tests (is_left_name w.rows new 2) (IsAlive (begun m) (StartOfBackground (begun m) marking))
    tests-alive m is named x = (
      λ e. elim (left-cases w.rows new 2 x e) [
        | inl older ↦ absurd (both_ways (is_condemned_place new 2 x) older.old (all_condemned new x))
        | inr mark ↦
            reach_on (Edge (begun m)) (Joins w.rows mid w.handles) (StartOfBackground (begun m) marking) begin x
            (edge-here w mid heap held clear given mid_heap 2 m is named) (begin-here m is) ((marked x).0 mark)
      ],
      λ r. marked-left w.rows new 2 x ((marked x).1
          (reach_on (Joins w.rows mid w.handles) (Edge (begun m)) begin (StartOfBackground (begun m) marking) x
          (edge-there w mid heap held clear given mid_heap 2 m is named) (begin-there m is) r)),
    )

    -- WHAT IS MARKED: exactly what is alive before finalisation
    pub found_alive : HasMarkedAlive w (LastPauseStart marking) new 2
    found_alive =
        marked_alive w mid heap held clear given new mid_heap words now now_held 2 tests-alive
        (λ x u. all_condemned new x)

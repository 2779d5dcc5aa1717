-- The plan of a compaction still stands when references are relocated: the heap is the memory of the same machine with
-- other slots.
use Rattle.std.proofs.Common.{◌≡◌, inl, inr, ℕ, ◌-◌, ◌/◌, ◌≤◌, Bool, true, false, List, ◌++◌, ◌&&◌, filter}
use Rattle.std.proofs.Common.{map, length}
use Rattle.std.proofs.Common.{if◌then◌else◌, refl, ap, sym, ◌∙◌, subst, arith, IsSome, ℤ, not, ◌||◌}
use Rattle.std.specs.List.{AllByRecursion}
use Rattle.clr_types.specs.LawfulLayout.{DoesNotCross, IsTiled}
use Rattle.clr_types.specs.Ranges.{by_place, Piece}
use Rattle.clr_types.specs.Rising.{IsIn, sorted_by}
use Rattle.clr_types.specs.Segments.{ephemeral, generation, Layout, rest_pieces, segment_of}
use Rattle.clr_types.specs.Types.{TypeRow}
use Rattle.clr_types.proofs.ChangedLists.{IsIn-map}
use Rattle.clr_types.proofs.ListMembers.{filter-map, from-map, map-map}
use Rattle.clr_generations.specs.Laws.{BrickLaw}
use Rattle.clr_generations.proofs.KeptLaws.{brick_law-kept, HasSamePlaces, WasObject}
use Rattle.clr_generations.proofs.SameBounds.{HasSameBounds}
use Rattle.clr_heap.specs.View.{frame, HeapView, SameShape, segment_at, word_of}
use Rattle.clr_model.specs.Compaction.{Move}
use Rattle.clr_model.specs.Lawful.{IsLaid}
use Rattle.clr_model.specs.Lookups.{object_piece, pieces}
use Rattle.clr_model.specs.Machine.{Machine, Object}
use Rattle.clr_model.specs.Sweep.{is_condemned, survivor, Survivor, survivors}
use Rattle.clr_view.specs.Marks.{has_mark}
use Rattle.clr_view.specs.Memory.{is_marked, IsMemoryOf, TestsMarks}
use Rattle.clr_view.specs.View.{objects_in}
use Rattle.clr_moves.specs.Moves.{age_of, part_of}
use Rattle.clr_moves.specs.Objects.{AreRemembered, is_in_parts, is_left_by, is_spared, IsUntouched, relocated_object}
use Rattle.clr_moves.specs.Overlaid.{IsCompactionOf, IsLaidBy, MayGo}
use Rattle.clr_moves.proofs.PlacesInPlugs.{in_part-same}
use Rattle.clr_plugs.specs.BrickEntries.{BricksView}
use Rattle.clr_reloc.specs.Relocated.{HasRelocated}
use Rattle.clr_survivors.proofs.ItemsOf.{item-of}
use Rattle.clr_moves.specs.declared.condemned.Condemned.{Condemned}

module _
    (rows : List TypeRow) (view mid : HeapView) (g : Condemned) (vs : List Move)
    (r : HasRelocated rows view mid g vs)
  where
    pub shape-between : SameShape view mid
    shape-between = record { memories = r.memories; others = r.others }

    pub frame-between : frame mid ≡ frame view
    frame-between = ap frame r.others

    pub may-go-on : (x : ℕ) → MayGo view g vs x → MayGo mid g vs x
    may-go-on x may = elim may [
      | inl none ↦ inl (λ t p. none t (in_part-same view mid g t x shape-between p))
      | inr plug ↦ inr plug
    ]

    -- ---- objects

    -- what relocation makes of an object
    abbrev pub turned : Object → Object
    turned o = if is_left_by view g o then relocated_object vs o else o

    -- what reads no slots of an object reads the same
    turned-piece : (m : Machine) (o : Object) → object_piece m.types (turned o) ≡ object_piece m.types o
    turned-piece m o = go (is_left_by view g o)
      where
        go : (b : Bool) → object_piece m.types (if b then relocated_object vs o else o) ≡ object_piece m.types o
        go true = refl
        go false = refl

    turned-survivor : (m : Machine) (o : Object) → survivor m (turned o) ≡ survivor m o
    turned-survivor m o = go (is_left_by view g o)
      where
        go : (b : Bool) → survivor m (if b then relocated_object vs o else o) ≡ survivor m o
        go true = refl
        go false = refl

    turned-test : (m : Machine) (kept : ℕ → Bool) (o : Object)
        → (is_condemned m (age_of g) (turned o) && kept (turned o).name)
        ≡ (is_condemned m (age_of g) o && kept o.name)
    turned-test m kept o = go (is_left_by view g o)
      where
        go : (b : Bool) → (is_condemned m (age_of g) (if b then relocated_object vs o else o)
            && kept (if b then relocated_object vs o else o).name)
            ≡ (is_condemned m (age_of g) o && kept o.name)
        go true = refl
        go false = refl

    pub turned-place : (o : Object) → (turned o).place ≡ o.place
    turned-place o = go (is_left_by view g o)
      where
        go : (b : Bool) → (if b then relocated_object vs o else o).place ≡ o.place
        go true = refl
        go false = refl

    pub turned-name : (o : Object) → (turned o).name ≡ o.name
    turned-name o = go (is_left_by view g o)
      where
        go : (b : Bool) → (if b then relocated_object vs o else o).name ≡ o.name
        go true = refl
        go false = refl

    turned-was : (o : Object) → IsIn o (objects_in rows view) → WasObject rows rows (objects_in rows view) (turned o)
    turned-was o n = go (is_left_by view g o)
      where
        go : (b : Bool) → WasObject rows rows (objects_in rows view) (if b then relocated_object vs o else o)
        go true = record { object = o; present = n; name = refl; place = refl; form = refl; len = refl }
        go false = record { object = o; present = n; name = refl; place = refl; form = refl; len = refl }

    -- marks and parts are as before
    pub turned-mark : (o : Object) → IsIn o (objects_in rows view) → is_marked mid (turned o) ≡ is_marked view o
    turned-mark o n =
        let k = item-of rows view o n in
        ap (λ x. has_mark (word_of mid x)) (turned-place o ∙ k.at) ∙ ap has_mark (r.heads k.item k.listed).1
        ∙ ap (λ x. has_mark (word_of view x)) (sym k.at)

    pub turned-spared : (o : Object) → IsIn o (objects_in rows view)
        → is_spared mid g (turned o) ≡ is_spared view g o
    turned-spared o n =
        ap (λ (b : Bool). b || not (is_in_parts mid g (turned o).place)) (turned-mark o n)
        ∙ ap (λ (x : ℕ). is_marked view o || not (is_in_parts mid g x)) (turned-place o)
        ∙ ap (λ (h : HeapView). is_marked view o || not (is_in_parts h g o.place)) r.others

    -- ---- the machine

    module _ (m : Machine) (memory : IsMemoryOf rows view m) where
      abbrev pub relocated_machine : Machine
      relocated_machine = record m { objects = objects_in rows mid }

      pieces-same : pieces relocated_machine ≡ pieces m
      pieces-same =
          ap (λ (ps : List Piece). by_place ((ps ++ m.layout.free) ++ rest_pieces m.layout.rests))
          (ap (map (object_piece m.types)) r.objects
          ∙ map-map turned (object_piece m.types) (objects_in rows view)
          ∙ (λ k. map (λ o. turned-piece m o k) (objects_in rows view))
          ∙ ap (map (object_piece m.types)) (sym memory.objects))

      laid-same : IsLaid m → IsLaid relocated_machine
      laid-same laid = record {
        layout = laid.layout;
        housed = subst (λ ps. AllByRecursion (λ (p : Piece). IsSome (segment_of m.layout p.place)) ps)
            (sym pieces-same) laid.housed;
        tiled = subst (λ ps. AllByRecursion (IsTiled ps) m.layout.segments) (sym pieces-same) laid.tiled;
        whole1 = subst (λ ps. AllByRecursion (DoesNotCross m.layout.start1) ps) (sym pieces-same) laid.whole1;
        whole0 = subst (λ ps. AllByRecursion (DoesNotCross m.layout.start0) ps) (sym pieces-same) laid.whole0;
      }

      abbrev condemns : (ℕ → Bool) → Object → Bool
      condemns kept o = is_condemned m (age_of g) o && kept o.name

      survivors-same : (kept : ℕ → Bool) → survivors relocated_machine (age_of g) kept ≡ survivors m (age_of g) kept
      survivors-same kept =
          ap (sorted_by (λ (s : Survivor). s.place))
          (ap (λ os. map (survivor m) (filter (condemns kept) os)) r.objects
          ∙ ap (map (survivor m)) (filter-map turned (condemns kept) (objects_in rows view))
          ∙ map-map turned (survivor m) (filter (λ o. condemns kept (turned o)) (objects_in rows view))
          ∙ (λ k. map (λ o. turned-survivor m o k) (filter (λ o. condemns kept (turned o)) (objects_in rows view)))
          ∙ (λ k. map (survivor m) (filter (λ o. turned-test m kept o k) (objects_in rows view)))
          ∙ ap (λ os. map (survivor m) (filter (condemns kept) os)) (sym memory.objects))

      pub tests-same : (kept : ℕ → Bool) → TestsMarks rows view (age_of g) kept → TestsMarks rows mid (age_of g) kept
      tests-same kept tests o n young =
          let (q, is, there) = from-map turned o (objects_in rows view) (subst (λ os. IsIn o os) r.objects n) in
          let place : o.place ≡ q.place = ap (λ (x : Object). x.place) is ∙ turned-place q in
          let name : o.name ≡ q.name = ap (λ (x : Object). x.name) is ∙ turned-name q in
          let k = item-of rows view q there in
          let head = (r.heads k.item k.listed).1 in
          let low : generation (frame view) q.place ≤ age_of g =
          subst (λ x. generation (frame view) x ≤ age_of g) place
          (subst (λ f. generation f o.place ≤ age_of g) frame-between young) in
          ap kept name ∙ tests q there low
          ∙ sym (ap (λ x. has_mark (word_of mid x)) (place ∙ k.at) ∙ ap has_mark head
          ∙ ap (λ x. has_mark (word_of view x)) (sym k.at))

      -- THE SAME COMPACTION is that of the machine with its new slots
      pub compaction-stays : (kept : ℕ → Bool) (after : Layout)
          → IsCompactionOf rows view g vs m kept after
          → IsCompactionOf rows mid g vs relocated_machine kept after
      compaction-stays kept after c = record {
        memory = record {
          types = memory.types;
          objects = refl;
          layout = memory.layout ∙ sym r.layout;
        };
        laid = laid-same c.laid;
        tests = tests-same kept c.tests;
        compacted = subst (λ ks. IsLaidBy g m.layout ks vs after) (sym (survivors-same kept)) c.compacted;
      }

    -- ---- bricks

    same-places : HasSamePlaces rows rows (objects_in rows view) (objects_in rows mid)
    same-places = record {
      were = λ o n.
          let (q, is, there) = from-map turned o (objects_in rows view) (subst (λ os. IsIn o os) r.objects n) in
          subst (WasObject rows rows (objects_in rows view)) (sym is) (turned-was q there);
      stay = λ place s.
          let (q, n, at) = s in (
            turned q,
            subst (λ os. IsIn (turned q) os) (sym r.objects) (IsIn-map turned n),
            turned-place q ∙ at,
          );
    }

    same-bounds : HasSameBounds (frame view) (frame mid)
    same-bounds = subst (HasSameBounds (frame view)) (sym frame-between)
        (record { segments = refl; start1 = refl; start0 = refl })

    pub law-on : (entry : ℕ → ℤ) → BrickLaw rows (frame view) (objects_in rows view) entry
        → BrickLaw rows (frame mid) (objects_in rows mid) entry
    law-on entry law =
        brick_law-kept rows rows (frame view) (frame mid) (objects_in rows view) (objects_in rows mid) same-bounds
        same-places entry law

    pub remembered-on : (bricks : BricksView) (entry : ℕ → ℤ) (below first : ℤ)
        → AreRemembered rows view bricks g entry below first
        → AreRemembered rows mid bricks g entry below first
    remembered-on bricks entry below first a = record {
      law = law-on entry a.law;
      others = λ i untouched. a.others i (subst (λ (h : HeapView). IsUntouched h g i) r.others untouched);
      below_is = λ e is within.
          let count = ap (λ (h : HeapView). length h.segments) r.others in
          a.below_is e (sym (ap (λ (h : HeapView). segment_at h e) r.others) ∙ is
          ∙ ap (λ (h : HeapView). ephemeral (frame h)) r.others) (omega (arith, within, count))
          ∙ sym (ap (λ (h : HeapView). entry (part_of h g e / 4096 - 1)) r.others);
      first_is = λ e is within.
          let count = ap (λ (h : HeapView). length h.segments) r.others in
          a.first_is e (sym (ap (λ (h : HeapView). segment_at h e) r.others) ∙ is
          ∙ ap (λ (h : HeapView). ephemeral (frame h)) r.others) (omega (arith, within, count))
          ∙ sym (ap (λ (h : HeapView). entry (part_of h g e / 4096)) r.others);
    }

-- Cards after a sweep: a slot that names a younger object now named a younger one before, since objects stay where they
-- are and condemned ones become older together.
use Rattle.std.proofs.Common.{◌≡◌, inl, inr, ℕ, ◌+◌, ◌<◌, ◌≤◌, ◌==◌, Bool, true, false, if◌then◌else◌, List, [], filter}
use Rattle.std.proofs.Common.{map, min, refl, ap, sym, ◌∙◌, subst, arith, ◌&&◌}
use Rattle.std.proofs.lemmas.Bool.{cases_lt}
use Rattle.clr_types.specs.Rising.{IsIn}
use Rattle.clr_types.specs.Segments.{generation, is_small_or_ephemeral, Layout, same_kind}
use Rattle.clr_types.specs.Types.{TypeRow}
use Rattle.clr_types.specs.declared.segment.SegInfo.{SegInfo}
use Rattle.clr_types.specs.declared.segment.SegKind.{SegKind}
use Rattle.clr_types.specs.declared.segment.SegKind.TheVariants.{Large}
use Rattle.clr_types.proofs.ChangedLists.{out_of_filter}
use Rattle.clr_types.proofs.ListMembers.{from-map, map-map, map-on}
use Rattle.clr_bricks.specs.Bricks.{entry_at}
use Rattle.clr_covers.specs.Covers.{CoverView, spans}
use Rattle.std.specs.Prelude.{ℤ}
use Rattle.clr_heap.specs.View.{frame, HeapView}
use Rattle.clr_model.specs.Collection.{object_after}
use Rattle.clr_model.specs.Lawful.{IsLaid}
use Rattle.clr_model.specs.Machine.{Machine, Object}
use Rattle.clr_model.specs.Sweep.{has_condemned_part, segments_after, swept_end, swept_others}
use Rattle.clr_model.proofs.CollectedAges.{sweep_ages}
use Rattle.clr_view.specs.Memory.{is_left, IsMemoryOf, TestsMarks}
use Rattle.clr_view.specs.View.{layout_in, objects_in}
use Rattle.clr_generations.specs.Laws.{BrickLaw, NamesYounger}
use Rattle.clr_generations.specs.Tables.{AreTablesOf, units_of}
use Rattle.clr_sweep.specs.Swept.{HasSwept}
use Rattle.clr_collect.proofs.SweepCollects.{KeepsOlder, laid, laid-generation, layout-swept, objects-after, plain}
use Rattle.clr_collect.proofs.SweepCollects.{small, survive}
use Rattle.clr_types.specs.Segments.{is_large_or_pinned}

-- ---- generations

-- what a sweep of generation g makes of a generation
pub record IsAged (g before after : ℕ) : Type 0 where
  pub old : g < before → after ≡ before
  pub young : before ≤ g → after ≡ min 2 (before + 1)

-- of two objects the younger one was the younger
pub younger_before : (g a b a' b' : ℕ) → IsAged g a a' → IsAged g b b' → a' < b' → a < b
younger_before g a b a' b' p q l = elim (cases_lt g a) [
  | inl up ↦ elim (cases_lt g b) [
    | inl above ↦ let e = p.old up in let f = q.old above in omega arith
    | inr low ↦ let e = p.old up in let f = q.young low in absurd (omega arith)
  ]
  | inr low ↦ elim (cases_lt g b) [
    | inl above ↦ omega arith
    | inr below ↦ let e = p.young low in let f = q.young below in omega arith
  ]
]

-- ---- what segments reserve

-- new ends leave bases and reserved bytes
units-after : (unit : ℕ) (kinds : SegKind → Bool) (g : ℕ) (end : SegInfo → ℕ) (ss : List SegInfo)
    → map (units_of unit) (segments_after kinds g end ss) ≡ map (units_of unit) ss
units-after unit kinds g end ss =
    map-map (λ s. if kinds s.kind && has_condemned_part g s then record s { end = end s } else s) (units_of unit) ss
    ∙ map-on (λ s. units_of unit (if kinds s.kind && has_condemned_part g s then record s { end = end s } else s))
    (units_of unit) ss (λ s i. go s (kinds s.kind && has_condemned_part g s))
  where
    go : (s : SegInfo) (b : Bool) → units_of unit (if b then record s { end = end s } else s) ≡ units_of unit s
    go s true = refl
    go s false = refl

module _ (m : Machine) (h : IsLaid m) (g : ℕ) (least : g ≤ 2) (first kept : ℕ → Bool) (older : KeepsOlder m g kept)
    (rows : List TypeRow) (marked : HeapView) (memory : IsMemoryOf rows marked (plain m h g least first kept older))
    (marks : TestsMarks rows marked g kept) (swept : HeapView) (s : HasSwept rows marked swept g) where
  abbrev whole : Layout
  whole = laid m h g least first kept older

  layout-is : layout_in rows swept ≡ whole
  layout-is = layout-swept m h g least first kept older rows marked memory marks swept s

  -- ---- ages

  before-is : (p : ℕ) → generation m.layout p ≡ generation (frame marked) p
  before-is p = ap (λ (l : Layout). generation l p) memory.layout

  after-is : (p : ℕ) → generation (frame swept) p ≡ generation (small m h g least first kept older) p
  after-is p =
      ap (λ (l : Layout). generation l p) layout-is ∙ laid-generation m h g least first kept older p

  -- an object that stays becomes older where it was condemned
  aged : (o : Object) → IsIn o (objects_in rows swept)
      → IsAged g (generation (frame marked) o.place) (generation (frame swept) o.place)
  aged o i =
      let (q, same, j) = from-map (object_after m first []) o (filter (λ (x : Object). kept x.name) m.objects)
      (subst (λ (os : List Object). IsIn o os)
      (sym (objects-after m h g least first kept older rows marked memory marks swept s)) i) in
      let (on, present) = out_of_filter (λ (x : Object). kept x.name) q m.objects j in
      let ages = sweep_ages m h g least kept [] (small m h g least first kept older) (refl, refl) q present on in
      let place : o.place ≡ q.place = ap (λ (x : Object). x.place) same in
      subst (λ (p : ℕ). IsAged g (generation (frame marked) p) (generation (frame swept) p)) (sym place)
      (subst (λ (e : ℕ). IsAged g e (generation (frame swept) q.place)) (before-is q.place)
      (subst (λ (e : ℕ). IsAged g (generation m.layout q.place) e) (sym (after-is q.place))
      (record { old = ages.0; young = ages.1 })))

  -- ---- cards

  was-there : (o : Object) → IsIn o (objects_in rows swept) → IsIn o (objects_in rows marked)
  was-there o i =
      (out_of_filter (is_left marked g) o (objects_in rows marked)
      (subst (λ (os : List Object). IsIn o os) s.objects i)).1

  -- a slot that names a younger object did so before
  pub younger_swept : (a : ℕ) → NamesYounger rows (frame swept) (objects_in rows swept) a
      → NamesYounger rows (frame marked) (objects_in rows marked) a
  younger_swept a n = record {
    object = n.object;
    present = was-there n.object n.present;
    slot = n.slot;
    target = n.target;
    target_present = was-there n.target n.target_present;
    named = n.named;
    address = n.address;
    younger =
        younger_before g (generation (frame marked) n.target.place) (generation (frame marked) n.object.place)
        (generation (frame swept) n.target.place) (generation (frame swept) n.object.place)
        (aged n.target n.target_present) (aged n.object n.present) n.younger;
  }

  -- ---- tables

  units-whole : (unit : ℕ) → map (units_of unit) whole.segments ≡ map (units_of unit) m.layout.segments
  units-whole unit = go (g == 2) refl
    where
      go : (b : Bool) → (g == 2) ≡ b
          → map (units_of unit) (if b then swept_others (small m h g least first kept older) 2
          (survive m h g least first kept older) else small m h g least first kept older).segments
          ≡ map (units_of unit) m.layout.segments
      go true e =
          units-after unit (is_large_or_pinned) 2
          (swept_end (small m h g least first kept older) 2 (survive m h g least first kept older))
          (small m h g least first kept older).segments
          ∙ units-after unit is_small_or_ephemeral g
          (swept_end m.layout g (survive m h g least first kept older)) m.layout.segments
      go false e =
          units-after unit is_small_or_ephemeral g
          (swept_end m.layout g (survive m h g least first kept older)) m.layout.segments

  units-swept : (unit : ℕ) → map (units_of unit) swept.segments ≡ map (units_of unit) marked.segments
  units-swept unit =
      ap (λ (l : Layout). map (units_of unit) l.segments) layout-is
      ∙ units-whole unit
      ∙ ap (λ (l : Layout). map (units_of unit) l.segments) memory.layout

  -- CARDS AND BRICKS of the swept heap, where the sweep has entered the bricks
  pub tables_swept : (cards : List (CoverView ℕ)) (was bricks : List (CoverView ℤ)) → AreTablesOf rows marked cards was
      → spans bricks ≡ spans was → BrickLaw rows (frame swept) (objects_in rows swept) (entry_at bricks)
      → AreTablesOf rows swept cards bricks
  tables_swept cards was bricks t same law = record {
    cards = t.cards ∙ sym (units-swept 2048);
    bricks = same ∙ t.bricks ∙ sym (units-swept 4096);
    card_law = λ a n. t.card_law a (younger_swept a n);
    brick_law = law;
  }

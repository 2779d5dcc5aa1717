-- The references of one object become the places where their targets go, one after the other.
use Rattle.std.proofs.Common.{◌≡◌, ◌≢◌, inl, inr, ℕ, ◌+◌, ◌-◌, ◌/◌, ◌%◌, ◌<◌, Bool, true, List, [], ◌∷◌, ◌++◌, refl}
use Rattle.std.proofs.Common.{ap, sym, ◌∙◌}
use Rattle.std.proofs.Common.{subst, arith, length}
use Rattle.clr_types.specs.Rising.{first, IsIn, IsRisingBy, later}
use Rattle.clr_types.specs.Segments.{Layout}
use Rattle.clr_types.specs.Types.{form_at, TypeRow}
use Rattle.clr_types.specs.declared.item.Item.{Item}
use Rattle.clr_types.proofs.ListMembers.{append_right, in_append}
use Rattle.clr_types.proofs.ChangedLists.{append_left}
use Rattle.clr_types.proofs.Offsets.{rising_offsets_law}
use Rattle.clr_types.proofs.RisingLists.{all_at, in_cons}
use Rattle.clr_heap.specs.Memories.{memory_index}
use Rattle.clr_heap.specs.View.{HeapView, IsHeap, stored, word_of}
use Rattle.clr_heap.proofs.Framing.{SameShape-trans}
use Rattle.clr_heap.proofs.Rewrite.{SameShape-refl}
use Rattle.clr_heap.proofs.Storing.{word_in-store_in_other, word_in-store_in_same}
use Rattle.clr_model.specs.Compaction.{Move, moved_by}
use Rattle.clr_view.specs.View.{IsHeld}
use Rattle.clr_view.proofs.Standing.{standing}
use Rattle.clr_covers.specs.Covers.{CoverView}
use Rattle.clr_pinq.specs.Queue.{QueueView}
use Rattle.clr_pinq.specs.declared.entry.PinEntry.{PinEntry}
use Rattle.clr_moves.specs.declared.condemned.Condemned.{Condemned}
use Rattle.clr_reloc.specs.References.{references_of}
use Rattle.clr_reloc.specs.Relocations.{KeepsBeside}
use Rattle.clr_reloc.specs.Relocating.{AreCarded, HasGone, IsAhead, IsCarded, IsLeftItem}
use Rattle.clr_reloc.specs.Relocating.{IsSlotAhead, KeepsTelling, SavesSame}
use Rattle.clr_reloc.proofs.Cells.{InItem, left_inside, one_item, reference_inside}

-- ---- steps of the whole work

pub saves_refl : (entries : List PinEntry) → SavesSame entries entries
saves_refl entries b = ((λ s. s), (λ s. s))

pub saves_trans : (a b c : List PinEntry) → SavesSame a b → SavesSame b c → SavesSame a c
saves_trans a b c s t x = ((λ y. (t x).0 ((s x).0 y)), (λ y. (s x).1 ((t x).1 y)))

pub keeps_refl : (rows : List TypeRow) (view : HeapView) (g : Condemned) (vs : List Move) (entries : List PinEntry)
    (h : HeapView) → KeepsTelling rows view g vs entries h h
keeps_refl rows view g vs entries h = record { shape = SameShape-refl h; words = λ b z. inl refl }

pub keeps_trans : (rows : List TypeRow) (view : HeapView) (g : Condemned) (vs : List Move)
    (entries other : List PinEntry) (a b c : HeapView) → SavesSame entries other
    → KeepsTelling rows view g vs entries a b → KeepsTelling rows view g vs other b c
    → KeepsTelling rows view g vs entries a c
keeps_trans rows view g vs entries other a b c s k l = record {
  shape = SameShape-trans a b c k.shape l.shape;
  words = λ x z. elim (l.words x z) [
    | inl same ↦ elim (k.words x z) [ inl e ↦ inl (same ∙ e) | inr q ↦ inr (q.0, q.1, q.2, same ∙ q.3) ]
    | inr q ↦ inr (q.0, q.1, λ some. q.2 ((s x).0 some), q.3)
  ];
}

pub beside_refl : (cards : List (CoverView ℕ)) (pins : QueueView) → KeepsBeside cards cards pins pins
beside_refl cards pins =
    record { set = λ c on. on; cards = refl; saved = saves_refl pins.entries; count = refl; spare = refl }

pub beside_trans : (f g h : List (CoverView ℕ)) (p q r : QueueView) → KeepsBeside f g p q → KeepsBeside g h q r
    → KeepsBeside f h p r
beside_trans f g h p q r a b = record {
  set = λ c on. b.set c (a.set c on);
  cards = b.cards ∙ a.cards;
  saved = saves_trans p.entries q.entries r.entries a.saved b.saved;
  count = b.count ∙ a.count;
  spare = b.spare ∙ a.spare;
}

-- ---- one object

pub nothing_more : (xs : List ℕ) → xs ≡ xs ++ []
nothing_more [] = refl
nothing_more (x ∷ xs) = ap (λ ys. x ∷ ys) (nothing_more xs)

pub listed_next_of : (offset : ℕ) (yielded rest all : List ℕ) → yielded ++ offset ∷ rest ≡ all → IsIn offset all
listed_next_of offset yielded rest all e = subst (IsIn offset) e (append_right yielded first)

-- what is seen once the references at these offsets have become the places where their targets go
pub record HasGoneAt (rows : List TypeRow) (view now next : HeapView) (g : Condemned) (vs : List Move) (found : Item)
    (offsets : List ℕ) (layout : Layout) (is_set : ℕ → Bool) : Type 0 where
  pub done : (offset : ℕ) → IsIn offset offsets
      → word_of next (found.place + offset) ≡ moved_by vs (word_of view (found.place + offset))
  pub others : (b : ℕ) → b % 8 ≡ 0 → ((offset : ℕ) → IsIn offset offsets → b ≢ found.place + offset)
      → word_of next b ≡ word_of now b
  pub carded : (offset : ℕ) → IsIn offset offsets → IsCarded view vs layout is_set found.place offset

pub gone_nowhere : (rows : List TypeRow) (view now : HeapView) (g : Condemned) (vs : List Move) (found : Item)
    (layout : Layout) (is_set : ℕ → Bool) → HasGoneAt rows view now now g vs found [] layout is_set
gone_nowhere rows view now g vs found layout is_set = record {
  done = λ offset i. elim i [ ];
  others = λ b z none. refl;
  carded = λ offset i. elim i [ ];
}

rising-new : (xs : List ℕ) (x : ℕ) (ys : List ℕ) → IsRisingBy (λ n. n) (xs ++ x ∷ ys) → (y : ℕ) → IsIn y xs → y < x
rising-new [] x ys r y i = elim i [ ]
rising-new (z ∷ xs) x ys r y first = all_at (λ (n : ℕ). y < n) (append_right xs first) r.0
rising-new (z ∷ xs) x ys r y (later i) = rising-new xs x ys r.1 y i

module _ (rows : List TypeRow) (view now next : HeapView) (g : Condemned) (vs : List Move) (found : Item)
    (layout : Layout) (is_set : ℕ → Bool) (heap : IsHeap view) (held : IsHeld rows view)
    (left : IsLeftItem rows view g found) (ahead : IsAhead view now g vs found.place (found.place + found.size))
    (yielded : List ℕ) (offset : ℕ) (rest : List ℕ) (walked : yielded ++ offset ∷ rest ≡ references_of rows found)
    (gone : HasGoneAt rows view now next g vs found yielded layout is_set) where
  abbrev a : ℕ
  a = found.place + offset

  pub listed_next : IsIn offset (references_of rows found)
  listed_next = subst (IsIn offset) walked (append_right yielded first)

  below_next : (y : ℕ) → IsIn y yielded → y < offset
  below_next y i = rising-new yielded offset rest
      (subst (IsRisingBy (λ (n : ℕ). n)) (sym walked) (rising_offsets_law (form_at rows found.type_id.0) found.len)) y i

  pub inside_next : InItem rows view heap held found a
  inside_next = reference_inside rows view heap held found offset left.listed listed_next

  pub slot_ahead : IsSlotAhead rows view next g vs a
  slot_ahead =
      let c = inside_next in
      let low = c.above in
      record {
        reference = record { item = found; left = left; offset = offset; reference = listed_next; address = refl };
        kept = ahead.kept a c.aligned (omega arith) c.below;
        untouched = gone.others a c.aligned (λ y i e. let l = below_next y i in omega arith)
            ∙ ahead.untouched a c.aligned (omega arith) c.below;
      }

  pub gone_more : (after : HeapView) (now_set : ℕ → Bool) → after ≡ stored next a (moved_by vs (word_of view a))
      → memory_index next.memories a < length next.memories
      → ((c : ℕ) → is_set c ≡ true → now_set c ≡ true) → IsCarded view vs layout now_set found.place offset
      → HasGoneAt rows view now after g vs found (yielded ++ offset ∷ []) layout now_set
  gone_more after now_set e has kept carded =
      subst (λ h. HasGoneAt rows view now h g vs found (yielded ++ offset ∷ []) layout now_set) (sym e) (record {
        done = λ y i. elim (in_append yielded i) [
          | inl before ↦
              let l = below_next y before in
              let c = inside_next in
              let d = reference_inside rows view heap held found y left.listed
              (subst (IsIn y) walked (append_left (offset ∷ rest) before)) in
              word_in-store_in_other next.memories a v (found.place + y) c.aligned d.aligned (λ same. omega arith)
              ∙ gone.done y before
          | inr here ↦ elim (in_cons here) [
            | inl same ↦ subst (λ n. word_of (stored next a v) (found.place + n)
                ≡ moved_by vs (word_of view (found.place + n))) (sym same)
                (word_in-store_in_same next.memories a v has)
            | inr none ↦ elim none [ ]
          ]
        ];
        others = λ b z none.
            word_in-store_in_other next.memories a v b (inside_next).aligned z
            (none offset (append_right yielded first))
            ∙ gone.others b z (λ y i. none y (append_left (offset ∷ []) i));
        carded = λ y i. elim (in_append yielded i) [
          | inl before ↦ (λ less. kept ((moved_by vs found.place + y) / 2048) (gone.carded y before less))
          | inr here ↦ elim (in_cons here) [
            | inl same ↦ subst (λ n. IsCarded view vs layout now_set found.place n) (sym same) carded
            | inr none ↦ elim none [ ]
          ]
        ];
      })
    where
      v : ℕ
      v = moved_by vs (word_of view a)

-- all of them have
module _ (rows : List TypeRow) (view now next : HeapView) (g : Condemned) (vs : List Move) (found : Item)
    (layout : Layout) (is_set : ℕ → Bool) (heap : IsHeap view) (held : IsHeld rows view)
    (left : IsLeftItem rows view g found) (offsets : List ℕ) (all : offsets ≡ references_of rows found)
    (gone : HasGoneAt rows view now next g vs found offsets layout is_set) where
  pub object_gone : HasGone rows view now next g vs found.place (found.place + found.size)
  object_gone = record {
    done = λ b r low high.
        let c = left_inside rows view heap held g b r in
        let up = c.above in
        let same = one_item rows view heap held r.item found b r.left.listed left.listed (omega arith) c.below low high
        in
        let reference = subst (λ i. IsIn r.offset (references_of rows i)) same r.reference in
        let address : b ≡ found.place + r.offset = r.address ∙ ap (λ (i : Item). i.place + r.offset) same in
        subst (λ n. word_of next n ≡ moved_by vs (word_of view n)) (sym address)
        (gone.done r.offset (subst (IsIn r.offset) (sym all) reference));
    others = λ b z out. gone.others b z (λ y i e.
        let c = reference_inside rows view heap held found y left.listed (subst (IsIn y) all i) in
        let up = c.above in
        let down = c.below in
        elim out [ inl x ↦ omega arith | inr x ↦ omega arith ]);
  }

  pub object_carded : AreCarded rows view g vs layout is_set found.place (found.place + found.size)
  object_carded j offset leaves low high member =
      let s = standing rows view heap held j leaves.listed in
      let least = s.least in
      let up = s.above in
      let same : j ≡ found = one_item rows view heap held j found (j.place - 8) leaves.listed left.listed (omega arith)
      (omega arith) (omega arith) (omega arith) in
      subst (λ (x : Item). IsCarded view vs layout is_set x.place offset) (sym same)
      (gone.carded offset (subst (IsIn offset) (sym all) (subst (λ (x : Item). IsIn offset (references_of rows x)) same
      member)))

-- The items of the heap after a compaction: where each of them came from, and where each of the old ones went.
use Rattle.std.proofs.Common.{◌≡◌, ℕ, ◌+◌, ◌%◌, ◌<◌, ◌⊎◌, inl, inr, Bool, true, false, List, [], ◌∷◌, length, refl}
use Rattle.std.proofs.Common.{sym, ap, subst, ◌∙◌, arith, if◌then◌else◌, nat_lt}
use Rattle.std.proofs.lemmas.Bool.{lt-ltb, ltb-true}
use Rattle.clr_types.specs.Rising.{first, IsIn, later}
use Rattle.clr_types.specs.Ranges.{Piece}
use Rattle.clr_types.specs.Segments.{Layout}
use Rattle.clr_types.specs.Types.{TypeRow}
use Rattle.clr_types.specs.declared.item.Item.{Item}
use Rattle.clr_types.proofs.ChangedLists.{append_left, IsIn-map}
use Rattle.clr_types.proofs.ListMembers.{append_right, from-map, in_append}
use Rattle.clr_types.proofs.RisingLists.{all_at, in_cons}
use Rattle.clr_heap.specs.Parts.{free_item, item_at, item_part, items_in, Part, rest_part, Sight, Spells, until_place}
use Rattle.clr_heap.specs.View.{first_of, heap_items, HeapView, IsHeap, last_of, listing, no_rests, parts_of}
use Rattle.clr_heap.specs.View.{segment_at, sight, word_of}
use Rattle.clr_heap.proofs.Spelling.{item_size}
use Rattle.clr_model.specs.Compaction.{Move, moved_by}
use Rattle.clr_model.specs.Lawful.{IsLaid}
use Rattle.clr_model.specs.Lookups.{object_size}
use Rattle.clr_model.specs.Machine.{Machine, Object}
use Rattle.clr_model.proofs.Refill.{IsRefill, range_after}
use Rattle.clr_view.specs.View.{IsHeld, objects_in}
use Rattle.clr_view.specs.Items.{is_object}
use Rattle.clr_view.proofs.Items.{IsItem, items-are}
use Rattle.clr_sweep.proofs.SurvivorsSwept.{seen}
use Rattle.clr_compact.specs.Compacted.{items_of_part}
use Rattle.clr_moves.specs.Moves.{part_of, takes}
use Rattle.clr_moves.specs.declared.condemned.Condemned.{Condemned}
use Rattle.clr_moves.proofs.FilledParts.{FillsParts}
use Rattle.clr_compact.specs.Slides.{HasSlid}
use Rattle.clr_compact.proofs.MemoryItems.{IsItemOf, item_of, standing}
use Rattle.clr_compact.proofs.PartsSlid.{carried_item, free_is, IsCarried, now_listed, object_there, part_listed}
use Rattle.clr_compact.proofs.PartsSlid.{refill}
use Rattle.clr_compact.proofs.Respelled.{items_over}

-- ---- the parts below a place

pub until_in : (ps : List Part) (x : ℕ) (i : Item) → IsIn i (items_in (until_place ps x))
    → IsIn i (items_in ps) × (i.place < x)
until_in [] x i n = elim n [ ]
until_in (item_part j ∷ ps) x i n = go (nat_lt j.place x) refl n (until_in ps x i)
  where
    go : (b : Bool) → nat_lt j.place x ≡ b → IsIn i (items_in (if b then item_part j ∷ until_place ps x else []))
        → (IsIn i (items_in (until_place ps x)) → IsIn i (items_in ps) × (i.place < x))
        → IsIn i (j ∷ items_in ps) × (i.place < x)
    go true e n deeper = elim (in_cons n) [
      | inl same ↦ (
        subst (λ k. IsIn k (j ∷ items_in ps)) (sym same) first,
        let l = ltb-true j.place x e in
            let at = ap (λ (k : Item). k.place) same in omega arith,
      )
      | inr more ↦ let (a, l) = deeper more in (later a, l)
    ]
    go false e n deeper = elim n [ ]
until_in (rest_part lo hi ∷ ps) x i n = go (nat_lt lo x) n (until_in ps x i)
  where
    go : (b : Bool) → IsIn i (items_in (if b then rest_part lo hi ∷ until_place ps x else []))
        → (IsIn i (items_in (until_place ps x)) → IsIn i (items_in ps) × (i.place < x))
        → IsIn i (items_in ps) × (i.place < x)
    go true n deeper = deeper n
    go false n deeper = elim n [ ]

pub in_until : (s : Sight) (ps : List Part) (p e x : ℕ) → p % 8 ≡ 0 → Spells s p ps e → (i : Item)
    → IsIn i (items_in ps) → i.place < x → IsIn i (items_in (until_place ps x))
in_until s [] p e x z h i n l = elim n [ ]
in_until s (item_part j ∷ ps) p e x z h i n l =
    let f = item_size s j p h.1 h.2 in
    elim (in_cons n) [
      | inl same ↦ let at = ap (λ (k : Item). k.place) same in
          rw (lt-ltb j.place x (omega arith)) (subst (λ k. IsIn k (j ∷ items_in (until_place ps x))) (sym same) first)
      | inr more ↦
          let is = all_at (IsItem s.rows (p + j.size) e) more (items-are s ps (p + j.size) e (omega arith) h.3) in
          let above = is.above in
          rw (lt-ltb j.place x (omega arith)) (later (in_until s ps (p + j.size) e x (omega arith) h.3 i more l))
    ]
in_until s (rest_part lo hi ∷ ps) p e x z h i n l =
    let is = all_at (IsItem s.rows hi e) n (items-are s ps hi e h.3 h.4) in
    let above = is.above in
    let size = h.2 in
    rw (lt-ltb lo x (omega arith)) (in_until s ps hi e x h.3 h.4 i n l)

module _ (rows : List TypeRow) (old : HeapView) (base : Machine) (heap : IsHeap old) (held : IsHeld rows old)
    (none : old.rests ≡ no_rests) (laid : IsLaid (seen rows old base)) (g : Condemned) (keeps : ℕ → Bool)
    (moves : List Move) (after : Layout) (c : FillsParts rows old base g keeps moves after) (mid : HeapView)
    (slid : HasSlid old mid g moves) where
  -- an item where it goes
  abbrev pub item_there : Item → Item
  item_there i = record i { place = moved_by moves i.place }

  -- a kept object's item, which moves with a plug
  pub record HasGone (i : Item) : Type 0 where
    pub listed : IsIn i (heap_items rows old)
    pub object : is_object i ≡ true
    pub kept : keeps i.place ≡ true
    pub plug : ℕ
    pub carried : IsCarried rows old base heap held none laid g keeps moves after c i.place i.size plug

  abbrev pub free_of : ℕ → List Piece
  free_of t = c.free (segment_at old t)

  -- ---- a segment with a part

  module _ (t : ℕ) (inside : t < length old.segments) (on : takes g (segment_at old t) ≡ true) where
    abbrev fills : IsRefill (seen rows old base) keeps moves (segment_at old t) (part_of old g t)
        (c.end (segment_at old t)) (free_of t)
    fills = refill rows old base heap held none laid g keeps moves after c mid slid t inside on

    -- where an item of the part came from
    pub part_from : (j : Item) → IsIn j (items_of_part rows mid g t)
        → ((i : Item) × HasGone i × IsIn (record { place = moved_by moves i.place; size = i.size }) fills.more
        × (j ≡ item_there i)) ⊎ ((f : Piece) × IsIn f (free_of t) × (j ≡ free_item f.place f.size))
    part_from j n =
        let (x, is, there) =
        from-map (λ (p : Piece). item_at rows (word_of mid) p.place) j fills.more
        (subst (IsIn j) (part_listed rows old base heap held none laid g keeps moves after c mid slid t
        inside on) n) in
        elim (fills.more_is x there) [
          | inl (o, present, stays, at) ↦ inl (moved o present stays x there is at)
          | inr fresh ↦ inr (x, fresh, is ∙ free x fresh)
        ]
      where
        moved : (o : Object) → IsIn o (objects_in rows old) → keeps o.name ≡ true → (x : Piece) → IsIn x fills.more
            → j ≡ item_at rows (word_of mid) x.place → x ≡ range_after (seen rows old base) moves o
            → (i : Item) × HasGone i × IsIn (record { place = moved_by moves i.place; size = i.size }) fills.more
            × (j ≡ item_there i)
        moved o present stays x there is at =
            let of : IsItemOf rows old base heap held laid o = item_of rows old base heap held laid o present in
            let (k, carries) =
            object_there rows old base heap held none laid g keeps moves after c mid slid t inside on o
            present stays (subst (λ q. IsIn q fills.more) at there) in
            let place : o.place ≡ of.item.place = ap (λ (w : Object). w.place) of.is in
            let name : o.name ≡ of.item.place = ap (λ (w : Object). w.name) of.is in
            let C : ℕ → ℕ → Type 0 =
            λ p s. IsCarried rows old base heap held none laid g keeps moves after c p s k in
            let carries_item : C of.item.place of.item.size =
            subst (C of.item.place) of.size (subst (λ p. C p (object_size rows o)) place carries) in
            let z = (standing rows old base heap held laid of.item of.listed).is.aligned in
            let spelled = carried_item rows old base heap held none laid g keeps moves after c mid slid of.item
            of.listed k carries_item z in
            let here : x ≡ record { place = moved_by moves of.item.place; size = of.item.size } =
            at ∙ (λ e. record { place = moved_by moves (place e); size = of.size e }) in (
              of.item,
              record {
                listed = of.listed;
                object = of.object;
                kept = subst (λ n. keeps n ≡ true) name stays;
                plug = k;
                carried = carries_item;
              },
              subst (λ q. IsIn q fills.more) here there,
              is
                  ∙ ap (λ (q : Piece). item_at rows (word_of mid) q.place) here ∙ spelled.is,
            )

        free : (f : Piece) → IsIn f (free_of t) → item_at rows (word_of mid) f.place ≡ free_item f.place f.size
        free f i = sym (free_is rows old base heap held none laid g keeps moves after c mid slid t inside on f i)

    -- where an item of the segment came from
    pub listed_from_where : (j : Item) → IsIn j (listing rows mid t)
        → (IsIn j (listing rows old t) × (j.place < part_of old g t))
        ⊎ IsIn j (items_of_part rows mid g t)
    listed_from_where j n =
        elim (in_append (items_in (until_place (parts_of rows old t) (part_of old g t)))
        (subst (IsIn j) (now_listed rows old base heap held none laid g keeps moves after c mid slid t inside
        on) n)) [
          | inl low ↦ inl (until_in (parts_of rows old t) (part_of old g t) j low)
          | inr more ↦ inr (subst (IsIn j)
              (sym (part_listed rows old base heap held none laid g keeps moves after c mid slid t inside on))
              more)
        ]

    -- what stands below the part stays there
    pub below_listed : (j : Item) → IsIn j (listing rows old t) → j.place < part_of old g t
        → IsIn j (listing rows mid t)
    below_listed j n l =
        subst (IsIn j) (sym (now_listed rows old base heap held none laid g keeps moves after c mid slid t inside
        on))
        (append_left (items_over rows (word_of mid) fills.more)
        (in_until (sight rows old t) (parts_of rows old t) (first_of old t) (last_of old t)
        (part_of old g t)
        (held.walkable t inside).start (held.walkable t inside).spelled j n l))

    pub part_in_listing : (j : Item) → IsIn j (items_of_part rows mid g t) → IsIn j (listing rows mid t)
    part_in_listing j n =
        subst (IsIn j) (sym (now_listed rows old base heap held none laid g keeps moves after c mid slid t inside
        on))
        (append_right (items_in (until_place (parts_of rows old t) (part_of old g t)))
        (subst (IsIn j) (part_listed rows old base heap held none laid g keeps moves after c mid slid t inside
        on) n))

    -- an item over one of the pieces of the part
    pub piece_in_part : (x : Piece) → IsIn x fills.more
        → IsIn (item_at rows (word_of mid) x.place) (items_of_part rows mid g t)
    piece_in_part x n =
        subst (IsIn (item_at rows (word_of mid) x.place))
        (sym (part_listed rows old base heap held none laid g keeps moves after c mid slid t inside on))
        (IsIn-map (λ (p : Piece). item_at rows (word_of mid) p.place) n)

    pub free_in_part : (f : Piece) → IsIn f (free_of t)
        → IsIn (free_item f.place f.size) (items_of_part rows mid g t)
    free_in_part f n =
        subst (λ j. IsIn j (items_of_part rows mid g t))
        (sym (free_is rows old base heap held none laid g keeps moves after c mid slid t inside on f n))
        (piece_in_part f (fills.fresh_more f n))

    pub gone_in_part : (i : Item) (h : HasGone i)
        → IsIn (record { place = moved_by moves i.place; size = i.size }) fills.more
        → IsIn (item_there i) (items_of_part rows mid g t)
    gone_in_part i h n =
        let z = (standing rows old base heap held laid i h.listed).is.aligned in
        let spelled = carried_item rows old base heap held none laid g keeps moves after c mid slid i h.listed
        h.plug h.carried z in
        subst (λ j. IsIn j (items_of_part rows mid g t)) spelled.is
        (piece_in_part (record { place = moved_by moves i.place; size = i.size }) n)

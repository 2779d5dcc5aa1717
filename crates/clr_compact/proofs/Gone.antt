-- Which objects go with a plug: the marked ones of the parts. Where they land, and that no two land at one place.
use Rattle.std.proofs.Common.{◌≡◌, ℕ, ◌+◌, ◌<◌, ◌≤◌, inl, inr, Bool, true, false, List, length, sym, ap, subst, ◌∙◌}
use Rattle.std.proofs.Common.{arith}
use Rattle.std.proofs.lemmas.Bool.{both_ways, cases_order}
use Rattle.clr_types.specs.Rising.{IsIn}
use Rattle.clr_types.specs.Ranges.{Piece}
use Rattle.clr_types.specs.Segments.{Layout}
use Rattle.clr_types.specs.Types.{TypeRow}
use Rattle.clr_types.specs.declared.item.Item.{Item}
use Rattle.clr_types.proofs.SegmentFacts.{between-stands}
use Rattle.clr_heap.specs.View.{first_of, frame, heap_items, HeapView, IsHeap, no_rests, segment_at, word_of}
use Rattle.clr_heap.proofs.Staying.{segment_order}
use Rattle.clr_model.specs.Compaction.{Move, moved_by}
use Rattle.clr_model.specs.Lawful.{IsLaid}
use Rattle.clr_model.specs.Lookups.{object_size}
use Rattle.clr_model.specs.Machine.{Machine}
use Rattle.clr_model.proofs.Landings.{is_covered}
use Rattle.clr_model.proofs.MovedPlaces.{moved-is}
use Rattle.clr_view.specs.Marks.{has_mark}
use Rattle.clr_view.specs.View.{IsHeld, object_in}
use Rattle.clr_view.specs.Items.{is_object}
use Rattle.clr_view.specs.Memory.{TestsMarks}
use Rattle.clr_sweep.proofs.SurvivorsSwept.{seen}
use Rattle.clr_moves.specs.Objects.{is_in_parts}
use Rattle.clr_moves.specs.Moves.{age_of, AreMoves, IsInPart, move_at, plug_stop, room_end, start_of}
use Rattle.clr_moves.specs.Moves.{takes}
use Rattle.clr_moves.specs.declared.condemned.Condemned.{Condemned}
use Rattle.clr_moves.proofs.FilledParts.{FillsParts}
use Rattle.clr_moves.proofs.FromMachine.{number_of}
use Rattle.clr_moves.proofs.PartPlaces.{into_parts, out_of_parts}
use Rattle.clr_compact.specs.Slides.{HasSlid}
use Rattle.clr_compact.proofs.MemoryItems.{object_of, object_range, standing}
use Rattle.clr_compact.proofs.PartsSlid.{carried, IsCarried, refill}
use Rattle.clr_compact.proofs.Relisted.{HasGone}

module _ (rows : List TypeRow) (old : HeapView) (base : Machine) (heap : IsHeap old) (held : IsHeld rows old)
    (none : old.rests ≡ no_rests) (laid : IsLaid (seen rows old base)) (g : Condemned) (keeps : ℕ → Bool)
    (moves : List Move) (after : Layout) (c : FillsParts rows old base g keeps moves after) (mid : HeapView)
    (slid : HasSlid old mid g moves) (tests : TestsMarks rows old (age_of g) keeps) where
  abbrev m : Machine
  m = seen rows old base

  am : AreMoves old g moves
  am = c.are

  abbrev Gone : Item → Type 0
  Gone = HasGone rows old base heap held none laid g keeps moves after c mid slid

  abbrev Carried : ℕ → ℕ → ℕ → Type 0
  Carried = IsCarried rows old base heap held none laid g keeps moves after c

  -- an object of a part tells by its mark whether it is kept
  told : (i : Item) → IsIn i (heap_items rows old) → is_object i ≡ true → (t : ℕ) → IsInPart old g t i.place
      → first_of old t ≤ i.place → keeps i.place ≡ has_mark (word_of old i.place)
  told i listed object t into up =
      tests (object_in rows (word_of old) i) (object_of rows old base heap held laid i listed object)
      (c.age (segment_at old t) (c.among t into.in_range into.takes) i.place into.low up into.high)

  -- a marked object of a part goes
  pub goes_with : (i : Item) → IsIn i (heap_items rows old) → is_object i ≡ true → has_mark (word_of old i.place) ≡ true
      → is_in_parts old g i.place ≡ true → Gone i
  goes_with i listed object mark inside =
      let o = object_in rows (word_of old) i in
      let present = object_of rows old base heap held laid i listed object in
      let (t, into, up) = out_of_parts old g i.place inside in
      let s = segment_at old t in
      let stays : keeps i.place ≡ true = told i listed object t into up ∙ mark in
      let survives = c.landings.survives o present stays s (c.among t into.in_range into.takes)
      (between-stands s i.place up into.high) into.low in
      let size : object_size rows o ≡ i.size =
      ap (λ (p : Piece). p.size) (object_range rows old base heap held laid i listed) in
      elim (moved-is moves i.place) [
        | inr (uncovered, still) ↦
            absurd (is_covered m laid keeps c.segments (start_of (frame old) g) c.survive c.plugs moves c.landings o
            survives uncovered)
        | inl (v, j, cover, e) ↦
            let (k, is) = carried rows old base heap held none laid g keeps moves after c o present v j cover in
            record {
              listed = listed;
              object = object;
              kept = stays;
              plug = k;
              carried = subst (λ n. Carried i.place n k) size is;
            }
      ]

  -- a place of a plug is in a part
  pub record IsThere (place : ℕ) : Type 0 where
    pub segment : ℕ
    pub into : IsInPart old g segment place
    pub up : first_of old segment ≤ place

  plug_there : (k place : ℕ) → k < length moves → (move_at moves k).start ≤ place → place < plug_stop (move_at moves k)
      → IsThere place
  plug_there k place within low high =
      let v = am.each k within in
      let (t, starts) = c.from k within in
      let (first, room, z) = am.starts t starts.in_range starts.takes in
      let from_low = v.from_low in
      let from_high = v.from_high in
      let start_low = starts.low in
      let start_high = starts.high in
      let same : v.from ≡ t = elim (cases_order v.from t) [
        | inl e ↦ e
        | inr (inl less) ↦ let o = segment_order old v.from t heap less starts.in_range in absurd (omega arith)
        | inr (inr more) ↦ let o = segment_order old t v.from heap more v.from_in in absurd (omega arith)
      ] in
      let end : place < room_end old v.from = omega arith in
      record {
        segment = t;
        into = record {
          in_range = starts.in_range;
          takes = starts.takes;
          low = omega arith;
          high = subst (λ n. place < room_end old n) same end;
        };
        up = omega arith;
      }

  covered_there : (v : Move) (place : ℕ) → IsIn v moves → (v.start ≤ place) × (place < v.start + v.size) → IsThere place
  covered_there v place i (low, high) =
      let (k, l, same) = number_of moves v i in
      let start : v.start ≡ (move_at moves k).start = ap (λ (w : Move). w.start) same in
      let size : v.size ≡ (move_at moves k).size = ap (λ (w : Move). w.size) same in
      plug_there k place l (omega arith) (omega arith)

  -- an object that goes is a marked one of a part
  pub record WasThere (i : Item) : Type 0 where
    pub mark : has_mark (word_of old i.place) ≡ true
    pub inside : is_in_parts old g i.place ≡ true

  pub was_there : (i : Item) → Gone i → WasThere i
  was_there i h =
      let is = h.carried in
      let low = is.low in
      let high = is.high in
      let st = (standing rows old base heap held laid i h.listed).is in
      let size = st.least in
      let there = plug_there h.plug i.place is.within low (omega arith) in
      record {
        mark = sym (told i h.listed h.object there.segment there.into there.up) ∙ h.kept;
        inside = into_parts old g there.segment i.place there.into there.up;
      }

  -- an object of no part stays where it is
  pub unmoved : (i : Item) → IsIn i (heap_items rows old) → is_object i ≡ true
      → is_in_parts old g i.place ≡ false
      → moved_by moves i.place ≡ i.place
  unmoved i listed object away = elim (moved-is moves i.place) [
    | inr (uncovered, still) ↦ still
    | inl (v, j, cover, e) ↦
        let there = covered_there v i.place j cover in
        absurd (both_ways (is_in_parts old g i.place) away
        (into_parts old g there.segment i.place there.into there.up))
  ]

  -- ---- where it lands

  pub record LandsAt (i : Item) : Type 0 where
    pub segment : ℕ
    pub inside : segment < length old.segments
    pub on : takes g (segment_at old segment) ≡ true
    pub into : IsInPart old g segment (moved_by moves i.place)
    pub up : first_of old segment ≤ moved_by moves i.place
    pub filled : IsIn (record { place = moved_by moves i.place; size = i.size })
        (refill rows old base heap held none laid g keeps moves after c mid slid segment inside on).more

  pub lands_at : (i : Item) → Gone i → LandsAt i
  lands_at i h =
      let is = h.carried in
      let k = h.plug in
      let v = am.each k is.within in
      let into = v.into_in in
      let low = into.low in
      let end = v.into_high in
      let start = is.low in
      let high = is.high in
      let to = is.to in
      let st = (standing rows old base heap held laid i h.listed).is in
      let size = st.least in
      let (a, b, z) = am.starts v.into into.in_range into.takes in
      let s = segment_at old v.into in
      let p = moved_by moves i.place in
      let o = object_in rows (word_of old) i in
      let present = object_of rows old base heap held laid i h.listed h.object in
      let same : object_size rows o ≡ i.size =
      ap (λ (q : Piece). q.size) (object_range rows old base heap held laid i h.listed) in
      let fills = refill rows old base heap held none laid g keeps moves after c mid slid v.into into.in_range
      into.takes in
      record {
        segment = v.into;
        inside = into.in_range;
        on = into.takes;
        into = record { in_range = into.in_range; takes = into.takes; low = omega arith; high = omega arith };
        up = omega arith;
        filled = elim (fills.object_more o present h.kept (between-stands s p (omega arith) (omega arith))) [
          | inl (still, below) ↦ absurd (omega arith)
          | inr (there, above, apart) ↦ subst (λ n. IsIn (record { place = p; size = n }) fills.more) same there
        ];
      }

  -- ---- no two at one place

  pub land_apart : (i j : Item) → Gone i → Gone j → moved_by moves i.place ≡ moved_by moves j.place → i.place ≡ j.place
  land_apart i j hi hj e =
      let a = hi.carried in
      let b = hj.carried in
      let la = a.low in
      let lb = b.low in
      let ha = a.high in
      let hb = b.high in
      let ta = a.to in
      let tb = b.to in
      let si = (standing rows old base heap held laid i hi.listed).is in
      let sj = (standing rows old base heap held laid j hj.listed).is in
      let ni = si.least in
      let nj = sj.least in
      elim (cases_order hi.plug hj.plug) [
        | inl same ↦
            let start = ap (λ k. (move_at moves k).start) same in
            let to = ap (λ k. (move_at moves k).to) same in
            omega arith
        | inr (inl l) ↦ elim (am.follows hi.plug hj.plug l b.within)
            [ inl x ↦ absurd (omega arith) | inr x ↦ let y = x.0 in absurd (omega arith) ]
        | inr (inr l) ↦ elim (am.follows hj.plug hi.plug l a.within)
            [ inl x ↦ absurd (omega arith) | inr x ↦ let y = x.0 in absurd (omega arith) ]
      ]

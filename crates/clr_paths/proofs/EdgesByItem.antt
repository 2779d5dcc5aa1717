-- The edges of one object, by the words of its references.
use Rattle.std.proofs.Common.{◌≡◌, ◌≢◌, inl, inr, ℕ, ◌+◌, ◌^◌, ◌<◌, List, [], ◌∷◌, ◌++◌, arith, subst, sym, ◌∙◌}
use Rattle.clr_types.specs.Descriptors.{series_of}
use Rattle.clr_types.specs.Rising.{IsIn}
use Rattle.clr_types.specs.Types.{form_at}
use Rattle.clr_types.specs.declared.item.Item.{Item}
use Rattle.clr_heap.specs.Memories.{HasWord, memory_index}
use Rattle.clr_heap.specs.View.{word_of}
use Rattle.clr_model.specs.Reach.{SlotNames}
use Rattle.clr_view.specs.View.{objects_in}
use Rattle.clr_mark.specs.Markings.{item_references}
use Rattle.clr_mark.proofs.References.{no_references, reference_has, reference_index, reference_low, refers_from}
use Rattle.clr_mark.proofs.References.{refers_to}
use Rattle.clr_sos.specs.Reaching.{IsSound, Leads}
use Rattle.clr_sos.specs.declared.view.View.{View}
use Rattle.clr_sos.proofs.Adding.{IsWordAmong, word-back, word-none}
use Rattle.clr_paths.specs.Incoming.{AreEdges, HasListed, HasItem, IsSlotEdge}
use Rattle.clr_paths.specs.Numbers.{place_of}
use Rattle.clr_paths.specs.declared.incoming.Incoming.{Incoming}
use Rattle.clr_paths.proofs.EdgeLists.{listed-more, listed-on, listed-starts}

-- what the code asks to add the reference at an offset of an object
pub record CanAdd (v : View) (places : List ℕ) (from place offset : ℕ) : Type 0 where
  pub has : HasWord v.heap.now.memories (place + offset)
  pub segment : memory_index v.heap.now.memories place ≡ memory_index v.heap.now.memories (place + offset)
  pub fits : place + offset < 2 ^ 64
  pub leads : word_of v.heap.now (place + offset) ≢ 0
      → Leads v (place_of places from) (word_of v.heap.now (place + offset))

-- the object with a number has one of the words at these offsets as its edge
abbrev pub IsEdgeAmong : View → List ℕ → ℕ → ℕ → List ℕ → (f t : ℕ) → Type 0
IsEdgeAmong v places from place offsets f t =
    (f ≡ from) × IsWordAmong (word_of v.heap.now) place offsets (place_of places t)

module _ (v : View) (sound : IsSound v) (places : List ℕ) (from : ℕ) (i : Item) (is : HasItem v places from i) where
  -- each reference can be added
  pub can_add : (offset : ℕ) → IsIn offset (item_references v.types.now i) → CanAdd v places from i.place offset
  can_add offset l =
      let rows = v.types.now in
      let h = v.heap.now in
      let heap = sound.closed.heap in
      let held = sound.closed.held in
      let listed = is.stands.listed in
      record {
        has = reference_has rows h heap held i.place i listed is.stands.at offset l;
        segment = reference_index rows h heap held i.place i listed is.stands.at offset l;
        fits = reference_low rows h heap held i.place i listed is.stands.at offset l;
        leads = λ some.
            inl (subst (λ (p : ℕ). SlotNames (objects_in rows h) p (word_of h (i.place + offset))) is.place
            (refers_to rows h heap held i.place i is.stands offset l some));
      }

  -- no reference was added yet
  pub words-start : (old : Incoming) → AreEdges v places old
      → HasListed v places old old (IsEdgeAmong v places from i.place [])
  words-start old a = listed-starts v places old (IsEdgeAmong v places from i.place []) a
      (λ f t l w. word-none (word_of v.heap.now) i.place (place_of places t) w.1)

  -- one was added, where it isn't null
  pub words-more : (old now new : Incoming) (done : List ℕ) (offset target : ℕ)
      → HasListed v places old now (IsEdgeAmong v places from i.place done)
      → target ≡ word_of v.heap.now (i.place + offset)
      → HasListed v places now new (λ f t. (f ≡ from) × (0 < target) × (place_of places t ≡ target))
      → HasListed v places old new (IsEdgeAmong v places from i.place (done ++ offset ∷ []))
  words-more old now new done offset target before read more =
      listed-more v places old now new (IsEdgeAmong v places from i.place done)
      (λ f t. (f ≡ from) × (0 < target) × (place_of places t ≡ target))
      (IsEdgeAmong v places from i.place (done ++ offset ∷ [])) before more
      (λ f t l w. elim (word-back (word_of v.heap.now) i.place offset (place_of places t) done w.1) [
        | inl early ↦ inl (w.0, early)
        | inr last ↦ let some = w.1.not_null in inr (w.0, omega (arith, some, last, read), last ∙ sym read)
      ])

  -- WHERE ALL REFERENCES WERE ADDED, all that its slots refer to is listed
  pub words-all : (old new : Incoming) (done : List ℕ) → done ≡ item_references v.types.now i
      → HasListed v places old new (IsEdgeAmong v places from i.place done)
      → HasListed v places old new (λ f t. (f ≡ from) × IsSlotEdge v places from t)
  words-all old new done all added =
      listed-on v places old new (IsEdgeAmong v places from i.place done)
      (λ f t. (f ≡ from) × IsSlotEdge v places from t) added
      (λ f t l w.
      let r = refers_from v.types.now v.heap.now sound.closed.heap sound.closed.held i.place i is.stands
      (place_of places t)
      (subst (λ (p : ℕ). SlotNames (objects_in v.types.now v.heap.now) p (place_of places t)) (sym is.place) w.1) in (
        w.0,
        record {
          offset = r.offset;
          listed = subst (λ (os : List ℕ). IsIn r.offset os) (sym all) r.listed;
          is = r.holds;
          not_null = r.not_null;
        },
      ))

  -- its slots refer to nothing, where its type has no references
  pub words-none : (old : Incoming) → AreEdges v places old → series_of (form_at v.types.now i.type_id.0) ≡ []
      → HasListed v places old old (λ f t. (f ≡ from) × IsSlotEdge v places from t)
  words-none old a none =
      words-all old old [] (sym (no_references (form_at v.types.now i.type_id.0) i.len none)) (words-start old a)

-- What the slots of one entry name.
use Rattle.std.proofs.Common.{◌≡◌, ◌≢◌, inl, ℕ, ◌+◌, ◌^◌, ◌<◌, List, [], length, get_or, ap, sym, ◌∙◌}
use Rattle.std.proofs.Common.{subst, arith}
use Rattle.std.proofs.lemmas.List.{get_or_default}
use Rattle.clr_types.specs.Descriptors.{series_of}
use Rattle.clr_types.specs.Rising.{IsIn}
use Rattle.clr_types.specs.Types.{form_at}
use Rattle.clr_types.specs.declared.item.Item.{Item}
use Rattle.clr_heap.specs.Memories.{HasWord, memory_index}
use Rattle.clr_heap.specs.View.{word_of}
use Rattle.clr_model.specs.Reach.{SlotNames}
use Rattle.clr_view.specs.SlotValues.{IsObjectAt}
use Rattle.clr_view.specs.View.{objects_in}
use Rattle.clr_mark.specs.Markings.{item_references}
use Rattle.clr_mark.proofs.References.{no_references, reference_has, reference_index, reference_low, refers_from}
use Rattle.clr_mark.proofs.References.{refers_to}
use Rattle.clr_sos.specs.Reaching.{HasAdded, HasGrown, IsItemOf, IsObjectOf, IsOrigin, IsSearch, IsSound}
use Rattle.clr_sos.specs.Reaching.{no_entry, place_at}
use Rattle.clr_sos.specs.declared.reach.FoundObject.{FoundObject}
use Rattle.clr_sos.specs.declared.reach.Origin.TheVariants.{Through}
use Rattle.clr_sos.specs.declared.view.View.{View}
use Rattle.clr_sos.proofs.Adding.{added-on, added-starts, IsWordAmong, word-none}

-- an entry that was read is that of its index
pub place-read : (es : List FoundObject) (i : ℕ) (e : FoundObject) → i < length es → e ≡ get_or es i e
    → e.place ≡ place_at es i
place-read es i e l read = ap (λ (x : FoundObject). x.place) (read ∙ get_or_default es i e no_entry l)

-- the object at its place has its item
pub item-read : (v : View) (es : List FoundObject) (n place : ℕ) (i : Item) → n < length es → place ≡ place_at es n
    → IsObjectAt v.types.now v.heap.now place i → IsItemOf v es n i
item-read v es n place i l own at = record {
  below = l;
  place = at.at ∙ own;
  stands = subst (λ (p : ℕ). IsObjectAt v.types.now v.heap.now p i) (sym at.at) at;
}

-- what the code asks to follow the reference at an offset of entry n of the old ones, when some were added since
pub record CanMeet (v : View) (now : List FoundObject) (n place offset : ℕ) : Type 0 where
  pub has : HasWord v.heap.now.memories (place + offset)
  pub segment : memory_index v.heap.now.memories place ≡ memory_index v.heap.now.memories (place + offset)
  pub fits : place + offset < 2 ^ 64
  pub object : word_of v.heap.now (place + offset) ≢ 0 → IsObjectOf v (word_of v.heap.now (place + offset))
  pub origin : word_of v.heap.now (place + offset) ≢ 0
      → IsOrigin v now (length now) (word_of v.heap.now (place + offset)) (Through n)

module _ (v : View) (sound : IsSound v) (old : List FoundObject) (n : ℕ) (i : Item) (is : IsItemOf v old n i) where
  abbrev names : ℕ → ℕ → Type 0
  names = SlotNames (objects_in v.types.now v.heap.now)

  -- the words at these offsets
  abbrev among : List ℕ → ℕ → Type 0
  among = IsWordAmong (word_of v.heap.now) i.place

  -- its slots name nothing, where its type has no references
  pub slots-none : (seen : List (List ℕ)) → IsSearch v seen old → series_of (form_at v.types.now i.type_id.0) ≡ []
      → HasAdded v old seen old (names (place_at old n))
  slots-none seen s none = added-starts v seen old (names (place_at old n)) s (λ y named.
      let f = refers_from v.types.now v.heap.now sound.closed.heap sound.closed.held i.place i is.stands y
      (subst (λ (p : ℕ). names p y) (sym is.place) named) in
      elim (subst (λ (os : List ℕ). IsIn f.offset os) (no_references (form_at v.types.now i.type_id.0) i.len none)
      f.listed) [ ])

  -- no reference was followed yet
  pub slots-start : (seen : List (List ℕ)) → IsSearch v seen old → HasAdded v old seen old (among [])
  slots-start seen s = added-starts v seen old (among []) s (λ x w. word-none (word_of v.heap.now) i.place x w)

  -- WHERE ALL REFERENCES WERE FOLLOWED, all that its slots name was found
  pub slots-all : (seen : List (List ℕ)) (now : List FoundObject) (done : List ℕ) → done ≡ item_references v.types.now i
      → HasAdded v old seen now (among done) → HasAdded v old seen now (names (place_at old n))
  slots-all seen now done all added = added-on v old now seen (among done) added (names (place_at old n)) (λ y named.
      let f = refers_from v.types.now v.heap.now sound.closed.heap sound.closed.held i.place i is.stands y
      (subst (λ (p : ℕ). names p y) (sym is.place) named) in
      record {
        offset = f.offset;
        listed = subst (λ (os : List ℕ). IsIn f.offset os) (sym all) f.listed;
        is = f.holds;
        not_null = f.not_null;
      })

  -- each reference can be followed
  pub can_meet : (offset : ℕ) → IsIn offset (item_references v.types.now i) → (now : List FoundObject)
      → HasGrown old now
      → CanMeet v now n i.place offset
  can_meet offset l now g =
      let rows = v.types.now in
      let h = v.heap.now in
      let heap = sound.closed.heap in
      let held = sound.closed.held in
      let listed = is.stands.listed in
      let below = is.below in
      let longer = g.longer in
      let name : word_of h (i.place + offset) ≢ 0 → names i.place (word_of h (i.place + offset)) =
      λ some. refers_to rows h heap held i.place i is.stands offset l some in
      let same : i.place ≡ place_at now n = is.place ∙ sym (ap (λ (e : FoundObject). e.place) (g.same n below)) in
      record {
        has = reference_has rows h heap held i.place i listed is.stands.at offset l;
        segment = reference_index rows h heap held i.place i listed is.stands.at offset l;
        fits = reference_low rows h heap held i.place i listed is.stands.at offset l;
        object = λ some. sound.closed.named i.place (word_of h (i.place + offset)) (name some);
        origin = λ some. (
          omega (arith, below, longer),
          inl (subst (λ (p : ℕ). names p (word_of h (i.place + offset))) same (name some)),
        );
      }

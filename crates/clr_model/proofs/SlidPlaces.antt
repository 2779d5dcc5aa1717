-- Where a slide of the large heap takes objects, and what lies behind its free items.
use Rattle.std.proofs.Common.{◌≡◌, ℕ, ◌<◌, ◌≤◌, ◌⊎◌, inl, inr, List, refl, sym, ap, subst, ◌∙◌, arith}
use Rattle.std.proofs.Common.{Bool, true, false, Option, Some, None, ◌&&◌, nat_le}
use Rattle.std.proofs.lemmas.Bool.{and_parts, cases_order, both_ways}
use Rattle.std.specs.Option.{option_map}
use Rattle.clr_types.specs.Rising.{IsIn}
use Rattle.clr_types.specs.Ranges.{Piece, piece_end}
use Rattle.clr_types.specs.declared.segment.SegKind.TheVariants.{Large}
use Rattle.clr_types.specs.declared.segment.SegKind.{SegKind}
use Rattle.clr_types.specs.declared.segment.SegInfo.{SegInfo}
use Rattle.clr_types.specs.Segments.{Layout, stands_in, same_kind, is_small_or_ephemeral, generation}
use Rattle.clr_types.proofs.ChangedLists.{IsIn-map}
use Rattle.clr_types.proofs.ListMembers.{any-in}
use Rattle.clr_types.proofs.PieceGaps.{IsGapped}
use Rattle.clr_model.specs.Machine.{Machine, Object}
use Rattle.clr_model.specs.Lookups.{object_named, is_pinned}
use Rattle.clr_model.specs.Sweep.{Survivor, has_condemned_part, part_start, is_in_part}
use Rattle.clr_model.specs.Compaction.{Plug, plug_end, Move, moved_by, survivors_in}
use Rattle.clr_model.specs.Slide.{large_segments, large_plugs, slid_object, slid_layout, slid_free}
use Rattle.clr_model.specs.Slide.{SlidesLarge, all_survivors}
use Rattle.clr_model.specs.Lawful.{IsLawful, IsLaid}
use Rattle.clr_model.specs.Laws.{HasPlace, HasGeneration, IsSlidTo}
use Rattle.clr_model.proofs.CollectedObjects.{found_by}
use Rattle.clr_model.proofs.CollectedLayout.{large-either, large-not_small}
use Rattle.clr_model.proofs.PlugsOf.{survivor_end}
use Rattle.clr_model.proofs.PlugLanding.{IsBeforePin}
use Rattle.clr_model.proofs.MovedPlaces.{plug-over, survivor-under}
use Rattle.clr_model.proofs.Landings.{none_higher, pinned_still}
use Rattle.clr_model.proofs.LargeSurvivors.{IsLargeSurvivor, large_survivor-is, is-large, large_plug-is}
use Rattle.clr_model.proofs.LargeSurvivors.{are_large-plugs}
use Rattle.clr_model.proofs.SlidPlugs.{slid_free-before_pin}
use Rattle.clr_model.proofs.SlidLaid.{landings, other_still, large_free, age_stays}
use Rattle.clr_model.proofs.SlidLawful.{named-slid}

module _ (m : Machine) (h : IsLaid m) (moves : List Move) (new : Machine) (c : SlidesLarge m moves new) where
  abbrev parts : List SegInfo
  parts = large_segments m.layout

  abbrev plugs : List Plug
  plugs = large_plugs m.layout (all_survivors m)

  -- the object of a name afterwards, by the object of that name before
  pub record WasObject (name : ℕ) (o : Object) : Type 0 where
    pub old : Object
    pub present : IsIn old m.objects
    pub named : old.name ≡ name
    pub found : object_named m.objects name ≡ Some old
    pub is : o ≡ slid_object moves old

  pub was_object : (name : ℕ) (o : Object) → object_named new.objects name ≡ Some o → WasObject name o
  was_object name o e =
      go (object_named m.objects name) refl
      (sym (named-slid moves m.objects name) ∙ ap (λ (w : Machine). object_named w.objects name) (sym c.state) ∙ e)
    where
      same : (a b : Object) → Some a ≡ Some b → a ≡ b
      same a b f = cc

      go : (r : Option Object) → object_named m.objects name ≡ r → option_map (slid_object moves) r ≡ Some o
          → WasObject name o
      go None f g = absurd cc
      go (Some q) f g =
          let (i, n) = found_by (λ (o : Object). o.name) name m.objects q f in
          record { old = q; present = i; named = n; found = f; is = sym (same (slid_object moves q) o g) }

  one : (name : ℕ) (a b : Object) → object_named m.objects name ≡ Some a → object_named m.objects name ≡ Some b → a ≡ b
  one name a b e f = same (sym e ∙ f)
    where
      same : Some a ≡ Some b → a ≡ b
      same g = cc

  not-large : (k : SegKind) → is_small_or_ephemeral k ≡ true → (b : Bool) → same_kind Large k ≡ b → b ≡ false
  not-large k small true e = absurd (both_ways (is_small_or_ephemeral k) (large-not_small k (large-either k e)) small)
  not-large k small false e = refl

  pub slid_to : (name before after : ℕ) → HasPlace m name before → HasPlace new name after
      → IsSlidTo m (is_pinned m name) before after
  slid_to name before after (a, e, at) (b, f, to) = go (was_object name b f)
    where
      go : WasObject name b → IsSlidTo m (is_pinned m name) before after
      go w =
          let same : w.old ≡ a = one name w.old a w.found e in
          let was : w.old.place ≡ before = ap (λ (o : Object). o.place) same ∙ at in
          let now : moved_by moves w.old.place ≡ after = sym (ap (λ (o : Object). o.place) w.is) ∙ to in
          let down : moved_by moves w.old.place ≤ w.old.place =
          none_higher m h (λ name. true) _ _ moves (landings m h moves c.layout c.slid).going
          w.old.place in
          record {
            lower = omega arith;
            pinned_stays = λ pinned.
                let still : moved_by moves w.old.place ≡ w.old.place =
                pinned_still m h (λ name. true) _ _ moves (landings m h moves c.layout c.slid).going w.old w.present
                (ap (is_pinned m) w.named ∙ pinned) in
                omega arith;
            small_stays = λ inside.
                let (s, i, t) = any-in (λ s. is_small_or_ephemeral s.kind && stands_in s before) m.layout.segments
                inside in
                let (kind, stands) = and_parts (is_small_or_ephemeral s.kind) (stands_in s before) t in
                let still : moved_by moves w.old.place ≡ w.old.place =
                other_still m h moves c.layout c.slid s i
                (not-large s.kind kind (same_kind Large s.kind) refl) w.old w.present
                (inl (subst (λ x. stands_in s x ≡ true) (sym was) stands)) in
                omega arith;
          }

  pub slid_age : (name before after : ℕ) → HasGeneration m name before → HasGeneration new name after → after ≡ before
  slid_age name before after (a, e, at) (b, f, to) = go (was_object name b f)
    where
      laid : new.layout ≡ slid_layout m.layout moves
      laid = ap (λ (w : Machine). w.layout) c.state ∙ c.slid.laid

      go : WasObject name b → after ≡ before
      go w =
          let same : w.old ≡ a = one name w.old a w.found e in
          sym to ∙ ap (λ (o : Object). generation new.layout o.place) w.is
          ∙ ap (λ (l : Layout). generation l (moved_by moves w.old.place)) laid
          ∙ age_stays m h moves c.layout c.slid w.old w.present
          ∙ ap (λ (o : Object). generation m.layout o.place) same ∙ at

  -- ---- free items

  abbrev large : List Survivor
  large = survivors_in (same_kind Large) m.layout (all_survivors m)

  -- a plug begins with one of its objects
  begins_with : (p : Plug) → IsIn p plugs
      → (k : Survivor) × IsIn k large × (k.place ≡ p.start) × (k.pinned ≡ p.pinned)
  begins_with p i =
      let (z, z') = (large_plug-is m h (λ name. true) p i).size in
      let (w, n, low, high, pin, age) = survivor-under large p i p.start (omega arith) (omega arith) in
      let (q, k, x, y) = plug-over large w n in
      (w, n, at w q k low high x y (cases_order q.start p.start), pin)
    where
      at : (w : Survivor) (q : Plug) → IsIn q plugs → w.place ≤ p.start → p.start < survivor_end w → q.start ≤ w.place
          → survivor_end w ≤ plug_end q → (q.start ≡ p.start) ⊎ ((q.start < p.start) ⊎ (p.start < q.start))
          → w.place ≡ p.start
      at w q k low high x y (inl e) = omega arith
      at w q k low high x y (inr (inl l)) =
          let far : IsGapped (plug_end q) p.start = (are_large-plugs m h (λ name. true)).apart q p k i l in
          absurd (omega arith)
      at w q k low high x y (inr (inr l)) = absurd (omega arith)

  -- a free item of a large segment lies right before a pinned object
  pub before_pin_in : (s : SegInfo) → IsIn s m.layout.segments → same_kind Large s.kind ≡ true → (p : Piece)
      → stands_in s p.place ≡ true → IsIn p new.layout.free
      → (o : Object) × IsIn o new.objects × (o.place ≡ piece_end p) × (is_pinned m o.name ≡ true)
  before_pin_in s known kind p stands i =
      let fresh : IsIn p (slid_free moves s) =
      large_free m h moves c.layout c.slid s known kind p stands
      (subst (IsIn p) (ap (λ (w : Machine). w.layout.free) c.state ∙ ap (λ (l : Layout). l.free) c.slid.laid) i) in
      behind (slid_free-before_pin m h (λ name. true) moves c.layout c.slid s (is-large m h s known kind) p fresh)
    where
      behind : IsBeforePin plugs p
          → (o : Object) × IsIn o new.objects × (o.place ≡ piece_end p) × (is_pinned m o.name ≡ true)
      behind b =
          let (k, n, start, pin) = begins_with b.plug b.known in
          let is : IsLargeSurvivor m h (λ name. true) k = large_survivor-is m h (λ name. true) k n in
          let pinned : is_pinned m is.object.name ≡ true =
          sym (ap (λ (u : Survivor). u.pinned) is.is) ∙ pin ∙ b.pinned in
          let still : moved_by moves is.object.place ≡ is.object.place =
          pinned_still m h (λ name. true) _ _ moves (landings m h moves c.layout c.slid).going
          is.object is.present pinned in
          let place : k.place ≡ is.object.place = ap (λ (u : Survivor). u.place) is.is in
          let end : piece_end p ≡ b.plug.start = b.ends in (
            slid_object moves is.object,
            subst (λ (w : Machine). IsIn (slid_object moves is.object) w.objects) (sym c.state)
                (IsIn-map (slid_object moves) is.present),
            omega arith,
            pinned,
          )

  slid_before_pin : (p : Piece) → IsIn p new.layout.free → is_in_part (same_kind Large) m.layout 2 p ≡ true
      → (o : Object) × IsIn o new.objects × (o.place ≡ piece_end p) × (is_pinned m o.name ≡ true)
  slid_before_pin p i part =
      let (s, known, t) = any-in (λ s. same_kind Large s.kind &&
      (has_condemned_part 2 s && (stands_in s p.place && nat_le (part_start m.layout 2 s) p.place)))
      m.layout.segments part in
      let (kind, rest) = and_parts (same_kind Large s.kind)
      (has_condemned_part 2 s && (stands_in s p.place && nat_le (part_start m.layout 2 s) p.place)) t in
      let (condemned, at) = and_parts (has_condemned_part 2 s)
      (stands_in s p.place && nat_le (part_start m.layout 2 s) p.place) rest in
      let (stands, above) = and_parts (stands_in s p.place) (nat_le (part_start m.layout 2 s) p.place) at in
      before_pin_in s known kind p stands i

pub slid_places : (m : Machine) (moves : List Move) (new : Machine) → IsLawful m → SlidesLarge m moves new
    → (name before after : ℕ) → HasPlace m name before → HasPlace new name after
    → IsSlidTo m (is_pinned m name) before after
slid_places m moves new h c = slid_to m h.laid moves new c

pub slid_ages : (m : Machine) (moves : List Move) (new : Machine) → IsLawful m → SlidesLarge m moves new
    → (name before after : ℕ) → HasGeneration m name before → HasGeneration new name after → after ≡ before
slid_ages m moves new h c = slid_age m h.laid moves new c

pub slid_free_before_pins : (m : Machine) (moves : List Move) (new : Machine) → IsLawful m → SlidesLarge m moves new
    → (p : Piece) → IsIn p new.layout.free → is_in_part (same_kind Large) m.layout 2 p ≡ true
    → (o : Object) × IsIn o new.objects × (o.place ≡ piece_end p) × (is_pinned m o.name ≡ true)
slid_free_before_pins m moves new h c = slid_before_pin m h.laid moves new c

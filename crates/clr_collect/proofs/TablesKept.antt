-- The laws of cards and bricks hold on where objects keep places, sizes and slots.
use Rattle.std.proofs.Common.{◌≡◌, ◌↔◌, inl, inr, ℕ, ◌+◌, ◌*◌, ◌/◌, ◌<◌, Bool, List, map, ap, sym, ◌∙◌}
use Rattle.std.proofs.Common.{subst, nat_le, nat_lt, ◌||◌}
use Rattle.std.specs.Prelude.{ℤ, slice_get, Some, Option}
use Rattle.clr_types.specs.Rising.{IsIn}
use Rattle.clr_types.specs.Segments.{generation, Layout}
use Rattle.clr_types.specs.Types.{form_at, slot_offset, TypeRow}
use Rattle.clr_types.specs.declared.segment.SegInfo.{SegInfo}
use Rattle.clr_types.proofs.ChangedLists.{IsIn-map}
use Rattle.clr_types.proofs.ListMembers.{from-map}
use Rattle.clr_bricks.specs.Bricks.{entry_at}
use Rattle.clr_covers.specs.Covers.{CoverView, spans}
use Rattle.clr_heap.specs.View.{frame, HeapView}
use Rattle.clr_model.specs.Lookups.{object_size}
use Rattle.clr_model.specs.Machine.{Object, ref, Value}
use Rattle.clr_view.specs.Memory.{is_left_name}
use Rattle.clr_view.specs.View.{HasGivenUp, layout_in, objects_in}
use Rattle.clr_generations.specs.Laws.{AreEntered, LeadsBrick, LeadsToNearest, may_lead, NamesYounger}
use Rattle.clr_generations.specs.Laws.{ReachesInto, Stands}
use Rattle.clr_generations.specs.Tables.{AreTablesOf, units_of}
use Rattle.clr_collect.specs.Collecting.{HasUnflagged, unflagged}

-- ---- layouts of the same generations

module _ (rows : List TypeRow) (old new : Layout) (ages : (p : ℕ) → generation new p ≡ generation old p)
    (objects : List Object) where
  pub younger_aged : (a : ℕ) → NamesYounger rows new objects a → NamesYounger rows old objects a
  younger_aged a n = record {
    object = n.object;
    present = n.present;
    slot = n.slot;
    target = n.target;
    target_present = n.target_present;
    named = n.named;
    address = n.address;
    younger =
        subst (λ (e : ℕ). e < generation old n.object.place) (ages n.target.place)
        (subst (λ (e : ℕ). generation new n.target.place < e) (ages n.object.place) n.younger);
  }

  pub reaches_aged : (brick : ℕ) → ReachesInto rows new objects brick → ReachesInto rows old objects brick
  reaches_aged brick r = record {
    object = r.object;
    present = r.present;
    old = subst (λ (e : ℕ). 0 < e) (ages r.object.place) r.old;
    from = r.from;
    to = r.to;
  }

-- ---- bricks know objects by where they stand and how far they reach

module _ (rows : List TypeRow) (before after : Layout) (ages : (p : ℕ) → generation after p ≡ generation before p)
    (start0 : after.start0 ≡ before.start0) (old new : List Object) (stands : (p : ℕ) → Stands new p ↔ Stands old p)
  where
    same_may : (place : ℕ) → may_lead after place ≡ may_lead before place
    same_may place = λ k. nat_lt 0 (ages place k) || nat_le (start0 k) (4096 * (place / 4096))

    pub leads_alike : (brick place : ℕ) → LeadsBrick before old brick place → LeadsBrick after new brick place
    leads_alike brick place l = record {
      stands = (stands place).1 l.stands;
      inside = l.inside;
      first = λ other there at. l.first other ((stands other).0 there) at;
      may = same_may place ∙ l.may;
    }

    nearest_alike : (entry : ℕ → ℤ) (brick : ℕ) → LeadsToNearest before old entry brick
        → LeadsToNearest after new entry brick
    nearest_alike entry brick n = record {
      below = n.below;
      lower = n.lower;
      place = n.place;
      leader = leads_alike n.below n.place n.leader;
      count = n.count;
      path = n.path;
      nearest = λ other there. n.nearest other ((stands other).0 there);
    }

    pub entered_alike : ((brick : ℕ) → ReachesInto rows after new brick → ReachesInto rows before old brick)
        → (entry : ℕ → ℤ) (s : SegInfo) → AreEntered rows before old entry s → AreEntered rows after new entry s
    entered_alike reaches entry s e = record {
      named = λ brick offset of is. leads_alike brick (4096 * brick + offset) (e.named brick offset of is);
      starts = λ place there inside may. e.starts place ((stands place).0 there) inside
          (sym (same_may place) ∙ may);
      reached = λ brick of r. elim (e.reached brick of (reaches brick r)) [
        | inl root ↦ inl root
        | inr leads ↦ inr (nearest_alike entry brick leads)
      ];
    }

-- ---- where flags changed

module _ (rows : List TypeRow) (layout : Layout) (objects : List Object) (left : ℕ → Bool) (entries : List ℕ) where
  abbrev change : Object → Object
  change = unflagged left entries

  pub younger-was : (a : ℕ) → NamesYounger rows layout (map change objects) a → NamesYounger rows layout objects a
  younger-was a n =
      let (o, same, i) = from-map change n.object objects n.present in
      let (q, like, j) = from-map change n.target objects n.target_present in
      record {
        object = o;
        present = i;
        slot = n.slot;
        target = q;
        target_present = j;
        named =
            subst (λ (x : Object). slice_get x.slots n.slot ≡ Some (ref q.name)) same
            (n.named ∙ ap (λ (x : Object). some (ref x.name)) like);
        address = n.address ∙ ap (λ (x : Object). x.place + slot_offset (form_at rows x.type) n.slot) same;
        younger =
            subst (λ (x : Object). generation layout q.place < generation layout x.place) same
            (subst (λ (x : Object). generation layout x.place < generation layout n.object.place) like n.younger);
      }
    where
      some : Value → Option Value
      some v = Some v

  pub stands-unflagged : (p : ℕ) → Stands (map change objects) p ↔ Stands objects p
  stands-unflagged p = (
    λ s. let (o, i, at) = s in
        let (q, same, j) = from-map change o objects i in
        (q, j, sym (ap (λ (x : Object). x.place) same) ∙ at),
    λ s. let (o, i, at) = s in (change o, IsIn-map change i, at),
  )

  pub reaches-was : (brick : ℕ) → ReachesInto rows layout (map change objects) brick
      → ReachesInto rows layout objects brick
  reaches-was brick r =
      let (o, same, i) = from-map change r.object objects r.present in
      record {
        object = o;
        present = i;
        old = subst (λ (x : Object). 0 < generation layout x.place) same r.old;
        from = subst (λ (x : Object). x.place / 4096 < brick) same r.from;
        to = subst (λ (x : Object). 4096 * brick < x.place + object_size rows x) same r.to;
      }

-- ---- in heaps

module _ (rows : List TypeRow) (old new : HeapView) (cards : List (CoverView ℕ)) (bricks : List (CoverView ℤ))
    (t : AreTablesOf rows old cards bricks) (segments : new.segments ≡ old.segments)
    (ages : (p : ℕ) → generation (frame new) p ≡ generation (frame old) p) (start0 : new.start0 ≡ old.start0)
  where
    -- the tables over objects in place of the heap's
    kept : (objects : List Object)
        → ((a : ℕ) → NamesYounger rows (frame old) objects a → NamesYounger rows (frame old) (objects_in rows old) a)
        → ((p : ℕ) → Stands objects p ↔ Stands (objects_in rows old) p)
        → ((brick : ℕ) → ReachesInto rows (frame old) objects brick
        → ReachesInto rows (frame old) (objects_in rows old) brick)
        → objects_in rows new ≡ objects → AreTablesOf rows new cards bricks
    kept objects younger stands reaches is = record {
      cards = subst (λ (ss : List SegInfo). spans cards ≡ map (units_of 2048) ss) (sym segments) t.cards;
      bricks = subst (λ (ss : List SegInfo). spans bricks ≡ map (units_of 4096) ss) (sym segments) t.bricks;
      card_law = λ a n. t.card_law a (younger a (younger_aged rows (frame old) (frame new) ages objects a
          (subst (λ (os : List Object). NamesYounger rows (frame new) os a) is n)));
      brick_law = λ s i. subst (λ (os : List Object). AreEntered rows (frame new) os (entry_at bricks) s) (sym is)
          (entered_alike rows (frame old) (frame new) ages start0 (objects_in rows old) objects stands
          (λ brick r. reaches brick (reaches_aged rows (frame old) (frame new) ages objects brick r))
          (entry_at bricks) s
          (t.brick_law s (subst (λ (ss : List SegInfo). IsIn s ss) segments i)));
    }

    -- where objects stay
    pub tables_stay : objects_in rows new ≡ objects_in rows old → AreTablesOf rows new cards bricks
    tables_stay = kept (objects_in rows old) (λ a n. n) (λ p. (λ s. s, λ s. s)) (λ brick r. r)

    -- where flags changed
    pub tables_unflagged : (left : ℕ → Bool) (entries : List ℕ)
        → objects_in rows new ≡ map (unflagged left entries) (objects_in rows old) → AreTablesOf rows new cards bricks
    tables_unflagged left entries =
        kept (map (unflagged left entries) (objects_in rows old))
        (younger-was rows (frame old) (objects_in rows old) left entries)
        (stands-unflagged rows (frame old) (objects_in rows old) left entries)
        (reaches-was rows (frame old) (objects_in rows old) left entries)

module _ (rows : List TypeRow) (old new : HeapView) (cards : List (CoverView ℕ)) (bricks : List (CoverView ℤ))
    (t : AreTablesOf rows old cards bricks) where
  -- contexts that are given up change neither table
  pub tables_given_up : HasGivenUp rows old new → AreTablesOf rows new cards bricks
  tables_given_up g =
      tables_stay rows old new cards bricks t (ap (λ (l : Layout). l.segments) g.layout)
      (λ p. ap (λ (l : Layout). generation l p) g.layout) (ap (λ (l : Layout). l.start0) g.layout) g.objects

  -- nor do marks
  pub tables_remarked : objects_in rows new ≡ objects_in rows old → layout_in rows new ≡ layout_in rows old
      → AreTablesOf rows new cards bricks
  tables_remarked objects layout =
      tables_stay rows old new cards bricks t (ap (λ (l : Layout). l.segments) layout)
      (λ p. ap (λ (l : Layout). generation l p) layout) (ap (λ (l : Layout). l.start0) layout) objects

  -- nor flags that are cleared
  pub tables_flagged : (g : ℕ) (entries : List ℕ) → HasUnflagged rows old new g entries
      → AreTablesOf rows new cards bricks
  tables_flagged g entries u =
      tables_unflagged rows old new cards bricks t (ap (λ (l : Layout). l.segments) u.layout)
      (λ p. ap (λ (l : Layout). generation l p) u.layout) (ap (λ (l : Layout). l.start0) u.layout)
      (is_left_name rows old g) entries u.objects

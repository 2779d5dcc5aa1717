-- Between the two steps of a fitting objects may get other names: what is compacted then is the same.
use Rattle.std.proofs.Common.{◌≡◌, ℕ, List, [], ◌++◌, map, sym, ap, subst, ◌∙◌, Bool, ◌&&◌, filter, nat_le}
use Rattle.std.proofs.lemmas.Bool.{and_right}
use Rattle.std.proofs.lemmas.List.{append-nil}
use Rattle.std.proofs.lemmas.List.Elements.{filter-append}
use Rattle.clr_types.specs.Rising.{IsIn, sorted_by}
use Rattle.clr_types.specs.Segments.{Layout, generation, rest_pieces}
use Rattle.clr_types.proofs.ChangedLists.{out_of_filter}
use Rattle.clr_types.proofs.ListMembers.{distinct_filter, distinct_map, filter-map, filter-on, map-map, map-on}
use Rattle.clr_types.proofs.Shuffles.{shuffled-filter, shuffled-map, shuffled-sorts}
use Rattle.clr_types.proofs.SortedLists.{IsDistinctBy}
use Rattle.clr_model.specs.Machine.{Machine, Object}
use Rattle.clr_model.specs.Lookups.{object_size}
use Rattle.clr_model.specs.Lawful.{IsLaid}
use Rattle.clr_model.specs.Sweep.{base_at, is_condemned, Survivor, survivor, survivors}
use Rattle.clr_model.specs.Compaction.{IsCompacted, Move}
use Rattle.clr_model.specs.Fitting.{IsFitted}
use Rattle.clr_model.proofs.LawfulPieces.{places-distinct}
use Rattle.clr_fitting.specs.Laws.{Compacts}
use Rattle.clr_fitting.specs.Steps.{fit_in, fitted, IsSeenAs}
use Rattle.clr_fitting.proofs.AlikeLayouts.{none-left, same-compaction, same-generation}
use Rattle.clr_fitting.proofs.TwoSteps.{stays_laid, two_steps}

module _ (m : Machine) (kept : ℕ → Bool) (seen : Machine) (left : ℕ → Bool) (s : IsSeenAs m kept seen left)
    (g : ℕ) where
  abbrev stays : Object → Bool
  stays o = is_condemned m g o && kept o.name

  abbrev stays-seen : Object → Bool
  stays-seen o = is_condemned seen g o && left o.name

  same-size : (o : Object) → object_size seen.types (s.shown o) ≡ object_size m.types o
  same-size o =
      let types = s.types in let type = s.type o in let len = s.len o in
      λ i. object_size (types i) (record o { type = type i; len = len i })

  same-age : (o : Object) → generation seen.layout (s.shown o).place ≡ generation m.layout o.place
  same-age o = same-generation m.layout seen.layout s.layout (s.shown o).place ∙ ap (generation m.layout) (s.place o)

  same-survivor : (o : Object) → IsIn o m.objects → survivor seen (s.shown o) ≡ survivor m o
  same-survivor o i =
      let size = same-size o in let place = s.place o in let pinned = s.pinned o i in
      let segments = s.layout.segments in let age = same-age o in
      λ k. record {
        place = place k;
        size = size k;
        segment = base_at (segments k) (place k);
        generation = age k;
        pinned = pinned k;
      }

  same-test : (o : Object) → IsIn o m.objects → stays-seen (s.shown o) ≡ stays o
  same-test o i =
      let age = same-age o in let tested = s.tested o i in λ k. nat_le (age k) g && tested k

  -- what is there besides stays nowhere
  pub none-more : filter stays-seen (map s.shown m.objects ++ s.more) ≡ filter stays-seen (map s.shown m.objects)
  none-more =
      filter-append stays-seen (map s.shown m.objects) s.more
      ∙ ap (λ os. filter stays-seen (map s.shown m.objects) ++ os)
      (none-left stays-seen s.more (λ o i. and_right (is_condemned seen g o) (left o.name) (s.lost o i)))
      ∙ append-nil (filter stays-seen (map s.shown m.objects))

  -- the same survive
  pub seen_survive : IsDistinctBy (λ (o : Object). o.place) m.objects → survivors seen g left ≡ survivors m g kept
  seen_survive apart =
      sym (shuffled-sorts (λ (k : Survivor). k.place)
      (shuffled-map (survivor seen) (shuffled-filter stays-seen s.objects))
      (subst (IsDistinctBy (λ (k : Survivor). k.place)) (sym same)
      (distinct_map (survivor m) (λ (k : Survivor). k.place) (filter stays m.objects)
      (distinct_filter (λ (o : Object). o.place) stays m.objects apart))))
      ∙ ap (sorted_by (λ (k : Survivor). k.place)) same
    where
      same : map (survivor seen) (filter stays-seen (map s.shown m.objects ++ s.more))
          ≡ map (survivor m) (filter stays m.objects)
      same =
          ap (map (survivor seen))
          (none-more ∙ filter-map s.shown stays-seen m.objects
          ∙ ap (map s.shown) (filter-on (λ o. stays-seen (s.shown o)) stays m.objects same-test))
          ∙ map-map s.shown (survivor seen) (filter stays m.objects)
          ∙ map-on (λ o. survivor seen (s.shown o)) (survivor m) (filter stays m.objects)
          (λ o i. same-survivor o (out_of_filter stays o m.objects i).1)

-- a fit, and a usual compaction of what is seen of what it leaves, are a fitting
pub two_steps_seen : (m : Machine) (kept : ℕ → Bool) → IsLaid m → rest_pieces m.layout.rests ≡ [] → (seen : Machine)
    (left : ℕ → Bool) → IsSeenAs (fitted m kept) kept seen left → (others : List Move) (new : Layout)
    → Compacts seen left others new
    → IsFitted m.layout (survivors m 1 kept) ((fit_in m kept).moves ++ others) new
two_steps_seen m kept h bare seen left s others new c =
    two_steps m kept h bare others new
    (subst (λ ks. IsCompacted (fitted m kept).layout 1 ks others new)
    (seen_survive (fitted m kept) kept seen left s 1 (places-distinct (fitted m kept) (stays_laid m kept h bare)))
    (same-compaction (fitted m kept).layout seen.layout s.layout (survivors seen 1 left) others new c))

-- A collection leaves what is older than its generation as it is.
use Rattle.std.proofs.Common.{◌≡◌, ℕ, ◌<◌, ◌≤◌, inl, inr, [], length, List, refl, sym, ap, subst, ◌∙◌, arith}
use Rattle.std.proofs.Common.{Bool, true, false, Some, ◌==◌, ◌&&◌, ne_eqb}
use Rattle.std.proofs.lemmas.Bool.{cases_Bool}
use Rattle.clr_types.specs.Rising.{IsIn}
use Rattle.clr_types.specs.Segments.{Layout, generation, rest_pieces}
use Rattle.clr_types.proofs.SortedLists.{same_by_key}
use Rattle.clr_types.proofs.ChangedLists.{IsIn-map, into_filter, rising-distinct}
use Rattle.clr_model.specs.declared.How.{How}
use Rattle.clr_model.specs.declared.How.TheVariants.{Compact, Decide, Fit, Sweep}
use Rattle.clr_model.specs.declared.Collected.{Collected}
use Rattle.clr_model.specs.Machine.{Object, Machine}
use Rattle.clr_model.specs.Lookups.{object_named}
use Rattle.clr_model.specs.Reach.{StartOf, starts}
use Rattle.clr_model.specs.Sweep.{survivor, survivors}
use Rattle.clr_model.specs.Compaction.{IsCompacted, Move, moved_by}
use Rattle.clr_model.specs.Fitting.{fit_of, is_moved, IsFitted}
use Rattle.clr_model.specs.Slide.{slid_object}
use Rattle.clr_model.specs.Collection.{begun, compacts, decides_to_compact, object_after, objects_after, Collects}
use Rattle.clr_model.specs.Collection.{IsCollected, IsSmallLaid, IsSmallLaidBy, SlidesIf}
use Rattle.clr_model.specs.Lawful.{IsLaid, IsLawful}
use Rattle.clr_model.specs.Laws.{IsUsual}
use Rattle.clr_model.proofs.CollectedObjects.{found_by}
use Rattle.clr_model.proofs.FitCompacted.{compaction, fit_machine, twice}
use Rattle.clr_model.proofs.FitFillings.{going, moved-covers, unmoved-still}
use Rattle.clr_model.proofs.FitLaid.{fit_laid}
use Rattle.clr_model.proofs.FitLawful.{never}
use Rattle.clr_model.proofs.GivenUp.{given_up_laid, no_rests}
use Rattle.clr_model.proofs.Landings.{covered_by}
use Rattle.clr_model.proofs.LawfulSurvivors.{generation-least, survivor-is}
use Rattle.clr_model.proofs.MovedPlaces.{covered, moved-is}
use Rattle.clr_model.proofs.SlidLaws.{promotion}
use Rattle.clr_background.specs.Laws.{IsStill, OlderStayLaw, StaysPut}
use Rattle.clr_background.proofs.CarriedOver.{found_after, object_was}

-- ---- no move takes an older object anywhere

-- no move of a compaction does
compacted_unmoved : (m : Machine) (laid : IsLaid m) (g : ℕ) (least : g ≤ 2) (keeps : ℕ → Bool) (moves : List Move)
    (new : Layout) → IsCompacted m.layout g (survivors m g keeps) moves new → (o : Object) → IsIn o m.objects
    → g < generation m.layout o.place → moved_by moves o.place ≡ o.place
compacted_unmoved m laid g least keeps moves new c o i above = elim (moved-is moves o.place) [
  | inr (none, same) ↦ same
  | inl (v, j, over, same) ↦
      let is = covered m laid g least keeps moves new c o i v j over in
      let young : generation m.layout o.place ≤ g =
      (survivor-is m laid g least keeps (survivor m o) is.survives).age in
      absurd (omega arith)
]

-- a sweep moves nothing
small_unmoved : (m : Machine) → IsLaid m → (g : ℕ) → g ≤ 2 → (keeps : ℕ → Bool) (moves : List Move) (new : Layout)
    (compacting : Bool) → IsSmallLaid compacting m.layout g (survivors m g keeps) moves new → (o : Object)
    → IsIn o m.objects → g < generation m.layout o.place → moved_by moves o.place ≡ o.place
small_unmoved m laid g least keeps moves new true c o i above =
    compacted_unmoved m laid g least keeps moves new c o i above
small_unmoved m laid g least keeps moves new false c o i above = ap (λ vs. moved_by vs o.place) c.0

module _ (m : Machine) (laid : IsLaid m) (bare : rest_pieces m.layout.rests ≡ []) (keeps : ℕ → Bool)
    (moves : List Move) (new : Layout) (c : IsFitted m.layout (survivors m 1 keeps) moves new) where
  one : 1 ≤ 2
  one = omega arith

  abbrev fits : List Move
  fits = (fit_of m.layout (survivors m 1 keeps)).moves

  -- and a fit takes survivors of generation 1 alone
  fitted_unmoved : (o : Object) → IsIn o m.objects → 1 < generation m.layout o.place → moved_by moves o.place ≡ o.place
  fitted_unmoved o i above = elim (cases_Bool (is_moved fits o.place)) [
    | inl t ↦
        let (v, n, cover) = moved-covers fits o.place t in
        let is = covered_by m laid keeps _ _ fits (going m laid bare keeps) o i v n cover in
        let young : generation m.layout o.place ≤ 1 =
        (survivor-is m laid 1 one keeps (survivor m o) is.survives).age in
        absurd (omega arith)
    | inr t ↦
        let still : moved_by fits o.place ≡ o.place = unmoved-still fits o.place t in
        sym (twice m laid bare keeps moves new c o i)
        ∙ compacted_unmoved (fit_machine m laid bare keeps) (fit_laid m laid bare keeps) 1 one keeps c.others new
        (compaction m laid bare keeps moves new c) (slid_object fits o) (IsIn-map (slid_object fits) i)
        (subst (λ x. 1 < generation m.layout x) (sym still) above) ∙ still
  ]

unmoved : (m : Machine) → IsLaid m → rest_pieces m.layout.rests ≡ [] → (g : ℕ) → g ≤ 2 → (how : How) → IsUsual g how
    → (keeps : ℕ → Bool) (moves : List Move) (new : Layout) (compacting : Bool)
    → IsSmallLaidBy how compacting m.layout g (survivors m g keeps) moves new → (o : Object) → IsIn o m.objects
    → g < generation m.layout o.place → moved_by moves o.place ≡ o.place
unmoved m laid bare g least Decide usual = small_unmoved m laid g least
unmoved m laid bare g least Compact usual = small_unmoved m laid g least
unmoved m laid bare g least Sweep usual = small_unmoved m laid g least
unmoved m laid bare g least Fit usual = λ keeps moves new compacting c o i above.
    fitted_unmoved m laid bare keeps moves new
    (subst (λ n. IsFitted m.layout (survivors m n keeps) moves new) usual c) o i
    (subst (λ n. n < generation m.layout o.place) usual above)

-- ---- what a young collection leaves

module _ (m : Machine) (h : IsLawful m) (g : ℕ) (young : g ≤ 1) (how : How) (usual : IsUsual g how)
    (answer : Collected) (new : Machine) (c : Collects m g how answer new) where
  abbrev d : IsCollected (begun m) g how false (StartOf (begun m) g) answer c.collected
  d = c.collects

  least : g ≤ 2
  least = omega (arith, young)

  -- no slide follows
  unslid : (m.compacts_large && (g == 2)) ≡ false
  unslid = ap (λ b. m.compacts_large && b) (ne_eqb g 2 (λ e. omega (arith, e, young))) ∙ never m.compacts_large

  objects_are : new.objects ≡ objects_after (begun m) d.first d.kept d.moves
  objects_are =
      ap (λ (w : Machine). w.objects) c.ends
      ∙ ap (λ (w : Machine). w.objects) (subst (λ (b : Bool). SlidesIf b c.collected c.slid) unslid c.slides)
      ∙ ap (λ (w : Machine). w.objects) d.state

  -- an older object stays
  older_kept : (o : Object) → IsIn o m.objects → g < generation m.layout o.place → d.kept o.name ≡ true
  older_kept o i above =
      (d.kept_is o.name).1 (starts (inl (inr (record { object = o; present = i; named = refl; above = above }))))

  -- where it is
  older_unmoved : (o : Object) → IsIn o m.objects → g < generation m.layout o.place
      → moved_by d.moves o.place ≡ o.place
  older_unmoved =
      unmoved (begun m) (given_up_laid m h.laid) (no_rests (length m.layout.rests)) g least how usual d.kept d.moves
      d.small (compacts how (decides_to_compact (begun m) g d.survive))
      (subst (λ ks. IsSmallLaidBy how (compacts how (decides_to_compact (begun m) g d.survive)) (begun m).layout g ks
      d.moves d.small) d.survive_are d.small_laid)

  abbrev after : Object → Object
  after o = object_after (begun m) d.first d.moves o

  after_in : (o : Object) → IsIn o m.objects → g < generation m.layout o.place
      → IsIn (after o) (objects_after (begun m) d.first d.kept d.moves)
  after_in o i above =
      IsIn-map after (into_filter (λ (o : Object). d.kept o.name) m.objects (older_kept o i above) i)

  pub older_put : (o : Object) → IsIn o m.objects → g < generation m.layout o.place → StaysPut new o
  older_put o i above = record {
    object = after o;
    present = subst (IsIn (after o)) (sym objects_are) (after_in o i above);
    name = refl;
    place = older_unmoved o i above;
    type = refl;
    len = refl;
  }

  -- and nothing else has its name
  pub older_place : (p o : Object) → IsIn p new.objects → IsIn o m.objects → g < generation m.layout o.place
      → p.name ≡ o.name → p.place ≡ o.place
  older_place p o j i above name =
      let (q, k, stays, e) = object_was (begun m) d.first d.kept d.moves p (subst (IsIn p) objects_are j) in
      let same : q ≡ o = same_by_key (λ (o : Object). o.name) m.objects q o
      (rising-distinct (λ (o : Object). o.name) m.objects h.names_rise) k i
      (sym (ap (λ (w : Object). w.name) e) ∙ name) in
      ap (λ (w : Object). w.place) e ∙ ap (λ (w : Object). moved_by d.moves w.place) same ∙ older_unmoved o i above

  -- it is found where it was
  pub older_still : (x : ℕ) (o : Object) → object_named m.objects x ≡ Some o → g < generation m.layout o.place
      → IsStill new x o
  older_still x o e above =
      let (i, n) = found_by (λ (o : Object). o.name) x m.objects o e in
      record {
        object = after o;
        found = subst (λ y. object_named new.objects y ≡ Some (after o)) n
            (subst (λ os. object_named os o.name ≡ Some (after o)) (sym objects_are)
            (found_after (begun m) h.names_rise d.first d.kept d.moves o i (older_kept o i above)));
        place = older_unmoved o i above;
        type = refl;
        len = refl;
        slots = refl;
      }

-- Nothing is older than generation 2, so the law is one on young collections.
pub older_stay : OlderStayLaw
older_stay m g how answer new h usual c x o e above =
    let most = generation-least m.layout o.place in
    let still : IsStill new x o = older_still m h g (omega (arith, most, above)) how usual answer new c x o e above in
    let aged : generation new.layout still.object.place ≡ generation m.layout o.place =
    (promotion m g how answer new h usual c x (generation m.layout o.place)
    (generation new.layout still.object.place) (o, e, refl) (still.object, still.found, refl)).old_stays above in
    (still, ap (generation new.layout) (sym still.place) ∙ aged)

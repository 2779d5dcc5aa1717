-- A collection exists: its small heap can be compacted or swept, and the rest of it is computed.
use Rattle.std.proofs.Common.{◌≡◌, ℕ, ◌≤◌, List, [], ◌++◌, length, refl, sym, subst, Bool, true, false, ◌&&◌, not}
use Rattle.std.proofs.Common.{filter, if◌then◌else◌, ◌==◌}
use Rattle.std.proofs.lemmas.Bool.{and_parts, eqb-true}
use Rattle.std.specs.Prelude.{count_by}
use Rattle.clr_types.specs.Rising.{Tests}
use Rattle.clr_types.specs.Segments.{Layout}
use Rattle.clr_model.specs.declared.How.{How}
use Rattle.clr_model.specs.declared.How.TheVariants.{Compact, Decide, Fit, Sweep}
use Rattle.clr_model.specs.declared.Collected.{Collected}
use Rattle.clr_model.specs.Machine.{Machine}
use Rattle.clr_model.specs.Lawful.{IsLaid, IsLawful}
use Rattle.clr_types.specs.Maps.{map_values}
use Rattle.clr_model.specs.Reach.{StartOf, IsAlive, Kept, woken}
use Rattle.clr_model.specs.Sweep.{Survivor, survivors, is_condemned, swept_small, swept_others}
use Rattle.clr_model.specs.Compaction.{Move}
use Rattle.clr_model.specs.Collection.{begun, Collects, ended, IsCollected, IsSmallLaid, SlidesIf, compacts}
use Rattle.clr_model.specs.Collection.{decides_to_compact, bytes_promoted, sums_after}
use Rattle.clr_model.specs.Collection.{objects_after, row_after, released, marking_after}
use Rattle.clr_model.specs.Laws.{TestsExistLaw, CollectionExistsLaw, IsPlain}
use Rattle.clr_model.proofs.AliveTests.{alive, alive-tests, stays, stays-tests}
use Rattle.clr_model.proofs.GivenUp.{given_up_laid, no_rests}
use Rattle.clr_model.proofs.FitCompacted.{fitting_exists}
use Rattle.clr_model.proofs.FitLawful.{never}
use Rattle.clr_model.proofs.CompactionExists.{compaction_exists}
use Rattle.clr_model.proofs.PlainCollections.{IsPlainlyCollected, from_plain, plain_back, PlainlyCollects, usual_least}
use Rattle.clr_model.proofs.PlainCollections.{usual_plain}
use Rattle.clr_model.proofs.MidLaid.{mid_laid}
use Rattle.clr_model.proofs.LargeSlid.{slide_exists}

module _ (m : Machine) (h : IsLaid m) (g : ℕ) (least : g ≤ 2) where
  -- the small heap can be laid out either way, whatever stays
  abbrev CanBeLaid : Bool → (ℕ → Bool) → Type 0
  CanBeLaid compacting keeps =
      (moves : List Move) × (small : Layout) × IsSmallLaid compacting m.layout g (survivors m g keeps) moves small

  small_exists : (compacting : Bool) (keeps : ℕ → Bool) → CanBeLaid compacting keeps
  small_exists true keeps = compaction_exists m h g least keeps
  small_exists false keeps = ([], swept_small m.layout g (survivors m g keeps), (refl, refl))

  module _ (how : How) (last_pause : Bool) (first kept : ℕ → Bool) where
    abbrev survive : List Survivor
    survive = survivors m g kept

    abbrev compacting : Bool
    compacting = compacts how (decides_to_compact m g survive)

    abbrev laid_after : Layout → Layout
    laid_after small = if g == 2 then swept_others small 2 survive else small

    abbrev answer_of : List Move → Layout → Collected
    answer_of moves laid = record {
      generation = g;
      compacted = compacting;
      fitted = false;
      background = last_pause;
      kept = count_by (λ o. is_condemned m g o && kept o.name) m.objects;
      freed = count_by (λ o. is_condemned m g o && not (kept o.name)) m.objects;
      promoted1 = bytes_promoted m laid kept moves 0;
      promoted2 = bytes_promoted m laid kept moves 1;
    }

    abbrev machine_of : List Move → Layout → Machine
    machine_of moves laid = record m {
      objects = objects_after m first kept moves;
      handles = map_values (row_after first kept) m.handles;
      entries = filter first m.entries;
      ready = m.ready ++ woken m first;
      layout = if g == 2 then released laid (objects_after m first kept moves) else laid;
      sums = sums_after m g (answer_of moves laid).promoted1 (answer_of moves laid).promoted2;
      background = marking_after (g == 2) m.background;
    }

    -- from each start, where tests tell what is alive and what stays
    pub collected_exists : (start : ℕ → Type 0) → Tests first (IsAlive m start) → Tests kept (Kept m start first)
        → (answer : Collected) × (new : Machine) × IsPlainlyCollected m g how last_pause start answer new
    collected_exists start first_is kept_is =
        let (moves, small, small_laid) = small_exists compacting kept in
        let laid = laid_after small in (
          answer_of moves laid,
          machine_of moves laid,
          record {
            first = first;
            kept = kept;
            first_is = first_is;
            kept_is = kept_is;
            survive = survive;
            survive_are = refl;
            small = small;
            moves = moves;
            small_laid = small_laid;
            laid = laid;
            large_laid = refl;
            answered = refl;
            state = refl;
          },
        )

pub tests_exist : TestsExistLaw
tests_exist m g = (alive m g, stays m g (alive m g), alive-tests m g, stays-tests m g (alive m g))

plain_exists : (m : Machine) (g : ℕ) (how : How) → IsLawful m → IsPlain g how
    → (answer : Collected) × (new : Machine) × Collects m g how answer new
plain_exists m g how h usual =
    let first : ℕ → Bool = alive (begun m) g in
    let (answer, new, c) =
    collected_exists (begun m) (given_up_laid m h.laid) g (usual_least g how usual) how false first
    (stays (begun m) g first)
    (StartOf (begun m) g) (alive-tests (begun m) g) (stays-tests (begun m) g first) in
    by_flag (m.compacts_large && (g == 2)) refl answer new c
  where
    by_flag : (b : Bool) → (m.compacts_large && (g == 2)) ≡ b → (answer : Collected) (new : Machine)
        → PlainlyCollects m g how answer new → (answer : Collected) × (new : Machine) × Collects m g how answer new
    by_flag false e answer new c = (answer, new, from_plain m g how answer new e (usual_plain g how usual) c)
    by_flag true e answer new c =
        let (mid, d, ends, same, at) =
        plain_back (begun m) g how false (StartOf (begun m) g) answer (usual_plain g how usual) new c in
        let two : g ≡ 2 = eqb-true g 2 (and_parts m.compacts_large (g == 2) e).1 in
        let laid : IsLaid mid =
        mid_laid m h how (usual_plain g how usual) answer mid
        (subst (λ n. IsCollected (begun m) n how false (StartOf (begun m) n) answer mid) two d) in
        let (moves, after, s) = slide_exists mid laid in (
          answer,
          record (ended g after) { compacts_large = m.compacts_large && not (g == 2) },
          record {
            collected = mid;
            slid = after;
            collects = d;
            slides = subst (λ (b : Bool). SlidesIf b mid after) (sym e) (moves, s);
            ends = refl;
          },
        )

-- a fitting one
fit_exists : (m : Machine) → IsLawful m → (answer : Collected) × (new : Machine) × Collects m 1 Fit answer new
fit_exists m h =
    let first : ℕ → Bool = alive (begun m) 1 in
    let kept : ℕ → Bool = stays (begun m) 1 first in
    let (moves, small, fit) =
    fitting_exists (begun m) kept (given_up_laid m h.laid) (no_rests (length m.layout.rests)) in
    let answer : Collected = record {
      generation = 1;
      compacted = true;
      fitted = true;
      background = false;
      kept = count_by (λ o. is_condemned (begun m) 1 o && kept o.name) m.objects;
      freed = count_by (λ o. is_condemned (begun m) 1 o && not (kept o.name)) m.objects;
      promoted1 = bytes_promoted (begun m) small kept moves 0;
      promoted2 = bytes_promoted (begun m) small kept moves 1;
    } in
    let mid : Machine = record (begun m) {
      objects = objects_after (begun m) first kept moves;
      handles = map_values (row_after first kept) m.handles;
      entries = filter first m.entries;
      ready = m.ready ++ woken (begun m) first;
      layout = small;
      sums = sums_after (begun m) 1 answer.promoted1 answer.promoted2;
      background = marking_after false m.background;
    } in (
      answer,
      record mid { compacts_large = m.compacts_large && not (1 == 2) },
      record {
        collected = mid;
        slid = mid;
        collects = record {
          first = first;
          kept = kept;
          first_is = alive-tests (begun m) 1;
          kept_is = stays-tests (begun m) 1 first;
          survive = survivors (begun m) 1 kept;
          survive_are = refl;
          small = small;
          moves = moves;
          small_laid = fit;
          laid = small;
          large_laid = refl;
          answered = refl;
          state = refl;
        };
        slides = subst (λ (b : Bool). SlidesIf b mid mid) (sym (never m.compacts_large)) refl;
        ends = refl;
      },
    )

-- Every collection of a lawful machine has an outcome.
pub collection_exists : CollectionExistsLaw
collection_exists m g Decide h usual = plain_exists m g Decide h usual
collection_exists m g Compact h usual = plain_exists m g Compact h usual
collection_exists m g Sweep h usual = plain_exists m g Sweep h usual
collection_exists m g Fit h usual =
    subst (λ n. (answer : Collected) × (new : Machine) × Collects m n Fit answer new) (sym usual) (fit_exists m h)

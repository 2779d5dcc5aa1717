-- The laws on a whole collection, put together from those on its layout and its objects.
use Rattle.std.proofs.Common.{◌≡◌, ℕ, ◌+◌, ◌<◌, ◌≤◌, List, refl, sym, ap, subst, ◌∙◌, arith, Bool, true, false}
use Rattle.std.proofs.Common.{if◌then◌else◌, filter, ◌&&◌, ◌==◌, sum_by}
use Rattle.std.proofs.lemmas.Bool.{both_ways}
use Rattle.clr_types.specs.Segments.{Layout, generation, is_small_or_ephemeral}
use Rattle.clr_types.specs.LawfulLayout.{IsLawfulLayout}
use Rattle.clr_model.specs.declared.How.{How}
use Rattle.clr_model.specs.declared.Collected.{Collected}
use Rattle.clr_model.specs.Machine.{Machine, Object}
use Rattle.clr_model.specs.Lookups.{is_pinned, object_size}
use Rattle.clr_model.specs.Lawful.{IsLawful}
use Rattle.clr_model.specs.Sweep.{Survivor, survivors, swept_others, is_in_part}
use Rattle.clr_model.specs.Compaction.{moved_by}
use Rattle.clr_model.specs.Updates.{all_given_up}
use Rattle.clr_types.specs.Rising.{IsIn}
use Rattle.clr_types.specs.Ranges.{Piece, piece_end}
use Rattle.clr_model.specs.Collection.{IsSmallLaid, bytes_promoted, objects_after, released}
use Rattle.clr_model.specs.Laws.{HasGeneration, HasPlace, IsPromoted}
use Rattle.clr_model.proofs.CollectedLayout.{whole_after, whole_lawful, laid_generation, whole_generation}
use Rattle.clr_model.proofs.PlainCollections.{IsPlainlyCollected, PlainlyCollects}
use Rattle.clr_model.proofs.CollectedObjects.{begun, begun_laid, compacting, compacted_is, small_is, IsMoved}
use Rattle.clr_model.proofs.CollectedObjects.{moved_object, moved_lower, moved_pinned}
use Rattle.clr_model.proofs.CollectedAges.{compaction_ages, sweep_ages}
use Rattle.clr_model.proofs.CollectedFree.{free_before_pinned}

module _ (m : Machine) (h : IsLawful m) (g : ℕ) (least : g ≤ 2) (how : How) (answer : Collected) (new : Machine)
    {last_pause : Bool} {source : ℕ → Type 0}
    (c : IsPlainlyCollected (record m { layout = all_given_up m.layout }) g how last_pause source answer new) where
  abbrev given_up : Machine
  given_up = begun m h g least how answer new c

  abbrev after_objects : List Object
  after_objects = objects_after given_up c.first c.kept c.moves

  -- the layout afterwards, by what stays
  pub layout_is : new.layout ≡ whole_after g (survivors given_up g c.kept) c.small after_objects
  layout_is =
      ap (λ (w : Machine). w.layout) c.state
      ∙ ap (λ (l : Layout). if g == 2 then released l after_objects else l) c.large_laid
      ∙ ap (λ (ks : List Survivor). if g == 2
      then released (if g == 2 then swept_others c.small 2 ks else c.small) after_objects
      else (if g == 2 then swept_others c.small 2 ks else c.small)) c.survive_are
      ∙ go (g == 2)
    where
      go : (b : Bool) → (if b then released
          (if b then swept_others c.small 2 (survivors given_up g c.kept) else c.small) after_objects
          else (if b then swept_others c.small 2 (survivors given_up g c.kept) else c.small))
          ≡ (if b then released (swept_others c.small 2 (survivors given_up g c.kept)) after_objects else c.small)
      go true = refl
      go false = refl

  pub layout_lawful : IsLawfulLayout new.layout
  layout_lawful =
      subst IsLawfulLayout (sym layout_is)
      (whole_lawful given_up (begun_laid m h g least how answer new c) g least c.kept c.moves c.small
      (compacting m h g least how answer new c) (small_is m h g least how answer new c) after_objects)

  generation_is : (place : ℕ) → generation new.layout place ≡ generation c.small place
  generation_is place =
      ap (λ l. generation l place) layout_is
      ∙ whole_generation given_up (begun_laid m h g least how answer new c) g least c.kept c.moves c.small
      (compacting m h g least how answer new c) (small_is m h g least how answer new c) after_objects place

  -- an older object that stays keeps its generation
  pub old_age : (o : Object) → IsIn o m.objects → c.kept o.name ≡ true → g < generation m.layout o.place
      → generation new.layout (moved_by c.moves o.place) ≡ generation m.layout o.place
  old_age o i stays above =
      generation_is (moved_by c.moves o.place)
      ∙ go (compacting m h g least how answer new c) (small_is m h g least how answer new c)
    where
      go : (b : Bool) → IsSmallLaid b given_up.layout g (survivors given_up g c.kept) c.moves c.small
          → generation c.small (moved_by c.moves o.place) ≡ generation m.layout o.place
      go true laid =
          let ages = compaction_ages given_up (begun_laid m h g least how answer new c) g least c.kept c.moves c.small
          laid o i stays in
          ages.keeps_age above
      go false laid =
          let ages = sweep_ages given_up (begun_laid m h g least how answer new c) g least c.kept c.moves c.small laid
          o i stays in
          ages.0 above

  -- the bytes that went up, by the layout afterwards
  pub promoted_is : (l : ℕ) → bytes_promoted given_up c.laid c.kept c.moves l
      ≡ bytes_promoted given_up new.layout c.kept c.moves l
  promoted_is l =
      λ i. sum_by (object_size m.types)
      (filter (λ o. c.kept o.name && ((generation m.layout o.place == l) && (same (moved_by c.moves o.place)
      i == l + 1))) m.objects)
    where
      same : (place : ℕ) → generation c.laid place ≡ generation new.layout place
      same place =
          ap (λ (k : Layout). generation k place)
          (c.large_laid ∙ ap (λ (ks : List Survivor). if g == 2 then swept_others c.small 2 ks else c.small)
          c.survive_are)
          ∙ laid_generation given_up (begun_laid m h g least how answer new c) g least c.kept c.moves c.small
          (compacting m h g least how answer new c) (small_is m h g least how answer new c) after_objects place
          ∙ sym (generation_is place)

  -- what a promotion says of an object that stays
  pub promoted_object : (name : ℕ) (old o : Object) → IsMoved m h g least how answer new c name old o
      → IsPromoted g (is_pinned m name) answer.compacted (generation m.layout old.place) (generation new.layout o.place)
  promoted_object name old o is =
      subst (IsPromoted g (is_pinned m name) answer.compacted (generation m.layout old.place)) (sym place)
      (subst (λ n. IsPromoted g (is_pinned m n) answer.compacted (generation m.layout old.place) moved) is.named
      (go (compacting m h g least how answer new c) (compacted_is m h g least how answer new c)
      (small_is m h g least how answer new c)))
    where
      moved : ℕ
      moved = generation c.small (moved_by c.moves old.place)

      place : generation new.layout o.place ≡ generation c.small (moved_by c.moves old.place)
      place = ap (generation new.layout) is.place ∙ generation_is (moved_by c.moves old.place)

      go : (b : Bool) → answer.compacted ≡ b
          → IsSmallLaid b given_up.layout g (survivors given_up g c.kept) c.moves c.small
          → IsPromoted g (is_pinned m old.name) answer.compacted (generation m.layout old.place)
          (generation c.small (moved_by c.moves old.place))
      go true e laid =
          let ages = compaction_ages given_up (begun_laid m h g least how answer new c) g least c.kept c.moves c.small
          laid old is.present is.kept_on in
          record {
            old_stays = ages.keeps_age;
            free_rises = ages.next;
            swept_rises = λ l swept. absurd
                (both_ways answer.compacted swept e);
            none_skips = ages.at_most;
          }
      go false e laid =
          let (old_stays, rises) =
          sweep_ages given_up (begun_laid m h g least how answer new c) g least c.kept c.moves c.small laid old
          is.present is.kept_on in
          record {
            old_stays = old_stays;
            free_rises = λ l free. rises l;
            swept_rises = λ l swept. rises l;
            none_skips = λ l. let same = rises l in omega arith;
          }

-- ---- what the laws say where no slide follows

pub plain_promotion : (m : Machine) (g : ℕ) (how : How) (answer : Collected) (new : Machine) → IsLawful m → g ≤ 2
    → PlainlyCollects m g how answer new
    → (name before after : ℕ) → HasGeneration m name before → HasGeneration new name after
    → IsPromoted g (is_pinned m name) answer.compacted before after
plain_promotion m g how answer new h least c name was is_now (old, named_old, age_old) (o, named, age) =
    subst (λ n. IsPromoted g (is_pinned m name) answer.compacted n is_now) age_old
    (subst (IsPromoted g (is_pinned m name) answer.compacted (generation m.layout old.place)) age
    (promoted_object m h g least how answer new c name old o
    (moved_object m h g least how answer new c name old o named_old named)))

pub plain_pinned_stay : (m : Machine) (g : ℕ) (how : How) (answer : Collected) (new : Machine) → IsLawful m → g ≤ 2
    → PlainlyCollects m g how answer new
    → (name before after : ℕ) → is_pinned m name ≡ true → HasPlace m name before → HasPlace new name after
    → after ≡ before
plain_pinned_stay m g how answer new h least c name was is_now pinned (old, named_old, at_old) (o, named, at) =
    let is = moved_object m h g least how answer new c name old o named_old named in
    sym at ∙ is.place ∙ moved_pinned m h g least how answer new c old is.present
    (subst (λ n. is_pinned m n ≡ true) (sym is.named) pinned) ∙ at_old

pub plain_none_rises : (m : Machine) (g : ℕ) (how : How) (answer : Collected) (new : Machine) → IsLawful m → g ≤ 2
    → PlainlyCollects m g how answer new
    → (name before after : ℕ) → HasPlace m name before → HasPlace new name after → after ≤ before
plain_none_rises m g how answer new h least c name was is_now (old, named_old, at_old) (o, named, at) =
    let is = moved_object m h g least how answer new c name old o named_old named in
    let place = is.place in
    let lower = moved_lower m h g least how answer new c old in
    omega arith

pub plain_free_before_pins : (m : Machine) (g : ℕ) (how : How) (answer : Collected) (new : Machine) → IsLawful m → g ≤ 2
    → PlainlyCollects m g how answer new → answer.compacted ≡ true
    → (p : Piece) → IsIn p new.layout.free → is_in_part is_small_or_ephemeral m.layout g p ≡ true
    → (o : Object) × IsIn o new.objects × (o.place ≡ piece_end p) × (is_pinned m o.name ≡ true)
plain_free_before_pins m g how answer new h least c compacted p i part =
    go (compacting m h g least how answer new c) (sym (compacted_is m h g least how answer new c) ∙ compacted)
    (small_is m h g least how answer new c)
  where
    go : (b : Bool) → b ≡ true → IsSmallLaid b (all_given_up m.layout) g
        (survivors (record m { layout = all_given_up m.layout }) g c.kept) c.moves c.small
        → (o : Object) × IsIn o new.objects × (o.place ≡ piece_end p) × (is_pinned m o.name ≡ true)
    go false e laid = absurd cc
    go true e laid =
        let (o, j, place, pinned) =
        free_before_pinned (record m { layout = all_given_up m.layout }) (begun_laid m h g least how answer new c) g
        least c.kept c.moves c.small laid c.first
        (objects_after (record m { layout = all_given_up m.layout }) c.first c.kept c.moves) p
        (subst (λ (l : Layout). IsIn p l.free) (layout_is m h g least how answer new c) i) part
        in
        (o, subst (λ (w : Machine). IsIn o w.objects) (sym c.state) j, place, pinned)

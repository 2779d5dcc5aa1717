-- What a collection comes to before the large heap slides and segments are released: that is lawful, and with slide and
-- release it is the whole collection.
use Rattle.std.proofs.Common.{◌≡◌, ℕ, ◌≤◌, ◌==◌, ◌&&◌, Bool, true, false, not, if◌then◌else◌, [], None, refl}
use Rattle.std.proofs.Common.{ap, sym, ◌∙◌, subst}
use Rattle.std.proofs.lemmas.Bool.{eqb-true}
use Rattle.clr_types.specs.Segments.{rest_pieces}
use Rattle.clr_model.specs.declared.Collected.{Collected}
use Rattle.clr_model.specs.declared.How.{How}
use Rattle.clr_model.specs.declared.How.TheVariants.{Compact, Decide, Fit, Sweep}
use Rattle.clr_model.specs.Collection.{begun, Collects, ended, IsCollected, is_fit, released, SlidesIf}
use Rattle.clr_model.specs.Lawful.{IsLawful, IsPlaceNamed}
use Rattle.clr_model.specs.Laws.{IsUsual}
use Rattle.clr_model.specs.Lookups.{lowest_in_step}
use Rattle.clr_model.specs.Machine.{Machine}
use Rattle.clr_model.specs.Picture.{picture}
use Rattle.clr_model.specs.Reach.{StartOf}
use Rattle.clr_model.proofs.CollectedLawful.{mid_bare, mid_lawful, plain_lawful, plain_rests}
use Rattle.clr_model.proofs.FitLawful.{fit_bare, fit_lawful}
use Rattle.clr_model.proofs.PlainCollections.{plain_from, PlainlyCollects}
use Rattle.clr_model.proofs.SeenSound.{picture_sound}
use Rattle.clr_model.proofs.SeenStands.{picture_still}
use Rattle.clr_model.proofs.SlidNames.{slide_names}
use Rattle.clr_view.specs.World.{IsWorldOf, World}
use Rattle.clr_collect.specs.Collecting.{CountsSlides}
use Rattle.clr_collect.proofs.EndedPictures.{ended_layout}

-- a collection comes to this world, of every machine whose world it began with
abbrev pub ComesTo : World → ℕ → How → ℕ → Collected → World → ℕ → ℕ → Type 0
ComesTo w g how threshold answer gone slides slides_after =
    (m : Machine) → IsWorldOf w m → IsPlaceNamed m → lowest_in_step m ≡ None → m.options.compact ≡ threshold
    → (mid : Machine) × (d : IsCollected (begun m) g how false (StartOf (begun m) g) answer mid)
    × IsWorldOf gone (picture mid) × CountsSlides how (begun m).layout d.survive d.moves answer slides slides_after

-- what follows takes this world to that one, and slides the large heap or doesn't
abbrev pub Ends : Bool → ℕ → World → World → Type 0
Ends slides g gone new =
    (n : Machine) → IsWorldOf gone n → IsPlaceNamed n
    → (slid : Machine) × SlidesIf slides n slid × IsWorldOf new (ended g (picture slid))

-- ---- it is lawful

-- lawful, and without contexts
abbrev pub IsLeft : Machine → Type 0
IsLeft w = IsLawful w × (rest_pieces w.layout.rests ≡ [])

-- where no survivors went into older items
plain_comes : (m : Machine) → IsLawful m → lowest_in_step m ≡ None → (g : ℕ) → g ≤ 2 → (how : How)
    → is_fit how ≡ false → (answer : Collected) (mid : Machine)
    → IsCollected (begun m) g how false (StartOf (begun m) g) answer mid → IsLeft mid
plain_comes m h idle g least how plain answer mid d = go (g == 2) refl
  where
    go : (b : Bool) → (g == 2) ≡ b → IsLeft mid
    go true e =
        let full : IsCollected (begun m) 2 how false (StartOf (begun m) 2) answer mid =
        subst (λ n. IsCollected (begun m) n how false (StartOf (begun m) n) answer mid) (eqb-true g 2 e) d in (
          mid_lawful m h idle how plain answer mid full,
          mid_bare m h idle how plain answer mid full,
        )
    go false e =
        let p : PlainlyCollects m g how answer mid =
        plain_from (begun m) g how false (StartOf (begun m) g) answer plain mid mid d
        (ap (λ (b : Bool). record mid { layout = if b then released mid.layout mid.objects else mid.layout })
        (sym e)) in (
          plain_lawful m h idle g least how answer mid p (λ x s. s),
          plain_rests m h idle g least how answer mid p (λ x s. s),
        )

-- and where they did
fit_comes : (m : Machine) → IsLawful m → lowest_in_step m ≡ None → (answer : Collected) (mid : Machine)
    → IsCollected (begun m) 1 Fit false (StartOf (begun m) 1) answer mid → IsLeft mid
fit_comes m h idle answer mid d = (fit_lawful m h answer mid d idle, fit_bare m h answer mid d)

-- so in every collection of a usual kind
kind_comes : (m : Machine) → IsLawful m → lowest_in_step m ≡ None → (g : ℕ) (how : How) → IsUsual g how
    → (answer : Collected) (mid : Machine)
    → IsCollected (begun m) g how false (StartOf (begun m) g) answer mid → IsLeft mid
kind_comes m h idle g Decide usual answer mid d = plain_comes m h idle g usual Decide refl answer mid d
kind_comes m h idle g Compact usual answer mid d = plain_comes m h idle g usual Compact refl answer mid d
kind_comes m h idle g Sweep usual answer mid d = plain_comes m h idle g usual Sweep refl answer mid d
kind_comes m h idle g Fit usual answer mid d =
    fit_comes m h idle answer mid
    (subst (λ n. IsCollected (begun m) n Fit false (StartOf (begun m) n) answer mid) usual d)

-- ---- it is the whole

module _ (m : Machine) (named : IsPlaceNamed m) (idle : lowest_in_step m ≡ None) (g : ℕ) (how : How)
    (usual : IsUsual g how) (answer : Collected) (mid : Machine)
    (d : IsCollected (begun m) g how false (StartOf (begun m) g) answer mid) where
  -- lawful, and without contexts
  pub comes_lawful : IsLeft mid
  comes_lawful = kind_comes m named.lawful idle g how usual answer mid d

  -- named by places when it is seen
  pub comes_seen : IsPlaceNamed (picture mid)
  comes_seen = picture_sound mid comes_lawful.0

  -- a slide of what is seen is one of the machine
  slide_seen : (b : Bool) (slid : Machine) → SlidesIf b (picture mid) slid
      → (next : Machine) × SlidesIf b mid next × (picture next ≡ picture slid)
  slide_seen true slid (moves, s) =
      let (next, t, same) = slide_names mid moves slid comes_lawful.0 comes_lawful.1 s in (next, (moves, t), same)
  slide_seen false slid same = (mid, refl, sym (ap picture same ∙ picture_still (picture mid) comes_seen))

  world_seen : (w : World) (next slid : Machine) (flag : Bool) → picture next ≡ picture slid
      → IsWorldOf w (ended g (picture slid)) → IsWorldOf w (picture (record (ended g next) { compacts_large = flag }))
  world_seen w next slid flag same is =
      let there : IsWorldOf w (ended g (picture next)) =
      subst (λ (n : Machine). IsWorldOf w (ended g n)) (sym same) is in
      record {
        memory = record {
          types = there.memory.types;
          objects = there.memory.objects;
          layout = sym (ended_layout next g) ∙ there.memory.layout;
        };
        locals = there.locals;
        handles = there.handles;
        entries = there.entries;
        ready = there.ready;
      }

  -- THE COLLECTION: with what follows
  pub comes_whole : (new : World) (slid : Machine) → SlidesIf (m.compacts_large && (g == 2)) (picture mid) slid
      → IsWorldOf new (ended g (picture slid)) → (slides slides_after : ℕ)
      → CountsSlides how (begun m).layout d.survive d.moves answer slides slides_after
      → (after : Machine) × (c : Collects m g how answer after) × IsWorldOf new (picture after)
      × CountsSlides how (begun m).layout c.collects.survive c.collects.moves answer slides slides_after
  comes_whole new slid s is slides slides_after counts =
      let (next, t, same) = slide_seen (m.compacts_large && (g == 2)) slid s in (
        record (ended g next) { compacts_large = m.compacts_large && not (g == 2) },
        record { collected = mid; slid = next; collects = d; slides = t; ends = refl },
        world_seen new next slid (m.compacts_large && not (g == 2)) same is,
        counts,
      )

-- THE WHOLE COLLECTION of every machine whose world it is
pub whole_collection : (w : World) (g : ℕ) (how : How) → IsUsual g how → (threshold : ℕ)
    (answer : Collected) (gone new : World) (slides slides_after : ℕ) (flag : Bool)
    → ComesTo w g how threshold answer gone slides slides_after → Ends (flag && (g == 2)) g gone new
    → (m : Machine) → IsWorldOf w m → IsPlaceNamed m → lowest_in_step m ≡ None → m.compacts_large ≡ flag
    → m.options.compact ≡ threshold
    → (after : Machine) × (c : Collects m g how answer after) × IsWorldOf new (picture after)
    × CountsSlides how (begun m).layout c.collects.survive c.collects.moves answer slides slides_after
whole_collection w g how usual threshold answer gone new slides slides_after flag comes ends m is named idle same
    option =
    let (mid, d, seen, counts) = comes m is named idle option in
    let (slid, s, world) = ends (picture mid) seen (comes_seen m named idle g how usual answer mid d) in
    comes_whole m named idle g how usual answer mid d new slid
    (subst (λ (b : Bool). SlidesIf (b && (g == 2)) (picture mid) slid) (sym same) s) world slides slides_after counts

-- Questions that no free item answers have the same answers before and after.
use Rattle.std.proofs.Common.{ℕ, List, ◌++◌, refl, sym, None}
use Rattle.clr_types.specs.Ranges.{by_place}
use Rattle.clr_model.specs.Machine.{Machine}
use Rattle.clr_model.specs.Picture.{picture}
use Rattle.clr_model.specs.declared.look.Look.{Look}
use Rattle.clr_model.specs.Looks.{IsLookText}
use Rattle.clr_model.specs.Sos.{IsRootText}
use Rattle.clr_model.specs.Lookups.{place_of}
use Rattle.clr_settled.specs.Laws.{AskedLaw, LooksAtObjects, SettledForgetsLaw, SettledPictureLaw}
use Rattle.clr_settled.specs.Laws.{SettledTwiceLaw}
use Rattle.clr_settled.specs.Settled.{kept_rests, left_rests, no_sums, settled, settled_layout}
use Rattle.clr_settled.proofs.LooksAlike.{look-alike, root-alike}
use Rattle.clr_settled.proofs.KeptRests.{by_place-twice, kept-renamed, kept-twice, left-renamed, none-left}

-- the machine of which an image keeps all, again with what it gave up
roots-back : (m : Machine) (a : ℕ) (text : List ℕ) → IsRootText (settled m) a text → IsRootText m a text
roots-back m = root-alike (settled m) m.layout.free m.layout.rests m.layout.top m.sums m.options m.background

looks-back : (m : Machine) (look : Look) (text : List ℕ) → LooksAtObjects look → IsLookText (settled m) look text
    → IsLookText m look text
looks-back m = look-alike (settled m) m.layout.free m.layout.rests m.layout.top m.sums m.options m.background

pub asked : AskedLaw
asked m =
    let layout = settled_layout m.steps m.layout in
    record {
      objects = λ a. refl;
      handles = refl;
      queue = refl;
      where_is = λ a. refl;
      live = λ x. (λ is. is, λ is. is);
      sizes = λ x y. (λ is. is, λ is. is);
      roots = roots-back m;
      roots_back = root-alike m layout.free layout.rests layout.top no_sums m.options None;
      looks = looks-back m;
      looks_back = look-alike m layout.free layout.rests layout.top no_sums m.options None;
    }

pub twice : SettledTwiceLaw
twice m =
    let free = by_place-twice (m.layout.free ++ left_rests m.steps m.layout.rests)
    (left_rests m.steps (kept_rests m.steps m.layout.rests)) (none-left m.steps m.layout.rests) in
    let rests = kept-twice m.steps m.layout.rests in
    λ i. record (settled m) { layout = record (settled m).layout { free = free i; rests = rests i } }

pub pictured : SettledPictureLaw
pictured m =
    let to = place_of m.objects in
    let kept = sym (kept-renamed to m.steps m.layout.rests) in
    let left = sym (left-renamed to m.steps m.layout.rests) in
    λ i. record (picture (settled m)) {
      layout = record (settled m).layout {
        free = by_place (m.layout.free ++ left i);
        rests = kept i;
      };
    }

-- what is not kept plays no part
pub forgotten : SettledForgetsLaw
forgotten m top sums background = refl

-- Laws on what an image keeps.
use Rattle.std.specs.Prelude.{◌≡◌, ◌↔◌, ℕ, List, Option, Some, slice_get, Bool, false, true, ◌&&◌}
use Rattle.clr_types.specs.declared.item.Item.{Item}
use Rattle.clr_model.specs.Instructions.{DumpOptions}
use Rattle.clr_model.specs.declared.look.Look.{Look}
use Rattle.clr_model.specs.declared.look.Look.TheVariants.{GcHeapStat, ListNearObj}
use Rattle.clr_model.specs.Looks.{IsLookText}
use Rattle.clr_model.specs.Sos.{dumpheap_text, is_free_item, passes, passes_place}
use Rattle.clr_model.specs.Lawful.{IsBirthNamed, IsLaid, IsPlaceNamed}
use Rattle.clr_model.specs.Lookups.{pieces}
use Rattle.clr_model.specs.Machine.{begun_new, Machine, Marking, Sums}
use Rattle.clr_model.specs.Picture.{picture}
use Rattle.clr_model.specs.Reach.{Live, SlotReach}
use Rattle.clr_model.specs.Sos.{dumpobj_text, finalizequeue_text, gchandles_text}
use Rattle.clr_model.specs.Sos.{IsRootText, where_of}
use Rattle.clr_model.specs.Updates.{all_given_up}
use Rattle.clr_settled.specs.Settled.{settled}

-- What is left is a lawful state, again and again the same one, and its pieces are those that were there.
abbrev pub SettledLawfulLaw : Type 0
SettledLawfulLaw = (m : Machine) → IsBirthNamed m → IsBirthNamed (settled m)

abbrev pub SettledPlacesLaw : Type 0
SettledPlacesLaw = (m : Machine) → IsPlaceNamed m → IsPlaceNamed (settled m)

abbrev pub SettledTwiceLaw : Type 0
SettledTwiceLaw = (m : Machine) → settled (settled m) ≡ settled m

abbrev pub SettledPiecesLaw : Type 0
SettledPiecesLaw = (m : Machine) → IsLaid m → pieces (settled m) ≡ pieces m

-- Where all contexts are given up then, free items are those that there would have been.
abbrev pub SettledFreeLaw : Type 0
SettledFreeLaw = (m : Machine) → IsLaid m
    → (all_given_up (settled m).layout).free ≡ (all_given_up m.layout).free

-- what a thread has begun has its front in the same place
abbrev pub SettledFrontLaw : Type 0
SettledFrontLaw = (m : Machine) (n type len local : ℕ) → slice_get m.steps n ≡ Some (begun_new type len local)
    → slice_get (settled m).layout.rests n ≡ slice_get m.layout.rests n

-- names do not matter for it
abbrev pub SettledPictureLaw : Type 0
SettledPictureLaw = (m : Machine) → picture (settled m) ≡ settled (picture m)

-- WHAT IS NOT KEPT DOES NOT MATTER: sums, where the next segment was to begin, and a background collection that runs
abbrev pub SettledForgetsLaw : Type 0
SettledForgetsLaw = (m : Machine) (top : ℕ) (sums : Sums) (background : Option Marking)
    → settled (record m { layout = record m.layout { top = top }; sums = sums; background = background }) ≡ settled m

-- a line that looks, and neither at free items nor at contexts
abbrev pub LooksAtObjects : Look → Type 0
LooksAtObjects (GcHeapStat unrooted) = ⊥
LooksAtObjects (ListNearObj a) = ⊥
LooksAtObjects _ = Unit {0}

-- a question that no free item answers has the same answer in two states
pub record IsAskedAlike (s m : Machine) : Type 0 where
  pub objects : (a : ℕ) → dumpobj_text s a ≡ dumpobj_text m a
  pub handles : gchandles_text s ≡ gchandles_text m
  pub queue : finalizequeue_text s ≡ finalizequeue_text m
  pub where_is : (a : ℕ) → where_of s a ≡ where_of m a
  pub live : (x : ℕ) → Live s x ↔ Live m x
  pub sizes : (x y : ℕ) → SlotReach s x y ↔ SlotReach m x y
  pub roots : (a : ℕ) (text : List ℕ) → IsRootText s a text → IsRootText m a text
  pub roots_back : (a : ℕ) (text : List ℕ) → IsRootText m a text → IsRootText s a text
  pub looks : (look : Look) (text : List ℕ) → LooksAtObjects look → IsLookText s look text → IsLookText m look text
  pub looks_back : (look : Look) (text : List ℕ) → LooksAtObjects look → IsLookText m look text → IsLookText s look text

-- ASKING IS ALIKE before saving and after opening
abbrev pub AskedLaw : Type 0
AskedLaw = (m : Machine) → IsAskedAlike (settled m) m

-- and so is `dumpheap` with options that no free item passes
abbrev pub DumpedLaw : Type 0
DumpedLaw = (m : Machine) (live : ℕ → Bool) (o : DumpOptions)
    → ((i : Item) → is_free_item i ≡ true → (passes m.types live o i && passes_place m.layout o i) ≡ false)
    → dumpheap_text (settled m) live o ≡ dumpheap_text m live o

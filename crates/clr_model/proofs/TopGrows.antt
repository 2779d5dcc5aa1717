-- How much the ladders of allocation reserve: one segment at most, within the limit.
use Rattle.std.proofs.Common.{◌≡◌, ℕ, ◌+◌, ◌≤◌, inl, inr, ap, arith, true}
use Rattle.std.proofs.lemmas.Bool.{leb-true}
use Rattle.clr_types.specs.Segments.{Layout, reserved_sum}
use Rattle.clr_types.specs.declared.segment.SegKind.{SegKind}
use Rattle.clr_types.specs.declared.segment.SegKind.TheVariants.{Large, Pinned}
use Rattle.clr_model.specs.declared.How.{How}
use Rattle.clr_model.specs.declared.Collected.{Collected}
use Rattle.clr_model.specs.Machine.{Machine, Options}
use Rattle.clr_model.specs.Collection.{Collects}
use Rattle.clr_model.proofs.CollectionKeeps.{collects_keeps}
use Rattle.clr_model.proofs.SmallLadder.{comes_by}
use Rattle.clr_model.proofs.LargeLadder.{large_comes_by}
use Rattle.clr_model.proofs.SmallLadder.{either, either_option}
use Rattle.clr_model.specs.Allocation.{Attempt}
use Rattle.clr_model.specs.Allocation.{IsRefilled, with_layout, with_segment, sealed, segment_for, allows}
use Rattle.clr_model.specs.Allocation.{MakesRoom}
use Rattle.clr_model.specs.Allocation.{IsPlacedIn}
use Rattle.clr_model.specs.Allocation.{PlacesLarge, PlacesPinned, PinnedAfterFull, RoomedIn, RoomedOrAcquired}
use Rattle.clr_model.specs.Allocation.{has_room_in, out_of_memory, out_of_room, waits}
use Rattle.clr_model.specs.Lookups.{lowest_in_step}
use Rattle.clr_model.specs.declared.How.TheVariants.{Compact}
use Rattle.std.specs.Prelude.{MatchBool, MatchOption, ◌⊎◌}

-- ---- what is reserved

-- the machine has reserved nothing more, under the same options
pub record ReservesNone (m new : Machine) : Type 0 where
  pub top : new.layout.top ≡ m.layout.top
  pub options : new.options ≡ m.options

-- the machine has reserved no more than the limit, besides what it had
abbrev pub ReservesLittle : Machine → Machine → Type 0
ReservesLittle m new = new.layout.top ≤ m.layout.top + m.options.limit

pub none_is_little : (m new : Machine) → ReservesNone m new → ReservesLittle m new
none_is_little m new none = let top = none.top in omega arith

reserves_after : (m mid new : Machine) → ReservesNone m mid → ReservesLittle mid new → ReservesLittle m new
reserves_after m mid new none little =
    let top = none.top in let limit : mid.options.limit
    ≡ m.options.limit = ap (λ (o : Options). o.limit) none.options in omega arith

unchanged : (m new : Machine) → new ≡ m → ReservesLittle m new
unchanged m new same = let top = ap (λ (w : Machine). w.layout.top) same in omega arith

relaid : (m new : Machine) (layout : Layout) → new ≡ with_layout m layout → layout.top ≡ m.layout.top
    → ReservesLittle m new
relaid m new layout same top = let e = ap (λ (w : Machine). w.layout.top) same in omega arith

-- one segment more, which the limit allows
acquired : (m new : Machine) (layout : Layout) (size : ℕ) → new ≡ with_layout m layout
    → layout.top ≡ m.layout.top + size → allows m size ≡ true → ReservesLittle m new
acquired m new layout size same top allowed =
    let e = ap (λ (w : Machine). w.layout.top) same in
    let fits = leb-true (reserved_sum m.layout + size) m.options.limit allowed in
    omega arith

-- ---- collections

-- a collection reserves nothing
pub collection_reserves : (m : Machine) (g : ℕ) (how : How) (answer : Collected) (new : Machine)
    → Collects m g how answer new → ReservesNone m new
collection_reserves m g how answer new c =
    let keeps = collects_keeps m g how answer new c in record { top = keeps.top; options = keeps.options }

-- ---- the ladder of small objects

refill_top : (layout : Layout) (t size : ℕ) (new : Layout) → IsRefilled layout t size new → new.top ≡ layout.top
refill_top layout t size new (inl (item, i, young, fits, same)) = ap (λ (l : Layout). l.top) same
refill_top layout t size new (inr (fits, same)) = ap (λ (l : Layout). l.top) same

-- Room for a small object takes one segment at most, which the limit allows.
pub room_reserves : (t size : ℕ) (attempt : Attempt) (new m : Machine) → MakesRoom m t size attempt new
    → ReservesLittle m new
room_reserves t size attempt new =
    comes_by t size attempt new (λ m. ReservesLittle m new) (λ m. unchanged m new)
    (λ m layout refill same. relaid m new layout same (refill_top m.layout t size layout refill))
    (λ m layout allowed refill same. acquired m new layout m.options.segment same
    (refill_top (sealed m.layout m.options.segment) t size layout refill) allowed)
    (λ m g how answer mid c. reserves_after m mid new (collection_reserves m g how answer mid c))

-- ---- the ladder of large objects

placed_top : (kind : SegKind) (layout : Layout) (size place : ℕ) (new : Layout)
    → IsPlacedIn kind layout size place new → new.top ≡ layout.top
placed_top kind layout size place new (inl (item, i, stands, fits, at, same)) = ap (λ (l : Layout). l.top) same
placed_top kind layout size place new (inr (s, i, fits, at, same)) = ap (λ (l : Layout). l.top) same

-- So does the place of a large one.
pub place_reserves : (size place : ℕ) (attempt : Attempt) (new m : Machine) → PlacesLarge m size place attempt new
    → ReservesLittle m new
place_reserves size place attempt new =
    large_comes_by size place attempt new (λ m. ReservesLittle m new) (λ m. unchanged m new)
    (λ m layout placed same. relaid m new layout same (placed_top Large m.layout size place layout placed))
    (λ m layout allowed placed same. acquired m new layout (segment_for m size) same
    (placed_top Large (with_segment m.layout Large (segment_for m size)) size place layout placed) allowed)
    (λ m g how answer mid c. reserves_after m mid new (collection_reserves m g how answer mid c))

-- ---- pinned objects

module _ (size place : ℕ) (attempt : Attempt) (new : Machine) where
  -- room in segments of a kind, or one more of it
  acquired_reserves : (kind : SegKind) (m : Machine) (otherwise : Type 0) → (otherwise → ReservesLittle m new)
      → RoomedOrAcquired kind m size place attempt new otherwise → ReservesLittle m new
  acquired_reserves kind m otherwise other h =
      either (has_room_in kind m.layout size) Room (MatchBool (allows m (segment_for m size)) Takes otherwise) h
      (λ e. by_room)
      (λ e more. either (allows m (segment_for m size)) Takes otherwise more (λ f. takes f) (λ f. other))
    where
      Room : Type 0
      Room = RoomedIn kind m size place attempt new

      Takes : Type 0
      Takes =
          RoomedIn kind (with_layout m (with_segment m.layout kind (segment_for m size))) size place attempt new
          ⊎ ((attempt ≡ out_of_memory) × (new ≡ m))

      by_room : RoomedIn kind m size place attempt new → ReservesLittle m new
      by_room (is, layout, placed, same) = relaid m new layout same (placed_top kind m.layout size place layout placed)

      takes : allows m (segment_for m size) ≡ true → Takes → ReservesLittle m new
      takes may (inl (is, layout, placed, same)) =
          acquired m new layout (segment_for m size) same
          (placed_top kind (with_segment m.layout kind (segment_for m size)) size place layout placed) may
      takes may (inr (is, same)) = unchanged m new same

  -- So does the place of a pinned one.
  pub pinned_reserves : (m : Machine) → PlacesPinned m size place attempt new → ReservesLittle m new
  pinned_reserves m =
      acquired_reserves Pinned m
      (MatchOption (lowest_in_step m) (PinnedAfterFull m size place attempt new) (λ k. (attempt ≡ waits k) × (new ≡ m)))
      (λ h. either_option (lowest_in_step m) (PinnedAfterFull m size place attempt new)
      (λ k. (attempt ≡ waits k) × (new ≡ m)) h full (λ k same. unchanged m new same.1))
    where
      full : PinnedAfterFull m size place attempt new → ReservesLittle m new
      full (answer, after, c, more) =
          reserves_after m after new (collection_reserves m 2 Compact answer after c)
          (acquired_reserves Pinned after ((attempt ≡ out_of_room) × (new ≡ after)) (λ h. unchanged after new h.1) more)

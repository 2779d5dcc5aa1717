-- Where the ephemeral segment becomes a small one, all of its objects get generation 2, and the sums stay bounded.
use Rattle.std.proofs.Common.{◌≡◌, ℕ, ◌+◌, ◌<◌, ◌≤◌, List, [], ◌∷◌, ◌++◌, map, ap, ◌∙◌, refl, arith, Bool, true}
use Rattle.std.proofs.Common.{false, if◌then◌else◌, filter, nat_lt}
use Rattle.std.proofs.lemmas.Bool.{lt-ltb}
use Rattle.clr_types.specs.Segments.{Layout, ephemeral, generation, opening_segment, reserved_end, same_kind}
use Rattle.clr_types.specs.Segments.{sealed_kind, sealed_segment, segment_or_empty, stands_in}
use Rattle.clr_types.specs.Rising.{IsIn}
use Rattle.clr_types.specs.declared.segment.SegInfo.{SegInfo}
use Rattle.clr_types.specs.declared.segment.SegKind.{SegKind}
use Rattle.clr_types.specs.declared.segment.SegKind.TheVariants.{Small, Ephemeral, Large, Pinned}
use Rattle.clr_types.proofs.RisingLists.{all_at}
use Rattle.clr_model.specs.Machine.{Machine, Object}
use Rattle.clr_model.specs.Lookups.{object_piece}
use Rattle.clr_model.specs.Allocation.{sealed, with_layout}
use Rattle.clr_model.specs.Lawful.{AreBoundedSums, IsLaid, IsLawful}
use Rattle.clr_model.proofs.BoundedSums.{bounded_older}
use Rattle.clr_model.proofs.LawfulPieces.{HasHome, piece-home, object-in-pieces}

-- no generation is above 2
pub generation_most : (layout : Layout) (place : ℕ) → generation layout place ≤ 2
generation_most layout place =
    go (stands_in (ephemeral layout) place) (nat_lt place layout.start1) (nat_lt place layout.start0)
  where
    go : (a b c : Bool) → (if a then (if b then 2 else (if c then 1 else 0)) else 2) ≤ 2
    go false b c = omega arith
    go true true c = omega arith
    go true false true = omega arith
    go true false false = omega arith

-- the new ephemeral segment is the only one
pub one_sealed : (ss : List SegInfo) (new : SegInfo)
    → filter (λ (s : SegInfo). same_kind Ephemeral s.kind) (map sealed_segment ss ++ new ∷ [])
    ≡ filter (λ (s : SegInfo). same_kind Ephemeral s.kind) (new ∷ [])
one_sealed [] new = refl
one_sealed (s ∷ ss) new =
    ap (λ b. if b then sealed_segment s ∷ left else left) (none s.kind) ∙ one_sealed ss new
  where
    left : List SegInfo
    left = filter (λ (s : SegInfo). same_kind Ephemeral s.kind) (map sealed_segment ss ++ new ∷ [])

    none : (k : SegKind) → same_kind Ephemeral (sealed_kind k) ≡ false
    none Small = refl
    none Ephemeral = refl
    none Large = refl
    none Pinned = refl

-- a place of an older segment has generation 2
sealed_old : (layout : Layout) (size place : ℕ) → place < layout.top → generation (sealed layout size) place ≡ 2
sealed_old layout size place low =
    ap (λ (s : SegInfo). if stands_in s place
    then (if nat_lt place (layout.top + 0x1000) then 2 else (if nat_lt place (layout.top + 0x1000) then 1 else 0))
    else 2)
    (ap segment_or_empty (one_sealed layout.segments new))
    ∙ either (stands_in new place) (nat_lt place (layout.top + 0x1000))
    (lt-ltb place (layout.top + 0x1000) (omega arith))
  where
    new : SegInfo
    new = opening_segment layout.top Ephemeral size

    either : (a b : Bool) → b ≡ true → ◌≡◌ {A = ℕ} (if a then (if b then 2 else (if b then 1 else 0)) else 2) 2
    either true true e = refl
    either true false e = absurd cc
    either false b e = refl

-- So no object gets younger.
pub sealed_older : (m : Machine) (size : ℕ) → IsLaid m → (o : Object) → IsIn o m.objects
    → generation m.layout o.place ≤ generation (sealed m.layout size) o.place
sealed_older m size h o i =
    let k : HasHome m.layout o.place = piece-home m h (object_piece m.types o) (object-in-pieces m h o i) in
    let top : reserved_end k.home ≤ m.layout.top =
    all_at (λ (s : SegInfo). reserved_end s ≤ m.layout.top) k.among h.layout.below_top in
    let high : o.place < reserved_end k.home = k.high in
    let old = sealed_old m.layout size o.place (omega arith) in
    let most = generation_most m.layout o.place in
    omega arith

-- Sealing keeps the sums bounded.
pub sealed_bounded : (m : Machine) (size : ℕ) → IsLawful m → AreBoundedSums (with_layout m (sealed m.layout size))
sealed_bounded m size h = bounded_older m (sealed m.layout size) (sealed_older m size h.laid) h.sums

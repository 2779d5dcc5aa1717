-- A lawful machine with another flag or other marks, and marks that begin and go on.
use Rattle.std.proofs.Common.{◌≡◌, ℕ, ◌⊎◌, inl, inr, suc, zero, [], ◌++◌, refl, sym, subst, Bool, Option}
use Rattle.std.proofs.Common.{IfSome, true}
use Rattle.clr_types.specs.Rising.{IsIn}
use Rattle.clr_types.specs.Segments.{stands_in}
use Rattle.clr_types.specs.declared.segment.SegInfo.{SegInfo}
use Rattle.clr_types.proofs.ChangedLists.{all_members, append_left}
use Rattle.clr_types.proofs.ListMembers.{append_right, in_append}
use Rattle.clr_types.proofs.RisingLists.{all_at}
use Rattle.clr_model.specs.Machine.{Machine, Marking, Object}
use Rattle.clr_model.specs.Lookups.{object_piece}
use Rattle.clr_model.specs.Reach.{Old}
use Rattle.clr_model.specs.Background.{IsBegun, IsLawfulMarking, Scans, ScansUpTo, taken}
use Rattle.clr_model.specs.Lawful.{IsBirthNamed, IsLaid, IsLawful, IsPlaceNamed}
use Rattle.clr_model.proofs.LawfulPieces.{HasHome, object-in-pieces, piece-home}
use Rattle.clr_model.proofs.Resegmented.{resegmented_lawful}

-- ---- the machine

module _ (m : Machine) (h : IsLawful m) (flag : Bool) (background : Option Marking)
    (marked : IfSome background (IsLawfulMarking m)) where
  laid : IsLaid (record m { compacts_large = flag; background = background })
  laid =
      let is = h.laid in
      record { layout = is.layout; housed = is.housed; tiled = is.tiled; whole1 = is.whole1; whole0 = is.whole0 }

  home : (o : Object) → IsIn o m.objects
      → (t : SegInfo) × IsIn t m.layout.segments × IsIn t m.layout.segments × (stands_in t o.place ≡ true)
  home o i =
      let n : HasHome m.layout o.place =
      piece-home m h.laid (object_piece m.types o) (object-in-pieces m h.laid o i) in
      (n.home, n.among, n.among, n.stands)

  -- Another flag and other marks leave it lawful.
  pub remarked_lawful : IsLawful (record m { compacts_large = flag; background = background })
  remarked_lawful = resegmented_lawful m h m.layout.segments flag background marked laid refl home h.limit

pub remarked_birth_named : (m : Machine) → IsBirthNamed m → (flag : Bool) (background : Option Marking)
    → IfSome background (IsLawfulMarking m) → IsBirthNamed (record m { compacts_large = flag; background = background })
remarked_birth_named m h flag background marked =
    record { lawful = remarked_lawful m h.lawful flag background marked; born = h.born }

pub remarked_place_named : (m : Machine) → IsPlaceNamed m → (flag : Bool) (background : Option Marking)
    → IfSome background (IsLawfulMarking m) → IsPlaceNamed (record m { compacts_large = flag; background = background })
remarked_place_named m h flag background marked =
    record {
      lawful = remarked_lawful m h.lawful flag background marked;
      places = h.places;
      uncounted = h.uncounted;
    }

-- ---- the marks

-- what is taken has one of the colours
colour : (k : Marking) (x : ℕ) → IsIn x (taken k) → IsIn x k.white ⊎ (IsIn x k.gray ⊎ IsIn x k.black)
colour k x i = go (in_append (k.white ++ k.gray) i)
  where
    light : IsIn x k.white ⊎ IsIn x k.gray → IsIn x k.white ⊎ (IsIn x k.gray ⊎ IsIn x k.black)
    light (inl j) = inl j
    light (inr j) = inr (inl j)

    go : IsIn x (k.white ++ k.gray) ⊎ IsIn x k.black → IsIn x k.white ⊎ (IsIn x k.gray ⊎ IsIn x k.black)
    go (inl j) = light (in_append k.white j)
    go (inr j) = inr (inr j)

-- the marks with which a background collection begins are lawful
pub begun_lawful : (m : Machine) (k : Marking) → IsBegun m k → IsLawfulMarking m k
begun_lawful m k is = record {
  present = all_members (Old m 1) (taken k) (λ x i. go x (colour k x i));
  apart = is.apart;
}
  where
    none : (x : ℕ) → IsIn x [] → ⊥
    none x i = elim i [ ]

    go : (x : ℕ) → IsIn x k.white ⊎ (IsIn x k.gray ⊎ IsIn x k.black) → Old m 1 x
    go x (inl i) = ((is.white x).0 i).0
    go x (inr (inl i)) = ((is.gray x).0 i).0
    go x (inr (inr i)) = absurd (none x (subst (IsIn x) is.black i))

-- and those after a scan
pub scanned_lawful : (m : Machine) (old new : Marking) → IsLawfulMarking m old → Scans m old new
    → IsLawfulMarking m new
scanned_lawful m old new h c = record {
  present = all_members (Old m 1) (taken new) (λ x i. go x (colour new x i));
  apart = c.apart;
}
  where
    was_white : (x : ℕ) → IsIn x old.white → Old m 1 x
    was_white x i = all_at (Old m 1) (append_left old.black (append_left old.gray i)) h.present

    was_gray : (x : ℕ) → IsIn x old.gray → Old m 1 x
    was_gray x i = all_at (Old m 1) (append_left old.black (append_right old.white i)) h.present

    was_black : (x : ℕ) → IsIn x old.black → Old m 1 x
    was_black x i = all_at (Old m 1) (append_right (old.white ++ old.gray) i) h.present

    go : (x : ℕ) → IsIn x new.white ⊎ (IsIn x new.gray ⊎ IsIn x new.black) → Old m 1 x
    go x (inl i) = was_white x ((c.white x).0 i).0
    go x (inr (inl i)) = elim ((c.gray x).0 i) [ inl j ↦ was_gray x j.0 | inr j ↦ was_white x j.0 ]
    go x (inr (inr i)) = elim ((c.black x).0 i) [
      | inl j ↦ was_black x j
      | inr e ↦ was_gray x (subst (λ y. IsIn y old.gray) (sym e) c.was_gray)
    ]

-- and after as many as a line asks for
pub scans_lawful : (m : Machine) (n : ℕ) (old : Marking) (count : ℕ) (new : Marking) → IsLawfulMarking m old
    → ScansUpTo m n old count new → IsLawfulMarking m new
scans_lawful m zero old count new h c = subst (IsLawfulMarking m) (sym c.1) h
scans_lawful m (suc n) old zero new h c = subst (IsLawfulMarking m) (sym c.1) h
scans_lawful m (suc n) old (suc count) new h c =
    let (mid, one, more) = c in scans_lawful m n mid count new (scanned_lawful m old mid h one) more

-- What a background collection took stays lawful, where the objects that it took stay, of generation 2.
use Rattle.std.proofs.Common.{◌≡◌, ◌≢◌, ℕ, ◌<◌, ◌⊎◌, inl, inr, List, [], ◌∷◌, ◌++◌, map, refl, sym, ap, subst, ◌∙◌}
use Rattle.std.proofs.Common.{if◌then◌else◌, ◌==◌, Option, Some, None, IfSome}
use Rattle.std.proofs.lemmas.List.{map-append}
use Rattle.std.specs.Option.{option_map}
use Rattle.std.specs.List.{AllByRecursion}
use Rattle.clr_types.specs.Rising.{IsIn, first, later, changed_by}
use Rattle.clr_types.specs.Segments.{generation}
use Rattle.clr_types.proofs.RisingLists.{in_cons}
use Rattle.clr_types.proofs.ChangedLists.{all_imply}
use Rattle.clr_model.specs.Machine.{Machine, Marking, Object}
use Rattle.clr_model.specs.Picture.{renamed_marking}
use Rattle.clr_model.specs.Reach.{Old}
use Rattle.clr_model.specs.Background.{IsLawfulMarking, taken}
use Rattle.clr_model.specs.Sos.{IsWithoutRepeats}

-- an old object of before is one of afterwards, by what it has become
pub old_as : (m next : Machine) (become : Object → Object) → ((o : Object) → (become o).name ≡ o.name)
    → ((o : Object) → IsIn o m.objects → IsIn (become o) next.objects)
    → ((o : Object) → IsIn o m.objects → 1 < generation m.layout o.place
    → 1 < generation next.layout (become o).place)
    → (x : ℕ) → Old m 1 x → Old next 1 x
old_as m next become named there old x is = record {
  object = become is.object;
  present = there is.object is.present;
  named = named is.object ∙ is.named;
  above = old is.object is.present is.above;
}

pub marking_kept : (m next : Machine) (r : Option Marking) → ((x : ℕ) → Old m 1 x → Old next 1 x)
    → IfSome r (IsLawfulMarking m) → IfSome r (IsLawfulMarking next)
marking_kept m next None old is = tt
marking_kept m next (Some k) old is = record {
  present = all_imply (Old m 1) (Old next 1) (taken k) old is.present;
  apart = is.apart;
}

-- ---- other names

taken-renamed : (to : ℕ → ℕ) (k : Marking) → taken (renamed_marking to k) ≡ map to (taken k)
taken-renamed to k =
    ap (λ xs. xs ++ map to k.black) (sym (map-append to k.white k.gray))
    ∙ sym (map-append to (k.white ++ k.gray) k.black)

all-renamed : (to : ℕ → ℕ) (P Q : ℕ → Type 0) (xs : List ℕ) → ((x : ℕ) → P x → Q (to x)) → AllByRecursion P xs
    → AllByRecursion Q (map to xs)
all-renamed to P Q [] f all = tt
all-renamed to P Q (x ∷ xs) f all = (f x all.0, all-renamed to P Q xs f all.1)

module _ (to : ℕ → ℕ) (P : ℕ → Type 0) (one : (x y : ℕ) → P x → P y → to x ≡ to y → x ≡ y) where
  none-alike : (x : ℕ) → P x → (ys : List ℕ) → AllByRecursion P ys → AllByRecursion (λ y. x ≢ y) ys
      → AllByRecursion (λ y. to x ≢ y) (map to ys)
  none-alike x p [] all other = tt
  none-alike x p (y ∷ ys) all other = (λ e. other.0 (one x y p all.0 e), none-alike x p ys all.1 other.1)

  apart-renamed : (xs : List ℕ) → AllByRecursion P xs → IsWithoutRepeats xs → IsWithoutRepeats (map to xs)
  apart-renamed [] all apart = tt
  apart-renamed (x ∷ xs) all apart = (none-alike x all.0 xs all.1 apart.0, apart-renamed xs all.1 apart.1)

-- names that are apart for what was taken are changed
pub marking_renamed : (m next : Machine) (to : ℕ → ℕ) (r : Option Marking)
    → ((x y : ℕ) → Old m 1 x → Old m 1 y → to x ≡ to y → x ≡ y) → ((x : ℕ) → Old m 1 x → Old next 1 (to x))
    → IfSome r (IsLawfulMarking m) → IfSome (option_map (renamed_marking to) r) (IsLawfulMarking next)
marking_renamed m next to None one old is = tt
marking_renamed m next to (Some k) one old is = record {
  present =
      subst (AllByRecursion (Old next 1)) (sym (taken-renamed to k))
      (all-renamed to (Old m 1) (Old next 1) (taken k) old is.present);
  apart = subst IsWithoutRepeats (sym (taken-renamed to k))
      (apart-renamed to (Old m 1) one (taken k) is.present is.apart);
}

-- ---- the same names

module _ (P : ℕ → Type 0) (f g : ℕ → ℕ) (same : (x : ℕ) → P x → f x ≡ g x) where
  map-alike : (xs : List ℕ) → AllByRecursion P xs → map f xs ≡ map g xs
  map-alike [] all = refl
  map-alike (x ∷ xs) all = let here = same x all.0 in let rest = map-alike xs all.1 in λ i. here i ∷ rest i

  left-of : (xs ys : List ℕ) → AllByRecursion P (xs ++ ys) → AllByRecursion P xs
  left-of [] ys all = tt
  left-of (x ∷ xs) ys all = (all.0, left-of xs ys all.1)

  right-of : (xs ys : List ℕ) → AllByRecursion P (xs ++ ys) → AllByRecursion P ys
  right-of [] ys all = all
  right-of (x ∷ xs) ys all = right-of xs ys all.1

  marking-alike : (k : Marking) → AllByRecursion P (taken k) → renamed_marking f k ≡ renamed_marking g k
  marking-alike k all =
      let both = left-of (k.white ++ k.gray) k.black all in
      let white = map-alike k.white (left-of k.white k.gray both) in
      let gray = map-alike k.gray (right-of k.white k.gray both) in
      let black = map-alike k.black (right-of (k.white ++ k.gray) k.black all) in
      λ i. record { white = white i; gray = gray i; black = black i }

-- two changes of names that agree on what is there agree on what was taken
pub marking_same : (m : Machine) (f g : ℕ → ℕ) (r : Option Marking) → ((x : ℕ) → Old m 1 x → f x ≡ g x)
    → IfSome r (IsLawfulMarking m) → option_map (renamed_marking f) r ≡ option_map (renamed_marking g) r
marking_same m f g None same is = refl
marking_same m f g (Some k) same is = ap Some (marking-alike (Old m 1) f g same k is.present)

-- and a change that leaves them leaves it
pub marking_still : (m : Machine) (f : ℕ → ℕ) (r : Option Marking) → ((x : ℕ) → Old m 1 x → f x ≡ x)
    → IfSome r (IsLawfulMarking m) → option_map (renamed_marking f) r ≡ r
marking_still m f r still is = marking_same m f (λ x. x) r still is ∙ go r
  where
    itself : (xs : List ℕ) → map (λ x. x) xs ≡ xs
    itself [] = refl
    itself (x ∷ xs) = ap (λ ys. x ∷ ys) (itself xs)

    go : (r : Option Marking) → option_map (renamed_marking (λ x. x)) r ≡ r
    go None = refl
    go (Some k) =
        let white = itself k.white in let gray = itself k.gray in let black = itself k.black in
        λ i. Some (record { white = white i; gray = gray i; black = black i })

-- ---- a changed object

-- each object is there with the change, where it has the key
pub in_changed : {X : Type 0} (key : X → ℕ) (k : ℕ) (change : X → X) (x : X) (xs : List X) → IsIn x xs
    → IsIn (if key x == k then change x else x) (changed_by key k change xs)
in_changed key k change x [] i = elim i [ ]
in_changed key k change x (y ∷ ys) i = go (in_cons i) (in_changed key k change x ys)
  where
    go : (x ≡ y) ⊎ IsIn x ys
        → (IsIn x ys → IsIn (if key x == k then change x else x) (changed_by key k change ys))
        → IsIn (if key x == k then change x else x) (changed_by key k change (y ∷ ys))
    go (inl e) more =
        subst (λ z. IsIn (if key z == k then change z else z) (changed_by key k change (y ∷ ys))) (sym e) first
    go (inr j) more = later (more j)

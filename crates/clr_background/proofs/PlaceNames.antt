-- Names of places, in lists.
use Rattle.std.proofs.Common.{◌≡◌, ◌≢◌, ℕ, inl, inr, List, [], ◌∷◌, ◌++◌, map, refl, sym, ap, subst, ◌∙◌}
use Rattle.std.specs.List.{AllByRecursion}
use Rattle.std.proofs.lemmas.List.{map-append}
use Rattle.clr_types.specs.Rising.{IsIn, first, later}
use Rattle.clr_types.proofs.ListMembers.{from-map}
use Rattle.clr_types.proofs.RisingLists.{in_cons}
use Rattle.clr_model.specs.Background.{taken}
use Rattle.clr_model.specs.Lookups.{place_of}
use Rattle.clr_model.specs.Machine.{Machine, Marking}
use Rattle.clr_model.specs.Picture.{renamed_marking}
use Rattle.clr_model.specs.Sos.{IsWithoutRepeats}
use Rattle.clr_model.proofs.NamedWell.{AreNamed, HasObject, name-of-place}

module _ (m : Machine) (h : AreNamed m) where
  abbrev to : ℕ → ℕ
  to = place_of m.objects

  -- the names of places, one after the other
  pub names_of : (zs : List ℕ) → ((z : ℕ) → IsIn z zs → (x : ℕ) × (z ≡ to x) × HasObject m.objects x)
      → (xs : List ℕ) × (map to xs ≡ zs) × ((x : ℕ) → IsIn x xs → HasObject m.objects x)
  names_of [] f = ([], refl, λ x i. elim i [ ])
  names_of (z ∷ zs) f =
      let (x, e, o) = f z first in
      let (xs, same, all) = names_of zs (λ w i. f w (later i)) in (
        x ∷ xs,
        (λ i. sym e i ∷ same i),
        λ y i. elim (in_cons i) [
          | inl is ↦ subst (HasObject m.objects) (sym is) o
          | inr j ↦ all y j
        ],
      )

  -- two names of one place are one, where one is an object's
  pub one_name : (x y : ℕ) → HasObject m.objects y → to x ≡ to y → x ≡ y
  one_name x y (o, i, n) e = name-of-place m h x o i (e ∙ ap to (sym n)) ∙ n

  -- a name is in a list just where its place is among those of the list
  pub back_in : (x : ℕ) → HasObject m.objects x → (xs : List ℕ) → IsIn (to x) (map to xs) → IsIn x xs
  back_in x there xs j =
      let (y, e, l) = from-map to (to x) xs j in subst (λ w. IsIn w xs) (one_name y x there (sym e)) l

-- ---- markings

pub taken_renamed : (to : ℕ → ℕ) (k : Marking) → taken (renamed_marking to k) ≡ map to (taken k)
taken_renamed to k =
    ap (λ xs. xs ++ map to k.black) (sym (map-append to k.white k.gray))
    ∙ sym (map-append to (k.white ++ k.gray) k.black)

-- names are apart where their places are
pub apart_was : (to : ℕ → ℕ) (xs : List ℕ) → IsWithoutRepeats (map to xs) → IsWithoutRepeats xs
apart_was to [] apart = tt
apart_was to (x ∷ xs) apart = (others x xs apart.0, apart_was to xs apart.1)
  where
    others : (x : ℕ) (xs : List ℕ) → AllByRecursion (λ z. to x ≢ z) (map to xs) → AllByRecursion (λ y. x ≢ y) xs
    others x [] all = tt
    others x (y ∷ ys) all = (λ e. all.0 (ap to e), others x ys all.1)

pub taken_apart : (to : ℕ → ℕ) (k after : Marking) → renamed_marking to k ≡ after → IsWithoutRepeats (taken after)
    → IsWithoutRepeats (taken k)
taken_apart to k after e apart =
    apart_was to (taken k) (subst IsWithoutRepeats (ap taken (sym e) ∙ taken_renamed to k) apart)

-- Handles that are put into a table by rising number.
use Rattle.std.proofs.Common.{◌≡◌, ℕ, suc, ◌+◌, ◌<◌, ◌==◌, nat_lt, Bool, true, false, cond, List, [], ◌∷◌, ◌++◌, length}
use Rattle.std.proofs.Common.{take, get_or, Some, None, refl, sym, ◌∙◌, ap, arith}
use Rattle.std.proofs.lemmas.Bool.Decides.{nat_tests}
use Rattle.std.proofs.lemmas.List.{nil_from_length, take_more}
use Rattle.std.specs.Cmp.{nat_cmp_total}
use Rattle.std.specs.FinMap as finmap
use Rattle.std.specs.FinMap.{find, FinMap, put}
use Rattle.std.specs.List.{AllByRecursion}
use Rattle.std.specs.Ordering.{eq_by_cmp, nat_cmp}
use Rattle.std.specs.declared.cmp.Ordering.TheVariants.{Greater}
use Rattle.clr_types.specs.Rising.{first, IsIn, IsRisingBy, later}
use Rattle.clr_types.specs.declared.handle.Handle.{Handle}

abbrev pub number_of : ℕ × Handle → ℕ
number_of e = e.0

greater : (k x : ℕ) → x < k → nat_cmp k x ≡ Greater
greater k x l =
    let no_less : nat_lt k x ≡ false = grind (arith, nat_tests, l) in
    let not_same : (k == x) ≡ false = grind (arith, nat_tests, l) in
    rw (no_less, not_same) refl

-- one behind all others
put_last : (k : ℕ) (row : Handle) (es : List (ℕ × Handle)) → AllByRecursion (λ (e : ℕ × Handle). e.0 < k) es
    → put nat_cmp k row es ≡ es ++ (k, row) ∷ []
put_last k row [] all = refl
put_last k row (e ∷ es) all =
    let here = greater k e.0 all.0 in rw here (ap (λ (fs : List (ℕ × Handle)). e ∷ fs) (put_last k row es all.1))

find_none : (k : ℕ) (es : List (ℕ × Handle)) → AllByRecursion (λ (e : ℕ × Handle). e.0 < k) es
    → find nat_cmp k es ≡ None
find_none k [] all = refl
find_none k (e ∷ es) all = let here = greater k e.0 all.0 in rw here (find_none k es all.1)

-- in a list that rises, those before an element have lower numbers
lower_before : (es : List (ℕ × Handle)) (i : ℕ) (d : ℕ × Handle) → i < length es → IsRisingBy number_of es
    → AllByRecursion (λ (e : ℕ × Handle). e.0 < (get_or es i d).0) (take i es)
lower_before [] i d l rising = absurd (omega arith)
lower_before (e ∷ es) ℕ.zero d l rising = tt
lower_before (e ∷ es) (suc i) d l rising =
    (at es i rising.0 (omega arith), lower_before es i d (omega arith) rising.1)
  where
    at : (fs : List (ℕ × Handle)) (j : ℕ) → AllByRecursion (λ (f : ℕ × Handle). e.0 < f.0) fs → j < length fs
        → e.0 < (get_or fs j d).0
    at [] j all l = absurd (omega arith)
    at (f ∷ fs) ℕ.zero all l = all.0
    at (f ∷ fs) (suc j) all l = at fs j all.1 (omega arith)

module _ (es : List (ℕ × Handle)) (i : ℕ) (d : ℕ × Handle) (l : i < length es) (rising : IsRisingBy number_of es)
    (m : FinMap nat_cmp Handle) (so_far : finmap.entries m ≡ take i es) where
  -- the next number isn't in use
  pub next_free : finmap.get m (get_or es i d).0 ≡ None
  next_free =
      finmap.get-entries m (get_or es i d).0 ∙ ap (find nat_cmp (get_or es i d).0) so_far
      ∙ find_none (get_or es i d).0 (take i es) (lower_before es i d l rising)

  -- and stands behind all others
  pub next_put : finmap.entries (finmap.insert m (get_or es i d).0 (get_or es i d).1) ≡ take (i + 1) es
  next_put =
      finmap.entries-insert nat_cmp_total m (get_or es i d).0 (get_or es i d).1
      ∙ ap (put nat_cmp (get_or es i d).0 (get_or es i d).1) so_far
      ∙ put_last (get_or es i d).0 (get_or es i d).1 (take i es) (lower_before es i d l rising)
      ∙ sym (take_more es i d l)

-- a table without handles
pub none_yet : (m : FinMap nat_cmp Handle) → m ≡ finmap.empty → finmap.entries m ≡ []
none_yet m e =
    nil_from_length (finmap.entries m)
    (sym (finmap.len-entries m) ∙ ap (λ (t : FinMap nat_cmp Handle). finmap.len t) e ∙ finmap.len-empty nat_cmp Handle)

-- what a table answers is one of its entries
pub value_among : (m : FinMap nat_cmp Handle) (k : ℕ) (row : Handle) → finmap.get m k ≡ Some row
    → (e : ℕ × Handle) × IsIn e (finmap.entries m) × (e.1 ≡ row)
value_among m k row e = go (finmap.entries m) (sym (finmap.get-entries m k) ∙ e)
  where
    go : (es : List (ℕ × Handle)) → find nat_cmp k es ≡ Some row → (e : ℕ × Handle) × IsIn e es × (e.1 ≡ row)
    go [] f = absurd cc
    go (e ∷ es) f = here (eq_by_cmp nat_cmp k e.0) f (go es)
      where
        here : (t : Bool) → cond t (Some e.1) (find nat_cmp k es) ≡ Some row
            → (find nat_cmp k es ≡ Some row → (g : ℕ × Handle) × IsIn g es × (g.1 ≡ row))
            → (g : ℕ × Handle) × IsIn g (e ∷ es) × (g.1 ≡ row)
        here true f more = let same : e.1 ≡ row = cc in (e, first, same)
        here false f more = let found = more f in (found.0, later found.1, found.2)

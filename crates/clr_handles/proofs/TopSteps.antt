-- The tops of the chunks, after a change of the table.
use Rattle.std.proofs.Common.{◌≡◌, ◌≢◌, ◌⊎◌, ℕ, ◌/◌, ◌<◌, ◌≤◌, List, [], length, get_or, Some, None, inl, inr, sym}
use Rattle.std.proofs.Common.{ap, ◌∙◌, subst, arith}
use Rattle.std.proofs.lemmas.Bool.{cases_eq}
use Rattle.std.proofs.lemmas.List.{get_or_default}
use Rattle.std.specs.Ordering.{nat_cmp}
use Rattle.std.specs.FinMap as finmap
use Rattle.clr_types.specs.declared.handle.Handle.{Handle}
use Rattle.clr_handles.specs.Tables.{Table}
use Rattle.clr_handles.specs.Tops.{reach, AreTops, IsTop, HasGrown, HasRaised}
use Rattle.clr_handles.proofs.Lookups.{get-inserted, get-insert_other, get-removed, get-remove_other}

found : {x y : Handle} → Some x ≡ Some y → x ≡ y
found e = cc

not-found : {A : Type 0} {x : Handle} → None ≡ Some x → A
not-found e = absurd cc

pub tops-empty : (table : Table) → table ≡ finmap.empty → AreTops table []
tops-empty table empty =
    record {
      few = omega arith;
      chunk = λ h row here. not-found (sym (nothing h) ∙ here);
      top = λ h row here. not-found (sym (nothing h) ∙ here);
    }
  where
    nothing : (h : ℕ) → finmap.get table h ≡ None
    nothing h = ap (λ t. finmap.get t h) empty ∙ finmap.get-empty nat_cmp h

pub tops-grown : (table : Table) (old new : List ℕ) → AreTops table old → HasGrown old new → AreTops table new
tops-grown table old new tops grown =
    record {
      few = grown.few;
      chunk = λ h row here.
          let within = tops.chunk h row here in
          let longer = grown.longer in
          omega (arith, within, longer);
      top =
          λ h row here. subst (λ t. reach row ≤ t) (sym (grown.kept (h / 64) (tops.chunk h row here)))
          (tops.top h row here);
    }

-- a handle more, or another in its place, and the top of its chunk raised
pub tops-put : (table : Table) (old new : List ℕ) (at : ℕ) (handle : Handle) → AreTops table old → at / 64 < length old
    → HasRaised old new (at / 64) (reach handle) → AreTops (finmap.insert table at handle) new
tops-put table old new at handle tops within raised =
    record {
      few = let few = tops.few in let same = raised.same_length in omega (arith, few, same);
      chunk = λ h row here. subst (λ n. h / 64 < n) (sym raised.same_length) (chunk h row here (cases_eq h at));
      top = λ h row here. top h row here (cases_eq h at);
    }
  where
    other : (h : ℕ) (row : Handle) → finmap.get (finmap.insert table at handle) h ≡ Some row → h ≢ at
        → finmap.get table h ≡ Some row
    other h row here apart = sym (get-insert_other table at h handle apart) ∙ here

    chunk : (h : ℕ) (row : Handle) → finmap.get (finmap.insert table at handle) h ≡ Some row → (h ≡ at) ⊎ (h ≢ at)
        → h / 64 < length old
    chunk h row here (inl e) = subst (λ n. n / 64 < length old) (sym e) within
    chunk h row here (inr apart) = tops.chunk h row (other h row here apart)

    top : (h : ℕ) (row : Handle) → finmap.get (finmap.insert table at handle) h ≡ Some row → (h ≡ at) ⊎ (h ≢ at)
        → reach row ≤ get_or new (h / 64) 0
    top h row here (inl e) =
        let is : handle ≡ row =
        found (sym (get-inserted table at handle) ∙ ap (finmap.get (finmap.insert table at handle)) (sym e)
        ∙ here) in
        subst (λ n. reach row ≤ get_or new (n / 64) 0) (sym e)
        (subst (λ (r : Handle). reach r ≤ get_or new (at / 64) 0) is raised.here)
    top h row here (inr apart) =
        let low = tops.top h row (other h row here apart) in
        let high = raised.higher (h / 64) in
        omega (arith, low, high)

pub tops-removed : (table : Table) (tops : List ℕ) (at : ℕ) → AreTops table tops → AreTops (finmap.remove table at) tops
tops-removed table list at tops =
    record {
      few = tops.few;
      chunk = λ h row here. tops.chunk h row (kept h row here (cases_eq h at));
      top = λ h row here. tops.top h row (kept h row here (cases_eq h at));
    }
  where
    kept : (h : ℕ) (row : Handle) → finmap.get (finmap.remove table at) h ≡ Some row → (h ≡ at) ⊎ (h ≢ at)
        → finmap.get table h ≡ Some row
    kept h row here (inl e) = not-found (sym (ap (finmap.get (finmap.remove table at)) e ∙ get-removed table at) ∙ here)
    kept h row here (inr apart) = sym (get-remove_other table at h apart) ∙ here

-- the top of a chunk, as it is read
pub top-read : (table : Table) (tops : List ℕ) (chunk top : ℕ) → AreTops table tops → top ≡ get_or tops chunk top
    → IsTop table chunk top
top-read table list chunk top tops read h row from to here =
    let at : h / 64 ≡ chunk = omega arith in
    let within : chunk < length list = subst (λ c. c < length list) at (tops.chunk h row here) in
    let under = subst (λ c. reach row ≤ get_or list c 0) at (tops.top h row here) in
    subst (λ t. reach row ≤ t) (get_or_default list chunk 0 top within ∙ sym read) under

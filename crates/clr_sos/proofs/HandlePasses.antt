-- A pass over handles by rising number, each of which is to be good.
use Rattle.std.proofs.Common.{◌≡◌, ℕ, ◌+◌, ◌<◌, ◌||◌, nat_le, Bool, true, false, Some, sym, ◌∙◌, ap, subst}
use Rattle.std.proofs.Common.{arith, inl, inr}
use Rattle.std.proofs.lemmas.Bool.{cases_lt, true≢false}
use Rattle.std.specs.FinMap as finmap
use Rattle.clr_types.specs.declared.handle.Handle.{Handle}
use Rattle.clr_handles.specs.Places.{IsNext, names_from, NoneNames}
use Rattle.clr_handles.specs.Tables.{Table}

-- all handles name a place from 0 on
names-any : (row : Handle) → names_from 0 row ≡ true
names-any row = let low : nat_le 0 row.target ≡ true = grind arith in ap (λ (b : Bool). b || nat_le 0 row.second) low

module _ (table : Table) (P : Handle → Type 0) where
  -- those with numbers below a bound are good
  abbrev pub GoodBelow : ℕ → Type 0
  GoodBelow from = (k : ℕ) (row : Handle) → k < from → finmap.get table k ≡ Some row → P row

  pub good_none : GoodBelow 0
  good_none k row l e = absurd (omega arith)

  pub good_on : (from number : ℕ) (row : Handle) → GoodBelow from → IsNext table 0 from number row → P row
      → GoodBelow (number + 1)
  good_on from number row good next here k other l e = elim (cases_lt k from) [
    | inl below ↦ good k other below e
    | inr above ↦ elim (cases_lt k number) [
      | inl before ↦
          absurd (true≢false (sym (names-any other) ∙ next.none_before k other above before e))
      | inr past ↦
          let is : k ≡ number = omega arith in
          let same : row ≡ other = some-is (sym next.in_use ∙ ap (finmap.get table) (sym is) ∙ e) in
          subst P same here
    ]
  ]
    where
      some-is : {x y : Handle} → Some x ≡ Some y → x ≡ y
      some-is e = cc

  pub good_all : (from : ℕ) → GoodBelow from → NoneNames table 0 from 65536
      → ((k : ℕ) (row : Handle) → finmap.get table k ≡ Some row → k < 65536)
      → (k : ℕ) (row : Handle) → finmap.get table k ≡ Some row → P row
  good_all from good none below k row e = elim (cases_lt k from) [
    | inl low ↦ good k row low e
    | inr high ↦ absurd (true≢false (sym (names-any row) ∙ none k row high (below k row e) e))
  ]

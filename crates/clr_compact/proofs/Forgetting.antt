-- Entries that are taken away.
use Rattle.std.proofs.Common.{◌≡◌, inl, inr, ℕ, zero, suc, ◌+◌, ◌*◌, ◌/◌, ◌<◌, ◌≤◌, ◌&&◌, refl, ap, sym, ◌∙◌}
use Rattle.std.proofs.Common.{arith, eqb, leb, ltb, cond, ℤ, pos, negsuc, List}
use Rattle.std.proofs.lemmas.Bool.{cases_eq, cases_lt, eq-eqb, le-leb, le-ltb, lt-leb, lt-ltb, ne_eqb}
use Rattle.clr_covers.specs.Covers.{CoverView}
use Rattle.clr_covers.proofs.Filling.{between-inside, between-outside}
use Rattle.clr_bricks.specs.Bricks.{entry_at}
use Rattle.clr_compact.specs.Entered.{forgotten, kept_below}

-- a brick of the part has what is kept of its entry
forgotten-inside : (entry : ℕ → ℤ) (from end brick : ℕ) → from / 4096 ≤ brick → 4096 * brick < end
    → forgotten entry from end brick ≡ kept_below from brick (entry brick)
forgotten-inside entry from end brick low high =
    rw (le-ltb brick (from / 4096) low, lt-leb end (4096 * brick) high) refl

pub forgotten-outside : (entry : ℕ → ℤ) (from end brick : ℕ) → end ≤ 4096 * brick
    → forgotten entry from end brick ≡ entry brick
forgotten-outside entry from end brick high = elim (cases_lt brick (from / 4096)) [
  | inl low ↦ rw (lt-ltb brick (from / 4096) low) refl
  | inr up ↦ rw (le-ltb brick (from / 4096) up, le-leb end (4096 * brick) high) refl
]

pub forgotten-before : (entry : ℕ → ℤ) (from end brick : ℕ) → brick < from / 4096
    → forgotten entry from end brick ≡ entry brick
forgotten-before entry from end brick low = rw (lt-ltb brick (from / 4096) low) refl

-- a part that ends before its first brick has none to take away
pub forgotten_none : (bricks : List (CoverView ℤ)) (from end i : ℕ) → end ≤ 4096 * (from / 4096)
    → entry_at bricks i ≡ forgotten (entry_at bricks) from end i
forgotten_none bricks from end i none = elim (cases_lt i (from / 4096)) [
  | inl low ↦ sym (forgotten-before (entry_at bricks) from end i low)
  | inr up ↦ sym (forgotten-outside (entry_at bricks) from end i (omega arith))
]

-- nothing is kept of a brick that begins behind the place
kept-none : (from brick : ℕ) (entry : ℤ) → from ≤ 4096 * brick → kept_below from brick entry ≡ pos 0
kept-none from brick (pos zero) high = refl
kept-none from brick (pos (suc offset)) high = rw (le-ltb (4096 * brick + offset) from (omega arith)) refl
kept-none from brick (negsuc back) high = refl

-- the first brick may keep its entry, and all others are cleared at once
forgotten-all : (entry : ℕ → ℤ) (from end i : ℕ) → 4096 * (from / 4096) < end
    → cond (leb (from / 4096 + 1) i && ltb i ((end + 4095) / 4096)) (pos 0)
    (cond (eqb i (from / 4096)) (kept_below from (from / 4096) (entry (from / 4096))) (entry i))
    ≡ forgotten entry from end i
forgotten-all entry from end i some =
    let first = from / 4096 in
    let past = (end + 4095) / 4096 in
    let own = cond (eqb i first) (kept_below from first (entry first)) (entry i) in
    elim (cases_lt i first) [
      | inl before ↦ between-outside (pos 0) own (first + 1) past i (λ l h. absurd (omega arith))
          ∙ rw (ne_eqb i first (λ e. absurd (omega arith))) (sym (forgotten-before entry from end i before))
      | inr up ↦ elim (cases_eq i first) [
        | inl at ↦ between-outside (pos 0) own (first + 1) past i (λ l h. absurd (omega arith))
            ∙ rw (eq-eqb i first at) (ap (λ (j : ℕ). kept_below from j (entry j)) (sym at)
            ∙ sym (forgotten-inside entry from end i up (omega arith)))
        | inr ne ↦ elim (cases_lt (4096 * i) end) [
          | inl under ↦ between-inside (pos 0) own (first + 1) past i (omega arith) (omega arith)
              ∙ sym (forgotten-inside entry from end i up under ∙ kept-none from i (entry i) (omega arith))
          | inr over ↦ between-outside (pos 0) own (first + 1) past i (λ l h. absurd (omega arith))
              ∙ rw (ne_eqb i first ne) (sym (forgotten-outside entry from end i over))
        ]
      ]
    ]

pub forgotten_all : (old kept new : List (CoverView ℤ)) (from end i : ℕ) → 4096 * (from / 4096) < end
    → entry_at kept i
    ≡ cond (eqb i (from / 4096)) (kept_below from (from / 4096) (entry_at old (from / 4096))) (entry_at old i)
    → entry_at new i
    ≡ cond (leb (from / 4096 + 1) i && ltb i ((end + 4095) / 4096)) (pos 0) (entry_at kept i)
    → entry_at new i ≡ forgotten (entry_at old) from end i
forgotten_all old kept new from end i some first rest =
    rest
    ∙ ap (λ (e : ℤ). cond (leb (from / 4096 + 1) i && ltb i ((end + 4095) / 4096)) (pos 0) e) first
    ∙ forgotten-all (entry_at old) from end i some

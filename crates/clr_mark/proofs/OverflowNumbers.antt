-- The numbers of windows, before a range is added and when the last one goes.
use Rattle.std.proofs.Common.{◌≡◌, ◌≢◌, ℕ, ◌+◌, ◌-◌, ◌*◌, ◌<◌, ◌≤◌, ◌==◌, Bool, true, false, if◌then◌else◌, List, [], ◌∷◌}
use Rattle.std.proofs.Common.{◌++◌, get_or, length, max, min, refl, ap, ap₂, sym, ◌∙◌, subst, arith, set, replicate, sum_by}
use Rattle.std.proofs.lemmas.Bool.{ne_eqb}
use Rattle.std.proofs.lemmas.List.{get_or_append_left, get_or_default, get_or-replicate, get_or-set_other, get_or-set_same}
use Rattle.std.proofs.lemmas.List.{length-append, length-replicate, length-set}
use Rattle.std.proofs.lemmas.List.Folds.{sum_by-replicate}
use Rattle.std.proofs.lemmas.List.Sums.{sum_by-set}
use Rattle.std.proofs.Math.Seq.{get_or-append_seam}
use Rattle.clr_mark.specs.Overflow.{AreNumbered, is_free, range_at, widened, window}
use Rattle.clr_mark.proofs.WidenedRanges.{ArePassed, widened-at}

-- at first no window has one
pub numbered-none : (capacity : ℕ) → 4096 ≤ capacity → AreNumbered [] (replicate 4096 0) capacity
numbered-none capacity much = record {
  windows = length-replicate {A = ℕ} 4096 0;
  own = λ i l. absurd (omega (arith, l));
  told = λ w l some. let none = get_or-replicate {A = ℕ} 4096 w 0 0 l in absurd (omega (arith, some, none));
  free = let sum = sum_by-replicate is_free 4096 0 in omega (arith, sum);
  room = much;
}

module _ (ranges : List (ℕ × ℕ)) (numbers : List ℕ) (capacity : ℕ) (are : AreNumbered ranges numbers capacity) where
  -- a window without a number has no range
  pub passed-none : (a : ℕ) → get_or numbers (window a) 0 ≡ 0 → ArePassed ranges (length ranges) a
  passed-none a none i l same =
      let own = are.own i l in
      let here : get_or numbers (window (range_at ranges i).0) 0 ≡ get_or numbers (window a) 0 =
      ap (λ w. get_or numbers w 0) same in
      absurd (omega (arith, own, here, none))

  -- and one with a number no other range
  pub passed-others : (a n : ℕ) → get_or numbers (window a) 0 ≡ n → n ≤ length ranges → ArePassed ranges (n - 1) a
  passed-others a n is few i l same =
      let own = are.own i (omega (arith, l, few)) in
      let here : get_or numbers (window (range_at ranges i).0) 0 ≡ get_or numbers (window a) 0 =
      ap (λ w. get_or numbers w 0) same in
      absurd (omega (arith, own, here, is, l))

  -- the one of its window takes an address in
  pub widened-told : (a number : ℕ) (range : ℕ × ℕ) (low high : ℕ) → number ≡ get_or numbers (window a) number
      → number ≢ 0 → range ≡ get_or ranges (number - 1) range → low ≡ min range.0 a → high ≡ max range.1 a
      → set ranges (number - 1) (low, high) ≡ widened ranges a
  widened-told a number range low high is some found least greatest =
      let count = are.windows in
      let below : window a < 4096 = omega arith in
      let read : get_or numbers (window a) 0 ≡ number =
      get_or_default numbers (window a) 0 number (omega (arith, count, below)) ∙ sym is in
      let (few, at) = are.told (window a) below (omega (arith, read, some)) in
      let within : number - 1 < length ranges = omega (arith, few, read, some) in
      let same : range_at ranges (number - 1) ≡ range =
      get_or_default ranges (number - 1) (0, 0) range within ∙ sym found in
      let here : window (range_at ranges (number - 1)).0 ≡ window a =
      ap (λ n. window (range_at ranges (n - 1)).0) (sym read) ∙ at in
      ap₂ (λ (l h : ℕ). set ranges (number - 1) (l, h)) (least ∙ ap (λ (r : ℕ × ℕ). min r.0 a) (sym same))
      (greatest ∙ ap (λ (r : ℕ × ℕ). max r.1 a) (sym same))
      ∙ sym (widened-at ranges a (number - 1) within here (passed-others a number read (omega (arith, few, read))))

-- the last one goes
pub numbered-without : (front : List (ℕ × ℕ)) (last : ℕ × ℕ) (numbers : List ℕ) (capacity : ℕ)
    → AreNumbered (front ++ last ∷ []) numbers capacity → AreNumbered front (set numbers (window last.0) 0) capacity
numbered-without front last numbers capacity are = record {
  windows = length-set numbers w 0 ∙ are.windows;
  own = λ i l.
      let same = range-same i l in
      let own = are.own i (omega (arith, l, long)) ∙ refl in
      let here : get_or numbers (window (range_at front i).0) 0 ≡ i + 1 =
      ap (λ (r : ℕ × ℕ). get_or numbers (window r.0) 0) (sym same) ∙ own in
      get_or-set_other numbers w (window (range_at front i).0) 0 0
      (λ (e : window (range_at front i).0 ≡ w). let there = ap (λ x. get_or numbers x 0) e in
      omega (arith, there, here, mine, l)) ∙ here;
  told = λ v l some. elsewhere v l some;
  free =
      let sum = sum_by-set is_free numbers w 0 0 (omega (arith, below, count)) in
      let was : is_free (get_or numbers w 0) ≡ 0 =
      ap (λ (b : Bool). if b then 1 else 0) (ne_eqb (get_or numbers w 0) 0 (λ e. omega (arith, e, mine))) in
      let all = are.free in
      omega (arith, sum, was, all, long);
  room = are.room;
}
  where
    w : ℕ
    w = window last.0

    count : length numbers ≡ 4096
    count = are.windows

    below : w < 4096
    below = omega arith

    long : length (front ++ last ∷ []) ≡ length front + 1
    long = length-append front (last ∷ [])

    end : range_at (front ++ last ∷ []) (length front) ≡ last
    end = get_or-append_seam front last [] (0, 0)

    mine : get_or numbers w 0 ≡ length front + 1
    mine =
        ap (λ (r : ℕ × ℕ). get_or numbers (window r.0) 0) (sym end) ∙ are.own (length front) (omega (arith, long))

    range-same : (i : ℕ) → i < length front → range_at (front ++ last ∷ []) i ≡ range_at front i
    range-same i l = get_or_append_left front (last ∷ []) (0, 0) i l

    elsewhere : (v : ℕ) → v < 4096 → 0 < get_or (set numbers w 0) v 0
        → (get_or (set numbers w 0) v 0 ≤ length front)
        × (window (range_at front (get_or (set numbers w 0) v 0 - 1)).0 ≡ v)
    elsewhere v l some =
        let other : v ≢ w = λ e.
        let none : get_or (set numbers w 0) v 0 ≡ 0 = ap (λ x. get_or (set numbers w 0) x 0) e
        ∙ get_or-set_same numbers w 0 0 (omega (arith, below, count)) in omega (arith, none, some) in
        let kept = get_or-set_other numbers w v 0 0 other in
        let (few, at) = are.told v l (omega (arith, kept, some)) in
        let short : get_or numbers v 0 ≢ length front + 1 = λ e.
        let last_one : range_at (front ++ last ∷ []) (get_or numbers v 0 - 1) ≡ last =
        ap (λ n. range_at (front ++ last ∷ []) (n - 1)) e ∙ ap (range_at (front ++ last ∷ [])) (omega arith) ∙ end in
        other (sym at ∙ ap (λ (r : ℕ × ℕ). window r.0) last_one) in
        let low : get_or numbers v 0 - 1 < length front = omega (arith, few, long, short, kept, some) in (
          omega (arith, kept, low, some),
          ap (λ n. window (range_at front (n - 1)).0) kept
              ∙ ap (λ (r : ℕ × ℕ). window r.0) (sym (range-same (get_or numbers v 0 - 1) low)) ∙ at,
        )

-- The stretches that a scan gives are the maximal ones of addresses whose cards are set.
use Rattle.std.proofs.Common.{◌≡◌, ℕ, suc, ◌+◌, ◌-◌, ◌*◌, ◌/◌, ◌<◌, ◌≤◌, Bool, true, false, Some, None, List, [], ◌∷◌}
use Rattle.std.proofs.Common.{length, get_or, ltb, inl, inr, refl, ap, sym, ◌∙◌, arith}
use Rattle.std.specs.Prelude.{max}
use Rattle.std.proofs.lemmas.Bool.{cases_eq, cases_lt, le-leb, lt-leb, lt-ltb, le-ltb, eq-eqb, ne_eqb}
use Rattle.clr_covers.specs.Covers.{CoverView, value_at}
use Rattle.clr_cards.specs.Cards.{AreRuns, AreStretches, is_card_set, lies_in}
use Rattle.clr_cards.specs.Runs.{runs_in}

-- n cards from number i on reach just to the last address below hi, and the first isn't wholly below lo
record Reach (lo hi i n : ℕ) : Type 0 where
  ends : 0 < n → 2048 * (i + n) < hi + 2048
  begins : 0 < n → lo < 2048 * (i + 1)
  whole : hi ≤ 2048 * (i + n)
  some : lo < hi

next_reach : (lo hi i n : ℕ) → Reach lo hi i (suc n) → Reach lo hi (suc i) n
next_reach lo hi i n r =
    let e = r.ends (omega arith) in
    let b = r.begins (omega arith) in
    let w = r.whole in
    record { ends = λ _. omega arith; begins = λ _. omega arith; whole = omega arith; some = r.some }

AreStretches-lower : (a b hi : ℕ) (rs : List (ℕ × ℕ)) → a ≤ b → AreStretches b hi rs → AreStretches a hi rs
AreStretches-lower a b hi [] le s = s
AreStretches-lower a b hi (r ∷ rs) le s = let l = s.0 in (omega arith, s.1, s.2, s.3)

-- no address below all stretches lies in one
below_all : (b hi a : ℕ) (rs : List (ℕ × ℕ)) → AreStretches b hi rs → a < b → lies_in rs a ≡ false
below_all b hi a [] s h = refl
below_all b hi a (r ∷ rs) s h =
    let low = s.0 in
    let rising = s.1 in
    let under : a < r.0 = omega arith in
    let rest = below_all (r.1 + 1) hi a rs s.3 (omega arith) in
    rw (lt-leb r.0 a under) rest

module _ (lo hi : ℕ) where
  -- the stretches of these cards rise, whether one is open or not
  record Apart (xs : List ℕ) : Type 0 where
    closed : (i : ℕ) → Reach lo hi i (length xs) → AreStretches (max lo (2048 * i)) hi (runs_in lo hi None i xs)
    opened : (i start : ℕ) → Reach lo hi i (length xs) → start < hi → start < 2048 * i
        → AreStretches start hi (runs_in lo hi (Some start) i xs)

  are_apart : (xs : List ℕ) → Apart xs
  are_apart [] = record {
    closed = λ i r. tt;
    opened = λ i start r h l. (omega arith, h, omega arith, tt);
  }
  are_apart (x ∷ xs) =
      let rest = are_apart xs in
      let next : (i : ℕ) → Reach lo hi i (suc (length xs)) → Reach lo hi (suc i) (length xs) =
      λ i r. next_reach lo hi i (length xs) r
      in
      elim (cases_eq x 0) [
        | inl clear ↦
            let later : (i low : ℕ) → Reach lo hi i (suc (length xs)) → low ≤ max lo (2048 * suc i)
            → AreStretches low hi (runs_in lo hi None (suc i) xs) =
            λ i low r le. AreStretches-lower low (max lo (2048 * suc i)) hi _ le (rest.closed (suc i) (next i r))
            in
            record {
              closed = λ i r. rw (eq-eqb x 0 clear) (later i (max lo (2048 * i)) r (omega arith));
              opened = λ i start r h l. (let e = r.ends (omega arith) in
                  rw (eq-eqb x 0 clear) (omega arith, l, omega arith, later i (2048 * i + 1) r (omega arith)));
            }
        | inr set ↦ record {
          closed = λ i r. (let e = r.ends (omega arith) in let b = r.begins (omega arith) in let w = r.some in
              rw (ne_eqb x 0 set)
              (rest.opened (suc i) (max lo (2048 * i)) (next i r) (omega arith) (omega arith)));
          opened = λ i start r h l. rw (ne_eqb x 0 set) (rest.opened (suc i) start (next i r) h (omega arith));
        }
      ]

  -- whether the card of an address is set, in a list of cards from number i on
  abbrev card_in : List ℕ → ℕ → ℕ → Bool
  card_in xs i a = ltb 0 (get_or xs (a / 2048 - i) 0)

  card_first : (x : ℕ) (xs : List ℕ) (i a : ℕ) → 2048 * i ≤ a → a < 2048 * suc i → card_in (x ∷ xs) i a ≡ ltb 0 x
  card_first x xs i a low high = let at : a / 2048 - i ≡ 0 = omega arith in rw at refl

  card_later : (x : ℕ) (xs : List ℕ) (i a : ℕ) → 2048 * suc i ≤ a → card_in (x ∷ xs) i a ≡ card_in xs (suc i) a
  card_later x xs i a low = let at : a / 2048 - i ≡ suc (a / 2048 - suc i) = omega arith in rw at refl

  -- an address in an open stretch lies in one
  inside : (xs : List ℕ) (i start a : ℕ) → start ≤ a → a < 2048 * i → a < hi
      → lies_in (runs_in lo hi (Some start) i xs) a ≡ true
  inside [] i start a low high below = rw (le-leb start a low, lt-ltb a hi below) refl
  inside (x ∷ xs) i start a low high below = elim (cases_eq x 0) [
    | inl clear ↦ rw (eq-eqb x 0 clear) (rw (le-leb start a low, lt-ltb a (2048 * i) high) refl)
    | inr set ↦ rw (ne_eqb x 0 set) (inside xs (suc i) start a low (omega arith) below)
  ]

  -- an address lies in one of the stretches of these cards where its card is set, whether one is open or not
  record Exact (xs : List ℕ) : Type 0 where
    closed : (i a : ℕ) → Reach lo hi i (length xs) → max lo (2048 * i) ≤ a → a < hi
        → lies_in (runs_in lo hi None i xs) a ≡ card_in xs i a
    opened : (i start a : ℕ) → Reach lo hi i (length xs) → lo ≤ a → start ≤ a → 2048 * i ≤ a → a < hi
        → lies_in (runs_in lo hi (Some start) i xs) a ≡ card_in xs i a

  -- the first card is clear
  after_clear : (x : ℕ) (xs : List ℕ) → x ≡ 0 → Exact xs → (i a : ℕ) → Reach lo hi i (suc (length xs))
      → max lo (2048 * i) ≤ a → a < hi → lies_in (runs_in lo hi None (suc i) xs) a ≡ card_in (x ∷ xs) i a
  after_clear x xs clear rest i a r low high =
      let next = next_reach lo hi i (length xs) r in
      let b = r.begins (omega arith) in
      elim (cases_lt a (2048 * suc i)) [
        | inl here ↦
            let rise = (are_apart xs).closed (suc i) next in
            let none = below_all (max lo (2048 * suc i)) hi a (runs_in lo hi None (suc i) xs) rise (omega arith) in
            none ∙ sym (card_first x xs i a (omega arith) here ∙ ap (λ (y : ℕ). ltb 0 y) clear)
        | inr there ↦ rest.closed (suc i) a next (omega arith) high ∙ sym (card_later x xs i a there)
      ]

  -- the first card is set
  after_set : (x : ℕ) (xs : List ℕ) → (x ≡ 0 → ⊥) → Exact xs → (i start a : ℕ) → Reach lo hi i (suc (length xs))
      → lo ≤ a → start ≤ a → 2048 * i ≤ a → a < hi
      → lies_in (runs_in lo hi (Some start) (suc i) xs) a ≡ card_in (x ∷ xs) i a
  after_set x xs set rest i start a r over from low high =
      let next = next_reach lo hi i (length xs) r in
      elim (cases_lt a (2048 * suc i)) [
        | inl here ↦
            inside xs (suc i) start a from here high
            ∙ sym (card_first x xs i a low here ∙ lt-ltb 0 x (omega arith))
        | inr there ↦ rest.opened (suc i) start a next over from there high ∙ sym (card_later x xs i a there)
      ]

  are_exact : (xs : List ℕ) → Exact xs
  are_exact [] = record {
    closed = λ i a r low high. (let w = r.whole in absurd (omega arith));
    opened = λ i start a r over from low high. (let w = r.whole in absurd (omega arith));
  }
  are_exact (x ∷ xs) =
      let rest = are_exact xs in
      elim (cases_eq x 0) [
        | inl clear ↦ record {
          closed = λ i a r low high. rw (eq-eqb x 0 clear) (after_clear x xs clear rest i a r low high);
          opened = λ i start a r over from low high.
              rw (eq-eqb x 0 clear)
              (rw (le-leb start a from, le-ltb a (2048 * i) low)
              (after_clear x xs clear rest i a r (omega arith) high));
        }
        | inr set ↦ record {
          closed = λ i a r low high.
              rw (ne_eqb x 0 set)
              (after_set x xs set rest i (max lo (2048 * i)) a r (omega arith) low (omega arith) high);
          opened = λ i start a r over from low high.
              rw (ne_eqb x 0 set) (after_set x xs set rest i start a r over from low high);
        }
      ]

-- the stretches of the cards that meet [lo, hi) are the maximal ones in it
pub are_runs : (cs : List (CoverView ℕ)) (lo hi from past : ℕ) (cards : List ℕ) → lo < hi → from ≡ lo / 2048
    → past ≡ (hi - 1) / 2048 + 1 → length cards ≡ past - from
    → ((d i : ℕ) → from ≤ i → i < past → get_or cards (i - from) d ≡ value_at d cs i)
    → AreRuns (is_card_set cs) lo hi (runs_in lo hi None from cards)
are_runs cs lo hi from past cards some low high count values =
    let reach : Reach lo hi from (length cards) =
    record { ends = λ _. omega arith; begins = λ _. omega arith; whole = omega arith; some = some }
    in
    let rise = (are_apart lo hi cards).closed from reach in
    record {
      stretches = AreStretches-lower lo (max lo (2048 * from)) hi _ (omega arith) rise;
      exact = λ a above below.
          (are_exact lo hi cards).closed from a reach (omega arith) below
          ∙ ap (λ (x : ℕ). ltb 0 x) (values 0 (a / 2048) (omega arith) (omega arith));
    }

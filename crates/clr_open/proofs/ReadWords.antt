-- Each word of a heap that was read fits in eight bytes.
use Rattle.std.proofs.Common.{ℕ, zero, suc, ◌-◌, ◌^◌, ◌<◌, Bool, true, false, if◌then◌else◌, List, [], ◌∷◌, drop, map}
use Rattle.std.proofs.Common.{get_or, replicate, sym, subst, arith}
use Rattle.std.specs.Prelude.{slice_index}
use Rattle.std.specs.List.{AllByRecursion}
use Rattle.byteorder.specs.Numbers.{little_from-lt}
use Rattle.clr_mem.specs.Words.{Memory, place_of, spelled, word_at, words_of, zeros}
use Rattle.clr_types.specs.Types.{TypeRow}
use Rattle.clr_types.proofs.ListMembers.{both_all}
use Rattle.clr_heap.specs.Memories.{contains, word_in}
use Rattle.clr_heap.specs.View.{word_of}
use Rattle.clr_format.specs.HeapFields.{Body}
use Rattle.clr_load.proofs.ReadSegments.{IsMade, memory_in, ReadSegment}

abbrev IsSmall : ℕ → Type 0
IsSmall w = w < 2 ^ 64

dropped : (xs : List ℕ) → ((k : ℕ) → slice_index xs k < 256) → (n k : ℕ) → slice_index (drop n xs) k < 256
dropped xs fit zero k = fit k
dropped [] fit (suc n) k = fit k
dropped (x ∷ xs) fit (suc n) k = dropped xs (λ j. fit (suc j)) n k

words-small : (n : ℕ) (xs : List ℕ) → ((k : ℕ) → slice_index xs k < 256) → AllByRecursion IsSmall (words_of n xs)
unfolding words_of spelled
words-small zero xs fit = tt
words-small (suc n) xs fit =
    let small = little_from-lt 0 8 xs fit in
    (omega (arith, small), words-small n (drop 8 xs) (dropped xs fit 8))

zeros-small : (n : ℕ) → AllByRecursion IsSmall (zeros n)
unfolding zeros
zeros-small n = go n
  where
    go : (m : ℕ) → AllByRecursion IsSmall (replicate m 0)
    go zero = tt
    go (suc m) = (omega arith, go m)

at-small : (ws : List ℕ) (i : ℕ) → AllByRecursion IsSmall ws → get_or ws i 0 < 2 ^ 64
at-small [] i all = omega arith
at-small (w ∷ ws) zero all = all.0
at-small (w ∷ ws) (suc i) all = at-small ws i all.1

in-small : (ms : List Memory) (a : ℕ) → AllByRecursion (λ (m : Memory). AllByRecursion IsSmall m.words) ms
    → word_in ms a < 2 ^ 64
in-small [] a all = omega arith
in-small (m ∷ ms) a all = go (contains m a) (in-small ms a all.1)
  where
    go : (b : Bool) → word_in ms a < 2 ^ 64 → (if b then word_at m a else word_in ms a) < 2 ^ 64
    go true rest = at-small m.words (place_of m a) all.0
    go false rest = rest

module _ (bytes : List ℕ) (fit : (k : ℕ) → slice_index bytes k < 256) (large : ℕ) (rows : List TypeRow) where
  memory-small : (seg : ReadSegment) → AllByRecursion IsSmall (memory_in bytes large rows seg).words
  memory-small seg =
      both_all IsSmall (zeros 511) _ (zeros-small 511)
      (both_all IsSmall (words_of _ (drop seg.at bytes)) (zeros _) (words-small _ (drop seg.at bytes)
      (dropped bytes fit seg.at)) (zeros-small _))

  -- EACH WORD fits
  pub words-fit : (b : Body) → IsMade bytes large rows b → (a : ℕ) → word_of b.heap a < 2 ^ 64
  words-fit b made a =
      in-small b.heap.memories a
      (subst (AllByRecursion (λ (m : Memory). AllByRecursion IsSmall m.words)) (sym made.made.memories) (go made.segs))
    where
      go : (segs : List ReadSegment)
          → AllByRecursion (λ (m : Memory). AllByRecursion IsSmall m.words) (map (memory_in bytes large rows) segs)
      go [] = tt
      go (seg ∷ segs) = (memory-small seg, go segs)

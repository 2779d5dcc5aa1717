-- The words of parts, one behind the other.
use Rattle.std.proofs.Common.{◌≡◌, ℕ, suc, zero, ◌≤◌, ◌<◌, ◌+◌, ◌-◌, ◌*◌, ◌/◌, ◌%◌, ◌==◌, true, false}
use Rattle.std.proofs.Common.{List, [], ◌∷◌, ◌++◌, refl, arith, ap, sym, ◌∙◌, subst, Some, None, append_assoc}
use Rattle.std.specs.List.{flat_map}
use Rattle.std.proofs.Common.{append-nil}
use Rattle.std.proofs.lemmas.List.{flat_map_more, replicate_more}
use Rattle.clr_mem.specs.Words.{Memory, zeros}
use Rattle.clr_types.specs.declared.item.Item.{Item}
use Rattle.clr_heap.specs.Parts.{hole_from, item_at, item_part, Part, parts, rest_part, Sight, Spells}
use Rattle.clr_heap.specs.View.{CanWalk}
use Rattle.clr_heap.proofs.Spelling.{item_size, Spells-le}
use Rattle.clr_heap.proofs.Walking.{CanWalk-from, spelled_parts}
use Rattle.clr_format.specs.Saved.{word_bytes, words_bytes, zero_bytes}
use Rattle.clr_save.specs.SavedWords.{cell_words, free_words, IsNext, part_words, words_at, words_between}

-- ---- the next part

next_hole : (s : Sight) (ms : List Memory) (ps : List Part) (p e high : ℕ) → CanWalk s ms p e → parts e s p e ≡ ps
    → Spells s p ps e → p < e → hole_from s.holes p ≡ Some high → IsNext s ms p e (high - p) true
next_hole s ms [] p e high walk are spells less hole = absurd (omega arith)
next_hole s ms (item_part i ∷ ps) p e high walk are spells less hole =
    let clash : None ≡ Some high = sym spells.0 ∙ hole in absurd cc
next_hole s ms (rest_part low to ∷ ps) p e high walk are spells less hole =
    let same : Some to ≡ Some high = sym spells.1 ∙ hole in
    let end : to ≡ high = cc in
    let start : low ≡ p = spells.0 in
    let more = spells.2 in
    let whole = spells.3 in
    let aligned = walk.start in
    let at : p + (high - p) ≡ to = omega arith in
    let rest = spells.4 in
    let after : Spells s (p + (high - p)) ps e = subst (λ (q : ℕ). Spells s q ps e) (sym at) rest in
    let within = Spells-le s ps to e rest in
    let left : flat_map (part_words s.word) ps ≡ words_between s (p + (high - p)) e =
    ap (flat_map (part_words s.word)) (sym (spelled_parts s ps (p + (high - p)) e after)) in
    let size : to - low ≡ high - p = omega arith in
    record {
      walk = CanWalk-from s ms ps (p + (high - p)) e (omega arith) after
          (λ a z near far. walk.held a z (omega arith) far);
      words = ap (flat_map (part_words s.word)) are ∙ ap (λ n. free_words n ++ flat_map (part_words s.word) ps) size
          ∙ ap (λ ws. free_words (high - p) ++ ws) left;
      least = omega arith;
      whole = omega arith;
      within = omega arith;
    }

at_place : (s : Sight) (p : ℕ) (ws : List ℕ)
    → cell_words s.word ((item_at s.rows s.word p).type_id.0 == 0) (item_at s.rows s.word p).place
    (item_at s.rows s.word p).size ++ ws
    ≡ cell_words s.word ((item_at s.rows s.word p).type_id.0 == 0) p (item_at s.rows s.word p).size ++ ws
unfolding item_at
at_place s p ws = refl

next_item : (s : Sight) (ms : List Memory) (ps : List Part) (p e : ℕ) → CanWalk s ms p e → parts e s p e ≡ ps
    → Spells s p ps e → p < e → hole_from s.holes p ≡ None
    → IsNext s ms p e (item_at s.rows s.word p).size ((item_at s.rows s.word p).type_id.0 == 0)
next_item s ms [] p e walk are spells less hole = absurd (omega arith)
next_item s ms (rest_part low to ∷ ps) p e walk are spells less hole =
    let clash : None ≡ Some to = sym hole ∙ spells.1 in absurd cc
next_item s ms (item_part i ∷ ps) p e walk are spells less hole =
    let same = spells.1 in
    let names = spells.2 in
    let aligned = walk.start in
    let least = names.least in
    let whole = names.whole in
    let item = item_at s.rows s.word p in
    let after : Spells s (p + (item_at s.rows s.word p).size) ps e =
    subst (λ (j : Item). Spells s (p + j.size) ps e) same spells.3 in
    let within = Spells-le s ps (p + (item_at s.rows s.word p).size) e after in
    let left : flat_map (part_words s.word) ps ≡ words_between s (p + (item_at s.rows s.word p).size) e =
    ap (flat_map (part_words s.word)) (sym (spelled_parts s ps (p + (item_at s.rows s.word p).size) e after)) in
    record {
      walk = CanWalk-from s ms ps (p + (item_at s.rows s.word p).size) e (omega arith) after
          (λ a z near far. walk.held a z (omega arith) far);
      words = ap (flat_map (part_words s.word)) are
          ∙ ap (λ (j : Item). cell_words s.word (j.type_id.0 == 0) j.place j.size
          ++ flat_map (part_words s.word) ps) same
          ∙ at_place s p (flat_map (part_words s.word) ps)
          ∙ ap (λ ws. cell_words s.word ((item_at s.rows s.word p).type_id.0 == 0) p (item_at s.rows s.word p).size
          ++ ws)
          left;
      least = least;
      whole = whole;
      within = within;
    }

pub hole_next : (s : Sight) (ms : List Memory) (p e high : ℕ) → CanWalk s ms p e → p < e → hole_from s.holes p
    ≡ Some high
    → IsNext s ms p e (high - p) true
hole_next s ms p e high walk less hole = next_hole s ms (parts e s p e) p e high walk refl walk.spelled less hole

pub item_next : (s : Sight) (ms : List Memory) (p e : ℕ) → CanWalk s ms p e → p < e → hole_from s.holes p ≡ None
    → IsNext s ms p e (item_at s.rows s.word p).size ((item_at s.rows s.word p).type_id.0 == 0)
item_next s ms p e walk less hole = next_item s ms (parts e s p e) p e walk refl walk.spelled less hole

-- ---- words

pub words_at-append : (word : ℕ → ℕ) (a m n : ℕ) → words_at word a (m + n) ≡ words_at word a m
    ++ words_at word (a + 8 * m) n
unfolding words_at
words_at-append word a zero n =
    let count : zero + n ≡ n = omega arith in
    let at : a + 8 * 0 ≡ a = omega arith in
    rw (count, at) refl
words_at-append word a (suc m) n =
    let count : suc m + n ≡ suc (m + n) = omega arith in
    let at : a + 8 + 8 * m ≡ a + 8 * suc m = omega arith in
    rw count (ap (λ ws. word a ∷ ws) (words_at-append word (a + 8) m n
    ∙ ap (λ b. words_at word (a + 8) m ++ words_at word b n) at))

one : (word : ℕ → ℕ) (b : ℕ) → words_at word b 1 ≡ word b ∷ []
unfolding words_at
one word b = refl

pub words_at-more : (word : ℕ → ℕ) (a n : ℕ) → words_at word a (n + 1) ≡ words_at word a n ++ word (a + 8 * n) ∷ []
words_at-more word a n = words_at-append word a n 1 ∙ ap (λ ws. words_at word a n ++ ws) (one word (a + 8 * n))

pub words_bytes-append : (xs ys : List ℕ) → words_bytes (xs ++ ys) ≡ words_bytes xs ++ words_bytes ys
words_bytes-append [] ys = refl
words_bytes-append (x ∷ xs) ys =
    ap (λ ws. word_bytes x ++ ws) (words_bytes-append xs ys)
    ∙ sym (append_assoc (word_bytes x) (words_bytes xs) (words_bytes ys))

-- one word more
pub put_one : (text : List ℕ) (xs : List ℕ) (x : ℕ)
    → (text ++ words_bytes xs) ++ word_bytes x ≡ text ++ words_bytes (xs ++ x ∷ [])
put_one text xs x = flat_map_more word_bytes text xs x

-- ---- a turn

-- what was put so far, what is owed from `run` on, and what is left, are all
pub record IsOwed (s : Sight) (text : List ℕ) (run place end : ℕ) (all : List ℕ) : Type 0 where
  pub same : text ++ words_bytes (words_at s.word (run - 8) ((place - run) / 8) ++ words_between s place end) ≡ all

nothing_at : (word : ℕ → ℕ) (a p : ℕ) → words_at word a ((p - p) / 8) ≡ []
unfolding words_at
nothing_at word a p = let none : (p - p) / 8 ≡ 0 = omega arith in rw none refl

pub owes_nothing : (s : Sight) (text : List ℕ) (place end : ℕ)
    → IsOwed s text place place end (text ++ words_bytes (words_between s place end))
owes_nothing s text place end = record {
  same = ap (λ ws. text ++ words_bytes (ws ++ words_between s place end)) (nothing_at s.word (place - 8) place);
}

-- an object is owed
pub owes_more : (s : Sight) (ms : List Memory) (text : List ℕ) (run place end size : ℕ) (all : List ℕ)
    → IsOwed s text run place end all → IsNext s ms place end size false → 8 ≤ run → run ≤ place → run % 8 ≡ 0
    → place % 8 ≡ 0 → IsOwed s text run (place + size) end all
owes_more s ms text run place end size all owed next high order aligned place_aligned =
    let whole = next.whole in
    let count : (place + size - run) / 8 ≡ (place - run) / 8 + size / 8 = omega arith in
    let at : run - 8 + 8 * ((place - run) / 8) ≡ place - 8 = omega arith in
    let joined : words_at s.word (run - 8) ((place + size - run) / 8)
    ≡ words_at s.word (run - 8) ((place - run) / 8) ++ words_at s.word (place - 8) (size / 8) =
    ap (words_at s.word (run - 8)) count ∙ words_at-append s.word (run - 8) ((place - run) / 8) (size / 8)
    ∙ ap (λ a. words_at s.word (run - 8) ((place - run) / 8) ++ words_at s.word a (size / 8)) at in
    record {
      same = ap (λ ws. text ++ words_bytes (ws ++ words_between s (place + size) end)) joined
          ∙ ap (λ ws. text ++ words_bytes ws)
          (append_assoc (words_at s.word (run - 8) ((place - run) / 8)) (words_at s.word (place - 8) (size / 8))
          (words_between s (place + size) end)
          ∙ ap (λ ws. words_at s.word (run - 8) ((place - run) / 8) ++ ws) (sym next.words))
          ∙ owed.same;
    }

-- what is owed is put, and a free item
pub owes_free : (s : Sight) (ms : List Memory) (text put freed : List ℕ) (run place end size : ℕ) (all : List ℕ)
    → IsOwed s text run place end all → IsNext s ms place end size true
    → put ≡ text ++ words_bytes (words_at s.word (run - 8) ((place - run) / 8))
    → freed ≡ put ++ words_bytes (free_words size) → IsOwed s freed (place + size) (place + size) end all
owes_free s ms text put freed run place end size all owed next paid more =
    let here = owes_nothing s freed (place + size) end in
    let split : words_bytes (words_at s.word (run - 8) ((place - run) / 8) ++ words_between s place end)
    ≡ words_bytes (words_at s.word (run - 8) ((place - run) / 8))
    ++ (words_bytes (free_words size) ++ words_bytes (words_between s (place + size) end)) =
    ap (λ ws. words_bytes (words_at s.word (run - 8) ((place - run) / 8) ++ ws)) next.words
    ∙ words_bytes-append (words_at s.word (run - 8) ((place - run) / 8))
    (free_words size ++ words_between s (place + size) end)
    ∙ ap (λ bs. words_bytes (words_at s.word (run - 8) ((place - run) / 8)) ++ bs)
    (words_bytes-append (free_words size) (words_between s (place + size) end)) in
    let joined : ((text ++ words_bytes (words_at s.word (run - 8) ((place - run) / 8)))
    ++ words_bytes (free_words size))
    ++ words_bytes (words_between s (place + size) end)
    ≡ text ++ (words_bytes (words_at s.word (run - 8) ((place - run) / 8))
    ++ (words_bytes (free_words size) ++ words_bytes (words_between s (place + size) end))) = simp append_assoc in
    let whole : freed ++ words_bytes (words_between s (place + size) end) ≡ all =
    ap (λ bs. bs ++ words_bytes (words_between s (place + size) end))
    (more ∙ ap (λ bs. bs ++ words_bytes (free_words size)) paid)
    ∙ (joined ∙ (ap (λ bs. text ++ bs) (sym split) ∙ owed.same)) in
    record { same = here.same ∙ whole }

left_at_end : (s : Sight) (ps : List Part) (p e : ℕ) → Spells s p ps e → e ≤ p → flat_map (part_words s.word) ps ≡ []
left_at_end s [] p e h k = refl
left_at_end s (item_part i ∷ ps) p e h k =
    let f = item_size s i p h.1 h.2 in
    let l = Spells-le s ps (p + i.size) e h.3 in absurd (omega arith)
left_at_end s (rest_part lo hi ∷ ps) p e h k = let l = Spells-le s ps hi e h.4 in absurd (omega arith)

-- all is put
pub owes_last : (s : Sight) (ms : List Memory) (text put : List ℕ) (run place end : ℕ) (all : List ℕ)
    → IsOwed s text run place end all → CanWalk s ms place end → end ≤ place
    → put ≡ text ++ words_bytes (words_at s.word (run - 8) ((place - run) / 8)) → put ≡ all
owes_last s ms text put run place end all owed walk over paid =
    let none = left_at_end s (parts end s place end) place end walk.spelled over in
    paid ∙ ap (λ ws. text ++ words_bytes ws) (sym (append-nil (words_at s.word (run - 8) ((place - run) / 8)))
    ∙ ap (λ ws. words_at s.word (run - 8) ((place - run) / 8) ++ ws) (sym none)) ∙ owed.same

-- ---- turns

pub no_words : (text : List ℕ) (word : ℕ → ℕ) (a : ℕ) → text ≡ text ++ words_bytes (words_at word a 0)
unfolding words_at
no_words text word a = sym (append-nil text)

pub word_more : (old text new : List ℕ) (word : ℕ → ℕ) (a n w : ℕ) → text ≡ old ++ words_bytes (words_at word a n)
    → w ≡ word (a + 8 * n) → new ≡ text ++ word_bytes w → new ≡ old ++ words_bytes (words_at word a (n + 1))
word_more old text new word a n w before is after =
    after ∙ ap (λ t. t ++ word_bytes w) before ∙ put_one old (words_at word a n) w
    ∙ ap (λ v. old ++ words_bytes (words_at word a n ++ v ∷ [])) is
    ∙ ap (λ ws. old ++ words_bytes ws) (sym (words_at-more word a n))

pub no_zeros : (text : List ℕ) → text ≡ text ++ words_bytes (zeros 0)
unfolding zeros
no_zeros text = sym (append-nil text)

zeros_more : (n : ℕ) → zeros n ++ 0 ∷ [] ≡ zeros (n + 1)
unfolding zeros
zeros_more n = replicate_more n 0

pub zero_more : (old text new : List ℕ) (n : ℕ) → text ≡ old ++ words_bytes (zeros n) → new ≡ text ++ word_bytes 0
    → new ≡ old ++ words_bytes (zeros (n + 1))
zero_more old text new n before after =
    after ∙ ap (λ t. t ++ word_bytes 0) before ∙ put_one old (zeros n) 0
    ∙ ap (λ ws. old ++ words_bytes ws) (zeros_more n)

-- zero words are zero bytes
pub zeros_are : (n : ℕ) → words_bytes (zeros n) ≡ zero_bytes (8 * n)
unfolding zeros zero_bytes word_bytes
zeros_are zero = refl
zeros_are (suc n) =
    let count : 8 * suc n ≡ suc (suc (suc (suc (suc (suc (suc (suc (8 * n)))))))) = omega arith in
    let ih = zeros_are n in
    rw (count, ih) refl

-- Walking a run of marked items.
use Rattle.std.proofs.Common.{◌≡◌, inl, inr, ℕ, ◌+◌, ◌^◌, ◌<◌, ◌≤◌, true, false, List, ap, sym, ◌∙◌, subst, arith}
use Rattle.std.proofs.lemmas.Bool.{both_ways, cases_lt}
use Rattle.clr_types.specs.Rising.{first, IsIn, later}
use Rattle.clr_types.specs.Types.{TypeRow}
use Rattle.clr_types.specs.declared.item.Item.{Item}
use Rattle.clr_heap.specs.Memories.{memory_index}
use Rattle.clr_heap.specs.Parts.{item_at, parts}
use Rattle.clr_heap.specs.View.{AfterItem, HasItem, HeapView, last_of, sight, word_of}
use Rattle.clr_heap.proofs.Walking.{walk_item}
use Rattle.clr_heap.proofs.Spelling.{place-item_at, Spells-le}
use Rattle.clr_view.specs.Marks.{has_mark}
use Rattle.clr_moves.specs.Told.{IsMarkedRun}

module _ (rows : List TypeRow) (h : HeapView) (t place last : ℕ) (r : IsMarkedRun rows h t place last) where
  pub not_past : place ≤ last
  not_past = Spells-le (sight rows h t) (parts last (sight rows h t) place last) place last r.run.spelled

  pub run_done : last_of h t ≤ place → place ≡ last
  run_done past = let a = not_past in let b = r.ends in omega arith

  module _ (less : place < last_of h t) where
    size : ℕ
    size = (item_at rows (word_of h) place).size

    pub record CanRead : Type 0 where
      pub item : HasItem rows h place
      pub mt_in : t ≡ memory_index h.memories place
      pub len_in : t ≡ memory_index h.memories (place + 8)
      pub room : place + 8 < 2 ^ 64
      pub fits : place + (item_at rows (word_of h) place).size < 2 ^ 64
      pub up : 24 ≤ (item_at rows (word_of h) place).size

    whole : AfterItem (sight rows h t) h.memories place (last_of h t)
    whole = walk_item (sight rows h t) h.memories place (last_of h t) r.walk less (r.none place)

    pub run_stops : has_mark (word_of h place) ≡ false → place ≡ last
    run_stops off = elim (cases_lt place last) [
      | inl below ↦
          let a = walk_item (sight rows h t) h.memories place last r.run below (r.none place) in
          let P : List Item → Type 0 = λ is. IsIn (item_at rows (word_of h) place) is in
          absurd (both_ways (has_mark (word_of h place)) off
          (ap (λ n. has_mark (word_of h n)) (sym (place-item_at rows (word_of h) place))
          ∙ r.marked (item_at rows (word_of h) place) (subst P (sym a.items) first)))
      | inr above ↦ let a = not_past in omega arith
    ]

    pub run_on : has_mark (word_of h place) ≡ true
        → IsMarkedRun rows h t (place + (item_at rows (word_of h) place).size) last
    run_on on = elim (cases_lt place last) [
      | inl below ↦
          let a = walk_item (sight rows h t) h.memories place last r.run below (r.none place) in
          record {
            walk = whole.walk;
            index = λ b low high. r.index b (omega arith) high;
            none = r.none;
            high = r.high;
            run = a.walk;
            ends = r.ends;
            marked = λ i is. let P : List Item → Type 0 = λ js. IsIn i js in
                r.marked i (subst P (sym a.items) (later is));
            stops = r.stops;
          }
      | inr above ↦
          let same : last ≡ place = (let a = not_past in omega arith) in
          absurd (elim r.stops [
            | inl e ↦ omega (arith, e, same, less)
            | inr off ↦ both_ways (has_mark (word_of h place)) (ap (λ n. has_mark (word_of h n)) (sym same) ∙ off) on
          ])
    ]

    pub can_read : CanRead
    can_read =
        let n = whole.names in
        let least = n.least in
        let in_end = whole.within in
        let high = r.high in
        record {
          item = record { names = n; mt = whole.mt; len = whole.len };
          mt_in = sym (r.index place (omega arith) (omega arith));
          len_in = sym (r.index (place + 8) (omega arith) (omega arith));
          room = omega arith;
          fits = omega arith;
          up = least;
        }

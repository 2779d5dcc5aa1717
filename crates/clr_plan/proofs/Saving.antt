-- What is pushed for a plug, and what it does to the queue.
use Rattle.std.proofs.Common.{◌≡◌, ◌≢◌, ◌⊎◌, inl, inr, ℕ, suc, ◌+◌, ◌-◌, ◌^◌, ◌<◌, ◌≤◌, List, [], ◌∷◌, ◌++◌}
use Rattle.std.proofs.Common.{length, get_or, refl, ap, sym, ◌∙◌, arith, Bool, true, false, ◌&&◌, not}
use Rattle.std.proofs.Common.{if◌then◌else◌, ◌==◌, eqb, Option, Some, None}
use Rattle.std.specs.Prelude.{IsSome}
use Rattle.std.proofs.lemmas.Bool.{and_parts, cases_Bool, eq-eqb, eqb-true}
use Rattle.clr_heap.specs.View.{HeapView, word_of}
use Rattle.clr_model.specs.Compaction.{Plug, plug_end}
use Rattle.clr_pinq.specs.Queue.{AllLie, AreInOrder, ComesAfter, last_end}
use Rattle.clr_pinq.specs.Queue.{saved_word}
use Rattle.clr_pinq.specs.declared.entry.PinEntry.{PinEntry}
use Rattle.clr_plugs.specs.Info.{HasInfo}
use Rattle.clr_plan.specs.Writes.{is_to_save, pin_entry, place_entry, words_before}

-- ---- the last entry

last_is : (low : ℕ) (e : PinEntry) (es : List PinEntry) (d : PinEntry) → (get_or (e ∷ es) (length es) d).end
    ≡ last_end low (e ∷ es)
last_is low e [] d = refl
last_is low e (x ∷ xs) d = last_is e.end x xs d

pub last_of_queue : (es : List PinEntry) (d : PinEntry) → length es ≢ 0 → (get_or es (length es - 1) d).end
    ≡ last_end 0 es
last_of_queue [] d some = absurd (some refl)
last_of_queue (e ∷ es) d some = ap (λ n. (get_or (e ∷ es) n d).end) back ∙ last_is 0 e es d
  where
    back : suc (length es) - 1 ≡ length es
    back = omega arith

pub last_pushed : (low : ℕ) (es : List PinEntry) (e : PinEntry) → last_end low (es ++ e ∷ []) ≡ e.end
last_pushed low [] e = refl
last_pushed low (x ∷ xs) e = last_pushed x.end xs e

-- ---- what an entry saves

-- words that were read are those that stand in the heap
pub saved_reads : (word : ℕ → ℕ) (a b w : ℕ) → 32 ≤ a → saved_word (words_before word a) b ≡ Some w → word b ≡ w
saved_reads word a b w up is = elim (cases_Bool (eqb b (a - 32))) [
  | inl e ↦ here (a - 32) (eqb-true b (a - 32) e) (rw e at is)
  | inr n ↦ elim (cases_Bool (eqb b (a - 32 + 8))) [
    | inl e ↦ here (a - 24) (let s = eqb-true b (a - 32 + 8) e in omega (arith, s, up)) (rw (n, e) at is)
    | inr m ↦ elim (cases_Bool (eqb b (a - 32 + 16))) [
      | inl e ↦ here (a - 16) (let s = eqb-true b (a - 32 + 16) e in omega (arith, s, up)) (rw (n, m, e) at is)
      | inr k ↦ absurd (let bad : None ≡ Some w = rw (n, m, k) at is in cc)
    ]
  ]
]
  where
    here : (c : ℕ) → b ≡ c → Some (word c) ≡ Some w → word b ≡ w
    here c at got = let v : word c ≡ w = cc in ap word at ∙ v

-- the three words are there
pub saved_there : (word : ℕ → ℕ) (a : ℕ) → 32 ≤ a → IsSome (saved_word (words_before word a) (a - 32))
    × IsSome (saved_word (words_before word a) (a - 24)) × IsSome (saved_word (words_before word a) (a - 16))
saved_there word a up = (
  second_some (eqb (a - 32) (a - 32)) _ _ (eq-eqb (a - 32) (a - 32) refl),
  first_some (eqb (a - 24) (a - 32)) _ _ (second_some (eqb (a - 24) (a - 32 + 8))
      _ _ (eq-eqb (a - 24) (a - 32 + 8) (omega (arith, up)))),
  first_some (eqb (a - 16) (a - 32)) _ _ (first_some (eqb (a - 16) (a - 32 + 8))
      _ _ (second_some (eqb (a - 16) (a - 32 + 16)) _ _ (eq-eqb (a - 16) (a - 32 + 16) (omega (arith, up))))),
)
  where
    first_some : (t : Bool) (v : ℕ) (o : Option ℕ) → IsSome o → IsSome (if t then Some v else o)
    first_some true v o h = refl
    first_some false v o h = h

    second_some : (t : Bool) (v : ℕ) (o : Option ℕ) → t ≡ true → IsSome (if t then Some v else o)
    second_some true v o h = refl
    second_some false v o h = absurd cc

-- ---- the entries come after the others

module _ (h : HeapView) (es : List PinEntry) (p : Plug) (first below : ℕ) (info : HasInfo h p.start)
    (ending : HasInfo h (plug_end p)) (least : 24 ≤ p.size) (end : last_end 0 es ≤ below) (live : below ≤ p.start)
    (apart : p.start ≡ below → (last_end 0 es ≡ below) ⊎ (last_end 0 es + 24 ≤ below))
    (fits : plug_end p < 2 ^ 64) where
  saved_above : is_to_save es first below p.start ≡ true → last_end 0 es + 24 ≤ p.start
  saved_above t =
      let (here, rest) = and_parts (p.start == below) (not (p.start == first) && not (p.start == last_end 0 es)) t in
      let (_, other) = and_parts (not (p.start == first)) (not (p.start == last_end 0 es)) rest in
      let at = eqb-true p.start below here in
      elim (apart at) [
        | inl e ↦ let on = eq-eqb p.start (last_end 0 es) (at ∙ sym e) in let bad : false ≡ true = rw on at other in cc
        | inr l ↦ omega (arith, l, at)
      ]

  pre_lies : (t : Bool) → is_to_save es first below p.start ≡ t → AllLie (last_end 0 es) (plug_end p)
      (if t then Some (words_before (word_of h) p.start) else None)
  pre_lies false e = tt
  pre_lies true e =
      let up = saved_above e in
      let above = info.above in
      let z = info.bytes.word.aligned in
      record {
        aligned = z;
        above = omega (arith, up, above);
        below = omega (arith, above);
        fits = omega (arith, above, fits);
      }

  in_order : (t : Bool) → AreInOrder (if t then Some (words_before (word_of h) p.start) else None)
      (Some (words_before (word_of h) (plug_end p)))
  in_order false = tt
  in_order true = let above = info.above in omega (arith, above, least)

  pub comes-pin : ComesAfter (last_end 0 es) (pin_entry es (word_of h) first below p)
  comes-pin =
      let above = info.above in
      let z = ending.bytes.word.aligned in
      record {
        rises = omega (arith, end, live);
        pre = pre_lies (is_to_save es first below p.start) refl;
        post = record {
          aligned = z;
          above = omega (arith, end, live, least, above);
          below = omega (arith, above, least);
          fits = omega (arith, above, least, fits);
        };
        order = in_order (is_to_save es first below p.start);
      }

  pub comes-place : is_to_save es first below p.start ≡ true
      → ComesAfter (last_end 0 es) (place_entry (word_of h) p.start)
  comes-place e =
      let up = saved_above e in
      let above = info.above in
      let z = info.bytes.word.aligned in
      record {
        rises = omega (arith, end, live);
        pre = tt;
        post = record {
          aligned = z;
          above = omega (arith, up, above);
          below = omega (arith, above);
          fits = omega (arith, above, fits);
        };
        order = tt;
      }

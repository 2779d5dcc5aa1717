-- The pins among the entries of a queue, and what entries save, with the entries of one plug more.
use Rattle.std.proofs.lemmas.List.{append-nil}
use Rattle.std.proofs.Common.{◌≡◌, ◌⊎◌, inl, inr, ℕ, ◌+◌, ◌-◌, ◌≤◌, List, [], ◌∷◌, ◌++◌, drop, filter}
use Rattle.std.proofs.Common.{length, map, refl, ap, sym, ◌∙◌, subst, arith, Bool, true, false, eqb, if◌then◌else◌}
use Rattle.std.proofs.Common.{Option, Some, None}
use Rattle.std.specs.Prelude.{IsSome}
use Rattle.std.proofs.lemmas.Bool.{cases_Bool, eqb-true, le-ltb, lt-ltb}
use Rattle.std.proofs.lemmas.List.{drop-append-le, map-append}
use Rattle.std.proofs.lemmas.List.Elements.{filter-append}
use Rattle.clr_types.specs.Rising.{first, IsIn}
use Rattle.clr_types.proofs.ChangedLists.{append_left}
use Rattle.clr_types.proofs.ListMembers.{append_right}
use Rattle.clr_model.specs.Compaction.{piece_of_plug, Plug, plug_end}
use Rattle.clr_pinq.specs.Queue.{entry_word, first_of_two, option_word, queue_word, saved_word}
use Rattle.clr_pinq.specs.declared.entry.PinEntry.{PinEntry}
use Rattle.clr_pinq.proofs.Changes.{queue_push}
use Rattle.clr_plugs.specs.Info.{IsInfoWord}
use Rattle.clr_plan.specs.Waiting.{is_range, range_of, ranges, ranges_from, with_pin}
use Rattle.clr_plan.specs.Writes.{AreSavedAt, entries_for, is_to_save, pin_entry, place_entry, saved_before}
use Rattle.clr_plan.specs.Writes.{words_before}

-- ---- pins

ranges-append : (xs ys : List PinEntry) → ranges (xs ++ ys) ≡ ranges xs ++ ranges ys
ranges-append xs ys = ap (map range_of) (filter-append is_range xs ys) ∙ map-append range_of (filter is_range xs)
    (filter is_range ys)

-- what is pushed for a plug is its pin, where it is pinned
ranges-pushed : (es : List PinEntry) (word : ℕ → ℕ) (begin below : ℕ) (p : Plug) → 24 ≤ p.size
    → ranges (entries_for es word begin below p) ≡ (if p.pinned then piece_of_plug p ∷ [] else [])
ranges-pushed es word begin below p least = go p.pinned (is_to_save es begin below p.start)
  where
    size : plug_end p - p.start ≡ p.size
    size = omega arith

    one : (e : PinEntry) (b : Bool) → is_range e ≡ b → ranges (e ∷ []) ≡ (if b then range_of e ∷ [] else [])
    one e b is = ap (λ t. map range_of (if t then e ∷ [] else [])) is ∙ both b
      where
        both : (t : Bool) → map range_of (if t then e ∷ [] else []) ≡ (if t then range_of e ∷ [] else [])
        both true = refl
        both false = refl

    go : (a b : Bool) → ranges (if a then pin_entry es word begin below p ∷ []
        else (if b then place_entry word p.start ∷ [] else [])) ≡ (if a then piece_of_plug p ∷ [] else [])
    go true b = one (pin_entry es word begin below p) true (lt-ltb p.start (plug_end p) (omega (arith, least)))
        ∙ ap (λ n. record { place = p.start; size = n } ∷ []) size
    go false true = one (place_entry word p.start) false (le-ltb p.start p.start (omega arith))
    go false false = refl

pub with-pushed : (es : List PinEntry) (word : ℕ → ℕ) (begin below : ℕ) (p : Plug) → 24 ≤ p.size → (n : ℕ)
    → n ≤ length es → ranges_from n (es ++ entries_for es word begin below p) ≡ with_pin (ranges_from n es) p
with-pushed es word begin below p least n l =
    ap ranges (drop-append-le n es (entries_for es word begin below p) l)
    ∙ ranges-append (drop n es) (entries_for es word begin below p)
    ∙ ap (λ ps. ranges_from n es ++ ps) (ranges-pushed es word begin below p least)
    ∙ go p.pinned
  where
    go : (b : Bool) → ranges_from n es ++ (if b then piece_of_plug p ∷ [] else [])
        ≡ (if b then ranges_from n es ++ piece_of_plug p ∷ [] else ranges_from n es)
    go true = refl
    go false = append-nil (ranges_from n es)

-- ---- what is saved

some-either : (o p : Option ℕ) → IsSome (first_of_two o p) → IsSome o ⊎ IsSome p
some-either None p h = inr h
some-either (Some v) p h = inl refl

saved-where : (word : ℕ → ℕ) (a b : ℕ) → 32 ≤ a → IsSome (saved_word (words_before word a) b) → IsInfoWord a b
saved-where word a b up h = elim (cases_Bool (eqb b (a - 32))) [
  | inl e ↦ let s = eqb-true b (a - 32) e in (omega (arith, s, up), omega (arith, s, up))
  | inr n ↦ elim (cases_Bool (eqb b (a - 32 + 8))) [
    | inl e ↦ let s = eqb-true b (a - 32 + 8) e in (omega (arith, s, up), omega (arith, s, up))
    | inr m ↦ elim (cases_Bool (eqb b (a - 32 + 16))) [
      | inl e ↦ let s = eqb-true b (a - 32 + 16) e in (omega (arith, s, up), omega (arith, s, up))
      | inr k ↦ absurd (let bad : IsSome {T = ℕ} None = rw (n, m, k) at h in cc)
    ]
  ]
]

-- what is saved with the entries of a plug more
pub saved-pushed : (es : List PinEntry) (ps : List Plug) (word : ℕ → ℕ) (begin below : ℕ) (p : Plug) → 32 ≤ p.start
    → 24 ≤ p.size → AreSavedAt es ps → AreSavedAt (es ++ entries_for es word begin below p) (ps ++ p ∷ [])
saved-pushed es ps word begin below p up least saved = go p.pinned (is_to_save es begin below p.start)
  where
    earlier : (b : ℕ) → IsSome (queue_word es b) → (q : Plug) × IsIn q (ps ++ p ∷ [])
        × (IsInfoWord q.start b ⊎ IsInfoWord (plug_end q) b)
    earlier b h = let (q, i, at) = saved b h in (q, append_left (p ∷ []) i, at)

    mine : IsIn p (ps ++ p ∷ [])
    mine = append_right ps first

    pushed : (e : PinEntry) → ((b : ℕ) → IsSome (entry_word e b) → IsInfoWord p.start b ⊎ IsInfoWord (plug_end p) b)
        → AreSavedAt (es ++ e ∷ []) (ps ++ p ∷ [])
    pushed e own b h =
        let P : Option ℕ → Type 0 = IsSome in
        elim (some-either (queue_word es b) (entry_word e b) (subst P (queue_push es e b) h))
        [ inl o ↦ earlier b o | inr m ↦ (p, mine, own b m) ]

    pre : (t : Bool) (b : ℕ) → IsSome (option_word (if t then Some (words_before word p.start) else None) b)
        → IsInfoWord p.start b
    pre true b h = saved-where word p.start b up h
    pre false b h = absurd cc

    pinned : (b : ℕ) → IsSome (entry_word (pin_entry es word begin below p) b) → IsInfoWord p.start b
        ⊎ IsInfoWord (plug_end p) b
    pinned b h = elim (some-either (option_word (saved_before es word begin below p.start) b)
        (saved_word (words_before word (plug_end p)) b) h) [
          | inl o ↦ inl (pre (is_to_save es begin below p.start) b o)
          | inr m ↦ inr (saved-where word (plug_end p) b (omega (arith, up)) m)
        ]

    go : (a t : Bool) → AreSavedAt (es
        ++ (if a then pin_entry es word begin below p ∷ [] else (if t then place_entry word p.start ∷ [] else [])))
        (ps ++ p ∷ [])
    go true t = pushed (pin_entry es word begin below p) pinned
    go false true = pushed (place_entry word p.start) (λ b h. inl (saved-where word p.start b up h))
    go false false = subst (λ xs. AreSavedAt xs (ps ++ p ∷ [])) (sym (append-nil es)) earlier

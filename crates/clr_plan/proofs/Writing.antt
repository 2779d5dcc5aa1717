-- What writing a plug does to the words of a plan.
use Rattle.std.proofs.lemmas.List.{append-nil}
use Rattle.std.proofs.Common.{◌≡◌, ◌⊎◌, inl, inr, ℕ, ◌+◌, ◌-◌, ◌%◌, ◌<◌, ◌≤◌, List, [], ◌∷◌, ◌++◌, refl, ap}
use Rattle.std.proofs.Common.{sym, ◌∙◌, subst, arith, Bool, true, false, eqb, ◌==◌, if◌then◌else◌, Option, Some, None}
use Rattle.std.specs.Prelude.{IsSome}
use Rattle.std.proofs.lemmas.Bool.{cases_Bool, cases_lt, eq-eqb, eqb-true}
use Rattle.clr_types.specs.Rising.{IsIn, later}
use Rattle.clr_types.specs.Rising as rising
use Rattle.clr_types.proofs.ChangedLists.{append_left}
use Rattle.clr_types.proofs.ListMembers.{append_right}
use Rattle.clr_heap.specs.View.{HeapView, SameShape, word_of}
use Rattle.clr_model.specs.Compaction.{Plug, plug_end}
use Rattle.clr_pinq.specs.Queue.{entry_word, first_of_two, last_end, logical, option_word, or_else, queue_word}
use Rattle.clr_pinq.specs.Queue.{saved_word}
use Rattle.clr_pinq.specs.declared.entry.Saved.{Saved}
use Rattle.clr_pinq.proofs.Changes.{queue_push}
use Rattle.clr_pinq.specs.declared.entry.PinEntry.{PinEntry}
use Rattle.clr_plugs.specs.Builders.{IsNoChildren}
use Rattle.clr_plugs.specs.Info.{IsInfoWord}
use Rattle.clr_plugs.proofs.Keeping.{in_pushed}
use Rattle.clr_plan.specs.Writes.{entries_for, HasWritten, is_open, is_to_save, IsOutsideInfo, IsSavedBefore, opened}
use Rattle.clr_plan.specs.Writes.{place_entry, words_before}
use Rattle.clr_plan.proofs.Saving.{last_pushed, saved_reads, saved_there}

-- a word is that of the children of one of the plugs, or of none
children_or_none : (plugs : List ℕ) (b : ℕ) → IsNoChildren plugs b ⊎ ((x : ℕ) × IsIn x plugs × (b + 16 ≡ x))
children_or_none [] b = inl tt
children_or_none (p ∷ ps) b = elim (cases_Bool (eqb (b + 16) p)) [
  | inl e ↦ inr (p, rising.first, eqb-true (b + 16) p e)
  | inr n ↦ elim (children_or_none ps b) [
    | inl none ↦ inl ((λ s. let on = eq-eqb (b + 16) p s in let bad : true ≡ false = sym on ∙ n in cc), none)
    | inr (x, i, e) ↦ inr (x, later i, e)
  ]
]

-- a word is of the information before a place, or outside it
info_or_not : (a b : ℕ) → IsInfoWord a b ⊎ ((b + 32 < a) ⊎ (a ≤ b + 8))
info_or_not a b = elim (cases_lt (b + 32) a) [
  | inl l ↦ inr (inl l)
  | inr u ↦ elim (cases_lt (b + 8) a) [ inl l ↦ inl (u, l) | inr v ↦ inr (inr v) ]
]

no_some : (o : Option ℕ) → o ≡ None → IsSome o → ⊥
no_some o e s = let P : Option ℕ → Type 0 = IsSome in let bad : IsSome {T = ℕ} None = subst P e s in cc

-- The queue saves for further addresses, and what it saves there are the heap's words.
abbrev pub SavesMore : (ℕ → ℕ) → List PinEntry → List PinEntry → Type 0
SavesMore word es more = (b : ℕ) → (queue_word more b ≡ queue_word es b)
    ⊎ ((queue_word es b ≡ None) × (queue_word more b ≡ Some (word b)))

some_stays : (word : ℕ → ℕ) (es more : List PinEntry) → SavesMore word es more → (b : ℕ) → IsSome (queue_word es b)
    → IsSome (queue_word more b)
some_stays word es more saves b s = elim (saves b) [
  | inl e ↦ let P : Option ℕ → Type 0 = IsSome in subst P (sym e) s
  | inr (none, _) ↦ absurd (no_some (queue_word es b) none s)
]

module _ (old h now : HeapView) (es more : List PinEntry) (starts free wide kids : List ℕ) (a low high : ℕ)
    (s : HasWritten old h es starts free low) (saves : SavesMore (word_of h) es more)
    (wider : (x : ℕ) → IsIn x free → IsIn x wide) (covers : IsIn a wide ⊎ IsSavedBefore more a) (among : (x : ℕ)
    → IsIn x kids → IsIn x starts) (below : (x : ℕ) → IsIn x kids → x ≤ a)
    (words : (b : ℕ) → b % 8 ≡ 0 → (b + 32 < a) ⊎ (a ≤ b + 8) → IsNoChildren kids b → word_of now b ≡ word_of h b)
    (up : 32 ≤ a) (z : a % 8 ≡ 0) where
  saved_stays : (x : ℕ) → IsSavedBefore es x → IsSavedBefore more x
  saved_stays x t = (
    some_stays (word_of h) es more saves (x - 32) t.0,
    some_stays (word_of h) es more saves (x - 24)
        t.1,
    some_stays (word_of h) es more saves (x - 16) t.2,
  )

  told : (x : ℕ) → IsIn x (starts ++ a ∷ []) → IsIn x wide ⊎ IsSavedBefore more x
  told x i = elim (in_pushed starts a x i) [
    | inl earlier ↦ elim (s.told x earlier) [ inl f ↦ inl (wider x f) | inr t ↦ inr (saved_stays x t) ]
    | inr e ↦ let P : ℕ → Type 0 = λ y. IsIn y wide ⊎ IsSavedBefore more y in subst P (sym e) covers
  ]

  -- a word that isn't saved and lies outside the free places stays
  unsaved : (b : ℕ) → b % 8 ≡ 0 → IsOutsideInfo wide b → queue_word more b ≡ None → queue_word es b ≡ None
      → word_of now b ≡ word_of h b
  unsaved b w out none old_none = elim (info_or_not a b) [
    | inl is ↦ elim covers [
      | inl f ↦ absurd (out a f is)
      | inr t ↦ absurd (within is t)
    ]
    | inr away ↦ elim (children_or_none kids b) [
      | inl nowhere ↦ words b w away nowhere
      | inr (x, i, e) ↦ elim (s.told x (among x i)) [
        | inl f ↦ absurd (out x (wider x f) (omega (arith, e), omega (arith, e)))
        | inr t ↦
            let P : ℕ → Type 0 = λ c. IsSome (queue_word es c) in
            let at : x - 16 ≡ b = omega (arith, e) in
            absurd (no_some (queue_word es b) old_none (subst P at t.2))
      ]
    ]
  ]
    where
      within : IsInfoWord a b → IsSavedBefore more a → ⊥
      within is t =
          let low = is.0 in
          let high = is.1 in
          let P : ℕ → Type 0 = λ c. IsSome (queue_word more c) in
          let three : (a - 32 ≡ b) ⊎ ((a - 24 ≡ b) ⊎ (a - 16 ≡ b)) = elim (cases_lt b (a - 24)) [
            | inl l ↦ inl (omega (arith, l, low, high, up, z, w))
            | inr u ↦ elim (cases_lt b (a - 16)) [
              | inl l ↦ inr (inl (omega (arith, l, u, low, high, up, z, w)))
              | inr v
                  ↦ inr (inr (omega (arith, v, low, high, up, z, w)))
            ]
          ] in
          no_some (queue_word more b) none (elim three [
            | inl e ↦ subst P e t.0
            | inr other ↦
                elim other [ inl e ↦ subst P e t.1 | inr e ↦ subst P e t.2 ]
          ])

  kept : (b : ℕ) → b % 8 ≡ 0 → IsOutsideInfo wide b → logical more (word_of now) b ≡ word_of old b
  kept b w out = same ∙ s.kept b w (λ x i. out x (wider x i))
    where
      go : (before after : Option ℕ) → queue_word es b ≡ before → queue_word more b ≡ after → (after ≡ before)
          ⊎ ((before ≡ None) × (after ≡ Some (word_of h b))) → or_else after (word_of now b)
          ≡ or_else before (word_of h b)
      go (Some v) after is now_is (inl e) = ap (λ (o : Option ℕ). or_else o (word_of now b)) e
      go None after is now_is (inl e) = ap (λ (o : Option ℕ). or_else o (word_of now b)) e
          ∙ unsaved b w out (now_is ∙ e) is
      go before after is now_is (inr (none, some)) = ap (λ (o : Option ℕ). or_else o (word_of now b)) some
          ∙ ap (λ (o : Option ℕ). or_else o (word_of h b)) (sym none)

      same : logical more (word_of now) b ≡ logical es (word_of h) b
      same = go (queue_word es b) (queue_word more b) refl refl (saves b)

  -- a word of no information stays
  others : (b : ℕ) → b % 8 ≡ 0 → IsOutsideInfo (starts ++ a ∷ []) b → word_of now b ≡ word_of old b
  others b w out = words b w away (no_kids (children_or_none kids b))
      ∙ s.others b w (λ x i. out x (append_left (a ∷ []) i))
    where
      away : (b + 32 < a) ⊎ (a ≤ b + 8)
      away = elim (info_or_not a b) [ inl is ↦ absurd (out a (append_right starts rising.first) is) | inr off ↦ off ]

      no_kids : IsNoChildren kids b ⊎ ((x : ℕ) × IsIn x kids × (b + 16 ≡ x)) → IsNoChildren kids b
      no_kids (inl nowhere) = nowhere
      no_kids (inr (x, i, e)) = absurd (out x (append_left (a ∷ []) (among x i)) (omega (arith, e), omega (arith, e)))

  -- THE STEP
  pub written-more : SameShape h now → SameShape old now → low ≤ a → a ≤ high → (last_end 0 more ≡ high)
      ⊎ (last_end 0 more + 24 ≤ high) → (more ≡ []) ⊎ IsSavedBefore more (last_end 0 more)
      → HasWritten old now more (starts ++ a ∷ []) wide high
  written-more shape whole from to end last = record {
    shape = whole;
    told = told;
    kept = kept;
    others = others;
    ahead = λ b w l. words b w (inr (omega (arith, to, l))) (no_kids b (omega (arith, to, l)))
        ∙ s.ahead b w (omega (arith, from, to, l));
    end = end;
    last = last;
  }
    where
      no_kids : (b : ℕ) → a ≤ b + 8 → IsNoChildren kids b
      no_kids b l = elim (children_or_none kids b) [
        | inl nowhere ↦ nowhere
        | inr (x, i, e) ↦ let u = below x i in
            absurd (omega (arith, u, e, l))
      ]

-- ---- what is pushed for a plug

saves_push : (word : ℕ → ℕ) (es : List PinEntry) (e : PinEntry) → ((b w : ℕ) → entry_word e b ≡ Some w → word b ≡ w)
    → SavesMore word es (es ++ e ∷ [])
saves_push word es e reads b = go (queue_word es b) (entry_word e b) refl refl
  where
    go : (before own : Option ℕ) → queue_word es b ≡ before → entry_word e b ≡ own
        → (queue_word (es ++ e ∷ []) b ≡ queue_word es b)
        ⊎ ((queue_word es b ≡ None) × (queue_word (es ++ e ∷ []) b ≡ Some (word b)))
    go (Some v) own is here = inl (queue_push es e b ∙ ap (λ (o : Option ℕ). first_of_two o (entry_word e b)) is
        ∙ sym is)
    go None None is here = inl (queue_push es e b ∙ ap (λ (o : Option ℕ). first_of_two o (entry_word e b)) is ∙ here
        ∙ sym is)
    go None (Some w) is here = inr (
      is,
      queue_push es e b ∙ ap (λ (o : Option ℕ). first_of_two o (entry_word e b)) is
          ∙ here ∙ ap (λ (v : ℕ). Some v) (sym (reads b w here)),
    )

some_second : (o p : Option ℕ) → IsSome p → IsSome (first_of_two o p)
some_second None p h = h
some_second (Some v) p h = refl

some_first : (o p : Option ℕ) → IsSome o → IsSome (first_of_two o p)
some_first None p h = absurd cc
some_first (Some v) p h = refl

pushed_some : (es : List PinEntry) (e : PinEntry) (b : ℕ) → IsSome (entry_word e b)
    → IsSome (queue_word (es ++ e ∷ []) b)
pushed_some es e b h = let P : Option ℕ → Type 0 = IsSome in
    subst P (sym (queue_push es e b)) (some_second (queue_word es b) (entry_word e b) h)

-- entries were pushed: they save what stood there, before the place too where `t` says so
pub record IsPush (word : ℕ → ℕ) (es more : List PinEntry) (a high : ℕ) (t : Bool) : Type 0 where
  pub saves : SavesMore word es more
  pub saved : t ≡ true → IsSavedBefore more a
  pub end : (last_end 0 more ≡ high) ⊎ (last_end 0 more + 24 ≤ high)
  pub last : (more ≡ []) ⊎ IsSavedBefore more (last_end 0 more)

module _ (word : ℕ → ℕ) (es : List PinEntry) (a high : ℕ) (up : 32 ≤ a) (to : a + 24 ≤ high) where
  abbrev pre_of : Bool → Option Saved
  pre_of t = if t then Some (words_before word a) else None

  abbrev pinned_entry : Bool → PinEntry
  pinned_entry t = record { start = a; end = high; pre = pre_of t; post = Some (words_before word high) }

  push_pin : (t : Bool) → IsPush word es (es ++ pinned_entry t ∷ []) a high t
  push_pin t =
      let there = saved_there word high (omega (arith, up, to)) in
      let ends = last_pushed 0 es (pinned_entry t) in
      let P : ℕ → Type 0 = λ n. IsSavedBefore (es ++ pinned_entry t ∷ []) n in
      record {
        saves = saves_push word es (pinned_entry t) (reads t);
        saved = saved t;
        end = inl ends;
        last = inr (subst P (sym ends) (
          pushed_some es (pinned_entry t) (high - 32) (some_second (option_word (pre_of t) (high - 32))
              (saved_word (words_before word high) (high - 32)) there.0),
          pushed_some es (pinned_entry t) (high - 24) (some_second (option_word (pre_of t) (high - 24))
              (saved_word (words_before word high) (high - 24)) there.1),
          pushed_some es (pinned_entry t) (high - 16) (some_second (option_word (pre_of t) (high - 16))
              (saved_word (words_before word high) (high - 16)) there.2),
        ));
      }
    where
      saved : (t : Bool) → t ≡ true → IsSavedBefore (es ++ pinned_entry t ∷ []) a
      saved false e = absurd cc
      saved true e =
          let here = saved_there word a up in (
            pushed_some es (pinned_entry true) (a - 32) (some_first (saved_word (words_before word a) (a - 32))
                (saved_word (words_before word high) (a - 32)) here.0),
            pushed_some es (pinned_entry true) (a - 24) (some_first (saved_word (words_before word a) (a - 24))
                (saved_word (words_before word high) (a - 24)) here.1),
            pushed_some es (pinned_entry true) (a - 16) (some_first (saved_word (words_before word a) (a - 16))
                (saved_word (words_before word high) (a - 16)) here.2),
          )

      reads : (t : Bool) (b w : ℕ) → entry_word (pinned_entry t) b ≡ Some w → word b ≡ w
      reads false b w e = saved_reads word high b w (omega (arith, up, to)) e
      reads true b w e = two (saved_word (words_before word a) b) (saved_word (words_before word high) b) refl refl e
        where
          two : (o p : Option ℕ) → saved_word (words_before word a) b ≡ o → saved_word (words_before word high) b ≡ p
              → first_of_two o p ≡ Some w → word b ≡ w
          two None p x y e = saved_reads word high b w (omega (arith, up, to)) (y ∙ e)
          two (Some v) p x y e = saved_reads word a b w up (x ∙ e)

  push_place : IsPush word es (es ++ place_entry word a ∷ []) a high true
  push_place =
      let there = saved_there word a up in
      let ends = last_pushed 0 es (place_entry word a) in
      let all : IsSavedBefore (es ++ place_entry word a ∷ []) a = (
        pushed_some es (place_entry word a) (a - 32) there.0,
        pushed_some es (place_entry word a) (a - 24) there.1,
        pushed_some es (place_entry word a) (a - 16) there.2,
      ) in
      let P : ℕ → Type 0 = λ n. IsSavedBefore (es ++ place_entry word a ∷ []) n in
      record {
        saves = saves_push word es (place_entry word a) (λ b w e. saved_reads word a b w up e);
        saved = λ e. all;
        end = inr (omega (arith, ends, to));
        last = inr (subst P (sym ends) all);
      }

  push_none : last_end 0 es ≤ a → (es ≡ []) ⊎ IsSavedBefore es (last_end 0 es) → IsPush word es (es ++ []) a high false
  push_none end last =
      let P : List PinEntry → Type 0 = λ more. IsPush word es more a high false in
      let same : IsPush word es es a high false = record {
        saves = λ b. inl refl;
        saved = λ e. (absurd cc);
        end = inr (omega (arith, end, to));
        last = last;
      } in
      subst P (sym (append-nil es)) same

  push_either : (pinned t : Bool) → last_end 0 es ≤ a → (es ≡ []) ⊎ IsSavedBefore es (last_end 0 es)
      → IsPush word es (es ++ (if pinned then pinned_entry t ∷ [] else (if t then place_entry word a ∷ [] else []))) a
      high t
  push_either true t end last = push_pin t
  push_either false true end last = push_place
  push_either false false end last = push_none end last

-- what is pushed for a plug
pub pushes : (word : ℕ → ℕ) (es : List PinEntry) (p : Plug) (first below : ℕ) → 32 ≤ p.start → 24 ≤ p.size
    → last_end 0 es ≤ p.start → (es ≡ []) ⊎ IsSavedBefore es (last_end 0 es)
    → IsPush word es (es ++ entries_for es word first below p) p.start (plug_end p) (is_to_save es first below p.start)
pushes word es p first below up least end last = push_either word es p.start (plug_end p) up (omega (arith, least))
    p.pinned (is_to_save es first below p.start) end last

-- the words before a plug are free or saved then
pub covered : (word : ℕ → ℕ) (es more : List PinEntry) (free : List ℕ) (a high first below : ℕ) → 32 ≤ a → (es ≡ [])
    ⊎ IsSavedBefore es (last_end 0 es) → IsPush word es more a high (is_to_save es first below a)
    → IsIn a (opened free first below a) ⊎ IsSavedBefore more a
covered word es more free a high first below up last push = go (a == below) (a == first) (a == last_end 0 es) refl refl
    refl
  where
    saved_already : a ≡ last_end 0 es → IsSavedBefore more a
    saved_already at = elim last [
      | inl none ↦ absurd (let zero_end : last_end 0 es ≡ 0 = ap (last_end 0) none in omega (arith, zero_end, at, up))
      | inr t ↦
          let P : ℕ → Type 0 = λ n. IsSavedBefore more n in
          subst P (sym at) (
            some_stays word es more push.saves (last_end 0 es - 32) t.0,
            some_stays word es more push.saves (last_end 0 es - 24) t.1,
            some_stays word es more push.saves
                (last_end 0 es - 16) t.2,
          )
    ]

    go : (x y v : Bool) → (a == below) ≡ x → (a == first) ≡ y → (a == last_end 0 es) ≡ v
        → IsIn a (opened free first below a) ⊎ IsSavedBefore more a
    go false y v ex ey ev = inl (rw ex (append_right free rising.first))
    go true true v ex ey ev = inl (rw (ex, ey) (append_right free rising.first))
    go true false true ex ey ev = inr (saved_already (eqb-true a (last_end 0 es) ev))
    go true false false ex ey ev = inr (push.saved (rw (ex, ey, ev) refl))

pub shape-on : (old h now : HeapView) → SameShape old h → SameShape h now → SameShape old now
shape-on old h now a b = record {
  memories = b.memories ∙ a.memories;
  others = b.others
      ∙ ap (λ (v : HeapView). record v { memories = now.memories }) a.others;
}

wider-opened : (free : List ℕ) (first below a x : ℕ) → IsIn x free → IsIn x (opened free first below a)
wider-opened free first below a x i = go (is_open first below a)
  where
    go : (t : Bool) → IsIn x (if t then free ++ a ∷ [] else free)
    go true = append_left (a ∷ []) i
    go false = i

-- A plug is written
pub written-plug : (old h now : HeapView) (es : List PinEntry) (starts free kids : List ℕ) (p : Plug) (first below : ℕ)
    → HasWritten old h es starts free below → SameShape h now → 32 ≤ p.start → p.start % 8 ≡ 0 → below ≤ p.start
    → 24 ≤ p.size
    → ((x : ℕ) → IsIn x kids → IsIn x starts) → ((x : ℕ) → IsIn x kids → x ≤ p.start)
    → ((b : ℕ) → b % 8 ≡ 0 → (b + 32 < p.start) ⊎ (p.start ≤ b + 8) → IsNoChildren kids b → word_of now b
    ≡ word_of h b)
    → HasWritten old now (es ++ entries_for es (word_of h) first below p) (starts ++ p.start ∷ [])
    (opened free first below p.start) (plug_end p)
written-plug old h now es starts free kids p first below s shape up z live least among under words =
    let end : last_end 0 es ≤ p.start = elim s.end [ inl e ↦ omega (arith, e, live) | inr l ↦ omega (arith, l, live) ]
    in
    let push = pushes (word_of h) es p first below up least end s.last in
    written-more old h now es (es ++ entries_for es (word_of h) first below p) starts free
    (opened free first below p.start) kids p.start below (plug_end p) s push.saves
    (wider-opened free first below p.start)
    (covered (word_of h) es (es ++ entries_for es (word_of h) first below p) free p.start (plug_end p) first below up
    s.last push) among under words up z shape (shape-on old h now s.shape shape) live (omega arith) push.end
    push.last

-- what is written so far ends below a higher place too
pub written-raised : (old now : HeapView) (es : List PinEntry) (starts free : List ℕ) (low high : ℕ) → low + 24 ≤ high
    → HasWritten old now es starts free low → HasWritten old now es starts free high
written-raised old now es starts free low high up s = record {
  shape = s.shape;
  told = s.told;
  kept = s.kept;
  others = s.others;
  ahead = λ b z l. s.ahead b z (omega (arith, up, l));
  end = elim s.end [ inl e ↦ inr (omega (arith, e, up)) | inr l ↦ inr (omega (arith, l, up)) ];
  last = s.last;
}

-- the words of children of plugs that are written may be written again
pub written-children : (old h now : HeapView) (es : List PinEntry) (starts free kids : List ℕ) (low : ℕ)
    → HasWritten old h es starts free low → SameShape h now → ((x : ℕ) → IsIn x kids → IsIn x starts)
    → ((x : ℕ) → IsIn x kids → x + 24 ≤ low)
    → ((b : ℕ) → b % 8 ≡ 0 → IsNoChildren kids b → word_of now b ≡ word_of h b) → HasWritten old now es starts free low
written-children old h now es starts free kids low s shape among below words = record {
  shape = shape-on old h now s.shape shape;
  told = s.told;
  kept = kept;
  others = λ b z out. words b z (childless b out (children_or_none kids b)) ∙ s.others b z out;
  ahead = λ b z l. words b z (apart b l) ∙ s.ahead b z l;
  end = s.end;
  last = s.last;
}
  where
    apart : (b : ℕ) → low ≤ b + 8 → IsNoChildren kids b
    apart b l = elim (children_or_none kids b) [
      | inl nowhere ↦ nowhere
      | inr (x, i, e) ↦ let u = below x i in
          absurd (omega (arith, u, e, l))
    ]

    childless : (b : ℕ) → IsOutsideInfo starts b → IsNoChildren kids b ⊎ ((x : ℕ) × IsIn x kids × (b + 16 ≡ x))
        → IsNoChildren kids b
    childless b out (inl nowhere) = nowhere
    childless b out (inr (x, i, e)) = absurd (out x (among x i) (omega (arith, e), omega (arith, e)))

    same : (b : ℕ) → b % 8 ≡ 0 → IsOutsideInfo free b → queue_word es b ≡ None → word_of now b ≡ word_of h b
    same b z out none = elim (children_or_none kids b) [
      | inl nowhere ↦ words b z nowhere
      | inr (x, i, e) ↦ elim (s.told x (among x i)) [
        | inl f ↦ absurd (out x f (omega (arith, e), omega (arith, e)))
        | inr t ↦
            let P : ℕ → Type 0 = λ c. IsSome (queue_word es c) in
            let at : x - 16 ≡ b = omega (arith, e) in
            absurd (no_some (queue_word es b) none (subst P at t.2))
      ]
    ]

    kept : (b : ℕ) → b % 8 ≡ 0 → IsOutsideInfo free b → logical es (word_of now) b ≡ word_of old b
    kept b z out = go (queue_word es b) refl ∙ s.kept b z out
      where
        go : (o : Option ℕ) → queue_word es b ≡ o → or_else (queue_word es b) (word_of now b)
            ≡ or_else (queue_word es b) (word_of h b)
        go (Some v) e = ap (λ (o : Option ℕ). or_else o (word_of now b)) e
            ∙ sym (ap (λ (o : Option ℕ). or_else o (word_of h b)) e)
        go None e = ap (λ (o : Option ℕ). or_else o (word_of now b)) e ∙ same b z out e
            ∙ sym (ap (λ (o : Option ℕ). or_else o (word_of h b)) e)

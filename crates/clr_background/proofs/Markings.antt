-- How a step of the marker changes a marking.
use Rattle.std.proofs.Common.{ℕ, zero, suc, ◌⊎◌, inl, inr, sym, subst}
use Rattle.std.specs.Prelude.{◌↔◌, ◌++◌}
use Rattle.std.proofs.lemmas.Bool.{cases_eq}
use Rattle.clr_types.specs.Rising.{IsIn}
use Rattle.clr_types.proofs.ChangedLists.{append_left}
use Rattle.clr_types.proofs.ListMembers.{append_right, in_append}
use Rattle.clr_model.specs.Machine.{Machine, Marking}
use Rattle.clr_model.specs.Reach.{Marked, SlotNames}
use Rattle.clr_model.specs.Background.{Scans, ScansUpTo, taken}
use Rattle.clr_background.proofs.Members.{stands_or_not}

-- ---- what was taken

-- it is white or marked
pub taken_parts : (k : Marking) (x : ℕ) → IsIn x (taken k) → IsIn x k.white ⊎ Marked k x
taken_parts k x i = elim (in_append (k.white ++ k.gray) i) [
  | inl j ↦ elim (in_append k.white j) [ inl w ↦ inl w | inr g ↦ inr (inl g) ]
  | inr b ↦ inr (inr b)
]

pub white_taken : (k : Marking) (x : ℕ) → IsIn x k.white → IsIn x (taken k)
white_taken k x i = append_left k.black (append_left k.gray i)

pub marked_taken : (k : Marking) (x : ℕ) → Marked k x → IsIn x (taken k)
marked_taken k x (inl i) = append_left k.black (append_right k.white i)
marked_taken k x (inr i) = append_right (k.white ++ k.gray) i

-- ---- one marking after another

-- What is marked stays so, the objects that were taken are the same, and what a newly black one names of these is
-- marked.
pub record MarksOn (m : Machine) (old new : Marking) : Type 0 where
  pub keeps : (x : ℕ) → Marked old x → Marked new x
  pub same : (x : ℕ) → IsIn x (taken old) ↔ IsIn x (taken new)
  pub named : (x y : ℕ) → IsIn x new.black → (IsIn x old.black → ⊥) → SlotNames m.objects x y → IsIn y (taken old)
      → Marked new y

pub same_on : (m : Machine) (k : Marking) → MarksOn m k k
same_on m k = record {
  keeps = λ x i. i;
  same = λ x. (λ i. i, λ i. i);
  named = λ x y i none e t. absurd (none i);
}

on_after : (m : Machine) (old mid new : Marking) → MarksOn m old mid → MarksOn m mid new → MarksOn m old new
on_after m old mid new a b = record {
  keeps = λ x i. b.keeps x (a.keeps x i);
  same = λ x. (λ i. (b.same x).0 ((a.same x).0 i), λ i. (a.same x).1 ((b.same x).1 i));
  named = λ x y i none e t. elim (stands_or_not x mid.black) [
    | inl before ↦ b.keeps y (a.named x y before none e t)
    | inr none_yet ↦ b.named x y i none_yet e ((a.same y).0 t)
  ];
}

module _ (m : Machine) (old new : Marking) (s : Scans m old new) where
  stays_marked : (x : ℕ) → Marked old x → Marked new x
  stays_marked x (inr i) = inr ((s.black x).1 (inl i))
  stays_marked x (inl i) = elim (cases_eq x s.scanned) [
    | inl e ↦ inr ((s.black x).1 (inr e))
    | inr other ↦ inl ((s.gray x).1 (inl (i, other)))
  ]

  -- a white object stays white where it doesn't become gray
  stays_taken : (x : ℕ) → IsIn x (taken old) → IsIn x (taken new)
  stays_taken x i = elim (taken_parts old x i) [
    | inr marked ↦ marked_taken new x (stays_marked x marked)
    | inl white ↦ elim (stands_or_not x new.gray) [
      | inl gray ↦ marked_taken new x (inl gray)
      | inr none ↦ white_taken new x ((s.white x).1 (white, λ e. none ((s.gray x).1 (inr (white, e)))))
    ]
  ]

  was_taken : (x : ℕ) → IsIn x (taken new) → IsIn x (taken old)
  was_taken x i = elim (taken_parts new x i) [
    | inl white ↦ white_taken old x ((s.white x).0 white).0
    | inr marked ↦ was_marked marked
  ]
    where
      was_marked : Marked new x → IsIn x (taken old)
      was_marked (inl gray) = elim ((s.gray x).0 gray) [
        | inl p ↦ marked_taken old x (inl p.0)
        | inr p ↦ white_taken old x p.0
      ]
      was_marked (inr black) = elim ((s.black x).0 black) [
        | inl b ↦ marked_taken old x (inr b)
        | inr e ↦ marked_taken old x (inl (subst (λ y. IsIn y old.gray) (sym e) s.was_gray))
      ]

  pub scan_on : MarksOn m old new
  scan_on = record {
    keeps = stays_marked;
    same = λ x. (stays_taken x, was_taken x);
    named = λ x y i none e t. elim (taken_parts old y t) [
      | inr marked ↦ stays_marked y marked
      | inl white ↦ inl ((s.gray y).1 (inr (
        white,
        elim ((s.black x).0 i) [
          | inl black ↦ absurd (none black)
          | inr is ↦ subst (λ z. SlotNames m.objects z y) is e
        ],
      )))
    ];
  }

pub scans_on_marking : (m : Machine) (n : ℕ) (old : Marking) (count : ℕ) (new : Marking) → ScansUpTo m n old count new
    → MarksOn m old new
scans_on_marking m zero old count new (done, is) = subst (MarksOn m old) (sym is) (same_on m old)
scans_on_marking m (suc n) old zero new (empty, is) = subst (MarksOn m old) (sym is) (same_on m old)
scans_on_marking m (suc n) old (suc count) new (mid, s, more) =
    on_after m old mid new (scan_on m old mid s) (scans_on_marking m n mid count new more)

-- The words that an entry saves at its end.
use Rattle.std.proofs.Common.{◌≡◌, ℕ, ◌+◌, ◌<◌, ◌≤◌, List, length, get_or, refl, ap, sym, ◌∙◌, subst, arith, Option}
use Rattle.std.proofs.Common.{None, Some}
use Rattle.std.specs.Prelude.{IfSome, IsSome}
use Rattle.std.proofs.lemmas.Bool.{eq-eqb, ne_eqb}
use Rattle.clr_pinq.specs.Queue.{AreInOrder, AreRising, AreSavedFrom, entry_word, first_of_two, option_word, queue_word}
use Rattle.clr_pinq.specs.Queue.{saved_word}
use Rattle.clr_pinq.specs.declared.entry.PinEntry.{PinEntry}
use Rattle.clr_pinq.specs.declared.entry.Saved.{Saved}
use Rattle.clr_pinq.proofs.Lookups.{entry_at, queue_hit, saved_none}

-- what is saved before a plug is none of the words at its end
before_end : (o : Option Saved) (s : Saved) (b : ℕ) → AreInOrder o (Some s) → s.at ≤ b → option_word o b ≡ None
before_end None s b order up = refl
before_end (Some t) s b order up = saved_none t b (λ e. omega arith) (λ e. omega arith) (λ e. omega arith)

module _ (es : List PinEntry) (i : ℕ) (d : PinEntry) (rising : AreRising 0 es) (less : i < length es)
    (is : d ≡ get_or es i d) (s : Saved) (post : d.post ≡ Some s) where
  at_end : (b w : ℕ) → s.at ≤ b → saved_word s b ≡ Some w → queue_word es b ≡ Some w
  at_end b w up saved =
      let c = entry_at 0 es i d rising less in
      let O : PinEntry → Type 0 = λ e. AreInOrder e.pre e.post in
      let Q : Option Saved → Type 0 = λ o. AreInOrder d.pre o in
      let none = before_end d.pre s b (subst Q post (subst O (sym is) c.1.order)) up in
      let own : entry_word d b ≡ Some w =
      ap (λ (o : Option ℕ). first_of_two o (option_word d.post b)) none
      ∙ ap (λ (o : Option Saved). option_word o b) post ∙ saved in
      let here : entry_word (get_or es i d) b ≡ Some w = ap (λ (e : PinEntry). entry_word e b) (sym is) ∙ own in
      let P : Option ℕ → Type 0 = λ o. IsSome o in
      queue_hit 0 es i b d rising less (subst P (sym here) refl) ∙ here

  pub are_saved : (a : ℕ) → s.at ≡ a → AreSavedFrom es a s
  are_saved a at =
      let yes0 = eq-eqb a s.at (sym at) in
      let no1 = ne_eqb (a + 8) s.at (λ e. omega (arith, e, at)) in
      let yes1 = eq-eqb (a + 8) (s.at + 8) (omega (arith, at)) in
      let no2 = ne_eqb (a + 16) s.at (λ e. omega (arith, e, at)) in
      let no3 = ne_eqb (a + 16) (s.at + 8) (λ e. omega (arith, e, at)) in
      let yes2 = eq-eqb (a + 16) (s.at + 16) (omega (arith, at)) in
      record {
        at = at;
        first = at_end a s.w0 (omega (arith, at)) (rw yes0 refl);
        second = at_end (a + 8) s.w1 (omega (arith, at)) (rw (no1, yes1) refl);
        third = at_end (a + 16) s.w2 (omega (arith, at)) (rw (no2, no3, yes2) refl);
      }

-- what the entry at hand answers
pub saved_end : (es : List PinEntry) (i a : ℕ) (d : PinEntry) → AreRising 0 es → i < length es → d ≡ get_or es i d
    → (o : Option Saved) → IfSome o (λ s. (d.post ≡ Some s) × (s.at ≡ a)) → IfSome o (λ s. AreSavedFrom es a s)
saved_end es i a d rising less is None told = tt
saved_end es i a d rising less is (Some s) told = are_saved es i d rising less is s told.0 a told.1

-- The texts that are written of an image, by the heap's words and lists.
use Rattle.std.proofs.Common.{◌≡◌, ◌∙◌, ℕ, Bool, true, false, List, [], ◌++◌, Option, Some, None, append_assoc}
use Rattle.std.proofs.Common.{append-nil, ap, ap₂, refl, sym, subst}
use Rattle.clr_types.specs.Types.{TypeRow}
use Rattle.clr_heap.specs.View.{heap_items, HeapView, IsHeap}
use Rattle.clr_view.specs.View.{IsHeld, layout_in, objects_in}
use Rattle.clr_model.specs.declared.Mode.TheVariants.{Full}
use Rattle.clr_model.specs.Machine.{Machine}
use Rattle.clr_model.specs.Sos.{dump_by_mode, finalizequeue_text}
use Rattle.clr_streams.specs.Faults.{Appended, Rose}
use Rattle.clr_streams.proofs.ByteStreams.{appended_more}
use Rattle.clr_sos.specs.Buffered.{IsCut, IsPut, queue_text}
use Rattle.clr_sos.specs.Views.{IsViewOf}
use Rattle.clr_sos.specs.declared.view.View.{View}
use Rattle.clr_sos.proofs.PlainListings.{plain-listing}
use Rattle.clr_image.specs.Texts.{all_text, handles_text, tables_text}

-- nothing is appended
appended_none : (written : Option (List ℕ)) → Appended written written []
appended_none None = refl
appended_none (Some bytes) = sym (ap (λ (l : List ℕ). Some l) (append-nil bytes))

-- ---- the replies to `dumpheap`, `gchandles` and `finalizequeue`

-- all items of a heap are what a plain `dumpheap` shows
pub all-shown : (m : Machine) (rows : List TypeRow) (h : HeapView) → IsHeap h → IsHeld rows h → m.types ≡ rows
    → m.objects ≡ objects_in rows h → m.layout ≡ layout_in rows h
    → dump_by_mode Full rows (heap_items rows h) ≡ all_text m
all-shown = plain-listing

pub queue-shown : (v : View) (m : Machine) → IsViewOf v m
    → queue_text v.types.now (objects_in v.types.now v.heap.now) v.finals.now.entries v.finals.now.ready
    ≡ finalizequeue_text m
queue-shown v m is =
    λ k. queue_text (sym is.types k) (sym is.objects k) (sym is.entries k) (sym is.ready k)

pub tables-shown : (early : Bool) (m : Machine) (handles queue : List ℕ) → early ≡ false
    → handles ≡ handles_text early m → queue ≡ finalizequeue_text m → handles ++ queue ≡ tables_text early m
tables-shown early m handles queue second is same =
    ap₂ (λ (a b : List ℕ). a ++ b) (is ∙ ap (λ (b : Bool). handles_text b m) second) same
    ∙ ap (λ (b : Bool). tables_text b m) (sym second)

-- an image of the first version has nothing for `gchandles` and `finalizequeue`
pub tables-none : (early : Bool) (m : Machine) → early ≡ true → [] ≡ tables_text early m
tables-none early m is = ap (λ (b : Bool). tables_text b m) (sym is)

-- ---- one text after another

-- no text was put
pub put_nothing : (w : Option (List ℕ)) (f : ℕ) (held text : List ℕ) → [] ≡ text → IsPut w w f f (held ++ text) held
put_nothing w f held text e =
    subst (λ (t : List ℕ). IsPut w w f f (held ++ t) held) e
    (record { out = []; appended = appended_none w; kept = sym (append-nil held); counted = refl })

-- the parts of what is shown, of which the first two are spelled otherwise
pub parts-shown : (a b c d one other : List ℕ) → a ≡ one → b ≡ other
    → ((a ++ b) ++ c) ++ d ≡ one ++ (other ++ (c ++ d))
parts-shown a b c d one other e f =
    append_assoc (a ++ b) c d ∙ append_assoc a b (c ++ d) ∙ ap₂ (λ (x y : List ℕ). x ++ (y ++ (c ++ d))) e f

-- all that the buffer held behind a text was written
pub put_flushed : (w0 w1 w2 : Option (List ℕ)) (f0 f1 f2 : ℕ) (held left last text : List ℕ)
    → IsPut w0 w1 f0 f1 (held ++ text) left → IsPut w1 w2 f1 f2 left last → last ≡ [] → held ≡ []
    → IsPut w0 w2 f0 f2 text []
put_flushed w0 w1 w2 f0 f1 f2 held left last text one other none empty =
    let all : other.out ≡ left =
    sym (append-nil other.out) ∙ ap (λ (l : List ℕ). other.out ++ l) (sym none) ∙ other.kept in
    record {
      out = one.out ++ other.out;
      appended = appended_more w0 w1 w2 one.out other.out _ one.appended other.appended refl;
      kept = append-nil (one.out ++ other.out) ∙ ap (λ (l : List ℕ). one.out ++ l) all ∙ one.kept
          ∙ ap (λ (l : List ℕ). l ++ text) empty;
      counted = other.counted ∙ one.counted;
    }

-- a write of what the buffer held behind a text failed
pub cut_flushed : (w0 w1 w2 : Option (List ℕ)) (f0 f1 f2 : ℕ) (held left text : List ℕ)
    → IsPut w0 w1 f0 f1 (held ++ text) left → IsCut w1 w2 f1 f2 left → held ≡ [] → IsCut w0 w2 f0 f2 text
cut_flushed w0 w1 w2 f0 f1 f2 held left text one other empty = record {
  out = one.out ++ other.out;
  rest = other.rest;
  appended = appended_more w0 w1 w2 one.out other.out _ one.appended other.appended refl;
  whole = append_assoc one.out other.out other.rest ∙ ap (λ (l : List ℕ). one.out ++ l) other.whole ∙ one.kept
      ∙ ap (λ (l : List ℕ). l ++ text) empty;
  rose = subst (λ (before : ℕ). Rose before f2) one.counted other.rose;
}

-- a write of a text behind an empty buffer failed
pub cut_alone : (w0 w1 : Option (List ℕ)) (f0 f1 : ℕ) (held text : List ℕ) → IsCut w0 w1 f0 f1 (held ++ text)
    → held ≡ [] → IsCut w0 w1 f0 f1 text
cut_alone w0 w1 f0 f1 held text cut empty = subst (λ (h : List ℕ). IsCut w0 w1 f0 f1 (h ++ text)) empty cut

-- ---- what became of a text

-- what was written to its end is the text
pub appended_all : (w0 w1 : Option (List ℕ)) (f0 f1 : ℕ) (text : List ℕ) → IsPut w0 w1 f0 f1 text []
    → Appended w0 w1 text
appended_all w0 w1 f0 f1 text put =
    subst (λ (t : List ℕ). Appended w0 w1 t) (sym (append-nil put.out) ∙ put.kept) put.appended

-- a text that was without bytes is what was written since
pub grown_is : (start now text : List ℕ) → start ≡ [] → Appended (Some start) (Some now) text → now ≡ text
grown_is start now text none appended =
    let e : now ≡ start ++ text = cc in e ∙ ap (λ (l : List ℕ). l ++ text) none

-- The text of a reply of one line, and of a refusal, without the line feed.
use Rattle.std.specs.Prelude.{ℕ, List, [], ◌∷◌, ◌++◌, if◌then◌else◌, ◌==◌, codes, decimal}
use Rattle.clr_nums.specs.Numbers.{hex16}
use Rattle.clr_types.specs.declared.handle.Kind.{Kind}
use Rattle.clr_types.specs.declared.handle.Kind.TheVariants.{Strong, Pinned, Weak, WeakLong, Dependent}
use Rattle.clr_model.specs.declared.Collected.{Collected}
use Rattle.clr_model.specs.declared.Reply.{Reply}
use Rattle.clr_model.specs.declared.Reply.TheVariants.{Done, Place, Number, Mt, HandleNumber, Clean, Size, Scanned}
use Rattle.clr_model.specs.declared.Reply.TheVariants as reply
use Rattle.clr_model.specs.declared.Refusal.{Refusal}
use Rattle.clr_model.specs.declared.Refusal.TheVariants.{TooLong, Syntax, UnknownThread, Blocked, MidStep, NotMidStep}
use Rattle.clr_model.specs.declared.Refusal.TheVariants.{UnknownType, DuplicateType, BadShape, TooManyTypes, NoSlot}
use Rattle.clr_model.specs.declared.Refusal.TheVariants.{Null, Index, NotReference, IsReference, NoHandle, HandleKind}
use Rattle.clr_model.specs.declared.Refusal.TheVariants.{TooManyHandles, TooBig, Wait, Oom, NoObject, Empty, NoMemory}
use Rattle.clr_model.specs.declared.Refusal.TheVariants.{HasReferences, BackgroundRunning, NoBackground}

-- words with one space between two of them
abbrev pub spaced : List (List ℕ) → List ℕ
spaced [] = []
spaced (w ∷ []) = w
spaced (w ∷ v ∷ vs) = w ++ (32 ∷ spaced (v ∷ vs))

abbrev pub place_text : ℕ → List ℕ
place_text place = if place == 0 then codes "null" else hex16 place

abbrev pub kind_word : Kind → List ℕ
kind_word Strong = codes "strong"
kind_word Pinned = codes "pinned"
kind_word Weak = codes "weak"
kind_word WeakLong = codes "weaklong"
kind_word Dependent = codes "dependent"

-- 0 small, 1 ephemeral, 2 large, 3 pinned
abbrev pub segment_word : ℕ → List ℕ
segment_word kind =
    if kind == 0 then codes "small"
    else (if kind == 1 then codes "ephemeral" else (if kind == 2 then codes "large" else codes "pinned"))

abbrev pub collected_word : Collected → List ℕ
collected_word c =
    if c.background then codes "background"
    else (if c.fitted then codes "fit" else (if c.compacted then codes "compact" else codes "sweep"))

abbrev pub reply_text : Reply → List ℕ
reply_text Done = codes "ok"
reply_text (Place place) = place_text place
reply_text (Number number) = decimal number
reply_text (Mt mt) = spaced (codes "mt" ∷ hex16 mt ∷ [])
reply_text (HandleNumber h) = codes "h" ++ decimal h
reply_text (reply.Collected c) =
    spaced (codes "collected" ∷ decimal c.generation ∷ collected_word c ∷ codes "kept" ∷ decimal c.kept ∷ codes "freed"
    ∷ decimal c.freed ∷ [])
reply_text (reply.Where w) = spaced
    (codes "gen" ∷ decimal w.generation ∷ segment_word w.kind ∷ hex16 w.base ∷ codes "size" ∷ decimal w.size ∷ [])
reply_text Clean = codes "clean"
reply_text (Size place objects bytes) =
    spaced (codes "objsize" ∷ hex16 place ∷ codes "objects" ∷ decimal objects ∷ codes "bytes" ∷ decimal bytes ∷ [])
reply_text (Scanned scanned gray) =
    spaced (codes "scanned" ∷ decimal scanned ∷ codes "gray" ∷ decimal gray ∷ [])

abbrev pub refusal_words : Refusal → List (List ℕ)
refusal_words TooLong = codes "too-long" ∷ []
refusal_words Syntax = codes "syntax" ∷ []
refusal_words UnknownThread = codes "unknown-thread" ∷ []
refusal_words (Blocked t) = codes "blocked" ∷ decimal t ∷ []
refusal_words MidStep = codes "mid-step" ∷ []
refusal_words NotMidStep = codes "not-mid-step" ∷ []
refusal_words UnknownType = codes "unknown-type" ∷ []
refusal_words DuplicateType = codes "duplicate-type" ∷ []
refusal_words BadShape = codes "bad-shape" ∷ []
refusal_words TooManyTypes = codes "too-many-types" ∷ []
refusal_words NoSlot = codes "no-slot" ∷ []
refusal_words Null = codes "null" ∷ []
refusal_words Index = codes "index" ∷ []
refusal_words NotReference = codes "not-reference" ∷ []
refusal_words IsReference = codes "is-reference" ∷ []
refusal_words NoHandle = codes "no-handle" ∷ []
refusal_words HandleKind = codes "handle-kind" ∷ []
refusal_words TooManyHandles = codes "too-many-handles" ∷ []
refusal_words TooBig = codes "too-big" ∷ []
refusal_words (Wait t) = codes "wait" ∷ decimal t ∷ []
refusal_words Oom = codes "oom" ∷ []
refusal_words NoObject = codes "no-object" ∷ []
refusal_words Empty = codes "empty" ∷ []
refusal_words NoMemory = codes "nomem" ∷ []
refusal_words HasReferences = codes "has-references" ∷ []
refusal_words BackgroundRunning = codes "background-running" ∷ []
refusal_words NoBackground = codes "no-background" ∷ []

abbrev pub refusal_text : Refusal → List ℕ
refusal_text r = spaced (codes "refused" ∷ refusal_words r)

-- What was written of the state that a script leaves.
use Rattle.std.proofs.Common.{◌≡◌, ◌≢◌, ◌∙◌, Err, List, ap, subst, take, ℕ}
use Rattle.clr_streams.specs.Faults.{Appended}
use Rattle.clr_run.proofs.MadeImages.{made_image, made_none, made_part, no_want}
use Rattle.clr_run.proofs.making.image_source.Goals as goal

pub returns-clause-makes : goal.returns-clause-makes
returns-clause-makes g c =
    let (last, stands, ran) = c.in-Ok.ensures.ran in
    let image = c.in-Ok-image_of.ensures in
    rw c.replace.ensures.after
    (made_image _ _ _ _ _ _ c.in-Ok.runtime last c.in-Ok-image_of.image.items stands ran image.bytes image.lawful
    (subst
    (λ (bytes : List ℕ). Appended (g.K.Sink.written c.args.sink.now) (g.K.Sink.written c.write_all.new.sink) bytes)
    c.deref.ensures.value c.in-Ok-write_all.ensures.bytes))

pub returns-in-Err-clause-makes : goal.returns-in-Err-clause-makes
returns-in-Err-clause-makes g c =
    let ran = c.run_unheard.ensures in
    let is = c.in-Err.is in
    made_none _ _ _ _ _ _ _ c.in-Err.fault (λ e. ran.done (is ∙ ap Err e)) (λ e. ran.write_fault (is ∙ ap Err e))
    (λ e. ran.too_much (is ∙ ap Err e))

pub returns-in_default-clause-makes : goal.returns-in_default-clause-makes
returns-in_default-clause-makes g c = made_none _ _ _ _ _ _ _ _ (λ e. cc) (λ e. cc) (λ e. cc)

pub returns-in_default-write_all-clause-makes : goal.returns-in_default-write_all-clause-makes
returns-in_default-write_all-clause-makes g c =
    let (last, stands, ran) = c.in-Ok.ensures.ran in
    let (count, part) = c.in_default-write_all.ensures.part in
    made_part _ _ _ _ _ _ c.in-Ok.runtime last c.in-Ok-image_of.image.items count _ stands ran
    c.in-Ok-image_of.ensures.bytes
    (subst
    (λ (bytes : List ℕ).
    Appended (g.K.Sink.written c.args.sink.now) (g.K.Sink.written c.write_all.new.sink) (take count bytes))
    c.deref.ensures.value part)

pub returns-clause-unwritten : goal.returns-clause-unwritten
returns-clause-unwritten g c = no_want _ (λ e. cc) (λ e. cc) (λ e. cc)

-- What a `?` of a start passes on is answered as it came.
use mathlib.Core.Path.{◌≡◌, ap, ◌∙◌}
use Rattle.std.specs.Prelude.{Result, Err, IsErrAnd}
use Rattle.std.proofs.lemmas.Result.{err_from_is_err_and}
use Rattle.rules.specs.Answer.{refused}
use Rattle.refusal.specs.declared.Refusal.{Refusal}
use Rattle.refusal.specs.Refusal.{number_of}
use Rattle.node.specs.declared.StartRefusal.{StartRefusal}
use Rattle.node.specs.Refusals.{refused_start, start_answer}

pub denied_on : {A : Type 0} (r : Result A StartRefusal) (e : Refusal) → IsErrAnd r (λ d. d ≡ refused_start e) → start_answer r ≡ refused (number_of e)
denied_on {A} r e h = let p = err_from_is_err_and r h in ap start_answer p.1 ∙ ap (λ d. start_answer {A = A} (Err d)) p.2

pub start_on : {A : Type 0} (r : Result A StartRefusal) (e : StartRefusal) → IsErrAnd r (λ d. d ≡ e) → start_answer r ≡ start_answer (Err e)
start_on {A} r e h = let p = err_from_is_err_and r h in ap start_answer p.1 ∙ ap (λ d. start_answer {A = A} (Err d)) p.2

-- What a start answers, in the words of the rules: 9 with the task that it names.
use Rattle.std.specs.Prelude.{Result, Ok, Err}
use Rattle.rules.specs.Answer.{Answer, done, refused, refused_by}
use Rattle.refusal.specs.declared.Refusal.{Refusal}
use Rattle.refusal.specs.Refusal.{number_of}
use Rattle.node.specs.declared.StartRefusal.{StartRefusal}
use Rattle.node.specs.declared.StartRefusal.TheVariants.{Refused, Waits}

abbrev pub refused_start : Refusal → StartRefusal
refused_start e = Refused e

abbrev pub start_answer : {A : Type 0} → Result A StartRefusal → Answer A
start_answer (Ok a) = done a
start_answer (Err (Refused e)) = refused (number_of e)
start_answer (Err (Waits i)) = refused_by 9 i

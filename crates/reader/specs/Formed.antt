-- What is read, in another form: the same bytes are taken.
use mathlib.Core.Path.{ap}
use mathlib.Core.List.{List}
use Prim.Native.Nat.{ℕ}
use Rattle.rules.specs.Answer.{Answer, done, refused, refused_by}
use Rattle.rules.specs.Numbers.{Read, Reads}
use Rattle.rules.proofs.Reading.{Gives, so, stop, Took, Takes}

abbrev pub formed : {A B : Type 0} → (A → B) → Answer (Read A) → Answer (Read B)
formed form (done x) = done (record { value = form x.value; rest = x.rest })
formed form (refused n) = refused n
formed form (refused_by n i) = refused_by n i

abbrev pub in_form : {A B : Type 0} → (A → B) → Reads A → Reads B
in_form form rd = λ s. formed form (rd s)

-- That such a reader takes its bytes from the front as well is a law of the trait `Element`; a trait's law may cite the crate's own specs/ and not its proofs/.
formed_took : {A B : Type 0} (form : A → B) {rd : Reads A} {s : List ℕ} {a : Answer (Read A)} → Gives (Took rd s) a → Gives (Took (in_form form rd) s) (formed form a)
formed_took form (so {a = x} p) = so (record { taken = p.taken; whole = p.whole; alone = λ t. ap (formed form) (p.alone t) })
formed_took form stop = stop

pub in_form_takes : {A B : Type 0} (form : A → B) {rd : Reads A} → Takes rd → Takes (in_form form rd)
in_form_takes form k = record { from = λ s. formed_took form (k.from s) }

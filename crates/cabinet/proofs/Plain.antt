-- Answers whose refusals name no task: those of a look at lent words, and of a finish; and the one refusal of a start that names one.
use mathlib.Core.Path.{◌≡◌, refl, sym, ap}
use mathlib.Core.Bool.{Bool, true, false, not}
use mathlib.Core.Option.{Option, none, some}
use Prim.Native.Nat.{ℕ}
use native.Mathlib.Omega.{arith}
use Rattle.laws.specs.Tests.{◌<?◌, ◌=?◌}
use Rattle.rules.specs.Answer.{Answer, done, refused, refused_by, refuse◌if◌else◌, refuse◌naming◌else◌, ◌>>=◌}
use Rattle.rules.specs.Table.{Table}
use Rattle.rules.specs.Common.{L}
use Rattle.rules.specs.Close.{too_late}
use Rattle.rules.specs.Node.{Node, left_behind, beyond_lock, broken_now, start, finish}
use Rattle.refusal.specs.Refusal.{told_as}
use Rattle.refusal.proofs.Answers.{refused_same}
use Rattle.rules.proofs.Answers.{refused≢done, refused_by≢done}

pub record Plain {A : Type 0} (a : Answer A) : Type 0 where
  pub unnamed : (n i : ℕ) → a ≡ refused_by n i → ⊥

pub refused≢refused_by : {A : Type 0} {n k i : ℕ} → ◌≡◌ {A = Answer A} (refused n) (refused_by k i) → ⊥
refused≢refused_by e = let z : ◌≡◌ {A = ℕ} 0 1 = cc in absurd (omega arith)

pub plain_done : {A : Type 0} (x : A) → Plain (done x)
plain_done x = record { unnamed = λ n i e. refused_by≢done (sym e) }

plain_refused : {A : Type 0} (n : ℕ) → Plain {A = A} (refused n)
plain_refused n = record { unnamed = λ k i e. refused≢refused_by e }

pub plain_if : {A : Type 0} (n : ℕ) (b : Bool) {a : Answer A} → Plain a → Plain (refuse n if b else a)
plain_if n true q = plain_refused n
plain_if n false q = q

pub plain_then : {A B : Type 0} (a : Answer A) (f : A → Answer B) → Plain a → ((x : A) → Plain (f x)) → Plain (a >>= f)
plain_then (done x) f p q = q x
plain_then (refused n) f p q = plain_refused n
plain_then (refused_by n i) f p q = absurd (p.unnamed n i refl)

-- Told without the task that a refusal names, nothing is lost.
pub plain_bad : {A B : Type 0} (form : A → B) (a : Answer A) → Plain a → {n : ℕ} → refused n ≡ told_as form a → a ≡ refused n
plain_bad form (done x) p e = refused≢done e
plain_bad form (refused n) p e = ap refused (refused_same (sym e))
plain_bad form (refused_by n i) p e = absurd (p.unnamed n i refl)

-- 9 is the one refusal of a start that names a task
named_past : {A : Type 0} (n : ℕ) (b : Bool) {a : Answer A} {k i : ℕ} → (refuse n if b else a) ≡ refused_by k i → a ≡ refused_by k i
named_past n true e = absurd (refused≢refused_by e)
named_past n false e = e

named_nine : {A : Type 0} (o : Option ℕ) (a : A) {k i : ℕ} → (refuse 9 naming o else done a) ≡ refused_by k i → k ≡ 9
named_nine (some j) a e = cc
named_nine none a e = refused_by≢done (sym e)

pub started_nine : (tab : Table) (n : Node) (time : ℕ) {k i : ℕ} → start tab n time ≡ refused_by k i → k ≡ 9
unfolding start
started_nine tab n time e =
    named_nine (broken_now tab n time) _
    (named_past 8 (beyond_lock n)
    (named_past 7 (n.progress =? L n.common)
    (named_past 6 n.running (named_past 5 (left_behind n) (named_past 4 (time <? n.latest) (named_past 3 (too_late time) e))))))

pub plain_finish : (n : Node) (time : ℕ) → Plain (finish n time)
unfolding finish
plain_finish n time =
    plain_if 3 (too_late time)
    (plain_if 4 (time <? n.latest)
    (plain_if 5 (left_behind n) (plain_if 10 (not n.running) (plain_done _))))

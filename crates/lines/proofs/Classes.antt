-- The classes of a round's reply are numbers of one digit each.
use Rattle.std.specs.Prelude.{if◌then◌else◌}
use mathlib.Core.Bool.{Bool}
use mathlib.Core.Option.{Option, none, some}
use mathlib.Core.List.{List, [], ◌∷◌, ◌++◌, map}
use Prim.Native.Nat.{ℕ, zero, suc, ◌-◌, ◌<◌}
use native.Mathlib.Omega.{arith}
use lib.ListN.{length, get_or, replicate}
use Rattle.laws.specs.Lists.{pad}
use Rattle.laws.proofs.Tests.{if_cases}
use Rattle.rules.specs.Table.{Table}
use Rattle.rules.specs.Common.{Common}
use Rattle.rules.specs.Judge.{Report, Round, malformed, behind, over_bound, late, class}
use Rattle.rules.specs.Close.{verdict}
use Rattle.lines.specs.Lines.{Digits}

abbrev Digit : ℕ → Type 0
Digit n = n < 10

either : (t : Bool) (a : ℕ) {b : ℕ} → Digit a → Digit b → Digit (if t then a else b)
either t a {b} p q = if_cases Digit t a b (λ e. p) (λ e. q)

module _ (tab : Table) (c : Common) (r : ℕ) where
  class_digit : (x : Option Report) → Digit (class tab c r x)
  unfolding class
  class_digit none = omega arith
  class_digit (some e) =
      either (malformed tab c r e) 2 (omega arith)
      (either (behind tab c r e) 3 (omega arith) (either (over_bound tab c r e) 4 (omega arith) (either (late tab c r e) 5 (omega arith) (omega arith))))

each_digit : {A : Type 0} (f : A → ℕ) → ((a : A) → Digit (f a)) → (l : List A) (n k : ℕ) → Digit (get_or (map f l ++ replicate n 0) k 0)
each_digit f h [] zero k = omega arith
each_digit f h [] (suc n) zero = omega arith
each_digit f h [] (suc n) (suc k) = each_digit f h [] n k
each_digit f h (x ∷ l) n zero = h x
each_digit f h (x ∷ l) n (suc k) = each_digit f h l n k

pub verdict_digits : (tab : Table) (c : Common) (q : Round) → Digits (verdict tab c q).classes
unfolding verdict pad
verdict_digits tab c q = record { each = each_digit (class tab c q.r) (class_digit tab c q.r) q.entries (15 - length (map (class tab c q.r) q.entries)) }

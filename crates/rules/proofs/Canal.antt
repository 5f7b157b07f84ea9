-- P1 to P12 hold: by computation, and P8 for every common record and every time that fits.
use mathlib.Core.Path.{◌≡◌, refl, ◌∙◌}
use mathlib.Core.Bool.{Bool, false}
use mathlib.Core.Option.{Option, none, some}
use Prim.Native.Nat.{ℕ, ◌+◌, ◌^◌, ◌≤◌, ◌<◌}
use native.Mathlib.Nat.{sub_self}
use native.Mathlib.Omega.{arith}
use lib.ListN.{length, drop}
use borrow.Author.Tests.{le-ltb, lt-leb}
use Rattle.laws.specs.Tests.{◌<?◌, maybe}
use Rattle.rules.specs.All.{all}
use Rattle.rules.specs.Answer.{done, refuse◌if◌else◌}
use Rattle.rules.specs.Common.{Common}
use Rattle.rules.specs.Close.{close}
use Rattle.rules.specs.Canal.{canal, silent, same_but_last, nobody, Canal}

-- No release is too early and the list is well formed whatever c holds: 3, 14 and 17 alone are left of the ladder.
passes : {A : Type 0} (x : A) {a b d : Bool} → a ≡ false → b ≡ false → d ≡ false → (refuse 3 if a else refuse 14 if b else refuse 17 if d else done x) ≡ done x
passes x p q s = rw (p, q, s)

in_time : (o : Option ℕ) (r : ℕ) → ((l : ℕ) → o ≡ some l → l + 2 ≤ r) → maybe false (λ l. r <? l + 2) o ≡ false
in_time none r h = refl
in_time (some l) r h = le-ltb r (l + 2) (h l refl)

few : (b n : ℕ) → n ≤ 256 → (b + 256 <? b + n + 0) ≡ false
few b n h = le-ltb (b + 256) (b + n + 0) (omega arith)

silence :
    (c : Common) (r : ℕ) → r < 2 ^ 48 → ((l : ℕ) → c.last ≡ some l → l + 2 ≤ r) → length c.kept ≤ 256 →
    close canal c (silent r) ≡ done (record { common = same_but_last c r; reply = nobody })
unfolding all
silence c r h k n =
    passes _ (lt-leb (2 ^ 48) r h) (in_time c.last r k) (few c.B (length c.kept) n)
    ∙ λ i. done (record { common = record { kept = drop (sub_self c.B i) c.kept; B = c.B; W = c.W; O = c.O; E = c.E; last = some r }; reply = nobody })

pub canal_holds : Canal
unfolding all
canal_holds = record {
  table = refl;
  P1 = refl;
  P2 = refl;
  P3 = refl;
  P4 = refl;
  P5 = refl;
  P6 = refl;
  P7 = refl;
  P8 = silence;
  P8_after_0 = refl;
  P9 = λ a b c. (refl, refl);
  P10 = (refl, refl);
  P11 = refl;
  P12 = refl;
}

-- The written number.
use Rattle.std.specs.Prelude.{◌&&◌, List, [], ◌∷◌, ℕ, zero, suc, ◌+◌, ◌-◌, ◌*◌, ◌/◌, ◌%◌, if◌then◌else◌}
use Rattle.laws.specs.Tests.{◌<?◌, ◌=?◌}
use Rattle.rules.specs.Answer.{Answer, done, refused, refused_by, refuse◌if◌else◌}

-- What was read, and the bytes that are left.
pub record Read (A : Type 0) : Type 0 where
  pub value : A
  pub rest : List ℕ

abbrev pub Reads : Type 0 → Type 0
Reads A = List ℕ → Answer (Read A)

abbrev pub after : {A B : Type 0} → Answer (Read A) → (A → Reads B) → Answer (Read B)
after (done x) f = f x.value x.rest
after (refused n) f = refused n
after (refused_by n i) f = refused_by n i

-- "the earliest byte fault decides"
infixl 15 ◌>>=◌
abbrev pub ◌>>=◌ : {A B : Type 0} → Reads A → (A → Reads B) → Reads B
m >>= f = λ s. after (m s) f

abbrev pub give : {A : Type 0} → A → Reads A
give a = λ s. done (record { value = a; rest = s })

-- "A number is written in groups of seven bits, lowest first, the top bit set on all groups but the last, shortest form, at most nine groups."
-- Read with k groups before it. 18: "bytes end early"; 19: "a ninth group with its top bit set (at once, with or without a tenth byte), or the
-- last of several groups is 0".
unfoldable pub groups_after : ℕ → Reads ℕ
groups_after k [] = refused 18
groups_after k (b ∷ bs) =
    if b <? 128 then (refuse 19 if (0 <? k) && (b =? 0) else give b bs)
    else refuse 19 if k =? 8 else after (groups_after (k + 1) bs) (λ v. give (b - 128 + 128 * v))

abbrev pub number : Reads ℕ
number = groups_after 0

-- The same written: "127 is 7F, 128 is 80 01, 400 is 90 03". So many groups may follow the first.
unfoldable pub groups : ℕ → ℕ → List ℕ
groups zero v = v ∷ []
groups (suc k) v = if v <? 128 then v ∷ [] else (128 + v % 128) ∷ groups k (v / 128)

abbrev pub number_bytes : ℕ → List ℕ
number_bytes v = groups 8 v

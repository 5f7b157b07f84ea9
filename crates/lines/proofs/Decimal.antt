-- The digits of a number as the rules print them: how many they are, and that they are its last ones, as many as they are.
use mathlib.Core.Path.{◌≡◌, refl, sym, ap, ◌∙◌}
use mathlib.Core.List.{List, [], ◌∷◌, ◌++◌}
use mathlib.Core.Logic.{⊎_elim}
use Prim.Native.Nat.{ℕ, zero, suc, ◌+◌, ◌*◌, ◌/◌, ◌%◌, ◌^◌, ◌≤◌, ◌<◌}
use native.Mathlib.Nat.{pow-suc}
use native.Mathlib.Omega.{arith}
use borrow.Author.Tests.{lt-ltb, le-ltb}
use lib.ListN.{length, length-append}
use Rattle.std.specs.Prelude.{max}
use Rattle.std.specs.Fmt as fmt
use Rattle.std.proofs.lemmas.Fmt.{AppendsLastDigit, decimal_from_appends, decimal_digit, decimal_step, length-decimal-le}
use Rattle.laws.proofs.Tests.{lt_or_ge}
use Rattle.rules.specs.Session.{digits, decimal}

digits_one : (k n : ℕ) → n < 10 → digits (suc k) n ≡ (48 + n) ∷ []
unfolding digits
digits_one k n h =
    let e : n % 10 ≡ n = omega arith in
    rw (lt-ltb n 10 h, e)

digits_more : (k n : ℕ) → 10 ≤ n → digits (suc k) n ≡ digits k (n / 10) ++ ((48 + n % 10) ∷ [])
unfolding digits
digits_more k n h = rw (le-ltb n 10 h)

tenth : (k : ℕ) {n : ℕ} → n < 10 ^ suc (suc k) → n / 10 < 10 ^ suc k
tenth k {n} h =
    let w : n < 10 ^ suc k * 10 = rw (pow-suc 10 (suc k)) at h in
    omega arith

-- a place more than a number needs changes nothing
digits_enough : (k n : ℕ) → n < 10 ^ suc k → digits (suc (suc k)) n ≡ digits (suc k) n
digits_enough zero n h = digits_one 1 n (omega arith) ∙ sym (digits_one 0 n (omega arith))
digits_enough (suc k) n h =
    ⊎_elim
    (λ l. digits_one (suc (suc k)) n l ∙ sym (digits_one (suc k) n l))
    (λ l. digits_more (suc (suc k)) n l ∙ ap (λ (ds : List ℕ). ds ++ ((48 + n % 10) ∷ [])) (digits_enough k (n / 10) (tenth k h)) ∙ sym (digits_more (suc k) n l))
    (lt_or_ge n 10)

-- a number below a power of ten has no more digits than that
length_digits : (j k n : ℕ) → n < 10 ^ suc j → length (digits k n) ≤ suc j
unfolding digits
length_digits j zero n h = omega arith
length_digits zero (suc k) n h =
    let l : n < 10 = omega arith in
    rw (digits_one k n l) (omega arith)
length_digits (suc j) (suc k) n h =
    ⊎_elim
    (λ l. omega (arith, ap length (digits_one k n l)))
    (λ l. omega (arith, ap length (digits_more k n l), length-append (digits k (n / 10)) ((48 + n % 10) ∷ []), length_digits j k (n / 10) (tenth j h)))
    (lt_or_ge n 10)

digits_some : (k n : ℕ) → 0 < length (digits (suc k) n)
unfolding digits
digits_some k n = rw length-append (omega arith)

pub decimal_some : (n : ℕ) → 0 < length (decimal n)
decimal_some n = digits_some 19 n

pub decimal_one : (n : ℕ) → n < 10 → decimal n ≡ (48 + n) ∷ []
decimal_one n h = digits_one 19 n h

pub decimal_more : (n : ℕ) → n < 10 ^ 20 → 10 ≤ n → decimal n ≡ decimal (n / 10) ++ ((48 + n % 10) ∷ [])
decimal_more n b h = digits_more 19 n h ∙ ap (λ (ds : List ℕ). ds ++ ((48 + n % 10) ∷ [])) (sym (digits_enough 18 (n / 10) (tenth 18 b)))

pub length_decimal : (j n : ℕ) → n < 10 ^ suc j → length (decimal n) ≤ suc j
length_decimal j n h = length_digits j 20 n h

digits_append : AppendsLastDigit digits
digits_append = record { one = digits_one; more = digits_more }

decimal_is : (n : ℕ) → n < 2 ^ 64 → decimal n ≡ fmt.decimal n
decimal_is n h = decimal_from_appends digits digits_append 20 n h (length-decimal-le 20 n (omega arith) (omega arith) h)

-- 10 ^ k is the largest power of ten that n reaches, or 1 for the number 0
length_printed : (n k : ℕ) → n < 2 ^ 64 → 10 ^ k ≤ max n 1 → max n 1 < 10 * 10 ^ k → k + 1 ≡ length (fmt.decimal n)
length_printed n zero b low high = rw (decimal_digit n (omega arith)) refl
length_printed n (suc k) b low high =
    omega (arith, ap length (decimal_step n (omega arith) b), length-append (fmt.decimal (n / 10)) ((48 + n % 10) ∷ []), length_printed (n / 10) k (omega arith) (omega arith) (omega arith))

pub length_is : (n k : ℕ) → n < 2 ^ 64 → 10 ^ k ≤ max n 1 → max n 1 < 10 * 10 ^ k → k + 1 ≡ length (decimal n)
length_is n k b low high = rw (decimal_is n b) (length_printed n k b low high)

-- The last k digits of a number, zeros where it has fewer.
unfoldable pub last_digits : ℕ → ℕ → List ℕ
last_digits zero n = []
last_digits (suc k) n = last_digits k (n / 10) ++ ((48 + n % 10) ∷ [])

pub length_last : (k n : ℕ) → length (last_digits k n) ≡ k
unfolding last_digits
length_last zero n = refl
length_last (suc k) n = omega (arith, length-append (last_digits k (n / 10)) ((48 + n % 10) ∷ []), length_last k (n / 10))

digits_last : (k n : ℕ) → digits k n ≡ last_digits (length (digits k n)) n
unfolding digits last_digits
digits_last zero n = refl
digits_last (suc k) n =
    let e : length (digits k (n / 10) ++ ((48 + n % 10) ∷ [])) ≡ suc (length (digits k (n / 10))) = omega (arith, length-append (digits k (n / 10)) ((48 + n % 10) ∷ [])) in
    ⊎_elim
    (λ l. rw (lt-ltb n 10 l) refl)
    (λ l. rw (le-ltb n 10 l, e) (ap (λ (ds : List ℕ). ds ++ ((48 + n % 10) ∷ [])) (digits_last k (n / 10))))
    (lt_or_ge n 10)

pub decimal_last : (n : ℕ) → decimal n ≡ last_digits (length (decimal n)) n
decimal_last n = digits_last 20 n

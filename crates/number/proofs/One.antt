-- One number: from what is told of it back to its reading.
use mathlib.Core.Path.{◌≡◌, refl, sym, ◌∙◌}
use mathlib.Core.List.{List}
use Prim.Native.Nat.{ℕ, ◌≤◌}
use lib.ListN.{length, drop}
use Rattle.rules.specs.Answer.{Answer, done, refused}
use Rattle.rules.specs.Numbers.{number}
use Rattle.rules.proofs.Reading.{number_takes}
use Rattle.number.specs.Numbers.{number_read}
use Rattle.number.proofs.Told.{Done, told_value, told_stop}

-- one number, as it is told
module _ (s : List ℕ) (from : ℕ) {a : Answer (ℕ × ℕ)} (p : a ≡ number_read s (number (drop from s))) where
  pub one_bad : {n : ℕ} → a ≡ refused n → number (drop from s) ≡ refused n
  one_bad g = told_stop (λ v. v) number_takes s from (sym p ∙ g)

  pub one_done : {x next : ℕ} → a ≡ done (x, next) → Done s (number (drop from s)) x next
  one_done {x} {next} g =
      let t = told_value (λ v. v) number_takes s from (sym p ∙ g) in
      rw t.same at t.was

-- the same from an answer as it is told, without a name for it
module _ (s : List ℕ) (from : ℕ) where
  pub is_bad : {n : ℕ} → refused n ≡ number_read s (number (drop from s)) → number (drop from s) ≡ refused n
  is_bad p = one_bad s from p refl

  pub is_done : {x next : ℕ} → done (x, next) ≡ number_read s (number (drop from s)) → number (drop from s) ≡ done (record { value = x; rest = drop next s })
  is_done p = (one_done s from p refl).is

  pub is_on : {x next : ℕ} → done (x, next) ≡ number_read s (number (drop from s)) → next ≤ length s
  is_on p = (one_done s from p refl).on

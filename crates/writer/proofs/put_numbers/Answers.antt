-- Numbers stored one behind the other: what is asked is what the numbers from `i` on, from `at` on, still make of the bytes.
use mathlib.Core.Path.{◌≡◌, refl, sym, ap, ap₂, ◌∙◌}
use mathlib.Core.Bool.{false}
use mathlib.Core.List.{List, ◌∷◌}
use Prim.Native.Nat.{ℕ, ◌+◌, ◌^◌, ◌≤◌, ◌<◌}
use native.Mathlib.Omega.{arith}
use borrow.Author.Tests.{leb-false}
use lib.ListN.{length, drop, get_or, length-append, drop_of_length-le}
use lib.Seq.{sets, length-sets}
use Rattle.std.proofs.lemmas.List.{drop_more}
use Rattle.laws.specs.Tests.{◌≤?◌}
use Rattle.laws.proofs.Tests.{or_no}
use Rattle.laws.proofs.Runs.{sets_append}
use Rattle.rules.specs.Numbers.{number_bytes}
use Rattle.rules.specs.Written.{bytes_of, too_large}
use Rattle.writer.proofs.put_numbers.Invariants.{Inv}
use Rattle.writer.proofs.put_numbers.Goals as goal

inv_start : {bytes ns : List ℕ} → too_large ns ≡ false → length (bytes_of ns) ≤ length bytes → Inv bytes ns bytes 0 0
inv_start s r = record { small = s; room = omega arith; to_do = refl }

module _ {bytes₀ ns bytes : List ℕ} {at i : ℕ} (v : Inv bytes₀ ns bytes at i) where
  inv_done : length ns ≤ i → bytes ≡ sets bytes₀ 0 (bytes_of ns)
  inv_done h = sym (v.to_do ∙ ap (λ (l : List ℕ). sets bytes at (bytes_of l)) (drop_of_length-le ns h))

  module _ (h : i < length ns) where
    here : drop i ns ≡ get_or ns i 0 ∷ drop (i + 1) ns
    here = drop_more ns i 0 h

    splits : ((2 ^ 63 ≤? get_or ns i 0) ≡ false) × (too_large (drop (i + 1) ns) ≡ false)
    splits = or_no (2 ^ 63 ≤? get_or ns i 0) (too_large (drop (i + 1) ns)) (sym (ap too_large here) ∙ v.small)

    takes : length (bytes_of (drop i ns)) ≡ length (number_bytes (get_or ns i 0)) + length (bytes_of (drop (i + 1) ns))
    takes = ap (λ (l : List ℕ). length (bytes_of l)) here ∙ length-append (number_bytes (get_or ns i 0)) (bytes_of (drop (i + 1) ns))

    inv_asked : (get_or ns i 0 < 2 ^ 63) × (at + length (number_bytes (get_or ns i 0)) ≤ length bytes)
    inv_asked = (leb-false _ _ splits.0, omega (arith, v.room, takes))

    inv_more : {bytes' : List ℕ} {next : ℕ} → (next ≡ at + length (number_bytes (get_or ns i 0))) × (bytes' ≡ sets bytes at (number_bytes (get_or ns i 0))) → Inv bytes₀ ns bytes' next (i + 1)
    inv_more {bytes'} {next} e =
        let l : length bytes' ≡ length bytes = ap length e.1 ∙ length-sets bytes at (number_bytes (get_or ns i 0)) in
        record {
          small = splits.1;
          room = omega (arith, v.room, takes, e.0);
          to_do =
              v.to_do ∙ ap (λ (l : List ℕ). sets bytes at (bytes_of l)) here
              ∙ sets_append bytes at (number_bytes (get_or ns i 0)) (bytes_of (drop (i + 1) ns))
              ∙ ap₂ (λ (b : List ℕ) (k : ℕ). sets b k (bytes_of (drop (i + 1) ns))) (sym e.1) (sym e.0);
        }

pub loop-v-preserved : goal.loop-v-preserved
loop-v-preserved c = search inv_more

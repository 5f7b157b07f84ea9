-- The size: what was counted so far, and what the numbers from `i` on take.
use mathlib.Core.Path.{◌≡◌, refl, ap, ◌∙◌}
use mathlib.Core.Bool.{true, false}
use mathlib.Core.List.{List, [], ◌∷◌}
use Prim.Native.Nat.{ℕ, ◌+◌, ◌^◌, ◌≤◌, ◌<◌}
use native.Mathlib.Omega.{arith}
use borrow.Author.Tests.{le-leb, lt-leb}
use lib.ListN.{length, drop, get_or, length-append, drop_of_length-le}
use Rattle.std.proofs.lemmas.List.{drop_more}
use Rattle.rules.specs.Numbers.{number_bytes}
use Rattle.rules.specs.Written.{bytes_of, too_large}
use Rattle.rules.proofs.Sizes.{groups_size}
use Rattle.rules.specs.Answer.{done, refused}
use Rattle.writer.specs.Writing.{size_of}
use Rattle.writer.proofs.size_in.Invariants.{Inv}

inv_start : {ns : List ℕ} → length ns ≤ 191 → Inv ns 0 0
inv_start h = record { few = h; room = omega arith; small = refl; sum = omega arith }

module _ {ns : List ℕ} {total i : ℕ} (v : Inv ns total i) where
  inv_done : length ns ≤ i → done total ≡ size_of ns
  inv_done h =
      let z : drop i ns ≡ [] = drop_of_length-le ns h in
      let s : too_large ns ≡ false = v.small ∙ ap too_large z in
      let t : length (bytes_of ns) ≡ total = v.sum ∙ ap (λ (l : List ℕ). total + length (bytes_of l)) z ∙ omega arith in
      rw (s, t)

  module _ (h : i < length ns) where
    here : drop i ns ≡ get_or ns i 0 ∷ drop (i + 1) ns
    here = drop_more ns i 0 h

    inv_large : 9223372036854775808 ≤ get_or ns i 0 → refused 22 ≡ size_of ns
    inv_large l =
        let s : too_large ns ≡ true = v.small ∙ ap too_large here ∙ rw (le-leb (2 ^ 63) (get_or ns i 0) l) in
        rw s

    inv_more : {k : ℕ} → get_or ns i 0 < 9223372036854775808 → k ≡ length (number_bytes (get_or ns i 0)) → Inv ns (total + k) (i + 1)
    inv_more {k} l e = record {
      few = v.few;
      room = omega (arith, v.room, groups_size 8 (get_or ns i 0));
      small = v.small ∙ ap too_large here ∙ rw (lt-leb (2 ^ 63) (get_or ns i 0) l);
      sum =
          v.sum ∙ ap (λ (l : List ℕ). total + length (bytes_of l)) here
          ∙ rw length-append (omega arith);
    }

-- A record within the counts and the value that stands for it say the same.
use mathlib.Core.Path.{◌≡◌, refl, sym, ap, ◌∙◌}
use mathlib.Core.Option.{Option, none, some}
use mathlib.Core.List.{List, [], ◌∷◌, map}
use Prim.Native.Nat.{ℕ, ◌≤◌}
use native.Mathlib.Omega.{arith}
use lib.ListN.{length, take, get_or, length-map}
use Rattle.laws.specs.Lists.{rows, pad}
use Rattle.laws.proofs.Lists.{take_pad, length_pad}
use Rattle.laws.proofs.Sequences.{rows_take}
use Rattle.rules.specs.Judge as rules
use Rattle.std.specs.Prelude as code
use Rattle.std.specs.Prelude.{Some, None}
use Rattle.round.specs.declared.Report.{Report}
use Rattle.round.specs.Round.{release_of, entry_of, no_release, no_entry, round_of, release_as, entry_as, round_as}

pub entry_there : (e : Option rules.Report) → entry_of (entry_as e) ≡ e
entry_there none = refl
entry_there (some e) = refl

pub entry_here : (e : code.Option Report) → entry_as (entry_of e) ≡ e
entry_here None = refl
entry_here (Some e) = refl

-- a list in the places of an array, read off them again
module _ {A B : Type 0} (form : A → B) (back : B → A) (blank : B) (same : (x : A) → back (form x) ≡ x) where
  map_there : (xs : List A) → map back (map form xs) ≡ xs
  map_there [] = refl
  map_there (x ∷ xs) = λ i. same x i ∷ map_there xs i

  read_off : (room : ℕ) (xs : List A) → length xs ≤ room → rows (λ i. back (get_or (pad room blank (map form xs)) i blank)) (length xs) ≡ xs
  read_off room xs h =
      let m : length (map form xs) ≡ length xs = length-map xs form in
      let l : length (pad room blank (map form xs)) ≡ room = length_pad room blank (map form xs) (omega arith) in
      sym (rows_take back (pad room blank (map form xs)) blank (length xs) (omega arith))
      ∙ ap (map back) (ap (λ (n : ℕ). take n (pad room blank (map form xs))) (sym m) ∙ take_pad room blank (map form xs))
      ∙ map_there xs

pub round_there : (q : rules.Round) → length q.releases ≤ 64 → length q.entries ≤ 15 → round_of (round_as q) ≡ q
round_there q h k =
    let xs = read_off release_as release_of no_release (λ x. refl) 64 q.releases h in
    let es = read_off entry_as entry_of no_entry entry_there 15 q.entries k in
    λ i. record { r = q.r; releases = xs i; entries = es i }

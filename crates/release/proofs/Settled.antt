-- Any two replies that a contract admits coincide.
use mathlib.Core.Path.{◌≡◌, sym, ◌∙◌}
use mathlib.Core.List.{List}
use Prim.Native.Nat.{ℕ}
use lib.ListN.{take, drop}
use Rattle.laws.specs.Lists.{pad}
use Rattle.std.specs.Prelude.{Result}
use Rattle.rules.specs.Answer.{done, refuse◌if◌else◌}
use Rattle.rules.specs.Close.{ill_formed}
use Rattle.refusal.specs.declared.Refusal.{Refusal}
use Rattle.refusal.specs.Refusal.{answer_of}
use Rattle.refusal.proofs.Same.{settled}
use Rattle.table.specs.declared.Table.{Table}
use Rattle.table.specs.Table.{table_of}
use Rattle.round.specs.declared.Round.{Round}
use Rattle.round.specs.Round.{releases_of, round_of}
use Rattle.release.specs.Spacing.{spacing}
use Rattle.release.specs.Insertion.{put_all}

pub well_formed_settled : (t : Table) (q : Round) {r s : Result (Unit {0}) Refusal} → answer_of r ≡ refuse 15 if ill_formed (table_of t) (round_of q) else done tt
    → answer_of s ≡ refuse 15 if ill_formed (table_of t) (round_of q) else done tt → r ≡ s
well_formed_settled t q e d = settled e d

pub all_spaced_settled : (t : Table) (earliest : List ℕ) (q : Round) {r s : Result (List ℕ) Refusal} → answer_of r ≡ spacing (table_of t) q.time earliest (releases_of q)
    → answer_of s ≡ spacing (table_of t) q.time earliest (releases_of q) → r ≡ s
all_spaced_settled t earliest q e d = settled e d

pub dropped_settled : (tasks : List ℕ) (count k : ℕ) {r s : List ℕ} → r ≡ pad 256 0 (drop k (take count tasks)) → s ≡ pad 256 0 (drop k (take count tasks)) → r ≡ s
dropped_settled tasks count k e d = e ∙ sym d

pub all_put_settled : (tasks : List ℕ) (count past : ℕ) (q : Round) {r s : List ℕ} → r ≡ pad 256 0 (put_all past (take count tasks) (releases_of q))
    → s ≡ pad 256 0 (put_all past (take count tasks) (releases_of q)) → r ≡ s
all_put_settled tasks count past q e d = e ∙ sym d

-- Any two replies that a contract admits coincide.
use mathlib.Core.Path.{◌≡◌, sym, ◌∙◌}
use mathlib.Core.List.{List}
use Prim.Native.Nat.{ℕ, ◌<◌}
use lib.ListN.{get_or}
use Rattle.rules.specs.Common as rules
use Rattle.table.specs.Table.{table_of}
use Rattle.table.specs.declared.Table.{Table}
use Rattle.common.specs.declared.Common.{Common}
use Rattle.std.specs.Prelude.{Option}
use Rattle.common.specs.Common.{common_of, common_as}
use Rattle.common.specs.Raw.{earliest_of, projected_at, breaker_at, breach_of}

pub fresh_settled : {r s : Common} → r ≡ common_as rules.fresh → s ≡ common_as rules.fresh → r ≡ s
fresh_settled e d = e ∙ sym d

pub task_at_settled : (tasks : List ℕ) (k : ℕ) {r s : ℕ} → (r ≡ get_or tasks k 0) × (r < 256) → (s ≡ get_or tasks k 0) × (s < 256) → r ≡ s
task_at_settled tasks k e d = e.0 ∙ sym d.0

pub earliest_at_settled : (earliest : List ℕ) (i t : ℕ) {r s : ℕ} → r ≡ earliest_of earliest i t → s ≡ earliest_of earliest i t → r ≡ s
earliest_at_settled earliest i t e d = e ∙ sym d

pub projected_settled : (longest tasks : List ℕ) (start n : ℕ) {r s : ℕ} → r ≡ projected_at longest tasks start n → s ≡ projected_at longest tasks start n → r ≡ s
projected_settled longest tasks start n e d = e ∙ sym d

pub breach_at_settled : (earliest slack : List ℕ) (count task end t : ℕ) {r s : Option ℕ} → r ≡ breach_of (breaker_at earliest slack count task end t)
    → s ≡ breach_of (breaker_at earliest slack count task end t) → r ≡ s
breach_at_settled earliest slack count task end t e d = e ∙ sym d

pub earliest_settled : (c : Common) (i time : ℕ) {r s : ℕ} → r ≡ rules.earliest (common_of c) i time → s ≡ rules.earliest (common_of c) i time → r ≡ s
earliest_settled c i time e d = e ∙ sym d

pub projection_settled : (t : Table) (c : Common) (p : ℕ) {r s : ℕ} → r ≡ rules.projection (table_of t) (common_of c) p
    → s ≡ rules.projection (table_of t) (common_of c) p → r ≡ s
projection_settled t c p e d = e ∙ sym d

pub bound_settled : (t : Table) (c : Common) (p time : ℕ) {r s : Option ℕ} → r ≡ breach_of (rules.breaker (table_of t) (common_of c) p time)
    → s ≡ breach_of (rules.breaker (table_of t) (common_of c) p time) → r ≡ s
bound_settled t c p time e d = e ∙ sym d

-- Any two replies that a contract admits coincide, in the answer and in the node.
use mathlib.Core.Path.{◌≡◌, refl, sym, ap, ◌∙◌}
use mathlib.Core.Bool.{Bool}
use Prim.Native.Nat.{ℕ}
use Rattle.std.specs.Prelude.{Option, Result, Ok, Err}
use Rattle.rules.specs.Answer.{Answer, done, refused, refused_by}
use Rattle.rules.specs.Node as rules
use Rattle.refusal.specs.declared.Refusal.{Refusal}
use Rattle.refusal.specs.Refusal.{answer_of, told_as}
use Rattle.refusal.proofs.Same.{refusal_at, at_number, settled}
use Rattle.table.specs.Table.{table_of}
use Rattle.table.specs.declared.Table.{Table}
use Rattle.round.specs.declared.Round.{Round}
use Rattle.round.specs.Round.{round_of}
use Rattle.node.specs.declared.Sent.{Sent}
use Rattle.node.specs.declared.Node.{Node}
use Rattle.node.specs.declared.Started.{Started}
use Rattle.node.specs.declared.Reported.{Reported}
use Rattle.node.specs.declared.NodeClosing.{NodeClosing}
use Rattle.node.specs.declared.StartRefusal.{StartRefusal}
use Rattle.node.specs.declared.StartRefusal.TheVariants.{Refused, Waits}
use Rattle.node.specs.Refusals.{start_answer, refused_start}
use Rattle.node.specs.Node as node
use Rattle.node.specs.Node.{clock_rule, beyond_lock_at, node_of, node_as, starting, reporting, node_closing}

-- a start's answer, back from what it says
start_at : {A : Type 0} → Answer A → Result A StartRefusal
start_at (done a) = Ok a
start_at (refused n) = Err (Refused (refusal_at n))
start_at (refused_by n i) = Err (Waits i)

at_start : {A : Type 0} (r : Result A StartRefusal) → start_at (start_answer r) ≡ r
unfolding start_at
at_start (Ok a) = refl
at_start (Err (Refused e)) = ap (λ e. Err (Refused e)) (at_number e)
at_start (Err (Waits i)) = refl

pub start_same : {A : Type 0} {a : Answer A} {r s : Result A StartRefusal} → start_answer r ≡ a → start_answer s ≡ a → r ≡ s
start_same {r = r} {s = s} e d = sym (at_start r) ∙ ap start_at (e ∙ sym d) ∙ at_start s

pub start_refusal_settled : (e : Refusal) {r s : StartRefusal} → r ≡ refused_start e → s ≡ refused_start e → r ≡ s
start_refusal_settled e p d = p ∙ sym d

pub fresh_settled : (t : Table) (i : ℕ) {r s : Result Node Refusal} → answer_of r ≡ told_as node_as (rules.fresh_node (table_of t) i)
    → answer_of s ≡ told_as node_as (rules.fresh_node (table_of t) i) → r ≡ s
fresh_settled t i e d = settled e d

pub start_settled : (t : Table) (n : Node) (now : ℕ) {r s : Result Started StartRefusal} → start_answer r ≡ starting (rules.start (table_of t) (node_of n) now)
    → start_answer s ≡ starting (rules.start (table_of t) (node_of n) now) → r ≡ s
start_settled t n now e d = start_same e d

pub finish_settled : (n : Node) (now : ℕ) {r s : Result Node Refusal} → answer_of r ≡ told_as node_as (rules.finish (node_of n) now)
    → answer_of s ≡ told_as node_as (rules.finish (node_of n) now) → r ≡ s
finish_settled n now e d = settled e d

pub report_settled : (t : Table) (n : Node) (time : ℕ) {r s : Result Reported Refusal} → answer_of r ≡ reporting (rules.report (table_of t) (node_of n) time)
    → answer_of s ≡ reporting (rules.report (table_of t) (node_of n) time) → r ≡ s
report_settled t n time e d = settled e d

pub close_settled : (t : Table) (n : Node) (q : Round) {r s : Result NodeClosing Refusal} → answer_of r ≡ node_closing (rules.node_close (table_of t) (node_of n) (round_of q))
    → answer_of s ≡ node_closing (rules.node_close (table_of t) (node_of n) (round_of q)) → r ≡ s
close_settled t n q e d = settled e d

pub clock_check_settled : (latest progress base now : ℕ) {r s : Result (Unit {0}) Refusal} → answer_of r ≡ clock_rule latest progress base now
    → answer_of s ≡ clock_rule latest progress base now → r ≡ s
clock_check_settled latest progress base now e d = settled e d

pub beyond_lock_settled : (o : Option Sent) (offset position : ℕ) {r s : Bool} → r ≡ beyond_lock_at (node.round_of o) offset position
    → s ≡ beyond_lock_at (node.round_of o) offset position → r ≡ s
beyond_lock_settled o offset position e d = e ∙ sym d

-- A cabinet of nodes that are asked anything at any time, and what is seen of each from outside.
use mathlib.Core.List.{List, [], ◌∷◌, ◌++◌, foldl}
use Rattle.std.specs.Prelude.{ℕ, if◌then◌else◌}
use Rattle.laws.specs.Tests.{◌=?◌}
use Rattle.rules.specs.Answer.{Answer, done, refused, refused_by}
use Rattle.rules.specs.Table.{Table}
use Rattle.rules.specs.Judge.{Round}
use Rattle.rules.specs.Node.{Open, Node, new_node, Started, start, finish, Reported, report, NodeClosed, node_close}

-- What a node is asked. The times and the records are free: jobs take as long as they take, and whoever makes the records puts into them what he likes.
pub data Call : Type 0 where
  start_at : ℕ → Call
  finish_at : ℕ → Call
  report_at : ℕ → Call
  close_with : Round → Call

-- A node, and what its replies have shown of it, oldest first: the records that it closed; "the list of the jobs so named" by the replies to
-- accepted starts; the reports that it sent, each with the r that it was sent for.
pub record Watched : Type 0 where
  pub node : Node
  pub closed : List Round
  pub started : List ℕ
  pub sent : List Open

abbrev pub new_watched : ℕ → Watched
new_watched i = record { node = new_node i; closed = []; started = []; sent = [] }

abbrev pub saw_start : Watched → Started → Watched
saw_start x a = record { node = a.node; closed = x.closed; started = x.started ++ (a.named ∷ []); sent = x.sent }

abbrev pub saw_finish : Watched → Node → Watched
saw_finish x n = record { node = n; closed = x.closed; started = x.started; sent = x.sent }

abbrev pub saw_report : Watched → ℕ → Reported → Watched
saw_report x r a = record { node = a.node; closed = x.closed; started = x.started; sent = x.sent ++ (record { r = r; sent = a.sent } ∷ []) }

abbrev pub saw_close : Watched → Round → NodeClosed → Watched
saw_close x q a = record { node = a.node; closed = x.closed ++ (q ∷ []); started = x.started; sent = x.sent }

-- "A refusal gives its number and changes nothing."
abbrev pub on_reply : {A : Type 0} → Watched → Answer A → (A → Watched) → Watched
on_reply x (done a) saw = saw a
on_reply x (refused n) saw = x
on_reply x (refused_by n i) saw = x

-- A node after a call: the calls are those of the rules, and nothing else changes it.
unfoldable pub asked : Table → Watched → Call → Watched
asked tab x (start_at now) = on_reply x (start tab x.node now) (saw_start x)
asked tab x (finish_at now) = on_reply x (finish x.node now) (saw_finish x)
asked tab x (report_at r) = on_reply x (report tab x.node r) (saw_report x r)
asked tab x (close_with q) = on_reply x (node_close tab x.node q) (saw_close x q)

-- Who is asked, and what.
pub record Step : Type 0 where
  pub who : ℕ
  pub what : Call

abbrev pub Cabinet : Type 0
Cabinet = ℕ → Watched

unfoldable pub stepped : Table → Cabinet → Step → Cabinet
stepped tab σ k a = if k.who =? a then asked tab (σ a) k.what else σ a

-- "from a fresh start with the common table": each node fresh, with a number, then the steps in turn. The steps are any list: every interleaving is one.
unfoldable pub run : Table → (ℕ → ℕ) → List Step → Cabinet
run tab number ks = foldl (stepped tab) (λ a. new_watched (number a)) ks

-- The order that a node's closed records give on their own is the one of a station that is given them: it accepts each, and then holds the node's own
-- common record.
use mathlib.Core.Path.{◌≡◌, refl, sym, ap, ◌∙◌}
use mathlib.Core.List.{List, [], ◌∷◌, foldl, foldl-append}
use Prim.Native.Nat.{ℕ}
use Rattle.rules.specs.Answer.{Answer, done, ◌>>=◌}
use Rattle.rules.specs.Table.{Table, check}
use Rattle.rules.specs.Common.{Common, fresh}
use Rattle.rules.specs.Judge.{Round}
use Rattle.rules.specs.Close.{Closed, close}
use Rattle.rules.specs.Node.{Node, Started, start, finish, Reported, report, NodeClosed, node_close}
use Rattle.rules.specs.Cabinet.{Call, start_at, finish_at, report_at, close_with, Watched, saw_start, saw_finish, saw_report, saw_close, asked, Step, run}
use Rattle.rules.specs.Agreement.{common_after}
use Rattle.rules.proofs.Tables.{fit}
use Rattle.rules.proofs.Nodes.{started, finished, reported, node_closes}
use Rattle.rules.proofs.Calls.{on_reply_keeps}
use Rattle.rules.proofs.Runs.{run_keeps, run_inv}
use Rattle.rules.proofs.Whole.{basis}

-- "A station that only watches applies records to a common record without a node."
abbrev pub watch : Table → Answer Common → Round → Answer Common
watch tab c q = c >>= λ c. close tab c q >>= λ k. done k.common

module _ (tab : Table) where
  abbrev Watching : Watched → Type 0
  Watching x = foldl (watch tab) (done fresh) x.closed ≡ done x.node.common

  close_watched : (x : Watched) (q : Round) (a : NodeClosed) → Watching x → node_close tab x.node q ≡ done a → Watching (saw_close x q a)
  close_watched x q a v h =
      let s = node_closes tab x.node q h in
      foldl-append (watch tab) (done fresh) x.closed (q ∷ []) ∙ ap (λ (c : Answer Common). watch tab c q) v
      ∙ ap (λ (k : Answer Closed). k >>= λ k. done k.common) s.common ∙ ap (λ (a : NodeClosed). done a.node.common) (sym s.gives)

  asked_watched : (x : Watched) (k : Call) → Watching x → Watching (asked tab x k)
  unfolding asked
  asked_watched x (start_at now) v =
      on_reply_keeps Watching x (start tab x.node now) (saw_start x) v (λ a h. v ∙ ap (λ (a : Started). done a.node.common) (sym (started tab x.node now h).1))
  asked_watched x (finish_at now) v =
      on_reply_keeps Watching x (finish x.node now) (saw_finish x) v (λ a h. v ∙ ap (λ (a : Node). done a.common) (sym (finished x.node now h).1))
  asked_watched x (report_at r) v =
      on_reply_keeps Watching x (report tab x.node r) (saw_report x r) v (λ a h. v ∙ ap (λ (a : Reported). done a.node.common) (sym (reported tab x.node r h).1))
  asked_watched x (close_with q) v = on_reply_keeps Watching x (node_close tab x.node q) (saw_close x q) v (λ a h. close_watched x q a v h)

  module _ (number : ℕ → ℕ) (ks : List Step) (a : ℕ) where
    pub station : foldl (watch tab) (done fresh) (run tab number ks a).closed ≡ done (run tab number ks a).node.common
    station = run_keeps tab Watching asked_watched (λ i. refl) number ks a

    pub own_common : check tab ≡ done tab → (run tab number ks a).node.common ≡ common_after tab (run tab number ks a).closed
    own_common h = (run_inv (basis tab (fit h)) number ks a).history

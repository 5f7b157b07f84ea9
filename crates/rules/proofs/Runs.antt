-- Runs of a cabinet: every node keeps the invariant, and what a node is later follows what it was.
use Rattle.std.specs.Prelude.{if◌then◌else◌}
use mathlib.Core.Path.{refl}
use mathlib.Core.Bool.{Bool, true, false}
use mathlib.Core.List.Memᴰ
use mathlib.Core.List.{List, [], ◌∷◌, ◌++◌, foldl, foldl-append}
use Prim.Native.Nat.{ℕ}
use native.Mathlib.Omega.{arith}
use Rattle.laws.specs.Tests.{◌=?◌}
use Rattle.laws.proofs.Tests.{none≢some}
use Rattle.laws.proofs.Lists.{prefix_refl, prefix_append}
use Rattle.rules.specs.Table.{Table}
use Rattle.rules.specs.Judge.{Round}
use Rattle.rules.specs.Node.{start, finish, report, node_close}
use Rattle.rules.specs.Cabinet.{Call, start_at, finish_at, report_at, close_with, Watched, new_watched, saw_start, saw_finish, saw_report, saw_close, asked, Step, Cabinet, stepped, run}
use Rattle.rules.specs.Agreement.{whole_after, order_after}
use Rattle.rules.proofs.Ordered.{Trace, Later, later_refl, later_same, later_close}
use Rattle.rules.proofs.Basis.{offset_after, Basis}
use Rattle.rules.proofs.Invariant.{Inv}
use Rattle.rules.proofs.Calls.{on_reply_keeps, close_settles, asked_keeps}

pub fresh_inv : (tab : Table) (i : ℕ) → Inv tab (new_watched i)
unfolding whole_after
fresh_inv tab i = record {
  history = refl;
  right = record { rest = order_after tab []; whole = refl };
  count = refl;
  past = omega arith;
  stopped = λ l. absurd (omega arith);
  free = λ l o p h k. absurd (omega arith);
  locked = λ l w o. none≢some o;
  answered = λ w m. absurd (Memᴰ.not-nil m);
  old = λ q m. absurd (Memᴰ.not-nil m);
  older = λ w o. none≢some o;
  rising = tt;
}

-- what each call keeps at a node, steps keep there
module _ (tab : Table) (P : Watched → Type 0) (f : (x : Watched) (k : Call) → P x → P (asked tab x k)) where
  pub steps_keep : (ks : List Step) (σ : Cabinet) (a : ℕ) → P (σ a) → P (foldl (stepped tab) σ ks a)
  unfolding stepped
  steps_keep [] σ a h = h
  steps_keep (k ∷ ks) σ a h = steps_keep ks (stepped tab σ k) a (by (k.who =? a))
    where
      by : (t : Bool) → P (if t then asked tab (σ a) k.what else σ a)
      by true = f (σ a) k.what h
      by false = h

  pub run_keeps : ((i : ℕ) → P (new_watched i)) → (number : ℕ → ℕ) (ks : List Step) (a : ℕ) → P (run tab number ks a)
  unfolding run
  run_keeps h number ks a = steps_keep ks (λ a. new_watched (number a)) a (h (number a))

abbrev pub trace_of : Watched → Trace Round
trace_of x = record { closed = x.closed; started = x.started }

module _ {tab : Table} (K : Basis tab) where
  pub run_inv : (number : ℕ → ℕ) (ks : List Step) (a : ℕ) → Inv tab (run tab number ks a)
  run_inv = run_keeps tab (Inv tab) (λ x k v. asked_keeps K v k) (fresh_inv tab)

  abbrev After : Trace Round → Watched → Type 0
  After z x = Later (offset_after tab) z (trace_of x)

  -- a node with the invariant, and later than it was as z
  record Onward (z : Trace Round) (x : Watched) : Type 0 where
    inv : Inv tab x
    later : After z x

  later_asked : {z : Trace Round} (x : Watched) (k : Call) → Onward z x → After z (asked tab x k)
  unfolding asked
  later_asked {z} x (start_at now) h =
      on_reply_keeps (After z) x (start tab x.node now) (saw_start x) h.later
      (λ a e. later_same h.later (prefix_append (a.named ∷ []) (prefix_refl x.started)) refl)
  later_asked {z} x (finish_at now) h = on_reply_keeps (After z) x (finish x.node now) (saw_finish x) h.later (λ a e. h.later)
  later_asked {z} x (report_at r) h = on_reply_keeps (After z) x (report tab x.node r) (saw_report x r) h.later (λ a e. h.later)
  later_asked {z} x (close_with q) h =
      on_reply_keeps (After z) x (node_close tab x.node q) (saw_close x q) h.later
      (λ a e. later_close q [] h.later (close_settles K h.inv q a e) (prefix_refl x.started) refl)

  pub run_later : (number : ℕ → ℕ) (ks ks' : List Step) (a : ℕ) → Later (offset_after tab) (trace_of (run tab number ks a)) (trace_of (run tab number (ks ++ ks') a))
  unfolding run
  run_later number ks ks' a =
      let σ : Cabinet = λ a. new_watched (number a) in
      let z : Trace Round = trace_of (foldl (stepped tab) σ ks a) in
      rw (foldl-append (stepped tab) σ ks ks')
      (steps_keep tab (Onward z) (λ x k h. record { inv = asked_keeps K h.inv k; later = later_asked x k h }) ks' (foldl (stepped tab) σ ks) a
      (record { inv = run_inv number ks a; later = later_refl z })).later

-- Any single node is healthy by itself, after any calls: each record that it closed holds the report that it sent for it (refusals 12 and 13).
use mathlib.Core.Path.{◌≡◌, sym, ◌∙◌, subst}
use mathlib.Core.Logic.{inl, inr, ⊎_elim}
use mathlib.Core.Option.{some}
use mathlib.Core.List.Memᴰ
use mathlib.Core.List.{List, [], ◌∷◌, Memᴰ}
use Prim.Native.Nat.{ℕ}
use Rattle.laws.proofs.Tests.{none≢some}
use Rattle.laws.proofs.Lists.{prefix_refl}
use Rattle.rules.specs.Answer.{done}
use Rattle.rules.specs.Table.{Table}
use Rattle.rules.specs.Judge.{Round}
use Rattle.rules.specs.Node.{Open, Node, Started, start, finish, report_of, Reported, report, NodeClosed, node_close}
use Rattle.rules.specs.Cabinet.{Call, start_at, finish_at, report_at, close_with, Watched, new_watched, saw_start, saw_finish, saw_report, saw_close, asked, Step, run}
use Rattle.rules.specs.Agreement.{Holds, Healthy}
use Rattle.rules.proofs.Nodes.{started, finished, reported, node_closes}
use Rattle.rules.proofs.Calls.{on_reply_keeps}
use Rattle.rules.proofs.Runs.{run_keeps}

record Own (x : Watched) : Type 0 where
  open_sent : (w : Open) → x.node.round ≡ some w → Memᴰ w x.sent
  held : (q : Round) → Memᴰ q x.closed → Holds q x

module _ (tab : Table) (x : Watched) (v : Own x) where
  start_own : (now : ℕ) (a : Started) → start tab x.node now ≡ done a → Own (saw_start x a)
  start_own now a h = subst (λ (a : Started). Own (saw_start x a)) (sym (started tab x.node now h).1) (record {
    open_sent = v.open_sent;
    held = λ q m. let k = v.held q m in record { report = k.report; was_sent = k.was_sent; entry = k.entry };
  })

  finish_own : (now : ℕ) (a : Node) → finish x.node now ≡ done a → Own (saw_finish x a)
  finish_own now a h = subst (λ (a : Node). Own (saw_finish x a)) (sym (finished x.node now h).1) (record {
    open_sent = v.open_sent;
    held = λ q m. let k = v.held q m in record { report = k.report; was_sent = k.was_sent; entry = k.entry };
  })

  report_own : (r : ℕ) (a : Reported) → report tab x.node r ≡ done a → Own (saw_report x r a)
  report_own r a h =
      let said : Open = record { r = r; sent = report_of tab x.node r } in
      subst (λ (a : Reported). Own (saw_report x r a)) (sym (reported tab x.node r h).1) (record {
        open_sent = λ w o. Memᴰ.append_right x.sent (Memᴰ.head (let e : w ≡ said = cc in e));
        held = λ q m. let k = v.held q m in record { report = k.report; was_sent = Memᴰ.append_left (said ∷ []) k.was_sent; entry = k.entry };
      })

  close_own : (q : Round) (a : NodeClosed) → node_close tab x.node q ≡ done a → Own (saw_close x q a)
  close_own q a h =
      let s = node_closes tab x.node q h in
      let m = s.may in
      let is : Holds q x = record {
        report = m.round.sent;
        was_sent = Memᴰ.cast (λ i. record { r = sym m.time i; sent = m.round.sent }) (v.open_sent m.round m.met);
        entry = m.sent;
      } in
      subst (λ (a : NodeClosed). Own (saw_close x q a)) (sym s.gives) (record {
        open_sent = λ w o. none≢some o;
        held = λ p i.
            let k : Holds p x = ⊎_elim (v.held p) (λ (j : Memᴰ p (q ∷ [])). subst (λ (p : Round). Holds p x) (sym (Memᴰ.eq_of_singleton j)) is) (Memᴰ.append_cases x.closed i) in
            record { report = k.report; was_sent = k.was_sent; entry = k.entry };
      })

  asked_own : (k : Call) → Own (asked tab x k)
  unfolding asked
  asked_own (start_at now) = on_reply_keeps Own x (start tab x.node now) (saw_start x) v (start_own now)
  asked_own (finish_at now) = on_reply_keeps Own x (finish x.node now) (saw_finish x) v (finish_own now)
  asked_own (report_at r) = on_reply_keeps Own x (report tab x.node r) (saw_report x r) v (report_own r)
  asked_own (close_with q) = on_reply_keeps Own x (node_close tab x.node q) (saw_close x q) v (close_own q)

fresh_own : (i : ℕ) → Own (new_watched i)
fresh_own i = record { open_sent = λ w o. none≢some o; held = λ q m. absurd (Memᴰ.not-nil m) }

pub alone : (tab : Table) (number : ℕ → ℕ) (ks : List Step) (b : ℕ) → Healthy (λ a. a ≡ b) (run tab number ks)
alone tab number ks b = record {
  same = λ a c p q. inl (let e : a ≡ c = p ∙ sym q in rw e (prefix_refl _));
  held = λ a c p q r m. inr (let e : a ≡ c = p ∙ sym q in (run_keeps tab Own (λ x k v. asked_own tab x v k) fresh_own number ks c).held r (rw e at m));
}

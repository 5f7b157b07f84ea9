-- Each call keeps the invariant of its node: one lemma a call, and a refused one changes nothing.
use Rattle.std.specs.Prelude.{if◌then◌else◌}
use mathlib.Core.Path.{◌≡◌, refl, sym, ap, ◌∙◌, subst}
use mathlib.Core.Bool.{Bool, true, false, ◌&&◌, ◌||◌}
use mathlib.Core.Logic.{◌⊎◌, inl, inr, ⊎_elim}
use mathlib.Core.Option.{none, some}
use mathlib.Core.List.Memᴰ
use mathlib.Core.List.{List, [], ◌∷◌, ◌++◌, append_assoc, Memᴰ}
use Prim.Native.Nat.{ℕ, ◌+◌, ◌≤◌, ◌<◌, max}
use native.Mathlib.Omega.{arith}
use lib.ListN.{length, get_or, length-append}
use borrow.Author.Tests.{leb-true, lt-leb}
use Rattle.laws.specs.Tests.{◌<?◌, ◌≤?◌}
use Rattle.laws.proofs.Tests.{lt_or_ge, and_yes, none≢some}
use Rattle.laws.proofs.Lists.{prefix_snoc, prefix_length}
use Rattle.rules.specs.Answer.{Answer, done, refused, refused_by}
use Rattle.rules.specs.Table.{Table}
use Rattle.rules.specs.Common.{Common, L, job_at, projection, within_bound}
use Rattle.rules.specs.Judge.{Report, Round}
use Rattle.rules.specs.Close.{Closed, applied}
use Rattle.rules.specs.Node.{Open, Node, lock, Started, start, finish, next_soon, report_of, Reported, report, NodeClosed, node_close}
use Rattle.rules.specs.Cabinet.{Call, start_at, finish_at, report_at, close_with, Watched, saw_start, saw_finish, saw_report, saw_close, on_reply, asked}
use Rattle.rules.specs.Agreement.{common_after, order_after, Good}
use Rattle.rules.proofs.Nodes.{started, Permitted, by_offset, by_lock, by_bound, permitted, finished, MayReport, reported, MayClose, node_closes}
use Rattle.rules.proofs.Ordered.{carried}
use Rattle.rules.proofs.Basis.{Bounded, offset_after, Basis}
use Rattle.rules.proofs.Rising.{rising_snoc}
use Rattle.rules.proofs.Invariant.{Answered, Inv}

-- the next position counts in a report where nothing runs: it exists, and is up to O or within the bound
record Next (tab : Table) (n : Node) (r : ℕ) : Type 0 where
  there : n.progress + 1 ≤ L n.common
  may : n.common.O < n.progress + 1 → within_bound tab n.common (n.progress + 1) r ≡ true

next_is : (tab : Table) (n : Node) (r : ℕ) → next_soon tab n r ≡ true → Next tab n r
unfolding next_soon
next_is tab n r h =
    let exists : Bool = n.progress + 1 ≤? L n.common in
    let may : Bool = (n.progress + 1 ≤? n.common.O) || within_bound tab n.common (n.progress + 1) r in
    let a = and_yes exists may (and_yes (exists && may) (projection tab n.common n.progress <? r + tab.timeout) h).0 in
    record { there = leb-true _ _ a.0; may = λ l. rw (lt-leb (n.progress + 1) n.common.O l) at a.1 }

-- what permits a start, past O with no round open, and while one is open
bound_permits : {tab : Table} {n : Node} {now : ℕ} → Permitted tab n now → n.round ≡ none → n.common.O < n.progress + 1
    → within_bound tab n.common (n.progress + 1) now ≡ true
bound_permits (by_offset l) o h = absurd (omega arith)
bound_permits (by_lock w e l) o h = none≢some (sym o ∙ e)
bound_permits (by_bound e b) o h = b

lock_permits : {tab : Table} {n : Node} {now : ℕ} → Permitted tab n now → (w : Open) → n.round ≡ some w → n.progress + 1 ≤ max n.common.O (lock w)
lock_permits (by_offset l) w o = omega arith
lock_permits (by_lock u e l) w o =
    let k : u ≡ w = cc in
    omega (arith, ap lock k)
lock_permits (by_bound e b) w o = none≢some (sym e ∙ o)

-- one position more
one_on : (p k : ℕ) → p ≤ k + 1 → (p ≤ k) ⊎ (p ≡ k + 1)
one_on p k h = ⊎_elim (λ (l : p < k + 1). inl (omega arith)) (λ (l : k + 1 ≤ p). inr (omega arith)) (lt_or_ge p (k + 1))

-- what holds of a node, and of it after an accepted call, holds of it after the call
pub on_reply_keeps : {A : Type 0} (P : Watched → Type 0) (x : Watched) (o : Answer A) (saw : A → Watched) → P x → ((a : A) → o ≡ done a → P (saw a)) → P (on_reply x o saw)
on_reply_keeps P x (done a) saw p f = f a refl
on_reply_keeps P x (refused n) saw p f = p
on_reply_keeps P x (refused_by n i) saw p f = p

module _ {tab : Table} (K : Basis tab) {x : Watched} (v : Inv tab x) where
  -- what was within the bound still is
  still : {t : ℕ} → x.node.latest ≤ t → x.node.common.B ≤ x.node.progress → x.node.round ≡ none → Bounded tab x.node.common t (length x.started)
  still {t} h l o p a b = K.order.later x.node.common p x.node.latest t h (v.free l o p a b)

  long_is : length (order_after tab x.closed) ≡ L x.node.common
  long_is = K.order.long x.closed ∙ ap L (sym v.history)

  -- the job that a start names is the one of the order
  name_is : x.node.common.B ≤ x.node.progress
      → (job_at x.node.common (x.node.progress + 1)).task_of ≡ get_or (order_after tab x.closed) x.node.progress 0
  name_is h =
      subst (λ (c : Common). c.B ≤ x.node.progress → (job_at c (x.node.progress + 1)).task_of ≡ get_or (order_after tab x.closed) x.node.progress 0)
      (sym v.history) (K.order.names x.closed x.node.progress) h

  start_keeps : (now : ℕ) (a : Started) → start tab x.node now ≡ done a → Inv tab (saw_start x a)
  start_keeps now a h =
      let n : Node = x.node in
      let s = started tab n now h in
      let m = s.0 in
      let t = m.on_time in
      let idle : length x.started ≡ n.progress + 0 = rw m.idle at v.count in
      let one_more : length (x.started ++ ((job_at n.common (n.progress + 1)).task_of ∷ [])) ≡ length x.started + 1 = simp length-append in
      subst (λ (a : Started). Inv tab (saw_start x a)) (sym s.1) (record {
        history = v.history;
        right = rw (name_is t.base) (prefix_snoc n.progress 0 v.right (omega arith) (omega (arith, prefix_length v.right, long_is, m.more)));
        count = omega arith;
        past = omega (arith, v.past);
        stopped = λ l. absurd (omega arith);
        free = λ l o p b k.
            ⊎_elim (λ (i : p ≤ length x.started). still t.clock l o p b i)
            (λ (i : p ≡ length x.started + 1).
            let e : p ≡ n.progress + 1 = omega arith in
            rw e (bound_permits (permitted m) o (omega arith)))
            (one_on p (length x.started) (omega arith));
        locked = λ l w o. ((v.locked l w o).0, omega (arith, (v.locked l w o).1, lock_permits (permitted m) w o));
        answered = v.answered;
        old = λ q i. omega (arith, v.old q i);
        older = v.older;
        rising = v.rising;
      })

  finish_keeps : (now : ℕ) (a : Node) → finish x.node now ≡ done a → Inv tab (saw_finish x a)
  finish_keeps now a h =
      let n : Node = x.node in
      let s = finished n now h in
      let t = s.0.on_time in
      let busy : length x.started ≡ n.progress + 1 = rw s.0.runs at v.count in
      subst (λ (a : Node). Inv tab (saw_finish x a)) (sym s.1) (record {
        history = v.history;
        right = v.right;
        count = omega arith;
        past = omega arith;
        stopped = λ l. absurd (omega arith);
        free = λ l o. still t.clock t.base o;
        locked = λ l. v.locked t.base;
        answered = v.answered;
        old = λ q i. omega (arith, v.old q i);
        older = v.older;
        rising = v.rising;
      })

  -- what a report says of the job that runs or comes next
  record Ran (r u : ℕ) : Type 0 where
    small : u ≤ 1
    fits : x.node.progress + u ≤ L x.node.common
    covers : length x.started ≤ x.node.progress + u
    bounded : Bounded tab x.node.common r (x.node.progress + u)

  module _ (r : ℕ) (m : MayReport x.node r) where
    -- no more than it has started
    as_started : (u : ℕ) → u ≤ 1 → length x.started ≡ x.node.progress + u → Ran r u
    as_started u s e = record {
      small = s;
      fits = omega (arith, prefix_length v.right, long_is);
      covers = omega arith;
      bounded = λ p a b. still m.on_time.clock m.on_time.base m.none_open p a (omega arith);
    }

    ran : (b s : Bool) → x.node.running ≡ b → next_soon tab x.node r ≡ s → Ran r (if b || s then 1 else 0)
    ran true s e f = as_started 1 (omega arith) (rw e at v.count)
    ran false false e f = as_started 0 (omega arith) (rw e at v.count)
    ran false true e f =
        let k : length x.started ≡ x.node.progress + 0 = rw e at v.count in
        let g = next_is tab x.node r f in
        record {
          small = omega arith;
          fits = g.there;
          covers = omega arith;
          bounded = λ p a b.
              ⊎_elim (λ (i : p ≤ x.node.progress). still m.on_time.clock m.on_time.base m.none_open p a (omega arith))
              (λ (i : p ≡ x.node.progress + 1). rw i (g.may (omega arith))) (one_on p x.node.progress b);
        }

    report_good : Good tab x.node.common r (report_of tab x.node r)
        × (length x.started ≤ max x.node.common.O ((report_of tab x.node r).progress + (report_of tab x.node r).run))
    unfolding report_of
    report_good =
        let f = ran x.node.running (next_soon tab x.node r) refl refl in
        (K.judged x.node.common r _ f.small f.fits (omega (arith, v.past, m.on_time.clock)) m.on_time.base f.bounded, omega (arith, f.covers))

  report_keeps : (r : ℕ) (a : Reported) → report tab x.node r ≡ done a → Inv tab (saw_report x r a)
  report_keeps r a h =
      let n : Node = x.node in
      let s = reported tab n r h in
      let t = s.0.on_time in
      let said : Open = record { r = r; sent = report_of tab n r } in
      subst (λ (a : Reported). Inv tab (saw_report x r a)) (sym s.1) (record {
        history = v.history;
        right = v.right;
        count = v.count;
        past = omega (arith, v.past);
        stopped = λ l. absurd (omega arith);
        free = λ l o. none≢some (sym o);
        locked = λ l w o.
            let e : said ≡ w = cc in
            subst (λ (w : Open). Good tab n.common w.r w.sent × (length x.started ≤ max n.common.O (lock w))) e (report_good r s.0);
        answered = λ w m.
            ⊎_elim (λ (i : Memᴰ w x.sent). ⊎_elim (λ (o : n.round ≡ some w). none≢some (sym s.0.none_open ∙ o)) inr (v.answered w i))
            (λ (i : Memᴰ w (said ∷ [])). inl (ap some (sym (Memᴰ.eq_of_singleton i)))) (Memᴰ.append_cases x.sent m);
        old = λ q i. omega (arith, v.old q i);
        older = λ w o q i.
            let e : said ≡ w = cc in
            omega (arith, v.old q i, ap (λ (w : Open). w.r) e);
        rising = v.rising;
      })

  -- O does not fall, and passes an own entry that is good
  pub O_up : (q : Round) → x.node.common.O ≤ offset_after tab (x.closed ++ (q ∷ []))
  O_up q = omega (arith, K.order.ordered.rises x.closed q, ap (λ (c : Common). c.O) v.history)

  pub O_past : (q : Round) (e : Report) → get_or q.entries x.node.number none ≡ some e → Good tab x.node.common q.r e
      → e.progress + e.run ≤ offset_after tab (x.closed ++ (q ∷ []))
  O_past q e h g = K.counts x.closed q x.node.number e h (subst (λ (c : Common). Good tab c q.r e) v.history g)

  close_covers : (q : Round) → MayClose x.node q → length x.started ≤ offset_after tab (x.closed ++ (q ∷ []))
  close_covers q m =
      let g = v.locked m.base m.round m.met in
      let good : Good tab x.node.common q.r m.round.sent = rw (← m.time) g.0 in
      omega (arith, g.1, O_up q, O_past q m.round.sent m.sent good)

  -- a record that the node closes takes in all that it has started
  pub close_settles : (q : Round) (a : NodeClosed) → node_close tab x.node q ≡ done a → length x.started ≤ offset_after tab (x.closed ++ (q ∷ []))
  close_settles q a h = close_covers q (node_closes tab x.node q h).may

  close_keeps : (q : Round) (a : NodeClosed) → node_close tab x.node q ≡ done a → Inv tab (saw_close x q a)
  close_keeps q a h =
      let n : Node = x.node in
      let s = node_closes tab n q h in
      let m = s.may in
      let c : Closed = s.closed in
      let g = v.locked m.base m.round m.met in
      let covers = close_covers q m in
      let history : c.common ≡ common_after tab (x.closed ++ (q ∷ [])) =
      K.order.gives n.common q s.common ∙ ap (λ (c : Common). applied tab c q) v.history ∙ sym (K.order.one_more x.closed q) in
      let settled : length x.started ≤ c.common.O = omega (arith, ap (λ (c : Common). c.O) history) in
      subst (λ (a : NodeClosed). Inv tab (saw_close x q a)) (sym s.gives) (record {
        history = history;
        right = carried K.order.ordered x.closed q [] v.right covers;
        count = v.count;
        past = omega (arith, v.past);
        stopped = λ l. (refl, settled);
        free = λ l o p b k. absurd (omega arith);
        locked = λ l w o. none≢some o;
        answered = λ w i.
            ⊎_elim (λ (o : n.round ≡ some w).
            let e : m.round ≡ w = cc m.met in
            inr (subst (Answered tab n.number (x.closed ++ (q ∷ []))) e (record {
              before = x.closed;
              q = q;
              behind = [];
              split = refl;
              same_r = sym m.time;
              entry = m.sent;
              good = subst (λ (c : Common). Good tab c m.round.r m.round.sent) v.history g.0;
            })))
            (λ (c : Answered tab n.number x.closed w). inr (record {
              before = c.before;
              q = c.q;
              behind = c.behind ++ (q ∷ []);
              split = ap (λ (l : List Round). l ++ (q ∷ [])) c.split ∙ append_assoc c.before (c.q ∷ c.behind) (q ∷ []);
              same_r = c.same_r;
              entry = c.entry;
              good = c.good;
            }))
            (v.answered w i);
        old = λ p i.
            ⊎_elim (λ (j : Memᴰ p x.closed). omega (arith, v.old p j))
            (λ (j : Memᴰ p (q ∷ [])). omega (arith, K.timeout, ap (λ (q : Round). q.r) (Memᴰ.eq_of_singleton j))) (Memᴰ.append_cases x.closed i);
        older = λ w o. none≢some o;
        rising = rising_snoc x.closed q v.rising (rw (← m.time) (v.older m.round m.met));
      })

  pub asked_keeps : (k : Call) → Inv tab (asked tab x k)
  unfolding asked
  asked_keeps (start_at now) = on_reply_keeps (Inv tab) x (start tab x.node now) (saw_start x) v (start_keeps now)
  asked_keeps (finish_at now) = on_reply_keeps (Inv tab) x (finish x.node now) (saw_finish x) v (finish_keeps now)
  asked_keeps (report_at r) = on_reply_keeps (Inv tab) x (report tab x.node r) (saw_report x r) v (report_keeps r)
  asked_keeps (close_with q) = on_reply_keeps (Inv tab) x (node_close tab x.node q) (saw_close x q) v (close_keeps q)

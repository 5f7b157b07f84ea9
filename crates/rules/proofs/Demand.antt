-- Demand 3 from what it rests on: the invariant of each node, and healthiness, which is used once.
use mathlib.Core.Path.{◌≡◌, sym, ap, ◌∙◌}
use mathlib.Core.Bool.{true}
use mathlib.Core.Logic.{◌⊎◌, inl, inr, ⊎_elim}
use mathlib.Core.Option.{some}
use mathlib.Core.List.Memᴰ
use mathlib.Core.List.{List, [], ◌∷◌, ◌++◌, append_assoc, append-nil, Memᴰ}
use Prim.Native.Nat.{ℕ, ◌≤◌, ◌<◌}
use native.Mathlib.Omega.{arith}
use lib.ListN.{length}
use borrow.Author.Tests.{ltb-true}
use Rattle.laws.specs.Lists.{Prefix}
use Rattle.laws.proofs.Tests.{lt_or_ge, none≢some}
use Rattle.rules.specs.Table.{Table}
use Rattle.rules.specs.Judge.{Report, Round}
use Rattle.rules.specs.Node.{Open, left_behind}
use Rattle.rules.specs.Cabinet.{Watched, Step, run}
use Rattle.rules.specs.Agreement.{common_after, Good, entry_of, Sent, Holds, Healthy, Agrees}
use Rattle.rules.proofs.Ordered.{Later, others_order}
use Rattle.rules.proofs.Basis.{offset_after, Basis}
use Rattle.rules.proofs.Rising.{Rising, mem_split, rising_apart, same_place}
use Rattle.rules.proofs.Invariant.{Answered, Inv}
use Rattle.rules.proofs.Calls.{O_up, O_past}
use Rattle.rules.proofs.Runs.{trace_of, run_inv, run_later}

abbrev said : ℕ → Report → Open
said r e = record { r = r; sent = e }

-- either has closed no other records than the other
abbrev Alike : Watched → Watched → Type 0
Alike x y = Prefix y.closed x.closed ⊎ Prefix x.closed y.closed

abbrev Held : Watched → Round → Type 0
Held x q = (left_behind x.node ≡ true) ⊎ Holds q x

is_left : (x : Watched) → left_behind x.node ≡ true → x.node.progress < x.node.common.B
is_left x h = ltb-true x.node.progress x.node.common.B h

module _ {tab : Table} (K : Basis tab) where
  -- q: the first record that x has not closed
  module _ {x : Watched} (v : Inv tab x) (q : Round) (qs : List Round) (up : Rising (x.closed ++ (q ∷ qs))) where
    -- what x sent for it is what it sent for the round that is open
    is_open_one : (e : Report) → Sent x q.r e → x.node.round ≡ some (said q.r e)
    is_open_one e m =
        ⊎_elim (λ o. o)
        (λ (c : Answered tab x.node.number x.closed (said q.r e)).
        absurd (omega (arith, c.same_r, rising_apart x.closed q qs up (mem_split c.before c.q c.behind c.split))))
        (v.answered (said q.r e) m)

    -- it takes in all that x has started
    next_takes_in : Held x q → length x.started ≤ offset_after tab (x.closed ++ (q ∷ []))
    next_takes_in = by (lt_or_ge x.node.progress x.node.common.B)
      where
        by : (x.node.progress < x.node.common.B) ⊎ (x.node.common.B ≤ x.node.progress) → Held x q
            → length x.started ≤ offset_after tab (x.closed ++ (q ∷ []))
        by (inl l) h = omega (arith, (v.stopped l).1, O_up K v q)
        by (inr l) (inl k) = absurd (omega (arith, is_left x k))
        by (inr l) (inr k) =
            let g = v.locked l (said q.r k.report) (is_open_one k.report k.was_sent) in
            omega (arith, g.1, O_past K v q k.report k.entry g.0, O_up K v q)

  -- a report of x for a record of y
  module _ {x y : Watched} (v : Inv tab x) (w : Inv tab y) (held : (q : Round) (qs : List Round) → x.closed ++ (q ∷ qs) ≡ y.closed → Held x q)
      (before : List Round) (q : Round) (behind : List Round) (at : y.closed ≡ before ++ (q ∷ behind)) (e : Report) where
    abbrev Judged : Type 0
    Judged = (entry_of x q ≡ some e) × Good tab (common_after tab before) q.r e

    -- it stands in a record of x: that record is q, since r tells the place
    was_answered : Answered tab x.node.number x.closed (said q.r e) → Alike x y → Judged
    was_answered c (inl p) =
        let here : before ++ (q ∷ (behind ++ p.rest)) ≡ x.closed = sym (append_assoc before (q ∷ behind) p.rest) ∙ ap (λ (l : List Round). l ++ p.rest) (sym at) ∙ p.whole in
        let k = same_place before c.before (behind ++ p.rest) c.behind (rw (← here) at v.rising) (here ∙ c.split) (sym c.same_r) in
        (rw k.1 c.entry, rw k.0 c.good)
    was_answered c (inr p) =
        let here : c.before ++ (c.q ∷ (c.behind ++ p.rest)) ≡ y.closed = sym (append_assoc c.before (c.q ∷ c.behind) p.rest) ∙ ap (λ (l : List Round). l ++ p.rest) (sym c.split) ∙ p.whole in
        let k = same_place before c.before behind (c.behind ++ p.rest) (rw at at w.rising) (sym at ∙ sym here) (sym c.same_r) in
        (rw k.1 c.entry, rw k.0 c.good)

    module _ (o : x.node.round ≡ some (said q.r e)) where
      not_closed : Memᴰ q x.closed → Judged
      not_closed m = absurd (omega (arith, v.older (said q.r e) o q m))

      -- it is the open one: then q is the first record that x has not closed
      is_first : x.node.common.B ≤ x.node.progress → (t : List Round) → x.closed ++ t ≡ y.closed → Judged
      is_first l [] p = not_closed (mem_split before q behind (sym (append-nil x.closed) ∙ p ∙ at))
      is_first l (q₀ ∷ t) p = by (held q₀ t p)
        where
          by : Held x q₀ → Judged
          by (inl k) = absurd (omega (arith, is_left x k))
          by (inr k) =
              let up : Rising (x.closed ++ (q₀ ∷ t)) = rw (← p) at w.rising in
              let o₀ = is_open_one v q₀ t up k.report k.was_sent in
              let s : said q₀.r k.report ≡ said q.r e = cc in
              let z = same_place x.closed before t behind up (p ∙ at) (ap (λ (w : Open). w.r) s) in
              let same : k.report ≡ e = ap (λ (w : Open). w.sent) s in
              (rw (← z.1, ← same) k.entry, rw (← z.0, ← v.history) (v.locked l (said q.r e) o).0)

      is_open : Alike x y → Judged
      is_open (inl p) = not_closed (rw (← p.whole) (Memᴰ.append_left p.rest (mem_split before q behind at)))
      is_open (inr p) = by (lt_or_ge x.node.progress x.node.common.B)
        where
          by : (x.node.progress < x.node.common.B) ⊎ (x.node.common.B ≤ x.node.progress) → Judged
          by (inl l) = none≢some (sym (v.stopped l).0 ∙ o)
          by (inr l) = is_first l p.rest p.whole

    report_judged : Alike x y → Sent x q.r e → Judged
    report_judged c m = ⊎_elim (λ o. is_open o c) (λ d. was_answered d c) (v.answered (said q.r e) m)

  -- of healthiness only this is used: the records are alike, and the first record that x has not closed holds its report
  pub agree : {x₀ x y : Watched} → Inv tab x₀ → Inv tab x → Inv tab y → Later (offset_after tab) (trace_of x₀) (trace_of x) → Alike x y
      → ((q : Round) (qs : List Round) → x.closed ++ (q ∷ qs) ≡ y.closed → Held x q) → Agrees tab x₀ x y
  agree {x₀} {x} {y} v₀ v w l c h = record {
    classes = λ before q behind at e m. report_judged v w h before q behind at e c m;
    own = v₀.right;
    others = others_order K.order.ordered v₀.right v.right l y.closed (λ q qs e. next_takes_in v q qs (rw (← e) at w.rising) (h q qs e)) c;
  }

  pub demand_3 : (number : ℕ → ℕ) (ks ks' : List Step) (H : ℕ → Type 0) → Healthy H (run tab number (ks ++ ks')) → (a b : ℕ) → H a → H b
      → Agrees tab (run tab number ks b) (run tab number (ks ++ ks') b) (run tab number (ks ++ ks') a)
  demand_3 number ks ks' H h a b p q =
      agree (run_inv K number ks b) (run_inv K number (ks ++ ks') b) (run_inv K number (ks ++ ks') a) (run_later K number ks ks' b) (h.same a b p q)
      (λ r rs e. h.held a b p q r (mem_split (run tab number (ks ++ ks') b).closed r rs (sym e)))

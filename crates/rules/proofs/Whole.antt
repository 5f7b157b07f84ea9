-- The order from position 1 on, and the jobs that the common record keeps of it: the rules of document 01 have what demand 3 rests on.
--     placed-after     the jobs dropped are those up to B, and B ≤ O ≤ L, after any records
--     names            the job that stands past B in the common record is the one of the order
--     basis            what demand 3 rests on, for a checked table
use mathlib.Core.Path.{◌≡◌, refl, sym, ap, ◌∙◌, subst}
use mathlib.Core.Bool.{true}
use mathlib.Core.Logic.{inl, inr}
use mathlib.Core.Option.{none, some}
use mathlib.Core.List.{List, [], ◌∷◌, ◌++◌, map, foldl, foldl-append, append_assoc}
use Prim.Native.Nat.{ℕ, ◌+◌, ◌-◌, ◌≤◌}
use native.Mathlib.Omega.{arith}
use lib.ListN.{length, take, drop, get_or, length-append, length-take, length-map, take-append-drop, get_or-map}
use lib.Seq.{take-append-add, get_or-append-add}
use Rattle.laws.proofs.Lists.{map_take}
use Rattle.rules.specs.Table.{Table}
use Rattle.rules.specs.Common.{Job, Common, no_job, fresh, L, job_at}
use Rattle.rules.specs.Judge.{Report, Round, counts}
use Rattle.rules.specs.Close.{Closed, applied}
use Rattle.rules.specs.Agreement.{Whole, apply_whole, whole_after, common_after, order_after, Good}
use Rattle.rules.proofs.Tables.{Fit}
use Rattle.rules.proofs.Bound.{bound_stays, each_bound}
use Rattle.rules.proofs.Judging.{counted, zero_or_five}
use Rattle.rules.proofs.Closing.{close_gives, Onward, applied_keeps, applied_reaches, judged_between, applied_between, applied_onward}
use Rattle.rules.proofs.Basis.{offset_after, Bounded, OrderBasis, Basis}

-- "Jobs at positions up to B are dropped"; "Always B ≤ O ≤ L"
pub record Placed (w : Whole) : Type 0 where
  pub gone : length w.gone ≡ w.now.B
  pub base : w.now.B ≤ w.now.O
  pub offset : w.now.O ≤ L w.now

abbrev jobs : Whole → List Job
jobs w = w.gone ++ w.now.kept

-- past a first part, the first n of a list begin with that part
take_past : {A : Type 0} (n : ℕ) (xs ys : List A) → length xs ≤ n → take n (xs ++ ys) ≡ xs ++ take (n - length xs) ys
take_past n xs ys h =
    let e : length xs + (n - length xs) ≡ n = omega arith in
    ap (λ (k : ℕ). take k (xs ++ ys)) (sym e) ∙ take-append-add xs ys (n - length xs)

-- the jobs dropped with those that a step from c to d drops, whatever made that step
module _ (gone : List Job) {c d : Common} (o : Onward c d) (g : length gone ≡ c.B) (b : d.B ≤ d.O) (l : d.B ≤ L c) where
  abbrev dropped : List Job
  dropped = gone ++ take (d.B - c.B) c.kept

  dropped_long : length dropped ≡ d.B
  dropped_long = simp (length-append, length-take) (omega (arith, o.base))

  -- the order up to the new O stays
  jobs_fixed : take d.O (dropped ++ d.kept) ≡ take d.O (gone ++ c.kept)
  jobs_fixed =
      let n : length dropped ≤ d.O = omega (arith, dropped_long) in
      let e : d.O - length dropped ≡ d.O - d.B = omega (arith, dropped_long) in
      take_past d.O dropped d.kept n ∙ ap (λ (k : ℕ). dropped ++ take k d.kept) e ∙ ap (λ (l : List Job). dropped ++ l) o.order
      ∙ sym (ap (λ (k : ℕ). dropped ++ take k (drop (d.B - c.B) c.kept)) e) ∙ sym (take_past d.O dropped (drop (d.B - c.B) c.kept) n)
      ∙ ap (take d.O) (append_assoc gone _ _ ∙ ap (λ (l : List Job). gone ++ l) (take-append-drop (d.B - c.B) c.kept))

module _ (tab : Table) (w : Whole) (q : Round) (p : Placed w) where
  onward : Onward w.now (applied tab w.now q)
  onward = applied_onward tab w.now q p.base p.offset

  between : ((applied tab w.now q).B ≤ (applied tab w.now q).O) × ((applied tab w.now q).O ≤ L (applied tab w.now q))
  between = applied_between tab w.now q p.base p.offset

  base_within : (applied tab w.now q).B ≤ L w.now
  base_within = omega (arith, (applied_keeps tab w.now q).base, judged_between tab w.now q p.base p.offset)

  apply_placed : Placed (apply_whole tab w q)
  unfolding apply_whole
  apply_placed = record { gone = dropped_long w.gone onward p.gone between.0 base_within; base = between.0; offset = between.1 }

  apply_fixed : take (apply_whole tab w q).now.O (jobs (apply_whole tab w q)) ≡ take (apply_whole tab w q).now.O (jobs w)
  unfolding apply_whole
  apply_fixed = jobs_fixed w.gone onward p.gone between.0 base_within

-- after any list of records
placed_from : (tab : Table) (qs : List Round) (w : Whole) → Placed w → Placed (foldl (apply_whole tab) w qs)
placed_from tab [] w p = p
placed_from tab (q ∷ qs) w p = placed_from tab qs (apply_whole tab w q) (apply_placed tab w q p)

module _ (tab : Table) where
  pub placed_after : (qs : List Round) → Placed (whole_after tab qs)
  unfolding whole_after
  placed_after qs = placed_from tab qs (record { now = fresh; gone = [] }) (record { gone = refl; base = omega arith; offset = omega arith })

  whole_one_more : (qs : List Round) (q : Round) → whole_after tab (qs ++ (q ∷ [])) ≡ apply_whole tab (whole_after tab qs) q
  unfolding whole_after
  whole_one_more qs q = foldl-append (apply_whole tab) (record { now = fresh; gone = [] }) qs (q ∷ [])

  one_more : (qs : List Round) (q : Round) → common_after tab (qs ++ (q ∷ [])) ≡ applied tab (common_after tab qs) q
  unfolding apply_whole
  one_more qs q = ap (λ (w : Whole). w.now) (whole_one_more qs q)

  abbrev task_at : Job → ℕ
  task_at j = j.task_of

  long : (qs : List Round) → length (order_after tab qs) ≡ L (common_after tab qs)
  unfolding order_after
  long qs = simp (length-map, length-append) (omega (arith, (placed_after qs).gone))

  pub names : (qs : List Round) (p : ℕ) → (common_after tab qs).B ≤ p → (job_at (common_after tab qs) (p + 1)).task_of ≡ get_or (order_after tab qs) p 0
  unfolding order_after
  names qs p h =
      let w : Whole = whole_after tab qs in
      let k : ℕ = p + 1 - w.now.B - 1 in
      let e : length w.gone + k ≡ p = omega (arith, (placed_after qs).gone) in
      ap task_at (sym (get_or-append-add w.gone w.now.kept k no_job)) ∙ sym (get_or-map task_at (jobs w) (length w.gone + k) no_job)
      ∙ ap (λ (n : ℕ). get_or (map task_at (jobs w)) n 0) e

  rises : (qs : List Round) (q : Round) → offset_after tab qs ≤ offset_after tab (qs ++ (q ∷ []))
  rises qs q = omega (arith, ap (λ (c : Common). c.O) (one_more qs q), (onward tab (whole_after tab qs) q (placed_after qs)).offset)

  fixed : (qs : List Round) (q : Round)
      → take (offset_after tab (qs ++ (q ∷ []))) (order_after tab (qs ++ (q ∷ []))) ≡ take (offset_after tab (qs ++ (q ∷ []))) (order_after tab qs)
  unfolding order_after
  fixed qs q =
      let w : Whole = whole_after tab qs in
      let n : ℕ = (apply_whole tab w q).now.O in
      subst (λ (u : Whole). take u.now.O (map task_at (jobs u)) ≡ take u.now.O (map task_at (jobs w))) (sym (whole_one_more qs q))
      (sym (map_take task_at n (jobs (apply_whole tab w q))) ∙ ap (map task_at) (apply_fixed tab w q (placed_after qs)) ∙ map_take task_at n (jobs w))

  good_counts : (c : Common) (r : ℕ) (e : Report) → Good tab c r e → counts tab c r (some e) ≡ true
  good_counts c r e (inl k) = rw k
  good_counts c r e (inr k) = rw k

  counts_up : (qs : List Round) (q : Round) (i : ℕ) (e : Report) → get_or q.entries i none ≡ some e → Good tab (common_after tab qs) q.r e
      → e.progress + e.run ≤ offset_after tab (qs ++ (q ∷ []))
  counts_up qs q i e h g =
      let c : Common = common_after tab qs in
      let k = applied_reaches tab c q i (rw h (good_counts c q.r e g)) in
      omega (arith, rw h at k, ap (λ (c : Common). c.O) (one_more qs q))

  is_good : (c : Common) (r : ℕ) (e : Report) → e.run ≤ 1 → e.progress + e.run ≤ L c → e.completed ≤ r → c.B ≤ e.progress → Bounded tab c r (e.progress + e.run)
      → Good tab c r e
  is_good c r e u p t b h = zero_or_five tab c r (some e) (counted tab c r e (record { run = u; inside = p; completed = t; base = b; bound = each_bound tab c r e h }))

  order_basis : OrderBasis tab
  order_basis = record {
    ordered = record { rises = rises; fixed = fixed };
    one_more = one_more;
    long = long;
    names = names;
    later = λ c p t u l. bound_stays tab c p l;
    gives = λ c q h. ap (λ (k : Closed). k.common) (close_gives tab c q h);
  }

  pub basis : Fit tab → Basis tab
  basis f = record { order = order_basis; timeout = f.timeout; counts = counts_up; judged = is_good }

-- The steps of a close lead to the rules' close.
--     after-applied       the record after the round is the rules' applied record
--     trial-says          what is tried before judging: the rules' refusal, or what they passed
--     judged-so           a judgement of a record that was given back, and a list that passed 15
--     stopped-early, concluded     the two ways out of a close
use mathlib.Core.Path.{◌≡◌, refl, sym, ap, ap₂, ◌∙◌, subst}
use mathlib.Core.Bool.{Bool, true, false}
use mathlib.Core.Option.{Option, some}
use mathlib.Core.List.{List, [], ◌∷◌, map, foldl}
use Prim.Native.Nat.{ℕ, ◌+◌, ◌-◌}
use native.Mathlib.Omega.{arith}
use borrow.Author.Tests.{leb-false}
use lib.ListN.{take, drop}
use Rattle.laws.specs.Tests.{◌<?◌}
use Rattle.laws.specs.Lists.{pad}
use Rattle.laws.proofs.Lists.{map_drop}
use Rattle.rules.specs.Answer.{Answer, done, refused, refused_by, refuse◌if◌else◌}
use Rattle.rules.specs.Table.{Table}
use Rattle.rules.specs.Common.{Job, Common}
use Rattle.rules.specs.Judge.{Release, Round, new_B, new_O, new_W}
use Rattle.rules.specs.Insert.{next_E, release, release_all}
use Rattle.rules.specs.Close.{Closed, too_late, too_soon, ill_formed, too_early, too_many, judged, applied, verdict, close}
use Rattle.rules.proofs.Judging.{B_rises, B_within, O_within}
use Rattle.table.specs.declared.Table as table
use Rattle.table.specs.Table.{table_of, Checked}
use Rattle.round.specs.declared.Round as round
use Rattle.round.specs.Round.{round_of, releases_of}
use Rattle.common.specs.declared.Common as common
use Rattle.common.specs.Common.{job_of, common_of, Given}
use Rattle.common.proofs.Records.{numbers, length_is}
use Rattle.judge.specs.declared.Judgement.{Judgement}
use Rattle.judge.specs.Judgement.{judgement, Ready}
use Rattle.close.specs.declared.Closing.{Closing}
use Rattle.release.specs.Listing.{Listable}
use Rattle.release.specs.Spacing.{spacing}
use Rattle.release.specs.Insertion.{put_in, put_all, Packed}
use Rattle.close.specs.Trial.{trial}
use Rattle.close.specs.Close.{closed_as, closing, after, conclusion, Judged}
use Rattle.release.proofs.Releases.{releases_count, few_listed, all_entered, listable}
use Rattle.release.proofs.Order.{put_none, put_more, insert_is}
use Rattle.close.proofs.Applied.{tasks_back}

-- releases put into the tasks, and into E, are the rules' releases
releases_are : (tab : Table) (r : ℕ) (xs : List Release) (l : List ℕ) (B W O : ℕ) (E : List ℕ) (last : Option ℕ)
    → foldl (release tab r) (record { kept = map job_of l; B = B; W = W; O = O; E = E; last = last }) xs
    ≡ record { kept = map job_of (put_all (O - B) l xs); B = B; W = W; O = O; E = foldl (next_E tab r) E xs; last = last }
unfolding release
releases_are tab r [] l B W O E last = ap (λ (k : List ℕ). record { kept = map job_of k; B = B; W = W; O = O; E = E; last = last }) (sym (put_none (O - B) l))
releases_are tab r (x ∷ xs) l B W O E last =
    ap (λ (k : List Job). foldl (release tab r) (record { kept = k; B = B; W = W; O = O; E = next_E tab r E x; last = last }) xs)
    (insert_is tab x.task_of (r + x.delay) (O - B) l)
    ∙ releases_are tab r xs (put_in x.task_of (O - B) l) B W O (next_E tab r E x) last
    ∙ ap (λ (k : List ℕ). record { kept = map job_of k; B = B; W = W; O = O; E = foldl (next_E tab r) (next_E tab r E x) xs; last = last }) (sym (put_more (O - B) l x xs))

pub after_applied : (tab : Table) (c : common.Common) (q : round.Round)
    → after c (judgement tab (common_of c) (round_of q)) (foldl (next_E tab q.time) c.earliest (releases_of q)) q ≡ applied tab (common_of c) (round_of q)
unfolding after applied release_all judged judgement
after_applied tab c q =
    let B = new_B tab (common_of c) q.time (round_of q).entries in
    let W = new_W tab (common_of c) q.time (round_of q).entries in
    let O = new_O tab (common_of c) q.time (round_of q).entries in
    sym
    (ap (λ (k : List Job). foldl (release tab q.time) (record { kept = k; B = B; W = W; O = O; E = c.earliest; last = some q.time }) (releases_of q))
    (sym (map_drop job_of (B - c.base) (take c.count c.tasks)))
    ∙ releases_are tab q.time (releases_of q) (drop (B - c.base) (take c.count c.tasks)) B W O c.earliest (some q.time))

-- what a trial that stands has passed, and the E that it leaves
pub record Passed (tab : Table) (c : Common) (q : Round) (E : List ℕ) : Type 0 where
  pub in_time : too_late q.r ≡ false
  pub apart : too_soon tab c q.r ≡ false
  pub formed : ill_formed tab q ≡ false
  pub spaced : too_early tab q.r c.E q.releases ≡ false
  pub counted : E ≡ foldl (next_E tab q.r) c.E q.releases

abbrev pub Says : Table → Common → Round → Answer (List ℕ) → Type 0
Says tab c q (done E) = Passed tab c q E
Says tab c q (refused n) = close tab c q ≡ refused n
Says tab c q (refused_by n i) = ⊥

pub trial_says : (tab : Table) (c : Common) (q : Round) → Says tab c q (trial tab c q)
unfolding trial spacing close
trial_says tab c q = by (too_late q.r) (too_soon tab c q.r) (ill_formed tab q) (too_early tab q.r c.E q.releases) refl refl refl refl
  where
    by : (u v w x : Bool) → too_late q.r ≡ u → too_soon tab c q.r ≡ v → ill_formed tab q ≡ w → too_early tab q.r c.E q.releases ≡ x
        → Says tab c q (refuse 3 if u else refuse 14 if v else refuse 15 if w else refuse 16 if x else done (foldl (next_E tab q.r) c.E q.releases))
    by true v w x d e f g = rw d
    by false true w x d e f g = rw (d, e)
    by false false true x d e f g = rw (d, e, f)
    by false false false true d e f g = rw (d, e, f, g)
    by false false false false d e f g = record { in_time = d; apart = e; formed = f; spaced = g; counted = refl }

module _ {t : table.Table} {c : common.Common} (g : Given t c) where
  packed : Packed c.tasks c.count
  packed = record { few = (numbers g).few; exact = ap (λ (x : common.Common). x.tasks) g.exact ∙ ap (pad 256 0) (tasks_back (take c.count c.tasks)) }

  judgement_fits : (q : round.Round) → Listable t q → Judged c (judgement (table_of t) (common_of c) (round_of q)) q
  unfolding judgement
  judgement_fits q v = record {
    packed = packed;
    base = B_rises (table_of t) (common_of c) q.time (round_of q).entries;
    between = B_within (table_of t) (common_of c) q.time (round_of q).entries g.sound.base;
    within = omega (arith, O_within (table_of t) (common_of c) q.time g.sound.offset (round_of q).entries, length_is g);
    small = (numbers g).length_below;
    listed = few_listed v;
    known = λ i h. (listable v i h).known;
  }

  conclusion_closes : (q : round.Round) {E : List ℕ} → Passed (table_of t) (common_of c) (round_of q) E
      → conclusion c (judgement (table_of t) (common_of c) (round_of q)) E q ≡ closing (close (table_of t) (common_of c) (round_of q))
  unfolding conclusion close judgement
  conclusion_closes q p =
      let same : (new_B (table_of t) (common_of c) q.time (round_of q).entries + 256 <? c.base + c.count + q.listed) ≡ too_many (table_of t) (common_of c) (round_of q) =
      ap₂ (λ (l n : ℕ). new_B (table_of t) (common_of c) q.time (round_of q).entries + 256 <? l + n) (sym (length_is g)) (sym (releases_count q)) in
      rw (p.counted, p.in_time, p.apart, p.formed, p.spaced, same) (by (too_many (table_of t) (common_of c) (round_of q)))
    where
      k : Common → Closed
      k d = record { common = d; reply = verdict (table_of t) (common_of c) (round_of q) }

      by : (b : Bool)
          → refuse 17 if b
          else done (closed_as (k (after c (judgement (table_of t) (common_of c) (round_of q)) (foldl (next_E (table_of t) q.time) c.earliest (releases_of q)) q)))
          ≡ closing (refuse 17 if b else done (k (applied (table_of t) (common_of c) (round_of q))))
      by true = refl
      by false = ap (λ (d : Common). done (closed_as (k d))) (after_applied (table_of t) c q)

-- the ways out of a close, from what its callees ensure
module _ (t : table.Table) (c : common.Common) (q : round.Round) where
  said : {a : Answer (List ℕ)} → a ≡ trial (table_of t) (common_of c) (round_of q) → Says (table_of t) (common_of c) (round_of q) a
  said e = subst (Says (table_of t) (common_of c) (round_of q)) (sym e) (trial_says (table_of t) (common_of c) (round_of q))

  pub stopped_early : {n : ℕ} → refused n ≡ trial (table_of t) (common_of c) (round_of q) → closing (close (table_of t) (common_of c) (round_of q)) ≡ refused n
  stopped_early h = ap closing (said h)

  module _ {E : List ℕ} (h : done E ≡ trial (table_of t) (common_of c) (round_of q)) where
    passed_all : Passed (table_of t) (common_of c) (round_of q) E
    passed_all = said h

    passed_list : Checked t → Listable t q
    passed_list k = record { checked = k; in_time = leb-false _ _ passed_all.in_time; formed = passed_all.formed }

    pub passed_ready : Checked t → Given t c → Ready t c q
    passed_ready k g =
        let v : Listable t q = passed_list k in
        record { checked = k; given = g; time = v.in_time; entered = all_entered v }

    module _ (k : Checked t) (g : Given t c) {j : Judgement} (f : j ≡ judgement (table_of t) (common_of c) (round_of q)) where
      pub judged_so : Judged c j q
      judged_so = rw f (judgement_fits g q (passed_list k))

      pub concluded : {a : Answer Closing} → a ≡ conclusion c j E q → a ≡ closing (close (table_of t) (common_of c) (round_of q))
      concluded p = p ∙ ap (λ (j : Judgement). conclusion c j E q) f ∙ conclusion_closes g q passed_all

-- The record after a round, from the arrays to the rules.
use mathlib.Core.Path.{◌≡◌, refl, sym, ap, ◌∙◌}
use mathlib.Core.List.{List, [], ◌∷◌, map}
use Prim.Native.Nat.{ℕ, ◌+◌, ◌-◌}
use native.Mathlib.Omega.{arith}
use lib.ListN.{length, take, drop, length-drop, length-map}
use Rattle.std.specs.Prelude.{Some}
use Rattle.laws.specs.Lists.{pad}
use Rattle.rules.specs.Common as rules
use Rattle.common.specs.declared.Common.{Common}
use Rattle.common.specs.Common.{job_of, common_as}
use Rattle.round.specs.declared.Round.{Round}
use Rattle.round.specs.Round.{releases_of}
use Rattle.judge.specs.declared.Judgement.{Judgement}
use Rattle.release.specs.Insertion.{put_all, Packed, Room}
use Rattle.close.specs.Close.{after, Fitting}
use Rattle.release.proofs.Releases.{releases_count}
use Rattle.release.proofs.Order.{packed_kept, packed_pad, put_all_long}

pub tasks_back : (l : List ℕ) → map (λ (j : rules.Job). j.task_of) (map job_of l) ≡ l
tasks_back [] = refl
tasks_back (x ∷ l) = ap (λ (r : List ℕ). x ∷ r) (tasks_back l)

-- what `apply` has to show, from what its callees ensure
module _ (c : Common) (j : Judgement) (q : Round) (v : Fitting c j q) where
  abbrev gone : ℕ
  gone = j.base - c.base

  abbrev stay : List ℕ
  stay = drop gone (take c.count c.tasks)

  stays : length stay ≡ c.count - gone
  stays = length-drop gone (take c.count c.tasks) ∙ ap (λ (n : ℕ). n - gone) (packed_kept v.judged.packed)

  pub apply_room : Room (c.count - gone) (j.offset - j.base) q
  apply_room = record {
    from = omega (arith, v.judged.base, v.judged.between, v.judged.within);
    listed = v.judged.listed;
    all = omega (arith, v.judged.base, v.judged.between, v.judged.within, v.room);
    known = v.judged.known;
  }

  module _ {kept : List ℕ} (e : kept ≡ pad 256 0 stay) where
    here : (take (c.count - gone) kept ≡ stay) × Packed kept (c.count - gone)
    here = rw e (packed_pad stay stays (omega (arith, v.judged.packed.few)))

    pub apply_packed : Packed kept (c.count - gone)
    apply_packed = here.1

    pub apply_done : {tasks : List ℕ} → tasks ≡ pad 256 0 (put_all (j.offset - j.base) (take (c.count - gone) kept) (releases_of q)) → (E : List ℕ)
        → record {
          tasks = tasks;
          count = c.count - gone + q.listed;
          base = j.base;
          start = j.start;
          offset = j.offset;
          earliest = E;
          last = Some q.time;
        }
        ≡ common_as (after c j E q)
    unfolding after
    apply_done {tasks} p E =
        let put : List ℕ = put_all (j.offset - j.base) stay (releases_of q) in
        let a : tasks ≡ pad 256 0 (map (λ (x : rules.Job). x.task_of) (map job_of put)) =
        p ∙ ap (λ (l : List ℕ). pad 256 0 (put_all (j.offset - j.base) l (releases_of q))) here.0 ∙ ap (pad 256 0) (sym (tasks_back put)) in
        let b : length put ≡ c.count - gone + q.listed =
        put_all_long (j.offset - j.base) stay (releases_of q) (omega (arith, stays, apply_room.from)) ∙ omega (arith, stays, releases_count q) in
        let n : c.count - gone + q.listed ≡ length (map job_of put) = sym (length-map put job_of ∙ b) in
        λ i. record { tasks = a i; count = n i; base = j.base; start = j.start; offset = j.offset; earliest = E; last = Some q.time }

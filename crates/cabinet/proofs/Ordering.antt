-- The order as it stands, at the doors: the tasks that a record keeps.
use mathlib.Core.Path.{◌≡◌, sym, ap, ◌∙◌}
use mathlib.Core.List.{List, map}
use Prim.Native.Nat.{ℕ, ◌≤◌, ◌<◌}
use native.Mathlib.Omega.{arith}
use borrow.Author.Tests.{lt-ltb, le-ltb}
use lib.ListN.{length, take, length-map}
use lib.Seq.{length-take-le}
use Rattle.laws.specs.Tests.{◌<?◌}
use Rattle.laws.specs.Lists.{pad}
use Rattle.laws.proofs.Lists.{take_pad}
use Rattle.rules.specs.Answer.{Answer, done, refused, refuse◌if◌else◌}
use Rattle.table.specs.declared.Table.{Table}
use Rattle.common.specs.declared.Common.{Common}
use Rattle.common.specs.Common.{common_of, Given}
use Rattle.common.proofs.Records.{numbers, kept_count}
use Rattle.states.specs.Common.{common_at}
use Rattle.cabinet.specs.Looks.{watched_at, looked}
use Rattle.cabinet.specs.Stations.{order_door}
use Rattle.cabinet.proofs.Watching.{found, unwatched, watched_given}

-- the tasks of the jobs kept are the first ones of the record by value
tasks_kept : {c : Common} {t : Table} → Given t c → map (λ j. j.task_of) (common_of c).kept ≡ take c.count c.tasks
tasks_kept {c} g =
    let order : List ℕ = map (λ j. j.task_of) (common_of c).kept in
    sym (take_pad 256 0 order)
    ∙ ap (λ (n : ℕ). take n (pad 256 0 order)) (length-map (common_of c).kept (λ j. j.task_of) ∙ kept_count g)
    ∙ ap (λ (d : Common). take c.count d.tasks) (sym g.exact)

module _ (ts cs os : List ℕ) where
  abbrev door : Answer (List ℕ)
  door = order_door ts cs os

  pub order_stopped : {n : ℕ} → refused n ≡ looked (watched_at ts cs) → door ≡ refused n
  unfolding order_door
  order_stopped w = rw (unwatched ts cs w)

  module _ {t : Table} {c : Common} (w : done (t, c) ≡ looked (watched_at ts cs)) where
    abbrev order : List ℕ
    order = take c.count c.tasks

    pub order_few : c.count ≤ 256
    order_few = (numbers (watched_given ts cs w)).few

    order_long : length order ≡ c.count
    order_long = length-take-le c.count c.tasks (omega (arith, order_few, (numbers (watched_given ts cs w)).places))

    at_order : door ≡ (refuse 100 if length os <? length order else done order)
    unfolding order_door
    at_order =
        rw (found common_at ts cs w) (ap (λ (order : List ℕ). refuse 100 if length os <? length order else done order) (tasks_kept (watched_given ts cs w)))

    pub order_short : length os < c.count → door ≡ refused 100
    order_short l =
        let b : length os < length order = omega (arith, order_long) in
        at_order ∙ rw (lt-ltb _ _ b)

    module _ (l : c.count ≤ length os) where
      pub order_fits : length order ≤ length os
      order_fits = omega (arith, order_long)

      pub order_told : door ≡ done order
      order_told = at_order ∙ rw (le-ltb _ _ order_fits)

      pub order_count : c.count ≡ length order
      order_count = sym order_long

-- What is asked of a common record at the doors: a projection, and the bound; a lemma for each way out.
use mathlib.Core.Path.{◌≡◌, ◌∙◌}
use mathlib.Core.List.{List}
use mathlib.Core.Option.{Option, none, some}
use Prim.Native.Nat.{ℕ, ◌+◌, ◌^◌, ◌≤◌, ◌<◌}
use native.Mathlib.Omega.{arith}
use borrow.Author.Tests.{lt-ltb, le-ltb, le-leb, lt-leb}
use Rattle.std.specs.Prelude.{Some, None}
use Rattle.rules.specs.Answer.{done, refused, refused_by, refuse◌if◌else◌, refuse◌naming◌else◌}
use Rattle.rules.specs.Common.{L, projection, breaker}
use Rattle.table.specs.declared.Table.{Table}
use Rattle.table.specs.Table.{table_of}
use Rattle.common.specs.declared.Common.{Common}
use Rattle.common.specs.Common.{common_of}
use Rattle.common.specs.Positions.{Projectable, Occupied}
use Rattle.common.specs.Raw.{breach_of}
use Rattle.common.proofs.Records.{numbers, length_is}
use Rattle.states.specs.Common.{common_at}
use Rattle.cabinet.specs.Looks.{watched_at, looked}
use Rattle.cabinet.specs.Stations.{projection_door, bound_door}
use Rattle.cabinet.proofs.Watching.{found, unwatched, watched_checked, watched_given}

module _ (ts cs : List ℕ) {t : Table} {c : Common} (w : done (t, c) ≡ looked (watched_at ts cs)) where
  pub kept_small : c.base + c.count < 2 ^ 64
  kept_small = omega (arith, (numbers (watched_given ts cs w)).length_below)

  length_there : L (common_of c) ≡ c.base + c.count
  length_there = length_is (watched_given ts cs w)

module _ (ts cs : List ℕ) (p : ℕ) where
  pub projection_stopped : {n : ℕ} → refused n ≡ looked (watched_at ts cs) → projection_door ts cs p ≡ refused n
  unfolding projection_door
  projection_stopped w = rw (unwatched ts cs w)

  module _ {t : Table} {c : Common} (w : done (t, c) ≡ looked (watched_at ts cs)) where
    pub projection_below : p < c.base → projection_door ts cs p ≡ refused 104
    unfolding projection_door
    projection_below l = rw (found common_at ts cs w, lt-ltb _ _ l)

    module _ (l : c.base ≤ p) where
      pub projection_beyond : c.base + c.count < p → projection_door ts cs p ≡ refused 104
      unfolding projection_door
      projection_beyond m =
          let b : L (common_of c) < p = omega (arith, length_there ts cs w) in
          rw (found common_at ts cs w, le-ltb _ _ l, lt-ltb _ _ b)

      module _ (m : p ≤ c.base + c.count) where
        within : p ≤ L (common_of c)
        within = omega (arith, length_there ts cs w)

        pub projection_asked : Projectable t c p
        projection_asked = record {
          table = watched_checked ts cs w;
          common = watched_given ts cs w;
          from = l;
          to = within;
        }

        pub projection_there : projection_door ts cs p ≡ done (projection (table_of t) (common_of c) p)
        unfolding projection_door
        projection_there = rw (found common_at ts cs w, le-ltb _ _ l, le-ltb _ _ within)

module _ (ts cs : List ℕ) (p time : ℕ) where
  pub bound_stopped : {n : ℕ} → refused n ≡ looked (watched_at ts cs) → bound_door ts cs p time ≡ refused n
  unfolding bound_door
  bound_stopped w = rw (unwatched ts cs w)

  module _ {t : Table} {c : Common} (w : done (t, c) ≡ looked (watched_at ts cs)) where
    pub bound_late : 2 ^ 48 ≤ time → bound_door ts cs p time ≡ refused 3
    unfolding bound_door
    bound_late l = rw (found common_at ts cs w, le-leb (2 ^ 48) time l)

    module _ (soon : time < 2 ^ 48) where
      pub bound_below : p ≤ c.base → bound_door ts cs p time ≡ refused 104
      unfolding bound_door
      bound_below l = rw (found common_at ts cs w, lt-leb (2 ^ 48) time soon, le-leb _ _ l)

      module _ (l : c.base < p) where
        pub bound_beyond : c.base + c.count < p → bound_door ts cs p time ≡ refused 104
        unfolding bound_door
        bound_beyond m =
            let b : L (common_of c) < p = omega (arith, length_there ts cs w) in
            rw (found common_at ts cs w, lt-leb (2 ^ 48) time soon, lt-leb _ _ l, lt-ltb _ _ b)

        module _ (m : p ≤ c.base + c.count) where
          kept_there : p ≤ L (common_of c)
          kept_there = omega (arith, length_there ts cs w)

          pub bound_asked : Occupied t c p time
          bound_asked = record {
            table = watched_checked ts cs w;
            common = watched_given ts cs w;
            past = l;
            to = kept_there;
            soon = omega arith;
          }

          at_breaker : bound_door ts cs p time ≡ (refuse 9 naming breaker (table_of t) (common_of c) p time else done 0)
          unfolding bound_door
          at_breaker = rw (found common_at ts cs w, lt-leb (2 ^ 48) time soon, lt-leb _ _ l, le-ltb _ _ kept_there)

          pub bound_met : None ≡ breach_of (breaker (table_of t) (common_of c) p time) → bound_door ts cs p time ≡ done 0
          bound_met e = at_breaker ∙ by (breaker (table_of t) (common_of c) p time) e
            where
              by : (o : Option ℕ) → None ≡ breach_of o → refuse◌naming◌else◌ {A = ℕ} 9 o (done 0) ≡ done 0
              by none e = cc
              by (some i) e = let z : ◌≡◌ {A = ℕ} 0 1 = cc in absurd (omega arith)

          pub bound_broken : {i : ℕ} → Some i ≡ breach_of (breaker (table_of t) (common_of c) p time) → bound_door ts cs p time ≡ refused_by 9 i
          bound_broken {i} e = at_breaker ∙ by (breaker (table_of t) (common_of c) p time) e
            where
              by : (o : Option ℕ) → Some i ≡ breach_of o → refuse◌naming◌else◌ {A = ℕ} 9 o (done 0) ≡ refused_by 9 i
              by none e = let z : ◌≡◌ {A = ℕ} 0 1 = cc in absurd (omega arith)
              by (some j) e = cc

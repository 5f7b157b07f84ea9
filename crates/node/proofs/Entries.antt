-- The entry at a place of a round, or none past its list.
use mathlib.Core.Path.{◌≡◌, sym, ap, ◌∙◌}
use mathlib.Core.Option.{Option, none}
use mathlib.Core.Logic.{⊎_elim}
use Prim.Native.Nat.{ℕ, ◌≤◌, ◌<◌}
use native.Mathlib.Omega.{arith}
use lib.ListN.{length, get_or, get_or-eq_default}
use Rattle.laws.specs.Lists.{rows}
use Rattle.laws.proofs.Lists.{length_rows, rows_at}
use Rattle.laws.proofs.Tests.{lt_or_ge}
use Rattle.rules.specs.Judge as rules
use Rattle.std.specs.Prelude as code
use Rattle.std.specs.Prelude.{None}
use Rattle.round.specs.declared.Report.{Report}
use Rattle.round.proofs.Same.{entry_here}
use Rattle.round.specs.declared.Round.{Round}
use Rattle.round.specs.Round.{entry_of, entry_as, no_entry, round_of}

module _ (q : Round) (n : ℕ) where
  abbrev Says : code.Option Report → Type 0
  Says x = x ≡ entry_as (get_or (round_of q).entries n none)

  abbrev entry_at : ℕ → Option rules.Report
  entry_at i = entry_of (get_or q.entries i no_entry)

  pub past : q.entered ≤ n → Says None
  past h = ap entry_as (sym (get_or-eq_default (rows entry_at q.entered) none (omega (arith, length_rows entry_at q.entered))))

  pub there : n < q.entered → Says (get_or q.entries n no_entry)
  there h = sym (entry_here (get_or q.entries n no_entry)) ∙ ap entry_as (sym (rows_at entry_at q.entered n none h))

  pub outside : length q.entries ≡ 15 → 15 ≤ n → Says None
  outside l h =
      let e : get_or q.entries n no_entry ≡ no_entry = get_or-eq_default q.entries no_entry (omega arith) in
      ⊎_elim (λ k. sym e ∙ there k) past (lt_or_ge n q.entered)

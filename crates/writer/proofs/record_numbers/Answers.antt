-- All numbers of a record: those so far, with those of the entries still to come behind them.
use mathlib.Core.Path.{◌≡◌, sym, ap, ◌∙◌}
use mathlib.Core.Option.{Option}
use mathlib.Core.List.{List, [], ◌++◌, map, foldr, append_assoc, append-nil}
use Prim.Native.Nat.{ℕ, ◌+◌, ◌≤◌, ◌<◌}
use native.Mathlib.Omega.{arith}
use borrow.Author.Rules.{rules}
use lib.ListN.{length, take, drop, get_or, length-append, drop_of_length-le}
use Rattle.std.specs.Prelude as code
use Rattle.std.proofs.lemmas.List.{drop_more, length-take}
use Rattle.rules.specs.Judge as rounds
use Rattle.rules.specs.Written.{entry_numbers, numbers_of}
use Rattle.round.specs.declared.Report.{Report}
use Rattle.round.specs.declared.Round.{Round}
use Rattle.round.specs.Round.{entry_of, round_of, no_entry}
use Rattle.writer.specs.Writing.{head_numbers}
use Rattle.writer.proofs.Filling.{numbers_split, entries_listed, entry_before, entry_count, head_count}
use Rattle.writer.proofs.record_numbers.Invariants.{Inv}
use Rattle.writer.proofs.record_numbers.Goals as goal

inv_start : (q : Round) {ns : List ℕ} → length q.entries ≡ 15 → (q.listed ≤ 64) × (q.entered ≤ 15) → ns ≡ head_numbers q → Inv q (take q.entered q.entries) ns 0
inv_start q l h e = record {
  room = omega (arith, head_count q, ap length e, length-take q.entered q.entries);
  to_do =
      numbers_split q ∙ ap (λ (es : List (Option rounds.Report)). head_numbers q ++ foldr entry_numbers [] es) (entries_listed q (omega arith))
      ∙ ap (λ (ns : List ℕ). ns ++ foldr entry_numbers [] (map entry_of (take q.entered q.entries))) (sym e);
}

module _ {q : Round} {es : List (code.Option Report)} {ns : List ℕ} {i : ℕ} (v : Inv q es ns i) where
  abbrev numbers_from : List (code.Option Report) → List ℕ
  numbers_from l = foldr entry_numbers [] (map entry_of l)

  inv_done : length es ≤ i → ns ≡ numbers_of (round_of q)
  inv_done h = sym (v.to_do ∙ ap (λ (l : List (code.Option Report)). ns ++ numbers_from l) (drop_of_length-le es h) ∙ append-nil ns)

  module _ (h : i < length es) where
    inv_room : length ns ≤ 187
    inv_room = omega (arith, v.room)

    inv_more : {next : List ℕ} → next ≡ ns ++ entry_numbers (entry_of (get_or es i no_entry)) [] → Inv q es next (i + 1)
    inv_more {next} e =
        let x = entry_of (get_or es i no_entry) in
        record {
          room = rw (e, length-append) (omega (arith, v.room, entry_count x []));
          to_do =
              v.to_do ∙ ap (λ (l : List (code.Option Report)). ns ++ numbers_from l) (drop_more es i no_entry h)
              ∙ ap (λ (l : List ℕ). ns ++ l) (entry_before x (numbers_from (drop (i + 1) es)))
              ∙ sym (append_assoc ns (entry_numbers x []) (numbers_from (drop (i + 1) es)))
              ∙ ap (λ (l : List ℕ). l ++ numbers_from (drop (i + 1) es)) (sym e);
        }

pub loop-e-init : goal.loop-e-init
loop-e-init c = inv_start c.args.q (search rules) c.requires c.head-numbers.ensures

-- A table and a record read from bytes into lent words: from what the readers told to what the doors say.
use mathlib.Core.Path.{◌≡◌, refl, sym, ap, ◌∙◌}
use mathlib.Core.List.{List}
use Prim.Native.Nat.{ℕ, ◌*◌, ◌/◌, ◌%◌, ◌≤◌}
use native.Mathlib.Omega.{arith}
use borrow.Author.Tests.{eq-eqb, ne_eqb}
use lib.ListN.{length, drop}
use Rattle.laws.specs.Lists.{over}
use Rattle.rules.specs.Answer.{Answer, done, refused, refused_by}
use Rattle.rules.specs.Table as tables
use Rattle.rules.specs.Judge as rules
use Rattle.rules.specs.Numbers.{Read}
use Rattle.rules.specs.Written.{read_record}
use Rattle.rules.specs.Session.{read_table}
use Rattle.refusal.proofs.Answers.{done_same, done_refused, refused_same}
use Rattle.table.specs.declared.Table.{Table}
use Rattle.round.specs.declared.Round.{Round}
use Rattle.round.specs.Round.{round_as, releases_of, entries_of}
use Rattle.words.specs.Table.{table_words}
use Rattle.lists.specs.Lists.{release_words, entry_words}
use Rattle.number.specs.Numbers.{placed}
use Rattle.reader.specs.Records.{within_read}
use Rattle.reader.proofs.Given.{Given, given_stands, record_given, record_refused}
use Rattle.intake.specs.Table.{table_read}
use Rattle.cabinet.specs.Replies.{left, used_of}
use Rattle.cabinet.specs.Records.{read_record_door, releases_over, entries_over, read_table_door, table_over}

module _ (bs ts : List ℕ) where
  abbrev Takes : Answer ℕ → List ℕ → Answer (Read tables.Table) → Type 0
  Takes r after a = (r ≡ used_of bs a) × (after ≡ left table_over ts a)

  pub table_unfit : (length ts ≡ 259 → ⊥) → read_table_door bs ts ≡ refused 100
  unfolding read_table_door
  table_unfit h = rw (ne_eqb (length ts) 259 h)

  module _ (l : length ts ≡ 259) where
    at_table : read_table_door bs ts ≡ read_table bs
    unfolding read_table_door
    at_table = rw (eq-eqb (length ts) 259 l)

    pub table_not_read : {n : ℕ} → refused n ≡ table_read bs (read_table bs) → Takes (refused n) ts (read_table_door bs ts)
    table_not_read {n} e = rw at_table (by (read_table bs) e)
      where
        by : (a : Answer (Read tables.Table)) → refused n ≡ table_read bs a → Takes (refused n) ts a
        by (done x) e = absurd (done_refused (sym e))
        by (refused k) e = (ap refused (refused_same e), refl)
        by (refused_by k i) e = (ap refused (refused_same e), refl)

    pub table_was_read : {t : Table} {used : ℕ} → done (t, used) ≡ table_read bs (read_table bs) → Takes (done used) (table_words t) (read_table_door bs ts)
    table_was_read {t} {used} e = rw at_table (by (read_table bs) e)
      where
        by : (a : Answer (Read tables.Table)) → done (t, used) ≡ table_read bs a → Takes (done used) (table_words t) a
        by (done x) e = (ap (λ (z : Table × ℕ). done z.1) (done_same e), ap (λ (z : Table × ℕ). table_words z.0) (done_same e))
        by (refused k) e = absurd (done_refused e)
        by (refused_by k i) e = absurd (done_refused e)

module _ (bs rs es : List ℕ) where
  abbrev door : Answer (Read rules.Round)
  door = read_record_door bs rs es

  pub releases_unfit : (length rs % 2 ≡ 0 → ⊥) → door ≡ refused 100
  unfolding read_record_door
  releases_unfit h = rw (ne_eqb (length rs % 2) 0 h)

  module _ (h : length rs % 2 ≡ 0) where
    pub entries_unfit : (length es % 4 ≡ 0 → ⊥) → door ≡ refused 100
    unfolding read_record_door
    entries_unfit l = rw (eq-eqb (length rs % 2) 0 h, ne_eqb (length es % 4) 0 l)

    module _ (l : length es % 4 ≡ 0) where
      at_record : door ≡ read_record (length rs / 2) (length es / 4) bs
      unfolding read_record_door
      at_record = rw (eq-eqb (length rs % 2) 0 h, eq-eqb (length es % 4) 0 l)

      pub record_not_read : {n : ℕ} → refused n ≡ within_read (length rs / 2) (length es / 4) (drop 0 bs) → door ≡ refused n
      record_not_read e = at_record ∙ record_refused (length rs / 2) (length es / 4) bs e

      module _ {q : Round} {used : ℕ} (d : done (q, used) ≡ within_read (length rs / 2) (length es / 4) (drop 0 bs)) where
        v : Given (length rs / 2) (length es / 4) bs q used
        v = record_given (length rs / 2) (length es / 4) bs d

        pub releases_fit : (q.listed ≤ 64) × (2 * q.listed ≤ length rs)
        releases_fit =
            let n : q.listed ≡ length v.what.value.releases = ap (λ (q : Round). q.listed) v.holds in
            (omega (arith, v.few.listed.few), omega (arith, v.few.listed.fits))

        pub entries_fit : (q.entered ≤ 15) × (4 * q.entered ≤ length es)
        entries_fit =
            let n : q.entered ≡ length v.what.value.entries = ap (λ (q : Round). q.entered) v.holds in
            (omega (arith, v.few.entered.few), omega (arith, v.few.entered.fits))

        pub record_read : done (q, used) ≡ placed round_as bs door
        record_read = rw at_record d

        pub releases_put : over (release_words (releases_of q)) rs ≡ left (releases_over rs) rs door
        releases_put = rw (at_record ∙ v.is) (ap (λ (k : rules.Round). over (release_words k.releases) rs) (given_stands v))

        pub entries_put : over (entry_words (entries_of q)) es ≡ left (entries_over es) es door
        entries_put = rw (at_record ∙ v.is) (ap (λ (k : rules.Round). over (entry_words k.entries) es) (given_stands v))

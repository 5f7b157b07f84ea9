-- What follows from the contracts alone. Of a turn: the reply is one, the common record is again one that was given back, the classes are digits, the bytes
-- used lie within those lent, and 18 is told of few bytes only. Of a line that is gathered, and of the window: the reply is one, and so is what is left in
-- everything lent.
use mathlib.Core.Path.{◌≡◌, refl, sym, ap, subst, ◌∙◌}
use mathlib.Core.List.{List}
use Prim.Native.Nat.{ℕ, ◌-◌, ◌≤◌, ◌<◌}
use native.Mathlib.Omega.{arith}
use lib.ListN.{length, take, drop}
use Rattle.rules.specs.Answer.{Answer, done, refused, refused_by}
use Rattle.rules.specs.Judge as rules
use Rattle.rules.specs.Close.{Closed, close}
use Rattle.rules.specs.Numbers.{Read, after}
use Rattle.rules.specs.Written.{read_record}
use Rattle.rules.specs.Sound.{Sound}
use Rattle.rules.proofs.Closing.{close_keeps, close_gives}
use Rattle.table.specs.declared.Table.{Table}
use Rattle.table.specs.Table.{table_of, Checked}
use Rattle.table.proofs.Facts.{checked_fit, ranges}
use Rattle.common.specs.declared.Common.{Common}
use Rattle.common.specs.Common.{common_of, Given}
use Rattle.common.proofs.Records.{given, numbers}
use Rattle.laws.specs.Lists.{over}
use Rattle.lines.specs.Text.{PutWithin}
use Rattle.lines.specs.Lines.{Digits}
use Rattle.lines.proofs.Classes.{verdict_digits}
use Rattle.lines.proofs.Settled.{put_settled, put_buffer_settled}
use Rattle.intake.proofs.Final.{Short}
use Rattle.std.specs.Prelude.{Result}
use Rattle.refusal.specs.declared.Refusal.{Refusal}
use Rattle.refusal.specs.Refusal.{answer_of}
use Rattle.refusal.proofs.Same.{settled}
use Rattle.refusal.proofs.Answers.{done_same, done_refused, refused_same}
use Rattle.turn.specs.declared.Turn.{Turn}
use Rattle.turn.specs.Turn.{Turned, closed_by, turn_of, turn_read}
use Rattle.turn.specs.Gather.{Countable, Printable}
use Rattle.turn.proofs.Final.{turn_window}

-- what is known of a turn that was done
pub record SoundTurn (t : Table) (x : Turned) : Type 0 where
  pub common : Sound (table_of t) x.closed.common
  pub classes : Digits x.closed.reply.classes

abbrev Good : Table → Answer (Read Turned) → Type 0
Good t (done x) = SoundTurn t x.value
Good t (refused n) = Unit {0}
Good t (refused_by n i) = Unit {0}

module _ (t : Table) (c : Common) (k : Checked t) (g : Given t c) where
  good_close : (q : rules.Round) (s : List ℕ) (b : Answer Closed) → close (table_of t) (common_of c) q ≡ b → Good t (closed_by q.r s b)
  good_close q s (done y) e = record {
    common = (close_keeps q (checked_fit k) g.sound e).sound;
    classes = subst (λ (y : Closed). Digits y.reply.classes) (sym (close_gives (table_of t) (common_of c) q e)) (verdict_digits (table_of t) (common_of c) q);
  }
  good_close q s (refused n) e = tt
  good_close q s (refused_by n i) e = tt

  good_turn : (s : List ℕ) (a : Answer (Read rules.Round)) → Good t (after a (λ q s. closed_by q.r s (close (table_of t) (common_of c) q)))
  good_turn s (done q) = good_close q.value q.rest (close (table_of t) (common_of c) q.value) refl
  good_turn s (refused n) = tt
  good_turn s (refused_by n i) = tt

  good : (s : List ℕ) → Good t (turn_of (table_of t) (common_of c) s)
  unfolding turn_of
  good s = good_turn s (read_record 64 15 s)

pub next_turn_settled : (t : Table) (c : Common) (s : List ℕ) {r q : Result Turn Refusal} → answer_of r ≡ turn_read s (turn_of (table_of t) (common_of c) s)
    → answer_of q ≡ turn_read s (turn_of (table_of t) (common_of c) s) → r ≡ q
next_turn_settled t c s p e = settled p e

module _ (t : Table) (c : Common) (s : List ℕ) {x : Turn} (p : done x ≡ turn_read s (turn_of (table_of t) (common_of c) s)) where
  pub turn_given : Checked t → Given t c → Given t x.common
  turn_given k g = by (turn_of (table_of t) (common_of c) s) p (good t c k g s)
    where
      by : (a : Answer (Read Turned)) → done x ≡ turn_read s a → Good t a → Given t x.common
      by (done y) e h = subst (λ (r : Turn). Given t r.common) (sym (done_same e)) (given h.common)
      by (refused n) e h = absurd (done_refused e)
      by (refused_by n i) e h = absurd (done_refused e)

  pub turn_digits : Checked t → Given t c → Digits x.classes
  turn_digits k g = by (turn_of (table_of t) (common_of c) s) p (good t c k g s)
    where
      by : (a : Answer (Read Turned)) → done x ≡ turn_read s a → Good t a → Digits x.classes
      by (done y) e h = subst (λ (r : Turn). Digits r.classes) (sym (done_same e)) h.classes
      by (refused n) e h = absurd (done_refused e)
      by (refused_by n i) e h = absurd (done_refused e)

  pub turn_within : x.used ≤ length s
  turn_within = by (turn_of (table_of t) (common_of c) s) p
    where
      by : (a : Answer (Read Turned)) → done x ≡ turn_read s a → x.used ≤ length s
      by (done y) e = omega (arith, ap (λ (r : Turn). r.used) (done_same e))
      by (refused n) e = absurd (done_refused e)
      by (refused_by n i) e = absurd (done_refused e)

pub turn_short : (t : Table) (c : Common) (s : List ℕ) {n : ℕ} → refused n ≡ turn_read s (turn_of (table_of t) (common_of c) s) → n ≡ 18 → length s < 1719
turn_short t c s {n} p w = by (turn_of (table_of t) (common_of c) s) p ((turn_window (table_of t) (common_of c)).short s)
  where
    by : (a : Answer (Read Turned)) → refused n ≡ turn_read s a → Short 1719 s a → length s < 1719
    by (done x) e h = absurd (done_refused (sym e))
    by (refused m) e h = h (sym (refused_same e) ∙ w)
    by (refused_by m i) e h = h (sym (refused_same e) ∙ w)

-- what was given back can be printed
pub given_countable : {t : Table} {c : Common} → Given t c → Countable c
given_countable g =
    let n = numbers g in
    record { places = n.places; few = n.few; last = omega (arith, n.length_below) }

pub turn_printable : (t : Table) (c : Common) (s : List ℕ) {x : Turn} → done x ≡ turn_read s (turn_of (table_of t) (common_of c) s) → Checked t → Given t c → Printable t.nodes x
turn_printable t c s p k g =
    record { nodes_few = (ranges k).nodes; digits = turn_digits t c s p k g; counts = given_countable (turn_given t c s p k g) }

-- one law for the three lines that are gathered, since their contracts differ in the text alone
module _ {output xs output' output'' : List ℕ} {at r q : ℕ} (e : PutWithin 8192 output at xs output' r) (d : PutWithin 8192 output at xs output'' q) where
  pub gathered_settled : r ≡ q
  gathered_settled = put_settled e.put d.put

  pub output_settled : output' ≡ output''
  output_settled = put_buffer_settled e.put d.put

pub line_settled : (line xs : List ℕ) {r s : List ℕ} → r ≡ over xs line → s ≡ over xs line → r ≡ s
line_settled line xs e d = e ∙ sym d

pub shift_settled : (bytes : List ℕ) (from to : ℕ) {r s : List ℕ} → r ≡ over (take (to - from) (drop from bytes)) bytes
    → s ≡ over (take (to - from) (drop from bytes)) bytes → r ≡ s
shift_settled bytes from to e d = e ∙ sym d

-- A station at the doors: from what was looked at and answered by value to what its doors say and leave.
use mathlib.Core.Path.{◌≡◌, sym, ap, ◌∙◌}
use mathlib.Core.List.{List}
use Prim.Native.Nat.{ℕ, ◌+◌, ◌≤◌}
use native.Mathlib.Omega.{arith}
use lib.ListN.{length}
use lib.Seq.{sets}
use Rattle.rules.specs.Answer.{Answer, done, refused, ◌>>=◌}
use Rattle.rules.specs.Close.{Closed, close}
use Rattle.refusal.specs.Refusal.{told_as}
use Rattle.table.specs.declared.Table.{Table}
use Rattle.table.specs.Table.{table_of, Checked}
use Rattle.table.proofs.Facts.{ranges}
use Rattle.round.specs.declared.Round.{Round}
use Rattle.round.specs.Round.{round_of}
use Rattle.common.specs.declared.Common.{Common}
use Rattle.common.specs.Common.{common_of, Given}
use Rattle.close.specs.declared.Closing.{Closing}
use Rattle.close.specs.Close as closes
use Rattle.close.proofs.Settled.{reply_given}
use Rattle.lists.specs.Lists.{round_at, told_round}
use Rattle.lists.proofs.Cut.{close_cut}
use Rattle.states.specs.Common.{common_words, common_at}
use Rattle.states.proofs.Sizes.{given_sizes}
use Rattle.states.proofs.Common.{words_long}
use Rattle.cabinet.specs.Replies.{left}
use Rattle.cabinet.specs.Looks.{watched_at, looked}
use Rattle.cabinet.specs.Stations.{close_station_door, words_of}
use Rattle.cabinet.proofs.Replies.{kept, put, written_whole}
use Rattle.cabinet.proofs.Rounds.{round_found, round_stopped}
use Rattle.cabinet.proofs.Watching.{found, unwatched, watched_checked, watched_given, watched_long}

module _ (ts cs : List ℕ) (r : ℕ) (rs es : List ℕ) where
  abbrev door : Answer Closed
  door = close_station_door ts cs r rs es

  abbrev Says : Answer Closing → List ℕ → Type 0
  Says s after = (s ≡ told_as closes.closed_as door) × (after ≡ left (λ k. words_of k.common) cs door)

  pub station_stopped : {n : ℕ} → refused n ≡ looked (watched_at ts cs) → door ≡ refused n
  unfolding close_station_door
  station_stopped w = rw (unwatched ts cs w)

  module _ {t : Table} {c : Common} (w : done (t, c) ≡ looked (watched_at ts cs)) where
    at_round : door ≡ (round_at r rs es >>= λ q. close (table_of t) (common_of c) q)
    unfolding close_station_door
    at_round = rw (found common_at ts cs w)

    pub station_ready : Checked t × Given t c
    station_ready = (watched_checked ts cs w, watched_given ts cs w)

    pub station_room : 0 + 326 ≤ length cs
    station_room = omega (arith, watched_long ts cs w)

    pub station_unlisted : {n : ℕ} → refused n ≡ told_round (round_at r rs es) → door ≡ refused n
    station_unlisted d = at_round ∙ rw (round_stopped r rs es d)

    module _ {q : Round} (d : done q ≡ told_round (round_at r rs es)) where
      at_close : door ≡ close (table_of t) (common_of c) (round_of q)
      at_close =
          let f = round_found r rs es d in
          at_round ∙ rw f.1
          (sym (ap (λ (q : Round). close (table_of t) (common_of c) (round_of q)) f.2 ∙ close_cut (table_of t) (ranges (watched_checked ts cs w)).nodes (common_of c) f.0))

      pub station_refused : {n : ℕ} → refused n ≡ closes.closing (close (table_of t) (common_of c) (round_of q)) → Says (refused n) cs
      station_refused e = rw at_close (e, kept closes.closed_as (λ k. words_of k.common) cs (close (table_of t) (common_of c) (round_of q)) e)

      pub station_closed : {k : Closing} → done k ≡ closes.closing (close (table_of t) (common_of c) (round_of q)) → {after : List ℕ}
          → after ≡ sets cs 0 (common_words k.common) → Says (done k) after
      station_closed {k} e {after} p =
          let v : Given t k.common = reply_given t c q (watched_checked ts cs w) (watched_given ts cs w) e in
          let whole : after ≡ common_words k.common = written_whole cs (common_words k.common) (watched_long ts cs w ∙ sym (words_long (given_sizes v))) p in
          rw at_close (e, whole ∙ put closes.closed_as (λ (k : Closing). common_words k.common) cs (close (table_of t) (common_of c) (round_of q)) e)

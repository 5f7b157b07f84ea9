-- What an accepted record keeps.
use mathlib.Core.Path.{◌≡◌, refl, sym}
use mathlib.Core.Bool.{true, false}
use mathlib.Core.Option.{none, some}
use Prim.Native.Nat.{ℕ, zero, suc, ◌+◌, ◌-◌, ◌^◌, ◌≤◌, ◌<◌}
use native.Mathlib.Omega.{arith}
use lib.ListN.{length, take, drop, get_or, replicate, length-drop}
use lib.Seq.{get_or-drop}
use borrow.Author.Tests.{ltb-false, leb-false}
use Rattle.laws.specs.Sums.{total}
use Rattle.laws.proofs.Tests.{none_of, none≢some}
use Rattle.rules.specs.Answer.{done}
use Rattle.rules.specs.Table.{Table}
use Rattle.rules.specs.Common.{Common, no_job, fresh, L}
use Rattle.rules.specs.Judge.{Round, numbers, counts, new_O, new_B, new_W}
use Rattle.rules.specs.Close.{Closed, close, too_late, too_soon, ill_formed, too_early, too_many, judged, applied, verdict}
use Rattle.rules.specs.Sound.{Sound}
use Rattle.rules.proofs.Answers.{passed, same_done}
use Rattle.rules.proofs.Tables.{Fit, timeout_small}
use Rattle.rules.proofs.Judging.{O_rises, O_within, O_reaches, B_rises, B_within, W_rises, W_within}
use Rattle.rules.proofs.Releasing.{Released, releases_keep, releases_sound, E_rises}

-- the tests that an accepted record passed
pub record Accepted (tab : Table) (c : Common) (q : Round) : Type 0 where
  pub in_time : too_late q.r ≡ false
  pub apart : too_soon tab c q.r ≡ false
  pub formed : ill_formed tab q ≡ false
  pub spaced : too_early tab q.r c.E q.releases ≡ false
  pub fits : too_many tab c q ≡ false

module _ (tab : Table) (c : Common) (q : Round) where
  -- what it gives
  abbrev pub closed : Closed
  closed = record { common = applied tab c q; reply = verdict tab c q }

  ladder : {k : Closed} → close tab c q ≡ done k → Accepted tab c q × (k ≡ closed)
  unfolding close
  ladder h =
      let a = passed 3 (too_late q.r) h in
      let b = passed 14 (too_soon tab c q.r) a.1 in
      let d = passed 15 (ill_formed tab q) b.1 in
      let e = passed 16 (too_early tab q.r c.E q.releases) d.1 in
      let f = passed 17 (too_many tab c q) e.1 in
      (record { in_time = a.0; apart = b.0; formed = d.0; spaced = e.0; fits = f.0 }, sym (same_done f.1))

  pub close_gives : {k : Closed} → close tab c q ≡ done k → k ≡ closed
  close_gives h = (ladder h).1

pub accepted : {tab : Table} {c : Common} {q : Round} {k : Closed} → close tab c q ≡ done k → Accepted tab c q
accepted {tab} {c} {q} h = (ladder tab c q h).0

pub accepts : {tab : Table} {c : Common} {q : Round} → Accepted tab c q → close tab c q ≡ done (closed tab c q)
unfolding close
accepts a = rw (a.in_time, a.apart, a.formed, a.spaced, a.fits)

-- what does not fall: the base, the next start, the offset, the length; and the order up to the new offset stays
pub record Onward (c d : Common) : Type 0 where
  pub base : c.B ≤ d.B
  pub start : c.W ≤ d.W
  pub offset : c.O ≤ d.O
  pub grows : L c ≤ L d
  pub order : take (d.O - d.B) d.kept ≡ take (d.O - d.B) (drop (d.B - c.B) c.kept)

-- what an applied record gives, whether it would be accepted or not
module _ (tab : Table) (c : Common) (q : Round) where
  pub applied_keeps : Released (judged tab c q) (applied tab c q) (length q.releases)
  unfolding applied
  applied_keeps = releases_keep tab q.r (judged tab c q) q.releases

  pub applied_base : (applied tab c q).B ≡ new_B tab c q.r q.entries
  unfolding judged
  applied_base = applied_keeps.base

  pub applied_start : (applied tab c q).W ≡ new_W tab c q.r q.entries
  unfolding judged
  applied_start = applied_keeps.start

  pub applied_offset : (applied tab c q).O ≡ new_O tab c q.r q.entries
  unfolding judged
  applied_offset = applied_keeps.offset

  pub applied_last : (applied tab c q).last ≡ some q.r
  unfolding judged
  applied_last = applied_keeps.last

  -- an entry that counts is reached by the new offset
  pub applied_reaches : (i : ℕ) → counts tab c q.r (get_or q.entries i none) ≡ true
      → (numbers (get_or q.entries i none)).progress + (numbers (get_or q.entries i none)).run ≤ (applied tab c q).O
  applied_reaches i h = omega (arith, applied_offset, O_reaches tab c q.r q.entries i h)

  module _ (b : c.B ≤ c.O) (o : c.O ≤ L c) where
    pub judged_between : ((judged tab c q).B ≤ (judged tab c q).O) × ((judged tab c q).O ≤ L c)
    unfolding judged
    judged_between = (B_within tab c q.r q.entries b, O_within tab c q.r o q.entries)

    -- what is dropped stands up to the new base
    pub judged_long : L (judged tab c q) ≡ L c
    unfolding judged
    judged_long = simp length-drop (omega (arith, B_rises tab c q.r q.entries, judged_between))

    pub applied_long : L (applied tab c q) ≡ L c + length q.releases
    applied_long = omega (arith, applied_keeps.base, applied_keeps.more, judged_long)

    pub applied_between : ((applied tab c q).B ≤ (applied tab c q).O) × ((applied tab c q).O ≤ L (applied tab c q))
    applied_between =
        let k = applied_keeps in
        (omega (arith, k.base, k.offset, judged_between), omega (arith, k.offset, applied_long, judged_between))

    pub applied_onward : Onward c (applied tab c q)
    unfolding judged
    applied_onward =
        let k = applied_keeps in
        record {
          base = omega (arith, k.base, B_rises tab c q.r q.entries);
          start = omega (arith, k.start, W_rises tab c q.r q.entries);
          offset = omega (arith, k.offset, O_rises tab c q.r q.entries);
          grows = omega (arith, applied_long);
          order = rw (k.base, k.offset) (k.front (omega (arith, judged_between, judged_long)));
        }

module _ {tab : Table} {c : Common} (f : Fit tab) (s : Sound tab c) (q : Round) where
  pub judged_sound : q.r < 2 ^ 48 → Sound tab (judged tab c q)
  unfolding judged
  judged_sound l =
      let b = judged_between tab c q s.base s.offset in
      let n = judged_long tab c q s.base s.offset in
      let d : ℕ = new_B tab c q.r q.entries - c.B in
      let e : length (drop d c.kept) ≡ length c.kept - d = length-drop d c.kept in
      record {
        base = b.0;
        offset = omega (arith, b.1, n);
        few = omega (arith, s.few);
        known = λ k h. rw (get_or-drop d c.kept k no_job) (s.known (d + k) (omega arith));
        places = s.places;
        released = omega (arith, n, s.released);
        E_below = s.E_below;
        W_below = omega (arith, s.W_below, W_within tab c q.r q.entries, timeout_small f);
        last_below = λ t h. let e : q.r ≡ t = cc in omega arith;
      }

  pub applied_sound : Accepted tab c q → Sound tab (applied tab c q)
  unfolding applied judged ill_formed
  applied_sound a =
      let l : q.r < 2 ^ 48 = leb-false _ _ a.in_time in
      let n = judged_long tab c q s.base s.offset in
      let w : L c + length q.releases ≤ new_B tab c q.r q.entries + 256 = ltb-false _ _ a.fits in
      releases_sound f l q.releases (judged_sound l) (omega arith) (none_of _ a.formed 3) a.spaced

-- what a close keeps
pub record Kept (tab : Table) (c d : Common) : Type 0 where
  pub sound : Sound tab d
  pub onward : Onward c d
  pub earliest : (i : ℕ) → get_or c.E i 0 ≤ get_or d.E i 0

earliest_rises : (tab : Table) (c : Common) (q : Round) → too_early tab q.r c.E q.releases ≡ false → (i : ℕ) → get_or c.E i 0 ≤ get_or (applied tab c q).E i 0
unfolding applied judged
earliest_rises tab c q = E_rises tab q.r (judged tab c q) q.releases

pub applied_kept : {tab : Table} {c : Common} {q : Round} → Fit tab → Sound tab c → Accepted tab c q → Kept tab c (applied tab c q)
applied_kept {tab} {c} {q} f s a = record {
  sound = applied_sound f s q a;
  onward = applied_onward tab c q s.base s.offset;
  earliest = earliest_rises tab c q a.spaced;
}

pub close_keeps : {tab : Table} {c : Common} (q : Round) {k : Closed} → Fit tab → Sound tab c → close tab c q ≡ done k → Kept tab c k.common
close_keeps {tab} {c} q f s h = rw (close_gives tab c q h) (applied_kept f s (accepted h))

zeros : (n i : ℕ) → get_or (replicate n 0) i 0 < 2 ^ 49
zeros zero i = omega arith
zeros (suc n) zero = omega arith
zeros (suc n) (suc i) = zeros n i

pub fresh_sound : (tab : Table) → Sound tab fresh
unfolding total
fresh_sound tab = record {
  base = omega arith;
  offset = omega arith;
  few = omega arith;
  known = λ k h. absurd (omega arith);
  places = refl;
  released = omega arith;
  E_below = zeros 64;
  W_below = omega arith;
  last_below = λ l h. none≢some h;
}

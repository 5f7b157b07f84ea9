-- A call with a record that is cut to its places is the call with the record. Where a list is longer than the places, both are refused alike: by 15, or by what
-- comes before it and reads no more than r and an entry within the places.
use mathlib.Core.Path.{◌≡◌, sym, ap, ap₂, ◌∙◌}
use mathlib.Core.Bool.{true, not}
use mathlib.Core.Logic.{◌⊎◌, inl, inr}
use mathlib.Core.Option.{Option, none}
use mathlib.Core.List.{List, [], map}
use Prim.Native.Nat.{ℕ, ◌≤◌, ◌<◌}
use native.Mathlib.Omega.{arith}
use borrow.Author.Tests.{lt-ltb, le-ltb, ne_eqb}
use lib.ListN.{length, take, get_or, length-map, get_or-map}
use lib.Seq.{take_all, get_or-take, length-take-le}
use Rattle.laws.specs.Tests.{any_of, maybe}
use Rattle.laws.specs.Lists.{rows, pad}
use Rattle.laws.proofs.Tests.{lt_or_ge}
use Rattle.laws.proofs.Lists.{length_rows, rows_at, getD_pad}
use Rattle.rules.specs.Answer.{Answer, done, refused, refuse◌if◌else◌, ◌>>=◌}
use Rattle.rules.specs.Table.{Table}
use Rattle.rules.specs.Common.{Common}
use Rattle.rules.specs.Judge as rules
use Rattle.rules.specs.Close.{Closed, too_late, too_soon, ill_formed, close}
use Rattle.rules.specs.Node.{Node, left_behind, other_round, as_sent, node_closed, node_close}
use Rattle.rules.specs.Written.{write_record}
use Rattle.round.specs.Round.{release_of, entry_of, no_release, no_entry, round_of, release_as, entry_as}
use Rattle.round.proofs.Same.{entry_there, round_there}
use Rattle.lists.specs.Lists.{release_places, entry_places, round_cut}

module _ (q : rules.Round) where
  abbrev pub cut : rules.Round
  cut = round_of (round_cut q)

  same_listed : length cut.releases ≡ length q.releases
  same_listed = length_rows (λ i. release_of (get_or (release_places q.releases) i no_release)) (length q.releases)

  same_entered : length cut.entries ≡ length q.entries
  same_entered = length_rows (λ i. entry_of (get_or (entry_places q.entries) i no_entry)) (length q.entries)

  releases_within : length q.releases ≤ 64 → cut.releases ≡ q.releases
  releases_within h =
      ap (λ (xs : List rules.Release). rows (λ i. release_of (get_or (pad 64 no_release (map release_as xs)) i no_release)) (length q.releases)) (take_all 64 q.releases h)
      ∙ ap (λ (k : rules.Round). k.releases) (round_there (record { r = 0; releases = q.releases; entries = [] }) h (omega arith))

  entries_within : length q.entries ≤ 15 → cut.entries ≡ q.entries
  entries_within h =
      ap (λ (es : List (Option rules.Report)). rows (λ i. entry_of (get_or (pad 15 no_entry (map entry_as es)) i no_entry)) (length q.entries)) (take_all 15 q.entries h)
      ∙ ap (λ (k : rules.Round). k.entries) (round_there (record { r = 0; releases = []; entries = q.entries }) (omega arith) h)

  -- a record within the places is not cut
  pub within : length q.releases ≤ 64 → length q.entries ≤ 15 → cut ≡ q
  within h k = λ i. record { r = q.r; releases = releases_within h i; entries = entries_within k i }

  -- an entry within the places is the record's own, however many there are
  pub entry_cut : (k : ℕ) → k < 15 → get_or cut.entries k none ≡ get_or q.entries k none
  entry_cut k h = by (lt_or_ge 15 (length q.entries))
    where
      by : (15 < length q.entries) ⊎ (length q.entries ≤ 15) → get_or cut.entries k none ≡ get_or q.entries k none
      by (inl l) =
          let n : length (map entry_as (take 15 q.entries)) ≡ 15 = length-map (take 15 q.entries) entry_as ∙ length-take-le 15 q.entries (omega arith) in
          rows_at (λ i. entry_of (get_or (entry_places q.entries) i no_entry)) (length q.entries) k none (omega arith)
          ∙ ap entry_of (getD_pad 15 no_entry (map entry_as (take 15 q.entries)) k no_entry (omega arith) ∙ get_or-map entry_as (take 15 q.entries) k none)
          ∙ entry_there (get_or (take 15 q.entries) k none)
          ∙ get_or-take 15 q.entries k none h
      by (inr l) = ap (λ (es : List (Option rules.Report)). get_or es k none) (entries_within l)

  -- what reads r alone of a record with a list that is over-long cannot tell the two apart
  alike :
      {A : Type 0} (f : rules.Round → A) (g : ℕ → A) → ((p : rules.Round) → 64 < length p.releases → f p ≡ g p.r) →
      ((p : rules.Round) → length p.releases ≤ 64 → 15 < length p.entries → f p ≡ g p.r) → f cut ≡ f q
  alike f g over_listed over_entered = by (lt_or_ge 64 (length q.releases)) (lt_or_ge 15 (length q.entries))
    where
      by : (64 < length q.releases) ⊎ (length q.releases ≤ 64) → (15 < length q.entries) ⊎ (length q.entries ≤ 15) → f cut ≡ f q
      by (inl h) e = over_listed cut (rw same_listed h) ∙ sym (over_listed q h)
      by (inr l) (inl h) = over_entered cut (rw same_listed l) (rw same_entered h) ∙ sym (over_entered q l h)
      by (inr l) (inr h) = ap f (within l h)

module _ (tab : Table) (few : tab.m ≤ 15) where
  -- 15: "over 64 releases, entry count not m"
  over_listed : (q : rules.Round) → 64 < length q.releases → ill_formed tab q ≡ true
  unfolding ill_formed any_of
  over_listed q h = rw (lt-ltb 64 (length q.releases) h)

  over_entered : (q : rules.Round) → length q.releases ≤ 64 → 15 < length q.entries → ill_formed tab q ≡ true
  unfolding ill_formed any_of
  over_entered q l h =
      let n : length q.entries ≡ tab.m → ⊥ = λ e. omega arith in
      rw (le-ltb 64 (length q.releases) l, ne_eqb (length q.entries) tab.m n)

  module _ (c : Common) where
    abbrev up_to_fifteen : ℕ → Answer Closed
    up_to_fifteen r = refuse 3 if too_late r else refuse 14 if too_soon tab c r else refused 15

    by_fifteen : (q : rules.Round) → ill_formed tab q ≡ true → close tab c q ≡ up_to_fifteen q.r
    unfolding close
    by_fifteen q h = rw h

    pub close_cut : (q : rules.Round) → close tab c (round_of (round_cut q)) ≡ close tab c q
    close_cut q = alike q (close tab c) up_to_fifteen (λ p h. by_fifteen p (over_listed p h)) (λ p l h. by_fifteen p (over_entered p l h))

  -- 13 reads the node's own entry, which lies within the places
  pub node_close_cut : (n : Node) → n.number < tab.m → (q : rules.Round) → node_close tab n (round_of (round_cut q)) ≡ node_close tab n q
  unfolding node_close
  node_close_cut n h q =
      ap₂ (λ (e : Option rules.Report) (a : Answer Closed).
      refuse 5 if left_behind n
      else refuse 12 if other_round n q
      else refuse 13 if maybe true (λ o. not (as_sent o.sent e)) n.round
      else a >>= λ k. done (node_closed tab n q k)) (entry_cut q n.number (omega arith)) (close_cut n.common q)

-- "Write: 15 for those counts"
module _ (lent : List ℕ) where
  write_listed : (q : rules.Round) → 64 < length q.releases → write_record q lent ≡ refused 15
  unfolding write_record
  write_listed q h = rw (lt-ltb 64 (length q.releases) h)

  write_entered : (q : rules.Round) → length q.releases ≤ 64 → 15 < length q.entries → write_record q lent ≡ refused 15
  unfolding write_record
  write_entered q l h = rw (le-ltb 64 (length q.releases) l, lt-ltb 15 (length q.entries) h)

pub write_cut : (q : rules.Round) (lent : List ℕ) → write_record (round_of (round_cut q)) lent ≡ write_record q lent
write_cut q lent = alike q (λ (p : rules.Round). write_record p lent) (λ r. refused 15) (write_listed lent) (write_entered lent)

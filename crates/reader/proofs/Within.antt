-- A record from its time and its two lists: what each of the three leads to.
use mathlib.Core.Path.{◌≡◌, ap}
use mathlib.Core.Option.{Option}
use mathlib.Core.List.{List}
use Prim.Native.Nat.{ℕ, ◌-◌, ◌≤◌}
use native.Mathlib.Omega.{arith}
use lib.ListN.{length, drop, length-drop}
use Rattle.rules.specs.Answer.{done, refused}
use Rattle.rules.specs.Judge as rules
use Rattle.rules.specs.Numbers.{Read, number}
use Rattle.rules.specs.Written.{read_release, read_entry, read_record}
use Rattle.rules.proofs.Reading.{release_takes, entry_takes}
use Rattle.rules.proofs.RoundTrips.{record_round_trips}
use Rattle.std.specs.Prelude as code
use Rattle.laws.specs.Lists.{over}
use Rattle.round.specs.declared.Release.{Release}
use Rattle.round.specs.declared.Report.{Report}
use Rattle.round.specs.declared.Round.{Round}
use Rattle.round.specs.Round.{release_as, entry_as, no_release, no_entry, round_as, blank}
use Rattle.number.specs.Numbers.{placed, number_read}
use Rattle.number.proofs.Told.{Done}
use Rattle.number.proofs.One.{is_bad, is_done}
use Rattle.reader.specs.Records.{list_in, within_read}
use Rattle.reader.specs.Formed.{in_form}
use Rattle.reader.proofs.Lists.{Has, list_bad, list_has}
use Rattle.reader.proofs.Parts.{record_parts}

-- the two lists, read into those of a blank record
module _ (s : List ℕ) (at room : ℕ) {q : Round} (e : q ≡ blank) where
  pub releases_bad : {n : ℕ} → refused n ≡ placed length s (list_in (length q.releases) room (in_form release_as read_release) (drop at s))
      → list_in 64 room read_release (drop at s) ≡ refused n
  releases_bad = list_bad release_as release_takes 64 room no_release s at (ap (λ (q : Round). q.releases) e)

  pub releases_has : {many next : ℕ} {left : List Release}
      → done (many, next) ≡ placed length s (list_in (length q.releases) room (in_form release_as read_release) (drop at s))
      → ((x : Read (List Release)) → list_in (length q.releases) room (in_form release_as read_release) (drop at s) ≡ done x → left ≡ over x.value q.releases)
      → Has release_as read_release 64 room no_release s at left many next
  releases_has = list_has release_as release_takes 64 room no_release s at (ap (λ (q : Round). q.releases) e)

  pub entries_bad : {n : ℕ} → refused n ≡ placed length s (list_in (length q.entries) room (in_form entry_as read_entry) (drop at s))
      → list_in 15 room read_entry (drop at s) ≡ refused n
  entries_bad = list_bad entry_as entry_takes 15 room no_entry s at (ap (λ (q : Round). q.entries) e)

  pub entries_has : {many next : ℕ} {left : List (code.Option Report)}
      → done (many, next) ≡ placed length s (list_in (length q.entries) room (in_form entry_as read_entry) (drop at s))
      → ((x : Read (List (code.Option Report))) → list_in (length q.entries) room (in_form entry_as read_entry) (drop at s) ≡ done x → left ≡ over x.value q.entries)
      → Has entry_as read_entry 15 room no_entry s at left many next
  entries_has = list_has entry_as entry_takes 15 room no_entry s at (ap (λ (q : Round). q.entries) e)

module _ (s : List ℕ) (from j k : ℕ) where
  pub no_time : {n : ℕ} → refused n ≡ number_read s (number (drop from s)) → read_record j k (drop from s) ≡ refused n
  no_time p = rw (record_parts j k (drop from s), is_bad s from p)

  module _ {time at : ℕ} (p : done (time, at) ≡ number_read s (number (drop from s))) where
    pub no_releases : {n : ℕ} → list_in 64 j read_release (drop at s) ≡ refused n → read_record j k (drop from s) ≡ refused n
    no_releases e = rw (record_parts j k (drop from s), is_done s from p, e)

    module _ {xs : List rules.Release} {middle : ℕ} (d : Done s (list_in 64 j read_release (drop at s)) xs middle) where
      pub no_entries : {n : ℕ} → list_in 15 k read_entry (drop middle s) ≡ refused n → read_record j k (drop from s) ≡ refused n
      no_entries e = rw (record_parts j k (drop from s), is_done s from p, d.is, e)

      module _ {es : List (Option rules.Report)} {next : ℕ} (f : Done s (list_in 15 k read_entry (drop middle s)) es next) where
        pub whole : Done s (read_record j k (drop from s)) (record { r = time; releases = xs; entries = es }) next
        whole = record { is = rw (record_parts j k (drop from s), is_done s from p, d.is, f.is); on = f.on }

        pub forward : from ≤ next
        forward = omega (arith, (record_round_trips.alone j k).some_byte (drop from s) whole.is, f.on, length-drop from s, length-drop next s)

        pub read_so : done (round_as (record { r = time; releases = xs; entries = es }), next - from) ≡ within_read j k (drop from s)
        read_so =
            let u : length (drop from s) - length (drop next s) ≡ next - from = omega (arith, forward, f.on, length-drop from s, length-drop next s) in
            rw (whole.is, u)

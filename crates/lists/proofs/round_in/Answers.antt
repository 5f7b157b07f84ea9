-- A record from its lists, a lemma for each way out.
use mathlib.Core.Path.{◌≡◌, sym, ◌∙◌}
use mathlib.Core.Bool.{Bool, true, false}
use mathlib.Core.List.{List}
use Prim.Native.Nat.{ℕ, ◌/◌, ◌%◌}
use borrow.Author.Tests.{eq-eqb, ne_eqb}
use lib.ListN.{length}
use Rattle.laws.specs.Lists.{rows}
use Rattle.laws.proofs.Lists.{length_rows}
use Rattle.std.specs.Prelude as code
use Rattle.std.specs.Prelude.{Result, Ok, Err}
use Rattle.rules.specs.Answer.{done, refused}
use Rattle.round.specs.declared.Release.{Release}
use Rattle.round.specs.declared.Report.{Report}
use Rattle.round.specs.Round.{release_as, entry_as, no_release, no_entry}
use Rattle.lists.specs.Lists.{release_at, entry_at, wrong_mark, releases_at, entries_at, round_at, release_places, entry_places, told_round}
use Rattle.lists.proofs.Places.{formed}
use Rattle.lists.proofs.round_in.Goals.{then-releases-ne0-via-then-releases-ne0, then-releases-ne0-via-else-releases-ne0+then-entries-ne0}
use Rattle.lists.proofs.round_in.Goals as goal

module _ (time : ℕ) (ws vs : List ℕ) where
  releases_long : (length ws % 2 ≡ 0 → ⊥) → refused 100 ≡ told_round (round_at time ws vs)
  unfolding round_at releases_at
  releases_long h = rw (ne_eqb (length ws % 2) 0 h)

  module _ (even : length ws % 2 ≡ 0) where
    entries_long : (length vs % 4 ≡ 0 → ⊥) → refused 100 ≡ told_round (round_at time ws vs)
    unfolding round_at releases_at entries_at
    entries_long h = rw (eq-eqb (length ws % 2) 0 even, ne_eqb (length vs % 4) 0 h)

    module _ (fours : length vs % 4 ≡ 0) {t : Bool} (m : t ≡ wrong_mark vs) where
      marked : t ≡ true → refused 103 ≡ told_round (round_at time ws vs)
      unfolding round_at releases_at entries_at
      marked h = rw (eq-eqb (length ws % 2) 0 even, eq-eqb (length vs % 4) 0 fours, sym m ∙ h)

      whole : t ≡ false → {xs : List Release} → xs ≡ release_places (rows (release_at ws) (length ws / 2))
          → {es : List (code.Option Report)} → es ≡ entry_places (rows (entry_at vs) (length vs / 4))
          → done (record { time = time; listed = length ws / 2; releases = xs; entered = length vs / 4; entries = es }) ≡ told_round (round_at time ws vs)
      unfolding round_at releases_at entries_at
      whole h p q = rw (eq-eqb (length ws % 2) 0 even, eq-eqb (length vs % 4) 0 fours, sym m ∙ h, length_rows (release_at ws) (length ws / 2), length_rows (entry_at vs) (length vs / 4), p, q)

pub returns-then-releases-ne0 : goal.returns-then-releases-ne0
returns-then-releases-ne0 c =
    let a = c.args in
    elim c.then-releases-ne0.branch [
      | then-releases-ne0-via-then-releases-ne0 w ↦ releases_long a.time a.releases.now a.entries.now w.if-releases-ne0.true
      | then-releases-ne0-via-else-releases-ne0+then-entries-ne0 w ↦ entries_long a.time a.releases.now a.entries.now w.if-releases-ne0.false w.if-entries-ne0.true
    ]

pub returns-then-wrong_mark : goal.returns-then-wrong_mark
returns-then-wrong_mark c = search marked

pub returns : goal.returns
returns c =
    let a = c.args in
    whole _ _ _ c.if-releases-ne0.false c.if-entries-ne0.false c.wrong_mark.ensures c.if-wrong_mark.false
    (c.list_in.ensures ∙ formed release_as 64 no_release (release_at a.releases.now) (length a.releases.now / 2))
    (c.list_in-2.ensures ∙ formed entry_as 15 no_entry (entry_at a.entries.now) (length a.entries.now / 4))

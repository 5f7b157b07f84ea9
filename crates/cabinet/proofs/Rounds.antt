-- The lists of a round record as they are lent, at the doors.
use mathlib.Core.Path.{◌≡◌, refl}
use mathlib.Core.List.{List}
use mathlib.Core.Bool.{not}
use Prim.Native.Nat.{ℕ, ◌/◌, ◌%◌}
use lib.ListN.{length}
use Rattle.laws.specs.Tests.{◌=?◌}
use Rattle.laws.specs.Lists.{rows}
use Rattle.rules.specs.Answer.{Answer, done, refused, refused_by}
use Rattle.rules.specs.Judge as rules
use Rattle.refusal.proofs.Answers.{done_same, done_refused}
use Rattle.round.specs.declared.Round.{Round}
use Rattle.lists.specs.Lists.{release_at, releases_at, entry_at, wrong_mark, entries_at, round_at, round_cut, told_round}
use Rattle.cabinet.proofs.Plain.{Plain, plain_done, plain_if, plain_then, plain_bad}

plain_releases : (ws : List ℕ) → Plain (releases_at ws)
unfolding releases_at
plain_releases ws = plain_if 100 (not (length ws % 2 =? 0)) (plain_done (rows (release_at ws) (length ws / 2)))

plain_entries : (ws : List ℕ) → Plain (entries_at ws)
unfolding entries_at
plain_entries ws =
    plain_if 100 (not (length ws % 4 =? 0))
    (plain_if 103 (wrong_mark ws) (plain_done (rows (entry_at ws) (length ws / 4))))

plain_round : (r : ℕ) (ws vs : List ℕ) → Plain (round_at r ws vs)
unfolding round_at
plain_round r ws vs = plain_then (releases_at ws) _ (plain_releases ws) (λ xs. plain_then (entries_at vs) _ (plain_entries vs) (λ es. plain_done _))

module _ (r : ℕ) (ws vs : List ℕ) where
  pub round_found : {x : Round} → done x ≡ told_round (round_at r ws vs) → (q : rules.Round) × (round_at r ws vs ≡ done q) × (x ≡ round_cut q)
  round_found {x} = by (round_at r ws vs)
    where
      by : (a : Answer rules.Round) → done x ≡ told_round a → (q : rules.Round) × (a ≡ done q) × (x ≡ round_cut q)
      by (done q) e = (q, refl, done_same e)
      by (refused n) e = absurd (done_refused e)
      by (refused_by n i) e = absurd (done_refused e)

  pub round_stopped : {n : ℕ} → refused n ≡ told_round (round_at r ws vs) → round_at r ws vs ≡ refused n
  round_stopped = plain_bad round_cut (round_at r ws vs) (plain_round r ws vs)

-- What is tried before anything is judged: "then 3, 14, 15, 16".
use Rattle.std.specs.Prelude.{List, ℕ}
use Rattle.rules.specs.Answer.{Answer, refuse◌if◌else◌}
use Rattle.rules.specs.Table.{Table}
use Rattle.rules.specs.Common.{Common}
use Rattle.rules.specs.Judge.{Round}
use Rattle.rules.specs.Close.{too_late, too_soon, ill_formed}
use Rattle.release.specs.Spacing.{spacing}

-- The E that the list leaves, or the first refusal that fits.
unfoldable pub trial : Table → Common → Round → Answer (List ℕ)
trial tab c q =
    refuse 3 if too_late q.r
    else refuse 14 if too_soon tab c q.r
    else refuse 15 if ill_formed tab q
    else spacing tab q.r c.E q.releases

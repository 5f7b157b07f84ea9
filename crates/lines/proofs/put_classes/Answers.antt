-- The classes put in one by one, a digit each.
use mathlib.Core.Path.{◌≡◌}
use mathlib.Core.List.{List, map}
use Prim.Native.Nat.{ℕ, ◌+◌, ◌<◌}
use native.Mathlib.Omega.{arith}
use lib.ListN.{length, take, set, get_or}
use Rattle.std.proofs.lemmas.List.{map_more}
use Rattle.lines.specs.Text.{Put}
use Rattle.lines.proofs.Putting.{put_more}
use Rattle.lines.proofs.put_classes.Goals as goal

class_put : {buf₀ buf : List ℕ} {from : ℕ} (classes : List ℕ) (k : ℕ) → k < length classes → Put buf₀ from (map (λ d. 48 + d) (take k classes)) buf (from + k)
    → Put buf₀ from (map (λ d. 48 + d) (take (k + 1) classes)) (set buf (from + k) (48 + get_or classes k 0)) (from + (k + 1))
class_put {from = from} classes k h p =
    let e : from + (k + 1) ≡ from + k + 1 = omega arith in
    rw (map_more (λ d. 48 + d) classes k 0 h, e) (put_more (48 + get_or classes k 0) p)

pub loop-k-preserved : goal.loop-k-preserved
loop-k-preserved c = search class_put

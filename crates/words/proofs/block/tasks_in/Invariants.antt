-- The places so far hold the words from the place on.
use Rattle.std.proofs.Common.{◌≡◌, ◌<◌, ℕ, get_or, length}
use Rattle.words.proofs.block.tasks_in.Given as goal

abbrev pub invariant-loop-i : goal.invariant-loop-i
invariant-loop-i l = record {
  places : length l.out ≡ 256;
  copied : (k : ℕ) → k < l.i → get_or l.out k 0 ≡ get_or l.x-items k 0;
}

-- Bytes stored from a place on are what the rules put over the part from there on.
use mathlib.Core.Path.{◌≡◌, ◌∙◌}
use mathlib.Core.List.{List, ◌++◌, append_assoc}
use Prim.Native.Nat.{ℕ, ◌+◌, ◌-◌, ◌≤◌, ◌<◌}
use native.Mathlib.Omega.{arith}
use borrow.Author.Tests.{lt-ltb, le-ltb}
use lib.ListN.{length, take, drop, length-drop}
use lib.Seq.{sets, sets-eq, drop-drop}
use Rattle.laws.specs.Lists.{over}
use Rattle.rules.specs.Answer.{done, refused}
use Rattle.rules.specs.Written.{put}

module _ (bs s : List ℕ) (from : ℕ) where
  pub put_short : length s - from < length bs → put bs (drop from s) ≡ refused 21
  put_short h =
      let l : length (drop from s) < length bs = rw length-drop h in
      rw (lt-ltb (length (drop from s)) (length bs) l)

  module _ (room : from + length bs ≤ length s) where
    pub put_fits : put bs (drop from s) ≡ done (record { buffer = over bs (drop from s); bytes = length bs })
    put_fits =
        let l : length bs ≤ length (drop from s) = rw length-drop (omega arith) in
        rw (le-ltb (length (drop from s)) (length bs) l)

    pub sets_over : sets s from bs ≡ take from s ++ over bs (drop from s)
    sets_over = sets-eq bs s from room ∙ append_assoc (take from s) bs (drop (from + length bs) s) ∙ rw drop-drop

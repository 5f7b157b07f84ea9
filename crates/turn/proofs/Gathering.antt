-- A line at the front of the line buffer, put behind the lines that are gathered.
use mathlib.Core.Path.{◌≡◌, sym, ap, ◌∙◌}
use mathlib.Core.List.{List, map}
use Prim.Native.Nat.{ℕ, ◌+◌, ◌≤◌}
use native.Mathlib.Omega.{arith}
use lib.ListN.{length, take, drop, length-append, length-take, length-map}
use lib.Seq.{take_at}
use Rattle.laws.specs.Lists.{over}
use Rattle.rules.specs.Common as rules
use Rattle.rules.specs.Session.{printed, round}
use Rattle.common.specs.declared.Common.{Common}
use Rattle.common.specs.Common.{job_of, common_of}
use Rattle.lines.specs.Text.{Put, PutWithin, Front}
use Rattle.lines.specs.Lines.{round_text}
use Rattle.lines.proofs.Printed.{round_printed}
use Rattle.turn.specs.Gather.{Countable, Printable}
use Rattle.turn.specs.declared.Turn.{Turn}

module _ {s xs s' : List ℕ} {n : ℕ} (f : Front s xs s' n) (now : length s' ≡ 8192) where
  fits : n ≤ 8192
  fits =
      let l : length s' ≡ length xs + length (drop (length xs) s) = ap length f.content ∙ length-append xs (drop (length xs) s) in
      omega (arith, l, f.count)

  text : take n s' ≡ xs
  text = ap (take n) f.content ∙ take_at xs (drop (length xs) s) n (sym f.count)

  pub may_put : (out : List ℕ) (at : ℕ) → length out ≡ 65536 → at ≤ 57344 → (n ≤ length s') × (at + n ≤ length out)
  may_put out at l h = (omega (arith, fits), omega (arith, fits))

  pub gathered : {out out' : List ℕ} {at r : ℕ} → Put out at (take n s') out' r → PutWithin 8192 out at xs out' r × (s' ≡ over xs s)
  gathered {out} {out'} {at} {r} p =
      let q : Put out at xs out' r = rw text at p in
      (record { put = q; near = omega (arith, q.place, f.count, fits) }, f.content)

-- "L is the last position"
last_is : (c : Common) → Countable c → rules.L (common_of c) ≡ c.base + c.count
last_is c k =
    let e : length (map job_of (take c.count c.tasks)) ≡ c.count = length-map (take c.count c.tasks) job_of ∙ rw length-take (omega (arith, k.places, k.few)) in
    rw e

pub round_front : (x : Turn) (nodes : ℕ) {s s' : List ℕ} {n : ℕ} → Printable nodes x
    → Front s (round_text x.time x.common.offset x.common.base (x.common.base + x.common.count) x.common.start (take nodes x.classes)) s' n
    → Front s (printed (round x.time (common_of x.common) (take nodes x.classes))) s' n
round_front x nodes k f = rw (round_printed x.time (common_of x.common) (take nodes x.classes), last_is x.common k.counts) f

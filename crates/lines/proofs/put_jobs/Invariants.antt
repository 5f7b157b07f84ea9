-- The jobs put in one by one, each in at most 25 bytes.
use Prim.Native.Nat.{◌+◌, ◌*◌}
use lib.ListN.{take}
use Rattle.rules.specs.Session.{jobs_from}
use Rattle.lines.specs.Text.{PutWithin}
use Rattle.lines.specs.Lines.{jobs_of}
use Rattle.lines.proofs.put_jobs.Given as goal

abbrev pub invariant-loop-k : goal.invariant-loop-k
invariant-loop-k l = PutWithin (25 * l.k) l.initial.buf l.from (jobs_from (l.base + 1) (jobs_of (take l.k l.tasks))) l.buf l.at

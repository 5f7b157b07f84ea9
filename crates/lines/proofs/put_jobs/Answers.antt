-- The jobs put in one by one, each in at most 25 bytes.
use Rattle.lines.proofs.Jobs.{jobs_step}
use Rattle.lines.proofs.put_jobs.Goals as goal

pub loop-k-preserved : goal.loop-k-preserved
loop-k-preserved c = jobs_step c.args.base c.args.tasks.now c.loop-k.k c.loop-k-test.true c.loop-k.invariant c.put_job-at.ensures

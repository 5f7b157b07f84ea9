-- The position and the task, a field each.
use Rattle.lines.proofs.Jobs.{job_put}
use Rattle.rules.specs.Session.{ascii}
use Rattle.lines.proofs.put_job.Goals as goal

pub returns : goal.returns
unfolding ascii
returns c = search job_put

-- What a finish in a lent node says, the numbers that it sets, and the node that it leaves.
use Rattle.rules.specs.Answer.{Answer, done, refused, refused_by}
use Rattle.rules.specs.Node as rules
use Rattle.refusal.specs.Refusal.{told_as}
use Rattle.node.specs.declared.Node.{Node}
use Rattle.node.specs.Node.{node_as}
use Rattle.finish.specs.declared.Finished.{Finished}

-- Of the node that is given back, the numbers that a finish sets.
abbrev pub numbers_of : Answer rules.Node → Answer Finished
numbers_of = told_as (λ m. record { progress = m.progress; completed = m.completed; running = m.running; latest = m.latest })

-- The same numbers afterwards, for every answer: where the finish is refused, the node's own.
abbrev pub numbers_left : Node → Answer rules.Node → Finished
numbers_left n (done m) = record { progress = m.progress; completed = m.completed; running = m.running; latest = m.latest }
numbers_left n (refused k) = record { progress = n.progress; completed = n.completed; running = n.running; latest = n.latest }
numbers_left n (refused_by k i) = record { progress = n.progress; completed = n.completed; running = n.running; latest = n.latest }

-- "A refusal gives its number": nothing else is told.
abbrev pub accepted : Answer rules.Node → Answer (Unit {0})
accepted = told_as (λ m. tt)

-- "A refusal gives its number and changes nothing."
abbrev pub left : Node → Answer rules.Node → Node
left n (done m) = node_as m
left n (refused k) = n
left n (refused_by k i) = n

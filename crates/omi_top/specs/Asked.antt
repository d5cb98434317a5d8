-- A request of the program as a command.
use Rattle.std.specs.Prelude.{◌≡◌, ◌≤◌, ℕ, List, IfSome, ⊤}
use Rattle.omi_commands.specs.declared.limits.TheConstants.{MOST_LAYOUT}
use Rattle.omi_top.specs.declared.limits.TheConstants.{MOST_NODES}
use Rattle.omi_top.specs.Command.{Command, Stop, Make, Show, Run, Recode, Elf, Audit, Follow, Faulty}
use Rattle.omi_top.specs.Make.{make_text}
use Rattle.omi_top.specs.declared.plan.Plan.{Plan}
use Rattle.omi_top.specs.declared.command.Request.{Request}
use Rattle.omi_top.specs.declared.command.Request.TheVariants as request

abbrev pub asked : Request → Command
asked (request.Stop plan script core) = Stop plan script.now core.now
asked (request.Make n script) = Make n script.now
asked (request.Show core) = Show core.now
asked (request.Run plan script core) = Run plan script.now core.now
asked (request.Recode order core copy) = Recode order core.now copy.now
asked (request.Elf core copy) = Elf core.now copy.now
asked (request.Audit core) = Audit core.now
asked (request.Follow core later) = Follow core.now later.now
asked request.Faulty = Faulty

-- The layout is one of the families, and the event at which the run stops is the first of its kind or a later one
pub record IsPossible (plan : Plan) : Type 0 where
  pub layout : plan.layout ≤ MOST_LAYOUT
  pub count : IfSome plan.stop.on (λ on. 1 ≤ on.1)

-- N of `make` is in its range
pub record IsNodes (n : ℕ) : Type 0 where
  pub least : 1 ≤ n
  pub most : n ≤ MOST_NODES

-- a text of `make`
abbrev pub IsMadeText : List ℕ → Type 0
IsMadeText text = (n : ℕ) × IsNodes n × (text ≡ make_text n)

-- its numbers are in their ranges
abbrev pub IsBounded : Request → Type 0
IsBounded (request.Stop plan script core) = IsPossible plan
IsBounded (request.Make n script) = IsNodes n
IsBounded (request.Show core) = ⊤
IsBounded (request.Run plan script core) = IsPossible plan
IsBounded (request.Recode order core copy) = order ≤ 1
IsBounded (request.Elf core copy) = ⊤
IsBounded (request.Audit core) = ⊤
IsBounded (request.Follow core later) = ⊤
IsBounded request.Faulty = ⊤

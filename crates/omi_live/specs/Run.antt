-- A run of the threads of a program by a plan: the core that it leaves, and what is printed of it.
use Rattle.std.specs.Prelude.{◌≡◌, ℕ, List}
use Rattle.omi_script.specs.declared.program.Program.{Program}
use Rattle.omi_model.specs.State.{State}
use Rattle.omi_model.specs.Views.{IsViewOf}
use Rattle.omi_model.specs.declared.view.View.{View}
use Rattle.omi_layout.specs.Family.{IsFamily}
use Rattle.omi_word.specs.Words.{words_of}
use Rattle.omi_layout.specs.declared.layout.Layout.{Layout}
use Rattle.omi_rep.specs.Shows.{Shows}
use Rattle.omi_core.specs.declared.thread_run.ThreadRun.{ThreadRun}
use Rattle.omi_corefile.specs.Spelling.{core_bytes}
use Rattle.omi_live.specs.Live.{IsLive}
use Rattle.omi_commands.specs.Cores.{IsReachedCore, thread_ids}
use Rattle.omi_commands.specs.RunLines.{live_text}
use Rattle.omi_live.specs.declared.command.LivePlan.{LivePlan}

-- each state that these words show has the report of this state
abbrev pub HaveReportOf : List ℕ → List ℕ → State → Type 0
HaveReportOf w words s = (t : State) (ids : List ℕ) (v u : View) → Shows w (words_of words) t
    → IsViewOf s ids v → IsViewOf t ids u → u ≡ v

-- There is an order of all steps of the threads, each thread's own in their order, that leads to the words of this core, in the layout of
-- the plan's family. The words show the state that the events reach in this order; they are the printed ones. Each state that the words
-- show has the report of this state, and this is what is shown of the core
pub record IsLiveRun (p : Program) (plan : LivePlan) (core text : List ℕ) : Type 0 where
  pub layout : Layout
  pub family : IsFamily plan.layout p.threads layout.table
  pub words : List ℕ
  pub runs : List ThreadRun
  pub live : IsLive p layout plan.budget plan.on words runs
  pub core_is : core ≡ core_bytes (thread_ids p.threads) words
  pub core_of : IsReachedCore p (thread_ids p.threads) core live.state
  pub text_is : text ≡ live_text runs plan.budget
  pub report : HaveReportOf layout.table words live.state

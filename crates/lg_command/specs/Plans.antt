-- What each mode is made of.
use Rattle.lg_command.specs.declared.command.Mode.{Mode}
use Rattle.lg_command.specs.declared.command.Mode.TheVariants as mode
use Rattle.lg_command.specs.declared.plan.Action.{Action}
use Rattle.lg_command.specs.declared.plan.Action.TheVariants as action
use Rattle.lg_command.specs.declared.plan.Plan.{Plan}
use Rattle.lg_command.specs.declared.plan.Report.{Report}
use Rattle.lg_command.specs.declared.plan.Report.TheVariants as report
use Rattle.lg_command.specs.declared.plan.Source.{Source}
use Rattle.lg_command.specs.declared.plan.Source.TheVariants as source

abbrev pub planned : Source → Action → Report → Plan
planned s a r = record { source = s; action = a; report = r }

-- where its text comes from, what is done, and what is reported besides the answer
abbrev pub plan_of : Mode → Plan
plan_of mode.Run = planned source.File action.Run report.Nothing
plan_of mode.List = planned source.File action.List report.Nothing
plan_of mode.Mean = planned source.File action.Mean report.Nothing
plan_of mode.Gen = planned source.Generator action.Run report.Nothing
plan_of mode.Back = planned source.Listing action.ReadBack report.Nothing
plan_of mode.Profile = planned source.File action.Run report.Profile
plan_of mode.Explain = planned source.File action.Mean report.Explanation

abbrev pub source_of : Mode → Source
source_of m = (plan_of m).source

abbrev pub action_of : Mode → Action
action_of m = (plan_of m).action

abbrev pub report_of : Mode → Report
report_of m = (plan_of m).report

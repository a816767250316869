-- What goes together in the modes.
use Rattle.std.proofs.Common.{◌≡◌, refl}
use Rattle.lg_command.specs.Plans.{action_of, report_of, source_of}
use Rattle.lg_command.specs.declared.command.Mode.{Mode}
use Rattle.lg_command.specs.declared.command.Mode.TheVariants as mode
use Rattle.lg_command.specs.declared.plan.Action.TheVariants as action
use Rattle.lg_command.specs.declared.plan.Report.TheVariants as report
use Rattle.lg_command.specs.declared.plan.Source.TheVariants as source

-- only a listing is read back
pub read_back : (m : Mode) → action_of m ≡ action.ReadBack → source_of m ≡ source.Listing
read_back mode.Back e = refl
read_back m e = cc

-- a profile is of code that runs
pub profile_runs : (m : Mode) → report_of m ≡ report.Profile → action_of m ≡ action.Run
profile_runs mode.Profile e = refl
profile_runs m e = cc

-- what is explained is a file and the run of its meaning
pub explanation_reads : (m : Mode) → report_of m ≡ report.Explanation → source_of m ≡ source.File
explanation_reads mode.Explain e = refl
explanation_reads m e = cc

pub explanation_means : (m : Mode) → report_of m ≡ report.Explanation → action_of m ≡ action.Mean
explanation_means mode.Explain e = refl
explanation_means m e = cc

-- only of a file more is reported than the answer
pub generator_reports : (m : Mode) → source_of m ≡ source.Generator → report_of m ≡ report.Nothing
generator_reports mode.Gen e = refl
generator_reports m e = cc

pub listing_reports : (m : Mode) → source_of m ≡ source.Listing → report_of m ≡ report.Nothing
listing_reports mode.Back e = refl
listing_reports m e = cc

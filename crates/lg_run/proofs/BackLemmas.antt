-- A listing that is refused.
use Rattle.std.proofs.Common.{◌≡◌, ◌≤◌, List, ℕ, Option, Err, length, sym, subst, inr}
use Rattle.std.specs.Prelude.{Result}
use Rattle.lg_back.specs.Answers.{ReadsBack}
use Rattle.lg_back.specs.declared.reader.Back.{Back}
use Rattle.lg_base.specs.declared.refusal.Refusal.{Refusal}
use Rattle.lg_base.specs.declared.refusal.Stop.{Stop}
use Rattle.lg_base.specs.declared.refusal.Stop.TheVariants as stop
use Rattle.lg_command.specs.Commands.{Command}
use Rattle.lg_command.specs.Plans.{source_of}
use Rattle.lg_command.specs.declared.plan.Source.TheVariants as source
use Rattle.lg_io.specs.NamedTexts.{NamedTexts}
use Rattle.lg_run.specs.Refused.{ArgumentsFit, IsRefusedCall, IsRefusedIn, IsRefusedListing, IsTextUnder, most_text}

-- what is read is none
listing_refused : (read : List ℕ) (r : Refusal) (s : Stop) → (let x : Result Back Stop = Err s in ReadsBack read x) → s ≡ stop.Refused r → length read ≤ most_text → IsRefusedListing read r
listing_refused read r s reads is short = let R : Stop → Type 0 = λ t. (let x : Result Back Stop = Err t in ReadsBack read x) in inr (let told = subst R is reads in (short, told.0, told.1))

pub back_refused : (c : Command) (held : Option NamedTexts) (read : List ℕ) (r : Refusal) (s : Stop) → source_of c.mode ≡ source.Listing → ArgumentsFit c → IsTextUnder held c.file read → (let x : Result Back Stop = Err s in ReadsBack read x)
    → length read ≤ most_text → s ≡ stop.Refused r → IsRefusedCall c held r
back_refused c held read r s asked fits under reads short is = inr (fits, subst (λ m. IsRefusedIn m c held r) (sym asked) (read, under, listing_refused read r s reads is short))

-- What the words of the command ask for.
use Rattle.std.specs.Prelude.{◌≡◌, ◌<◌, ◌≤◌, ℕ, ◌^◌, Bool, true, false, ◌&&◌, nat_lt, List, [], ◌∷◌, length, Option, Some, None, codes, unwrap_or, option_map, option_and_then, if◌then◌else◌}
use Rattle.std.specs.Char.{digit_value}
use Rattle.std.specs.Str.{bytes_eq}
use Rattle.std.specs.Str.Parse.{digits_value, without_leading_plus}
use Rattle.clap.specs.Walk.{is_empty}
use Rattle.clap.specs.Words.{Row, Text, matches_of, first_of, one_of, all_of, fault_of}
use Rattle.lg_base.specs.Arguments.{texts_of}
use Rattle.lg_base.specs.declared.target.Target.{Target}
use Rattle.lg_base.specs.declared.target.Target.TheVariants as target
use Rattle.lg_command.specs.Rules.{app}
use Rattle.lg_command.specs.declared.command.Command.{Command as Held}
use Rattle.lg_command.specs.declared.command.Mode.{Mode}
use Rattle.lg_command.specs.declared.command.Mode.TheVariants as mode

-- what is done with the text of a file, for which target, with at most this many steps and this many bytes of code, the seed of the generator, whether the
-- statistics are reported, and the words of the arguments, which begin with the file
pub record Command : Type 0 where
  pub mode : Mode
  pub target : Target
  pub steps : ℕ
  pub size : ℕ
  pub seed : ℕ
  pub stats : Bool
  pub file : Text
  pub arguments : List Text

abbrev pub mode_of : Text → Option Mode
mode_of t = if bytes_eq t (codes "run") then Some mode.Run else (if bytes_eq t (codes "list") then Some mode.List
    else (if bytes_eq t (codes "mean") then Some mode.Mean else (if bytes_eq t (codes "gen") then Some mode.Gen
    else (if bytes_eq t (codes "back") then Some mode.Back else (if bytes_eq t (codes "profile") then Some mode.Profile
    else (if bytes_eq t (codes "explain") then Some mode.Explain else None))))))

abbrev pub target_of : Text → Option Target
target_of t = if bytes_eq t (codes "x86_64") then Some target.X86_64 else (if bytes_eq t (codes "aarch64") then Some target.Aarch64
    else (if bytes_eq t (codes "riscv64") then Some target.Riscv64 else None))

abbrev pub are_digits : Text → Bool
are_digits [] = true
are_digits (c ∷ cs) = nat_lt (digit_value c) 10 && are_digits cs

-- one digit or more, and the number that they write has at most 64 bits
abbrev pub is_number : Text → Bool
is_number t = nat_lt 0 (length t) && are_digits t && nat_lt (digits_value 10 t) (2 ^ 64)

-- the number that a text writes, after a plus or without one, and 0 where it writes none
abbrev pub number_of : Option Text → ℕ
number_of None = 0
number_of (Some t) = let digits = without_leading_plus t in if is_number digits then digits_value 10 digits else 0

-- a flag's value says that it was given
abbrev pub is_told : Option Text → Bool
is_told None = false
is_told (Some t) = bytes_eq t (codes "true")

abbrev pub file_of : List Row → Text
file_of rows = unwrap_or (first_of (codes "FILE") rows) (codes "-")

-- the command of a mode and a target that the values of the other arguments give
abbrev pub command_with : List Row → Mode → Target → Command
command_with rows mode target = record {
  mode = mode;
  target = target;
  steps = number_of (one_of (codes "steps") rows);
  size = number_of (one_of (codes "code") rows);
  seed = number_of (one_of (codes "seed") rows);
  stats = is_told (first_of (codes "stats") rows);
  file = file_of rows;
  arguments = file_of rows ∷ unwrap_or (all_of (codes "ARG") rows) [];
}

-- the command that the values of the arguments give, where the mode and the target are among those that there are
abbrev pub command_of : List Row → Option Command
command_of rows =
    option_and_then (λ m. option_map (command_with rows m) (option_and_then target_of (first_of (codes "target") rows)))
    (option_and_then mode_of (first_of (codes "mode") rows))

-- the command that words ask for, where clap finds no fault in them
unfoldable pub command_in : List Text → Option Command
command_in words = if is_empty (fault_of app words) then command_of (matches_of app words) else None

-- the words ask for this command
abbrev pub IsCommand : List Text → Command → Type 0
IsCommand words command = command_in words ≡ Some command

-- they ask for none: clap finds a fault in them, or the mode or the target is none of those that there are
abbrev pub AreNoCommand : List Text → Type 0
AreNoCommand words = command_in words ≡ None

-- they ask for some command
abbrev pub Takes : List Text → Type 0
Takes words = (c : Command) × IsCommand words c

-- clap reads these values in the words, and finds no fault in them
pub record AreRows (words : List Text) (rows : List Row) : Type 0 where
  pub faultless : fault_of app words ≡ []
  pub are : rows ≡ matches_of app words

-- the numbers are in the ranges of their arguments
pub record AreInRange (rows : List Row) : Type 0 where
  pub steps_least : 1 ≤ number_of (one_of (codes "steps") rows)
  pub steps_most : number_of (one_of (codes "steps") rows) ≤ 1000000000000
  pub size_least : 256 ≤ number_of (one_of (codes "code") rows)
  pub size_most : number_of (one_of (codes "code") rows) ≤ 67108864

-- a command as it is held
abbrev pub shown : Held → Command
shown c = record {
  mode = c.mode;
  target = c.target;
  steps = c.steps;
  size = c.size;
  seed = c.seed;
  stats = c.stats;
  file = c.file.now;
  arguments = texts_of c.arguments.items;
}

-- its numbers are in their ranges, and its arguments begin with the file
pub record IsInRange (c : Held) : Type 0 where
  pub steps_least : 1 ≤ c.steps
  pub steps_most : c.steps ≤ 1000000000000
  pub size_least : 256 ≤ c.size
  pub size_most : c.size ≤ 67108864
  pub seed_most : c.seed < 2 ^ 64
  pub some : 0 < length c.arguments.items

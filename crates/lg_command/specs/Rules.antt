-- The command's arguments, each as a rule of clap.
use Rattle.std.specs.Prelude.{true, List, [], ◌∷◌, Some, codes, fold}
use Rattle.clap.specs.Words.{App, Rule, new_app, new_rule, with_rule}
use Rattle.clap.specs.Lexer.{usize_max}
use Rattle.clap.specs.declared.builder.action.ArgAction.TheVariants.{Set, SetTrue, Append}
use Rattle.clap.specs.declared.builder.value_parser.ValueParser.TheVariants as vp

abbrev pub mode_rule : Rule
mode_rule = record (new_rule (codes "mode")) {
  long = Some (codes "mode");
  action = Some Set;
  defaults = codes "run" ∷ [];
}

abbrev pub target_rule : Rule
target_rule = record (new_rule (codes "target")) {
  long = Some (codes "target");
  action = Some Set;
  defaults = codes "x86_64" ∷ [];
}

abbrev pub steps_rule : Rule
steps_rule = record (new_rule (codes "steps")) {
  long = Some (codes "steps");
  action = Some Set;
  defaults = codes "1000000000" ∷ [];
  parser = Some (vp.Unsigned 1 1000000000000);
}

abbrev pub code_rule : Rule
code_rule = record (new_rule (codes "code")) {
  long = Some (codes "code");
  action = Some Set;
  defaults = codes "1048576" ∷ [];
  parser = Some (vp.Unsigned 256 67108864);
}

abbrev pub seed_rule : Rule
seed_rule = record (new_rule (codes "seed")) {
  long = Some (codes "seed");
  action = Some Set;
  defaults = codes "1" ∷ [];
  parser = Some (vp.Unsigned 0 18446744073709551615);
}

abbrev pub stats_rule : Rule
stats_rule = record (new_rule (codes "stats")) { long = Some (codes "stats"); action = Some SetTrue }

abbrev pub file_rule : Rule
file_rule = record (new_rule (codes "FILE")) { action = Some Set; defaults = codes "-" ∷ [] }

abbrev pub rest_rule : Rule
rest_rule = record (new_rule (codes "ARG")) { action = Some Append; range = Some (record { start_inclusive = 0; end_inclusive = usize_max }) }

-- a command without the flag for help
abbrev pub without_help : App → App
without_help a = record a { top = record a.top { disable_help_flag = true } }

abbrev pub rules : List Rule
rules = mode_rule ∷ target_rule ∷ steps_rule ∷ code_rule ∷ seed_rule ∷ stats_rule ∷ file_rule ∷ rest_rule ∷ []

-- the command, as an app of clap
unfoldable pub app : App
app = fold with_rule (without_help (new_app (codes "lightning"))) rules
